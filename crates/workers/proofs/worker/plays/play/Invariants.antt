use Rattle.std.proofs.Common.{◌≡◌, length, map, take}
use Rattle.std.specs.Prelude.{All}
use Rattle.flash_table.specs.Flash.{geometry_of}
use Rattle.volume.specs.Volume.{flash_of}
use Rattle.rounds.specs.Lines.{said}
use Rattle.workers.specs.Playable.{HasPage}
use Rattle.workers.proofs.PlayedLines.{Playing}
use Rattle.workers.proofs.worker.plays.play.Given as goal

abbrev pub invariant-loop-i : goal.invariant-loop-i
invariant-loop-i g l =
    Playing l.volume l.patience l.fn.pass l.lines l.i l.pass (map said (take l.i l.answers)) × (length l.answers ≡ length l.lines)
    × All (HasPage (geometry_of (flash_of l.volume))) l.answers
