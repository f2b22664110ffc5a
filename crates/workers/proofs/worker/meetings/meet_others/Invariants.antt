use Rattle.std.proofs.Common.{◌≡◌, map}
use Rattle.volume.specs.Volume.{flash_of}
use Rattle.volume.proofs.Looks.{Meets}
use Rattle.workers.specs.Meetings.{passes_of, rest_of}
use Rattle.workers.proofs.worker.meetings.meet_others.Given as goal

abbrev pub invariant-loop-other : goal.invariant-loop-other
invariant-loop-other l = record {
  met : Meets (flash_of l.volume) l.fn.first.pass (passes_of l.fn.others) l.other-index l.first.pass (passes_of l.others);
  first : rest_of l.first ≡ rest_of l.fn.first;
  others : map rest_of l.others ≡ map rest_of l.fn.others;
}
