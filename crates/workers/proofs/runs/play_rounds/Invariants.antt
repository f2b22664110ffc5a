use Rattle.std.proofs.Common.{◌≡◌, ◌+◌, List, length, drop}
use Rattle.trace.specs.declared.commands.Command.{Command}
use Rattle.workers.specs.{Collecting.HaveCollected, Runs.AreManned, Runs.HasBegun}
use Rattle.workers.proofs.RunStates.{RunState}
use Rattle.workers.proofs.runs.play_rounds.Given as goal

abbrev pub invariant-loop-i : goal.invariant-loop-i
invariant-loop-i g l = record {
  manned : AreManned l.volume l.team.workers.items;
  gates : length l.team.workers.items + length l.team.collectors.items ≡ length l.fn.gates;
  run : (trace : List Command) → HasBegun l.volume trace l.ends l.fn.team.workers.items
      → RunState l.volume l.patience trace l.fn.team.workers.items (drop l.i l.ends) l.team.workers.items;
  collected : HaveCollected l.fn.team.collectors.items l.team.collectors.items;
}
