use Rattle.std.{proofs.Common.subst, proofs.Common.sym, specs.List.All}
use Rattle.answers.specs.Answers.{IsPlayable}
use Rattle.runs.proofs.one_thread.run_out.Goals as goal

pub play-requires-clause-playable : goal.play-requires-clause-playable
play-requires-clause-playable g c = subst (λ geo. All (IsPlayable geo) c.in-Ok.commands) (sym c.in-Ok-new.ensures.geometry) c.in-Ok.ensures.playable
