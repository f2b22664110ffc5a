use Rattle.std.proofs.Common.{◌≡◌, Some, None}
use Rattle.laws.specs.Steps.{an_owned}
use Rattle.geometry.specs.declared.words.Phase.TheVariants as phase
use Rattle.laws.proofs.tables.blocks_of_a_seat.Goals as goal

pub returns-clause-others : goal.returns-clause-others
returns-clause-others c h = let e : Some (an_owned 3 phase.Open 1 2) ≡ None = h.same 3 in absurd (cc)
