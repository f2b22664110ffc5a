use Rattle.std.proofs.Common.{ap, arith, subst}
use Rattle.geometry.specs.Sectors.{Sector}
use Rattle.durable.specs.Updates.{sole}
use Rattle.durable.specs.Flash.{HoldsNewest}
use Rattle.durable.specs.Losses.{IsGapless, version_count}
use Rattle.durable.proofs.Spares.{no_value}
use Rattle.durable.proofs.laws.losses.Goals as goal

pub returns-clause-gap : goal.returns-clause-gap
returns-clause-gap c f v torn version whole =
    let one = whole 0 1 (sole 7) 5 v (omega arith) version in
    let none = ap version_count torn in
    omega (arith, one, none)

pub returns-clause-erased_gap : goal.returns-clause-erased_gap
returns-clause-erased_gap c f v erased version whole =
    let one = whole 0 1 (sole 7) 5 v (omega arith) version in
    let none = ap version_count erased in
    omega (arith, one, none)

pub returns-clause-lost : goal.returns-clause-lost
returns-clause-lost c f v torn newest only values no_loss =
    let there = no_loss 7 1 1 v (omega arith) newest in
    let same = values there.0 there.1 there.2 there.4 in
    let here = only there.0 there.1 (subst (λ (w : Sector). HoldsNewest f 7 w there.0 there.1) same there.4) in
    let one = subst (IsGapless f) here there.3 0 1 newest.newest.held.0 newest.newest.number v (omega arith) newest.newest.held.1 in
    let none = ap version_count torn in
    omega (arith, one, none)

pub returns-clause-trims : goal.returns-clause-trims
returns-clause-trims c f none = (
  (λ s b p v lt shows. absurd (no_value f s (none s) shows.valued)),
  (λ s p v lt shows. absurd (no_value f s (none s) shows.valued)),
  (λ s p v lt shows. absurd (no_value f s (none s) shows.valued)),
)
