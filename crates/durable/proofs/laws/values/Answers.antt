use Rattle.std.proofs.Common.{Option, inr, false, refl, subst, arith}
use Rattle.std.proofs.lemmas.Grind.{common_steps}
use Rattle.durable.specs.declared.found.Candidate.{Candidate}
use Rattle.durable.specs.Updates.{sole}
use Rattle.durable.specs.Losses.{IsPreferred}
use Rattle.durable.specs.Marks.{is_valued}
use Rattle.durable.specs.Mounting.{TellsValue}
use Rattle.durable.proofs.laws.values.Goals as goal

pub returns-clause-not_read : goal.returns-clause-not_read
returns-clause-not_read c f bytes is told =
    told 1 0 5 bytes (omega arith, inr (refl, omega arith)) (sole 7, is, (omega arith, omega arith))

pub returns-clause-no_value : goal.returns-clause-no_value
returns-clause-no_value c f none told = none told.0 told.1 told.2 told.3 told.5

pub returns-clause-each : goal.returns-clause-each
unfolding is_valued
returns-clause-each c f bytes is told =
    let none : TellsValue f 4 1 1 1 false = told 1 (omega arith) in
    none 1 0 5 bytes (omega arith, inr (refl, omega arith)) (sole 1, is, (omega arith, omega arith))

pub returns-clause-bit : goal.returns-clause-bit
unfolding is_valued
returns-clause-bit c = (refl, refl, refl)

pub returns-clause-kept : goal.returns-clause-kept
unfolding is_valued
returns-clause-kept c x y kept needed = grind (arith, common_steps, needed.0, needed.1 0, needed.1 1)

pub returns-clause-here : goal.returns-clause-here
returns-clause-here c = λ f mount x q v noted below found before there.
    (subst (λ (y : Option Candidate). IsPreferred f mount.pages mount.block mount.page mount.gaps.items 3 y) found (noted.prefers 3 below)).1 q v before there
