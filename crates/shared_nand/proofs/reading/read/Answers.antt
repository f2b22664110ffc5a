use Rattle.std.proofs.Common.{◌∙◌, ◌<◌, ◌+◌, Option, IfSome, arith, subst, sym}
use Rattle.version_map.proofs.Steps.{continues_on}
use Rattle.version_map.specs.declared.calls.Place.{Place}
use Rattle.shared_nand.proofs.reading.read.Goals as goal

pub returns-in-Empty-clause-later : goal.returns-in-Empty-clause-later
returns-in-Empty-clause-later g c = continues_on _ _ _ c.look.ensures.later c.loop.invariant.1

pub returns-in-Lost-clause-later : goal.returns-in-Lost-clause-later
returns-in-Lost-clause-later g c = continues_on _ _ _ c.look.ensures.later c.loop.invariant.1

pub returns-in-Unsettled-clause-later : goal.returns-in-Unsettled-clause-later
returns-in-Unsettled-clause-later g c = continues_on _ _ _ c.look.ensures.later c.loop.invariant.1

pub returns-then-fits-clause-later : goal.returns-then-fits-clause-later
returns-then-fits-clause-later g c = continues_on _ _ _ c.look.ensures.later c.loop.invariant.1

pub returns-in-Err-clause-later : goal.returns-in-Err-clause-later
returns-in-Err-clause-later g c = continues_on _ _ _ c.look.ensures.later c.loop.invariant.1

pub loop-preserved : goal.loop-preserved
loop-preserved g c =
    let looked = c.in-Read.ensures.looks (λ e. cc e) in
    let used = looked.0 in
    let made = looked.1 in
    let before = c.loop.invariant.2 in
    let left = c.loop.invariant.5 in (
      c.look.ensures.reader,
      continues_on _ _ _ c.look.ensures.later c.loop.invariant.1,
      omega (arith, made, before),
      subst (λ (found : Option Place). IfSome found (λ _. 0 < c.loop.counter + 1)) (sym c.in-Read.ensures.read.0) (omega arith),
      c.look.ensures.sector ∙ c.loop.invariant.4,
      omega (arith, used, left),
      c.read.ensures.size,
    )
