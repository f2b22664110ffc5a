use Rattle.std.proofs.Common.{inl, inr, refl, arith}
use Rattle.durable.proofs.Counts.{counted_none}
use Rattle.durable.proofs.memory.Core.opened.Goals as goal

pub returns-in-Some-copies : goal.returns-in-Some-copies
returns-in-Some-copies c = inl (refl, refl, c.requires.5 c.in-Some-copies.field-0 (inr c.in-Some-copies.is))

pub returns-in-Some-other_empty : goal.returns-in-Some-other_empty
returns-in-Some-other_empty c =
    let core = c.args.self.now in
    let beside = c.in-Some-other_empty.field-0 in
    let other = c.in-Some-other_empty.ensures in
    inl (
      refl,
      refl,
      (
        beside,
        omega (arith, other.0, core.counts_sized),
        other.3,
        other.2,
        counted_none beside core.map.items (omega (arith, core.counted beside other.0, other.1)),
      ),
    )
