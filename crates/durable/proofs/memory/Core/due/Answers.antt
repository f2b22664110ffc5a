use Rattle.std.proofs.Common.{ℕ, refl, ap, arith}
use Rattle.durable.specs.Collecting.{most_copies}
use Rattle.durable.proofs.memory.Core.due.Goals as goal

pub returns : goal.returns
returns c =
    let core = c.args.self.now in
    let same = ap (λ (n : ℕ). most_copies n core.blocks core.pages) c.len.ensures in (
      c.if-not-is_closed.ensures.yes refl,
      omega (arith, c.if-self-le1.false),
      omega (arith, c.if-self-le1-2.false),
      omega (arith, same),
    )
