use Rattle.std.proofs.Common.{ℕ, sym, subst, arith}
use Rattle.durable.specs.declared.extent.Extent.{Extent}
use Rattle.durable.specs.Updates.{array_after}
use Rattle.durable.proofs.Extents.{changed_elsewhere}
use Rattle.nand.specs.Driving.{Knows}
use Rattle.nand.proofs.Driven.{knows_alike}
use Rattle.nand.proofs.driver.Driver.new.Goals as goal

pub returns-clause-holds : goal.returns-clause-holds
returns-clause-holds c f value updates is =
    let none : Extent = record { first = 0; count = 0 } in
    knows_alike f c.args.numbers.items c.args.core c.blocks-used.result c.args.good (array_after updates) _
    (subst (λ (n : ℕ). Knows f c.args.numbers.items c.args.core n c.args.good (array_after updates)) (sym c.blocks-used.ensures) is)
    (λ k. sym (changed_elsewhere (array_after updates) none value k (λ has. omega (arith, has.1))))
