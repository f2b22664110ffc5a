use Rattle.std.proofs.Common.{◌≡◌, ◌∙◌, ℕ, Err, sym, ap, subst}
use Rattle.durable.specs.Collecting.{HasCapacity}
use Rattle.durable.specs.declared.fault.MountFault.TheVariants as mount_fault
use Rattle.nand.proofs.Orders.{capacity_of_used}
use Rattle.nand.proofs.asking.mount_after.Goals as goal

pub returns-in-Err-clause-refused : goal.returns-in-Err-clause-refused
returns-in-Err-clause-refused c capacity =
    let shape = c.args.shape in
    let here = capacity_of_used c.args.sectors c.args.good shape.blocks shape.spare_blocks shape.pages capacity in
    let fits = subst (λ (n : ℕ). HasCapacity c.args.sectors n shape.pages) (sym c.used_of-used.ensures.used) here in
    λ e. let is : c.in-Err.why ≡ mount_fault.TooManySectors = cc e in c.begin_over.ensures.refused fits (c.in-Err.is ∙ ap Err is)
