use Rattle.std.proofs.Common.{◌∷◌, ◌∙◌, ℕ, false, Err, IfErr, refl, ap, subst}
use Rattle.nand.specs.Histories.{update_by}
use Rattle.nand.proofs.Histories.{LeavesChip, comes_back, opens, reopens}
use Rattle.nand.proofs.layer.Durable.make_or_reopen.Goals as goal

pub returns-in-Ok-clause-open : goal.returns-in-Ok-clause-open
returns-in-Ok-clause-open g c updates is = (update_by c.args.change.now ∷ updates, refl, c.in-Ok.ensures.acknowledged updates is)

pub returns-in-Err-clause-open : goal.returns-in-Err-clause-open
returns-in-Err-clause-open g c updates is =
    let sectors = c.sectors-sectors.ensures ∙ c.make.ensures.device.sectors in
    opens g.N.Nand.flash g.N.Nand.shape g.N.Nand.bad (update_by c.args.change.now) updates c.into_nand.result c.sectors-sectors.result c.open.result
    (reopens g.N.Nand.flash g.N.Nand.shape g.N.Nand.bad c.args.self c.make.new.self c.into_nand.result (update_by c.args.change.now) updates c.in-Err.field-0
    c.sectors-sectors.result sectors c.into_nand.ensures.chip (c.in-Err.ensures.fails updates is))
    c.open.ensures.«open»

pub returns-in-Err-clause-back : goal.returns-in-Err-clause-back
returns-in-Err-clause-back g c updates is =
    let sectors = c.sectors-sectors.ensures ∙ c.make.ensures.device.sectors in
    subst (λ (n : ℕ). IfErr c.open.result (LeavesChip g.N.Nand.flash g.N.Nand.shape g.N.Nand.bad (update_by c.args.change.now) updates false n)) sectors
    (comes_back g.N.Nand.flash g.N.Nand.shape g.N.Nand.bad (update_by c.args.change.now) updates c.into_nand.result c.sectors-sectors.result c.open.result
    (reopens g.N.Nand.flash g.N.Nand.shape g.N.Nand.bad c.args.self c.make.new.self c.into_nand.result (update_by c.args.change.now) updates c.in-Err.field-0
    c.sectors-sectors.result sectors c.into_nand.ensures.chip (c.in-Err.ensures.fails updates is))
    c.open.ensures.back)

pub returns-in-Err-clause-failed : goal.returns-in-Err-clause-failed
returns-in-Err-clause-failed g c updates is told = record {
  old = c.args.self;
  new = c.make.new.self;
  cause = c.in-Err.field-0;
  holds = is;
  fails = c.in-Err.ensures.fails updates is;
  true = c.in-Err.ensures.cause;
  written = λ written. c.in-Err.ensures.overwrites (ap Err written);
}
