use Rattle.std.proofs.Common.{◌∙◌, List, Bool, ℕ, refl, sym, ap, arith, subst, length}
use Rattle.nand.specs.Histories.{Leads}
use Rattle.nand.specs.Opened.{CanOpen, HasFailed}
use Rattle.nand.proofs.Histories.{leads_more, one_longer}
use Rattle.nand.proofs.layer.Durable.make_all.Goals as goal

pub loop-i-init : goal.loop-i-init
loop-i-init g c = record {
  sectors = c.in_ok-layer.ensures.chip.3;
  shape = c.in_ok-layer.ensures.chip.1;
  made = ap length c.requires.none;
  leads = λ before is. (
    before,
    subst (λ (outcomes : List Bool).
        Leads (HasFailed g.N.Nand.flash g.N.Nand.shape g.N.Nand.bad g.N.Nand.faults) c.args.changes.now outcomes before before) (sym c.requires.none) refl,
    c.in_ok-layer.ensures.«open» before is,
  );
}

pub returns-in-Err-clause-back : goal.returns-in-Err-clause-back
returns-in-Err-clause-back g c before is =
    let inv = c.loop-i.invariant in
    let leads = inv.leads before is in (
      leads.0,
      subst (λ (outcomes : List Bool).
          Leads (HasFailed g.N.Nand.flash g.N.Nand.shape g.N.Nand.bad g.N.Nand.faults) c.args.changes.now outcomes before leads.0)
          (sym c.in-Err.ensures.items) leads.1,
      subst (λ (n : ℕ). CanOpen g.N.Nand.flash g.N.Nand.shape g.N.Nand.bad c.into_nand.result n leads.0) inv.sectors (c.into_nand.ensures.left leads.0 leads.2),
    )

pub returns-in-Err-make_or_reopen-clause-back : goal.returns-in-Err-make_or_reopen-clause-back
returns-in-Err-make_or_reopen-clause-back g c before is =
    let inv = c.loop-i.invariant in
    let leads = inv.leads before is in
    let back = c.in-Err-make_or_reopen.ensures.back leads.0 leads.2 in (
      back.0,
      leads_more (HasFailed g.N.Nand.flash g.N.Nand.shape g.N.Nand.bad g.N.Nand.faults) c.args.changes.now
          c.loop-i.acknowledged.items c.push.new.self.items c.loop-i.i c.index-changes-i.result
          c.make_or_reopen.new.acknowledged before leads.0 back.0 leads.1 c.in_default.ensures.items inv.made
          (omega (arith, c.loop-i-test.true, c.loop-i.auto.i-end)) c.index-changes-i.is back.1
          (c.in-Err-make_or_reopen.ensures.failed leads.0 leads.2),
      subst (λ (n : ℕ). CanOpen g.N.Nand.flash g.N.Nand.shape g.N.Nand.bad c.in-Err-make_or_reopen.refused.nand n back.0) inv.sectors back.2,
    )

pub loop-i-preserved : goal.loop-i-preserved
loop-i-preserved g c =
    let inv = c.loop-i.invariant in
    record {
      sectors = c.in-Ok.ensures.device.0 ∙ inv.sectors;
      shape = c.in-Ok.ensures.device.1 ∙ inv.shape;
      made = one_longer c.loop-i.acknowledged.items c.push.new.self.items c.loop-i.i c.make_or_reopen.new.acknowledged
          c.in_default.ensures.items inv.made;
      leads = λ before is.
          let leads = inv.leads before is in
          let more = c.in-Ok.ensures.«open» leads.0 leads.2 in (
            more.0,
            leads_more (HasFailed g.N.Nand.flash g.N.Nand.shape g.N.Nand.bad g.N.Nand.faults) c.args.changes.now
                c.loop-i.acknowledged.items c.push.new.self.items c.loop-i.i c.index-changes-i.result
                c.make_or_reopen.new.acknowledged before leads.0 more.0 leads.1 c.in_default.ensures.items inv.made
                (omega (arith, c.loop-i-test.true, c.loop-i.auto.i-end)) c.index-changes-i.is more.1
                (c.in-Ok.ensures.failed leads.0 leads.2),
            more.2,
          );
    }
