use Rattle.std.proofs.Common.{◌∙◌, ◌∷◌, List, refl, sym, ap, subst}
use Rattle.durable.specs.Choice.{Spends, left}
use Rattle.durable.specs.Device.{Device, NamesOn, device_of}
use Rattle.durable.specs.Flash.{Flash}
use Rattle.durable.specs.Promise.{IsConsistent, IsRecoverable}
use Rattle.durable.specs.Updates.{Update}
use Rattle.durable.proofs.Promises.{completes_cut}
use Rattle.nand.specs.Nand.{value_with}
use Rattle.nand.specs.Numbers.{numbered}
use Rattle.nand.specs.Opened.{IsOpenLayer, layer_sectors, most_used, update_of}
use Rattle.nand.proofs.Programs.{adds_version, none_new, none_spent, still_none, still_spent}
use Rattle.nand.proofs.Replacing.{blank_after, blank_there, good_there}
use Rattle.nand.proofs.Steps.{adds, keeps, moved, same_number, same_order}
use Rattle.nand.proofs.layer.Durable.attempt.Goals as goal
use Rattle.nand.proofs.layer.Durable.attempt.Goals.{in-Refused, in_default}

pub loop-self-init : goal.loop-self-init
loop-self-init g c = record {
  mounted = refl;
  shape = refl;
  bad = refl;
  device = refl;
  losses = refl;
  number = refl;
  faults = λ cause. refl;
  spent = none_spent (g.N.Nand.tally c.args.self.now.nand) (device_of c.args.self.now.core).pages (left c.args.self.now.core);
  good = refl;
  order = λ updates h. h.order;
  blank = λ updates h. h.blank;
  had = λ updates h. none_new (g.N.Nand.flash c.args.self.now.nand) (g.N.Nand.flash c.args.self.now.nand) refl;
  consistent = λ updates h. h.consistent;
}

pub returns-then-matches-clause-leaves : goal.returns-then-matches-clause-leaves
returns-then-matches-clause-leaves g c updates h =
    let inv = c.loop-self.invariant in
    let was = c.args.self.now.nand in
    let now = c.loop-self.self.nand in
    record {
      mounted = inv.mounted ∙ h.mounted;
      order = inv.order updates h;
      device = moved c.args.self.now.core c.loop-self.self.core (g.N.Nand.shape was) (g.N.Nand.shape now) (g.N.Nand.bad was) (g.N.Nand.bad now)
          inv.device h.device inv.shape inv.bad;
      good = good_there c.args.self.now.good c.loop-self.self.good (g.N.Nand.shape was) (g.N.Nand.shape now) (g.N.Nand.bad was) (g.N.Nand.bad now)
          inv.good inv.shape inv.bad h.good;
      blank = inv.blank updates h;
      consistent = inv.consistent updates h;
    }

pub returns-in-Err-clause-leaves : goal.returns-in-Err-clause-leaves
returns-in-Err-clause-leaves g c updates h =
    let inv = c.loop-self.invariant in
    let numbers = c.loop-self.self.numbers.items in
    let sectors = layer_sectors c.loop-self.self in
    let was = c.args.self.now.nand in
    let mid = c.loop-self.self.nand in
    let now = c.perform.new.nand in
    let f = numbered numbers (g.N.Nand.flash mid) in
    let t = numbered numbers (g.N.Nand.flash now) in
    let value = value_with c.args.trimmed c.args.main.now in
    let update = update_of c.args.extent value in
    let consistent = inv.consistent updates h in
    let order = inv.order updates h in
    let safe = c.next-command.ensures.safe f updates updates consistent in
    let does = rw c.deref.ensures.value at c.in-Err.ensures.does in
    let cut = (does (g.N.Nand.bad mid) (g.N.Nand.shape mid).blocks (most_used (g.N.Nand.shape mid) sectors) order safe.1).1 in
    let device = moved c.args.self.now.core c.loop-self.self.core (g.N.Nand.shape was) (g.N.Nand.shape mid) (g.N.Nand.bad was) (g.N.Nand.bad mid)
    inv.device h.device inv.shape inv.bad in
    let device_now = moved c.args.self.now.core c.loop-self.self.core (g.N.Nand.shape was) (g.N.Nand.shape now) (g.N.Nand.bad was) (g.N.Nand.bad now)
    inv.device h.device (c.perform.ensures.shape ∙ inv.shape) (c.perform.ensures.bad ∙ inv.bad) in
    let names = subst (λ (d : Device). NamesOn d c.next-command.result) device safe.0 in
    let blank = blank_after (g.N.Nand.flash mid) (g.N.Nand.flash now) (g.N.Nand.shape mid) (g.N.Nand.bad mid) numbers sectors
    c.next-command.result c.args.extent value order names cut (inv.blank updates h) in
    let there = λ (flash : Flash). blank_there flash flash (g.N.Nand.shape mid) (g.N.Nand.shape now) (g.N.Nand.bad mid) (g.N.Nand.bad now) sectors sectors
    refl c.perform.ensures.shape c.perform.ensures.bad refl in
    record {
      closed = refl;
      order = same_order numbers (g.N.Nand.shape mid) (g.N.Nand.shape now) (g.N.Nand.bad mid) (g.N.Nand.bad now) sectors sectors c.perform.ensures.shape
          c.perform.ensures.bad refl order;
      device = device_now;
      good = good_there c.args.self.now.good c.loop-self.self.good (g.N.Nand.shape was) (g.N.Nand.shape now) (g.N.Nand.bad was) (g.N.Nand.bad now)
          inv.good (c.perform.ensures.shape ∙ inv.shape) (c.perform.ensures.bad ∙ inv.bad) h.good;
      before = g.N.Nand.flash mid;
      blank_before = there (g.N.Nand.flash mid) (inv.blank updates h);
      known = consistent;
      next = c.next-command.ensures.next;
      some = λ e. elim c.match-matches.branch [
        | in-Refused w ↦ absurd (cc (sym w.matches-is ∙ c.if-matches.false))
        | in_default w ↦ w.in_default.not-Refused e
      ];
      cut = cut;
      blank = there (g.N.Nand.flash now) blank;
      recovers = subst (λ (d : Device). IsRecoverable t d updates (update ∷ updates)) device_now
          (c.next-command.ensures.cut f t value updates updates consistent cut);
    }

pub returns-then-is_last-clause-acknowledged : goal.returns-then-is_last-clause-acknowledged
returns-then-is_last-clause-acknowledged g c updates h =
    let inv = c.loop-self.invariant in
    let numbers = c.loop-self.self.numbers.items in
    let was = c.args.self.now.nand in
    let mid = c.loop-self.self.nand in
    let now = c.perform.new.nand in
    let f = numbered numbers (g.N.Nand.flash mid) in
    let t = numbered numbers (g.N.Nand.flash now) in
    let value = value_with c.args.trimmed c.args.main.now in
    let update : Update = record { extent = c.args.extent; value = value } in
    let consistent = inv.consistent updates h in
    let order = inv.order updates h in
    let safe = c.next-command.ensures.safe f updates updates consistent in
    let does = rw c.deref.ensures.value at c.in_default-perform.ensures.does in
    let completes = (does (g.N.Nand.bad mid) (g.N.Nand.shape mid).blocks (most_used (g.N.Nand.shape mid) (layer_sectors c.loop-self.self)) order safe.1).0 in
    let device = moved c.args.self.now.core c.loop-self.self.core (g.N.Nand.shape was) (g.N.Nand.shape mid) (g.N.Nand.bad was) (g.N.Nand.bad mid)
    inv.device h.device inv.shape inv.bad in
    let blank = blank_after (g.N.Nand.flash mid) (g.N.Nand.flash now) (g.N.Nand.shape mid) (g.N.Nand.bad mid) numbers (layer_sectors c.loop-self.self)
    c.next-command.result c.args.extent value order (subst (λ (d : Device). NamesOn d c.next-command.result) device safe.0)
    (completes_cut f t c.next-command.result c.args.extent value completes) (inv.blank updates h) in
    let last = sym c.is_last.ensures ∙ c.if-is_last.true in
    record {
      mounted = inv.mounted ∙ h.mounted;
      order = same_order numbers (g.N.Nand.shape mid) (g.N.Nand.shape now) (g.N.Nand.bad mid) (g.N.Nand.bad now) (layer_sectors c.loop-self.self) _
          c.perform.ensures.shape c.perform.ensures.bad (ap (λ (d : Device). d.sectors) c.done.ensures.device) order;
      device = moved c.args.self.now.core c.done.new.self (g.N.Nand.shape was) (g.N.Nand.shape now) (g.N.Nand.bad was) (g.N.Nand.bad now)
          (c.done.ensures.device ∙ inv.device) h.device (c.perform.ensures.shape ∙ inv.shape) (c.perform.ensures.bad ∙ inv.bad);
      good = good_there c.args.self.now.good c.loop-self.self.good (g.N.Nand.shape was) (g.N.Nand.shape now) (g.N.Nand.bad was) (g.N.Nand.bad now)
          inv.good (c.perform.ensures.shape ∙ inv.shape) (c.perform.ensures.bad ∙ inv.bad) h.good;
      blank = blank_there (g.N.Nand.flash now) (g.N.Nand.flash now) (g.N.Nand.shape mid) (g.N.Nand.shape now) (g.N.Nand.bad mid) (g.N.Nand.bad now)
          (layer_sectors c.loop-self.self) _ refl c.perform.ensures.shape c.perform.ensures.bad
          (ap (λ (d : Device). d.sectors) c.done.ensures.device) blank;
      consistent = subst (λ (us : List Update). IsConsistent t c.done.new.self us us) (adds c.next-command.result update updates last)
          (c.done.ensures.acknowledges f t value updates updates consistent completes);
    }

pub returns-then-is_last-clause-adds : goal.returns-then-is_last-clause-adds
returns-then-is_last-clause-adds g c updates h =
    let inv = c.loop-self.invariant in
    let numbers = c.loop-self.self.numbers.items in
    let mid = c.loop-self.self.nand in
    let now = c.perform.new.nand in
    let value = value_with c.args.trimmed c.args.main.now in
    let order = inv.order updates h in
    let safe = c.next-command.ensures.safe (numbered numbers (g.N.Nand.flash mid)) updates updates (inv.consistent updates h) in
    let does = rw c.deref.ensures.value at c.in_default-perform.ensures.does in
    let completes = (does (g.N.Nand.bad mid) (g.N.Nand.shape mid).blocks (most_used (g.N.Nand.shape mid) (layer_sectors c.loop-self.self)) order safe.1).0 in
    adds_version (g.N.Nand.flash c.args.self.now.nand) (g.N.Nand.flash mid) (g.N.Nand.flash now) numbers (g.N.Nand.bad mid)
    (g.N.Nand.shape mid).blocks (most_used (g.N.Nand.shape mid) (layer_sectors c.loop-self.self)) order (inv.had updates h) c.next-command.result
    c.loop-self.self.core _ (update_of c.args.extent value)
    (sym c.is_last.ensures ∙ c.if-is_last.true) c.next-command.ensures.next inv.number completes

pub loop-self-preserved : goal.loop-self-preserved
loop-self-preserved g c =
    let inv = c.loop-self.invariant in
    let numbers = c.loop-self.self.numbers.items in
    let was = c.args.self.now.nand in
    let mid = c.loop-self.self.nand in
    let now = c.perform.new.nand in
    let f = numbered numbers (g.N.Nand.flash mid) in
    let t = numbered numbers (g.N.Nand.flash now) in
    let value = value_with c.args.trimmed c.args.main.now in
    let update : Update = record { extent = c.args.extent; value = value } in
    let others = sym c.is_last.ensures ∙ c.if-is_last.false in
    let does = rw c.deref.ensures.value at c.in_default-perform.ensures.does in
    let completes = λ (updates : List Update) (h : IsOpenLayer g.N.Nand.flash g.N.Nand.shape g.N.Nand.bad c.args.self.now updates).
    (does (g.N.Nand.bad mid) (g.N.Nand.shape mid).blocks (most_used (g.N.Nand.shape mid) (layer_sectors c.loop-self.self)) (inv.order updates h)
    (c.next-command.ensures.safe f updates updates (inv.consistent updates h)).1).0 in
    record {
      mounted = inv.mounted;
      shape = c.perform.ensures.shape ∙ inv.shape;
      bad = c.perform.ensures.bad ∙ inv.bad;
      device = c.done.ensures.device ∙ inv.device;
      losses = c.done.ensures.losses ∙ inv.losses;
      number = c.done.ensures.number ∙ (same_number c.next-command.result c.loop-self.self.core.next_number others ∙ inv.number);
      spent =
          let old = left c.loop-self.self.core in
          let new = left c.done.new.self in
          still_spent (g.N.Nand.tally was) (g.N.Nand.tally mid) (g.N.Nand.tally now) c.next-command.result (device_of c.args.self.now.core).pages old new
          others inv.spent c.in_default-perform.ensures.tally.0
          (subst (λ (d : Device). Spends c.next-command.result d.pages old new) inv.device c.done.ensures.spends);
      faults = λ cause. c.in_default-perform.ensures.cause.0 cause ∙ inv.faults cause;
      good = inv.good;
      order = λ updates h. same_order numbers (g.N.Nand.shape mid) (g.N.Nand.shape now) (g.N.Nand.bad mid) (g.N.Nand.bad now)
          (layer_sectors c.loop-self.self) _ c.perform.ensures.shape c.perform.ensures.bad (ap (λ (d : Device). d.sectors) c.done.ensures.device)
          (inv.order updates h);
      blank = λ updates h.
          let device = moved c.args.self.now.core c.loop-self.self.core (g.N.Nand.shape was) (g.N.Nand.shape mid) (g.N.Nand.bad was) (g.N.Nand.bad mid)
          inv.device h.device inv.shape inv.bad in
          let names = subst (λ (d : Device). NamesOn d c.next-command.result) device
          (c.next-command.ensures.safe f updates updates (inv.consistent updates h)).0 in
          blank_there (g.N.Nand.flash now) (g.N.Nand.flash now) (g.N.Nand.shape mid) (g.N.Nand.shape now) (g.N.Nand.bad mid) (g.N.Nand.bad now)
          (layer_sectors c.loop-self.self) _ refl c.perform.ensures.shape c.perform.ensures.bad (ap (λ (d : Device). d.sectors) c.done.ensures.device)
          (blank_after (g.N.Nand.flash mid) (g.N.Nand.flash now) (g.N.Nand.shape mid) (g.N.Nand.bad mid) numbers (layer_sectors c.loop-self.self)
          c.next-command.result c.args.extent value (inv.order updates h) names
          (completes_cut f t c.next-command.result c.args.extent value (completes updates h)) (inv.blank updates h));
      had = λ updates h. still_none (g.N.Nand.flash was) (g.N.Nand.flash mid) (g.N.Nand.flash now) numbers (g.N.Nand.bad mid)
          (g.N.Nand.shape mid).blocks (most_used (g.N.Nand.shape mid) (layer_sectors c.loop-self.self)) (inv.order updates h) (inv.had updates h)
          c.next-command.result c.args.extent value others (completes updates h);
      consistent = λ updates h.
          subst (λ (us : List Update). IsConsistent t c.done.new.self us us) (keeps c.next-command.result update updates others)
          (c.done.ensures.acknowledges f t value updates updates (inv.consistent updates h) (completes updates h));
    }
