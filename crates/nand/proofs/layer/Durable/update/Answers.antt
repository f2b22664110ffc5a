use Rattle.std.proofs.Common.{◌≡◌, ◌∙◌, inl, inr, ◌+◌, ◌-◌, ◌%◌, ◌^◌, ◌≤◌, ℕ, Bool, List, Err, refl, sym, ap, subst, arith}
use Rattle.durable.specs.Device.{Device}
use Rattle.durable.specs.Updates.{Update}
use Rattle.nand.specs.Attempts.{CountsStop, Leaves}
use Rattle.nand.specs.Nand.{value_with}
use Rattle.nand.specs.Numbers.{good_before, is_marked}
use Rattle.nand.specs.Opened.{CanOpen, IsOpenLayer, layer_sectors, most_used, update_of}
use Rattle.nand.specs.declared.failure.Failure.TheVariants as failure
use Rattle.nand.specs.declared.flash.Fault.TheVariants as fault
use Rattle.nand.specs.declared.flash.Shape.{Shape}
use Rattle.nand.specs.declared.updating.Stop.{Stop}
use Rattle.nand.specs.declared.updating.Stop.TheVariants as stop
use Rattle.nand.specs.Programs.{TalliesMoves, TalliesOnce}
use Rattle.nand.specs.declared.flash.Tally.{Tally}
use Rattle.nand.proofs.Programs.{adds_there, moves_more, moves_none}
use Rattle.nand.proofs.Replacing.{all_in_use, either, open_once, opens_once, settles, settles_made, stopped}
use Rattle.nand.proofs.Steps.{fails_open, left_open, not_failed, not_lost, not_refused, power_gone}
use Rattle.nand.proofs.layer.Durable.update.Goals as goal

pub loop-self-init : goal.loop-self-init
loop-self-init g c = record {
  counted = omega arith;
  number = omega arith;
  sectors = refl;
  shape = refl;
  marks = λ b is. is;
  power = refl;
  failures = omega arith;
  first = λ none. (refl, refl, refl, refl);
  losses = refl;
  programmed = refl;
  holds = λ updates h. (
    updates,
    inl refl,
    h,
    omega arith,
    λ none. refl,
    moves_none (g.N.Nand.tally c.args.self.now.nand) (g.N.Nand.shape c.args.self.now.nand).pages,
  );
}

pub returns-in-Ok-clause-acknowledged : goal.returns-in-Ok-clause-acknowledged
returns-in-Ok-clause-acknowledged g c updates h =
    let update = update_of c.args.extent (value_with c.args.trimmed c.args.main.now) in
    let holds = c.loop-self.invariant.holds updates h in
    settles_made (λ (us : List Update). IsOpenLayer g.N.Nand.flash g.N.Nand.shape g.N.Nand.bad c.attempt.new.self us) update updates holds.0
    (open_once g.N.Nand.flash g.N.Nand.shape g.N.Nand.bad c.attempt.new.self update updates) holds.1
    (c.in-Ok.ensures.acknowledged holds.0 holds.2)

pub returns-in-Ok-clause-marks : goal.returns-in-Ok-clause-marks
returns-in-Ok-clause-marks g c updates h =
    let was = c.args.self.now.nand in
    let blocks = (g.N.Nand.shape was).blocks in
    let holds = c.loop-self.invariant.holds updates h in
    let marked : c.loop-self.failed ≡ good_before (g.N.Nand.bad was) blocks - good_before (g.N.Nand.bad c.attempt.new.self.nand) blocks =
    omega (arith, holds.3, ap (λ (m : List Bool). good_before m blocks) c.attempt.ensures.bad) in
    ap (λ (n : ℕ). n % 2 ^ 64) (c.in-Ok.ensures.counts fault.Failed) ∙ (c.loop-self.invariant.failures
    ∙ ap (λ (n : ℕ). (g.N.Nand.faults was fault.Failed + n) % 2 ^ 64) marked)

pub returns-in-Ok-clause-once : goal.returns-in-Ok-clause-once
returns-in-Ok-clause-once g c updates h =
    let inv = c.loop-self.invariant in
    let holds = inv.holds updates h in
    let was = c.args.self.now.nand in
    let blocks = (g.N.Nand.shape was).blocks in
    let pages = (g.N.Nand.shape was).pages in
    let last = g.N.Nand.tally c.attempt.new.self.nand in
    let once = subst (λ (n : ℕ). TalliesOnce (g.N.Nand.tally c.loop-self.self.nand) last 1 n)
    (ap (λ (d : Device). d.pages) holds.2.device ∙ ap (λ (s : Shape). s.pages) inv.shape) c.in-Ok.ensures.tally in
    let marked : c.loop-self.failed ≡ good_before (g.N.Nand.bad was) blocks - good_before (g.N.Nand.bad c.attempt.new.self.nand) blocks =
    omega (arith, holds.3, ap (λ (m : List Bool). good_before m blocks) c.attempt.ensures.bad) in (
      λ none.
          let zero : c.loop-self.failed ≡ 0 =
          omega (arith, holds.3, ap (λ (m : List Bool). good_before m blocks) (sym c.attempt.ensures.bad ∙ none)) in
          let first = inv.first zero in
          adds_there (g.N.Nand.flash was) (g.N.Nand.flash c.loop-self.self.nand) (g.N.Nand.flash c.attempt.new.self.nand) _ _
          (update_of c.args.extent (value_with c.args.trimmed c.args.main.now)) first.3 first.2 (c.in-Ok.ensures.adds holds.0 holds.2),
      (
        once.0 ∙ ap (λ (n : ℕ). (n + 1) % 2 ^ 64) inv.programmed,
        subst (λ (n : ℕ). TalliesMoves (g.N.Nand.tally was) last (n + 1) pages) marked (moves_more holds.5 once.1),
      ),
    )

pub returns-then-failed-eq0-clause-fails : goal.returns-then-failed-eq0-clause-fails
returns-then-failed-eq0-clause-fails g c updates h =
    let inv = c.loop-self.invariant in
    let update = update_of c.args.extent (value_with c.args.trimmed c.args.main.now) in
    let new = c.attempt.new.self in
    let holds = inv.holds updates h in
    let there = subst (λ (s : Stop). Leaves g.N.Nand.flash g.N.Nand.shape g.N.Nand.bad new update holds.0 s) c.in-Err-NoNumber.field-0-is
    (c.in-Err-NoNumber.ensures.leaves holds.0 holds.2) in
    let is = subst (λ (us : List Update). IsOpenLayer g.N.Nand.flash g.N.Nand.shape g.N.Nand.bad new us) (holds.4 c.if-failed-eq0.true) there in
    fails_open g.N.Nand.flash g.N.Nand.shape g.N.Nand.bad c.args.self.now new update updates failure.NoNumber is
    (c.attempt.ensures.sectors ∙ inv.sectors) (λ e. cc e) (λ e. cc e)

pub returns-in-Err-NoNumber-clause-fails : goal.returns-in-Err-NoNumber-clause-fails
returns-in-Err-NoNumber-clause-fails g c updates h =
    let inv = c.loop-self.invariant in
    let update = update_of c.args.extent (value_with c.args.trimmed c.args.main.now) in
    let new = c.attempt.new.self in
    let sectors = c.attempt.ensures.sectors ∙ inv.sectors in
    let holds = inv.holds updates h in
    let there = subst (λ (s : Stop). Leaves g.N.Nand.flash g.N.Nand.shape g.N.Nand.bad new update holds.0 s) c.in-Err-NoNumber.field-0-is
    (c.in-Err-NoNumber.ensures.leaves holds.0 holds.2) in
    let opens = subst (λ (n : ℕ). CanOpen g.N.Nand.flash g.N.Nand.shape g.N.Nand.bad new.nand n holds.0) sectors
    (left_open g.N.Nand.flash g.N.Nand.shape g.N.Nand.bad new holds.0 there) in
    record {
      reopens = either (λ (us : List Update). CanOpen g.N.Nand.flash g.N.Nand.shape g.N.Nand.bad new.nand (layer_sectors c.args.self.now) us)
          update updates holds.0 holds.1 opens;
      refused = λ none. absurd none;
      stays = inr refl;
      readable = λ e. cc e;
      spent = λ _. inr (c.attempt.ensures.spent (c.in-Err-NoNumber.is ∙ ap Err c.in-Err-NoNumber.field-0-is));
    }

pub returns-in-Err-Fault-PowerGone-default-clause-fails : goal.returns-in-Err-Fault-PowerGone-default-clause-fails
returns-in-Err-Fault-PowerGone-default-clause-fails g c updates h =
    let inv = c.loop-self.invariant in
    let value = value_with c.args.trimmed c.args.main.now in
    let update = update_of c.args.extent value in
    let new = c.attempt.new.self in
    let sectors = c.attempt.ensures.sectors ∙ inv.sectors in
    let holds = inv.holds updates h in
    let command = c.in-Err-Fault-PowerGone-default.field-0-1 in
    let is : c.in-Err-Fault-PowerGone-default.field-0 ≡ stop.Fault fault.PowerGone command =
    cc (c.in-Err-Fault-PowerGone-default.field-0-is, c.in-Err-Fault-PowerGone-default.field-0-0-is) in
    let cut = subst (λ (s : Stop). Leaves g.N.Nand.flash g.N.Nand.shape g.N.Nand.bad new update holds.0 s) is
    (c.in-Err-Fault-PowerGone-default.ensures.leaves holds.0 holds.2) in
    let there = stopped g.N.Nand.flash g.N.Nand.shape g.N.Nand.bad new c.args.extent value command holds.0 cut in
    let opens = λ (us : List Update). CanOpen g.N.Nand.flash g.N.Nand.shape g.N.Nand.bad new.nand (layer_sectors c.args.self.now) us in
    let settled = settles opens update updates holds.0 (opens_once g.N.Nand.flash g.N.Nand.shape g.N.Nand.bad new.nand (layer_sectors c.args.self.now)
    update updates) holds.1 there.0 there.1
    (subst (λ (n : ℕ). CanOpen g.N.Nand.flash g.N.Nand.shape g.N.Nand.bad new.nand n there.0) sectors there.2) in
    record {
      reopens = either opens update updates settled.0 settled.1 settled.2;
      refused = λ none. absurd none;
      stays = inr cut.closed;
      readable = power_gone.0;
      spent = λ e. absurd (power_gone.1 e);
    }

pub returns-then-reserve-eq0-clause-fails : goal.returns-then-reserve-eq0-clause-fails
returns-then-reserve-eq0-clause-fails g c updates h =
    let inv = c.loop-self.invariant in
    let value = value_with c.args.trimmed c.args.main.now in
    let update = update_of c.args.extent value in
    let new = c.attempt.new.self in
    let sectors = c.attempt.ensures.sectors ∙ inv.sectors in
    let holds = inv.holds updates h in
    let command = c.in-Err-Fault-Failed-default.command in
    let is : c.in-Err-Fault-Failed-default.field-0 ≡ stop.Fault fault.Failed command =
    cc (c.in-Err-Fault-Failed-default.field-0-is, c.in-Err-Fault-Failed-default.field-0-0-is) in
    let cut = subst (λ (s : Stop). Leaves g.N.Nand.flash g.N.Nand.shape g.N.Nand.bad new update holds.0 s) is
    (c.in-Err-Fault-Failed-default.ensures.leaves holds.0 holds.2) in
    let there = stopped g.N.Nand.flash g.N.Nand.shape g.N.Nand.bad new c.args.extent value command holds.0 cut in
    let opens = λ (us : List Update). CanOpen g.N.Nand.flash g.N.Nand.shape g.N.Nand.bad new.nand (layer_sectors c.args.self.now) us in
    let settled = settles opens update updates holds.0 (opens_once g.N.Nand.flash g.N.Nand.shape g.N.Nand.bad new.nand (layer_sectors c.args.self.now)
    update updates) holds.1 there.0 there.1
    (subst (λ (n : ℕ). CanOpen g.N.Nand.flash g.N.Nand.shape g.N.Nand.bad new.nand n there.0) sectors there.2) in
    let good = good_before (g.N.Nand.bad new.nand) (g.N.Nand.shape new.nand).blocks in
    record {
      reopens = either opens update updates settled.0 settled.1 settled.2;
      refused = λ none. absurd none;
      stays = inr cut.closed;
      readable = λ e. cc e;
      spent = λ _. inl (subst (λ (n : ℕ). good ≤ most_used (g.N.Nand.shape new.nand) n) sectors
          (all_in_use g.N.Nand.flash g.N.Nand.shape g.N.Nand.bad new c.args.extent value command holds.0 cut
          (omega (arith, c.reserve.ensures, c.if-reserve-eq0.true))));
    }

pub returns-in-Err-clause-fails : goal.returns-in-Err-clause-fails
returns-in-Err-clause-fails g c updates h =
    let inv = c.loop-self.invariant in
    let value = value_with c.args.trimmed c.args.main.now in
    let update = update_of c.args.extent value in
    let new = c.attempt.new.self in
    let sectors = c.attempt.ensures.sectors ∙ inv.sectors in
    let holds = inv.holds updates h in
    let is : c.in-Err-Fault-Failed-default.field-0 ≡ stop.Fault fault.Failed c.in-Err-Fault-Failed-default.command =
    cc (c.in-Err-Fault-Failed-default.field-0-is, c.in-Err-Fault-Failed-default.field-0-0-is) in
    let cut = subst (λ (s : Stop). Leaves g.N.Nand.flash g.N.Nand.shape g.N.Nand.bad new update holds.0 s) is
    (c.in-Err-Fault-Failed-default.ensures.leaves holds.0 holds.2) in
    let last = c.replace.new.self in
    let closed = c.in-Err.ensures.closed value holds.0 cut in
    let opens = λ (us : List Update). CanOpen g.N.Nand.flash g.N.Nand.shape g.N.Nand.bad last.nand (layer_sectors c.args.self.now) us in
    let settled = settles opens update updates holds.0 (opens_once g.N.Nand.flash g.N.Nand.shape g.N.Nand.bad last.nand (layer_sectors c.args.self.now)
    update updates) holds.1 closed.2.0 closed.2.1
    (subst (λ (n : ℕ). CanOpen g.N.Nand.flash g.N.Nand.shape g.N.Nand.bad last.nand n closed.2.0) sectors closed.2.2) in
    record {
      reopens = either opens update updates settled.0 settled.1 settled.2;
      refused = λ refused. absurd (not_refused c.in-Err.failure closed.0 refused);
      stays = inr closed.1;
      readable = not_lost c.in-Err.failure closed.0;
      spent = λ failed. absurd (not_failed c.in-Err.failure closed.0 failed);
    }

pub loop-self-preserved : goal.loop-self-preserved
loop-self-preserved g c =
    let inv = c.loop-self.invariant in
    let was = c.loop-self.self.nand in
    let mid = c.attempt.new.self.nand in
    let is : c.in-Err-Fault-Failed-default.field-0 ≡ stop.Fault fault.Failed c.in-Err-Fault-Failed-default.command =
    cc (c.in-Err-Fault-Failed-default.field-0-is, c.in-Err-Fault-Failed-default.field-0-0-is) in
    let one = subst (λ (s : Stop). CountsStop {T = Unit {0}} (g.N.Nand.faults was) (g.N.Nand.faults mid) (Err s)) is
    c.in-Err-Fault-Failed-default.ensures.counts in
    let replaced = c.in_default.ensures in
    record {
      counted = omega (arith, replaced.good, c.attempt.ensures.good, inv.counted);
      number = omega (arith, c.replace.ensures.number, c.in-Err-Fault-Failed-default.ensures.number, inv.number);
      sectors = c.replace.ensures.sectors ∙ (c.attempt.ensures.sectors ∙ inv.sectors);
      shape = c.replace.ensures.shape ∙ (c.attempt.ensures.shape ∙ inv.shape);
      marks = λ b is. c.replace.ensures.marks b (ap (λ (m : List Bool). is_marked m b) c.attempt.ensures.bad ∙ inv.marks b is);
      power = replaced.faults fault.PowerGone ∙ (one.1 ∙ inv.power);
      failures = omega (arith, replaced.faults fault.Failed, one.0, inv.failures);
      first = λ none. absurd (omega (arith, none));
      losses = c.replace.ensures.losses ∙ (c.attempt.ensures.losses ∙ inv.losses);
      programmed = ap (λ (t : Tally). t.programs) c.replace.ensures.tally ∙ (c.in-Err-Fault-Failed-default.ensures.tally.0 ∙ inv.programmed);
      holds = λ updates h.
          let value = value_with c.args.trimmed c.args.main.now in
          let update = update_of c.args.extent value in
          let holds = inv.holds updates h in
          let blocks = (g.N.Nand.shape c.args.self.now.nand).blocks in
          let cut = subst (λ (s : Stop). Leaves g.N.Nand.flash g.N.Nand.shape g.N.Nand.bad c.attempt.new.self update holds.0 s) is
          (c.in-Err-Fault-Failed-default.ensures.leaves holds.0 holds.2) in
          let more = subst (λ (n : ℕ). TalliesMoves (g.N.Nand.tally was) (g.N.Nand.tally mid) 1 n)
          (ap (λ (d : Device). d.pages) holds.2.device ∙ ap (λ (s : Shape). s.pages) inv.shape) c.in-Err-Fault-Failed-default.ensures.tally.1 in
          let again = replaced.replaced value holds.0 cut in
          let settled = settles (λ (us : List Update). IsOpenLayer g.N.Nand.flash g.N.Nand.shape g.N.Nand.bad c.replace.new.self us) update updates
          holds.0 (open_once g.N.Nand.flash g.N.Nand.shape g.N.Nand.bad c.replace.new.self update updates) holds.1 again.0.0 again.0.1 again.0.2 in
          let one_less = subst (λ (s : Shape). good_before (g.N.Nand.bad c.replace.new.self.nand) s.blocks + 1 ≡ good_before (g.N.Nand.bad mid) s.blocks)
          (c.attempt.ensures.shape ∙ inv.shape) again.1 in (
            settled.0,
            settled.1,
            settled.2,
            omega (arith, one_less, holds.3, ap (λ (m : List Bool). good_before m blocks) c.attempt.ensures.bad),
            λ none. absurd (omega (arith, none)),
            subst (λ (t : Tally). TalliesMoves (g.N.Nand.tally c.args.self.now.nand) t (c.loop-self.failed + 1) (g.N.Nand.shape c.args.self.now.nand).pages)
                (sym c.replace.ensures.tally) (moves_more holds.5 more),
          );
    }
