use Rattle.std.proofs.Common.{sym, ap, ◌∙◌, subst, is_some}
use Rattle.flash_table.specs.{declared.pass.OpenBlock.OpenBlock, declared.pass.Pass.Pass, Flash.view_of, Flash.opened_of}
use Rattle.host.specs.Filling.{Starts}
use Rattle.host.proofs.WritingCalls.{not_some, some_open, starts_open, starts_taken}
use Rattle.host.proofs.writing.program.Goals.{else-is_none-via-then-is_none+else-not-take_lowest, else-is_none-via-else-is_none}
use Rattle.host.proofs.writing.program.Goals as goal

pub returns-clause-filled : goal.returns-clause-filled
returns-clause-filled c =
    let started : (o : OpenBlock) × Starts c.args.flash.now (view_of c.args.pass.now) c.else-is_none.pass o =
    elim c.else-is_none.branch [
      | else-is_none-via-then-is_none+else-not-take_lowest w ↦
          let none = not_some (opened_of c.args.pass.now) (ap is_some (sym c.opened.ensures) ∙ w.if-is_none.ensures) in
          let took = w.if-not-take_lowest.ensures in
          let t = starts_taken c.args.flash.now c.args.pass.now w.take_lowest.new.pass c.requires.pass none took.pass took.taken in
          (t.0, subst (λ (p : Pass). Starts c.args.flash.now (view_of c.args.pass.now) p t.0) (sym w.pass-is) t.1)
      | else-is_none-via-else-is_none w ↦
          let t = some_open (opened_of c.args.pass.now) (ap is_some (sym c.opened.ensures) ∙ w.if-is_none.ensures) in (
            t.0,
            subst (λ (p : Pass). Starts c.args.flash.now (view_of c.args.pass.now) p t.0) (sym w.pass-is)
                (starts_open c.args.flash.now c.args.pass.now t.0 c.requires.pass t.1),
          )
    ] in
    record {
      start = c.else-is_none.pass;
      block = started.0;
      starts = started.1;
      filled = c.fill.ensures.filled started.0 started.1.opened;
      opened = c.fill.ensures.opened started.0 started.1.opened;
      pass = c.fill.ensures.pass;
    }
