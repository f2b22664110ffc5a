use Rattle.std.proofs.Common.{◌≡◌, ◌∙◌, Ok, Result, IfOk, refl, sym, ap, subst}
use Rattle.geometry.specs.Sectors.{was_of}
use Rattle.geometry.specs.declared.answer.Was.{Was}
use Rattle.geometry.specs.declared.answer.Was.TheVariants as was
use Rattle.durable.specs.Updates.{array_after}
use Rattle.nand.specs.Stored.{stored_value, told_of}
use Rattle.nand.specs.declared.failure.Failure.{Failure}
use Rattle.nand.proofs.Readings.{in_page, no_page, tells, told_there}
use Rattle.nand.proofs.Replacing.{still_open}
use Rattle.nand.proofs.Steps.{lost_is_true, lost_not_written, on_ok}
use Rattle.nand.proofs.layer.Durable.was.Goals as goal

pub returns-in_default-clause-gives : goal.returns-in_default-clause-gives
returns-in_default-clause-gives g c updates is =
    let none = no_page g.N.Nand.flash c.args.self.now c.args.sector c.page.result c.page.ensures.map c.in_default.is in
    cc (told_there g.N.Nand.flash c.args.self.now c.args.sector g.N.Nand.shape g.N.Nand.bad updates is c.requires (Ok was.Empty) (ap told_of (sym none)))

pub returns-in-Ok-clause-tells : goal.returns-in-Ok-clause-tells
returns-in-Ok-clause-tells g c =
    let at = c.chip_page.result in
    let there = in_page g.N.Nand.flash c.args.self.now c.args.sector c.page.result c.page.ensures.map c.in-Some.at c.in-Some.is
    c.deref.result.now c.deref.ensures.value at c.chip_page.ensures in
    let told = c.found.ensures.tells (g.N.Nand.flash c.args.self.now.nand at.block at.page) c.in-Ok.ensures.stamp in
    tells (stored_value g.N.Nand.flash c.args.self.now) c.args.sector c.found.result (told ∙ ap told_of (sym there))

pub returns-in-Ok-clause-gives : goal.returns-in-Ok-clause-gives
returns-in-Ok-clause-gives g c updates is =
    let at = c.chip_page.result in
    let there = in_page g.N.Nand.flash c.args.self.now c.args.sector c.page.result c.page.ensures.map c.in-Some.at c.in-Some.is
    c.deref.result.now c.deref.ensures.value at c.chip_page.ensures in
    let told = c.found.ensures.tells (g.N.Nand.flash c.args.self.now.nand at.block at.page) c.in-Ok.ensures.stamp in
    subst (λ (r : Result Was Failure). IfOk r (λ had. had ≡ was_of (array_after updates c.args.sector)))
    (sym (told_there g.N.Nand.flash c.args.self.now c.args.sector g.N.Nand.shape g.N.Nand.bad updates is c.requires c.found.result
    (told ∙ ap told_of (sym there)))) refl

pub returns-in-Ok-clause-looks : goal.returns-in-Ok-clause-looks
returns-in-Ok-clause-looks g c = record {
  opens = λ updates is. still_open g.N.Nand.flash g.N.Nand.shape g.N.Nand.bad c.args.self.now c.stamp.new.self updates c.stamp.ensures.flash
      c.stamp.ensures.shape c.stamp.ensures.bad is;
  cause = lost_is_true g.N.Nand.faults c.args.self.now (record c.args.self.now { nand = c.stamp.new.self }) c.found.result c.found.ensures.lost;
  overwrites = lost_not_written c.found.result c.found.ensures.lost;
  mounted = refl;
  counts = on_ok c.found.result c.in-Ok.ensures.cause.0;
  tallied = c.stamp.ensures.tally;
  number = refl;
  same = c.stamp.ensures.flash;
  core = refl;
  numbers = refl;
  device = record { sectors = refl; number = refl; chip = c.stamp.ensures.shape; marks = c.stamp.ensures.bad };
}
