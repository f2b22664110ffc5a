use Rattle.std.proofs.Common.{◌∙◌, Option, Ok, refl, sym, ap, subst}
use Rattle.geometry.specs.Sectors.{Sector}
use Rattle.geometry.specs.declared.answer.Got.TheVariants as got
use Rattle.nand.specs.Stored.{ReadsStored}
use Rattle.nand.proofs.Readings.{data_in, empty_there, gives, in_page, no_page}
use Rattle.nand.proofs.Replacing.{still_open}
use Rattle.nand.proofs.layer.Durable.read.Goals as goal

pub returns-in_default-clause-stored : goal.returns-in_default-clause-stored
returns-in_default-clause-stored g c = subst (λ (has : Option Sector). ReadsStored has got.Empty c.args.out.now)
    (sym (no_page g.N.Nand.flash c.args.self.now c.args.sector c.page.result c.page.ensures.map c.in_default.is)) refl

pub returns-in_default-clause-gives : goal.returns-in_default-clause-gives
returns-in_default-clause-gives g c updates is =
    gives g.N.Nand.flash c.args.self.now c.args.sector g.N.Nand.shape g.N.Nand.bad updates is c.requires.sector got.Empty c.args.out.now
    (returns-in_default-clause-stored g c)

pub returns-in-Ok-Empty-clause-stored : goal.returns-in-Ok-Empty-clause-stored
returns-in-Ok-Empty-clause-stored g c =
    let there = in_page g.N.Nand.flash c.args.self.now c.args.sector c.page.result c.page.ensures.map c.in-Some.at c.in-Some.is
    c.deref.result.now c.deref.ensures.value c.chip_page.result c.chip_page.ensures in
    let at = c.chip_page.result in
    let told = sym (c.found.ensures.tells (g.N.Nand.flash c.args.self.now.nand at.block at.page) c.in-Ok.ensures.stamp)
    ∙ (c.in-Ok-Empty.is ∙ ap Ok c.in-Ok-Empty.field-0-is) in
    subst (λ (has : Option Sector). ReadsStored has got.Empty c.read.new.out) (sym (there ∙ empty_there _ told)) refl

pub returns-in-Ok-Empty-clause-gives : goal.returns-in-Ok-Empty-clause-gives
returns-in-Ok-Empty-clause-gives g c updates is =
    gives g.N.Nand.flash c.args.self.now c.args.sector g.N.Nand.shape g.N.Nand.bad updates is c.requires.sector got.Empty c.read.new.out
    (returns-in-Ok-Empty-clause-stored g c)

pub returns-in-Ok-Written-clause-stored : goal.returns-in-Ok-Written-clause-stored
returns-in-Ok-Written-clause-stored g c =
    let there = in_page g.N.Nand.flash c.args.self.now c.args.sector c.page.result c.page.ensures.map c.in-Some.at c.in-Some.is
    c.deref.result.now c.deref.ensures.value c.chip_page.result c.chip_page.ensures in
    let at = c.chip_page.result in
    let page = g.N.Nand.flash c.args.self.now.nand at.block at.page in
    let told = sym (c.found.ensures.tells page c.in-Ok.ensures.stamp) ∙ (c.in-Ok-Written.is ∙ ap Ok c.in-Ok-Written.field-0-is) in
    subst (λ (has : Option Sector). ReadsStored has got.Data c.read.new.out)
    (sym (there ∙ data_in page c.args.sector c.read.new.out told c.in-Ok.ensures.main)) (refl, refl)

pub returns-in-Ok-Written-clause-gives : goal.returns-in-Ok-Written-clause-gives
returns-in-Ok-Written-clause-gives g c updates is =
    gives g.N.Nand.flash c.args.self.now c.args.sector g.N.Nand.shape g.N.Nand.bad updates is c.requires.sector got.Data c.read.new.out
    (returns-in-Ok-Written-clause-stored g c)

pub returns-in-Ok-Empty-clause-open : goal.returns-in-Ok-Empty-clause-open
returns-in-Ok-Empty-clause-open g c updates is =
    still_open g.N.Nand.flash g.N.Nand.shape g.N.Nand.bad c.args.self.now c.read.new.self updates c.read.ensures.flash c.read.ensures.shape
    c.read.ensures.bad is

pub returns-in-Ok-Written-clause-open : goal.returns-in-Ok-Written-clause-open
returns-in-Ok-Written-clause-open g c updates is =
    still_open g.N.Nand.flash g.N.Nand.shape g.N.Nand.bad c.args.self.now c.read.new.self updates c.read.ensures.flash c.read.ensures.shape
    c.read.ensures.bad is
