use Rattle.std.proofs.Common.{◌≡◌, ◌∙◌, Option, Result, Some, Ok, Err, OnOk, sym, ap, subst}
use Rattle.durable.specs.declared.fault.MountFault.TheVariants as mount_fault
use Rattle.nand.specs.Opening.{TellsMark, TellsStamp, next_question}
use Rattle.nand.specs.declared.failure.OpenFailure.{OpenFailure}
use Rattle.nand.specs.declared.opening.OpeningFault.{OpeningFault}
use Rattle.nand.specs.declared.opening.Question.{Question}
use Rattle.nand.specs.declared.opening.Question.TheVariants as question
use Rattle.nand.proofs.asked.answer.Goals as goal

-- what holds where the answer was taken
taken : (told : Result (Unit {0}) OpenFailure) (result : Result (Unit {0}) OpeningFault) (Has Gives : Type 0) → OnOk told (result ≡ Ok tt) → (Has → Gives)
    → OnOk result Has → OnOk told Gives
taken (Ok done) result Has Gives is gives has = let there : Has = subst (λ (r : Result (Unit {0}) OpeningFault). OnOk r Has) is has in gives there
taken (Err cause) result Has Gives is gives has = tt

pub returns-in-Ok-clause-reads : goal.returns-in-Ok-clause-reads
returns-in-Ok-clause-reads g c read =
    let f = g.N.Nand.flash c.args.nand.now in
    let bad = g.N.Nand.bad c.args.nand.now in
    let next : next_question c.args.opening.now ≡ Some (question.IsBad c.in-IsBad.block) = c.requires ∙ ap Some c.in-IsBad.is in
    let tells : TellsMark bad (next_question c.args.opening.now) c.in-Ok.is_bad =
    subst (λ (q : Option Question). TellsMark bad q c.in-Ok.is_bad) (sym next) (sym c.in-Ok.ensures.answer) in
    taken c.told.result c.block.result _ _ c.told.ensures.done (λ reads. reads f bad read tells) c.block.ensures.reads

pub returns-in-Ok-clause-refused : goal.returns-in-Ok-clause-refused
returns-in-Ok-clause-refused g c read capacity =
    let f = g.N.Nand.flash c.args.nand.now in
    let bad = g.N.Nand.bad c.args.nand.now in
    let next : next_question c.args.opening.now ≡ Some (question.IsBad c.in-IsBad.block) = c.requires ∙ ap Some c.in-IsBad.is in
    let tells : TellsMark bad (next_question c.args.opening.now) c.in-Ok.is_bad =
    subst (λ (q : Option Question). TellsMark bad q c.in-Ok.is_bad) (sym next) (sym c.in-Ok.ensures.answer) in
    λ e. c.block.ensures.refused f bad read tells capacity (c.told.ensures.refused mount_fault.TooManySectors e)

pub returns-in-Ok-stamp-clause-reads : goal.returns-in-Ok-stamp-clause-reads
returns-in-Ok-stamp-clause-reads g c read =
    let f = g.N.Nand.flash c.args.nand.now in
    let bad = g.N.Nand.bad c.args.nand.now in
    let next : next_question c.args.opening.now ≡ Some (question.Stamp c.in-Stamp.at) = c.requires ∙ ap Some c.in-Stamp.is in
    let tells : TellsStamp f (next_question c.args.opening.now) c.in-Ok-stamp.reading =
    subst (λ (q : Option Question). TellsStamp f q c.in-Ok-stamp.reading) (sym next) c.in-Ok-stamp.ensures.stamp in
    taken c.told-in-Ok-stamp.result c.page.result _ _ c.told-in-Ok-stamp.ensures.done (λ reads. reads f bad read tells) c.page.ensures.reads

pub returns-in-Ok-stamp-clause-foreign : goal.returns-in-Ok-stamp-clause-foreign
returns-in-Ok-stamp-clause-foreign g c read written =
    let f = g.N.Nand.flash c.args.nand.now in
    let bad = g.N.Nand.bad c.args.nand.now in
    let next : next_question c.args.opening.now ≡ Some (question.Stamp c.in-Stamp.at) = c.requires ∙ ap Some c.in-Stamp.is in
    let tells : TellsStamp f (next_question c.args.opening.now) c.in-Ok-stamp.reading =
    subst (λ (q : Option Question). TellsStamp f q c.in-Ok-stamp.reading) (sym next) c.in-Ok-stamp.ensures.stamp in
    let accepted = c.page.ensures.accepts f bad read written tells in
    λ e. absurd (cc (sym accepted ∙ c.told-in-Ok-stamp.ensures.refused mount_fault.ForeignStamp e))
