use Rattle.std.proofs.Common.{subst}
use Rattle.nand.specs.declared.driver.Answer.TheVariants as answer
use Rattle.nand.specs.declared.flash.Reading.{Reading}
use Rattle.durable_exports.specs.Driving.{AnswersStep}
use Rattle.durable_exports.proofs.drives.found.Goals as goal

pub returns-clause-answered : goal.returns-clause-answered
returns-clause-answered c =
    subst (λ (r : Reading). AnswersStep (answer.Found r) c.args.driver.now c.done.new.driver) c.reading_of-reading.ensures c.done.ensures.answered
