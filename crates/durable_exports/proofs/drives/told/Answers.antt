use Rattle.std.proofs.Common.{subst}
use Rattle.nand.specs.declared.driver.Answer.{Answer}
use Rattle.durable_exports.specs.Driving.{AnswersStep}
use Rattle.durable_exports.proofs.drives.told.Goals as goal

pub returns-clause-answered : goal.returns-clause-answered
returns-clause-answered c =
    subst (λ (a : Answer). AnswersStep a c.args.driver.now c.done.new.driver) c.answer_of.ensures c.done.ensures.answered
