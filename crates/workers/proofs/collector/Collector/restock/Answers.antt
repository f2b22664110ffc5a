use Rattle.std.proofs.Common.{refl}
use Rattle.workers.specs.declared.collector.broom_answer.BroomAnswer.TheVariants as by
use Rattle.workers.proofs.BroomCalls.{collected_one}
use Rattle.workers.proofs.collector.Collector.restock.Goals as goal

pub returns : goal.returns
returns c =
    collected_one c.args.self.now _ (by.Restock c.restock-has_spare.result) refl refl
    (record { told = c.restock-has_spare.ensures.restocked; queue = c.restock-has_spare.ensures.queue; survey = c.restock-has_spare.ensures.survey })
    c.with_answer-self.ensures
