use Rattle.std.proofs.Common.{refl, subst}
use Rattle.erase_queue.specs.Queue.{limit_of}
use Rattle.volume.specs.{declared.volume.Volume.Volume, Volume.queue_of}
use Rattle.workers.specs.Collecting.{CallTold}
use Rattle.workers.proofs.BroomCalls.{collected_one}
use Rattle.workers.specs.declared.collector.broom_answer.BroomAnswer.TheVariants as by
use Rattle.workers.proofs.collector.Collector.erase.Goals as goal

pub returns : goal.returns
returns g c =
    let self = c.args.self.now in
    let answer = by.Erase c.erase_one-erase.result in
    let broom = c.erase_one-erase.new.broom in
    collected_one self _ answer refl refl
    (subst (λ (v : Volume). CallTold (limit_of (queue_of v)) self.broom answer broom) c.deref.ensures c.erase_one-erase.ensures.erased_one)
    c.with_answer-self.ensures
