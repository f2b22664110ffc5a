use Rattle.std.proofs.Common.{ℕ, ◌-◌, ◌∙◌, ap, refl, subst, sym}
use Rattle.erase_queue.specs.Queue.{limit_of}
use Rattle.geometry.specs.Limits.{Numbers}
use Rattle.broom.specs.{Handing.DrainOneTold, Ready.view_of_broom}
use Rattle.volume.specs.{declared.volume.Volume.Volume, Volume.queue_of}
use Rattle.workers.specs.{Collecting.limit_at, Tallies.GrowsBy}
use Rattle.workers.proofs.{BroomCalls.collected_one, DrainPrograms.survey_fills}
use Rattle.workers.specs.declared.collector.broom_answer.BroomAnswer.TheVariants as by
use Rattle.workers.proofs.collector.Collector.survey_and_drain.Goals as goal

pub returns : goal.returns
returns g c =
    let self = c.args.self.now in
    let drain = c.drain_one-drain in
    let told = subst (λ (v : Volume). DrainOneTold (limit_of (queue_of v)) self.broom drain.result drain.new.broom) c.deref.ensures drain.ensures.drained_one in
    let count = c.saturating_sub-programmed.ensures ∙ (λ i. c.room-room.ensures i - c.room.ensures i) in
    let grows = subst (λ (n : ℕ). GrowsBy n (view_of_broom self.broom).programs (view_of_broom drain.new.broom).programs) (sym count)
    (survey_fills (limit_at self) _ self.broom drain.new.broom drain.result (ap (λ (z : Numbers). z.pages) self.ready.ready.rested.seat.numbers) told) in
    (_, collected_one self _ (by.Drain drain.result _) refl refl (told, grows) c.with_answer-self.ensures)
