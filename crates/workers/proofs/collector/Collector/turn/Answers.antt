use Rattle.std.proofs.Common.{◌≡◌, ◌∙◌, sym, ap, arith}
use Rattle.std.specs.Prelude.{◌||◌}
use Rattle.workers.proofs.BroomTurns.{first_drain, next_drain}
use Rattle.workers.proofs.collector.Collector.turn.Goals.{then-follow, else-follow}
use Rattle.workers.proofs.collector.Collector.turn.Goals as goal

pub loop-made-init : goal.loop-made-init
loop-made-init g c =
    first_drain c.args.self.now c.survey_and_drain-drain.new.self c.follow-gained.new.self c.survey_and_drain-drain.result c.survey_and_drain-drain.ensures.0
    c.follow-gained.result c.survey_and_drain-drain.ensures.1 c.follow-gained.ensures

pub loop-made-preserved : goal.loop-made-preserved
loop-made-preserved g c =
    let now : c.if-follow.gained ≡ (c.follow.result || c.loop-made.gained) =
    elim c.if-follow.branch [
      | then-follow w ↦ w.gained-is ∙ (w.if-follow.true ∙ ap (λ b. b || c.loop-made.gained) (sym w.if-follow.true))
      | else-follow w ↦ w.gained-is ∙ ap (λ b. b || c.loop-made.gained) (sym w.if-follow.false)
    ] in
    let drains = c.follow-gained.ensures.collected.drains ∙ c.survey_and_drain-drain.ensures.1.drains in
    let low = c.loop-made-test.true in
    next_drain c.args.self.now c.loop-made.self c.drain_next-drain.new.self c.follow.new.self c.loop-made._made c.loop-made.drain c.drain_next-drain.result
    c.drain_next-drain.ensures.0 c.loop-made.gained c.follow.result c.if-follow.gained c.loop-made.invariant
    (sym c.is_last.ensures ∙ c.if-is_last.false) (omega (arith, drains, low)) c.drain_next-drain.ensures.1 c.follow.ensures now
