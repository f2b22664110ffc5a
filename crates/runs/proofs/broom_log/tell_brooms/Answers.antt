use Rattle.std.proofs.Common.{◌≡◌, ◌++◌, ◌∙◌, ap, length, arith, subst}
use Rattle.streams.specs.Watched.{inner_of}
use Rattle.answers.specs.{Answers.broom_line, Delivery.IsUnderWay, Delivery.waiting_of, Streams.stream_of}
use Rattle.answers.proofs.Deliveries.{WritesOut-rest, WritesOut-stopped}
use Rattle.runs.{specs.Logs.brooms_before, specs.Logs.brooms_text, proofs.LogTexts.brooms_begins, proofs.LogTexts.brooms_turn}
use Rattle.runs.proofs.broom_log.tell_brooms.Goals as goal

pub loop-k-preserved : goal.loop-k-preserved
loop-k-preserved g c = (
  c.in_ok-make_room.ensures.failed ∙ c.loop-k.invariant.0,
  brooms_turn c.args.brooms.now c.loop-k.k c.index-brooms-k.result _ _ _ _ _ _ c.loop-k-test.true c.index-brooms-k.is c.loop-k.invariant.1
      c.in_ok-make_room.ensures.moved
      (c.broom.ensures.waiting ∙ ap (λ it. waiting_of c.make_room.new.self ++ broom_line it) c.counts.ensures),
)

pub returns-in_err-make_room : goal.returns-in_err-make_room
returns-in_err-make_room g c =
    let ends = c.args.brooms.now in
    let known = stream_of g.V.Write.contents in
    let told = c.in_err-make_room.ensures in
    WritesOut-stopped (brooms_text ends) (brooms_before ends c.loop-k.k) (waiting_of c.loop-k.lines)
    (known c.args.file.now) (known c.loop-k.file) (known c.make_room.new.writer) c.from_residual.result
    c.loop-k.invariant.0 c.loop-k.invariant.1 (brooms_begins ends c.loop-k.k (length ends) (omega arith)) told.failed told.part c.from_residual.ensures.0

pub returns : goal.returns
returns g c =
    let ends = c.args.brooms.now in
    let known = stream_of g.V.Write.contents in
    let all : c.loop-k.k ≡ length ends = omega arith in
    let old = g.V.Write.contents (inner_of c.args.file.now) in
    let mid = g.V.Write.contents (inner_of c.loop-k.file) in
    let under : IsUnderWay old mid (waiting_of c.loop-k.lines) (brooms_text ends) =
    subst (λ n. IsUnderWay old mid (waiting_of c.loop-k.lines) (brooms_before ends n)) all c.loop-k.invariant.1 in
    WritesOut-rest (brooms_text ends) (waiting_of c.loop-k.lines) (known c.args.file.now) (known c.loop-k.file) (known c.hand_on.new.writer)
    c.hand_on.result c.loop-k.invariant.0 under c.hand_on.ensures.sent
