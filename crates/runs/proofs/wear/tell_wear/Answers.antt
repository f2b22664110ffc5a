use Rattle.std.proofs.Common.{◌≡◌, ◌∙◌, ap, arith, subst}
use Rattle.geometry.specs.Geometry.{blocks_of}
use Rattle.ftl_one.specs.OneFtl.{geometry_of, stock_of}
use Rattle.streams.specs.Watched.{inner_of}
use Rattle.answers.specs.{Delivery.IsUnderWay, Delivery.waiting_of, Streams.stream_of}
use Rattle.answers.proofs.Deliveries.{WritesOut-rest, WritesOut-stopped}
use Rattle.runs.{specs.Logs.wear_before, specs.Logs.wear_text, proofs.LogTexts.wear_begins, proofs.LogTexts.wear_turn}
use Rattle.runs.proofs.wear.tell_wear.Goals as goal

pub loop-block-preserved : goal.loop-block-preserved
loop-block-preserved g c = (
  c.in_ok-make_room.ensures.failed ∙ c.loop-block.invariant.0,
  wear_turn (stock_of c.args.ftl.now) c.loop-block.block _ _ _ _ _ _ c.loop-block.invariant.1 c.in_ok-make_room.ensures.moved c.wear.ensures.lines,
)

pub returns-in_err-make_room : goal.returns-in_err-make_room
returns-in_err-make_room g c =
    let stock = stock_of c.args.ftl.now in
    let known = stream_of g.V.Write.contents in
    let told = c.in_err-make_room.ensures in
    let blocks = blocks_of (geometry_of c.args.ftl.now) in
    let same : blocks_of c.geometry.result ≡ blocks = ap blocks_of c.geometry.ensures.value in
    WritesOut-stopped (wear_text (geometry_of c.args.ftl.now) stock) (wear_before stock c.loop-block.block) (waiting_of c.loop-block.desk.lines)
    (known c.args.wear.now) (known c.loop-block.wear) (known c.make_room.new.writer) c.from_residual.result
    c.loop-block.invariant.0 c.loop-block.invariant.1 (wear_begins stock c.loop-block.block blocks (omega (arith, same)))
    told.failed told.part c.from_residual.ensures.0

pub returns : goal.returns
returns g c =
    let geo = geometry_of c.args.ftl.now in
    let stock = stock_of c.args.ftl.now in
    let known = stream_of g.V.Write.contents in
    let same : blocks_of c.geometry.result ≡ blocks_of geo = ap blocks_of c.geometry.ensures.value in
    let all : c.loop-block.block ≡ blocks_of geo = omega (arith, same) in
    let under : IsUnderWay (g.V.Write.contents (inner_of c.args.wear.now)) (g.V.Write.contents (inner_of c.loop-block.wear))
    (waiting_of c.loop-block.desk.lines) (wear_text geo stock) =
    subst (λ n. IsUnderWay (g.V.Write.contents (inner_of c.args.wear.now)) (g.V.Write.contents (inner_of c.loop-block.wear))
    (waiting_of c.loop-block.desk.lines) (wear_before stock n)) all c.loop-block.invariant.1 in
    WritesOut-rest (wear_text geo stock) (waiting_of c.loop-block.desk.lines) (known c.args.wear.now) (known c.loop-block.wear)
    (known c.hand_on.new.writer) c.hand_on.result c.loop-block.invariant.0 under c.hand_on.ensures.sent
