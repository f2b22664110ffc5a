use Rattle.std.proofs.{Common.subst, Common.arith, Common.ap, Common.drop, Common.length, Common.take, lemmas.Bool.Decides.nat_tests}
use Rattle.std.{proofs.lemmas.List.drop-drop, proofs.lemmas.List.length-drop, proofs.lemmas.List.take_rest, specs.Io.KnownBytes.Appends}
use Rattle.streams.specs.Watched.{inner_of}
use Rattle.answers.{specs.Delivery.IsUnderWay, proofs.Deliveries.IsUnderWay-take}
use Rattle.answers.proofs.delivery.send_some.Goals as goal

pub loop-sent-preserved : goal.loop-sent-preserved
loop-sent-preserved g c =
    let was = g.W.Write.contents (inner_of c.args.writer.now) in
    let now = g.W.Write.contents (inner_of c.write.new.self) in
    let bytes = c.args.bytes.now in
    let sent = c.loop-sent.sent in
    let taken = c.in-Ok.taken in
    let before = g.W.Write.contents (inner_of c.loop-sent.writer) in
    let piece = take_rest bytes sent in
    record {
      within = omega (arith, c.in-Ok.ensures.bound, c.loop-sent.invariant.within, ap length piece, length-drop sent bytes);
      moved = subst (λ waiting. IsUnderWay was now waiting bytes) (drop-drop taken sent bytes)
          (IsUnderWay-take was before now (drop sent bytes) bytes taken c.loop-sent.invariant.moved
          (subst (λ rest. Appends before now (take taken rest)) piece c.in-Ok.ensures.bytes));
      unfailed = grind (arith, nat_tests, c.in-Ok.ensures.count, c.loop-sent.invariant.unfailed);
    }
