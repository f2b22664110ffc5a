use Rattle.std.proofs.Common.{◌<◌, ◌+◌, length, ap, arith}
use Rattle.durable.specs.Collecting.{weight}
use Rattle.durable.proofs.Counts.{counted_next, live_take}
use Rattle.durable.proofs.counting.counts_of.Goals as goal

pub count-requires : goal.count-requires
count-requires c b lt =
    let map = c.args.map.now.items in
    let s = c.loop-s.s in
    omega (
      arith,
      c.loop-s.invariant.counted b lt,
      counted_next b map s (omega (arith, c.loop-s-test.true, c.len-s-end.ensures)),
      live_take b map (s + 1),
      c.requires,
      ap (weight b) c.get.ensures.entry,
    )

pub loop-s-preserved : goal.loop-s-preserved
loop-s-preserved c = record {
  size = omega (arith, c.count.ensures.size, c.loop-s.invariant.size);
  counted = λ b lt.
      let inside : b < length c.loop-s.counts = omega (arith, lt, c.count.ensures.size) in
      omega (
        arith,
        c.count.ensures.counts b inside,
        c.loop-s.invariant.counted b inside,
        counted_next b c.args.map.now.items c.loop-s.s (omega (arith, c.loop-s-test.true, c.len-s-end.ensures)),
        ap (weight b) c.get.ensures.entry,
      );
}
