use Rattle.std.proofs.Common.{refl, arith}
use Rattle.durable.proofs.Extents.{maps_none}
use Rattle.durable.proofs.counting.remap_all.Goals as goal

pub loop-sector-init : goal.loop-sector-init
loop-sector-init c = record {
  map = maps_none c.args.map.now.items c.args.extent.first c.args.to;
  from = omega arith;
  size = refl;
  counted = c.requires.counted;
}
