use Rattle.std.proofs.Common.{◌≡◌, ◌≤◌, length}
use Rattle.durable.specs.Collecting.{AreLiveCounts, MapsAll}
use Rattle.durable.proofs.Extents.{until}
use Rattle.durable.proofs.counting.remap_all.Given as goal

abbrev pub invariant-loop-sector : goal.invariant-loop-sector
invariant-loop-sector l = record {
  map : MapsAll l.fn.map.items l.map.items (until l.fn.extent.first l.sector) l.to;
  from : l.fn.extent.first ≤ l.sector;
  size : length l.counts ≡ length l.fn.counts;
  counted : AreLiveCounts l.counts l.map.items;
}
