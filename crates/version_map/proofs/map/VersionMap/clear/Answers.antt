use Rattle.std.proofs.Common.{◌<◌, ◌+◌, arith}
use Rattle.version_map.specs.Map.{map_sectors}
use Rattle.version_map.proofs.Steps.{change_allowed}
use Rattle.version_map.proofs.Premises.{has_word, sector_of_key, pages_of_key}
use Rattle.version_map.proofs.map.VersionMap.clear.Goals as goal

pub store-requires : goal.store-requires
store-requires c =
    let map = c.args.self.now in
    let me = c.loop-i.publisher.seat in
    let sectors = c.requires.sectors in
    let turn = c.loop-i-test.true in
    let low : c.args.first + c.loop-i.i < map_sectors map = omega arith in (
      c.loop-i.invariant.0.0,
      has_word map (c.args.first + c.loop-i.i) low,
      change_allowed map.table.shared.key map.table.shared.table_id.slots me.id me.me (pages_of_key map me.me.0.pages c.loop-i.invariant.0.1)
          (c.args.first + c.loop-i.i) 0 (sector_of_key map (c.args.first + c.loop-i.i) low) c.loop-i.publisher.publishes,
    )
