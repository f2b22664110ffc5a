use Rattle.std.proofs.Common.{◌∙◌, ap}
use Rattle.atomic_table.specs.Table.{Me}
use Rattle.version_map.specs.declared.sighting.Sighting.{Sighting}
use Rattle.version_map.proofs.Steps.{hears, look_allowed}
use Rattle.version_map.proofs.Premises.{has_word, sector_of_key, pages_of_key}
use Rattle.version_map.proofs.map.VersionMap.hear.Goals as goal

pub join_seat-requires : goal.join_seat-requires
join_seat-requires c =
    let map = c.args.self.now in
    let me = c.args.reader.now.seat in
    let other = c.args.other.seat in (
      c.requires.reader.0,
      c.requires.other.0,
      c.args.other.bare,
      has_word map 0 map.some,
      hears map.table.shared.key me.id other.id me.me.0 other.me.0 c.args.other.reads,
    )

pub load-requires : goal.load-requires
load-requires c =
    let map = c.args.self.now in
    let me = c.join_seat.new.seat in
    let before = c.args.reader.now.seat.me.0 in
    let pages = ap (λ (m : Me (Unit {0}) Sighting). m.0.pages) c.join_seat.ensures.2 in (
      c.join_seat.ensures.0 ∙ c.requires.reader.0,
      has_word map 0 map.some,
      look_allowed map.table.shared.key map.table.shared.table_id.slots me.id me.me
          (pages ∙ pages_of_key map before.pages c.requires.reader.1) 0 (sector_of_key map 0 map.some),
    )
