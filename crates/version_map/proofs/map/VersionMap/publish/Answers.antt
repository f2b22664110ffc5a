use Rattle.version_map.proofs.Steps.{change_allowed}
use Rattle.version_map.proofs.Premises.{has_word, sector_of_key, pages_of_key}
use Rattle.version_map.proofs.map.VersionMap.publish.Goals as goal

pub store-requires : goal.store-requires
store-requires c =
    let map = c.args.self.now in
    let me = c.args.publisher.now.seat in (
      c.requires.publisher.0,
      has_word map c.args.sector c.requires.sector,
      change_allowed map.table.shared.key map.table.shared.table_id.slots me.id me.me (pages_of_key map me.me.0.pages c.requires.publisher.1)
          c.args.sector _ (sector_of_key map c.args.sector c.requires.sector) c.args.publisher.now.publishes,
    )
