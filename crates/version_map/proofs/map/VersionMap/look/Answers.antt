use Rattle.version_map.proofs.Steps.{look_allowed}
use Rattle.version_map.proofs.Premises.{has_word, sector_of_key, pages_of_key}
use Rattle.version_map.proofs.map.VersionMap.look.Goals as goal

pub load-word-requires : goal.load-word-requires
load-word-requires c =
    let map = c.args.self.now in
    let me = c.args.reader.now.seat in (
      c.requires.reader.0,
      has_word map c.args.sector c.requires.sector,
      look_allowed map.table.shared.key map.table.shared.table_id.slots me.id me.me (pages_of_key map me.me.0.pages c.requires.reader.1)
          c.args.sector (sector_of_key map c.args.sector c.requires.sector),
    )
