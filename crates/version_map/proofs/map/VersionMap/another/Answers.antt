use Rattle.version_map.proofs.Steps.{splits_off}
use Rattle.version_map.proofs.Premises.{has_word}
use Rattle.version_map.proofs.map.VersionMap.another.Goals as goal

pub split_seat-seat-requires : goal.split_seat-seat-requires
split_seat-seat-requires c =
    let map = c.args.self.now in
    let me = c.args.reader.now.seat in
    (c.requires.reader.0, has_word map 0 map.some, splits_off map.table.shared.key me.id me.me.0)
