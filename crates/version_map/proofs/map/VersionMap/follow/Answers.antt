use Rattle.std.proofs.Common.{◌≡◌, ◌∙◌, ◌/◌, sym, ap, arith}
use Rattle.version_map.specs.History.{version_in, version_after}
use Rattle.version_map.specs.declared.shape.MapShape.{MapShape}
use Rattle.version_map.proofs.Steps.{look_allowed, move_allowed}
use Rattle.version_map.proofs.Premises.{has_word, sector_of_key, pages_of_key}
use Rattle.version_map.proofs.map.VersionMap.follow.Goals as goal

pub load-found-requires : goal.load-found-requires
load-found-requires c =
    let map = c.args.self.now in
    let me = c.args.publisher.now.seat in (
      c.requires.publisher.0,
      has_word map c.args.sector c.requires.sector,
      look_allowed map.table.shared.key map.table.shared.table_id.slots me.id me.me (pages_of_key map me.me.0.pages c.requires.publisher.1)
          c.args.sector (sector_of_key map c.args.sector c.requires.sector),
    )

pub store-requires : goal.store-requires
store-requires c =
    let map = c.args.self.now in
    let me = c.load-found.new.seat in
    let saw = c.load-found.ensures.2.1 in
    let split = saw.same.1 ∙ c.requires.publisher.1 in
    let found : c.load-found.result / map.shape.pages ≡ c.args.place.number = omega (arith, c.if-found-self.false) in
    let same : version_in map.table.shared.key.pages c.in-Ok.word ≡ version_after me.me.0.seen c.args.sector =
    ap (λ (shape : MapShape). version_in shape.pages c.in-Ok.word) map.key
    ∙ (c.in-Ok.ensures.word ∙ (sym found ∙ sym (saw.version ∙ ap (λ p. version_in p c.load-found.result) c.requires.publisher.1))) in (
      c.load-found.ensures.0 ∙ c.requires.publisher.0,
      has_word map c.args.sector c.requires.sector,
      move_allowed map.table.shared.key map.table.shared.table_id.slots me.id me.me (pages_of_key map me.me.0.pages split)
          c.args.sector c.in-Ok.word (sector_of_key map c.args.sector c.requires.sector) (saw.same.0 ∙ c.args.publisher.now.publishes) same,
    )
