use Rattle.flash_table.proofs.{Permissions.whose, Permissions.of_broom, Blocks.just_now, BroomSteps.move_here}
use Rattle.flash_table.proofs.{flash.Flash.move_to.Goals.After-compare_exchange-found}
use Rattle.std.proofs.Common.{◌≡◌, ap, sym, ◌∙◌, subst}
use Rattle.geometry.specs.Words.{map_word}
use Rattle.flash_rule.specs.{declared.facts.Source.Source, BroomPlays.Moved}
use Rattle.flash_table.specs.Flash.{broom_view}
use Rattle.flash_table.proofs.BroomResults.{stays_broom, source_same, moved_view, found_or_not}
use Rattle.flash_table.proofs.flash.Flash.move_to.Goals as goal

pub compare_exchange-found-requires : goal.compare_exchange-found-requires
compare_exchange-found-requires c =
    let t = c.requires.live in
    move_here (of_broom c.requires.broom) c.args.sector c.pack-old.result c.pack-new.result t.0 c.args.to c.requires.sector t.2.1
    (c.pack-old.ensures ∙ ap map_word (sym t.2.0)) c.pack-new.ensures t.1

moved : (c : After-compare_exchange-found)
    → Moved (broom_view c.args.broom.now) c.requires.live.0 c.compare_exchange-found.result c.compare_exchange-found.new.seat.me.0
moved c =
    let t = c.requires.live in
    moved_view c.requires.broom
    c.pack-old.result c.pack-new.result t.0 c.args.from c.args.to t.1 c.requires.fits t.2.0 t.2.1 c.pack-old.ensures c.pack-new.ensures
    c.compare_exchange-found.ensures.2

pub invariant_of-broom-clause-owns : goal.invariant_of-broom-clause-owns
invariant_of-broom-clause-owns c =
    let s = c.args.broom.now in
    let told = moved (goal.at.invariant_of-broom-clause-owns c).After-compare_exchange-found in
    just_now told.changed s.owns

pub returns-clause-moved : goal.returns-clause-moved
returns-clause-moved c x is =
    let s = c.args.broom.now in
    let t = c.requires.live in
    let same = source_same t.1.is is in
    let its : Moved (broom_view s) x c.compare_exchange-found.result c.compare_exchange-found.new.seat.me.0 =
    subst (λ (y : Source). Moved (broom_view s) y c.compare_exchange-found.result c.compare_exchange-found.new.seat.me.0) same
    (moved (goal.at.returns-clause-moved c).After-compare_exchange-found) in
    let old : c.pack-old.result ≡ map_word x.page = c.pack-old.ensures ∙ ap map_word (sym t.2.0 ∙ ap (λ (y : Source). y.page) same) in
    (c.compare_exchange-found.result, its, found_or_not c.compare_exchange-found.result c.pack-old.result (map_word x.page) old)

pub returns-clause-broom : goal.returns-clause-broom
returns-clause-broom c =
    stays_broom c.requires.broom c.compare_exchange-found.ensures.0 (ap whose (moved (goal.at.returns-clause-broom c).After-compare_exchange-found).changed)
