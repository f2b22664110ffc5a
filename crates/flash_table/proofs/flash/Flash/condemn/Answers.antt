use Rattle.flash_table.proofs.{Permissions.whose, Permissions.of_broom, BroomSteps.condemn_here}
use Rattle.std.proofs.Common.{sym, refl, ap, ◌∙◌}
use Rattle.flash_rule.specs.BroomPlays.{Condemned}
use Rattle.flash_table.specs.{Flash.broom_view}
use Rattle.flash_table.proofs.{Blocks.just_now, Blocks.condemned_just, BroomResults.is_a_broom, BroomResults.stays_broom}
use Rattle.flash_table.proofs.{BroomResults.can_condemn, BroomResults.condemned, flash.Flash.condemn.Goals.After-compare_exchange-found}
use Rattle.flash_table.proofs.flash.Flash.condemn.Goals as goal

pub compare_exchange-found-requires : goal.compare_exchange-found-requires
compare_exchange-found-requires c =
    condemn_here (of_broom c.requires.broom) c.args.block c.pack-old.result c.args.expected c.requires.block
    c.pin_at-word.ensures c.pack-old.ensures (is_a_broom c.requires.broom)
    (can_condemn c.requires.broom c.args.block c.args.expected c.requires.rested c.requires.block c.requires.expected)

its : (c : After-compare_exchange-found)
    → Condemned (broom_view c.args.broom.now) c.args.block c.args.expected c.compare_exchange-found.result c.compare_exchange-found.new.seat.me.0
its c =
    let can = can_condemn c.requires.broom c.args.block c.args.expected c.requires.rested c.requires.block c.requires.expected in
    condemned c.requires.broom c.args.block c.pack-old.result c.args.expected c.pin_at-word.ensures c.pack-old.ensures can c.compare_exchange-found.ensures.2

-- ---- its word wasn't the one expected
pub invariant_of-broom-clause-owns : goal.invariant_of-broom-clause-owns
invariant_of-broom-clause-owns c =
    let told = its (goal.at.invariant_of-broom-clause-owns c).After-compare_exchange-found in
    let changed = told.busy (λ is. c.if-found-old.true (is ∙ sym c.pack-old.ensures)) in
    just_now changed c.args.broom.now.owns

pub returns-then-found-old-clause-condemned : goal.returns-then-found-old-clause-condemned
returns-then-found-old-clause-condemned c =
    let told = its (goal.at.returns-then-found-old-clause-condemned c).After-compare_exchange-found in
    record { changed = told.busy (λ is. c.if-found-old.true (is ∙ sym c.pack-old.ensures)); blocks = refl }

pub returns-then-found-old-clause-broom : goal.returns-then-found-old-clause-broom
returns-then-found-old-clause-broom c =
    let told = its (goal.at.returns-then-found-old-clause-broom c).After-compare_exchange-found in
    stays_broom c.requires.broom c.compare_exchange-found.ensures.0 (ap whose (told.busy (λ is. c.if-found-old.true (is ∙ sym c.pack-old.ensures))))

-- ---- the block is the broom's to erase
pub invariant_of-broom-2-clause-owns : goal.invariant_of-broom-2-clause-owns
invariant_of-broom-2-clause-owns c =
    let told = its (goal.at.invariant_of-broom-2-clause-owns c).After-compare_exchange-found in
    let is = c.if-found-old.false ∙ c.pack-old.ensures in
    just_now (told.won is) (condemned_just _ c.args.broom.now.owns _ c.requires.rested (told.fresh is))

pub returns-clause-condemned : goal.returns-clause-condemned
returns-clause-condemned c =
    record { changed = (its (goal.at.returns-clause-condemned c).After-compare_exchange-found).won (c.if-found-old.false ∙ c.pack-old.ensures); blocks = refl }

pub returns-clause-broom : goal.returns-clause-broom
returns-clause-broom c =
    let changed = (its (goal.at.returns-clause-broom c).After-compare_exchange-found).won (c.if-found-old.false ∙ c.pack-old.ensures) in
    stays_broom c.requires.broom c.compare_exchange-found.ensures.0 (ap whose changed)
