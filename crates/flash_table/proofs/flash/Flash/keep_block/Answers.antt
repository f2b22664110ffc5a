use Rattle.flash_table.proofs.{Permissions.whose, Permissions.of_broom, Blocks.just_now, Blocks.kept_just}
use Rattle.std.proofs.Common.{◌≡◌, ◌+◌, refl, ap, ◌∙◌}
use Rattle.flash_rule.specs.Views.{with_owned}
use Rattle.flash_table.specs.{Flash.broom_view, Flash.own_blocks, Owning.owned_of}
use Rattle.flash_table.specs.declared.{broom_seat.ReclaimedBlock.ReclaimedBlock, pass.OpenBlock.OpenBlock}
use Rattle.flash_table.proofs.{BroomResults.stays_broom, BroomSteps.kept_here, flash.Flash.keep_block.Goals.After-fetch_add}
use Rattle.flash_table.proofs.BroomResults.{same_erased, live_on, can_renew, kept_view}
use Rattle.flash_table.proofs.flash.Flash.keep_block.Goals as goal

pub fetch_add-requires : goal.fetch_add-requires
fetch_add-requires c =
    let o = c.in-Erasing.erased in
    let t = live_on c.requires.broom o c.in-Erasing.is c.requires.wiped in
    kept_here (of_broom c.requires.broom) c.kept.result _ t.erases.low c.pin_at-word.ensures c.kept.ensures (can_renew c.requires.broom o t)

-- the block in its next generation
abbrev renewed : ReclaimedBlock → OpenBlock
renewed o = record { block = o.block; generation = o.generation + 1; written = 0 }

kept : (c : After-fetch_add)
    → c.fetch_add.new.seat.me.0 ≡ record (broom_view c.args.broom.now) {
      owns = with_owned (owned_of (renewed c.in-Erasing.erased)) (broom_view c.args.broom.now).owns;
    }
kept c =
    let o = c.in-Erasing.erased in
    kept_view c.requires.broom c.kept.result o (live_on c.requires.broom o c.in-Erasing.is c.requires.wiped) c.pin_at-word.ensures c.fetch_add.ensures.2

pub invariant_of-broom-clause-owns : goal.invariant_of-broom-clause-owns
invariant_of-broom-clause-owns c =
    let s = c.args.broom.now in
    just_now (kept (goal.at.invariant_of-broom-clause-owns c).After-fetch_add)
    (kept_just (own_blocks s) s.owns (renewed c.in-Erasing.erased) c.in-Erasing.is c.requires.no_spare refl)

pub returns-clause-kept : goal.returns-clause-kept
returns-clause-kept c x is =
    let s = c.args.broom.now in
    kept (goal.at.returns-clause-kept c).After-fetch_add
    ∙ ap (λ (y : ReclaimedBlock). record (broom_view s) { owns = with_owned (owned_of (renewed y)) (broom_view s).owns }) (same_erased c.in-Erasing.is is)

pub returns-clause-broom : goal.returns-clause-broom
returns-clause-broom c = stays_broom c.requires.broom c.fetch_add.ensures.0 (ap whose (kept (goal.at.returns-clause-broom c).After-fetch_add))
