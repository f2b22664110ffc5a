use Rattle.flash_table.proofs.{Permissions.whose, Permissions.of_broom, Blocks.just_now, PassSteps.count_here, PassResults.same_block}
use Rattle.flash_table.proofs.{PassResults.count_can, PassResults.count_view}
use Rattle.std.proofs.Common.{◌≡◌, ◌+◌, ◌∷◌, ◌++◌, [], Some, refl, ap, ◌∙◌}
use Rattle.geometry.specs.Words.{pin_index}
use Rattle.flash_rule.specs.{declared.facts.Work.Work, Plays.CanCount, Views.with_owned}
use Rattle.flash_table.specs.{Flash.device, Flash.broom_view, Flash.own_blocks, Owning.owned_of}
use Rattle.flash_table.specs.declared.{pass.OpenBlock.OpenBlock}
use Rattle.flash_table.proofs.{BroomResults.stays_broom, Blocks.counted_just, flash.Flash.count_copy.Goals.After-fetch_add}
use Rattle.flash_table.proofs.flash.Flash.count_copy.Goals as goal

pub fetch_add-requires : goal.fetch_add-requires
fetch_add-requires c =
    let can = count_can c.args.self.now.geometry (broom_view c.args.broom.now) c.in-Some.is c.requires.filled in
    count_here (of_broom c.requires.broom) (owned_of c.in-Some.opened) can.0 can.3 c.pin_at-word.ensures can.1

counted : (c : After-fetch_add) (o : OpenBlock) (x : Work) → (own_blocks c.args.broom.now).destination ≡ Some o
    → CanCount (broom_view c.args.broom.now) (owned_of o) x
    → c.fetch_add.new.seat.me.0 ≡ record (broom_view c.args.broom.now) {
      programs = (broom_view c.args.broom.now).programs ++ x.page ∷ [];
      owns = with_owned (owned_of (record o { written = o.written + 1 })) (broom_view c.args.broom.now).owns;
    }
counted c o x is can =
    count_view (of_broom c.requires.broom) o x can
    (c.pin_at-word.ensures ∙ ap (λ (y : OpenBlock). pin_index (device c.args.self.now) y.block) (same_block c.in-Some.is is)) c.fetch_add.ensures.2

pub invariant_of-broom-clause-owns : goal.invariant_of-broom-clause-owns
invariant_of-broom-clause-owns c =
    let s = c.args.broom.now in
    let o = c.in-Some.opened in
    let can = count_can c.args.self.now.geometry (broom_view s) c.in-Some.is c.requires.filled in
    just_now (counted (goal.at.invariant_of-broom-clause-owns c).After-fetch_add o can.0 c.in-Some.is can.1)
    (counted_just (own_blocks s) s.owns (record o { written = o.written + 1 }) c.in-Some.is refl)

pub returns-clause-counted : goal.returns-clause-counted
returns-clause-counted c = counted (goal.at.returns-clause-counted c).After-fetch_add

pub returns-clause-broom : goal.returns-clause-broom
returns-clause-broom c =
    let can = count_can c.args.self.now.geometry (broom_view c.args.broom.now) c.in-Some.is c.requires.filled in
    let changed = counted (goal.at.returns-clause-broom c).After-fetch_add c.in-Some.opened can.0 c.in-Some.is can.1 in
    stays_broom c.requires.broom c.fetch_add.ensures.0 (ap whose changed)
