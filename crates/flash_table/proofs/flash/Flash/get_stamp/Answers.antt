use Rattle.flash_table.proofs.{Permissions.whose, Permissions.of_broom, Blocks.just_now, BroomSteps.stamp_here, flash.Flash.get_stamp.Goals.After-load}
use Rattle.std.proofs.Common.{◌≡◌, ◌+◌, ◌<◌, ℕ, ap, ◌∙◌, subst}
use Rattle.geometry.specs.{Geometry.blocks_of, Words.page_index, declared.words.Phase.TheVariants.Victim}
use Rattle.flash_rule.specs.BroomPlays.{GotStamp}
use Rattle.flash_table.specs.{Flash.device, Flash.broom_view, Flash.own_blocks, Flash.geometry_of, Owning.reclaimed_as, Steps.IsOfVictim}
use Rattle.flash_table.specs.declared.{broom_seat.BroomSeat.BroomSeat, broom_seat.ReclaimedBlock.ReclaimedBlock, flash.Flash.Flash}
use Rattle.flash_table.proofs.BroomResults.{stays_broom, of_draining, draining_same, stamp_can, stamp_view, stamp_changed}
use Rattle.flash_table.specs.declared.broom_seat.Reclaiming.TheVariants as reclaiming
use Rattle.flash_table.proofs.flash.Flash.get_stamp.Goals as goal

written : (f : Flash) (s : BroomSeat) (o : ReclaimedBlock) (page : ℕ) → (own_blocks s).reclaiming ≡ reclaiming.Draining o
    → IsOfVictim (geometry_of f) (own_blocks s) page → (o.block < blocks_of (geometry_of f)) × (page < o.written)
written f s o page is = of_draining (λ (y : ReclaimedBlock). (y.block < blocks_of (geometry_of f)) × (page < y.written)) (own_blocks s).reclaiming o is

pub load-requires : goal.load-requires
load-requires c =
    let f = c.args.self.now in
    let o = c.in-Draining.victim in
    let its = written f c.args.broom.now o c.args.page c.in-Draining.is c.requires.next in
    let at : c.page_word_at-place.result ≡ page_index (device f) o.block c.args.page + (device f).words =
    c.page_word_at-place.ensures ∙ ap (λ i. page_index (device f) o.block c.args.page + i) c.words.ensures.value in
    stamp_here (of_broom c.requires.broom) (reclaimed_as Victim o) its.0 (subst (λ k. k < (device f).pages) c.requires.cleared c.requires.page)
    (at ∙ ap (λ k. page_index (device f) o.block k + (device f).words) c.requires.cleared)
    (stamp_can c.requires.broom o c.args.page c.in-Draining.is its.1 c.requires.cleared)

got : (c : After-load) → GotStamp (broom_view c.args.broom.now) (reclaimed_as Victim c.in-Draining.victim) c.load.result c.load.new.seat.me.0
got c =
    let f = c.args.self.now in
    let o = c.in-Draining.victim in
    let its = written f c.args.broom.now o c.args.page c.in-Draining.is c.requires.next in
    stamp_view c.requires.broom c.args.page o (stamp_can c.requires.broom o c.args.page c.in-Draining.is its.1 c.requires.cleared) c.requires.cleared
    (c.page_word_at-place.ensures ∙ ap (λ i. page_index (device f) o.block c.args.page + i) c.words.ensures.value) c.load.ensures.2

pub invariant_of-broom-clause-owns : goal.invariant_of-broom-clause-owns
invariant_of-broom-clause-owns c =
    just_now (stamp_changed _ _ _ _ (got (goal.at.invariant_of-broom-clause-owns c).After-load)) c.args.broom.now.owns

pub returns-clause-stamp : goal.returns-clause-stamp
returns-clause-stamp c e is =
    let same = draining_same c.in-Draining.is is in
    subst (λ (y : ReclaimedBlock). GotStamp (broom_view c.args.broom.now) (reclaimed_as Victim y) c.load.result c.load.new.seat.me.0) same
    (got (goal.at.returns-clause-stamp c).After-load)

pub returns-clause-broom : goal.returns-clause-broom
returns-clause-broom c = stays_broom c.requires.broom c.load.ensures.0 (ap whose (stamp_changed _ _ _ _ (got (goal.at.returns-clause-broom c).After-load)))
