use Rattle.std.proofs.Common.{rules, ◌≡◌, sym, ap, ◌∙◌, arith}
use Rattle.geometry.specs.{Geometry.endurance_of, Limits.Numbers, Words.pin_word, declared.words.Phase.TheVariants.Drained}
use Rattle.flash_rule.specs.declared.view.View.{View}
use Rattle.flash_table.specs.declared.broom_seat.{BroomBlocks.BroomBlocks}
use Rattle.flash_table.specs.Flash.{broom_view, own_blocks}
use Rattle.broom.proofs.Renewing.{was_wiped, its, did_retire, rested_retired}
use Rattle.shared_acceptance.proofs.Rested.{rested_loaded}
use Rattle.shared_acceptance.proofs.models.words.erase_in_steps.Goals as goal

pub returns-then-ne-clause-seat : goal.returns-then-ne-clause-seat
returns-then-ne-clause-seat c =
    rested_loaded c.args.flash.now c.args.seat.now c.load_state-state.new.broom c.requires.seat c.load_state-state.ensures.broom
    c.load_state-state.ensures.blocks c.args.block (pin_word c.load_state-state.result) c.load_state-state.ensures.loaded

pub wipe_all-requires-clause-erasing : goal.wipe_all-requires-clause-erasing
wipe_all-requires-clause-erasing c = (
  _,
  record {
    its = ap (λ (x : BroomBlocks). x.reclaiming) c.if-not-condemn.ensures.condemned.blocks;
    low = c.requires.block;
    within = c.load_state-state.ensures.ranges.1;
  },
)

pub wipe_all-requires-clause-none : goal.wipe_all-requires-clause-none
wipe_all-requires-clause-none c = ap (λ (v : View). v.wiped) c.if-not-condemn.ensures.condemned.changed

pub retire_block-requires-clause-last : goal.retire_block-requires-clause-last
retire_block-requires-clause-last c =
    let its = ap (λ (x : BroomBlocks). x.reclaiming) (c.wipe_all.ensures.blocks ∙ c.if-not-condemn.ensures.condemned.blocks) in (
      _,
      record {
        erases = record { its = its; low = c.requires.block; within = c.load_state-state.ensures.ranges.1 };
        last = c.if-state-endurance.false ∙ (c.endurance.ensures.value ∙ ap endurance_of c.geometry.ensures);
      },
    )

pub pin_word-word-requires-clause-seat : goal.pin_word-word-requires-clause-seat
pin_word-word-requires-clause-seat c = c.requires.watcher

pub returns-clause-watcher : goal.returns-clause-watcher
returns-clause-watcher c = c.pin_word-word.ensures

pub returns-clause-seat : goal.returns-clause-seat
returns-clause-seat c =
    let f = c.args.flash.now in
    let s = c.args.seat.now in
    let t = c.wipe_all.new.seat in
    let u = c.retire_block.new.broom in
    let p = c.load_state-state.result in
    let drained : p.phase ≡ Drained = search rules in
    let loaded : own_blocks c.load_state-state.new.broom ≡ own_blocks s = c.load_state-state.ensures.blocks in
    let wiped = was_wiped f s c.load_state-state.new.broom c.condemn.new.broom t c.args.block p c.requires.seat c.load_state-state.ensures.fits
    drained (omega arith) c.load_state-state.ensures.loaded loaded c.if-not-condemn.ensures.condemned c.wipe_all.ensures.wiped c.wipe_all.ensures.blocks in
    let endures : c.endurance.result ≡ (broom_view s).numbers.endurance =
    c.endurance.ensures.value ∙ (ap endurance_of c.geometry.ensures ∙ ap (λ (z : Numbers). z.endurance) (sym c.requires.seat.seat.numbers)) in
    let done = did_retire s t u c.args.block p wiped (c.if-state-endurance.false ∙ endures)
    (c.retire_block.ensures.retired _ (its s t c.args.block p wiped)) c.retire_block.ensures.blocks in
    rested_retired f s u c.args.block c.requires.seat c.retire_block.ensures.broom done
