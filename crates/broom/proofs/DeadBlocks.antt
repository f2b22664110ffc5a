-- A block without live pages: how far its inspection has come, and what its drain comes to.
use Rattle.std.proofs.Common.{◌≡◌, ℕ, ◌≤◌, inr, ⊎_elim, List, [], ◌∷◌, ◌++◌, ap, sym, ◌∙◌, subst, arith}
use Rattle.std.specs.Prelude.{slice_index}
use mathlib.Core.Logic.{dite}
use native.Mathlib.Decide.{ℕ_discrete}
use Rattle.flash_rule.proofs.Points.{phase_or_not}
use Rattle.geometry.specs.Words.{FitsPin, pin_word}
use Rattle.geometry.specs.declared.words.{PinWord.PinWord, Phase.TheVariants.Closed, Phase.TheVariants.Drained, Phase.TheVariants.Victim}
use Rattle.flash_rule.specs.{declared.view.View.View, declared.facts.Owned.Owned, Views.AreOfHosts, Views.without, Views.with_owned}
use Rattle.flash_rule.specs.BroomPlays.{inspected_in, owned_as, Loaded}
use Rattle.flash_table.specs.declared.{flash.Flash.Flash, broom_seat.Reclaiming.TheVariants.Nothing, broom_seat.Reclaiming.TheVariants.Draining}
use Rattle.flash_table.specs.declared.broom_seat.{BroomBlocks.BroomBlocks, BroomSeat.BroomSeat, ReclaimedBlock.ReclaimedBlock}
use Rattle.flash_table.specs.{GivingUp.left_drained, Flash.IsBroomOf, Flash.broom_view, Flash.own_blocks}
use Rattle.broom.specs.{declared.broom.Broom.Broom, declared.answer.Drain.Drain, Ready.IsRested, Told.Unmarks, Told.counts_kept}
use Rattle.broom.specs.Dead.{ChoseVictim, DeadTold, DidDrainDead, PassedAll, InspectedTold, loaded_closed}
use Rattle.broom.proofs.{Choosing.rest_of, Choosing.rested_again, Renewing.loaded_stale}
use Rattle.broom.specs.declared.answer.Drain.TheVariants as drain

-- The sectors below this one were passed, and only the inspection has changed
pub record InspectedTo (f : Flash) (v : View) (x : BroomBlocks) (b generation s : ℕ) (t : BroomSeat) : Type 0 where
  pub seat : IsBroomOf f t
  pub blocks : own_blocks t ≡ x
  pub changed : broom_view t ≡ record v { inspection = (broom_view t).inspection }
  pub passed : s ≤ inspected_in (broom_view t).inspection b generation

-- a broom that saw nothing new, and changed only what being at rest doesn't speak of, rests again
pub rested_as : (f : Flash) (s t : BroomSeat) (w : View) → IsRested f s → IsBroomOf f t → own_blocks t ≡ own_blocks s → broom_view t ≡ w
    → rest_of w ≡ rest_of (broom_view s) → AreOfHosts w.numbers w.seen → IsRested f t
rested_as f s t w h seat blocks changed same callers =
    rested_again f s t h seat blocks (ap rest_of changed ∙ same) (subst (λ (x : View). AreOfHosts x.numbers x.seen) (sym changed) callers)

-- a load lists the state that it found
pub load_listed : (v w : View) (b n : ℕ) → Loaded v b n w → w.loaded ≡ v.loaded ++ (b, n) ∷ []
load_listed v w b n h =
    ⊎_elim
    (λ (drained : h.state.phase ≡ Drained). dite (ℕ_discrete h.state.readers 0)
    (λ none. ap (λ (x : View). x.loaded) (h.ready drained none)) (λ some. ap (λ (x : View). x.loaded) (h.busy drained (omega arith))))
    (λ (other : ¬ (h.state.phase ≡ Drained)). ap (λ (x : View). x.loaded) (h.stale other))
    (phase_or_not h.state.phase Drained)

-- the load, the inspection, the claim and the drain, one after the other
pub drained_dead : (v l m c w : View) (b : ℕ) (p : PinWord) → FitsPin p → p.phase ≡ Closed → Loaded v b (pin_word p) l → PassedAll l b p.generation m
    → c ≡ record m { owns = with_owned (owned_as b p Victim) m.owns; cleared = 0 }
    → w ≡ left_drained c (record { block = b; generation = p.generation; written = p.written }) → DidDrainDead v b w
drained_dead v l m c w b p fits closed load passed claimed drained =
    let loaded : l ≡ loaded_closed v b p = loaded_stale v l b p fits (λ is. let no : Closed ≡ Drained = sym closed ∙ is in absurd (cc)) load in
    let inspected : m ≡ record (loaded_closed v b p) { inspection = m.inspection } = passed.changed ∙ (λ i. record (loaded i) { inspection = m.inspection }) in
    let owns : List Owned = with_owned (owned_as b p Victim) m.owns in
    let won : c ≡ record (loaded_closed v b p) { inspection = m.inspection; owns = owns; cleared = 0 } =
    claimed ∙ (λ i. record (inspected i) { owns = owns; cleared = 0 }) in
    let left : List Owned = without b c.owns in
    let all : w
    ≡ record (loaded_closed v b p) {
      inspection = m.inspection;
      owns = left;
      cleared = 0;
      drains = v.drains ++ record { block = b; generation = p.generation } ∷ [];
      ceded = v.ceded ++ owned_as b p Drained ∷ [];
    } =
    drained
    ∙ (λ i. record (won i) {
      owns = left;
      drains = (won i).drains ++ record { block = b; generation = p.generation } ∷ [];
      ceded = (won i).ceded ++ owned_as b p Drained ∷ [];
    }) in
    let sectors : v.numbers.sectors ≡ l.numbers.sectors = ap (λ (x : View). x.numbers.sectors) (sym loaded) in
    let kept : m.inspection ≡ w.inspection = ap (λ (x : View). x.inspection) (sym all) in
    let most = passed.all in
    record {
      state = p;
      fits = fits;
      closed = closed;
      passed = subst (λ x. v.numbers.sectors ≤ inspected_in x b p.generation) kept (omega arith);
      changed = all
          ∙ (λ i. record (loaded_closed v b p) {
            inspection = (sym all i).inspection;
            owns = (sym all i).owns;
            cleared = 0;
            drains = v.drains ++ record { block = b; generation = p.generation } ∷ [];
            ceded = v.ceded ++ owned_as b p Drained ∷ [];
          });
    }

-- a victim that was claimed and drained is none of the broom's blocks
pub blocks_back : (x y z : BroomBlocks) (o : ReclaimedBlock) → x.reclaiming ≡ Nothing → y ≡ record x { reclaiming = Draining o }
    → z ≡ record y { reclaiming = Nothing } → z ≡ x
blocks_back x y z o rest claimed drained = drained ∙ ((λ i. record (claimed i) { reclaiming = Nothing }) ∙ (λ i. record x { reclaiming = sym rest i }))

-- and the broom rests again
pub rested_drained : (f : Flash) (s c t : BroomSeat) (o : ReclaimedBlock) (owns : List Owned) → IsRested f s → IsBroomOf f t → own_blocks t ≡ own_blocks s
    → broom_view c ≡ record (broom_view s) { owns = owns; cleared = 0 } → broom_view t ≡ left_drained (broom_view c) o → IsRested f t
rested_drained f s c t o owns h seat blocks claimed drained =
    rested_again f s t h seat blocks (ap rest_of drained ∙ ap rest_of claimed)
    (subst (λ (x : View). AreOfHosts x.numbers x.seen) (sym drained) (subst (λ (x : View). AreOfHosts x.numbers x.seen) (sym claimed) h.callers))

-- what follows a survey is what a drain of a block without live pages records
pub dead_told : (before r after : Broom) (b : ℕ) (result : Drain) → ChoseVictim before b r → slice_index (counts_kept r) b ≡ 0 → InspectedTold r b result after
    → Unmarks r b after → DeadTold before result after
dead_told before r after b (drain.Drained block copied) chose none told marks = (b, r, chose, none, told, marks)
dead_told before r after b drain.NothingToGain chose none told marks = absurd told
dead_told before r after b drain.NoSpare chose none told marks = inr (b, r, chose, none, told, marks)
dead_told before r after b drain.Lost chose none told marks = (b, r, chose, none, told, marks)
dead_told before r after b drain.QueueFull chose none told marks = absurd told
