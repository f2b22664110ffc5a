-- Each step of a broom on a pin word, as the table asks for it: whatever the table is, the step keeps the rule and tells what it says.
use Rattle.flash_rule.proofs.Words.{◌≡◌, ◌≢◌, ℕ, ◌+◌, ◌%◌, ◌^◌, ◌<◌, ◌≤◌, ⊎_elim, ◌==◌, true, List, [], ◌∷◌, ◌++◌, set, sym, refl, ap, ◌∙◌, subst, arith}
use Rattle.flash_rule.proofs.Words.{get_or, either, none, dite, ℕ_discrete, State, step, keeps, stepped, Allows, Numbers, pin_word, FitsPin, freed_added}
use Rattle.flash_rule.proofs.Words.{kept_added, pin_index, PinWord, Open, Closed, Victim, Drained, Erasing, Retired, NEXT_PHASE, Owned, View, is_broom, without}
use Rattle.flash_rule.proofs.Words.{with_owned, World, is_owned, freed_as, Lawful, Ruled, Sitter, CanClaim, Claimed, CanCondemn, Condemned, CanDrain, CanRenew}
use Rattle.flash_rule.proofs.Words.{CanRetire, owned_as, cycle_of, claim_told, condemn_told, drain_told, freed_told, kept_told, retired_told, LawfulLoads}
use Rattle.flash_rule.proofs.Words.{slice_get, Some, eq-eqb, ne_eqb}
use Rattle.flash_rule.proofs.{Frames.state_fits, Owning.get_last, Owning.Seated, Owning.view_of, OwnSteps.Deeds, OwnSteps.deeds, OwnSteps.turned}
use Rattle.flash_rule.proofs.Points.{player_of, broom_player, broom_live, phase_or_not}
use Rattle.flash_rule.proofs.Ruling.{Does, Found, ruled_as, ruled_still, same_block, owner_adds}
use Rattle.flash_rule.proofs.Reclaiming.{unowned, notes, claims, claimer, condemns, condemner, condemn_deeds, drains_block, drained_state, retires}
use Rattle.flash_rule.proofs.Reclaiming.{retired_state, frees, freed_state, keeps_block, kept_state, erasing_low, erasing_written, is_erasing}
use Rattle.flash_rule.specs.BroomPlays.{Loaded, state_told}
use Rattle.geometry.proofs.WordBits as bits

module _ (z : Numbers) (slots id : ℕ) (me : Sitter) where
  numbers_now : {g : World} {vs : List View} → Seated z g vs id me.0 → is_broom me.0.role ≡ true → me.0.numbers ≡ z
  numbers_now sat broom = (view_of sat).kind.numbers (broom_live me.0.role broom)

  -- a broom loads the state of a block
  pub state_allowed : (b : ℕ) → is_broom me.0.role ≡ true → b < z.blocks
      → Allows (Ruled z) slots id me (pin_index z b) (λ n. n) (state_told (step slots (pin_index z b) 0 0 none) me)
  state_allowed b broom low t (g, fits, law) _ at _ =
      let on : Found z id me t g = record { fits = fits; sat = record { law = law; at = at } } in
      let v : View = me.0 in
      let p : PinWord = g.pins b in
      let k : ℕ = pin_index z b in
      let n : ℕ = get_or t.words k 0 in
      let found : n ≡ pin_word p = fits.blocks b low in
      let fitting = state_fits law b low in
      let numbers = numbers_now on.sat broom in
      let young : p.generation < v.numbers.endurance = subst (λ (y : Numbers). p.generation < y.endurance) (sym numbers) (law.blocks b low).generation in
      let within : p.written ≤ v.numbers.pages = subst (λ (y : Numbers). p.written ≤ y.pages) (sym numbers) (law.blocks b low).written in
      let noted : List (ℕ × ℕ) = v.loaded ++ (b, n) ∷ [] in
      let loads : LawfulLoads z g noted = λ k c q is fits closed c_low.
      ⊎_elim (λ (was : slice_get v.loaded k ≡ Some (c, pin_word q)). (view_of on.sat).knowledge.loads k c q was fits closed c_low)
      (grind arith) (get_last v.loaded (b, n) (c, pin_word q) k is) in
      let after : List ℕ → List ℕ → View = λ busy stale. record v { loaded = noted; busy = busy; stale = stale } in
      let answer : (busy stale : List ℕ) → (p.phase ≡ Drained → p.readers ≡ 0 → after busy stale ≡ after v.busy v.stale)
      → (p.phase ≡ Drained → 0 < p.readers → after busy stale ≡ after (v.busy ++ b ∷ []) v.stale)
      → (¬ (p.phase ≡ Drained) → after busy stale ≡ after v.busy (v.stale ++ b ∷ []))
      → Does z id me t k n (state_told (step slots k 0 0 none) me n) = λ busy stale ready held old.
      let w : View = after busy stale in
      let told : Loaded v b n w = grind arith in (
        w,
        keeps,
        tt,
        ruled_still on b low w n refl (notes on.sat noted v.lost busy stale loads),
        (
          refl,
          λ c _ is.
              subst (λ (j : ℕ). Loaded v j n w) (same_block z me numbers b c is) told,
        ),
      ) in
      ⊎_elim
      (λ (drained : p.phase ≡ Drained). dite (ℕ_discrete p.readers 0)
      (λ none. answer v.busy v.stale (λ _ _. refl) (λ _ some. absurd (omega arith)) (λ not. absurd (not drained)))
      (λ some. answer (v.busy ++ b ∷ []) v.stale (λ _ none. absurd (some none)) (λ _ _. refl) (λ not. absurd (not drained))))
      (λ (other : ¬ (p.phase ≡ Drained)).
      answer v.busy (v.stale ++ b ∷ []) (λ drained _. absurd (other drained)) (λ drained _. absurd (other drained)) (λ _. refl))
      (phase_or_not p.phase Drained)

  -- ---- an exchange
  -- it finds the expected word, and the block turns, or it finds another one, and only the seat's notes change
  exchange : {t : State (Unit {0}) View} {g : World} (on : Found z id me t g) (b : ℕ) (p q : PinWord) (d : Deeds) (won lost : View) (Tells : View → Type 0)
      → b < z.blocks → FitsPin p → (g.pins b ≡ p → pin_word (g.pins b) + NEXT_PHASE ≡ pin_word q)
      → (get_or t.words (pin_index z b) 0 ≡ pin_word p → g.pins b ≡ p → Lawful z (turned g b q id d) (set t.views id won) × Tells won)
      → (get_or t.words (pin_index z b) 0 ≢ pin_word p → Lawful z g (set t.views id lost) × Tells lost)
      → (w : View) × Ruled z (stepped t (pin_index z b)
      (either (get_or t.words (pin_index z b) 0 == pin_word p) (pin_word p + NEXT_PHASE) (get_or t.words (pin_index z b) 0)) id me.1 w keeps) × Tells w
  exchange {t} {g} on b p q d won lost Tells low fitting next wins loses =
      let n : ℕ = get_or t.words (pin_index z b) 0 in
      let old : ℕ = pin_word p in
      let new : ℕ = pin_word p + NEXT_PHASE in
      let found : n ≡ pin_word (g.pins b) = on.fits.blocks b low in
      dite (ℕ_discrete n old)
      (λ (is : n ≡ old).
      let same : g.pins b ≡ p = bits.pin_same (g.pins b) p (state_fits on.sat.law b low) fitting (sym found ∙ is) in
      let now : either (n == old) new n ≡ pin_word q =
      ap (λ b. either b new n) (eq-eqb n old is) ∙ (ap (λ (y : PinWord). pin_word y + NEXT_PHASE) (sym same) ∙ next same) in
      let k = wins is same in (won, ruled_as on b low q id d won (either (n == old) new n) now k.0, k.1))
      (λ (other : n ≢ old).
      let k = loses other in (lost, ruled_still on b low lost (either (n == old) new n) (ap (λ b. either b new n) (ne_eqb n old other)) k.0, k.1))

  -- what it records is of the block and of the state that were asked for
  told_of : (Won : ℕ → PinWord → Type 0) (b : ℕ) (p : PinWord) → me.0.numbers ≡ z → FitsPin p → Won b p → (c : ℕ) (q : PinWord) → FitsPin q
      → pin_index z b ≡ pin_index me.0.numbers c → pin_word p ≡ pin_word q → Won c q
  told_of Won b p numbers fitting told c q fitting' is first = grind arith

  -- a broom exchanges a closed block's word for a victim's
  pub claim_allowed : (b : ℕ) (p : PinWord) → is_broom me.0.role ≡ true → CanClaim me.0 b p
      → Allows (Ruled z) slots id me (pin_index z b) (λ n. either (n == pin_word p) (pin_word p + NEXT_PHASE) n)
      (claim_told (step slots (pin_index z b) (pin_word p) (pin_word p + NEXT_PHASE) none) me)
  claim_allowed b p broom can t (g, fits, law) _ at _ =
      let on : Found z id me t g = record { fits = fits; sat = record { law = law; at = at } } in
      let v : View = me.0 in
      let n : ℕ = get_or t.words (pin_index z b) 0 in
      let numbers = numbers_now on.sat broom in
      let low : b < z.blocks = subst (λ (y : Numbers). b < y.blocks) numbers can.low in
      let closed : g.pins b ≡ p → (g.pins b).phase ≡ Closed = λ same. ap (λ (y : PinWord). y.phase) same ∙ can.closed in
      let e = exchange on b p (record (g.pins b) { phase = Victim }) (deeds g) (claimer on.sat b broom low can.rested) (record v { lost = v.lost ++ b ∷ [] })
      (Claimed v b p n) low can.fits (λ same. bits.next_phase (g.pins b) Closed Victim (closed same) refl)
      (λ is same. (
        claims on.sat b broom low can.rested (closed same),
        record {
          fresh = λ _. unowned on.sat b (ap is_owned (closed same));
          won = λ _. ap (λ (y : PinWord). record v { owns = with_owned (owned_as b y Victim) v.owns; cleared = 0 }) same;
          lost = λ not. absurd (not is);
        },
      ))
      (λ other. (
        notes on.sat v.loaded (v.lost ++ b ∷ []) v.busy v.stale (view_of on.sat).knowledge.loads,
        record { fresh = λ is. absurd (other is); won = λ is. absurd (other is); lost = λ _. refl },
      )) in
      (e.0, keeps, tt, e.1, (refl, λ c y can' is first. told_of (λ c y. Claimed v c y n e.0) b p numbers can.fits e.2 c y can'.fits is first))

  -- a broom exchanges the word of a drained block without readers for an erasing one's
  pub condemn_allowed : (b : ℕ) (p : PinWord) → is_broom me.0.role ≡ true → CanCondemn me.0 b p
      → Allows (Ruled z) slots id me (pin_index z b) (λ n. either (n == pin_word p) (pin_word p + NEXT_PHASE) n)
      (condemn_told (step slots (pin_index z b) (pin_word p) (pin_word p + NEXT_PHASE) none) me)
  condemn_allowed b p broom can t (g, fits, law) _ at _ =
      let on : Found z id me t g = record { fits = fits; sat = record { law = law; at = at } } in
      let v : View = me.0 in
      let n : ℕ = get_or t.words (pin_index z b) 0 in
      let numbers = numbers_now on.sat broom in
      let low : b < z.blocks = subst (λ (y : Numbers). b < y.blocks) numbers can.low in
      let name = player_of v.role (broom_player v.role broom) in
      let drained : g.pins b ≡ p → (g.pins b).phase ≡ Drained = λ same. ap (λ (y : PinWord). y.phase) same ∙ can.drained in
      let e = exchange on b p (record (g.pins b) { phase = Erasing }) (condemn_deeds on.sat b broom low can.rested name.0)
      (condemner on.sat b broom low can.rested) (record v { busy = v.busy ++ b ∷ [] })
      (Condemned v b p n) low can.fits (λ same. bits.next_phase (g.pins b) Drained Erasing (drained same) refl)
      (λ is same. (
        condemns on.sat b broom low can.rested name.0 name.1 (drained same) (ap (λ (y : PinWord). y.readers) same ∙ can.unread),
        record {
          fresh = λ _. unowned on.sat b (ap is_owned (drained same));
          won = grind arith;
          busy = λ not. absurd (not is);
        },
      ))
      (λ other. (
        notes on.sat v.loaded v.lost (v.busy ++ b ∷ []) v.stale (view_of on.sat).knowledge.loads,
        record { fresh = λ is. absurd (other is); won = λ is. absurd (other is); busy = λ _. refl },
      )) in
      (e.0, keeps, tt, e.1, (refl, λ c y can' is first. told_of (λ c y. Condemned v c y n e.0) b p numbers can.fits e.2 c y can'.fits is first))

  -- the owner of a cleared victim gives it up
  pub drain_allowed : (o : Owned) → CanDrain me.0 o
      → Allows (Ruled z) slots id me (pin_index z o.block) (λ n. (n + NEXT_PHASE) % 2 ^ 64) (drain_told (step slots (pin_index z o.block) NEXT_PHASE 0 none) me)
  drain_allowed o can =
      owner_adds z slots id me o NEXT_PHASE (CanDrain me.0) (λ e.
      record me.0 {
        owns = without e.block me.0.owns;
        drains = me.0.drains ++ cycle_of e ∷ [];
        ceded = me.0.ceded ++ record e { phase = Drained } ∷ [];
      }) (λ e may. may.own) can
      (λ g vs sat. (
        drained_state sat o,
        bits.next_phase (g.pins o.block) Victim Drained (((view_of sat).holding.owned o.block o can.own).phase ∙ can.victim) refl,
        drains_block sat o can,
      ))

  -- ---- free, keep, retire
  -- the eraser of a wiped block makes it free
  pub freed_allowed : (o : Owned) → CanRenew me.0 o
      → Allows (Ruled z) slots id me (pin_index z o.block) (λ n. (n + freed_added o.written) % 2 ^ 64)
      (freed_told (step slots (pin_index z o.block) (freed_added o.written) 0 none) me)
  freed_allowed o can =
      owner_adds z slots id me o (freed_added o.written) (CanRenew me.0)
      (λ e. record me.0 { owns = without e.block me.0.owns; ceded = me.0.ceded ++ freed_as e ∷ [] }) (λ e may. may.erasing.own) can
      (λ g vs sat. (
        freed_state sat can.erasing,
        ap (λ (y : ℕ). pin_word (g.pins o.block) + freed_added y) (sym (erasing_written sat can.erasing))
            ∙ bits.frees (g.pins o.block) (state_fits sat.law o.block (erasing_low sat can.erasing))
            (is_erasing sat can.erasing),
        frees sat can.erasing can,
      ))

  -- or keeps it
  pub kept_allowed : (o : Owned) → CanRenew me.0 o
      → Allows (Ruled z) slots id me (pin_index z o.block) (λ n. (n + kept_added o.written) % 2 ^ 64)
      (kept_told (step slots (pin_index z o.block) (kept_added o.written) 0 none) me)
  kept_allowed o can =
      owner_adds z slots id me o (kept_added o.written) (CanRenew me.0) (λ e.
      record me.0 { owns = with_owned (record { block = e.block; phase = Open; generation = e.generation + 1; written = 0 }) me.0.owns })
      (λ e may. may.erasing.own) can
      (λ g vs sat. (
        kept_state sat can.erasing,
        ap (λ (y : ℕ). pin_word (g.pins o.block) + kept_added y) (sym (erasing_written sat can.erasing))
            ∙ bits.keeps (g.pins o.block) (state_fits sat.law o.block (erasing_low sat can.erasing))
            (is_erasing sat can.erasing),
        keeps_block sat can.erasing can,
      ))

  -- or retires it
  pub retired_allowed : (o : Owned) → CanRetire me.0 o
      → Allows (Ruled z) slots id me (pin_index z o.block) (λ n. (n + NEXT_PHASE) % 2 ^ 64)
      (retired_told (step slots (pin_index z o.block) NEXT_PHASE 0 none) me)
  retired_allowed o can =
      owner_adds z slots id me o NEXT_PHASE (CanRetire me.0)
      (λ e. record me.0 { owns = without e.block me.0.owns; ceded = me.0.ceded ++ record e { phase = Retired } ∷ [] }) (λ e may. may.erasing.own) can
      (λ g vs sat. (
        retired_state sat can.erasing,
        bits.next_phase (g.pins o.block) Erasing Retired (is_erasing sat can.erasing) refl,
        retires sat can.erasing,
      ))
