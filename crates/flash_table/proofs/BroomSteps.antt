-- What each step of a broom asks of its seat, by what its call asks; those of an erase behind the others.
use Rattle.std.proofs.Common.{◌≡◌, ℕ, ◌+◌, ◌%◌, ◌^◌, ◌<◌, ◌==◌, true, Some, sym, arith}
use prog.Atomic.{either}
use mathlib.Core.Option.{none}
use Rattle.atomic_table.specs.Table.{step}
use Rattle.atomic_table.specs.declared.shared.Seat.{Seat}
use Rattle.geometry.specs.Words.{map_word, pin_word, pin_index, page_index, freed_added, kept_added}
use Rattle.geometry.specs.declared.words.MapWord.{MapWord}
use Rattle.geometry.specs.declared.words.PinWord.{PinWord}
use Rattle.geometry.specs.declared.words.TheConstants.{NEXT_PHASE}
use Rattle.flash_rule.specs.declared.facts.Owned.{Owned}
use Rattle.flash_rule.specs.declared.facts.Source.{Source}
use Rattle.flash_rule.specs.declared.view.View.{View}
use Rattle.flash_rule.specs.Views.{is_broom}
use Rattle.flash_rule.specs.BroomPlays.{CanGetStamp, CanMove, CanClaim, CanDrain, CanInspect, broom_look_told, stamp_told, inspect_told, source_told, move_told}
use Rattle.flash_rule.specs.BroomPlays.{state_told, claim_told, drain_told, CanCondemn, CanWipe, CanRenew, CanRetire, condemn_told, wipe_told, freed_told}
use Rattle.flash_rule.specs.BroomPlays.{kept_told, retired_told}
use Rattle.flash_rule.proofs.ReclaimAllowed.{state_allowed, claim_allowed, drain_allowed, condemn_allowed, freed_allowed, kept_allowed, retired_allowed}
use Rattle.flash_rule.proofs.Places.{page_within, pin_within}
use Rattle.flash_rule.proofs.BroomAllowed.{broom_look_allowed, inspect_allowed, stamp_allowed, source_allowed, move_allowed, wipe_allowed}
use Rattle.flash_table.specs.declared.flash.Flash.{Flash}
use Rattle.flash_table.specs.Flash.{device}
use Rattle.flash_table.proofs.Permissions.{IsSeatOf, IsPlace, Asks, slots_of, asks, asks_with, asks_pin, asks_sector}
use Rattle.flash_rule.specs.World.{blank_word}

module _ {f : Flash} {x : Seat (Unit {0}) View} (h : IsSeatOf f x) where
  -- ---- states of blocks
  pub state_here : {word : ℕ} (b : ℕ) → b < (device f).blocks → word ≡ pin_index (device f) b → is_broom x.me.0.role ≡ true
      → Asks f x word (λ n. n) (state_told (step (slots_of f) word 0 0 none) x.me)
  state_here b low at broom =
      asks_pin h (λ n. n) (λ w. state_told (step (slots_of f) w 0 0 none) x.me) b low at
      (state_allowed (device f) (slots_of f) x.id x.me b broom low)

  pub claim_here : {word : ℕ} (b old : ℕ) (p : PinWord) → b < (device f).blocks → word ≡ pin_index (device f) b → old ≡ pin_word p → is_broom x.me.0.role ≡ true
      → CanClaim x.me.0 b p
      → Asks f x word (λ n. either (n == old) (old + NEXT_PHASE) n) (claim_told (step (slots_of f) word old (old + NEXT_PHASE) none) x.me)
  claim_here b old p low at packed broom can =
      asks_with h (λ e n. either (n == e) (e + NEXT_PHASE) n) (λ w e. claim_told (step (slots_of f) w e (e + NEXT_PHASE) none) x.me)
      (pin_within (device f) b low) at packed (claim_allowed (device f) (slots_of f) x.id x.me b p broom can)

  pub drain_here : {word : ℕ} (o : Owned) → o.block < (device f).blocks → word ≡ pin_index (device f) o.block → CanDrain x.me.0 o
      → Asks f x word (λ n. (n + NEXT_PHASE) % 2 ^ 64) (drain_told (step (slots_of f) word NEXT_PHASE 0 none) x.me)
  drain_here o low at can =
      asks_pin h (λ n. (n + NEXT_PHASE) % 2 ^ 64) (λ w. drain_told (step (slots_of f) w NEXT_PHASE 0 none) x.me) o.block low at
      (drain_allowed (device f) (slots_of f) x.id x.me o can)

  -- ---- map words and page words
  pub broom_look_here : (s : ℕ) → s < (device f).sectors → Asks f x s (λ n. n) (broom_look_told (step (slots_of f) s 0 0 none) x.me)
  broom_look_here s low =
      asks_sector h (λ n. n) (broom_look_told (step (slots_of f) s 0 0 none) x.me) s low (broom_look_allowed (device f) (slots_of f) x.id x.me s h.player low)

  pub inspect_here : (b s : ℕ) (p : PinWord) → s < (device f).sectors → is_broom x.me.0.role ≡ true → CanInspect x.me.0 b p s
      → Asks f x s (λ n. n) (inspect_told (step (slots_of f) s 0 0 none) x.me)
  inspect_here b s p low broom can =
      asks_sector h (λ n. n) (inspect_told (step (slots_of f) s 0 0 none) x.me) s low (inspect_allowed (device f) (slots_of f) x.id x.me b s p broom can low)

  pub stamp_here : {word : ℕ} (o : Owned) → o.block < (device f).blocks → x.me.0.cleared < (device f).pages
      → word ≡ page_index (device f) o.block x.me.0.cleared + (device f).words → CanGetStamp x.me.0 o
      → Asks f x word (λ n. n) (stamp_told (step (slots_of f) word 0 0 none) x.me)
  stamp_here o low page at can =
      asks h (λ n. n) (λ w. stamp_told (step (slots_of f) w 0 0 none) x.me)
      (page_within (device f) o.block x.me.0.cleared (device f).words low page (omega arith)) at
      (stamp_allowed (device f) (slots_of f) x.id x.me o h.player h.numbers can)

  pub source_here : {word : ℕ} (y : Source) (i : ℕ) → y.page.block < (device f).blocks → y.page.page < (device f).pages → i < (device f).words
      → word ≡ page_index (device f) y.page.block y.page.page + i → x.me.0.source ≡ Some y
      → Asks f x word (λ n. n) (source_told (step (slots_of f) word 0 0 none) x.me)
  source_here y i block page low at source =
      asks h (λ n. n) (λ w. source_told (step (slots_of f) w 0 0 none) x.me) (page_within (device f) y.page.block y.page.page i block page (omega arith)) at
      (source_allowed (device f) (slots_of f) x.id x.me y i h.player h.numbers source low)

  pub move_here : (s old new : ℕ) (y : Source) (copy : MapWord) → s < (device f).sectors → y.stamp ≡ s → old ≡ map_word y.page → new ≡ map_word copy
      → CanMove x.me.0 y copy
      → Asks f x s (λ n. either (n == old) new n) (move_told (step (slots_of f) s old new none) x.me)
  move_here s old new y copy low stamp from to can =
      let sector : y.stamp < (device f).sectors = omega arith in
      let within : IsPlace f y.stamp = omega arith in
      asks_with h (λ (e : ℕ × ℕ) n. either (n == e.0) e.1 n) (λ w e. move_told (step (slots_of f) w e.0 e.1 none) x.me) within (sym stamp) (λ i. (from i, to i))
      (move_allowed (device f) (slots_of f) x.id x.me y copy h.player can sector)

module _ {f : Flash} {x : Seat (Unit {0}) View} (h : IsSeatOf f x) where
  pub condemn_here : {word : ℕ} (b old : ℕ) (p : PinWord) → b < (device f).blocks → word ≡ pin_index (device f) b → old ≡ pin_word p
      → is_broom x.me.0.role ≡ true → CanCondemn x.me.0 b p
      → Asks f x word (λ n. either (n == old) (old + NEXT_PHASE) n) (condemn_told (step (slots_of f) word old (old + NEXT_PHASE) none) x.me)
  condemn_here b old p low at packed broom can =
      asks_with h (λ e n. either (n == e) (e + NEXT_PHASE) n) (λ w e. condemn_told (step (slots_of f) w e (e + NEXT_PHASE) none) x.me)
      (pin_within (device f) b low) at packed (condemn_allowed (device f) (slots_of f) x.id x.me b p broom can)

  pub wipe_here : {word : ℕ} (o : Owned) → IsPlace f (page_index (device f) o.block 0 + x.me.0.wiped)
      → word ≡ page_index (device f) o.block 0 + x.me.0.wiped → CanWipe x.me.0 o
      → Asks f x word (λ _. blank_word) (λ _. wipe_told (step (slots_of f) word blank_word 0 none) x.me blank_word)
  wipe_here o within at can =
      asks h (λ _. blank_word) (λ w _. wipe_told (step (slots_of f) w blank_word 0 none) x.me blank_word) within at
      (wipe_allowed (device f) (slots_of f) x.id x.me o h.player h.numbers can)

  pub freed_here : {word : ℕ} (added : ℕ) (o : Owned) → o.block < (device f).blocks → word ≡ pin_index (device f) o.block → added ≡ freed_added o.written
      → CanRenew x.me.0 o
      → Asks f x word (λ n. (n + added) % 2 ^ 64) (freed_told (step (slots_of f) word added 0 none) x.me)
  freed_here added o low at adds can =
      asks_with h (λ e n. (n + e) % 2 ^ 64) (λ w e. freed_told (step (slots_of f) w e 0 none) x.me) (pin_within (device f) o.block low) at adds
      (freed_allowed (device f) (slots_of f) x.id x.me o can)

  pub kept_here : {word : ℕ} (added : ℕ) (o : Owned) → o.block < (device f).blocks → word ≡ pin_index (device f) o.block → added ≡ kept_added o.written
      → CanRenew x.me.0 o
      → Asks f x word (λ n. (n + added) % 2 ^ 64) (kept_told (step (slots_of f) word added 0 none) x.me)
  kept_here added o low at adds can =
      asks_with h (λ e n. (n + e) % 2 ^ 64) (λ w e. kept_told (step (slots_of f) w e 0 none) x.me) (pin_within (device f) o.block low) at adds
      (kept_allowed (device f) (slots_of f) x.id x.me o can)

  pub retired_here : {word : ℕ} (o : Owned) → o.block < (device f).blocks → word ≡ pin_index (device f) o.block → CanRetire x.me.0 o
      → Asks f x word (λ n. (n + NEXT_PHASE) % 2 ^ 64) (retired_told (step (slots_of f) word NEXT_PHASE 0 none) x.me)
  retired_here o low at can =
      asks_pin h (λ n. (n + NEXT_PHASE) % 2 ^ 64) (λ w. retired_told (step (slots_of f) w NEXT_PHASE 0 none) x.me) o.block low at
      (retired_allowed (device f) (slots_of f) x.id x.me o can)
