-- What the losses that a mount tells say of the flash.
use Rattle.std.proofs.Common.{◌≡◌, ◌≢◌, inl, inr, ⊎_elim, ◌<◌, ◌≤◌, ℕ, List, length, Option, None, Some, get_or, refl, sym, ◌∙◌, ap, subst, arith}
use Rattle.geometry.specs.Sectors.{Sector}
use Rattle.durable.specs.declared.found.Candidate.{Candidate}
use Rattle.durable.specs.declared.mount.Mount.{Mount}
use Rattle.durable.specs.Flash.{Flash, HasVersion, HoldsNewest, HoldsNeeded, Recovers}
use Rattle.durable.specs.Device.{device_in, IsWrittenOn}
use Rattle.durable.specs.Losses.{IsGapless, HasNoLoss, IsPreferred, gaps_in, is_at, losses_in}
use Rattle.durable.specs.Mounting.{IsRead, IsBest, IsLone}
use Rattle.durable.specs.Calls.{HasNoted}
use Rattle.durable.specs.Candidates.{AreNeeded, IsEntryOf, HasTwin, IsFreeable}
use Rattle.durable.specs.Collecting.{IsFree}
use Rattle.durable.specs.Whole.{IsSafelyDuplicated, IsUnharmed, KeepsWhole}
use Rattle.durable.specs.declared.memory.Core.{Core}
use Rattle.geometry.specs.declared.page_addr.PageAddr.{PageAddr}
use Rattle.durable.proofs.Cells.{same_version}
use Rattle.durable.proofs.Opened.{NoneOpen, none_some}
use Rattle.durable.proofs.Kept.{Keeps, keeps, kept_some}
use Rattle.durable.proofs.Scans.{shows_best, some_is}
use Rattle.durable.proofs.Spares.{no_value}
use Rattle.durable.proofs.Losses.{found_has, has_of, at_is, no_gap, none_has_gap, none_lost, all_whole, none_whole, whole_none}

-- two newest versions of a sector have one number
pub same_newest : (f : Flash) (s b p d q : ℕ) (v w : Sector) (here : HoldsNewest f s v b p) (there : HoldsNewest f s w d q) → there.number ≡ here.number
same_newest f s b p d q v w here there =
    let upper : there.number ≤ here.number = ⊎_elim (λ less. omega (arith, less)) (λ same. omega (arith, same.0))
    (here.newest d q there.number w there.held) in
    let lower : here.number ≤ there.number = ⊎_elim (λ less. omega (arith, less)) (λ same. omega (arith, same.0))
    (there.newest b p here.number v here.held) in
    omega (arith, upper, lower)

module _ (mount : Mount) (at_end : mount.read_blocks ≤ mount.block) (f : Flash) (noted : HasNoted f mount) (written : IsWrittenOn (device_in mount) f)
    (kept : List (Option Candidate)) (needed : AreNeeded mount.valued.items mount.found.items kept) where
  all_seen : (s d q m : ℕ) (v : Sector) → HasVersion f d q s m v → IsRead mount.pages mount.block mount.page d q
  all_seen s d q m v e = let w = written d q e.0 m v e.1 in (w.1, inl (omega (arith, w.0, at_end)))

  are : Keeps f mount.pages mount.block mount.page kept
  are = keeps f mount.pages mount.block mount.page mount.valued.items mount.found.items kept noted.values needed mount.next_number
      noted.finds (λ d q s m v e. let w = written d q s m v e in (w.1, inl (omega (arith, w.0, at_end))))

  whole_of : (b : ℕ) → b < mount.read_blocks → gaps_in mount.gaps.items b ≡ 0 → IsGapless f b
  whole_of b lt none = λ p q s m v less is. none_whole f b mount.pages (sym (noted.counts.read b (omega (arith, lt, at_end))) ∙ none) p q s m v less
      (written b q s m v is).1 is

  no_loss_at : losses_in kept mount.gaps.items mount.read_blocks ≡ 0 → (s b p : ℕ) (v : Sector) → s < length kept
      → HoldsNeeded f s v b p → (k : Option Candidate) → get_or kept s None ≡ k
      → (d : ℕ) × (q : ℕ) × (w : Sector) × IsGapless f d × HoldsNewest f s w d q
  no_loss_at none s b p v lt shows None is = absurd (no_value f s (are.none s lt is) shows.valued)
  no_loss_at none s b p v lt shows (Some x) is =
      let best = are.best s x lt is in
      let w = written x.at.block x.at.page best.0.1.0 x.number best.0.0 best.0.1.1 in
      let has = found_has x.at.block kept s lt (ap (is_at x.at.block) is ∙ at_is x.at.block x refl) in
      let no_gap = none_lost kept mount.gaps.items mount.read_blocks none x.at.block w.0 has in (
        x.at.block,
        x.at.page,
        v,
        whole_of x.at.block w.0 no_gap,
        shows_best f mount.pages mount.block mount.page s v x best (all_seen s) (inl (b, p, shows.newest)) x.at best.0.0 best.0.1,
      )

  pub tells : losses_in kept mount.gaps.items mount.read_blocks ≡ 0 → HasNoLoss f (length mount.found.items)
  tells none = λ s b p v lt shows. no_loss_at none s b p v (omega (arith, lt, needed.0)) shows (get_or kept s None) refl

  -- of a flash that has lost no page, each page that was found is in a block without a gap; and where such a block beside it has the version too, so
  -- is its twin
  module _ (array : ℕ → Sector) (recovers : Recovers f (length mount.found.items) array) (s : ℕ) (x : Candidate) (lt : s < length kept)
      (is : get_or kept s None ≡ Some x) where
    inside : s < length mount.found.items
    inside = omega (arith, lt, needed.0)

    best : IsBest f mount.pages mount.block mount.page s (Some x)
    best = are.best s x lt is

    lone : IsLone f mount.pages mount.block mount.page s (Some x)
    lone = are.lone s x lt is

    prefers : IsPreferred f mount.pages mount.block mount.page mount.gaps.items s (Some x)
    prefers = subst (IsPreferred f mount.pages mount.block mount.page mount.gaps.items s)
        (kept_some mount.valued.items mount.found.items kept needed s x lt is).1 (noted.prefers s inside)

    shows : HoldsNewest f s (array s) x.at.block x.at.page
    shows = shows_best f mount.pages mount.block mount.page s (array s) x best (all_seen s) (recovers s inside) x.at best.0.0 best.0.1

    same_as_found : (d q : ℕ) (w : Sector) (there : HoldsNewest f s w d q) → HasVersion f d q s x.number w
    same_as_found d q w there =
        let mine : shows.number ≡ x.number =
        sym (same_version (f x.at.block x.at.page) s x.number best.0.0 s shows.number (array s) best.0.1 shows.held).0 in
        subst (λ (n : ℕ). HasVersion f d q s n w) (same_newest f s x.at.block x.at.page d q (array s) w shows there ∙ mine) there.held

    found_whole : HasNoLoss f (length mount.found.items) → gaps_in mount.gaps.items x.at.block ≡ 0
    found_whole no_loss =
        let there = no_loss s x.at.block x.at.page (array s) inside (record { newest = shows; valued = are.valued s x lt is }) in
        let w = written there.0 there.1 there.4.held.0 there.4.number there.2 there.4.held.1 in
        let before : there.0 < mount.block = omega (arith, w.0, at_end) in
        (prefers.0 there.0 there.1 there.2 before w.1 (same_as_found there.0 there.1 there.2 there.4)
        (noted.counts.read there.0 before ∙ whole_none f there.0 mount.pages there.3)).1

    twin_whole : (b : ℕ) → IsSafelyDuplicated f (length mount.found.items) b → x.at.block ≡ b → HasTwin mount.gaps.items x b
    twin_whole b doubled here =
        let there = doubled s x.at.page (array s) inside
        (record { newest = subst (λ (c : ℕ). HoldsNewest f s (array s) c x.at.page) here shows; valued = are.valued s x lt is }) in
        let w = written there.0 there.1 there.5.held.0 there.5.number there.2 there.5.held.1 in
        let before : there.0 < mount.block = omega (arith, w.0, at_end) in
        let twin = prefers.2 there.0 there.1 there.2 before w.1 (same_as_found there.0 there.1 there.2 there.5)
        (noted.counts.read there.0 before ∙ whole_none f there.0 mount.pages there.4) (λ e. there.3 (e ∙ here)) in
        (twin.0, twin.1, (λ e. lone.1 twin.0 twin.1 (e ∙ sym here)), none_has_gap mount.gaps.items twin.0.block twin.3)

  pub quiet : (array : ℕ → Sector) → Recovers f (length mount.found.items) array → HasNoLoss f (length mount.found.items)
      → losses_in kept mount.gaps.items mount.read_blocks ≡ 0
  quiet array recovers no_loss = all_whole kept mount.gaps.items mount.read_blocks (λ b within has.
      let at = has_of b kept has in
      subst (λ (k : ℕ). gaps_in mount.gaps.items k ≡ 0) at.4 (found_whole array recovers at.0 at.1 at.2 at.3 no_loss))

  -- a block that is safely doubled can be freed by twins in blocks without a gap
  pub safely_freeable : (array : ℕ → Sector) → Recovers f (length mount.found.items) array → (b : ℕ) → IsSafelyDuplicated f (length mount.found.items) b
      → IsFreeable mount.gaps.items kept b
  safely_freeable array recovers b doubled = λ s x lt is here. twin_whole array recovers s x lt is b doubled here

  -- the map's page of a sector is in a block without a gap
  pub entry_whole : (array : ℕ → Sector) → Recovers f (length mount.found.items) array → HasNoLoss f (length mount.found.items) → (avoided : ℕ)
      → IsFreeable mount.gaps.items kept avoided → (s : ℕ) → s < length kept → (entry : Option PageAddr)
      → ((x : Candidate) (at : PageAddr) → get_or kept s None ≡ Some x → entry ≡ Some at → at ≢ x.at → x.at.block ≡ avoided)
      → (k : Option Candidate) → get_or kept s None ≡ k → IsEntryOf k entry → (at : PageAddr) → entry ≡ Some at → IsGapless f at.block
  entry_whole array recovers no_loss avoided freeable s lt entry stays None is none at mapped = absurd (none_some at (sym none ∙ mapped))
  entry_whole array recovers no_loss avoided freeable s lt entry stays (Some x) is (inl here) at mapped =
      let best = best array recovers s x lt is in
      let w = written x.at.block x.at.page best.0.1.0 x.number best.0.0 best.0.1.1 in
      subst (λ (a : PageAddr). IsGapless f a.block) (some_is x.at at (sym here ∙ mapped))
      (whole_of x.at.block w.0 (found_whole array recovers s x lt is no_loss))
  entry_whole array recovers no_loss avoided freeable s lt entry stays (Some x) is (inr twin) at mapped =
      let best = best array recovers s x lt is in
      let lone = lone array recovers s x lt is in
      let same : twin.0 ≡ at = some_is twin.0 at (sym twin.2 ∙ mapped) in
      let apart : at ≢ x.at = λ e. lone.1 twin.0 twin.1 (ap (λ (a : PageAddr). a.block) (same ∙ e)) in
      let has = freeable s x lt is (stays x at is mapped apart) in
      let twin_same : has.0 ≡ at = some_is has.0 at (sym has.1 ∙ (twin.1 ∙ ap Some same)) in
      let held = best.2 has.0 has.1 in
      let w = written has.0.block has.0.page held.1.0 x.number held.0 held.1.1 in
      subst (λ (a : PageAddr). IsGapless f a.block) twin_same (whole_of has.0.block w.0 (no_gap mount.gaps.items has.0.block has.3))

  pub mounts_whole : (core : Core) (avoided : ℕ) → IsUnharmed f (device_in mount) → (array : ℕ → Sector) → Recovers f (length mount.found.items) array
      → length core.map.items ≡ length kept
      → ((s : ℕ) → s < length kept → IsEntryOf (get_or kept s None) (get_or core.map.items s None))
      → ((s : ℕ) (x : Candidate) (at : PageAddr) → s < length kept → get_or kept s None ≡ Some x
      → get_or core.map.items s None ≡ Some at → at ≢ x.at → x.at.block ≡ avoided)
      → ((b : ℕ) → b < mount.blocks → IsFreeable mount.gaps.items kept b → IsFreeable mount.gaps.items kept avoided)
      → NoneOpen core.next_pages → avoided < core.blocks → IsFree core.map.items avoided → KeepsWhole f core
  mounts_whole core avoided unharmed array recovers size entries stays first closed within free =
      let freeable = first unharmed.spare.0 unharmed.spare.1 (safely_freeable array recovers unharmed.spare.0 unharmed.spare.2) in
      record {
        mapped = λ s at lt is. let inside : s < length kept = omega (arith, lt, size) in
            entry_whole array recovers unharmed.no_loss avoided freeable s inside (get_or core.map.items s None)
            (λ x a found mapped. stays s x a inside found mapped) (get_or kept s None) refl (entries s inside) at is;
        full = λ at opened. absurd (closed at opened);
        spared = inl (avoided, within, (λ at opened. absurd (closed at opened)), free);
      }
