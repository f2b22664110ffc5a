-- Which block is free after a mount.
use Rattle.std.proofs.Common.{◌≡◌, ◌≢◌, inl, ⊎_elim, ◌<◌, ◌≤◌, ℕ, List, [], length, Option, None, Some, get_or, refl, sym, ◌∙◌, subst, arith}
use Rattle.geometry.specs.Sectors.{Sector}
use Rattle.geometry.specs.declared.page_addr.PageAddr.{PageAddr}
use Rattle.durable.specs.declared.found.Candidate.{Candidate}
use Rattle.durable.specs.declared.memory.Core.{Core}
use Rattle.durable.specs.declared.extent.Extent.{Extent}
use Rattle.durable.specs.Flash.{Version, Flash, HasVersion, HoldsNewest, Recovers}
use Rattle.durable.specs.Collecting.{IsFree, CanCollect}
use Rattle.durable.specs.Spare.{IsDuplicated, LeavesSpare}
use Rattle.durable.specs.Candidates.{IsEntryOf, HasTwin, IsFreeable}
use Rattle.durable.specs.Mounting.{IsRead}
use Rattle.durable.proofs.Cells.{same_version}
use Rattle.durable.proofs.Kept.{Keeps}
use Rattle.durable.proofs.Scans.{seen, shows_best}
use Rattle.durable.proofs.Collects.{free_collects}
use Rattle.durable.proofs.Opened.{NoneOpen, none_some, nothing_open}

-- a version that was found in another block too has a twin there
twin_there : (found : Candidate) (b : ℕ) → found.at.block ≡ b → ((t : PageAddr) → found.twin ≡ Some t → t.block ≢ found.at.block) → (k : Option PageAddr)
    → found.twin ≡ k → k ≢ None → HasTwin [] found b
twin_there found b here apart None is some = absurd (some refl)
twin_there found b here apart (Some t) is some = (t, is, (λ e. apart t is (e ∙ sym here)), refl)

-- a free block, where its versions that were found have pages elsewhere
module _ (found : List (Option Candidate)) (map : List (Option PageAddr)) (avoided : ℕ) (size : length map ≡ length found)
    (entries : (s : ℕ) → s < length found → IsEntryOf (get_or found s None) (get_or map s None))
    (away : (s : ℕ) (x : Candidate) (at : PageAddr) → s < length found → get_or found s None ≡ Some x → get_or map s None ≡ Some at
    → (x.at.block ≡ avoided → HasTwin [] x avoided) → at.block ≢ avoided) (freeable : IsFreeable [] found avoided) where
  away_from : (s : ℕ) (at : PageAddr) (k : Option Candidate) → s < length found → get_or found s None ≡ k → IsEntryOf k (get_or map s None)
      → get_or map s None ≡ Some at → at.block ≢ avoided
  away_from s at None lt is entry mapped = absurd (none_some at (sym entry ∙ mapped))
  away_from s at (Some x) lt is entry mapped = away s x at lt is mapped (λ here. freeable s x lt is here)

  pub avoided_free : IsFree map avoided
  avoided_free = λ s at lt is. let inside : s < length found = omega (arith, lt, size) in away_from s at (get_or found s None) inside refl (entries s inside) is

-- with a free block there is room to collect, while none is open
pub closed_collects : (map : List (Option PageAddr)) (blocks pages b : ℕ) → b < blocks → IsFree map b
    → CanCollect map blocks pages (record { hosts = None; copies = None })
closed_collects map blocks pages b lt free = free_collects map blocks pages (record { hosts = None; copies = None })
    (b, lt, (λ at opened. absurd (nothing_open at opened)), free)
    (λ at opened. absurd (nothing_open at opened))

module _ (f : Flash) (array : ℕ → Sector) (pages b p : ℕ) (kept : List (Option Candidate)) (are : Keeps f pages b p kept)
    (all : (d q : ℕ) (e : Extent) (m : ℕ) (v : Sector) → f d q ≡ Version e m v → IsRead pages b p d q) (recovers : Recovers f (length kept) array) where
  -- each version that was found in a block whose newest versions are all elsewhere too has a twin
  pub duplicated_freeable : (e : ℕ) → IsDuplicated f (length kept) e → IsFreeable [] kept e
  duplicated_freeable e doubled = λ s x lt is here.
      let best = are.best s x lt is in
      let lone = are.lone s x lt is in
      let shows = shows_best f pages b p s (array s) x best (seen f pages b p all s) (recovers s lt) x.at best.0.0 best.0.1 in
      let other = doubled s x.at.page (array s) lt
      (record { newest = subst (λ (c : ℕ). HoldsNewest f s (array s) c x.at.page) here shows; valued = are.valued s x lt is }) in
      let mine : shows.number ≡ x.number = sym (same_version (f x.at.block x.at.page) s x.number best.0.0 s shows.number (array s) best.0.1 shows.held).0 in
      let upper : other.4.number ≤ shows.number = ⊎_elim (λ less. omega (arith, less)) (λ same. omega (arith, same.0))
      (shows.newest other.0 other.1 other.4.number other.2 other.4.held) in
      let lower : shows.number ≤ other.4.number = ⊎_elim (λ less. omega (arith, less)) (λ same. omega (arith, same.0))
      (other.4.newest x.at.block x.at.page shows.number (array s) shows.held) in
      let number : other.4.number ≡ x.number = omega (arith, mine, upper, lower) in
      twin_there x e here lone.1 x.twin refl (λ alone. other.3 (lone.0 alone other.0 other.1 other.2
      (seen f pages b p all s other.0 other.1 other.4.number other.2 other.4.held)
      (subst (λ (n : ℕ). HasVersion f other.0 other.1 s n other.2) number other.4.held) ∙ here))

pub spares : (f : Flash) (core : Core) (avoided : ℕ) → NoneOpen core.next_pages → avoided < core.blocks → IsFree core.map.items avoided → LeavesSpare f core
spares f core avoided closed lt free = inl (avoided, lt, (λ at opened. absurd (closed at opened)), free)
