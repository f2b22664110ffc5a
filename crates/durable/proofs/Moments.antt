-- What each command leaves, whether a crash cuts it short or it succeeds.
use Rattle.std.proofs.Common.{◌≡◌, ◌≢◌, inl, inr, ⊎_elim, ◌<◌, ℕ, List, length, Option, None, Some, get_or, set, sym, ◌∙◌, subst, arith}
use Rattle.std.proofs.lemmas.Bool.{cases_eq}
use Rattle.std.proofs.lemmas.List.{get_or-set_same, get_or-set_other}
use Rattle.geometry.specs.Sectors.{Sector}
use Rattle.geometry.specs.declared.page_addr.PageAddr.{PageAddr}
use Rattle.durable.specs.declared.memory.Core.{Core}
use Rattle.durable.specs.Flash.{PageContents, Erased, Torn, Version, Flash, HoldsNewest, RecoversSector, Recovers, SetsPage, LosesPages}
use Rattle.durable.specs.declared.extent.Extent.{Extent}
use Rattle.durable.specs.Updates.{Covers, changed}
use Rattle.durable.specs.declared.next_pages.NextPages.{NextPages}
use Rattle.durable.specs.Collecting.{IsFree, IsOpenAt, MapsAll}
use Rattle.durable.specs.Memory.{map_entry, IsMappedTo, AreErasedFrom, Represents}
use Rattle.durable.proofs.Extents.{cases_covered, changed_here, changed_elsewhere}
use Rattle.durable.proofs.Opened.{IsAfter}
use Rattle.durable.proofs.Cells.{torn_has_none, version_is, reads_kept, kept_in_loss, kept_beside, program_shows, copy_shows}

module _ (f t : Flash) (core : Core) (array : ℕ → Sector) (stands : Represents f core array) where
  abbrev sectors : ℕ
  sectors = length core.map.items

  pub same_mounts : ((b p : ℕ) → t b p ≡ f b p) → Recovers t sectors array
  same_mounts same s lt = subst (λ (g : Flash). RecoversSector g s (array s)) (λ i b p. sym (same b p) i) (reads_kept f s (array s) (map_entry core s)
      (stands.mapped s lt))

  pub lost_mounts : (b : ℕ) → IsFree core.map.items b → LosesPages f t b → Recovers t sectors array
  lost_mounts b none loses s lt = reads_kept t s (array s) (map_entry core s) (kept_in_loss f t b s (array s) (map_entry core s) (stands.mapped s lt)
      (λ at is. none s at lt is) loses)

  pub erased_next : (at : PageAddr) → IsOpenAt core.next_pages at → f at.block at.page ≡ Erased
  erased_next at is = stands.erased at is at.page (omega arith)

  -- after a torn page each sector is kept as before
  pub torn_kept : (at : PageAddr) → IsOpenAt core.next_pages at → SetsPage f t at.block at.page Torn → (s : ℕ) → s < sectors
      → IsMappedTo t s (array s) (map_entry core s)
  torn_kept at is puts s lt = kept_beside f t at.block at.page Torn (erased_next at is) puts s (array s) (map_entry core s) (stands.mapped s lt)
      (λ m d h. absurd (torn_has_none s m d h))

  pub torn_mounts : (at : PageAddr) → IsOpenAt core.next_pages at → SetsPage f t at.block at.page Torn → Recovers t sectors array
  torn_mounts at is puts s lt = reads_kept t s (array s) (map_entry core s) (torn_kept at is puts s lt)

  -- a program puts the content of its sectors there, and changes no other sector
  pub programmed_kept : (at : PageAddr) → IsOpenAt core.next_pages at → (e : Extent) (n : ℕ) (c : Sector) → n ≡ core.next_number
      → SetsPage f t at.block at.page (Version e n c) → (s : ℕ) → s < sectors → ¬ Covers e s → IsMappedTo t s (array s) (map_entry core s)
  programmed_kept at is e n c number puts s lt out = kept_beside f t at.block at.page (Version e n c) (erased_next at is) puts s (array s)
      (map_entry core s) (stands.mapped s lt) (λ m d h. absurd (out (version_is e n c s m d h).0))

  pub programmed_shows : (at : PageAddr) → IsOpenAt core.next_pages at → (e : Extent) (n : ℕ) (c : Sector) → n ≡ core.next_number
      → SetsPage f t at.block at.page (Version e n c) → (s : ℕ) → Covers e s → HoldsNewest t s c at.block at.page
  programmed_shows at is e n c number puts s has = program_shows f t at.block at.page e s n c (λ d q r m v h. subst (λ (x : ℕ). m < x) (sym number)
      (stands.numbers d q r m v h)) (erased_next at is) puts has

  pub programmed_mounts : (at : PageAddr) → IsOpenAt core.next_pages at → (e : Extent) (n : ℕ) (c : Sector) → n ≡ core.next_number
      → SetsPage f t at.block at.page (Version e n c) → Recovers t sectors (changed array e c)
  programmed_mounts at is e n c number puts s lt = ⊎_elim
      (λ has. subst (RecoversSector t s) (sym (changed_here array e c s has)) (inl (at.block, at.page, programmed_shows at is e n c number puts s has)))
      (λ out. subst (RecoversSector t s) (sym (changed_elsewhere array e c s out)) (reads_kept t s (array s) (map_entry core s)
      (programmed_kept at is e n c number puts s lt out)))
      (cases_covered e s)

  -- a copy changes no sector
  pub source_shows : (k : ℕ) (from : PageAddr) → k < sectors → map_entry core k ≡ Some from → HoldsNewest f k (array k) from.block from.page
  source_shows k from lt is = subst (IsMappedTo f k (array k)) is (stands.mapped k lt)

  pub copied_kept : (to from : PageAddr) → IsOpenAt core.next_pages to → SetsPage f t to.block to.page (f from.block from.page) → (s : ℕ) → s < sectors
      → IsMappedTo t s (array s) (map_entry core s)
  copied_kept to from is puts s lt = kept_beside f t to.block to.page (f from.block from.page) (erased_next to is) puts s (array s) (map_entry core s)
      (stands.mapped s lt) (λ m d h. (from.block, from.page, h))

  pub copied_shows : (to from : PageAddr) → IsOpenAt core.next_pages to → (k : ℕ) → k < sectors → map_entry core k ≡ Some from → SetsPage f t to.block to.page
      (f from.block from.page) → HoldsNewest t k (array k) to.block to.page
  copied_shows to from is k klt at puts = copy_shows f t from.block from.page to.block to.page k (array k) (source_shows k from klt at) (erased_next to is) puts

  pub copied_mounts : (to from : PageAddr) → IsOpenAt core.next_pages to → SetsPage f t to.block to.page (f from.block from.page) → Recovers t sectors array
  copied_mounts to from is puts s lt = reads_kept t s (array s) (map_entry core s) (copied_kept to from is puts s lt)

-- the rest of each open block is still erased
pub ready_next : (f t : Flash) (at : PageAddr) (x : PageContents) (old new : NextPages) (pages : ℕ) → IsOpenAt old at → IsAfter old at pages new
    → AreErasedFrom f old → SetsPage f t at.block at.page x → AreErasedFrom t new
ready_next f t at x old new pages is after ready puts to opened p le = ⊎_elim
    (λ here. puts.others to.block p (inr (omega (arith, le, here.1))) ∙ ((λ i. f (here.0 i) p) ∙ ready at is p (omega (arith, le, here.1))))
    (λ there. puts.others to.block p (inl there.1) ∙ ready to there.0 p le)
    (after to opened)

-- a list of places with another for one sector
pub kept_set : (t : Flash) (kept : List (Option PageAddr)) (k : ℕ) (at : PageAddr) (array : ℕ → Sector) → k < length kept → HoldsNewest t k
    (array k) at.block at.page
    → ((s : ℕ) → s < length kept → s ≢ k → IsMappedTo t s (array s) (get_or kept s None)) → (s : ℕ) → s < length kept → IsMappedTo t s (array s)
    (get_or (set kept k (Some at)) s None)
kept_set t kept k at array klt shows others s lt = ⊎_elim
    (λ here. subst (λ (x : ℕ). IsMappedTo t x (array x) (get_or (set kept k (Some at)) x None)) (sym here)
    (subst (IsMappedTo t k (array k)) (sym (get_or-set_same kept k (Some at) None klt)) shows))
    (λ differs. subst (IsMappedTo t s (array s)) (sym (get_or-set_other kept k s (Some at) None differs)) (others s lt differs))
    (cases_eq s k)

-- the same with another for all sectors of an extent
pub kept_all : (t : Flash) (kept new : List (Option PageAddr)) (e : Extent) (at : PageAddr) (array : ℕ → Sector) → MapsAll kept new e at
    → ((s : ℕ) → Covers e s → HoldsNewest t s (array s) at.block at.page)
    → ((s : ℕ) → s < length kept → ¬ Covers e s → IsMappedTo t s (array s) (get_or kept s None)) → (s : ℕ) → s < length new
    → IsMappedTo t s (array s) (get_or new s None)
kept_all t kept new e at array maps shows others s lt = ⊎_elim
    (λ has. subst (IsMappedTo t s (array s)) (sym (maps.covered s has)) (shows s has))
    (λ out. subst (IsMappedTo t s (array s)) (sym (maps.others s out)) (others s (omega (arith, lt, maps.size)) out))
    (cases_covered e s)
