-- Whatever a power cut leaves, a mount can free a block.
use Rattle.std.proofs.Common.{◌≡◌, ◌≢◌, ◌⊎◌, inl, inr, ⊎_elim, ◌<◌, ℕ, List, length, Option, None, Some, set, refl, sym, ◌∙◌, ap, subst, arith}
use Rattle.std.proofs.lemmas.List.{length-set}
use Rattle.geometry.specs.Sectors.{Sector}
use Rattle.geometry.specs.declared.page_addr.PageAddr.{PageAddr}
use Rattle.durable.specs.declared.command.Command.{Command}
use Rattle.durable.specs.declared.command.Command.TheVariants.{Program, Copy, Erase, Refused}
use Rattle.durable.specs.declared.memory.Core.{Core}
use Rattle.durable.specs.declared.extent.Extent.{Extent}
use Rattle.durable.specs.Flash.{PageContents, Erased, Torn, Version, Flash, IsVersionOf, HasVersion, HoldsNewest, HoldsNeeded, HoldsNoValue, HasValue}
use Rattle.durable.specs.Flash.{SetsPage, LosesPages}
use Rattle.durable.specs.Collecting.{IsCopied, IsFree, IsOpenAt, first_page}
use Rattle.durable.specs.Commands.{CutLeaves, Completes}
use Rattle.durable.specs.Memory.{Represents, IsMappedTo, map_entry}
use Rattle.durable.specs.Choice.{IsNextCommand}
use Rattle.durable.specs.Spare.{IsDuplicated, CanFree, IsSparedAt, LeavesSpare}
use Rattle.durable.proofs.Extents.{cases_covered}
use Rattle.durable.proofs.Cells.{was, stays, torn_has_none, erased_has_none, kept_in_loss}
use Rattle.durable.proofs.Moments.{erased_next, programmed_kept, programmed_shows}
use Rattle.durable.proofs.Done.{BecomesCore}
use Rattle.durable.proofs.Collects.{not_last, copy_apart}
use Rattle.durable.proofs.Opened.{after_copied, after_programmed, free_copied, free_or_copies, free_programmed, is_open, none_or_some, page_after_is, some_same}

same_block : (at to : PageAddr) → Some at ≡ Some to → at.block ≡ to.block
same_block at to e = ap (λ (x : PageAddr). x.block) (some_same at to e)

-- the sector stands outside of the block, or no page has a value of it
abbrev Away : Flash → ℕ → ℕ → Type 0
Away t s b = ((d : ℕ) × (q : ℕ) × (v : Sector) × (d ≢ b) × HoldsNewest t s v d q) ⊎ HoldsNoValue t s

pub no_value : (t : Flash) (s : ℕ) → HoldsNoValue t s → HasValue t s → ⊥
no_value t s none has = none has.0 has.1 has.2 has.3 has.4

away_doubled : (t : Flash) (sectors b : ℕ) → ((s : ℕ) → s < sectors → Away t s b) → IsDuplicated t sectors b
away_doubled t sectors b away = λ s p c lt shows. ⊎_elim (λ there. there) (λ none. absurd (no_value t s none shows.valued)) (away s lt)

kept_away : (t : Flash) (s b : ℕ) (c : Sector) (k : Option PageAddr) → IsMappedTo t s c k
    → ((at : PageAddr) → k ≡ Some at → at.block ≢ b) → Away t s b
kept_away t s b c None kept far = inr kept.1
kept_away t s b c (Some at) kept far = inl (at.block, at.page, c, far at refl, kept)

module _ (f t : Flash) (b p : ℕ) (x : PageContents) (erased : f b p ≡ Erased) (puts : SetsPage f t b p x) where
  -- each value was there before, where one page more holds nothing, or a version that was there
  pub valued_before : ((s m : ℕ) (v : Sector) → IsVersionOf x s m v → (d : ℕ) × (q : ℕ) × HasVersion f d q s m v) → (s : ℕ) → HasValue t s → HasValue f s
  valued_before source s has = ⊎_elim
      (λ h. let from = source s has.2 (Some has.3) h in (from.0, from.1, has.2, has.3, from.2))
      (λ h. (has.0, has.1, has.2, has.3, h))
      (was f t b p x erased puts has.0 has.1 s has.2 (Some has.3) has.4)

  -- a block stays doubled where one page more holds nothing, or a version that stands outside of it
  doubled_put : (sectors c : ℕ) → IsDuplicated f sectors c → ((s m : ℕ) (v : Sector) → IsVersionOf x s m v
      → (d : ℕ) × (q : ℕ) × (d ≢ c) × HasVersion f d q s m v) → IsDuplicated t sectors c
  doubled_put sectors c doubled source = λ s q v lt shows. ⊎_elim
      (λ h. let from = source s shows.newest.number v h in (
        from.0,
        from.1,
        v,
        from.2,
        record {
          number = shows.newest.number;
          held = stays f t b p x erased puts from.0 from.1 s shows.newest.number v from.3;
          newest = shows.newest.newest;
        },
      ))
      (λ h. let before : HoldsNeeded f s v c q = record {
        newest = record {
          number = shows.newest.number;
          held = h;
          newest = λ e r m w g. shows.newest.newest e r m w (stays f t b p x erased puts e r s m w g);
        };
        valued = valued_before (λ r m w g. let from = source r m w g in (from.0, from.1, from.3)) s shows.valued;
      } in
      let other = doubled s q v lt before in (
        other.0,
        other.1,
        other.2,
        other.3,
        record {
          number = other.4.number;
          held = stays f t b p x erased puts other.0 other.1 s other.4.number other.2 other.4.held;
          newest = λ e r m w g. ⊎_elim (λ y. let from = source s m w y in other.4.newest from.0 from.1 m w from.3) (λ y. other.4.newest e r m w y)
              (was f t b p x erased puts e r s m w g);
        },
      ))
      (was f t b p x erased puts c q s shows.newest.number v shows.newest.held)

module _ (f t : Flash) (core : Core) (array : ℕ → Sector) (stands : Represents f core array) (clears : LeavesSpare f core) where
  abbrev sectors : ℕ
  sectors = length core.map.items

  empty_doubled : (b : ℕ) → IsFree core.map.items b → IsDuplicated f sectors b
  empty_doubled b none = away_doubled f sectors b (λ s lt. kept_away f s b (array s) (map_entry core s) (stands.mapped s lt)
      (λ at is. none s at lt is))

  spare_of : CanFree f core.blocks sectors
  spare_of = ⊎_elim
      (λ free. (free.0, free.1, empty_doubled free.0 free.3))
      (λ copies. (copies.0.block, copies.3, copies.4))
      clears

  pub same_spare : ((b p : ℕ) → t b p ≡ f b p) → CanFree t core.blocks sectors
  same_spare same = subst (λ (g : Flash). CanFree g core.blocks sectors) (λ i b p. sym (same b p) i) spare_of

  torn_spare : (at : PageAddr) → IsOpenAt core.next_pages at → SetsPage f t at.block at.page Torn → CanFree t core.blocks sectors
  torn_spare at is puts =
      let spare = spare_of in (
        spare.0,
        spare.1,
        doubled_put f t at.block at.page Torn (erased_next f t core array stands at is) puts sectors spare.0 spare.2
            (λ s m v e. absurd (torn_has_none s m v e)),
      )

  copied_at : (to from : PageAddr) (k : ℕ) → core.next_pages.copies ≡ Some to → k < sectors → map_entry core k ≡ Some from → from.block ≢ to.block
      → SetsPage f t to.block to.page (f from.block from.page) → CanFree t core.blocks sectors
  copied_at to from k opened lt is apart puts = ⊎_elim
      (λ spare. (
        spare.0,
        spare.1,
        doubled_put f t to.block to.page (f from.block from.page) erased puts sectors spare.0 (empty_doubled spare.0 spare.3)
            (λ s m v e. (from.block, from.page, spare.3 k from lt is, e)),
      ))
      (λ here. (
        here.0.block,
        here.3,
        doubled_put f t to.block to.page (f from.block from.page) erased puts sectors here.0.block here.4
            (λ s m v e. (from.block, from.page, (λ same. apart (same ∙ same_block here.0 to (sym here.2 ∙ opened))), e)),
      ))
      clears
    where
      erased : f to.block to.page ≡ Erased
      erased = erased_next f t core array stands to (inr opened)

  programmed_spare : (at : PageAddr) → IsOpenAt core.next_pages at → (e : Extent) (n : ℕ) (c : Sector) → n ≡ core.next_number → (b : ℕ) → b < core.blocks
      → b ≢ at.block → IsFree core.map.items b
      → SetsPage f t at.block at.page (Version e n c) → CanFree t core.blocks sectors
  programmed_spare at is e n c number b within apart none puts = (
    b,
    within,
    away_doubled t sectors b (λ s lt. ⊎_elim
        (λ has. inl (at.block, at.page, c, (λ here. apart (sym here)), programmed_shows f t core array stands at is e n c number puts s has))
        (λ out. kept_away t s b (array s) (map_entry core s) (programmed_kept f t core array stands at is e n c number puts s lt out)
        (λ place there. none s place lt there))
        (cases_covered e s)),
  )

  lost_spare : (b : ℕ) → b < core.blocks → IsFree core.map.items b → LosesPages f t b → CanFree t core.blocks sectors
  lost_spare b within none loses = (
    b,
    within,
    away_doubled t sectors b (λ s lt. kept_away t s b (array s) (map_entry core s)
        (kept_in_loss f t b s (array s) (map_entry core s) (stands.mapped s lt) (λ at is. none s at lt is) loses)
        (λ at is. none s at lt is)),
  )

  pub cut_spare : (s : Extent) (x : Sector) (m : Command) → IsNextCommand core m → CutLeaves m s x f t → CanFree t core.blocks sectors
  cut_spare s x (Program at n) next cut =
      let opened = is_open core.next_pages at next.0 in
      ⊎_elim same_spare (λ more. ⊎_elim
      (torn_spare at opened)
      (programmed_spare at opened s n x next.1 next.3.0 next.3.1 (next.3.2 at opened) next.3.3) more) cut
  cut_spare s x (Copy k from to) next cut = ⊎_elim same_spare (λ more. ⊎_elim
      (torn_spare to (inr next.0))
      (copied_at to from k next.0 next.1 next.2 (copy_apart core s k from to next)) more) cut
  cut_spare s x (Erase b) next cut = lost_spare b next.1 next.2 cut
  cut_spare s x Refused next cut = same_spare cut

-- a command that succeeds leaves the layer's memory such that a crash then leaves a spare
module _ (f t : Flash) (core new : Core) (array : ℕ → Sector) (stands : Represents f core array) (clears : LeavesSpare f core)
    (blocks : new.blocks ≡ core.blocks)
    (s : Extent) (x : Sector) where
  with_map : (map : List (Option PageAddr)) → new.map.items ≡ map → IsSparedAt t map core.blocks new.next_pages → LeavesSpare t new
  with_map map moved spared = subst (λ (n : ℕ). IsSparedAt t new.map.items n new.next_pages) (sym blocks)
      (subst (λ (m : List (Option PageAddr)). IsSparedAt t m core.blocks new.next_pages) (sym moved) spared)

  copy_clears : (from to : PageAddr) (k : ℕ) → IsNextCommand core (Copy k from to) → SetsPage f t to.block to.page (f from.block from.page)
      → IsCopied core.next_pages to core.pages new.next_pages → IsSparedAt t (set core.map.items k (Some to)) core.blocks new.next_pages
  copy_clears from to k next puts copied = ⊎_elim
      (λ free. inl (free_copied core.next_pages new.next_pages to core.pages (inr next.0)
      (after_copied core.next_pages new.next_pages to core.pages core.apart next.0 copied) core.blocks core.map.items k next.1 free))
      (λ here. ⊎_elim
      (λ closed. absurd (not_last core s k from to next here.1 (copied.1.1 closed)))
      (λ on.
      let e = page_after_is to on.0 core.pages new.next_pages.copies copied.1 on.1 in
      let same : here.0.block ≡ to.block = same_block here.0 to (sym here.2 ∙ next.0) in
      let doubled = doubled_put f t to.block to.page (f from.block from.page) (erased_next f t core array stands to (inr next.0)) puts
      (length core.map.items) to.block (subst (IsDuplicated f (length core.map.items)) same here.4)
      (λ j m v e. (from.block, from.page, copy_apart core s k from to next, e)) in
      inr (
        on.0,
        copied.0 ∙ here.1,
        on.1,
        omega (arith, e.0, same, here.3),
        subst (λ (c : ℕ). IsDuplicated t (length (set core.map.items k (Some to))) c) (sym e.0) (subst (λ (l : ℕ). IsDuplicated t l to.block)
            (sym (length-set core.map.items k (Some to))) doubled),
      ))
      (none_or_some new.next_pages.copies))
      clears

  pub spare_after : (m : Command) → IsNextCommand core m → Completes m s x f t → BecomesCore core s m new → LeavesSpare t new
  spare_after (Program at n) next puts becomes = with_map new.map.items refl (inl (free_programmed core.next_pages new.next_pages at core.pages
      (is_open core.next_pages at next.0) (after_programmed core.next_pages new.next_pages at core.pages core.apart next.0 becomes.2)
      core.blocks core.map.items new.map.items s becomes.0 next.3))
  spare_after (Copy k from to) next puts becomes =
      with_map (set core.map.items k (Some to)) becomes.0 (copy_clears from to k next puts becomes.2)
  spare_after (Erase b) next gone becomes = with_map core.map.items becomes.0 (⊎_elim
      (λ free. inl free)
      (λ copies. inr (
        first_page b,
        copies.0,
        copies.1,
        next.1,
        λ j q v l shows. absurd (erased_has_none t b q j shows.newest.number v (gone.0 q) shows.newest.held),
      ))
      (free_or_copies core.blocks core.map.items core.next_pages new.next_pages b becomes.2 next.5))
  spare_after Refused next same becomes = subst (λ (g : Flash). LeavesSpare g new) (λ i b p. sym (same b p) i) (subst
      (λ (n : ℕ). IsSparedAt f new.map.items n new.next_pages) (sym blocks)
      (subst (λ (m : List (Option PageAddr)). IsSparedAt f m core.blocks new.next_pages) (sym becomes.0) (subst (IsSparedAt f core.map.items core.blocks)
      (sym becomes.2) clears)))
