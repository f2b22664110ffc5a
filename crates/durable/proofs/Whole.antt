-- A flash that has lost no page is told no loss of: what each command leaves.
use Rattle.std.proofs.Common.{◌≡◌, ◌≢◌, ◌⊎◌, inl, inr, ⊎_elim, ◌<◌, ◌≤◌, ℕ, List, length, Option, None, Some, get_or, set, refl, sym, ◌∙◌, ap, subst}
use Rattle.std.proofs.Common.{arith}
use Rattle.std.proofs.lemmas.Bool.{cases_eq, cases_lt}
use Rattle.std.proofs.lemmas.List.{get_or-set_same, get_or-set_other, length-set}
use Rattle.geometry.specs.Sectors.{Sector}
use Rattle.geometry.specs.declared.page_addr.PageAddr.{PageAddr}
use Rattle.durable.specs.declared.command.Command.{Command}
use Rattle.durable.specs.declared.command.Command.TheVariants.{Program, Copy, Erase, Refused}
use Rattle.durable.specs.declared.memory.Core.{Core}
use Rattle.durable.specs.declared.extent.Extent.{Extent}
use Rattle.durable.specs.Flash.{PageContents, Erased, Torn, Version, Flash, IsVersionOf, HasVersion, HoldsNewest, HoldsNeeded, HoldsNoValue, SetsPage}
use Rattle.durable.specs.Flash.{LosesPages}
use Rattle.durable.specs.Collecting.{IsCopied, IsFree, IsOpenAt, MapsAll, first_page}
use Rattle.durable.specs.Commands.{CutLeaves, Completes}
use Rattle.durable.specs.Device.{device_of}
use Rattle.durable.specs.Losses.{version_count, IsGapless, HasNoLoss}
use Rattle.durable.specs.Memory.{Represents, IsMappedTo, map_entry}
use Rattle.durable.specs.Choice.{IsNextCommand}
use Rattle.durable.specs.Whole.{IsSafelyDuplicated, IsUnharmed, AreFullBefore, IsSafelySpared, KeepsWhole}
use Rattle.durable.specs.Whole.{CutsUnharmed, CutsIdleUnharmed, StaysWhole}
use Rattle.durable.specs.Updates.{array_after}
use Rattle.durable.proofs.Extents.{cases_covered}
use Rattle.durable.proofs.Cells.{was, stays, torn_has_none, erased_holds_none, erased_has_none, kept_in_loss}
use Rattle.durable.proofs.Moments.{erased_next, source_shows, torn_kept, programmed_kept, programmed_shows, copied_kept, copied_shows}
use Rattle.durable.proofs.Done.{BecomesCore}
use Rattle.durable.proofs.Opened.{IsAfter, after_copied, after_programmed, free_copied, free_or_copies, free_programmed, is_open, none_or_some, opened_or_first}
use Rattle.durable.proofs.Opened.{page_after_is}
use Rattle.durable.proofs.Collects.{not_last, copy_apart}
use Rattle.durable.proofs.Spares.{no_value, valued_before}

some_addr : (x y : PageAddr) → Some x ≡ Some y → x ≡ y
some_addr x y e = cc e

module _ (f t : Flash) where
  -- a block whose pages are the same has no gap still
  same_whole : (b : ℕ) → ((p : ℕ) → t b p ≡ f b p) → IsGapless f b → IsGapless t b
  same_whole b same whole = λ p q s m v lt e. ap version_count (same p) ∙ whole p q s m v lt (sym (same q) ∙ e)

  -- nor has the open block, whatever is put into its next page
  put_here : (b p : ℕ) (x : PageContents) → ((q : ℕ) → p ≤ q → f b q ≡ Erased) → ((q : ℕ) → q < p → version_count (f b q) ≡ 1) → SetsPage f t b p x
      → IsGapless t b
  put_here b p x erased full puts = λ i j s m v lt e. ⊎_elim
      (λ behind. absurd (erased_holds_none s m v
      (sym (puts.others b j (inr (λ is. omega (arith, is, behind))) ∙ erased j (omega (arith, behind))) ∙ e)))
      (λ before. ap version_count (puts.others b i (inr (λ is. omega (arith, is, lt, before)))) ∙ full i (omega (arith, lt, before)))
      (cases_lt p j)

  put_whole : (b p : ℕ) (x : PageContents) → ((q : ℕ) → p ≤ q → f b q ≡ Erased) → ((q : ℕ) → q < p → version_count (f b q) ≡ 1) → SetsPage f t b p x
      → (c : ℕ) → IsGapless f c → IsGapless t c
  put_whole b p x erased full puts c whole = ⊎_elim
      (λ here. subst (IsGapless t) (sym here) (put_here b p x erased full puts))
      (λ differs. same_whole c (λ q. puts.others c q (inl differs)) whole)
      (cases_eq c b)

  pub lost_whole : (b : ℕ) → LosesPages f t b → (c : ℕ) → c ≢ b → IsGapless f c → IsGapless t c
  lost_whole b loses c differs whole = same_whole c (λ q. loses.outside c q differs) whole

-- the sector's newest version is in such a block, or no page has a value of it
abbrev Stands : Flash → (ℕ → Type 0) → ℕ → Type 0
Stands t P s = ((d : ℕ) × (q : ℕ) × (v : Sector) × P d × HoldsNewest t s v d q) ⊎ HoldsNoValue t s

kept_stands : (t : Flash) (P : ℕ → Type 0) (s : ℕ) (c : Sector) (k : Option PageAddr) → IsMappedTo t s c k
    → ((at : PageAddr) → k ≡ Some at → P at.block) → Stands t P s
kept_stands t P s c None kept holds = inr kept.1
kept_stands t P s c (Some at) kept holds = inl (at.block, at.page, c, holds at refl, kept)

no_loss_of : (t : Flash) (sectors : ℕ) → ((s : ℕ) → s < sectors → Stands t (IsGapless t) s) → HasNoLoss t sectors
no_loss_of t sectors all = λ s b p v lt shows. ⊎_elim (λ there. there) (λ none. absurd (no_value t s none shows.valued)) (all s lt)

abbrev WholeBeside : Flash → ℕ → ℕ → Type 0
WholeBeside t b d = (d ≢ b) × IsGapless t d

safe_of : (t : Flash) (sectors b : ℕ) → ((s : ℕ) → s < sectors → Stands t (WholeBeside t b) s) → IsSafelyDuplicated t sectors b
safe_of t sectors b all = λ s p v lt shows. ⊎_elim
    (λ there. (there.0, there.1, there.2, there.3.0, there.3.1, there.4))
    (λ none. absurd (no_value t s none shows.valued))
    (all s lt)

module _ (f t : Flash) (b p : ℕ) (x : PageContents) (erased : f b p ≡ Erased) (puts : SetsPage f t b p x)
    (stay : (c : ℕ) → IsGapless f c → IsGapless t c) where
  -- a block stays safely doubled where one page more holds nothing, or a version that stands outside of it
  safe_put : (sectors c : ℕ) → IsSafelyDuplicated f sectors c
      → ((s m : ℕ) (v : Sector) → IsVersionOf x s m v → (d : ℕ) × (q : ℕ) × (d ≢ c) × IsGapless f d × HasVersion f d q s m v)
      → IsSafelyDuplicated t sectors c
  safe_put sectors c doubled source = λ s q v lt shows. ⊎_elim
      (λ h. let from = source s shows.newest.number v h in (
        from.0,
        from.1,
        v,
        from.2,
        stay from.0 from.3,
        record {
          number = shows.newest.number;
          held = stays f t b p x erased puts from.0 from.1 s shows.newest.number v from.4;
          newest = shows.newest.newest;
        },
      ))
      (λ h. let before : HoldsNeeded f s v c q = record {
        newest = record {
          number = shows.newest.number;
          held = h;
          newest = λ e r m w g. shows.newest.newest e r m w (stays f t b p x erased puts e r s m w g);
        };
        valued = valued_before f t b p x erased puts (λ r m w g. let from = source r m w g in (from.0, from.1, from.4)) s shows.valued;
      } in
      let other = doubled s q v lt before in (
        other.0,
        other.1,
        other.2,
        other.3,
        stay other.0 other.4,
        record {
          number = other.5.number;
          held = stays f t b p x erased puts other.0 other.1 s other.5.number other.2 other.5.held;
          newest = λ e r m w g. ⊎_elim (λ y. let from = source s m w y in other.5.newest from.0 from.1 m w from.4) (λ y. other.5.newest e r m w y)
              (was f t b p x erased puts e r s m w g);
        },
      ))
      (was f t b p x erased puts c q s shows.newest.number v shows.newest.held)

module _ (f t : Flash) (core : Core) (array : ℕ → Sector) (stands : Represents f core array) (keeps : KeepsWhole f core) where
  abbrev sectors : ℕ
  sectors = length core.map.items

  from_map : (P : ℕ → Type 0) → ((s : ℕ) (at : PageAddr) → s < sectors → map_entry core s ≡ Some at → P at.block) → (s : ℕ) → s < sectors → Stands f P s
  from_map P holds = λ s lt. kept_stands f P s (array s) (map_entry core s) (stands.mapped s lt)
      (λ at is. holds s at lt is)

  free_safe : (b : ℕ) → IsFree core.map.items b → IsSafelyDuplicated f sectors b
  free_safe b none = safe_of f sectors b (from_map (WholeBeside f b) (λ s at lt is. (none s at lt is, keeps.mapped s at lt is)))

  spare_now : (b : ℕ) × (b < core.blocks) × IsSafelyDuplicated f sectors b
  spare_now = ⊎_elim
      (λ free. (free.0, free.1, free_safe free.0 free.3))
      (λ copies. (copies.0.block, copies.3, copies.4))
      keeps.spared

  pub idle_unharmed : IsUnharmed f (device_of core)
  idle_unharmed = record { no_loss = no_loss_of f sectors (from_map (IsGapless f) keeps.mapped); spare = spare_now }

  same_unharmed : ((b p : ℕ) → t b p ≡ f b p) → IsUnharmed t (device_of core)
  same_unharmed same = subst (λ (g : Flash). IsUnharmed g (device_of core)) (λ i b p. sym (same b p) i) idle_unharmed

  -- the open block has versions up to its next page, and is erased from there
  module _ (at : PageAddr) (x : PageContents) (is : IsOpenAt core.next_pages at) (puts : SetsPage f t at.block at.page x) where
    pub opens : IsGapless t at.block
    opens = put_here f t at.block at.page x (stands.erased at is) (keeps.full at is) puts

    pub stay_whole : (c : ℕ) → IsGapless f c → IsGapless t c
    stay_whole = put_whole f t at.block at.page x (stands.erased at is) (keeps.full at is) puts

  torn_unharmed : (at : PageAddr) → IsOpenAt core.next_pages at → SetsPage f t at.block at.page Torn → IsUnharmed t (device_of core)
  torn_unharmed at is puts = record {
    no_loss = no_loss_of t sectors (λ s lt. kept_stands t (IsGapless t) s (array s) (map_entry core s)
        (torn_kept f t core array stands at is puts s lt)
        (λ to there. stay_whole at Torn is puts to.block (keeps.mapped s to lt there)));
    spare = torn_spare spare_now;
  }
    where
      torn_spare : (b : ℕ) × (b < core.blocks) × IsSafelyDuplicated f sectors b → (b : ℕ) × (b < core.blocks) × IsSafelyDuplicated t sectors b
      torn_spare spare = (
        spare.0,
        spare.1,
        safe_put f t at.block at.page Torn (erased_next f t core array stands at is) puts (stay_whole at Torn is puts) sectors spare.0 spare.2
            (λ s m v e. absurd (torn_has_none s m v e)),
      )

  -- a program: the newest version of its sectors is there, and that of each other sector where it was
  module _ (at : PageAddr) (is : IsOpenAt core.next_pages at) (e : Extent) (n : ℕ) (c : Sector) (number : n ≡ core.next_number)
      (puts : SetsPage f t at.block at.page (Version e n c)) where
    program_stands : (P : ℕ → Type 0) → P at.block → ((s : ℕ) (to : PageAddr) → s < sectors → map_entry core s ≡ Some to → P to.block)
        → (s : ℕ) → s < sectors → Stands t P s
    program_stands P here holds = λ s lt. ⊎_elim
        (λ has. inl (at.block, at.page, c, here, programmed_shows f t core array stands at is e n c number puts s has))
        (λ out. kept_stands t P s (array s) (map_entry core s) (programmed_kept f t core array stands at is e n c number puts s lt out)
        (λ to there. holds s to lt there))
        (cases_covered e s)

    program_unharmed : (b : ℕ) → b < core.blocks → b ≢ at.block → IsFree core.map.items b → IsUnharmed t (device_of core)
    program_unharmed b within apart none =
        let open_whole = opens at (Version e n c) is puts in
        let still = stay_whole at (Version e n c) is puts in
        record {
          no_loss = no_loss_of t sectors (program_stands (IsGapless t) open_whole (λ s to lt there. still to.block (keeps.mapped s to lt there)));
          spare = (
            b,
            within,
            safe_of t sectors b (program_stands (WholeBeside t b) ((λ here. apart (sym here)), open_whole)
                (λ s to lt there. (none s to lt there, still to.block (keeps.mapped s to lt there)))),
          );
        }

  -- a copy: its sector's newest version is there too
  module _ (to from : PageAddr) (is : IsOpenAt core.next_pages to) (k : ℕ) (klt : k < sectors) (at : map_entry core k ≡ Some from)
      (puts : SetsPage f t to.block to.page (f from.block from.page)) where
    copy_stands : (P : ℕ → Type 0) → P to.block → ((s : ℕ) (a : PageAddr) → s < sectors → map_entry core s ≡ Some a → P a.block)
        → (s : ℕ) → s < sectors → Stands t P s
    copy_stands P here holds = λ s lt. ⊎_elim
        (λ same. inl (
          to.block,
          to.page,
          array k,
          here,
          subst (λ (j : ℕ). HoldsNewest t j (array k) to.block to.page) (sym same) (copied_shows f t core array stands to from is k klt at puts),
        ))
        (λ differs. kept_stands t P s (array s) (map_entry core s) (copied_kept f t core array stands to from is puts s lt)
        (λ a there. holds s a lt there))
        (cases_eq s k)

    copy_spare : core.next_pages.copies ≡ Some to → from.block ≢ to.block → (b : ℕ) × (b < core.blocks) × IsSafelyDuplicated t sectors b
    copy_spare opened apart = ⊎_elim
        (λ free. (
          free.0,
          free.1,
          safe_of t sectors free.0 (copy_stands (WholeBeside t free.0)
              ((λ e. free.2 to is (sym e)), opens to (f from.block from.page) is puts)
              (λ s a lt there. (free.3 s a lt there, stay_whole to (f from.block from.page) is puts a.block (keeps.mapped s a lt there)))),
        ))
        (λ here. (
          here.0.block,
          here.3,
          safe_put f t to.block to.page (f from.block from.page) (erased_next f t core array stands to is) puts
              (stay_whole to (f from.block from.page) is puts) sectors here.0.block here.4
              (λ s m v e. (
                from.block,
                from.page,
                (λ same. apart (same ∙ ap (λ (x : PageAddr). x.block) (some_addr here.0 to (sym here.2 ∙ opened)))),
                keeps.mapped k from klt at,
                e,
              )),
        ))
        keeps.spared

    copy_unharmed : core.next_pages.copies ≡ Some to → from.block ≢ to.block → IsUnharmed t (device_of core)
    copy_unharmed opened apart = record {
      no_loss = no_loss_of t sectors (copy_stands (IsGapless t) (opens to (f from.block from.page) is puts)
          (λ s a lt there. stay_whole to (f from.block from.page) is puts a.block (keeps.mapped s a lt there)));
      spare = copy_spare opened apart;
    }

  lost_unharmed : (b : ℕ) → b < core.blocks → IsFree core.map.items b → LosesPages f t b → IsUnharmed t (device_of core)
  lost_unharmed b within none loses =
      let kept : (P : ℕ → Type 0) → ((s : ℕ) (at : PageAddr) → s < sectors → map_entry core s ≡ Some at → P at.block) → (s : ℕ) → s < sectors
      → Stands t P s =
      λ P holds s lt. kept_stands t P s (array s) (map_entry core s)
      (kept_in_loss f t b s (array s) (map_entry core s) (stands.mapped s lt) (λ at is. none s at lt is) loses)
      (λ at is. holds s at lt is) in
      record {
        no_loss = no_loss_of t sectors (kept (IsGapless t) (λ s at lt is. lost_whole f t b loses at.block (none s at lt is) (keeps.mapped s at lt is)));
        spare = (
          b,
          within,
          safe_of t sectors b (kept (WholeBeside t b)
              (λ s at lt is. (none s at lt is, lost_whole f t b loses at.block (none s at lt is) (keeps.mapped s at lt is)))),
        );
      }

  pub cut_unharmed : (s : Extent) (x : Sector) (m : Command) → IsNextCommand core m → CutLeaves m s x f t → IsUnharmed t (device_of core)
  cut_unharmed s x (Program at n) next cut =
      let opened = is_open core.next_pages at next.0 in
      ⊎_elim same_unharmed (λ more. ⊎_elim
      (torn_unharmed at opened)
      (λ puts. program_unharmed at opened s n x next.1 puts next.3.0 next.3.1 (next.3.2 at opened) next.3.3) more) cut
  cut_unharmed s x (Copy k from to) next cut = ⊎_elim same_unharmed (λ more. ⊎_elim
      (torn_unharmed to (inr next.0))
      (λ puts. copy_unharmed to from (inr next.0) k next.1 next.2 puts next.0 (copy_apart core s k from to next)) more) cut
  cut_unharmed s x (Erase b) next cut = lost_unharmed b next.1 next.2 cut
  cut_unharmed s x Refused next cut = same_unharmed cut

-- after a command that succeeds
module _ (f t : Flash) (core new : Core) (array : ℕ → Sector) (stands : Represents f core array)
    (keeps : KeepsWhole f core) (blocks : new.blocks ≡ core.blocks) (s : Extent) (x : Sector) where
  -- a page is put, and sectors mapped to it
  abbrev MapsTo : PageAddr → Type 0
  MapsTo at = (j : ℕ) (a : PageAddr) → j < length new.map.items → map_entry new j ≡ Some a
      → (a ≡ at) ⊎ ((j < length core.map.items) × (map_entry core j ≡ Some a))

  maps_all : (at : PageAddr) → MapsAll core.map.items new.map.items s at → MapsTo at
  maps_all at maps j a l entry = ⊎_elim
      (λ has. inl (some_addr a at (sym entry ∙ maps.covered j has)))
      (λ out. inr (omega (arith, l, maps.size), sym (maps.others j out) ∙ entry))
      (cases_covered s j)

  maps_one : (k : ℕ) (at : PageAddr) → k < length core.map.items → new.map.items ≡ set core.map.items k (Some at) → MapsTo at
  maps_one k at klt moved j a l entry =
      let there : get_or (set core.map.items k (Some at)) j None ≡ Some a = ap (λ (m : List (Option PageAddr)). get_or m j None) (sym moved) ∙ entry in
      ⊎_elim
      (λ here. inl (some_addr a at (sym (subst (λ (i : ℕ). get_or (set core.map.items k (Some at)) i None ≡ Some a) here there)
      ∙ get_or-set_same core.map.items k (Some at) None klt)))
      (λ differs. inr (
        subst (λ (n : ℕ). j < n) (ap length moved ∙ length-set core.map.items k (Some at)) l,
        sym (get_or-set_other core.map.items k j (Some at) None differs) ∙ there,
      ))
      (cases_eq j k)

  module _ (at : PageAddr) (c : PageContents) (is : IsOpenAt core.next_pages at) (puts : SetsPage f t at.block at.page c) (maps : MapsTo at)
      (one : version_count c ≡ 1) where
    put_mapped : (j : ℕ) (a : PageAddr) → j < length new.map.items → map_entry new j ≡ Some a → IsGapless t a.block
    put_mapped j a l entry = ⊎_elim
        (λ here. subst (λ (y : PageAddr). IsGapless t y.block) (sym here) (opens f t core array stands keeps at c is puts))
        (λ there. stay_whole f t core array stands keeps at c is puts a.block (keeps.mapped j a there.0 there.1))
        (maps j a l entry)

    put_full : IsAfter core.next_pages at core.pages new.next_pages → AreFullBefore t new.next_pages
    put_full after to opened p less = ⊎_elim
        (λ next. (λ i. version_count (t (next.0 i) p)) ∙ ⊎_elim
        (λ here. (λ i. version_count (t at.block (here i))) ∙ (ap version_count puts.put ∙ one))
        (λ differs. ap version_count (puts.others at.block p (inr differs)) ∙ keeps.full at is p (omega (arith, less, next.1, differs)))
        (cases_eq p at.page))
        (λ there. ap version_count (puts.others to.block p (inl there.1)) ∙ keeps.full to there.0 p less)
        (after to opened)

    put_keeps : IsAfter core.next_pages at core.pages new.next_pages → IsSafelySpared t new.map.items core.blocks new.next_pages → KeepsWhole t new
    put_keeps after spared = record {
      mapped = put_mapped;
      full = put_full after;
      spared = subst (λ (n : ℕ). IsSafelySpared t new.map.items n new.next_pages) (sym blocks) spared;
    }

  copy_spared : (from to : PageAddr) (k : ℕ) → IsNextCommand core (Copy k from to) → SetsPage f t to.block to.page (f from.block from.page)
      → IsCopied core.next_pages to core.pages new.next_pages → IsSafelySpared t (set core.map.items k (Some to)) core.blocks new.next_pages
  copy_spared from to k next puts copied = ⊎_elim
      (λ free. inl (free_copied core.next_pages new.next_pages to core.pages (inr next.0)
      (after_copied core.next_pages new.next_pages to core.pages core.apart next.0 copied) core.blocks core.map.items k next.1 free))
      (λ here. ⊎_elim
      (λ closed. absurd (not_last core s k from to next here.1 (copied.1.1 closed)))
      (λ on.
      let e = page_after_is to on.0 core.pages new.next_pages.copies copied.1 on.1 in
      let same : here.0.block ≡ to.block = ap (λ (x : PageAddr). x.block) (some_addr here.0 to (sym here.2 ∙ next.0)) in
      let doubled = safe_put f t to.block to.page (f from.block from.page) (erased_next f t core array stands to (inr next.0)) puts
      (stay_whole f t core array stands keeps to (f from.block from.page) (inr next.0) puts) (length core.map.items) to.block
      (subst (IsSafelyDuplicated f (length core.map.items)) same here.4)
      (λ j m v e. (from.block, from.page, copy_apart core s k from to next, keeps.mapped k from next.1 next.2, e)) in
      inr (
        on.0,
        copied.0 ∙ here.1,
        on.1,
        omega (arith, e.0, same, here.3),
        subst (λ (c : ℕ). IsSafelyDuplicated t (length (set core.map.items k (Some to))) c) (sym e.0)
            (subst (λ (l : ℕ). IsSafelyDuplicated t l to.block) (sym (length-set core.map.items k (Some to))) doubled),
      ))
      (none_or_some new.next_pages.copies))
      keeps.spared

  pub whole_after : (m : Command) → IsNextCommand core m → Completes m s x f t → BecomesCore core s m new → KeepsWhole t new
  whole_after (Program at n) next puts becomes =
      let opened = is_open core.next_pages at next.0 in
      let after = after_programmed core.next_pages new.next_pages at core.pages core.apart next.0 becomes.2 in
      put_keeps at (Version s n x) opened puts (maps_all at becomes.0) refl after
      (inl (free_programmed core.next_pages new.next_pages at core.pages opened after core.blocks core.map.items new.map.items s becomes.0 next.3))
  whole_after (Copy k from to) next puts becomes =
      put_keeps to (f from.block from.page) (inr next.0) puts (maps_one k to next.1 becomes.0)
      (ap version_count (source_shows f t core array stands k from next.1 next.2).held.1)
      (after_copied core.next_pages new.next_pages to core.pages core.apart next.0 becomes.2)
      (subst (λ (m : List (Option PageAddr)). IsSafelySpared t m core.blocks new.next_pages) (sym becomes.0) (copy_spared from to k next puts becomes.2))
  whole_after (Erase b) next gone becomes = record {
    mapped = λ j a l entry.
        let there : map_entry core j ≡ Some a = ap (λ (m : List (Option PageAddr)). get_or m j None) (sym becomes.0) ∙ entry in
        let inside : j < length core.map.items = omega (arith, l, ap length becomes.0) in
        same_whole f t a.block (λ q. gone.1 a.block q (next.2 j a inside there)) (keeps.mapped j a inside there);
    full = λ at opened p less. ⊎_elim
        (λ first. absurd (omega (arith, less, ap (λ (y : PageAddr). y.page) first)))
        (λ was. ap version_count (gone.1 at.block p (λ here. next.3 at was (sym here))) ∙ keeps.full at was p less)
        (opened_or_first core.blocks core.map.items core.next_pages new.next_pages b becomes.2 at opened);
    spared = subst (λ (n : ℕ). IsSafelySpared t new.map.items n new.next_pages) (sym blocks)
        (subst (λ (m : List (Option PageAddr)). IsSafelySpared t m core.blocks new.next_pages) (sym becomes.0) (⊎_elim
        (λ free. inl free)
        (λ copies. inr (
          first_page b,
          copies.0,
          copies.1,
          next.1,
          λ j q v l shows. absurd (erased_has_none t b q j shows.newest.number v (gone.0 q) shows.newest.held),
        ))
        (free_or_copies core.blocks core.map.items core.next_pages new.next_pages b becomes.2 next.5)));
  }
  whole_after Refused next same becomes = subst (λ (g : Flash). KeepsWhole g new) (λ i b p. sym (same b p) i) (record {
    mapped = λ j a l entry. keeps.mapped j a (omega (arith, l, ap length becomes.0))
        (ap (λ (m : List (Option PageAddr)). get_or m j None) (sym becomes.0) ∙ entry);
    full = subst (AreFullBefore f) (sym becomes.2) keeps.full;
    spared = subst (λ (n : ℕ). IsSafelySpared f new.map.items n new.next_pages) (sym blocks)
        (subst (λ (m : List (Option PageAddr)). IsSafelySpared f m core.blocks new.next_pages) (sym becomes.0)
        (subst (IsSafelySpared f core.map.items core.blocks) (sym becomes.2) keeps.spared));
  })

pub cuts_unharmed : (core : Core) (s : Extent) (m : Command) → IsNextCommand core m → CutsUnharmed core s m
cuts_unharmed core s m next f t x acked begun is keeps cut =
    cut_unharmed f t core (array_after is.updates) is.represents keeps s x m next cut

pub cuts_idle_unharmed : (core : Core) → CutsIdleUnharmed core
cuts_idle_unharmed core f acked begun is keeps = idle_unharmed f f core (array_after is.updates) is.represents keeps

pub remains_whole : (core new : Core) (s : Extent) (m : Command) → IsNextCommand core m → BecomesCore core s m new
    → new.blocks ≡ core.blocks → StaysWhole core s m new
remains_whole core new s m next becomes blocks f t x acked begun is keeps does =
    whole_after f t core new (array_after is.updates) is.represents keeps blocks s x m next does becomes
