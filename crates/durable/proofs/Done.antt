-- After a command that succeeds the flash holds the array, as the layer's memory has it then.
use Rattle.std.proofs.Common.{◌≡◌, ◌<◌, ◌+◌, ℕ, List, length, Option, None, Some, get_or, set, inr, ⊎_elim, sym, ◌∙◌, ap, subst, arith}
use Rattle.std.proofs.lemmas.List.{length-set}
use Rattle.geometry.specs.Sectors.{Sector}
use Rattle.geometry.specs.declared.page_addr.PageAddr.{PageAddr}
use Rattle.durable.specs.declared.command.Command.{Command}
use Rattle.durable.specs.declared.command.Command.TheVariants.{Program, Copy, Erase, Refused}
use Rattle.durable.specs.declared.memory.Core.{Core}
use Rattle.durable.specs.Flash.{Version, Flash, HoldsNewest}
use Rattle.durable.specs.declared.extent.Extent.{Extent}
use Rattle.durable.specs.Updates.{changed}
use Rattle.durable.specs.declared.next_pages.NextPages.{NextPages}
use Rattle.durable.specs.Collecting.{IsCopied, IsOpenAt, IsProgrammed, MapsAll}
use Rattle.durable.specs.Next.{Opens}
use Rattle.durable.specs.Commands.{Completes, IsSameFlash}
use Rattle.durable.specs.Memory.{map_entry, IsMappedTo, AreErasedFrom, Represents}
use Rattle.durable.specs.Choice.{IsNextCommand}
use Rattle.durable.proofs.Extents.{changed_here, changed_elsewhere}
use Rattle.durable.proofs.Opened.{after_copied, after_programmed, is_open, opened_or_first}
use Rattle.durable.proofs.Cells.{was_page, same_held, erased_loses, kept_in_loss}
use Rattle.durable.proofs.Moments.{kept_set, kept_all, erased_next, ready_next, programmed_shows, programmed_kept}
use Rattle.durable.proofs.Moments.{copied_shows, copied_kept}

-- the array after a command that succeeds: only the program changes it
abbrev pub array_with : Command → (ℕ → Sector) → Extent → Sector → ℕ → Sector
array_with (Program at n) array s value = changed array s value
array_with (Copy k from to) array s value = array
array_with (Erase b) array s value = array
array_with Refused array s value = array

-- the map, the next number and the next pages after a command that succeeded
abbrev pub Becomes : Core → Extent → Command → List (Option PageAddr) → ℕ → NextPages → Type 0
Becomes core s (Program at n) map number next = MapsAll core.map.items map s at × (number ≡ n + 1) × IsProgrammed core.next_pages at core.pages next
Becomes core s (Copy k from to) map number next =
    (map ≡ set core.map.items k (Some to)) × (number ≡ core.next_number) × IsCopied core.next_pages to core.pages next
Becomes core s (Erase b) map number next =
    (map ≡ core.map.items) × (number ≡ core.next_number) × Opens core.blocks core.map.items core.next_pages b next
Becomes core s Refused map number next = (map ≡ core.map.items) × (number ≡ core.next_number) × (next ≡ core.next_pages)

-- the same, of the layer
abbrev pub BecomesCore : Core → Extent → Command → Core → Type 0
BecomesCore core s m new = Becomes core s m new.map.items new.next_number new.next_pages

module _ (f t : Flash) (core new : Core) (array : ℕ → Sector) (stands : Represents f core array) (s : Extent) (x : Sector) where
  after_program : (at : PageAddr) (n : ℕ) → IsNextCommand core (Program at n) → Completes (Program at n) s x f t → BecomesCore core s (Program at n) new
      → Represents t new (changed array s x)
  after_program at n next puts becomes = record {
    mapped = kept_all t core.map.items new.map.items s at (changed array s x) becomes.0
        (λ k has. subst (λ (v : Sector). HoldsNewest t k v at.block at.page) (sym (changed_here array s x k has))
        (programmed_shows f t core array stands at opened s n x next.1 puts k has))
        (λ k l out. subst (λ (v : Sector). IsMappedTo t k v (map_entry core k)) (sym (changed_elsewhere array s x k out))
        (programmed_kept f t core array stands at opened s n x next.1 puts k l out));
    numbers = λ d q r m v e. ⊎_elim
        (λ h. let is = (same_held s n x r m v h).1 in omega (arith, is, becomes.1))
        (λ h. let below = stands.numbers d q r m v h in omega (arith, next.1, below, becomes.1))
        (was_page f t at.block at.page (Version s n x) (erased_next f t core array stands at opened) puts d q r m v e);
    erased = ready_next f t at (Version s n x) core.next_pages new.next_pages core.pages opened
        (after_programmed core.next_pages new.next_pages at core.pages core.apart next.0 becomes.2) stands.erased puts;
  }
    where
      opened : IsOpenAt core.next_pages at
      opened = is_open core.next_pages at next.0

  after_copy : (k : ℕ) (from to : PageAddr) → IsNextCommand core (Copy k from to) → Completes (Copy k from to) s x f t
      → BecomesCore core s (Copy k from to) new → Represents t new array
  after_copy k from to next puts becomes = record {
    mapped = λ j l. subst (λ (items : List (Option PageAddr)). IsMappedTo t j (array j) (get_or items j None)) (sym becomes.0)
        (kept_set t core.map.items k to array next.1 (copied_shows f t core array stands to from (inr next.0) k next.1 next.2 puts)
        (λ i l differs. copied_kept f t core array stands to from (inr next.0) puts i l)
        j (subst (λ (m : ℕ). j < m) (ap length becomes.0 ∙ length-set core.map.items k (Some to)) l));
    numbers = λ d q r m v e. ⊎_elim
        (λ h. let below = stands.numbers from.block from.page r m v h in omega (arith, below, becomes.1))
        (λ h. let below = stands.numbers d q r m v h in omega (arith, below, becomes.1))
        (was_page f t to.block to.page (f from.block from.page) (erased_next f t core array stands to (inr next.0)) puts d q r m v e);
    erased = ready_next f t to (f from.block from.page) core.next_pages new.next_pages core.pages (inr next.0)
        (after_copied core.next_pages new.next_pages to core.pages core.apart next.0 becomes.2) stands.erased puts;
  }

  after_erase : (b : ℕ) → IsNextCommand core (Erase b) → Completes (Erase b) s x f t → BecomesCore core s (Erase b) new → Represents t new array
  after_erase b next gone becomes =
      let loses = erased_loses f t b gone.0 gone.1 in
      record {
        mapped = λ k l. let inside : k < length core.map.items = omega (arith, l, ap length becomes.0) in
            subst (λ (items : List (Option PageAddr)). IsMappedTo t k (array k) (get_or items k None)) (sym becomes.0)
            (kept_in_loss f t b k (array k) (map_entry core k) (stands.mapped k inside) (λ at is. next.2 k at inside is) loses);
        numbers = λ d q r m v e. let below = stands.numbers d q r m v (loses.within d q r m v e) in omega (arith, below, becomes.1);
        erased = λ at opened p le. ⊎_elim
            (λ first. (λ i. t ((ap (λ (x : PageAddr). x.block) first) i) p) ∙ gone.0 p)
            (λ was. gone.1 at.block p (λ here. next.3 at was (sym here)) ∙ stands.erased at was p le)
            (opened_or_first core.blocks core.map.items core.next_pages new.next_pages b becomes.2 at opened);
      }

  after_refused : IsSameFlash f t → BecomesCore core s Refused new → Represents t new array
  after_refused same becomes = subst (λ (g : Flash). Represents g new array) (λ i b p. sym (same b p) i) (record {
    mapped = λ k l. let inside : k < length core.map.items = omega (arith, l, ap length becomes.0) in
        subst (λ (items : List (Option PageAddr)). IsMappedTo f k (array k) (get_or items k None)) (sym becomes.0) (stands.mapped k inside);
    numbers = λ d q r m v e. let below = stands.numbers d q r m v e in omega (arith, below, becomes.1);
    erased = subst (AreErasedFrom f) (sym becomes.2) stands.erased;
  })

  pub represents_after : (m : Command) → IsNextCommand core m → Completes m s x f t → BecomesCore core s m new → Represents t new
      (array_with m array s x)
  represents_after (Program at n) next does becomes = after_program at n next does becomes
  represents_after (Copy k from to) next does becomes = after_copy k from to next does becomes
  represents_after (Erase b) next does becomes = after_erase b next does becomes
  represents_after Refused next does becomes = after_refused does becomes
