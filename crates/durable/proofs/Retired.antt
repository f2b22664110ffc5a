-- A block whose command has failed leaves the use: what the flash holds then, by the new numbers, and the layer's memory.
use Rattle.std.proofs.Common.{◌≡◌, ◌≢◌, inr, ⊎_elim, ◌<◌, ◌≤◌, ℕ, Bool, true, false, List, length, Option, None, Some, get_or}
use Rattle.std.proofs.Common.{refl, sym, ◌∙◌, ap, subst, arith}
use Rattle.geometry.specs.Sectors.{Sector}
use Rattle.geometry.specs.declared.page_addr.PageAddr.{PageAddr}
use Rattle.durable.specs.declared.extent.Extent.{Extent}
use Rattle.durable.specs.declared.command.Command.{Command}
use Rattle.durable.specs.declared.command.Command.TheVariants.{Program, Copy, Erase, Refused}
use Rattle.durable.specs.declared.memory.Core.{Core}
use Rattle.durable.specs.Choice.{IsNextCommand}
use Rattle.durable.specs.Collecting.{IsFree, IsOpenAt}
use Rattle.durable.specs.Commands.{CutLeaves, IsSameFlash}
use Rattle.durable.specs.Device.{device_of}
use Rattle.durable.specs.Failures.{Changes, IsSwapped, swapped}
use Rattle.durable.specs.Flash.{Torn, Version, Flash, HasVersion, HoldsNewest, SetsPage}
use Rattle.durable.specs.Losses.{IsGapless, version_count}
use Rattle.durable.specs.Memory.{IsMappedTo, Represents, map_entry}
use Rattle.durable.specs.Promise.{IsConsistent}
use Rattle.durable.specs.Retiring.{HasLeftVersion, IsRetired, Keeps, Renumbers, Retires, swapped_entry, updates_left}
use Rattle.durable.specs.Updates.{IsSubsequence, LiesWithin, Update, array_after, changed}
use Rattle.durable.specs.Whole.{KeepsWhole}
use Rattle.durable.proofs.Cells.{erased_holds_none, kept_in_loss, same_held, torn_holds_none, was_page}
use Rattle.durable.proofs.Extents.{cases_covered, changed_elsewhere, changed_here, none_all}
use Rattle.durable.proofs.Frees.{spares}
use Rattle.durable.proofs.Moments.{copied_kept, erased_next, kept_all, programmed_kept, programmed_shows, torn_kept}
use Rattle.durable.proofs.Opened.{NoneOpen, is_open}
use Rattle.durable.proofs.Promises.{cut_written, written_renumbered}
use Rattle.durable.proofs.Reserves.{renumbered, swapped_first, swapped_twice}
use Rattle.durable.proofs.Whole.{lost_whole, opens, stay_whole}

none_is_no_page : (at : PageAddr) → None ≢ Some at
none_is_no_page at e = cc e

same_block : (at to : PageAddr) → Some at ≡ Some to → at.block ≡ to.block
same_block at to e = cc e

-- an entry by the new numbers was one by the old ones
pub entry_before : (a b : ℕ) (k : Option PageAddr) (at : PageAddr) → swapped_entry a b k ≡ Some at
    → (was : PageAddr) × (k ≡ Some was) × (at.block ≡ swapped a b was.block)
entry_before a b None at is = absurd (none_is_no_page at is)
entry_before a b (Some was) at is = (was, refl, sym (same_block (record { block = swapped a b was.block; page = was.page }) at is))

module _ (old new : List (Option PageAddr)) (a b : ℕ) (is : Renumbers old new a b) where
  -- no sector is mapped to the first block, if none was to the second one
  pub first_is_free : IsFree old b → IsFree new a
  first_is_free free s at lt there here =
      let was = entry_before a b (get_or old s None) at (sym (is.entries s) ∙ there) in
      free s was.0 (omega (arith, lt, is.size)) was.1
      (sym (swapped_twice a b was.0.block) ∙ (ap (swapped a b) (sym was.2 ∙ here) ∙ swapped_first a b))

module _ (f t : Flash) (a b : ℕ) (swap : IsSwapped f t a b) where
  page_before : (c p : ℕ) → t c p ≡ f (swapped a b c) p
  page_before c p = (λ i. t (sym (swapped_twice a b c) i) p) ∙ swap (swapped a b c) p

  version_before : (c p s m : ℕ) (v : Sector) → HasVersion t c p s m v → HasVersion f (swapped a b c) p s m v
  version_before c p s m v held = (held.0, sym (page_before c p) ∙ held.1, held.2)

  -- a sector is mapped to the same page, by its new number
  mapped_swapped : (s : ℕ) (v : Sector) (k : Option PageAddr) → IsMappedTo f s v k → IsMappedTo t s v (swapped_entry a b k)
  mapped_swapped s v None kept = (kept.0, λ c p m bytes e. kept.1 (swapped a b c) p m bytes (version_before c p s m (Some bytes) e))
  mapped_swapped s v (Some at) kept = record {
    number = kept.number;
    held = (kept.held.0, swap at.block at.page ∙ kept.held.1, kept.held.2);
    newest = λ c p m w e. kept.newest (swapped a b c) p m w (version_before c p s m w e);
  }

  gapless_swapped : (c : ℕ) → IsGapless f c → IsGapless t (swapped a b c)
  gapless_swapped c whole p q e m v lt is = ap version_count (swap c p) ∙ whole p q e m v lt (sym (swap c q) ∙ is)

-- the flash has the array, and a map says where; the number of each version is below this one
record Stands (f : Flash) (map : List (Option PageAddr)) (number : ℕ) (array : ℕ → Sector) : Type 0 where
  pub mapped : (s : ℕ) → s < length map → IsMappedTo f s (array s) (get_or map s None)
  pub numbers : (b p : ℕ) (e : Extent) (m : ℕ) (v : Sector) → f b p ≡ Version e m v → m < number

-- the array after a command has failed
array_left : Bool → Command → (ℕ → Sector) → Extent → Sector → ℕ → Sector
array_left true (Program at n) array s value = changed array s value
array_left true (Copy k from to) array s value = array
array_left true (Erase b) array s value = array
array_left true Refused array s value = array
array_left false m array s value = array

-- what a command that fails leaves
module _ (f t : Flash) (core : Core) (array : ℕ → Sector) (stands : Represents f core array) (s : Extent) (x : Sector) where
  abbrev SameKept : Type 0
  SameKept = (k : ℕ) → k < length core.map.items → IsMappedTo t k (array k) (map_entry core k)

  abbrev SameNumbers : Type 0
  SameNumbers = (b p : ℕ) (e : Extent) (m : ℕ) (v : Sector) → t b p ≡ Version e m v → m < core.next_number

  same_kept : IsSameFlash f t → SameKept
  same_kept same k lt = subst (λ (g : Flash). IsMappedTo g k (array k) (map_entry core k)) (λ i b p. sym (same b p) i) (stands.mapped k lt)

  same_numbers : IsSameFlash f t → SameNumbers
  same_numbers same b p e m v is = stands.numbers b p e m v (sym (same b p) ∙ is)

  torn_numbers : (at : PageAddr) → IsOpenAt core.next_pages at → SetsPage f t at.block at.page Torn → SameNumbers
  torn_numbers at opened puts b p e m v is = ⊎_elim
      (λ here. absurd (torn_holds_none e m v here))
      (λ before. stands.numbers b p e m v before)
      (was_page f t at.block at.page Torn (erased_next f t core array stands at opened) puts b p e m v is)

  -- without a version in a program's page, each sector is kept as before
  failed_kept : (m : Command) → IsNextCommand core m → CutLeaves m s x f t → HasLeftVersion t m false → SameKept × SameNumbers
  failed_kept (Program at n) next cut none = ⊎_elim
      (λ same. (same_kept same, same_numbers same))
      (λ more. ⊎_elim
      (λ torn. (torn_kept f t core array stands at (is_open core.next_pages at next.0) torn, torn_numbers at (is_open core.next_pages at next.0) torn))
      (λ puts. absurd (none s n x puts.put))
      more)
      cut
  failed_kept (Copy k from to) next cut none = ⊎_elim
      (λ same. (same_kept same, same_numbers same))
      (λ more. ⊎_elim
      (λ torn. (torn_kept f t core array stands to (inr next.0) torn, torn_numbers to (inr next.0) torn))
      (λ puts. (
        copied_kept f t core array stands to from (inr next.0) puts,
        λ b p e m v is. ⊎_elim
            (λ here. stands.numbers from.block from.page e m v here)
            (λ before. stands.numbers b p e m v before)
            (was_page f t to.block to.page (f from.block from.page) (erased_next f t core array stands to (inr next.0)) puts b p e m v is),
      ))
      more)
      cut
  failed_kept (Erase b) next cut none = (
    (λ k lt. kept_in_loss f t b k (array k) (map_entry core k) (stands.mapped k lt) (λ at is. next.2 k at lt is) cut),
    (λ c p e m v is. stands.numbers c p e m v (cut.within c p e m v is)),
  )
  failed_kept Refused next cut none = (same_kept cut, same_numbers cut)

  -- a program that has left a version has left its own
  puts_of : (at : PageAddr) (n : ℕ) → IsNextCommand core (Program at n) → CutLeaves (Program at n) s x f t → HasLeftVersion t (Program at n) true
      → SetsPage f t at.block at.page (Version s n x)
  puts_of at n next cut has = ⊎_elim
      (λ same. absurd (erased_holds_none has.0 has.1 has.2
      (sym (erased_next f t core array stands at (is_open core.next_pages at next.0)) ∙ (sym (same at.block at.page) ∙ has.3))))
      (λ more. ⊎_elim (λ torn. absurd (torn_holds_none has.0 has.1 has.2 (sym torn.put ∙ has.3))) (λ puts. puts) more)
      cut

  without : (m : Command) (map : List (Option PageAddr)) (number : ℕ) → map ≡ core.map.items → core.next_number ≤ number → IsNextCommand core m
      → CutLeaves m s x f t → HasLeftVersion t m false → Stands t map number array
  without m map number same as_before next cut none =
      let kept = failed_kept m next cut none in
      record {
        mapped = λ k lt. subst (λ (items : List (Option PageAddr)). IsMappedTo t k (array k) (get_or items k None)) (sym same)
            (kept.0 k (omega (arith, lt, ap length same)));
        numbers = λ b p e n v is. let below = kept.1 b p e n v is in omega (arith, below, as_before);
      }

  stands_left : (m : Command) (left : Bool) (map : List (Option PageAddr)) (number : ℕ) → IsNextCommand core m → CutLeaves m s x f t
      → HasLeftVersion t m left → Keeps m left s core.map.items map core.next_number number → Stands t map number (array_left left m array s x)
  unfolding array_left
  stands_left (Program at n) true map number next cut has keeps =
      let puts = puts_of at n next cut has in
      record {
        mapped = kept_all t core.map.items map s at (changed array s x) keeps.0
            (λ k covered. subst (λ (v : Sector). HoldsNewest t k v at.block at.page) (sym (changed_here array s x k covered))
            (programmed_shows f t core array stands at (is_open core.next_pages at next.0) s n x next.1 puts k covered))
            (λ k lt out. subst (λ (v : Sector). IsMappedTo t k v (map_entry core k)) (sym (changed_elsewhere array s x k out))
            (programmed_kept f t core array stands at (is_open core.next_pages at next.0) s n x next.1 puts k lt out));
        numbers = λ b p e m v is. ⊎_elim
            (λ here. let same = (same_held s n x e m v here).1 in omega (arith, same, keeps.1))
            (λ before. let below = stands.numbers b p e m v before in omega (arith, next.1, below, keeps.1))
            (was_page f t at.block at.page (Version s n x) (erased_next f t core array stands at (is_open core.next_pages at next.0)) puts b p e m v is);
      }
  stands_left (Program at n) false map number next cut has keeps = without (Program at n) map number keeps.0 (omega (arith, keeps.1, next.1))
      next cut has
  stands_left (Copy k from to) true map number next cut has keeps = without (Copy k from to) map number keeps.0 (omega (arith, keeps.1)) next cut tt
  stands_left (Copy k from to) false map number next cut has keeps = without (Copy k from to) map number keeps.0 (omega (arith, keeps.1)) next cut tt
  stands_left (Erase b) true map number next cut has keeps = without (Erase b) map number keeps.0 (omega (arith, keeps.1)) next cut tt
  stands_left (Erase b) false map number next cut has keeps = without (Erase b) map number keeps.0 (omega (arith, keeps.1)) next cut tt
  stands_left Refused true map number next cut has keeps = without Refused map number keeps.0 (omega (arith, keeps.1)) next cut tt
  stands_left Refused false map number next cut has keeps = without Refused map number keeps.0 (omega (arith, keeps.1)) next cut tt

-- both lists of updates, after a command has failed
lists_left : (left : Bool) (m : Command) (update : Update) (some all : List Update) → IsSubsequence some all
    → IsSubsequence (updates_left left m update some) (updates_left left m update all)
lists_left true (Program at n) update some all is = inr (some, refl, is)
lists_left true (Copy k from to) update some all is = is
lists_left true (Erase b) update some all is = is
lists_left true Refused update some all is = is
lists_left false m update some all is = is

array_is : (left : Bool) (m : Command) (s : Extent) (x : Sector) (updates : List Update)
    → array_left left m (array_after updates) s x ≡ array_after (updates_left left m (record { extent = s; value = x }) updates)
unfolding array_left
array_is true (Program at n) s x updates = refl
array_is true (Copy k from to) s x updates = refl
array_is true (Erase b) s x updates = refl
array_is true Refused s x updates = refl
array_is false m s x updates = refl

size_left : (core : Core) (left : Bool) (m : Command) (s : Extent) (map : List (Option PageAddr)) (number : ℕ)
    → Keeps m left s core.map.items map core.next_number number → length map ≡ length core.map.items
size_left core true (Program at n) s map number keeps = keeps.0.size
size_left core false (Program at n) s map number keeps = ap length keeps.0
size_left core left (Copy k from to) s map number keeps = ap length keeps.0
size_left core left (Erase b) s map number keeps = ap length keeps.0
size_left core left Refused s map number keeps = ap length keeps.0

-- a block that isn't in use has no sector more
pub spare_is_free : (core : Core) (left : Bool) (m : Command) (s : Extent) (map : List (Option PageAddr)) (number spare : ℕ) → IsNextCommand core m
    → Keeps m left s core.map.items map core.next_number number → core.blocks ≤ spare → IsFree core.map.items spare → IsFree map spare
spare_is_free core true (Program at n) s map number spare next keeps past free =
    let within = (core.on_device at (is_open core.next_pages at next.0)).0 in
    none_all core.map.items map s at spare keeps.0 free (λ e. omega (arith, e, within, past))
spare_is_free core false (Program at n) s map number spare next keeps past free =
    subst (λ (items : List (Option PageAddr)). IsFree items spare) (sym keeps.0) free
spare_is_free core left (Copy k from to) s map number spare next keeps past free =
    subst (λ (items : List (Option PageAddr)). IsFree items spare) (sym keeps.0) free
spare_is_free core left (Erase b) s map number spare next keeps past free =
    subst (λ (items : List (Option PageAddr)). IsFree items spare) (sym keeps.0) free
spare_is_free core left Refused s map number spare next keeps past free =
    subst (λ (items : List (Option PageAddr)). IsFree items spare) (sym keeps.0) free

one_block : (m : Command) (a b : ℕ) → Changes m a → Changes m b → a ≡ b
one_block (Program at n) a b first second = first ∙ sym second
one_block (Copy k from to) a b first second = first ∙ sym second
one_block (Erase c) a b first second = first ∙ sym second
one_block Refused a b first second = absurd first

pub block_in_use : (core : Core) (m : Command) (b : ℕ) → IsNextCommand core m → Changes m b → b < core.blocks
block_in_use core (Program at n) b next is = let within = (core.on_device at (is_open core.next_pages at next.0)).0 in omega (arith, within, is)
block_in_use core (Copy k from to) b next is = let within = (core.on_device to (inr next.0)).0 in omega (arith, within, is)
block_in_use core (Erase c) b next is = omega (arith, next.1, is)
block_in_use core Refused b next is = absurd is

-- a command that fails leaves each block without a gap so, but for the one that an erase loses
module _ (f t : Flash) (core : Core) (array : ℕ → Sector) (stands : Represents f core array) (keeps : KeepsWhole f core) (s : Extent) (x : Sector) where
  same_gapless : IsSameFlash f t → (c : ℕ) → IsGapless f c → IsGapless t c
  same_gapless same c = subst (λ (g : Flash). IsGapless g c) (λ i b p. sym (same b p) i)

  still_gapless : (m : Command) → IsNextCommand core m → CutLeaves m s x f t → (k : ℕ) (at : PageAddr) → k < length core.map.items
      → map_entry core k ≡ Some at → IsGapless t at.block
  still_gapless (Program on n) next cut k at lt is = ⊎_elim
      (λ same. same_gapless same at.block (keeps.mapped k at lt is))
      (λ more. ⊎_elim
      (λ torn. stay_whole f t core array stands keeps on Torn (is_open core.next_pages on next.0) torn at.block (keeps.mapped k at lt is))
      (λ puts. stay_whole f t core array stands keeps on (Version s n x) (is_open core.next_pages on next.0) puts at.block (keeps.mapped k at lt is))
      more)
      cut
  still_gapless (Copy j from to) next cut k at lt is = ⊎_elim
      (λ same. same_gapless same at.block (keeps.mapped k at lt is))
      (λ more. ⊎_elim
      (λ torn. stay_whole f t core array stands keeps to Torn (inr next.0) torn at.block (keeps.mapped k at lt is))
      (λ puts. stay_whole f t core array stands keeps to (f from.block from.page) (inr next.0) puts at.block (keeps.mapped k at lt is))
      more)
      cut
  still_gapless (Erase b) next cut k at lt is = lost_whole f t b cut at.block (next.2 k at lt is) (keeps.mapped k at lt is)
  still_gapless Refused next cut k at lt is = same_gapless cut at.block (keeps.mapped k at lt is)

  as_before : (m : Command) (map : List (Option PageAddr)) → IsNextCommand core m → CutLeaves m s x f t → map ≡ core.map.items
      → (k : ℕ) (at : PageAddr) → k < length map → get_or map k None ≡ Some at → IsGapless t at.block
  as_before m map next cut same k at lt is = still_gapless m next cut k at (omega (arith, lt, ap length same))
      (ap (λ (items : List (Option PageAddr)). get_or items k None) (sym same) ∙ is)

  gapless_left : (m : Command) (left : Bool) (map : List (Option PageAddr)) (number : ℕ) → IsNextCommand core m → CutLeaves m s x f t → HasLeftVersion t m left
      → Keeps m left s core.map.items map core.next_number number → (k : ℕ) (at : PageAddr) → k < length map → get_or map k None ≡ Some at
      → IsGapless t at.block
  gapless_left (Program on n) true map number next cut has kept k at lt is = ⊎_elim
      (λ covered. subst (IsGapless t) (same_block on at (sym (kept.0.covered k covered) ∙ is))
      (opens f t core array stands keeps on (Version s n x) (is_open core.next_pages on next.0) (puts_of f t core array stands s x on n next cut has)))
      (λ out. still_gapless (Program on n) next cut k at (omega (arith, lt, kept.0.size)) (sym (kept.0.others k out) ∙ is))
      (cases_covered s k)
  gapless_left (Program on n) false map number next cut has kept k at lt is = as_before (Program on n) map next cut kept.0 k at lt is
  gapless_left (Copy j from to) left map number next cut has kept k at lt is = as_before (Copy j from to) map next cut kept.0 k at lt is
  gapless_left (Erase b) left map number next cut has kept k at lt is = as_before (Erase b) map next cut kept.0 k at lt is
  gapless_left Refused left map number next cut has kept k at lt is = as_before Refused map next cut kept.0 k at lt is

-- the layer goes on without the block
module _ (core new : Core) (s : Extent) (m : Command) (left : Bool) (spare block : ℕ) (map : List (Option PageAddr))
    (within : LiesWithin (length core.map.items) s) (next : IsNextCommand core m)
    (keeps : Keeps m left s core.map.items map core.next_number new.next_number) (renumbers : Renumbers map new.map.items block spare)
    (changes : Changes m block) (past : core.blocks ≤ spare) (read : spare < core.read_blocks) (free : IsFree map spare)
    (closed : NoneOpen new.next_pages) (blocks : new.blocks ≡ core.blocks)
    (reads : new.read_blocks ≡ core.read_blocks) (pages : new.pages ≡ core.pages) where
  block_is_free : IsFree new.map.items block
  block_is_free = first_is_free map new.map.items block spare renumbers free

  block_within : block < new.blocks
  block_within = let lt = block_in_use core m block next changes in omega (arith, lt, blocks)

  size : length new.map.items ≡ length core.map.items
  size = renumbers.size ∙ size_left core left m s map new.next_number keeps

  pub retires : Retires core s m left spare new
  retires f t x acked begun is retired =
      let update : Update = record { extent = s; value = x } in
      let array = array_after is.updates in
      let failed = retired.failed in
      let here : retired.block ≡ block = one_block m retired.block block retired.changes changes in
      let swap = subst (λ (b : ℕ). IsSwapped failed t b spare) here retired.swap in
      let stands = stands_left f failed core array is.represents s x m left map new.next_number next retired.cut retired.has keeps in
      let in_use = block_in_use core m block next changes in
      let all_renumbered = renumbered failed t block spare core.read_blocks (omega (arith, in_use, past, read)) read swap in
      let mapped : (k : ℕ) → k < length new.map.items → IsMappedTo t k (array_left left m array s x k) (map_entry new k) =
      λ k lt. subst (IsMappedTo t k (array_left left m array s x k)) (sym (renumbers.entries k))
      (mapped_swapped failed t block spare swap k (array_left left m array s x k) (get_or map k None)
      (stands.mapped k (omega (arith, lt, renumbers.size)))) in
      record {
        updates = updates_left left m update is.updates;
        includes = lists_left left m update acked is.updates is.includes;
        included = lists_left left m update is.updates begun is.included;
        represents = subst (λ (a : ℕ → Sector). Represents t new a) (array_is left m s x is.updates) (record {
          mapped = mapped;
          numbers = λ c p e n v at. stands.numbers (swapped block spare c) p e n v (sym (page_before failed t block spare swap c p) ∙ at);
          erased = λ at opened. absurd (closed at opened);
        });
        written = written_renumbered failed t core.read_blocks all_renumbered (device_of core) (device_of new)
            (reads, pages, size) refl
            (cut_written f failed core array is.represents is.written s x m within next retired.cut);
        spare = spares t new block closed block_within block_is_free;
      }

-- a map by the new numbers has as many sectors as the layer
pub size_renumbered : (core : Core) (left : Bool) (m : Command) (s : Extent) (map items : List (Option PageAddr)) (number block spare : ℕ)
    → Keeps m left s core.map.items map core.next_number number → Renumbers map items block spare → length items ≡ length core.map.items
size_renumbered core left m s map items number block spare keeps renumbers = renumbers.size ∙ size_left core left m s map number keeps

-- and keeps nothing in a block that has a gap
module _ (core : Core) (s : Extent) (m : Command) (left : Bool) (spare block : ℕ) (map items : List (Option PageAddr)) (number : ℕ)
    (next : IsNextCommand core m) (keeps : Keeps m left s core.map.items map core.next_number number) (renumbers : Renumbers map items block spare)
    (changes : Changes m block) (free : IsFree map spare) where
  pub whole_left : (f t : Flash) (x : Sector) (acked begun : List Update) → IsConsistent f core acked begun → KeepsWhole f core
      → IsRetired f t s m left spare x
      → ((k : ℕ) (at : PageAddr) → k < length items → get_or items k None ≡ Some at → IsGapless t at.block)
      × ((b : ℕ) × (b < core.blocks) × IsFree items b)
  whole_left f t x acked begun is whole retired =
      let failed = retired.failed in
      let here : retired.block ≡ block = one_block m retired.block block retired.changes changes in
      let swap = subst (λ (b : ℕ). IsSwapped failed t b spare) here retired.swap in (
        λ k at lt entry.
            let was = entry_before block spare (get_or map k None) at (sym (renumbers.entries k) ∙ entry) in
            subst (IsGapless t) (sym was.2) (gapless_swapped failed t block spare swap was.0.block
            (gapless_left f failed core (array_after is.updates) is.represents whole s x m left map number next retired.cut retired.has keeps k was.0
            (omega (arith, lt, renumbers.size)) was.1)),
        (block, block_in_use core m block next changes, first_is_free map items block spare renumbers free),
      )
