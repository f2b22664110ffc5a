-- A store in the terms of its die and its map.
use Rattle.std.proofs.Common.{◌≡◌, ◌≢◌, inl, inr, ℕ, ◌+◌, ◌<◌, ◌≤◌, ◌^◌, true, false, List, [], ◌∷◌, ◌++◌, length, get_or, set, map, Option, None, Some, sym}
use Rattle.std.proofs.{Common.ap, Common.◌∙◌, Common.refl, Common.subst, Common.arith, lemmas.List.with_items_is, lemmas.List.Sums.count_by-le-length}
use Rattle.std.{specs.Option.IfSome, specs.Option.option_map, specs.Vec.with_items, proofs.lemmas.Bool.cases_eq}
use Rattle.geometry.specs.{declared.geometry.Geometry.Geometry, declared.page_addr.PageAddr.PageAddr, Sectors.sector_at, Sectors.was_of}
use Rattle.geometry.specs.Geometry.{blocks_of, pages_of, page_bytes_of, sectors_of}
use Rattle.die.{specs.declared.die.Die.Die, specs.Pages.Block, specs.Pages.Page, specs.Pages.page_at, specs.Pages.programmed, proofs.Dies.pages_within}
use Rattle.die.specs.Die.{geometry_of as die_geometry_of, block_of, ChangesBlock, IsUsable, IsProgrammed, IsNext}
use Rattle.ftl_one.{specs.declared.store.Store.Store, proofs.Entries.length-entries, proofs.Entries.get_or-entries}
use Rattle.ftl_one.specs.{Stock.Entry, Stock.forgotten, Store.geometry_of, Store.array_of, Store.entries_of, Store.erases_of, Store.retired_of, Store.HasRoom}
use Rattle.ftl_one.specs.Entries.{entry_of, entries_in, live_count, Recounts, IsMapped, sectors_in, value_in, was_by}
use Rattle.ftl_one.proofs.Maps.{Becomes, was_here, sector-at, length-sectors, mapped-put, entries-put, entries-put_other, sectors-put}

-- the bytes of a page of the store
abbrev pub size_of : Store → ℕ
size_of s = page_bytes_of (die_geometry_of s.die)

-- the array has the geometry's sectors
pub length-sectors_of : (s : Store) → length (array_of s) ≡ sectors_of (geometry_of s)
unfolding array_of
length-sectors_of s = length-sectors (size_of s) (block_of s.die) s.current.items ∙ s.mapped.current_size

pub length-entries_of : (s : Store) (b : ℕ) → length (entries_of s b) ≡ length (block_of s.die b).pages
unfolding entries_of
length-entries_of s b = length-entries (size_of s) s.current.items b (block_of s.die b)

pub get_or-entries_of : (s : Store) (b p : ℕ) (d : Entry) → p < length (entries_of s b)
    → get_or (entries_of s b) p d ≡ entry_of s.current.items b p (page_at (size_of s) (block_of s.die b) p)
unfolding entries_of
get_or-entries_of s b p d low =
    get_or-entries (size_of s) s.current.items b (block_of s.die b) p d (omega (arith, low, length-entries (size_of s) s.current.items b (block_of s.die b)))

pub entries_within : (s : Store) (b : ℕ) → b < blocks_of (geometry_of s) → length (entries_of s b) ≤ pages_of (geometry_of s)
entries_within s b low = omega (arith, length-entries_of s b, pages_within s.die b low)

pub usable_block : (s : Store) (b : ℕ) → b < blocks_of (geometry_of s) → retired_of s b ≡ false → IsUsable s.die b
unfolding retired_of
usable_block s b low off = record { within = low; not_retired = off }

pub programmed_page : (s : Store) (at : PageAddr) → at.block < blocks_of (geometry_of s) → retired_of s at.block ≡ false
    → at.page < length (entries_of s at.block) → IsProgrammed s.die at
programmed_page s at low off short = record { usable = usable_block s at.block low off; programmed = omega (arith, short, length-entries_of s at.block) }

pub next_of_block : (s : Store) (at : PageAddr) (b : ℕ) → HasRoom s b → at.block ≡ b → at.page ≡ length (entries_of s b) → IsNext s.die at
next_of_block s at b room same next =
    let low : at.block < blocks_of (geometry_of s) = omega (arith, same, room.within) in
    let off : retired_of s at.block ≡ false = ap (retired_of s) same ∙ room.not_retired in
    let size = ap (λ (k : ℕ). length (entries_of s k)) same in
    record {
      usable = usable_block s at.block low off;
      next = omega (arith, next, size, length-entries_of s at.block);
      within = omega (arith, next, room.room);
    }

-- the store's count of a block is that of its entries
pub count-entries_of : (s : Store) (b : ℕ) → b < blocks_of (geometry_of s) → get_or s.live.items b 0 ≡ live_count (entries_of s b)
unfolding entries_of
count-entries_of s b low = s.mapped.counts b low

-- a count has room for one more
pub count_small : (s : Store) (b : ℕ) → b < blocks_of (geometry_of s) → get_or s.live.items b 0 + 1 < 2 ^ 16
count_small s b low =
    let most : live_count (entries_of s b) ≤ length (entries_of s b) = count_by-le-length (λ (entry : Entry). entry.live) (entries_of s b) in
    omega (arith, count-entries_of s b low, most, entries_within s b low, s.die.geometry.in_limits.pages_high)

-- the page that the map names for a sector is counted in its block, by the counts of live pages
pub named_within : (s : Store) (sector : ℕ) (o : Option PageAddr) (counts : List ℕ) → counts ≡ s.live.items → get_or s.current.items sector None ≡ o
    → IfSome o (λ at. at.block < length counts)
named_within s sector None counts same e = tt
named_within s sector (Some at) counts same e =
    omega (arith, (s.mapped.named sector at e).block, s.mapped.live_size, ap (λ (xs : List ℕ). length xs) same)

pub named_counted : (s : Store) (sector : ℕ) (o : Option PageAddr) (counts : List ℕ) → counts ≡ s.live.items → get_or s.current.items sector None ≡ o
    → IfSome o (λ at. 0 < get_or counts at.block 0)
named_counted s sector None counts same e = tt
named_counted s sector (Some at) counts same e =
    let g = die_geometry_of s.die in
    let here = was_here (page_bytes_of g) (blocks_of g) (sectors_of g) (block_of s.die) s.current.items s.live.items s.mapped sector at.block at e refl in
    omega (arith, here, s.mapped.counts at.block (s.mapped.named sector at e).block, ap (λ (xs : List ℕ). get_or xs at.block 0) same)

-- what the sector was, by the page that the map names
pub was-named : (s : Store) (sector : ℕ) (o : Option PageAddr) → sector < sectors_of (geometry_of s) → o ≡ get_or s.current.items sector None
    → was_by o ≡ was_of (sector_at (array_of s) sector)
unfolding array_of
was-named s sector o low e =
    by o ∙ sym (ap was_of (sector-at (size_of s) (block_of s.die) s.current.items sector o (omega (arith, low, s.mapped.current_size)) (sym e)))
  where
    by : (x : Option PageAddr) → was_by x ≡ was_of (option_map (value_in (size_of s) (block_of s.die)) x)
    by None = refl
    by (Some at) = refl

-- the counts once they were rewritten
pub recounted : (s : Store) (counts : List ℕ) (was is : Option PageAddr) → Recounts s.live.items counts was is → (with_items s.live counts).items ≡ counts
recounted s counts was is h = with_items_is s.live counts (omega (arith, h.size, s.live.ok.0))

-- a page is put: the die has programmed it, and the map names it
module _ (old : Store) (die : Die) (at : PageAddr) (page : Page) (live : List ℕ) (low : page.stamp < sectors_of (geometry_of old))
    (next : IsNext old.die at) (changes : ChangesBlock old.die die at.block (programmed (block_of old.die at.block) page))
    (counts : Recounts old.live.items live (get_or old.current.items page.stamp None) (Some at)) where
  becomes : Becomes (blocks_of (die_geometry_of old.die)) (block_of old.die) (block_of die) at.block (programmed (block_of old.die at.block) page)
  becomes = record { changed = changes.changed; others = changes.others }

  pub put-mapped : IsMapped (page_bytes_of (die_geometry_of die)) (blocks_of (die_geometry_of die)) (sectors_of (die_geometry_of die)) (block_of die)
      (set old.current.items page.stamp (Some at)) live
  put-mapped =
      let g = die_geometry_of old.die in
      subst (λ (h : Geometry). IsMapped (page_bytes_of h) (blocks_of h) (sectors_of h) (block_of die)
      (set old.current.items page.stamp (Some at)) live) (sym changes.geometry)
      (mapped-put (page_bytes_of g) (blocks_of g) (sectors_of g) (block_of old.die)
      (block_of die) old.current.items old.live.items live old.mapped at page low next.usable.within next.next next.usable.not_retired becomes counts)

  pub put-sectors : sectors_in (page_bytes_of (die_geometry_of die)) (block_of die) (set old.current.items page.stamp (Some at))
      ≡ set (array_of old) page.stamp (Some page.value)
  unfolding array_of
  put-sectors =
      let g = die_geometry_of old.die in
      ap (λ (h : Geometry). sectors_in (page_bytes_of h) (block_of die) (set old.current.items page.stamp (Some at))) changes.geometry
      ∙ sectors-put (page_bytes_of g) (blocks_of g) (sectors_of g) (block_of old.die)
      (block_of die) old.current.items old.live.items live old.mapped at page low next.usable.within next.next next.usable.not_retired becomes counts

  pub put-changed : entries_in (page_bytes_of (die_geometry_of die)) (set old.current.items page.stamp (Some at)) at.block (block_of die at.block)
      ≡ map (forgotten page.stamp) (entries_of old at.block) ++ (record { sector = page.stamp; live = true }) ∷ []
  unfolding entries_of
  put-changed =
      let g = die_geometry_of old.die in
      ap (λ (h : Geometry). entries_in (page_bytes_of h) (set old.current.items page.stamp (Some at)) at.block (block_of die at.block)) changes.geometry
      ∙ entries-put (page_bytes_of g) (blocks_of g) (sectors_of g) (block_of old.die)
      (block_of die) old.current.items old.live.items live old.mapped at page low next.usable.within next.next next.usable.not_retired becomes counts

  pub put-others : (c : ℕ) → c ≢ at.block → c < blocks_of (geometry_of old)
      → entries_in (page_bytes_of (die_geometry_of die)) (set old.current.items page.stamp (Some at)) c (block_of die c)
      ≡ map (forgotten page.stamp) (entries_of old c)
  unfolding entries_of
  put-others c apart inside =
      let g = die_geometry_of old.die in
      ap (λ (h : Geometry). entries_in (page_bytes_of h) (set old.current.items page.stamp (Some at)) c (block_of die c)) changes.geometry
      ∙ entries-put_other (page_bytes_of g) (blocks_of g) (sectors_of g) (block_of old.die)
      (block_of die) old.current.items old.live.items live old.mapped at page low next.usable.within next.next next.usable.not_retired becomes
      counts c apart inside

  pub put-erases : (c : ℕ) → c < blocks_of (geometry_of old) → (block_of die c).erases ≡ erases_of old c
  unfolding erases_of
  put-erases c inside = elim (cases_eq c at.block) [
    | inl e ↦ subst (λ (k : ℕ). (block_of die k).erases ≡ (block_of old.die k).erases) (sym e) (ap (λ (k : Block). k.erases) changes.changed)
    | inr apart ↦ ap (λ (k : Block). k.erases) (changes.others c apart inside)
  ]

  pub put-retired : (c : ℕ) → c < blocks_of (geometry_of old) → (block_of die c).retired ≡ retired_of old c
  unfolding retired_of
  put-retired c inside = elim (cases_eq c at.block) [
    | inl e ↦ subst (λ (k : ℕ). (block_of die k).retired ≡ (block_of old.die k).retired) (sym e) (ap (λ (k : Block). k.retired) changes.changed)
    | inr apart ↦ ap (λ (k : Block). k.retired) (changes.others c apart inside)
  ]
