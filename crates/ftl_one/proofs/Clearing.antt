-- A live page is copied: the copy is the sector's page then, and the array is as before. A block's live pages are copied one after the other, from
-- its first page on.
use Rattle.std.proofs.Common.{◌≡◌, ◌≢◌, ℕ, ◌<◌, Bool, true, false, cond, List, [], ◌∷◌, ◌++◌, length, get_or, set, map, None, Some, sym, ap, ◌∙◌, refl, arith}
use Rattle.std.proofs.Common.{◌+◌, ◌≤◌, take, length-append, length-set, get_or-set_other}
use Rattle.std.proofs.lemmas.Bool.{ne_eqb}
use Rattle.geometry.specs.declared.page_addr.PageAddr.{PageAddr}
use Rattle.geometry.specs.Geometry.{blocks_of, page_bytes_of, sectors_of, pages_of}
use Rattle.die.specs.declared.die.Die.{Die}
use Rattle.die.specs.Die.{geometry_of as die_geometry_of, block_of, ChangesBlock, IsNext}
use Rattle.die.specs.Pages.{Page, page_at, programmed}
use Rattle.ftl_one.specs.declared.store.Store.{Store}
use Rattle.ftl_one.specs.Stock.{Entry, forgotten, live_entries}
use Rattle.ftl_one.specs.Entries.{entries_in, Recounts, sectors_in, live_count}
use Rattle.ftl_one.specs.Store.{geometry_of, array_of, entries_of, live_at, sector_of, KeepsBlocks, HasRoom, HasRoomFor, Relocates, Clears}
use Rattle.ftl_one.proofs.Entries.{is_page-same, forgotten_here}
use Rattle.ftl_one.proofs.Maps.{set_as_is, sector-at, not_here}
use Rattle.ftl_one.proofs.Stores.{size_of, length-entries_of, get_or-entries_of, put-changed, put-others, put-sectors}
use Rattle.std.proofs.lemmas.List.{append_assoc, take_more, take_more_set, take_all, append-nil}
use Rattle.std.proofs.lemmas.List.Elements.{filter-append}
use Rattle.std.proofs.lemmas.List.Sums.{sum_by_push, sum_by-take-le, sum_by_more, length-filter}

-- the page at an address
abbrev pub page_of : Store → PageAddr → Page
page_of s at = page_at (size_of s) (block_of s.die at.block) at.page

pub sector_of-page : (s : Store) (at : PageAddr) → at.page < length (entries_of s at.block) → sector_of s at ≡ (page_of s at).stamp
sector_of-page s at low = ap (λ (e : Entry). e.sector) (get_or-entries_of s at.block at.page (record { sector = 0; live = false }) low)

-- the map names a live page for the sector in its stamp
pub names_live : (s : Store) (at : PageAddr) → at.page < length (entries_of s at.block) → live_at s at ≡ true
    → get_or s.current.items (page_of s at).stamp None ≡ Some at
names_live s at low live =
    let is = ap (λ (e : Entry). e.live) (sym (get_or-entries_of s at.block at.page (record { sector = 0; live = false }) low)) ∙ live in
    let found = is_page-same (get_or s.current.items (page_of s at).stamp None) at.block at.page is in
    let to : PageAddr = found.0 in
    found.1 ∙ ap Some (ap (λ (k : ℕ). let a : PageAddr = record { block = k; page = to.page } in a) found.2
    ∙ ap (λ (k : ℕ). let a : PageAddr = record { block = at.block; page = k } in a) found.3)

pub stamp_below : (s : Store) (at : PageAddr) → at.block < blocks_of (geometry_of s) → at.page < length (entries_of s at.block)
    → (page_of s at).stamp < sectors_of (geometry_of s)
stamp_below s at inside low = s.mapped.stamps at.block at.page inside (omega (arith, low, length-entries_of s at.block))

module _ (old : Store) (die : Die) (source at : PageAddr) (live : List ℕ) (inside : source.block < blocks_of (geometry_of old))
    (short : source.page < length (entries_of old source.block)) (alive : live_at old source ≡ true) (apart : source.block ≢ at.block)
    (next : IsNext old.die at) (changes : ChangesBlock old.die die at.block (programmed (block_of old.die at.block) (page_of old source)))
    (counts : Recounts old.live.items live (get_or old.current.items (page_of old source).stamp None) (Some at)) where
  elsewhere : (c : ℕ) → c ≢ source.block → map (forgotten (page_of old source).stamp) (entries_of old c) ≡ entries_of old c
  unfolding entries_of
  elsewhere c other =
      let g = die_geometry_of old.die in
      not_here (page_bytes_of g) (blocks_of g) (sectors_of g) (block_of old.die) old.current.items old.live.items old.mapped
      (page_of old source).stamp c (Some source) (names_live old source short alive)
      (ap (λ (t : Bool). cond t 1 0) (ne_eqb source.block c (λ e. other (sym e))))

  pub relocate-copied : entries_in (page_bytes_of (die_geometry_of die)) (set old.current.items (page_of old source).stamp (Some at)) at.block
      (block_of die at.block) ≡ entries_of old at.block ++ (record { sector = (page_of old source).stamp; live = true }) ∷ []
  relocate-copied =
      put-changed old die at (page_of old source) live (stamp_below old source inside short) next changes counts
      ∙ ap (λ (xs : List Entry). xs ++ (record { sector = (page_of old source).stamp; live = true }) ∷ []) (elsewhere at.block (λ e. apart (sym e)))

  pub relocate-dead : entries_in (page_bytes_of (die_geometry_of die)) (set old.current.items (page_of old source).stamp (Some at)) source.block
      (block_of die source.block) ≡ set (entries_of old source.block) source.page (record { sector = (page_of old source).stamp; live = false })
  unfolding entries_of
  relocate-dead =
      put-others old die at (page_of old source) live (stamp_below old source inside short) next changes counts source.block apart inside
      ∙ forgotten_here (size_of old) old.current.items (page_of old source).stamp source (block_of old.die source.block)
      (names_live old source short alive) (omega (arith, short, length-entries_of old source.block)) refl

  pub relocate-others : (c : ℕ) → c ≢ at.block → c ≢ source.block → c < blocks_of (geometry_of old)
      → entries_in (page_bytes_of (die_geometry_of die)) (set old.current.items (page_of old source).stamp (Some at)) c (block_of die c) ≡ entries_of old c
  relocate-others c first second low =
      put-others old die at (page_of old source) live (stamp_below old source inside short) next changes counts c first low ∙ elsewhere c second

  pub relocate-sectors : sectors_in (page_bytes_of (die_geometry_of die)) (block_of die) (set old.current.items (page_of old source).stamp (Some at))
      ≡ array_of old
  unfolding array_of
  relocate-sectors =
      let low = stamp_below old source inside short in
      let held : get_or (array_of old) (page_of old source).stamp None ≡ Some (page_of old source).value =
      sector-at (size_of old) (block_of old.die) old.current.items (page_of old source).stamp (Some source)
      (omega (arith, low, old.mapped.current_size)) (names_live old source short alive) in
      put-sectors old die at (page_of old source) live low next changes counts
      ∙ set_as_is (array_of old) (page_of old source).stamp (Some (page_of old source).value) None held

-- the first p pages of the victim are copied as far as they are live
pub record ClearedTo (old now : Store) (victim spare p copies : ℕ) : Type 0 where
  pub copied : entries_of now spare ≡ entries_of old spare ++ live_entries (take p (entries_of old victim))
  pub size : length (entries_of now victim) ≡ length (entries_of old victim)
  pub rest : (q : ℕ) (d : Entry) → p ≤ q → get_or (entries_of now victim) q d ≡ get_or (entries_of old victim) q d
  pub dead : live_count (take p (entries_of now victim)) ≡ 0
  pub count : copies ≡ live_count (take p (entries_of old victim))
  pub others : (c : ℕ) → c ≢ spare → c ≢ victim → c < blocks_of (geometry_of old) → entries_of now c ≡ entries_of old c
  pub sectors : array_of now ≡ array_of old
  pub keeps : KeepsBlocks old now

abbrev nothing : Entry
nothing = record { sector = 0; live = false }

pub keeps_both : (a b c : Store) → KeepsBlocks a b → KeepsBlocks b c → KeepsBlocks a c
keeps_both a b c first second =
    let same : blocks_of (geometry_of b) ≡ blocks_of (geometry_of a) = ap blocks_of first.geometry in
    record {
      geometry = second.geometry ∙ first.geometry;
      erases = λ k low. second.erases k (omega (arith, same, low)) ∙ first.erases k low;
      retired = λ k low. second.retired k (omega (arith, same, low)) ∙ first.retired k low;
    }

-- the live entries of one more page
live-one : (xs : List Entry) (p : ℕ) (e d : Entry) → p < length xs → get_or xs p d ≡ e
    → live_entries (take (p + 1) xs) ≡ live_entries (take p xs) ++ cond e.live (e ∷ []) []
live-one xs p e d low is =
    ap live_entries (take_more xs p d low)
    ∙ (filter-append (λ (x : Entry). x.live) (take p xs) (get_or xs p d ∷ [])
    ∙ ap (λ (x : Entry). live_entries (take p xs) ++ cond x.live (x ∷ []) []) is)

count-one : (xs : List Entry) (p : ℕ) (d : Entry) → p < length xs → live_count (take (p + 1) xs) ≡ live_count (take p xs) + cond (get_or xs p d).live 1 0
count-one xs p d low = sum_by_more (λ (x : Entry). cond x.live 1 0) xs p d low

-- a dead page is passed over
pub ClearedTo-dead : (old now : Store) (victim spare p copies : ℕ) → ClearedTo old now victim spare p copies → p < length (entries_of old victim)
    → (get_or (entries_of now victim) p nothing).live ≡ false → ClearedTo old now victim spare (p + 1) copies
ClearedTo-dead old now victim spare p copies h low off =
    let was : get_or (entries_of old victim) p nothing ≡ get_or (entries_of now victim) p nothing = sym (h.rest p nothing (omega arith)) in
    let off_old : (get_or (entries_of old victim) p nothing).live ≡ false = ap (λ (e : Entry). e.live) was ∙ off in
    record {
      copied = h.copied ∙ ap (λ (xs : List Entry). entries_of old spare ++ xs)
          (sym (live-one (entries_of old victim) p (get_or (entries_of old victim) p nothing) nothing low refl
          ∙ (ap (λ (t : Bool). live_entries (take p (entries_of old victim)) ++ cond t (get_or (entries_of old victim) p nothing ∷ []) []) off_old
          ∙ append-nil (live_entries (take p (entries_of old victim))))));
      size = h.size;
      rest = λ q d past. h.rest q d (omega arith);
      dead = omega (arith, h.dead, count-one (entries_of now victim) p nothing (omega (arith, low, h.size)), ap {B = ℕ} (λ (t : Bool). cond t 1 0) off);
      count = omega (arith, h.count, count-one (entries_of old victim) p nothing low, ap {B = ℕ} (λ (t : Bool). cond t 1 0) off_old);
      others = h.others;
      sectors = h.sectors;
      keeps = h.keeps;
    }

-- a live page is copied
pub ClearedTo-live : (old now next : Store) (victim spare p copies : ℕ) → ClearedTo old now victim spare p copies → p < length (entries_of old victim)
    → victim < blocks_of (geometry_of old) → live_at now (record { block = victim; page = p }) ≡ true
    → Relocates now next (record { block = victim; page = p }) spare (sector_of now (record { block = victim; page = p }))
    → ClearedTo old next victim spare (p + 1) (copies + 1)
ClearedTo-live old now next victim spare p copies h low inside on moved =
    let at : PageAddr = record { block = victim; page = p } in
    let e : Entry = get_or (entries_of now victim) p nothing in
    let was : get_or (entries_of old victim) p nothing ≡ e = sym (h.rest p nothing (omega arith)) in
    let shown : (record { sector = e.sector; live = true }) ≡ e = ap (λ (t : Bool). let x : Entry = record { sector = e.sector; live = t } in x) (sym on) in
    let dead : Entry = record { sector = e.sector; live = false } in
    let same : blocks_of (geometry_of now) ≡ blocks_of (geometry_of old) = ap blocks_of h.keeps.geometry in
    record {
      copied =
          moved.copied
          ∙ (ap (λ (xs : List Entry). xs ++ (record { sector = e.sector; live = true }) ∷ []) h.copied
          ∙ (append_assoc (entries_of old spare) (live_entries (take p (entries_of old victim))) ((record { sector = e.sector; live = true }) ∷ [])
          ∙ ap (λ (xs : List Entry). entries_of old spare ++ xs)
          (ap (λ (x : Entry). live_entries (take p (entries_of old victim)) ++ x ∷ []) shown
          ∙ sym (live-one (entries_of old victim) p e nothing low was
          ∙ ap (λ (t : Bool). live_entries (take p (entries_of old victim)) ++ cond t (e ∷ []) []) on))));
      size = ap (λ (xs : List Entry). length xs) moved.dead ∙ (length-set (entries_of now victim) p dead ∙ h.size);
      rest = λ q d past. ap (λ (xs : List Entry). get_or xs q d) moved.dead
          ∙ (get_or-set_other (entries_of now victim) p q dead d (λ k. omega (arith, k)) ∙ h.rest q d (omega arith));
      dead =
          let front : take (p + 1) (entries_of next victim) ≡ take p (entries_of now victim) ++ dead ∷ [] =
          ap (take (p + 1)) moved.dead ∙ take_more_set (entries_of now victim) p dead (omega (arith, low, h.size)) in
          ap live_count front ∙ omega (arith, sum_by_push (λ (x : Entry). cond x.live 1 0) (take p (entries_of now victim)) dead, h.dead);
      count = omega (
        arith,
        h.count,
        count-one (entries_of old victim) p nothing low,
        ap {B = ℕ} (λ (t : Entry). cond t.live 1 0) was,
        ap {B = ℕ} (λ (t : Bool). cond t 1 0) on,
      );
      others = λ c first second within. moved.others c first second (omega (arith, within, same)) ∙ h.others c first second within;
      sectors = moved.sectors ∙ h.sectors;
      keeps = keeps_both old now next h.keeps moved.keeps;
    }

-- the block that is copied into has room for the next live page
pub ClearedTo-room : (old now : Store) (victim spare p copies : ℕ) → ClearedTo old now victim spare p copies → p < length (entries_of old victim)
    → (get_or (entries_of now victim) p nothing).live ≡ true → HasRoomFor old spare (live_count (entries_of old victim)) → HasRoom now spare
ClearedTo-room old now victim spare p copies h low on room =
    let was : get_or (entries_of old victim) p nothing ≡ get_or (entries_of now victim) p nothing = sym (h.rest p nothing (omega arith)) in
    let one = count-one (entries_of old victim) p nothing low in
    let here = ap {B = ℕ} (λ (t : Entry). cond t.live 1 0) was in
    let lit = ap {B = ℕ} (λ (t : Bool). cond t 1 0) on in
    let most = sum_by-take-le (λ (x : Entry). cond x.live 1 0) (entries_of old victim) (p + 1) in
    let size = ap (λ (xs : List Entry). length xs) h.copied ∙ length-append (entries_of old spare) (live_entries (take p (entries_of old victim))) in
    let kept = length-filter (λ (x : Entry). x.live) (take p (entries_of old victim)) in
    let same = ap blocks_of h.keeps.geometry in
    let pages = ap pages_of h.keeps.geometry in
    record {
      within = omega (arith, same, room.within);
      not_retired = h.keeps.retired spare room.within ∙ room.not_retired;
      room = omega (arith, one, here, lit, most, size, kept, pages, room.room);
    }

-- all pages are passed
pub ClearedTo-all : (old now : Store) (victim spare p copies : ℕ) → ClearedTo old now victim spare p copies → p ≡ length (entries_of old victim)
    → (copies ≡ live_count (entries_of old victim)) × Clears old now victim spare
ClearedTo-all old now victim spare p copies h all =
    let whole : take p (entries_of old victim) ≡ entries_of old victim = take_all p (entries_of old victim) (omega (arith, all)) in
    let whole_now : take p (entries_of now victim) ≡ entries_of now victim = take_all p (entries_of now victim) (omega (arith, all, h.size)) in (
      h.count ∙ ap live_count whole,
      record {
        copied = h.copied ∙ ap (λ (xs : List Entry). entries_of old spare ++ live_entries xs) whole;
        dead = sym (ap live_count whole_now) ∙ h.dead;
        others = h.others;
        sectors = h.sectors;
        keeps = h.keeps;
      },
    )
