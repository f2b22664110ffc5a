-- What the bits of an entry of the map name, and the entries of a block as the map and the die's pages change.
use Rattle.std.proofs.Common.{◌≡◌, ◌≢◌, ◌∙◌, ℕ, ◌+◌, ◌*◌, ◌/◌, ◌%◌, ◌<◌, Option, None, Some, ap, refl, arith, inl, inr, Bool, true, false, eqb, List, [], ◌∷◌}
use Rattle.std.proofs.Common.{◌++◌, length, get_or, set, map, sym, length-set, get_or-set_same, get_or-set_other}
use Rattle.std.proofs.lemmas.Bool.{eq-eqb, ne_eqb, false≢true, eqb-true, and_from, and_parts, and_left, and_right, cases_eq}
use Rattle.geometry.specs.declared.limits.TheConstants.{MAX_BLOCKS, MAX_PAGES}
use Rattle.geometry.specs.declared.page_addr.PageAddr.{PageAddr}
use Rattle.ftl_one.specs.declared.map_entry.TheConstants.{NO_PAGE}
use Rattle.ftl_one.specs.Entries.{named_by, is_page, names, entry_of, entries_in}
use Rattle.std.proofs.lemmas.List.{get_or-map, get_or_push, get_or_append_left, length_push, length-map, same_lists}
use Rattle.std.specs.List.{range_with_len}
use Rattle.std.proofs.lemmas.List.FromFn.{length-map-range_with_len, get_or-map-range_with_len, map-range_with_len_more}
use Rattle.die.specs.Pages.{Block, Page, page_at, programmed, erased_page}
use Rattle.die.proofs.Blocks.{map_range_same}
use Rattle.ftl_one.specs.Stock.{Entry, forgotten}

pub named_none : (bits : ℕ) → bits ≡ NO_PAGE → named_by bits ≡ None
unfolding named_by
named_none bits e = rw (eq-eqb bits NO_PAGE e) refl

pub named_some : (bits : ℕ) → bits ≢ NO_PAGE → named_by bits ≡ Some (record { block = bits / MAX_PAGES; page = bits % MAX_PAGES })
unfolding named_by
named_some bits other = rw (ne_eqb bits NO_PAGE other) refl

-- the bits of a page name that page
pub named_of : (at : PageAddr) → at.block < MAX_BLOCKS → at.page < MAX_PAGES → named_by (at.block * MAX_PAGES + at.page) ≡ Some at
named_of at block page =
    let bits : ℕ = at.block * MAX_PAGES + at.page in
    let page_of : ℕ → ℕ → Option PageAddr = λ b p. Some (record { block = b; page = p }) in
    let same_block : bits / MAX_PAGES ≡ at.block = omega (arith, page) in
    let same_page : bits % MAX_PAGES ≡ at.page = omega (arith, page) in
    named_some bits (λ e. omega (arith, e, block, page))
    ∙ (ap (λ (b : ℕ). page_of b (bits % MAX_PAGES)) same_block ∙ ap (page_of at.block) same_page)

pub length-entries : (n : ℕ) (current : List (Option PageAddr)) (b : ℕ) (block : Block) → length (entries_in n current b block) ≡ length block.pages
unfolding entries_in
length-entries n current b block = length-map-range_with_len (λ p. entry_of current b p (page_at n block p)) 0 (length block.pages)

pub get_or-entries : (n : ℕ) (current : List (Option PageAddr)) (b : ℕ) (block : Block) (p : ℕ) (d : Entry) → p < length block.pages
    → get_or (entries_in n current b block) p d ≡ entry_of current b p (page_at n block p)
unfolding entries_in
get_or-entries n current b block p d low =
    get_or-map-range_with_len (λ q. entry_of current b q (page_at n block q)) 0 (length block.pages) p p d low (omega arith)

-- entries that agree page by page are one list
pub same_entries : (n : ℕ) (current : List (Option PageAddr)) (b : ℕ) (block : Block) (xs : List Entry) → length xs ≡ length block.pages
    → ((p : ℕ) (d : Entry) → p < length block.pages → entry_of current b p (page_at n block p) ≡ get_or xs p d) → entries_in n current b block ≡ xs
same_entries n current b block xs size same =
    same_lists (entries_in n current b block) xs (length-entries n current b block ∙ sym size)
    (λ p d low. let short : p < length block.pages = omega (arith, length-entries n current b block) in
    get_or-entries n current b block p d short ∙ same p d short)

-- what a named page is
pub is_page-same : (o : Option PageAddr) (b p : ℕ) → is_page o b p ≡ true → (at : PageAddr) × (o ≡ Some at) × (at.block ≡ b) × (at.page ≡ p)
is_page-same None b p h = absurd (false≢true h)
is_page-same (Some at) b p h =
    let parts = and_parts (eqb at.block b) (eqb at.page p) h in
    (at, refl, eqb-true at.block b parts.0, eqb-true at.page p parts.1)

pub is_page-at : (at : PageAddr) → is_page (Some at) at.block at.page ≡ true
is_page-at at = and_from (eqb at.block at.block) (eqb at.page at.page) (eq-eqb at.block at.block refl) (eq-eqb at.page at.page refl)

pub is_page-block : (at : PageAddr) (b p : ℕ) → at.block ≢ b → is_page (Some at) b p ≡ false
is_page-block at b p apart = and_left (eqb at.block b) (eqb at.page p) (ne_eqb at.block b apart)

pub is_page-page : (at : PageAddr) (b p : ℕ) → at.page ≢ p → is_page (Some at) b p ≡ false
is_page-page at b p apart = and_right (eqb at.block b) (eqb at.page p) (ne_eqb at.page p apart)

-- the map's new entry of a sector, and the other entries as they were
pub names-set_same : (current : List (Option PageAddr)) (s : ℕ) (o : Option PageAddr) (b p : ℕ) → s < length current
    → names (set current s o) s b p ≡ is_page o b p
names-set_same current s o b p low = ap (λ (x : Option PageAddr). is_page x b p) (get_or-set_same current s o None low)

pub names-set_other : (current : List (Option PageAddr)) (s : ℕ) (o : Option PageAddr) (t b p : ℕ) → t ≢ s → names (set current s o) t b p ≡ names current t b p
names-set_other current s o t b p apart = ap (λ (x : Option PageAddr). is_page x b p) (get_or-set_other current s t o None apart)

-- a page's entry once the map has another page, or none, for a sector
pub entry-remapped : (current : List (Option PageAddr)) (s : ℕ) (o : Option PageAddr) (b p : ℕ) (page : Page) → s < length current
    → is_page o b p ≡ false → entry_of (set current s o) b p page ≡ forgotten s (entry_of current b p page)
entry-remapped current s o b p page low off =
    let with : Bool → Entry = λ t. record { sector = page.stamp; live = t } in
    elim (cases_eq page.stamp s) [
      | inl e ↦
          rw (eq-eqb page.stamp s e)
          (ap with (ap (λ (t : ℕ). names (set current s o) t b p) e ∙ (names-set_same current s o b p low ∙ off)))
      | inr apart ↦
          rw (ne_eqb page.stamp s apart) (ap with (names-set_other current s o page.stamp b p apart))
    ]

-- a block's entries where no page of it is the sector's new one
pub entries-remapped : (n : ℕ) (current : List (Option PageAddr)) (s : ℕ) (o : Option PageAddr) (b : ℕ) (block : Block) → s < length current
    → ((p : ℕ) → p < length block.pages → is_page o b p ≡ false) → entries_in n (set current s o) b block ≡ map (forgotten s) (entries_in n current b block)
entries-remapped n current s o b block low off =
    same_entries n (set current s o) b block (map (forgotten s) (entries_in n current b block))
    (length-map (entries_in n current b block) (forgotten s) ∙ length-entries n current b block)
    (λ p d short.
    entry-remapped current s o b p (page_at n block p) low (off p short)
    ∙ (ap (forgotten s) (sym (get_or-entries n current b block p d short))
    ∙ sym (get_or-map (forgotten s) (entries_in n current b block) p d d (omega (arith, length-entries n current b block)))))

-- a block's page list shows its new page last, and the others as before
pub page_at-programmed : (n : ℕ) (block : Block) (page : Page) (p : ℕ) → p < length block.pages → page_at n (programmed block page) p ≡ page_at n block p
page_at-programmed n block page p low = get_or_append_left block.pages (page ∷ []) (erased_page n) p low

pub page_at-last : (n : ℕ) (block : Block) (page : Page) → page_at n (programmed block page) (length block.pages) ≡ page
page_at-last n block page = get_or_push block.pages page (erased_page n) (length block.pages) refl

-- the entries of a block with one more page
pub entries-programmed : (n : ℕ) (current : List (Option PageAddr)) (b : ℕ) (block : Block) (page : Page)
    → entries_in n current b (programmed block page) ≡ entries_in n current b block ++ (entry_of current b (length block.pages) page) ∷ []
unfolding entries_in
entries-programmed n current b block page =
    let f : ℕ → Entry = λ p. entry_of current b p (page_at n (programmed block page) p) in
    let g : ℕ → Entry = λ p. entry_of current b p (page_at n block p) in
    let m = length block.pages in
    ap (λ (k : ℕ). map f (range_with_len 0 k)) (length_push block.pages page)
    ∙ (map-range_with_len_more f 0 m m (omega arith)
    ∙ (ap (λ (xs : List Entry). xs ++ f m ∷ []) (map_range_same f g m (λ p low. ap (entry_of current b p) (page_at-programmed n block page p low)))
    ∙ ap (λ (x : Page). map g (range_with_len 0 m) ++ (entry_of current b m x) ∷ []) (page_at-last n block page)))

-- nothing is forgotten in a block that doesn't have the sector's page
pub forgotten_elsewhere : (n : ℕ) (current : List (Option PageAddr)) (s b : ℕ) (block : Block)
    → ((p : ℕ) → p < length block.pages → names current s b p ≡ false) → map (forgotten s) (entries_in n current b block) ≡ entries_in n current b block
forgotten_elsewhere n current s b block off =
    sym (same_entries n current b block (map (forgotten s) (entries_in n current b block))
    (length-map (entries_in n current b block) (forgotten s) ∙ length-entries n current b block)
    (λ p d short.
    dead_already (page_at n block p) p (off p short)
    ∙ (ap (forgotten s) (sym (get_or-entries n current b block p d short))
    ∙ sym (get_or-map (forgotten s) (entries_in n current b block) p d d (omega (arith, length-entries n current b block))))))
  where
    dead_already : (page : Page) (p : ℕ) → names current s b p ≡ false → entry_of current b p page ≡ forgotten s (entry_of current b p page)
    dead_already page p dead = elim (cases_eq page.stamp s) [
      | inl e ↦ rw (eq-eqb page.stamp s e)
          (ap (λ (t : Bool). let r : Entry = record { sector = page.stamp; live = t } in r) (ap (λ (t : ℕ). names current t b p) e ∙ dead))
      | inr apart ↦ rw (ne_eqb page.stamp s apart) refl
    ]

-- the block that has it loses that one page
pub forgotten_here : (n : ℕ) (current : List (Option PageAddr)) (s : ℕ) (at : PageAddr) (block : Block)
    → get_or current s None ≡ Some at → at.page < length block.pages → (page_at n block at.page).stamp ≡ s
    → map (forgotten s) (entries_in n current at.block block) ≡ set (entries_in n current at.block block) at.page (record { sector = s; live = false })
forgotten_here n current s at block named low stamped =
    let old = entries_in n current at.block block in
    let dead : Entry = record { sector = s; live = false } in
    let size : length old ≡ length block.pages = length-entries n current at.block block in
    same_lists (map (forgotten s) old) (set old at.page dead) (length-map old (forgotten s) ∙ sym (length-set old at.page dead))
    (λ p d short.
    let within : p < length block.pages = omega (arith, size, length-map old (forgotten s)) in
    get_or-map (forgotten s) old p d d (omega (arith, size))
    ∙ (ap (forgotten s) (get_or-entries n current at.block block p d within)
    ∙ elim (cases_eq p at.page) [
      | inl e ↦ gone p e ∙ sym (ap (λ (k : ℕ). get_or (set old at.page dead) k d) e ∙ get_or-set_same old at.page dead d (omega (arith, size)))
      | inr apart ↦ kept (page_at n block p) p apart
          ∙ (sym (get_or-entries n current at.block block p d within) ∙ sym (get_or-set_other old at.page p dead d apart))
    ]))
  where
    gone : (p : ℕ) → p ≡ at.page → forgotten s (entry_of current at.block p (page_at n block p)) ≡ (record { sector = s; live = false })
    gone p e =
        let is : (page_at n block p).stamp ≡ s = ap (λ (k : ℕ). (page_at n block k).stamp) e ∙ stamped in
        rw (eq-eqb (page_at n block p).stamp s is) (ap (λ (k : ℕ). let r : Entry = record { sector = k; live = false } in r) is)

    kept : (page : Page) (p : ℕ) → p ≢ at.page → forgotten s (entry_of current at.block p page) ≡ entry_of current at.block p page
    kept page p apart = elim (cases_eq page.stamp s) [
      | inl e ↦ rw (eq-eqb page.stamp s e) (ap (λ (t : Bool). let r : Entry = record { sector = page.stamp; live = t } in r)
          (sym (ap (λ (t : ℕ). names current t at.block p) e
          ∙ (ap (λ (o : Option PageAddr). is_page o at.block p) named ∙ is_page-page at at.block p (λ h. apart (sym h))))))
      | inr other ↦ rw (ne_eqb page.stamp s other) refl
    ]
