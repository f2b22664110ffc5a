-- What the map keeps true, as a sector is forgotten, a page is put, and a block is erased.
use Rattle.std.proofs.Common.{◌≡◌, ◌≢◌, inl, inr, ℕ, ◌+◌, ◌<◌, ◌≤◌, Bool, true, false, cond, List, [], ◌∷◌, ◌++◌, length, get_or, set, map, count_by, Option}
use Rattle.std.proofs.Common.{None, Some, is_some, sym, ap, ◌∙◌, refl, subst, arith, length-set, get_or-set_same, get_or-set_other}
use Rattle.std.{specs.Option.option_map, proofs.lemmas.Bool.eq-eqb, proofs.lemmas.Bool.ne_eqb, proofs.lemmas.Bool.cases_eq, proofs.lemmas.Bool.cases_lt}
use Rattle.std.proofs.lemmas.List.{length-map, same_lists, get_or-map, map-set, set-get_or, nil_from_length, length_push, Sums.sum_by-set, Sums.sum_by_push}
use Rattle.geometry.specs.{declared.page_addr.PageAddr.PageAddr, Sectors.Sector}
use Rattle.die.specs.Pages.{Block, Page, page_at, programmed, erased}
use Rattle.ftl_one.specs.Stock.{Entry, forgotten}
use Rattle.ftl_one.specs.Entries.{is_page, names, entry_of, entries_in, live_count, lies, Recounts, IsCurrent, IsMapped, value_in, sectors_in}
use Rattle.ftl_one.proofs.Entries.{length-entries, get_or-entries, entries-remapped, entries-programmed, forgotten_elsewhere, forgotten_here}
use Rattle.ftl_one.proofs.Entries.{page_at-programmed, page_at-last, is_page-block, is_page-page, is_page-at, names-set_same}

-- a list with an element put where it stands already
pub set_as_is : {X : Type 0} (xs : List X) (i : ℕ) (x d : X) → get_or xs i d ≡ x → set xs i x ≡ xs
set_as_is xs i x d e = ap (set xs i) (sym e) ∙ set-get_or xs i d

-- the count of what passes, once one element is changed
count-set : (xs : List (Option PageAddr)) (i : ℕ) (o : Option PageAddr) → i < length xs
    → count_by is_some (set xs i o) + cond (is_some (get_or xs i None)) 1 0 ≡ count_by is_some xs + cond (is_some o) 1 0
count-set xs i o low = sum_by-set (λ (x : Option PageAddr). cond (is_some x) 1 0) xs i o None low

-- the value of each page that is named is the same over two lists of blocks
pub sectors-same : (n : ℕ) (B B' : ℕ → Block) (current : List (Option PageAddr))
    → ((s : ℕ) (at : PageAddr) → get_or current s None ≡ Some at → value_in n B' at ≡ value_in n B at) → sectors_in n B' current ≡ sectors_in n B current
unfolding sectors_in
sectors-same n B B' current same =
    let f : Option PageAddr → Sector = option_map (value_in n B') in
    let g : Option PageAddr → Sector = option_map (value_in n B) in
    same_lists (map f current) (map g current) (length-map current f ∙ sym (length-map current g))
    (λ s d low.
    let short : s < length current = omega (arith, length-map current f) in
    get_or-map f current s None d short
    ∙ (one (get_or current s None) (λ at e. same s at e)
    ∙ sym (get_or-map g current s None d short)))
  where
    one : (o : Option PageAddr) → ((at : PageAddr) → o ≡ Some at → value_in n B' at ≡ value_in n B at)
        → option_map (value_in n B') o ≡ option_map (value_in n B) o
    one None h = refl
    one (Some at) h = ap Some (h at refl)

pub length-sectors : (n : ℕ) (B : ℕ → Block) (current : List (Option PageAddr)) → length (sectors_in n B current) ≡ length current
unfolding sectors_in
length-sectors n B current = length-map current (option_map (value_in n B))

-- what the array holds where the map names a page, and where it names none
pub sector-at : (n : ℕ) (B : ℕ → Block) (current : List (Option PageAddr)) (s : ℕ) (o : Option PageAddr) → s < length current
    → get_or current s None ≡ o → get_or (sectors_in n B current) s None ≡ option_map (value_in n B) o
unfolding sectors_in
sector-at n B current s o low e = get_or-map (option_map (value_in n B)) current s None None low ∙ ap (option_map (value_in n B)) e

-- one entry of the map is changed
pub sectors-set : (n : ℕ) (B : ℕ → Block) (current : List (Option PageAddr)) (s : ℕ) (o : Option PageAddr)
    → sectors_in n B (set current s o) ≡ set (sectors_in n B current) s (option_map (value_in n B) o)
unfolding sectors_in
sectors-set n B current s o = map-set (option_map (value_in n B)) current s o

module _ (n count sectors : ℕ) (B : ℕ → Block) (current : List (Option PageAddr)) (live : List ℕ) (sound : IsMapped n count sectors B current live) where
  -- the sector's page, where the map names one in the block
  pub was_here : (s b : ℕ) (at : PageAddr) → get_or current s None ≡ Some at → at.block ≡ b
      → live_count (map (forgotten s) (entries_in n current b (B b))) + 1 ≡ live_count (entries_in n current b (B b))
  was_here s b at named e =
      let is = sound.named s at named in
      let old = entries_in n current at.block (B at.block) in
      let low : at.page < length old = omega (arith, is.page, length-entries n current at.block (B at.block)) in
      let dead : Entry = record { sector = s; live = false } in
      let f : Entry → ℕ = λ entry. cond entry.live 1 0 in
      let alive : f (get_or old at.page dead) ≡ 1 =
      ap f (get_or-entries n current at.block (B at.block) at.page dead is.page)
      ∙ ap (λ (t : Bool). cond t 1 0)
      (ap (λ (t : ℕ). names current t at.block at.page) is.stamp ∙ (ap (λ (o : Option PageAddr). is_page o at.block at.page) named ∙ is_page-at at)) in
      let counted = sum_by-set f old at.page dead dead low in
      let gone : live_count (map (forgotten s) old) ≡ live_count (set old at.page dead) =
      ap live_count (forgotten_here n current s at (B at.block) named is.page is.stamp) in
      let here : live_count (map (forgotten s) old) + 1 ≡ live_count old = omega (arith, gone, counted, alive) in
      subst (λ (k : ℕ). live_count (map (forgotten s) (entries_in n current k (B k))) + 1 ≡ live_count (entries_in n current k (B k))) e here

  pub not_here : (s b : ℕ) (o : Option PageAddr) → get_or current s None ≡ o → lies o b ≡ 0
      → map (forgotten s) (entries_in n current b (B b)) ≡ entries_in n current b (B b)
  not_here s b o named off =
      forgotten_elsewhere n current s b (B b) (λ p low. ap (λ (x : Option PageAddr). is_page x b p) named ∙ apart o p off)
    where
      apart : (x : Option PageAddr) (p : ℕ) → lies x b ≡ 0 → is_page x b p ≡ false
      apart None p h = refl
      apart (Some at) p h = elim (cases_eq at.block b) [
        | inl e ↦ absurd (omega (arith, sym h ∙ ap (λ (t : Bool). cond t 1 0) (eq-eqb at.block b e)))
        | inr other ↦ is_page-block at b p other
      ]

  -- what forgetting a sector takes off a block's count
  pub count-forgotten : (s b : ℕ)
      → live_count (map (forgotten s) (entries_in n current b (B b))) + lies (get_or current s None) b ≡ live_count (entries_in n current b (B b))
  count-forgotten s b = by (get_or current s None) refl
    where
      by : (o : Option PageAddr) → get_or current s None ≡ o
          → live_count (map (forgotten s) (entries_in n current b (B b))) + lies o b ≡ live_count (entries_in n current b (B b))
      by None e = omega (arith, ap live_count (not_here s b None e refl))
      by (Some at) e = elim (cases_eq at.block b) [
        | inl same ↦ rw (eq-eqb at.block b same) (was_here s b at e same)
        | inr other ↦ rw (ne_eqb at.block b other)
            (omega (arith, ap live_count (not_here s b (Some at) e (ap (λ (t : Bool). cond t 1 0) (ne_eqb at.block b other)))))
      ]

  -- a sector is forgotten: the entries, and what stays true
  pub entries-forget : (s b : ℕ) → s < sectors → entries_in n (set current s None) b (B b) ≡ map (forgotten s) (entries_in n current b (B b))
  entries-forget s b low = entries-remapped n current s None b (B b) (omega (arith, sound.current_size)) (λ p short. refl)

  pub mapped-forget : (s : ℕ) (live' : List ℕ) → s < sectors → Recounts live live' (get_or current s None) None
      → IsMapped n count sectors B (set current s None) live'
  mapped-forget s live' low counts =
      record {
        current_size = length-set current s None ∙ sound.current_size;
        live_size = counts.size ∙ sound.live_size;
        named = λ t at e. elim (cases_eq t s) [
          | inl same ↦ absurd (none_some at (sym (ap (λ (k : ℕ). get_or (set current s None) k None) same
              ∙ get_or-set_same current s None None (omega (arith, sound.current_size))) ∙ e))
          | inr apart ↦ sound.named t at (sym (get_or-set_other current s t None None apart) ∙ e)
        ];
        stamps = sound.stamps;
        counts = λ b within.
            let one = counts.each b in
            let was = sound.counts b within in
            let gone = count-forgotten s b in
            let now = ap live_count (entries-forget s b low) in
            omega (arith, one, was, gone, now);
        total =
            let all = counts.total in
            let was = sound.total in
            let gone = count-set current s None (omega (arith, sound.current_size)) in
            omega (arith, all, was, gone);
      }
    where
      none_some : (at : PageAddr) → None ≡ Some at → ⊥
      none_some at h = cc

-- one block has changed to this one, and each other one of the first `count` is as before
pub record Becomes (count : ℕ) (B B' : ℕ → Block) (b : ℕ) (block : Block) : Type 0 where
  pub changed : B' b ≡ block
  pub others : (c : ℕ) → c ≢ b → c < count → B' c ≡ B c

-- a page that the map names stays what it is where another page is programmed
module _ (n count sectors : ℕ) (B B' : ℕ → Block) (b : ℕ) (page : Page) (becomes : Becomes count B B' b (programmed (B b) page)) where
  page-kept : (c p : ℕ) → c < count → p < length (B c).pages → page_at n (B' c) p ≡ page_at n (B c) p
  page-kept c p within low = elim (cases_eq c b) [
    | inl e ↦
        ap (λ (k : ℕ). page_at n (B' k) p) e
        ∙ (ap (λ (k : Block). page_at n k p) becomes.changed
        ∙ (page_at-programmed n (B b) page p (subst (λ (k : ℕ). p < length (B k).pages) e low)
        ∙ ap (λ (k : ℕ). page_at n (B k) p) (sym e)))
    | inr apart ↦ ap (λ (k : Block). page_at n k p) (becomes.others c apart within)
  ]

  length-kept : (c : ℕ) → c < count → length (B c).pages ≤ length (B' c).pages
  length-kept c within = elim (cases_eq c b) [
    | inl e ↦ subst (λ (k : ℕ). length (B k).pages ≤ length (B' k).pages) (sym e)
        (omega (arith, ap (λ (k : Block). length k.pages) becomes.changed, length_push (B b).pages page))
    | inr apart ↦ omega (arith, ap (λ (k : Block). length k.pages) (becomes.others c apart within))
  ]

  retired-kept : (c : ℕ) → c < count → (B' c).retired ≡ (B c).retired
  retired-kept c within = elim (cases_eq c b) [
    | inl e ↦ subst (λ (k : ℕ). (B' k).retired ≡ (B k).retired) (sym e) (ap (λ (k : Block). k.retired) becomes.changed)
    | inr apart ↦ ap (λ (k : Block). k.retired) (becomes.others c apart within)
  ]

  pub current-kept : (s : ℕ) (at : PageAddr) → IsCurrent n count B s at → IsCurrent n count B' s at
  current-kept s at is =
      record {
        block = is.block;
        usable = retired-kept at.block is.block ∙ is.usable;
        page = omega (arith, is.page, length-kept at.block is.block);
        stamp = ap (λ (p : Page). p.stamp) (page-kept at.block at.page is.block is.page) ∙ is.stamp;
      }

  pub value-kept : (s : ℕ) (at : PageAddr) → IsCurrent n count B s at → value_in n B' at ≡ value_in n B at
  value-kept s at is = ap (λ (p : Page). p.value) (page-kept at.block at.page is.block is.page)

  -- the stamps of all pages are sectors where the new page's is one
  pub stamps-put : page.stamp < sectors → ((c p : ℕ) → c < count → p < length (B c).pages → (page_at n (B c) p).stamp < sectors) → (c p : ℕ)
      → c < count → p < length (B' c).pages → (page_at n (B' c) p).stamp < sectors
  stamps-put low old c p within short = elim (cases_lt p (length (B c).pages)) [
    | inl inside ↦ subst (λ (q : Page). q.stamp < sectors) (sym (page-kept c p within inside)) (old c p within inside)
    | inr past ↦ elim (cases_eq c b) [
      | inl e ↦
          let size : length (B' b).pages ≡ length (B b).pages + 1 = ap (λ (k : Block). length k.pages) becomes.changed ∙ length_push (B b).pages page in
          let same : length (B' c).pages ≡ length (B' b).pages = ap (λ (k : ℕ). length (B' k).pages) e in
          let old_same : length (B c).pages ≡ length (B b).pages = ap (λ (k : ℕ). length (B k).pages) e in
          let last : p ≡ length (B b).pages = omega (arith, size, same, old_same) in
          let is : page_at n (B' c) p ≡ page =
          ap (λ (k : ℕ). page_at n (B' k) p) e
          ∙ (ap (λ (k : Block). page_at n k p) becomes.changed ∙ (ap (λ (k : ℕ). page_at n (programmed (B b) page) k) last ∙ page_at-last n (B b) page)) in
          subst (λ (q : Page). q.stamp < sectors) (sym is) low
      | inr apart ↦ absurd (omega (arith, ap (λ (k : Block). length k.pages) (becomes.others c apart within)))
    ]
  ]

-- a page is put: it is programmed behind its block's others, and the map names it for its sector
module _ (n count sectors : ℕ) (B B' : ℕ → Block) (current : List (Option PageAddr)) (live live' : List ℕ)
    (sound : IsMapped n count sectors B current live) (at : PageAddr) (page : Page) (low : page.stamp < sectors) (within : at.block < count)
    (last : at.page ≡ length (B at.block).pages) (usable : (B at.block).retired ≡ false)
    (becomes : Becomes count B B' at.block (programmed (B at.block) page))
    (counts : Recounts live live' (get_or current page.stamp None) (Some at)) where
  pub entries-put_other : (c : ℕ) → c ≢ at.block → c < count
      → entries_in n (set current page.stamp (Some at)) c (B' c) ≡ map (forgotten page.stamp) (entries_in n current c (B c))
  entries-put_other c apart inside =
      ap (λ (k : Block). entries_in n (set current page.stamp (Some at)) c k) (becomes.others c apart inside)
      ∙ entries-remapped n current page.stamp (Some at) c (B c) (omega (arith, sound.current_size)) (λ p short. is_page-block at c p (λ e. apart (sym e)))

  pub entries-put : entries_in n (set current page.stamp (Some at)) at.block (B' at.block)
      ≡ map (forgotten page.stamp) (entries_in n current at.block (B at.block)) ++ (record { sector = page.stamp; live = true }) ∷ []
  entries-put =
      let now : List (Option PageAddr) = set current page.stamp (Some at) in
      let old : List Entry = map (forgotten page.stamp) (entries_in n current at.block (B at.block)) in
      let with : Bool → Entry = λ t. record { sector = page.stamp; live = t } in
      ap (λ (k : Block). entries_in n now at.block k) becomes.changed
      ∙ (entries-programmed n now at.block (B at.block) page
      ∙ (ap (λ (xs : List Entry). xs ++ (entry_of now at.block (length (B at.block).pages) page) ∷ [])
      (entries-remapped n current page.stamp (Some at) at.block (B at.block) (omega (arith, sound.current_size))
      (λ p short. is_page-page at at.block p (λ e. omega (arith, e, last))))
      ∙ ap (λ (t : Bool). old ++ (with t) ∷ [])
      (names-set_same current page.stamp (Some at) at.block (length (B at.block).pages) (omega (arith, sound.current_size))
      ∙ (ap (λ (k : ℕ). is_page (Some at) at.block k) (sym last) ∙ is_page-at at))))

  named-put : (t : ℕ) (to : PageAddr) → get_or (set current page.stamp (Some at)) t None ≡ Some to → IsCurrent n count B' t to
  named-put t to e = elim (cases_eq t page.stamp) [
    | inl same ↦
        let here : Some at ≡ Some to =
        sym (ap (λ (k : ℕ). get_or (set current page.stamp (Some at)) k None) same
        ∙ get_or-set_same current page.stamp (Some at) None (omega (arith, sound.current_size))) ∙ e in
        let is : at ≡ to = cc in
        let size : length (B' at.block).pages ≡ length (B at.block).pages + 1 =
        ap (λ (k : Block). length k.pages) becomes.changed ∙ length_push (B at.block).pages page in
        let shown : page_at n (B' at.block) at.page ≡ page =
        ap (λ (k : Block). page_at n k at.page) becomes.changed
        ∙ (ap (λ (k : ℕ). page_at n (programmed (B at.block) page) k) last ∙ page_at-last n (B at.block) page) in
        subst (λ (a : PageAddr). IsCurrent n count B' t a) is (record {
          block = within;
          usable = ap (λ (k : Block). k.retired) becomes.changed ∙ usable;
          page = omega (arith, size, last);
          stamp = ap (λ (p : Page). p.stamp) shown ∙ sym same;
        })
    | inr apart ↦
        current-kept n count sectors B B' at.block page becomes t to (sound.named t to (sym (get_or-set_other current page.stamp t (Some at) None apart) ∙ e))
  ]

  count-put : (c : ℕ) → c < count
      → live_count (entries_in n (set current page.stamp (Some at)) c (B' c)) + lies (get_or current page.stamp None) c
      ≡ live_count (entries_in n current c (B c)) + lies (Some at) c
  count-put c inside =
      let gone = count-forgotten n count sectors B current live sound page.stamp c in
      elim (cases_eq at.block c) [
        | inl e ↦
            let f : Entry → ℕ = λ entry. cond entry.live 1 0 in
            let old = map (forgotten page.stamp) (entries_in n current at.block (B at.block)) in
            let pushed = sum_by_push f old (record { sector = page.stamp; live = true }) in
            let here : live_count (entries_in n (set current page.stamp (Some at)) c (B' c))
            ≡ live_count (map (forgotten page.stamp) (entries_in n current c (B c))) + 1 =
            subst (λ (k : ℕ). live_count (entries_in n (set current page.stamp (Some at)) k (B' k))
            ≡ live_count (map (forgotten page.stamp) (entries_in n current k (B k))) + 1) e (ap live_count entries-put ∙ pushed) in
            rw (eq-eqb at.block c e) (omega (arith, here, gone))
        | inr apart ↦
            let there = ap live_count (entries-put_other c (λ e. apart (sym e)) inside) in
            rw (ne_eqb at.block c apart) (omega (arith, there, gone))
      ]

  pub mapped-put : IsMapped n count sectors B' (set current page.stamp (Some at)) live'
  mapped-put =
      record {
        current_size = length-set current page.stamp (Some at) ∙ sound.current_size;
        live_size = counts.size ∙ sound.live_size;
        named = named-put;
        stamps = stamps-put n count sectors B B' at.block page becomes low sound.stamps;
        counts = λ c inside.
            let one = counts.each c in
            let was = sound.counts c inside in
            let now = count-put c inside in
            omega (arith, one, was, now);
        total =
            let all = counts.total in
            let was = sound.total in
            let now = count-set current page.stamp (Some at) (omega (arith, sound.current_size)) in
            omega (arith, all, was, now);
      }

  -- the array holds the page's value at its sector, and else what it held
  pub sectors-put : sectors_in n B' (set current page.stamp (Some at)) ≡ set (sectors_in n B current) page.stamp (Some page.value)
  sectors-put =
      let shown : page_at n (B' at.block) at.page ≡ page =
      ap (λ (k : Block). page_at n k at.page) becomes.changed
      ∙ (ap (λ (k : ℕ). page_at n (programmed (B at.block) page) k) last ∙ page_at-last n (B at.block) page) in
      sectors-set n B' current page.stamp (Some at)
      ∙ (ap (λ (xs : List Sector). set xs page.stamp (Some (value_in n B' at)))
      (sectors-same n B B' current (λ s a e. value-kept n count sectors B B' at.block page becomes s a (sound.named s a e)))
      ∙ ap (λ (p : Page). set (sectors_in n B current) page.stamp (Some p.value)) shown)

-- a block with no live page is erased
module _ (n count sectors endurance : ℕ) (B B' : ℕ → Block) (current : List (Option PageAddr)) (live : List ℕ)
    (sound : IsMapped n count sectors B current live) (v : ℕ) (inside : v < count) (dead : live_count (entries_in n current v (B v)) ≡ 0)
    (becomes : Becomes count B B' v (erased endurance (B v))) where
  named_apart : (s : ℕ) (at : PageAddr) → get_or current s None ≡ Some at → at.block ≢ v
  named_apart s at named e =
      let here = was_here n count sectors B current live sound s v at named e in
      omega (arith, here, dead)

  pub mapped-erase : IsMapped n count sectors B' current live
  mapped-erase =
      record {
        current_size = sound.current_size;
        live_size = sound.live_size;
        named = λ s at e.
            let is = sound.named s at e in
            let same = becomes.others at.block (named_apart s at e) is.block in
            record {
              block = is.block;
              usable = ap (λ (k : Block). k.retired) same ∙ is.usable;
              page = subst (λ (k : Block). at.page < length k.pages) (sym same) is.page;
              stamp = ap (λ (k : Block). (page_at n k at.page).stamp) same ∙ is.stamp;
            };
        stamps = λ c p within short. elim (cases_eq c v) [
          | inl e ↦ absurd (omega (arith, ap (λ (k : ℕ). length (B' k).pages) e, ap (λ (k : Block). length k.pages) becomes.changed))
          | inr apart ↦
              let same = becomes.others c apart within in
              subst (λ (k : Block). (page_at n k p).stamp < sectors) (sym same) (sound.stamps c p within (subst (λ (k : Block). p < length k.pages) same short))
        ];
        counts = λ c within. elim (cases_eq c v) [
          | inl e ↦
              let was : get_or live v 0 ≡ 0 = sound.counts v inside ∙ dead in
              let none : entries_in n current v (B' v) ≡ [] =
              nil_from_length (entries_in n current v (B' v)) (length-entries n current v (B' v) ∙ ap (λ (k : Block). length k.pages) becomes.changed) in
              subst (λ (k : ℕ). get_or live k 0 ≡ live_count (entries_in n current k (B' k))) (sym e) (was ∙ sym (ap live_count none))
          | inr apart ↦ sound.counts c within ∙ ap (λ (k : Block). live_count (entries_in n current c k)) (sym (becomes.others c apart within))
        ];
        total = sound.total;
      }

  pub entries-erase : entries_in n current v (B' v) ≡ []
  entries-erase = nil_from_length (entries_in n current v (B' v)) (length-entries n current v (B' v) ∙ ap (λ (k : Block). length k.pages) becomes.changed)

  pub sectors-erase : sectors_in n B' current ≡ sectors_in n B current
  sectors-erase = sectors-same n B B' current (λ s at e.
      ap (λ (k : Block). (page_at n k at.page).value) (becomes.others at.block (named_apart s at e) (sound.named s at e).block))
