-- The layer's blocks after each of its moves, and what the totals weigh.
use Rattle.std.proofs.Common.{◌≡◌, ◌≢◌, inl, inr, ℕ, zero, suc, ◌+◌, ◌-◌, ◌*◌, ◌<◌, ◌≤◌, ◌^◌, Bool, true, false, not, cond, eqb, List, [], ◌∷◌, ◌++◌, length}
use Rattle.std.proofs.Common.{get_or, set, map, sum_by, None, Some, sym, ap, ◌∙◌, refl, subst, arith, length-append, length-set, length-drop, drop, get_or-drop}
use Rattle.std.{proofs.Common.get_or-set_same, proofs.Common.get_or-set_other, specs.List.position, specs.List.position_or_len}
use Rattle.std.proofs.lemmas.List.{length-map, get_or-map, length_push, FromFn.sum_by-map-range_with_len_more, Quantifiers.position-Some}
use Rattle.std.proofs.lemmas.List.Sums.{sum_by-cons, sum_by-set, prefix_len_passes, position_or_len_is, length-filter}
use Rattle.std.proofs.lemmas.{Bool.false≢true, Bool.cases_eq, Bool.cases_lt, Bool.lt-ltb, Bool.le-ltb, Bool.not-true, Bool.eq-eqb, Bool.ne_eqb, Nat.mul-le}
use Rattle.geometry.specs.{Geometry.blocks_of, Geometry.pages_of, Geometry.endurance_of, Greedy.greedy_of}
use Rattle.geometry.specs.declared.limits.TheConstants.{MAX_BLOCKS, MAX_ENDURANCE, MAX_PAGES}
use Rattle.die.proofs.Dies.{erases-block}
use Rattle.ftl_one.specs.declared.role.Role.{Role, TheVariants.Free, TheVariants.Open, TheVariants.Closed, TheVariants.Spare, TheVariants.Retired}
use Rattle.ftl_one.specs.{declared.store.Store.Store, Lawful.role_in, Lawful.block_in, Lawful.blocks_in, Lawful.weight, Laws.HasRetired, Laws.block_at}
use Rattle.ftl_one.{specs.declared.one_ftl.OneFtl.OneFtl, specs.OneFtl.stock_of, proofs.Blocks.spare_of-blocks, proofs.Blocks.victim_of-blocks}
use Rattle.ftl_one.specs.Stock.{Block, Entry, is_open, is_free, is_spare, is_closed, open_of, free_of, spare_of, live_of, victim_of, change_at, unused, forget}
use Rattle.ftl_one.specs.Stock.{forgotten, with_page, closed_if_full, filled, emptied, live_entries, is_retired}
use Rattle.ftl_one.specs.Store.{geometry_of, entries_of, erases_of, retired_of, counts_of, KeepsBlocks, Puts, Clears, ErasesBlock, HasRoom}
use Rattle.ftl_one.proofs.Blocks.{table, length-table, get_or-table, table_is, table-change, table-map, position_alone, open_of-blocks, free_of-blocks}
use Rattle.ftl_one.proofs.{Lawful.inside, Lawful.open≢retired, Lawful.spare≢retired, Stores.entries_within}

-- a role by its test
pub free_by : (r : Role) → is_free r ≡ true → r ≡ Free
free_by Free h = refl
free_by _ h = absurd (false≢true h)

pub open_by : (r : Role) → is_open r ≡ true → r ≡ Open
open_by Open h = refl
open_by _ h = absurd (false≢true h)

pub closed_by : (r : Role) → is_closed r ≡ true → r ≡ Closed
closed_by Closed h = refl
closed_by _ h = absurd (false≢true h)

pub spare_by : (r : Role) → is_spare r ≡ true → r ≡ Spare
spare_by Spare h = refl
spare_by _ h = absurd (false≢true h)

-- where a search finds nothing, no element passes
pub none_found : {X : Type 0} (p : X → Bool) (xs : List X) (d : X) → position p xs ≡ None → (k : ℕ) → k < length xs → p (get_or xs k d) ≡ false
none_found p xs d e k low = elim (cases_lt (position_or_len p xs) (length xs)) [
  | inl short ↦ absurd (some_none (position_or_len p xs)
      (sym (ap (λ (t : Bool). cond t (Some (position_or_len p xs)) None) (lt-ltb (position_or_len p xs) (length xs) short)) ∙ e))
  | inr past ↦ not-true (p (get_or xs k d)) (prefix_len_passes (λ x. not (p x)) xs k d (omega arith))
]
  where
    some_none : (n : ℕ) → Some n ≡ None → ⊥
    some_none n h = cc

-- a search that begins where no role below is a free one's
module _ (roles : List Role) (from : ℕ) (within : from ≤ length roles) (below : (b : ℕ) → b < from → is_free (role_in roles b) ≡ false) where
  later : (k : ℕ) → from ≤ k → role_in (drop from roles) (k - from) ≡ role_in roles k
  later k high =
      let sum : from + (k - from) ≡ k = omega arith in
      get_or-drop from roles (k - from) Retired ∙ ap (role_in roles) sum

  pub position_from : (ahead : ℕ) → position is_free (drop from roles) ≡ Some ahead → position is_free roles ≡ Some (from + ahead)
  position_from ahead e =
      let found = position-Some is_free (drop from roles) ahead Retired e in
      let low : from + ahead < length roles = omega (arith, found.0, length-drop from roles) in
      let here : is_free (role_in roles (from + ahead)) ≡ true = ap is_free (sym (get_or-drop from roles ahead Retired)) ∙ found.1 in
      let at : position_or_len is_free roles ≡ from + ahead =
      position_or_len_is is_free roles (from + ahead) Retired (omega (arith, low))
      (λ k short. elim (cases_lt k from) [
        | inl under ↦ below k under
        | inr over ↦ ap is_free (sym (later k over)) ∙ found.2 (k - from) (omega (arith, short, over))
      ])
      (λ h. here) in
      rw at (rw (lt-ltb (from + ahead) (length roles) low) refl)

  pub position_from-none : position is_free (drop from roles) ≡ None → position is_free roles ≡ None
  position_from-none e =
      let at : position_or_len is_free roles ≡ length roles =
      position_or_len_is is_free roles (length roles) Retired (omega arith)
      (λ k short. elim (cases_lt k from) [
        | inl under ↦ below k under
        | inr over ↦ ap is_free (sym (later k over))
            ∙ none_found is_free (drop from roles) Retired e (k - from) (omega (arith, short, over, length-drop from roles))
      ])
      (λ h. absurd (omega (arith, h))) in
      rw at (rw (le-ltb (length roles) (length roles) (omega arith)) refl)

-- the open block, the lowest free block and the spare of the stock
pub open_of-stock : (f : OneFtl) → open_of (stock_of f).blocks ≡ f.open_block
unfolding stock_of
open_of-stock f =
    open_of-blocks f.store f.roles.items
    ∙ position_alone is_open f.roles.items Retired f.open_block
    (λ k low on. f.lawful.open_is k (open_by (role_in f.roles.items k) on))
    (λ k e. let is = f.lawful.open_at k e in
    (omega (arith, f.roles_sized, inside_open f k is), ap is_open is))
  where
    clash : (r : Role) → r ≡ Open → r ≡ Retired → ⊥
    clash r h k = cc

    inside_open : (g : OneFtl) (k : ℕ) → role_in g.roles.items k ≡ Open → k < blocks_of (geometry_of g.store)
    inside_open g k is = elim (cases_lt k
        (blocks_of (geometry_of g.store))) [ inl low ↦ low | inr past ↦ absurd (clash (role_in g.roles.items k) is (g.lawful.outside k past)) ]

pub free_of-stock : (f : OneFtl) → free_of (stock_of f).blocks ≡ position is_free f.roles.items
unfolding stock_of
free_of-stock f = free_of-blocks f.store f.roles.items

-- the spare is one of the device's blocks
spare_inside : (f : OneFtl) (b : ℕ) → role_in f.roles.items b ≡ Spare → b < length f.roles.items
spare_inside f b is =
    let g = geometry_of f.store in
    omega (
      arith,
      f.roles_sized,
      inside (blocks_of g) (pages_of g) (λ k. length (entries_of f.store k)) (retired_of f.store) (role_in f.roles.items) f.open_block f.lawful b
          (spare≢retired (role_in f.roles.items b) is),
    )

pub spare_of-stock : (f : OneFtl) → spare_of (stock_of f).blocks ≡ f.spare
unfolding stock_of
spare_of-stock f =
    spare_of-blocks f.store f.roles.items
    ∙ position_alone is_spare f.roles.items Retired f.spare
    (λ k low on. f.knows_spare.spare_is k (spare_by (role_in f.roles.items k) on))
    (λ k e. let is = f.knows_spare.spare_at k e in (spare_inside f k is, ap is_spare is))

pub victim_of-stock : (f : OneFtl) → victim_of (stock_of f).blocks ≡ greedy_of (counts_of f.store) (map is_closed f.roles.items)
unfolding stock_of
victim_of-stock f = victim_of-blocks f.store f.roles.items f.roles_sized

-- a block from its parts
abbrev parts : Role → ℕ → List Entry → Block
parts r e xs = record { role = r; erases = e; entries = xs }

same_block : (r r' : Role) (e e' : ℕ) (xs xs' : List Entry) → r ≡ r' → e ≡ e' → xs ≡ xs' → parts r e xs ≡ parts r' e' xs'
same_block r r' e e' xs xs' p q s =
    ap (λ (k : Role). let b : Block = record { role = k; erases = e; entries = xs } in b) p
    ∙ (ap (λ (k : ℕ). let b : Block = record { role = r'; erases = k; entries = xs } in b) q
    ∙ ap (λ (k : List Entry). let b : Block = record { role = r'; erases = e'; entries = k } in b) s)

-- a block that is closed if it is full, in its parts
closed-parts : (pages : ℕ) (r : Role) (e : ℕ) (xs : List Entry) → closed_if_full pages (parts r e xs) ≡ parts (cond (eqb (length xs) pages) Closed r) e xs
closed-parts pages r e xs = by (eqb (length xs) pages)
  where
    by : (t : Bool) → cond t (parts Closed e xs) (parts r e xs) ≡ parts (cond t Closed r) e xs
    by true = refl
    by false = refl

-- the blocks after a trim
pub blocks-forget : (old new : Store) (roles : List Role) (s : ℕ) → length roles ≡ blocks_of (geometry_of old)
    → ((b : ℕ) → b < blocks_of (geometry_of old) → entries_of new b ≡ map (forgotten s) (entries_of old b)) → KeepsBlocks old new
    → blocks_in new roles ≡ map (forget s) (blocks_in old roles)
unfolding blocks_in
blocks-forget old new roles s size gone kept =
    let d : Block = unused Retired in
    let f = block_in old roles in
    table_is (block_in new roles) (length roles) (map (forget s) (table f (length roles))) d
    (length-map (table f (length roles)) (forget s) ∙ length-table f (length roles))
    (λ k low.
    let within : k < blocks_of (geometry_of old) = omega (arith, low, size) in
    same_block (role_in roles k) (role_in roles k) (erases_of new k) (erases_of old k) (entries_of new k) (map (forgotten s) (entries_of old k)) refl
    (kept.erases k within) (gone k within)
    ∙ (ap (forget s) (sym (get_or-table f (length roles) k d low))
    ∙ sym (get_or-map (forget s) (table f (length roles)) k d d (omega (arith, low, length-table f (length roles))))))

-- the blocks after a page is put, and its block closed if it is full
pub blocks-put : (old new : Store) (roles roles' : List Role) (b s pages : ℕ) → length roles ≡ blocks_of (geometry_of old)
    → length roles' ≡ length roles → b < length roles → Puts old new b s
    → role_in roles' b ≡ cond (eqb (length (entries_of new b)) pages) Closed (role_in roles b)
    → ((c : ℕ) → c ≢ b → role_in roles' c ≡ role_in roles c)
    → blocks_in new roles' ≡ change_at (map (forget s) (blocks_in old roles)) b (λ block. closed_if_full pages (with_page s block))
unfolding blocks_in
blocks-put old new roles roles' b s pages size same low puts here there =
    let f = block_in old roles in
    let h : Block → Block = λ block. closed_if_full pages (with_page s block) in
    let more : List Entry = map (forgotten s) (entries_of old b) ++ (record { sector = s; live = true }) ∷ [] in
    ap (λ (n : ℕ). table (block_in new roles') n) same
    ∙ (table-change (λ c. forget s (f c)) (block_in new roles') (length roles) b h low
    (same_block (role_in roles' b) (cond (eqb (length more) pages) Closed (role_in roles b)) (erases_of new b) (erases_of old b) (entries_of new b) more
    (here ∙ ap (λ (xs : List Entry). cond (eqb (length xs) pages) Closed (role_in roles b)) puts.changed)
    (puts.keeps.erases b (omega (arith, low, size))) puts.changed
    ∙ sym (closed-parts pages (role_in roles b) (erases_of old b) more))
    (λ c within apart.
    same_block (role_in roles' c) (role_in roles c) (erases_of new c) (erases_of old c) (entries_of new c) (map (forgotten s) (entries_of old c))
    (there c apart) (puts.keeps.erases c (omega (arith, within, size))) (puts.others c apart (omega (arith, within, size))))
    ∙ ap (λ (xs : List Block). change_at xs b h) (table-map f (length roles) (forget s)))

-- the blocks after one of them gets another role
pub blocks-role : (s : Store) (roles roles' : List Role) (b : ℕ) (r : Role) → length roles' ≡ length roles → b < length roles → role_in roles' b ≡ r
    → ((c : ℕ) → c ≢ b → role_in roles' c ≡ role_in roles c) → blocks_in s roles' ≡ change_at (blocks_in s roles) b (λ block. record block { role = r })
unfolding blocks_in
blocks-role s roles roles' b r same low here there =
    ap (λ (n : ℕ). table (block_in s roles') n) same
    ∙ table-change (block_in s roles) (block_in s roles') (length roles) b (λ (block : Block). record block { role = r }) low
    (ap (λ (k : Role). let x : Block = record { role = k; erases = erases_of s b; entries = entries_of s b } in x) here)
    (λ c within apart. ap (λ (k : Role). let x : Block = record { role = k; erases = erases_of s c; entries = entries_of s c } in x) (there c apart))

-- the blocks after a collection
pub blocks-collect : (old mid new : Store) (roles roles' : List Role) (spare victim endurance : ℕ) → length roles ≡ blocks_of (geometry_of old)
    → length roles' ≡ length roles → spare < length roles → victim < length roles → victim ≢ spare → Clears old mid victim spare
    → ErasesBlock mid new victim → role_in roles' spare ≡ Open → role_in roles' victim ≡ cond (eqb (erases_of old victim + 1) endurance) Retired Spare
    → ((c : ℕ) → c ≢ spare → c ≢ victim → role_in roles' c ≡ role_in roles c)
    → blocks_in new roles' ≡ change_at
    (change_at (blocks_in old roles) spare (filled (get_or (blocks_in old roles) victim (unused Retired)))) victim (emptied endurance)
unfolding blocks_in
blocks-collect old mid new roles roles' spare victim endurance size same spare_in victim_in apart clears erases opened done others =
    let n = length roles in
    let d : Block = unused Retired in
    let f = block_in old roles in
    let fill : Block → Block = filled (get_or (table f n) victim d) in
    let g : ℕ → Block = λ c. cond (eqb c spare) (fill (f c)) (f c) in
    let at : (c : ℕ) → c < n → c < blocks_of (geometry_of mid) = λ c low. omega (arith, low, size, ap blocks_of clears.keeps.geometry) in
    let is : (c : ℕ) → c < n → c < blocks_of (geometry_of old) = λ c low. omega (arith, low, size) in
    let first : table g n ≡ change_at (table f n) spare fill =
    table-change f g n spare fill spare_in (ap (λ (t : Bool). cond t (fill (f spare)) (f spare)) (eq-eqb spare spare refl))
    (λ c low other. ap (λ (t : Bool). cond t (fill (f c)) (f c)) (ne_eqb c spare other)) in
    ap (λ (k : ℕ). table (block_in new roles') k) same
    ∙ (table-change g (block_in new roles') n victim (emptied endurance) victim_in
    (same_block (role_in roles' victim) (cond (eqb (erases_of old victim + 1) endurance) Retired Spare) (erases_of new victim)
    (erases_of old victim + 1) (entries_of new victim) []
    done (erases.counted ∙ ap (λ (k : ℕ). k + 1) (clears.keeps.erases victim (is victim victim_in))) erases.emptied
    ∙ sym (ap (emptied endurance) (ap (λ (t : Bool). cond t (fill (f victim)) (f victim)) (ne_eqb victim spare apart))))
    (λ c low other. elim (cases_eq c spare) [
      | inl e ↦ subst (λ (k : ℕ). block_in new roles' k ≡ g k) (sym e)
          (same_block (role_in roles' spare) Open (erases_of new spare) (erases_of old spare) (entries_of new spare)
          (entries_of old spare ++ live_entries (entries_of old victim))
          opened
          (erases.erases spare (λ h. apart (sym h)) (at spare spare_in) ∙ clears.keeps.erases spare (is spare spare_in))
          (erases.entries spare (λ h. apart (sym h)) (at spare spare_in) ∙ clears.copied)
          ∙ (ap (λ (v : Block). filled v (f spare)) (sym (get_or-table f n victim d victim_in))
          ∙ sym (ap (λ (t : Bool). cond t (fill (f spare)) (f spare)) (eq-eqb spare spare refl))))
      | inr another ↦
          same_block (role_in roles' c) (role_in roles c) (erases_of new c) (erases_of old c) (entries_of new c) (entries_of old c)
          (others c another other)
          (erases.erases c other (at c low) ∙ clears.keeps.erases c (is c low))
          (erases.entries c other (at c low) ∙ clears.others c another other (is c low))
          ∙ sym (ap (λ (t : Bool). cond t (fill (f c)) (f c)) (ne_eqb c spare another))
    ])
    ∙ ap (λ (xs : List Block). change_at xs victim (emptied endurance)) first)

-- what the blocks weigh
sum_by-map-same : (w : Block → ℕ) (g : Block → Block) (xs : List Block) → ((x : Block) → w (g x) ≡ w x) → sum_by w (map g xs) ≡ sum_by w xs
sum_by-map-same w g [] same = refl
sum_by-map-same w g (x ∷ xs) same = omega (arith, sum_by-cons w (g x) (map g xs), sum_by-cons w x xs, sum_by-map-same w g xs same, same x)

weight-closed : (pages : ℕ) (x : Block) → weight pages (closed_if_full pages x) ≡ weight pages x
weight-closed pages x = ap (weight pages) (closed-parts pages x.role x.erases x.entries)

pub weight-forget : (pages s : ℕ) (xs : List Block) → sum_by (weight pages) (map (forget s) xs) ≡ sum_by (weight pages) xs
weight-forget pages s xs = sum_by-map-same (weight pages) (forget s) xs (λ x. ap (λ (n : ℕ). (pages + 1) * x.erases + n) (length-map x.entries (forgotten s)))

pub weight-put : (pages s b : ℕ) (xs : List Block) → b < length xs
    → sum_by (weight pages) (change_at (map (forget s) xs) b (λ block. closed_if_full pages (with_page s block))) ≡ sum_by (weight pages) xs + 1
weight-put pages s b xs low =
    let d : Block = unused Retired in
    let ys = map (forget s) xs in
    let x = get_or ys b d in
    let y : Block = closed_if_full pages (with_page s x) in
    let changed = sum_by-set (weight pages) ys b y d (omega (arith, low, length-map xs (forget s))) in
    let heavier : weight pages y ≡ weight pages x + 1 =
    weight-closed pages (with_page s x) ∙ omega (arith, length_push x.entries (record { sector = s; live = true })) in
    omega (arith, changed, heavier, weight-forget pages s xs)

pub weight-role : (pages b : ℕ) (r : Role) (xs : List Block) → b < length xs
    → sum_by (weight pages) (change_at xs b (λ block. record block { role = r })) ≡ sum_by (weight pages) xs
weight-role pages b r xs low =
    let d : Block = unused Retired in
    let changed = sum_by-set (weight pages) xs b (record (get_or xs b d) { role = r }) d low in
    omega (arith, changed)

pub weight-collect : (pages endurance spare victim : ℕ) (xs : List Block) → spare < length xs → victim < length xs → victim ≢ spare
    → length (get_or xs victim (unused Retired)).entries ≡ pages
    → sum_by (weight pages) (change_at (change_at xs spare (filled (get_or xs victim (unused Retired)))) victim (emptied endurance))
    ≡ sum_by (weight pages) xs + live_of (get_or xs victim (unused Retired)) + 1
weight-collect pages endurance spare victim xs spare_in victim_in apart full =
    let d : Block = unused Retired in
    let v = get_or xs victim d in
    let s = get_or xs spare d in
    let y : Block = filled v s in
    let ys = set xs spare y in
    let z : Block = emptied endurance (get_or ys victim d) in
    let first = sum_by-set (weight pages) xs spare y d spare_in in
    let second = sum_by-set (weight pages) ys victim z d (omega (arith, victim_in, length-set xs spare y)) in
    let was : get_or ys victim d ≡ v = get_or-set_other xs spare victim y d apart in
    let heavier : weight pages y ≡ weight pages s + live_of v =
    omega (arith, length-append s.entries (live_entries v.entries), length-filter (λ (e : Entry). e.live) v.entries) in
    let e = ap (λ (k : Block). weight pages k) was in
    let e2 = ap (λ (k : Block). k.erases) was in
    let worn : weight pages z ≡ (pages + 1) * (v.erases + 1) = ap (λ (k : ℕ). (pages + 1) * (k + 1) + 0) e2 ∙ omega arith in
    omega (arith, first, second, heavier, worn, e, full)

-- the table of all blocks has one for each role
pub length-blocks : (s : Store) (roles : List Role) → length (blocks_in s roles) ≡ length roles
unfolding blocks_in
length-blocks s roles = length-table (block_in s roles) (length roles)

pub get_or-blocks : (s : Store) (roles : List Role) (b : ℕ) (d : Block) → b < length roles → get_or (blocks_in s roles) b d ≡ block_in s roles b
unfolding blocks_in
get_or-blocks s roles b d low = get_or-table (block_in s roles) (length roles) b d low

-- a block of the stock is what the store and the role say of it
pub block_at-stock : (f : OneFtl) (b : ℕ) → b < blocks_of (geometry_of f.store) → block_at (stock_of f) b ≡ block_in f.store f.roles.items b
unfolding stock_of
block_at-stock f b low = get_or-blocks f.store f.roles.items b (unused Retired) (omega (arith, low, f.roles_sized))

-- no block below the lowest free one is free
pub none_below : (f : OneFtl) (b : ℕ) → free_of (stock_of f).blocks ≡ Some b → (k : ℕ) → k < b → is_free (role_in f.roles.items k) ≡ false
none_below f b e = (position-Some is_free f.roles.items b Retired (sym (free_of-stock f) ∙ e)).2

-- one block gets a role that isn't a free one's
pub free-kept : (roles : List Role) (from b : ℕ) (r : Role) → ((k : ℕ) → k < from → is_free (role_in roles k) ≡ false) → b < length roles
    → is_free r ≡ false → (k : ℕ) → k < from → is_free (role_in (set roles b r) k) ≡ false
free-kept roles from b r none low off k below = elim (cases_eq k b) [
  | inl e ↦ ap is_free (ap (role_in (set roles b r)) e ∙ get_or-set_same roles b r Retired low) ∙ off
  | inr apart ↦ ap is_free (get_or-set_other roles b k r Retired apart) ∙ none k below
]

-- the lowest free block is free
pub free_found : (f : OneFtl) (b : ℕ) → free_of (stock_of f).blocks ≡ Some b → (b < length f.roles.items) × (role_in f.roles.items b ≡ Free)
free_found f b e =
    let found = position-Some is_free f.roles.items b Retired (sym (free_of-stock f) ∙ e) in
    (found.0, free_by (role_in f.roles.items b) found.1)

pub spare_found : (f : OneFtl) (b : ℕ) → spare_of (stock_of f).blocks ≡ Some b → (b < length f.roles.items) × (role_in f.roles.items b ≡ Spare)
spare_found f b e =
    let is = f.knows_spare.spare_at b (sym (spare_of-stock f) ∙ e) in
    (spare_inside f b is, is)

-- the open block has a page left
pub open_found : (f : OneFtl) (b : ℕ) → open_of (stock_of f).blocks ≡ Some b → (b < blocks_of (geometry_of f.store)) × (role_in f.roles.items b ≡ Open)
open_found f b e =
    let g = geometry_of f.store in
    let is = f.lawful.open_at b (sym (open_of-stock f) ∙ e) in (
      inside (blocks_of g) (pages_of g) (λ k. length (entries_of f.store k)) (retired_of f.store) (role_in f.roles.items) f.open_block f.lawful b
          (open≢retired (role_in f.roles.items b) is),
      is,
    )

pub open_room : (f : OneFtl) (b : ℕ) → open_of (stock_of f).blocks ≡ Some b → HasRoom f.store b
open_room f b e =
    let found = open_found f b e in
    record { within = found.0; not_retired = f.lawful.usable b found.0 ∙ ap is_retired found.1; room = f.lawful.room b found.1 }

-- a sum over a table is at most its length times the most of its terms
sum_table_le : (w : Block → ℕ) (f : ℕ → Block) (n m : ℕ) → ((k : ℕ) → k < n → w (f k) ≤ m) → sum_by w (table f n) ≤ n * m
sum_table_le w f zero m most = omega arith
sum_table_le w f (suc n) m most =
    let same : n + 1 ≡ suc n = omega arith in
    let more = ap (λ (k : ℕ). sum_by w (table f k)) (sym same) ∙ sum_by-map-range_with_len_more w f 0 n n (omega arith) in
    let front = sum_table_le w f n m (λ k low. most k (omega arith)) in
    let last = most n (omega arith) in
    omega (arith, more, front, last)

-- no block has more erases than its endurance
pub erases_within : (s : Store) (b : ℕ) → b < blocks_of (geometry_of s) → erases_of s b ≤ endurance_of (geometry_of s)
unfolding erases_of
erases_within s b low = omega (arith, erases-block s.die b, (s.die.sound b low).erased)

pub erases_at : (f : OneFtl) (b : ℕ) → b < blocks_of (geometry_of f.store) → (block_at (stock_of f) b).erases ≤ endurance_of (geometry_of f.store)
erases_at f b low = omega (arith, ap (λ (x : Block). x.erases) (block_at-stock f b low), erases_within f.store b low)

-- the totals stay far below what a counter can hold
pub total_small : (f : OneFtl) → f.counts.programs + f.counts.copies + f.counts.erases < 2 ^ 60
unfolding blocks_in
total_small f =
    let s = f.store in
    let g = geometry_of s in
    let m : ℕ = (pages_of g + 1) * endurance_of g + pages_of g in
    let most = sum_table_le (weight (pages_of g)) (block_in s f.roles.items) (length f.roles.items) m (λ k low.
    let within : k < blocks_of g = omega (arith, low, f.roles_sized) in
    let worn = mul-le (pages_of g + 1) (erases_of s k) (pages_of g + 1) (endurance_of g) (omega arith) (erases_within s k within) in
    omega (arith, worn, entries_within s k within)) in
    let one = mul-le (pages_of g + 1) (endurance_of g) (MAX_PAGES + 1) MAX_ENDURANCE (omega (arith, s.die.geometry.in_limits.pages_high))
    (omega (arith, s.die.geometry.in_limits.endurance_high)) in
    let all = mul-le (length f.roles.items) m MAX_BLOCKS ((MAX_PAGES + 1) * MAX_ENDURANCE + MAX_PAGES)
    (omega (arith, f.roles_sized, s.die.geometry.in_limits.blocks_high)) (omega (arith, one, s.die.geometry.in_limits.pages_high)) in
    omega (arith, f.bounded, most, all)

-- where a block is retired there is no spare
pub no_spare : (f : OneFtl) → HasRetired (stock_of f) → (spare : ℕ) → spare_of (stock_of f).blocks ≡ Some spare → ⊥
unfolding stock_of
no_spare f retired spare e =
    let b = retired.0 in
    let low : b < length f.roles.items = omega (arith, retired.1, length-blocks f.store f.roles.items) in
    let is : role_in f.roles.items b ≡ Retired = ap (λ (x : Block). x.role) (sym (get_or-blocks f.store f.roles.items b (unused Retired) low)) ∙ retired.2 in
    f.lawful.spare_last spare b (omega (arith, low, f.roles_sized)) (spare_found f spare e).1 is
