-- The blocks of the stock, as a store and the roles give them.
use Rattle.std.proofs.Common.{◌≡◌, ◌≢◌, inl, inr, ℕ, ◌+◌, ◌<◌, Bool, true, not, cond, ltb, List, [], ◌∷◌, length, get_or, set, map, Option, None, Some, sym, ap}
use Rattle.std.proofs.Common.{◌∙◌, refl, arith, length-set, get_or-set_same, get_or-set_other}
use Rattle.std.specs.List.{range_with_len, position, position_or_len, prefix_len}
use Rattle.std.proofs.lemmas.{List.length-map, List.get_or-map, List.Sums.position_or_len_is, Bool.cases_eq, Bool.cases_Bool, Bool.lt-ltb, Bool.le-ltb}
use Rattle.std.proofs.lemmas.List.FromFn.{length-map-range_with_len, get_or-map-range_with_len, fill_by_all}
use Rattle.geometry.specs.{Geometry.blocks_of, Greedy.greedy_of}
use Rattle.ftl_one.specs.{declared.role.Role.Role, Entries.live_count, Store.geometry_of, Store.entries_of, Store.counts_of, Lawful.block_in, Lawful.blocks_in}
use Rattle.ftl_one.{specs.declared.role.Role.TheVariants.Retired, specs.declared.store.Store.Store, specs.Lawful.role_in, proofs.Stores.count-entries_of}
use Rattle.ftl_one.specs.Stock.{Block, is_open, is_free, is_spare, is_closed, open_of, free_of, spare_of, live_of, victim_of, change_at, unused}

-- a list made from a function
abbrev pub table : {X : Type 0} → (ℕ → X) → ℕ → List X
table f n = map f (range_with_len 0 n)

pub length-table : {X : Type 0} (f : ℕ → X) (n : ℕ) → length (table f n) ≡ n
length-table f n = length-map-range_with_len f 0 n

pub get_or-table : {X : Type 0} (f : ℕ → X) (n i : ℕ) (d : X) → i < n → get_or (table f n) i d ≡ f i
get_or-table f n i d low = get_or-map-range_with_len f 0 n i i d low (omega arith)

-- a list that agrees with the function at each place is the one that is made from it
pub table_is : {X : Type 0} (f : ℕ → X) (n : ℕ) (xs : List X) (d : X) → length xs ≡ n → ((k : ℕ) → k < n → f k ≡ get_or xs k d) → table f n ≡ xs
table_is f n xs d size same = sym (fill_by_all f xs n d size (λ k low. sym (same k low)))

-- one block is changed
pub table-change : (f f' : ℕ → Block) (n b : ℕ) (change : Block → Block) → b < n → f' b ≡ change (f b) → ((c : ℕ) → c < n → c ≢ b → f' c ≡ f c)
    → table f' n ≡ change_at (table f n) b change
table-change f f' n b change low here there =
    let xs = table f n in
    let d : Block = unused Retired in
    let v : Block = change (get_or xs b d) in
    table_is f' n (set xs b v) d (length-set xs b v ∙ length-table f n)
    (λ k within. elim (cases_eq k b) [
      | inl e ↦
          ap f' e ∙ (here ∙ (ap change (sym (get_or-table f n b d low))
          ∙ (sym (get_or-set_same xs b v d (omega (arith, low, length-table f n))) ∙ ap (λ (i : ℕ). get_or (set xs b v) i d) (sym e))))
      | inr apart ↦
          there k within apart ∙ (sym (get_or-table f n k d within) ∙ sym (get_or-set_other xs b k v d apart))
    ])

-- every block is changed
pub table-map : (f : ℕ → Block) (n : ℕ) (change : Block → Block) → table (λ c. change (f c)) n ≡ map change (table f n)
table-map f n change =
    let d : Block = unused Retired in
    table_is (λ c. change (f c)) n (map change (table f n)) d (length-map (table f n) change ∙ length-table f n)
    (λ k low. ap change (sym (get_or-table f n k d low)) ∙ sym (get_or-map change (table f n) k d d (omega (arith, low, length-table f n))))

-- a search by a part of each element is one over the parts
prefix_len-map : {X Y : Type 0} (p : Y → Bool) (g : X → Y) (xs : List X) → prefix_len (λ x. p (g x)) xs ≡ prefix_len p (map g xs)
prefix_len-map p g [] = refl
prefix_len-map p g (x ∷ xs) = ap (λ (n : ℕ). cond (p (g x)) (1 + n) 0) (prefix_len-map p g xs)

pub position-map : {X Y : Type 0} (p : Y → Bool) (g : X → Y) (xs : List X) → position (λ x. p (g x)) xs ≡ position p (map g xs)
position-map p g xs =
    let e : position_or_len (λ x. p (g x)) xs ≡ position_or_len p (map g xs) = prefix_len-map (λ y. not (p y)) g xs in
    let f : ℕ → ℕ → Option ℕ = λ k m. cond (ltb k m) (Some k) None in
    ap (λ (k : ℕ). f k (length xs)) e ∙ ap (f (position_or_len p (map g xs))) (sym (length-map xs g))

-- the place at which a test holds alone, or none
pub position_alone : {X : Type 0} (p : X → Bool) (xs : List X) (d : X) (o : Option ℕ)
    → ((k : ℕ) → k < length xs → p (get_or xs k d) ≡ true → o ≡ Some k) → ((k : ℕ) → o ≡ Some k → (k < length xs) × (p (get_or xs k d) ≡ true))
    → position p xs ≡ o
position_alone p xs d None one at =
    let found : position_or_len p xs ≡ length xs =
    position_or_len_is p xs (length xs) d (omega arith)
    (λ k low. elim (cases_Bool (p (get_or xs k d))) [ inl on ↦ absurd (none_some k (one k low on)) | inr off ↦ off ])
    (λ h. absurd (omega arith)) in
    rw found (rw (le-ltb (length xs) (length xs) (omega arith)) refl)
  where
    none_some : (k : ℕ) → None ≡ Some k → ⊥
    none_some k h = cc
position_alone p xs d (Some b) one at =
    let here = at b refl in
    let found : position_or_len p xs ≡ b =
    position_or_len_is p xs b d (omega (arith, here.0))
    (λ k low. elim (cases_Bool (p (get_or xs k d))) [
      | inl on ↦ let same : b ≡ k = same_some b k (one k (omega (arith, here.0)) on) in absurd (omega (arith, same))
      | inr off ↦ off
    ])
    (λ h. here.1) in
    rw found (rw (lt-ltb b (length xs) here.0) refl)
  where
    same_some : (m k : ℕ) → Some m ≡ Some k → m ≡ k
    same_some m k h = cc

-- a part of each block of a table
map-table : {X Y : Type 0} (g : X → Y) (f : ℕ → X) (n : ℕ) → map g (table f n) ≡ table (λ k. g (f k)) n
map-table g f n = rows (range_with_len 0 n)
  where
    rows : (ks : List ℕ) → map g (map f ks) ≡ map (λ k. g (f k)) ks
    rows [] = refl
    rows (k ∷ ks) = ap (λ ys. g (f k) ∷ ys) (rows ks)

-- the roles of the blocks
pub roles-blocks : (s : Store) (roles : List Role) → map (λ block. block.role) (blocks_in s roles) ≡ roles
unfolding blocks_in
roles-blocks s roles =
    map-table (λ (block : Block). block.role) (block_in s roles) (length roles)
    ∙ table_is (role_in roles) (length roles) roles Retired refl (λ k low. refl)

pub open_of-blocks : (s : Store) (roles : List Role) → open_of (blocks_in s roles) ≡ position is_open roles
open_of-blocks s roles = position-map is_open (λ (block : Block). block.role) (blocks_in s roles) ∙ ap (position is_open) (roles-blocks s roles)

pub free_of-blocks : (s : Store) (roles : List Role) → free_of (blocks_in s roles) ≡ position is_free roles
free_of-blocks s roles = position-map is_free (λ (block : Block). block.role) (blocks_in s roles) ∙ ap (position is_free) (roles-blocks s roles)

pub spare_of-blocks : (s : Store) (roles : List Role) → spare_of (blocks_in s roles) ≡ position is_spare roles
spare_of-blocks s roles = position-map is_spare (λ (block : Block). block.role) (blocks_in s roles) ∙ ap (position is_spare) (roles-blocks s roles)

-- the live pages of the blocks are the store's counts
pub counts-blocks : (s : Store) (roles : List Role) → length roles ≡ blocks_of (geometry_of s) → map live_of (blocks_in s roles) ≡ counts_of s
unfolding blocks_in counts_of
counts-blocks s roles size =
    map-table live_of (block_in s roles) (length roles)
    ∙ table_is (λ b. live_count (entries_of s b)) (length roles) s.live.items 0 (omega (arith, size, s.mapped.live_size))
    (λ k low. sym (count-entries_of s k (omega (arith, low, size))))

pub closed-blocks : (s : Store) (roles : List Role) → map (λ block. is_closed block.role) (blocks_in s roles) ≡ map is_closed roles
closed-blocks s roles = map-part (blocks_in s roles) ∙ ap (map is_closed) (roles-blocks s roles)
  where
    map-part : (xs : List Block) → map (λ block. is_closed block.role) xs ≡ map is_closed (map (λ block. block.role) xs)
    map-part [] = refl
    map-part (x ∷ xs) = ap (λ (ys : List Bool). is_closed x.role ∷ ys) (map-part xs)

-- the victim is the greedy choice by the counts and the marks
pub victim_of-blocks : (s : Store) (roles : List Role) → length roles ≡ blocks_of (geometry_of s)
    → victim_of (blocks_in s roles) ≡ greedy_of (counts_of s) (map is_closed roles)
victim_of-blocks s roles size =
    ap (λ (xs : List ℕ). greedy_of xs (map (λ block. is_closed block.role) (blocks_in s roles))) (counts-blocks s roles size)
    ∙ ap (greedy_of (counts_of s)) (closed-blocks s roles)
