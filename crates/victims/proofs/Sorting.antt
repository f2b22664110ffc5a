-- Sorted items after a step of one key.
use Rattle.std.proofs.Common.{⊎_elim, [], ◌∷◌, refl, ◌≡◌, ℕ, ◌+◌, ◌<◌, ◌≤◌, Bool, cond, List, length, set, get_or, arith}
use Rattle.std.specs.Prelude.{count_by, nat_lt, ◌==◌}
use Rattle.std.proofs.lemmas.{List.Sums.sum_by-set, List.Sums.count_by-le-length, Bool.cases_lt, Bool.Decides.nat_tests, Grind.common_steps}
use Rattle.victims.specs.{Permutation.AreInverse, Permutation.HasMoved, Buckets.AreSorted, Buckets.HasLeastKey}

-- a count after one number is replaced
pub count_by-set : (p : ℕ → Bool) (xs : List ℕ) (i y : ℕ) → i < length xs
    → count_by p (set xs i y) + cond (p (get_or xs i 0)) 1 0 ≡ count_by p xs + cond (p y) 1 0
count_by-set p xs i y h = sum_by-set (λ x. cond (p x) 1 0) xs i y 0 h

-- one more key counts the numbers that are equal to it
pub count_below_next : (k : ℕ) (xs : List ℕ) → count_by (λ x. nat_lt x (k + 1)) xs ≡ count_by (λ x. nat_lt x k) xs + count_by (λ x. x == k) xs
count_below_next k [] = refl
count_below_next k (x ∷ xs) = grind (arith, nat_tests, common_steps, count_below_next k xs)

-- a bucket starts inside the order or at its end
pub starts_within : (keys places starts : List ℕ) → AreSorted keys places starts → (k : ℕ) → k < length starts → get_or starts k 0 ≤ length keys
starts_within keys places starts sorted k h = omega (arith, sorted.count k h, count_by-le-length (λ x. nat_lt x k) keys)

module _ (keys order old new starts : List ℕ) (item : ℕ) (inverse : AreInverse order old) (sorted : AreSorted keys old starts)
    (inside : item < length keys) (length_new : length new ≡ length old) where
  pub raised : (key last : ℕ) → key ≡ get_or keys item 0 + 1 → last + 1 ≡ get_or starts key 0 → key < length starts → HasMoved old new item last
      → AreSorted (set keys item key) new (set starts key last)
  raised key last key_is last_is fits moved = record {
    same = grind (arith, common_steps);
    in_range = λ i h. grind (arith, common_steps, sorted.in_range i);
    behind = λ k i k_in i_in below. grind (
      arith,
      common_steps,
      sorted.behind k i,
      sorted.before k i,
      sorted.before key i,
      sorted.behind key item,
      sorted.before k item,
      sorted.behind k (get_or order last 0),
      sorted.before key (get_or order last 0),
      moved.back i,
      moved.others i,
      inverse.item_at last,
      inverse.item_in last,
    );
    before = λ k i k_in i_in below. grind (
      arith,
      common_steps,
      sorted.behind k i,
      sorted.before k i,
      sorted.behind key i,
      sorted.behind key item,
      sorted.before k item,
      moved.back i,
      moved.others i,
    );
    count = λ k k_in. grind (arith, common_steps, nat_tests, sorted.count k, count_by-set (λ x. nat_lt x k) keys item key inside);
  }

  pub lowered : (key below first : ℕ) → key ≡ get_or keys item 0 → below + 1 ≡ key → first ≡ get_or starts key 0 → HasMoved old new item first
      → AreSorted (set keys item below) new (set starts key (first + 1))
  lowered key below first key_is below_is first_is moved = record {
    same = grind (arith, common_steps);
    in_range = λ i h. grind (arith, common_steps, sorted.in_range i, sorted.in_range item);
    behind = λ k i k_in i_in less. grind (
      arith,
      common_steps,
      sorted.behind k i,
      sorted.behind key i,
      sorted.before key item,
      sorted.behind k item,
      sorted.in_range item,
      moved.back i,
      moved.others i,
    );
    before = λ k i k_in i_in more. grind (
      arith,
      common_steps,
      sorted.before k i,
      sorted.before key item,
      sorted.behind key (get_or order first 0),
      sorted.before k (get_or order first 0),
      sorted.in_range item,
      moved.back i,
      moved.others i,
      inverse.item_at first,
      inverse.item_in first,
      inverse.place_of i,
    );
    count = λ k k_in. grind (arith, common_steps, nat_tests, sorted.count k, count_by-set (λ x. nat_lt x k) keys item below inside);
  }

-- at the start of a bucket is an item with the least key that is not below the bucket's
pub first_is_least : (keys order places starts : List ℕ) (key first : ℕ) → AreInverse order places → AreSorted keys places starts
    → key < length starts → first ≡ get_or starts key 0 → first < length order
    → HasLeastKey keys key (get_or order first 0)
first_is_least keys order places starts key first inverse sorted fits first_is inside =
    let item : ℕ = get_or order first 0 in
    let place : get_or places item 0 ≡ first = inverse.item_at first inside in
    let item_in : item < length keys = grind (arith, inverse.item_in first, sorted.same) in
    record {
      inside = item_in;
      enough = grind (arith, sorted.behind key item);
      least = λ i i_in enough. grind (
        arith,
        sorted.in_range item,
        sorted.in_range i,
        sorted.behind (get_or keys item 0) i,
        sorted.before (get_or keys item 0) item,
        sorted.before key i,
      );
    }

-- an item before another has no greater key
pub in_key_order : (keys order places starts : List ℕ) (p i : ℕ) → AreInverse order places → AreSorted keys places starts
    → i < length keys → p < length order → p ≤ get_or places i 0 → get_or keys (get_or order p 0) 0 ≤ get_or keys i 0
in_key_order keys order places starts p i inverse sorted i_in inside le =
    let item : ℕ = get_or order p 0 in
    let place : get_or places item 0 ≡ p = inverse.item_at p inside in
    let item_in : item < length keys = grind (arith, inverse.item_in p, sorted.same) in
    ⊎_elim
    (λ less. grind (arith, sorted.in_range item, sorted.behind (get_or keys item 0) i, sorted.before (get_or keys item 0) item))
    (λ enough. enough)
    (cases_lt (get_or keys i 0) (get_or keys item 0))

-- an item in the places of a bucket has its key
pub key_there : (keys order places starts : List ℕ) (key place : ℕ) → AreInverse order places → AreSorted keys places starts → key + 1 < length starts
    → get_or starts key 0 ≤ place → place < get_or starts (key + 1) 0 → place < length order
    → (get_or order place 0 < length keys) × (get_or keys (get_or order place 0) 0 ≡ key)
key_there keys order places starts key place inverse sorted fits from before inside =
    let item : ℕ = get_or order place 0 in
    let there : get_or places item 0 ≡ place = inverse.item_at place inside in
    let item_in : item < length keys = grind (arith, inverse.item_in place, sorted.same) in
    (item_in, grind (arith, sorted.behind key item, sorted.before (key + 1) item))
