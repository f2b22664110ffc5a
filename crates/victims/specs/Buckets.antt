-- Items sorted by their keys, in flat arrays.
use Rattle.std.specs.Prelude.{◌≡◌, ℕ, ◌<◌, ◌≤◌, List, length, count_by, nat_lt, slice_index}

-- a bucket starts behind the items of smaller keys and before the others, and at a place that counts the former
pub record AreSorted (keys places starts : List ℕ) : Type 0 where
  pub same : length keys ≡ length places
  pub in_range : (i : ℕ) → i < length keys → slice_index keys i < length starts
  pub behind : (k i : ℕ) → k < length starts → i < length keys → slice_index keys i < k → slice_index places i < slice_index starts k
  pub before : (k i : ℕ) → k < length starts → i < length keys → k ≤ slice_index keys i → slice_index starts k ≤ slice_index places i
  pub count : (k : ℕ) → k < length starts → slice_index starts k ≡ count_by (λ key. nat_lt key k) keys

-- no item whose key is at least `from` has a smaller key than this one
pub record HasLeastKey (keys : List ℕ) (from item : ℕ) : Type 0 where
  pub inside : item < length keys
  pub enough : from ≤ slice_index keys item
  pub least : (i : ℕ) → i < length keys → from ≤ slice_index keys i → slice_index keys item ≤ slice_index keys i
