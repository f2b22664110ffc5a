-- The choice of the block to be collected: the closed one with the fewest live pages, and the lowest of these.
use Rattle.std.specs.Prelude.{◌≡◌, ℕ, ◌<◌, ◌≤◌, Bool, true, false, not, ◌&&◌, ◌||◌, nat_le, nat_lt, List, Option, None, Some, slice_index, slice_index_or}
use Rattle.std.specs.List.{zip, position, list_all}

-- the first index that is closed and whose count is no greater than that of any closed index
unfoldable pub greedy_of : List ℕ → List Bool → Option ℕ
greedy_of counts closed =
    let places = zip counts closed in
    position (λ place. place.1 && list_all (λ other. not other.1 || nat_le place.0 other.0) places) places

-- the block is closed
abbrev pub IsClosed : List Bool → ℕ → Type 0
IsClosed closed i = slice_index_or closed i false ≡ true

-- the block is closed, no closed block has a smaller count, and each closed block below it has a greater one
pub record IsGreedy (counts : List ℕ) (closed : List Bool) (i : ℕ) : Type 0 where
  pub is_closed : IsClosed closed i
  pub least : (k : ℕ) → IsClosed closed k → slice_index counts i ≤ slice_index counts k
  pub lowest : (k : ℕ) → k < i → IsClosed closed k → slice_index counts i < slice_index counts k

-- whether a count is less than that of the best block so far, if there is one
abbrev pub is_better_than : List ℕ → ℕ → Option ℕ → Bool
is_better_than counts i None = true
is_better_than counts i (Some b) = nat_lt (slice_index counts i) (slice_index counts b)
