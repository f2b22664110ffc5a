-- Items in an order, and the place of each.
use Rattle.std.specs.Prelude.{◌≡◌, ◌≢◌, ℕ, ◌<◌, List, length, slice_index}

-- each item is where its place says, and each place is that of the item there
pub record AreInverse (order places : List ℕ) : Type 0 where
  pub same : length order ≡ length places
  pub item_in : (p : ℕ) → p < length order → slice_index order p < length places
  pub item_at : (p : ℕ) → p < length order → slice_index places (slice_index order p) ≡ p
  pub place_in : (i : ℕ) → i < length places → slice_index places i < length order
  pub place_of : (i : ℕ) → i < length places → slice_index order (slice_index places i) ≡ i

-- the item has moved to the place, the item from there to its place, and no other
pub record HasMoved (old new : List ℕ) (item to : ℕ) : Type 0 where
  pub here : slice_index new item ≡ to
  pub back : (i : ℕ) → i < length old → i ≢ item → slice_index old i ≡ to → slice_index new i ≡ slice_index old item
  pub others : (i : ℕ) → i < length old → i ≢ item → slice_index old i ≢ to → slice_index new i ≡ slice_index old i
