-- How the die's blocks are stored: the pages of all blocks one behind the other, of n bytes each, and what a die keeps true of each block.
use Rattle.std.specs.Prelude.{◌≡◌, ℕ, ◌≢◌, ◌+◌, ◌*◌, ◌≤◌, List, length, take, drop, ◌<◌, false, map, slice_index, slice_index_or}
use Rattle.die.specs.declared.die.BlockState.{BlockState}
use Rattle.std.specs.List.{range_with_len}
use Rattle.die.specs.Pages.{Page, Block}

-- the bytes of the page at an index
unfoldable pub slot : ℕ → List ℕ → ℕ → List ℕ
slot n bytes place = take n (drop (place * n) bytes)

-- this page is at one index now, and at each other index what was there
pub record PutsSlot (n : ℕ) (old new : List ℕ) (place : ℕ) (page : List ℕ) : Type 0 where
  pub size : length new ≡ length old
  pub changed : slot n new place ≡ page
  pub others : (k : ℕ) → k ≢ place → (k + 1) * n ≤ length old → slot n new k ≡ slot n old k

-- a block in use: no page is programmed yet
abbrev pub unused : BlockState
unused = record { next = 0; erases = 0; retired = false }

-- no more pages are programmed than there are, and a block that isn't retired has an erase left
pub record IsSound (pages endurance : ℕ) (state : BlockState) : Type 0 where
  pub within : state.next ≤ pages
  pub erased : state.erases ≤ endurance
  pub usable : state.retired ≡ false → state.erases < endurance

-- the page at an index: its bytes in the list of all bytes, and its stamp in the list of all stamps
unfoldable pub stored : ℕ → List ℕ → List ℕ → ℕ → Page
stored page_bytes bytes stamps place = record { value = slot page_bytes bytes place; stamp = slice_index stamps place }

-- block b, by its state: its pages are one behind the other, from index b * pages on
unfoldable pub block_in : ℕ → ℕ → List ℕ → List ℕ → List BlockState → ℕ → Block
block_in page_bytes pages bytes stamps states b =
    let state = slice_index_or states b unused in
    record {
      pages = map (λ p. stored page_bytes bytes stamps (b * pages + p)) (range_with_len 0 state.next);
      erases = state.erases;
      retired = state.retired;
    }
