-- What a broom finds out about all blocks and sectors, the victim that it chooses by it, and the order in which the blocks of a survey are drained.
use Rattle.std.specs.Prelude.{◌≡◌, ℕ, ◌==◌, ◌&&◌, Bool, true, false, All, List, Option, None, Some, IfSome, length, map, count_by, slice_index, ◌+◌, ◌*◌, ◌%◌}
use Rattle.std.specs.Prelude.{◌<◌, ◌≤◌, vec_capacity}
use Rattle.std.specs.List.{enumerate_from, range_with_len}
use Rattle.geometry.specs.Greedy.{greedy_of, IsClosed}
use Rattle.geometry.specs.Limits.{Numbers}
use Rattle.geometry.specs.Words.{FitsMap, FitsPin, pin_word}
use Rattle.geometry.specs.declared.words.MapWord.{MapWord}
use Rattle.geometry.specs.declared.words.Phase.{Phase}
use Rattle.geometry.specs.declared.words.Phase.TheVariants.{Free, Open, Closed, Victim, Drained, Erasing, Retired}
use Rattle.geometry.specs.declared.words.PinWord.{PinWord}
use Rattle.flash_rule.specs.World.{sector_word}
use Rattle.std.specs.List.Sorted.{IsNonDecreasing}
use Rattle.broom.specs.declared.ranking.Ranking.{Ranking}
use Rattle.broom.specs.declared.ranking.TheConstants.{ONE_PAGE}

-- What a broom found: the state of each block, and for each sector the page that its map word named, or none
pub record Survey : Type 0 where
  pub states : List PinWord
  pub pages : List (Option MapWord)

-- A survey of this device is of all its blocks and all its sectors, and what it found fits in their words
pub record IsSurvey (z : Numbers) (x : Survey) : Type 0 where
  pub blocks : length x.states ≡ z.blocks
  pub sectors : length x.pages ≡ z.sectors
  pub states : All FitsPin x.states
  pub pages : All (λ page. IfSome page FitsMap) x.pages

-- each block with its word as loaded, in order
abbrev pub loads_of : List PinWord → List (ℕ × ℕ)
loads_of states = enumerate_from 0 (map pin_word states)

-- each sector with its word as a look found it, in order
abbrev pub looks_of : List (Option MapWord) → List (ℕ × ℕ)
looks_of pages = enumerate_from 0 (map sector_word pages)

-- whether a sector's page is in this block, in this generation
abbrev pub lies_in : ℕ → ℕ → Option MapWord → Bool
lies_in b generation None = false
lies_in b generation (Some m) = m.block == b && m.generation == generation

-- the generation of a block as loaded
abbrev pub generation_in : List PinWord → ℕ → ℕ
generation_in states b = slice_index (map (λ p. p.generation) states) b

-- the pages written of a block as loaded
abbrev pub written_in : List PinWord → ℕ → ℕ
written_in states b = slice_index (map (λ p. p.written) states) b

-- the live pages of a block: how many sectors' words named a page of it, in its generation as loaded
abbrev pub live_pages : Survey → ℕ → ℕ
live_pages x b = count_by (lies_in b (generation_in x.states b)) x.pages

-- the live pages of all blocks, in order
abbrev pub counts_of : Survey → List ℕ
counts_of x = map (live_pages x) (range_with_len 0 (length x.states))

-- whether a block was loaded as closed
abbrev pub is_closed : Phase → Bool
is_closed Free = false
is_closed Open = false
is_closed Closed = true
is_closed Victim = false
is_closed Drained = false
is_closed Erasing = false
is_closed Retired = false

-- for each block whether it was loaded as closed
abbrev pub closed_of : List PinWord → List Bool
closed_of states = map (λ p. is_closed p.phase) states

-- the block to be drained: of those loaded as closed the one with the fewest live pages, and the lowest on a tie
abbrev pub victim_of : Survey → Option ℕ
victim_of x = greedy_of (counts_of x) (closed_of x.states)

-- There is nothing to gain: no block was loaded as closed, or all pages of the one to be drained are live
abbrev pub GainsNothing : Survey → ℕ → Type 0
GainsNothing x pages = IfSome (victim_of x) (λ b. live_pages x b ≡ pages)

-- This block is the one to be drained, and not all of its pages are live
pub record IsVictim (x : Survey) (pages b : ℕ) : Type 0 where
  pub chosen : victim_of x ≡ Some b
  pub gains : ¬ (live_pages x b ≡ pages)

-- a block's number with the count of its live pages above it: the lesser of two keys is that of the block to be drained first
abbrev pub key_of : ℕ → ℕ → ℕ
key_of count block = count * ONE_PAGE + block

-- This is the key of one of the blocks that these counts are of
pub record IsKey (counts : List ℕ) (key : ℕ) : Type 0 where
  pub low : key % ONE_PAGE < length counts
  pub is : key ≡ key_of (slice_index counts (key % ONE_PAGE)) (key % ONE_PAGE)

-- from this index on there is no key of this block
abbrev pub IsPast : List ℕ → List ℕ → ℕ → ℕ → Type 0
IsPast counts keys next b = (k : ℕ) → next ≤ k → k < length keys → ¬ (slice_index keys k ≡ key_of (slice_index counts b) b)

-- The keys are of blocks with these counts and rise, and a block without a key from this index on isn't marked
pub record IsRanked (counts : List ℕ) (marks : List Bool) (keys : List ℕ) (next : ℕ) : Type 0 where
  pub each : All (IsKey counts) keys
  pub rising : IsNonDecreasing keys
  pub left : (b : ℕ) → IsPast counts keys next b → ¬ (IsClosed marks b)

-- There is room for a key of each block, and if the ranking is made it ranks all blocks that are marked
pub record Ranks (counts : List ℕ) (marks : List Bool) (r : Ranking) : Type 0 where
  pub room : length marks ≤ vec_capacity r.keys
  pub ranked : r.made ≡ true → IsRanked counts marks r.keys.items r.next
