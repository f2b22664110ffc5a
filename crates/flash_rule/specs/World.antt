-- What the words and all seats of the table represent. It exists only in the rule, which says that there is one that the words fit.
use Rattle.std.specs.Prelude.{◌≡◌, ℕ, ◌+◌, ◌*◌, ◌<◌, ◌≤◌, ◌==◌, Bool, true, List, [], ◌∷◌, Option, None, Some, if◌then◌else◌, length, slice_index}
use Rattle.std.specs.List.{list_any}
use Rattle.geometry.specs.History.{Call}
use Rattle.geometry.specs.Limits.{Numbers, table_words_of}
use Rattle.geometry.specs.Words.{word_of, map_word, pin_word, phase_bits, pin_index, page_index}
use Rattle.geometry.specs.declared.words.MapWord.{MapWord}
use Rattle.geometry.specs.declared.words.PinWord.{PinWord}
use Rattle.geometry.specs.declared.words.Phase.{Phase}
use Rattle.geometry.specs.declared.words.Phase.TheVariants.{Free, Open, Closed, Victim, Drained, Erasing, Retired}
use Rattle.flash_rule.specs.declared.facts.Cycle.{Cycle}
use Rattle.flash_rule.specs.declared.facts.Name.{Name}
use Rattle.flash_rule.specs.declared.carried.Carried.{Carried}
use Rattle.flash_rule.specs.Views.{same_name}

-- What the words and all seats represent at one moment: the history, the map, the states and pages of the blocks, and who owns or did what
pub record World : Type 0 where
  -- the calls so far
  pub history : List Call
  -- the page that a sector's map word names
  pub map : ℕ → Option MapWord
  -- the state of a block
  pub pins : ℕ → PinWord
  -- the words of a page, by block, page and index
  pub pages : ℕ → ℕ → ℕ → ℕ
  -- the seat that owns a block, if one does
  pub owner : ℕ → ℕ
  -- how many passes and brooms have been dealt, and the seat of each
  pub passes : ℕ
  pub brooms : ℕ
  pub seat : Name → ℕ
  -- who programmed a page in a generation, and as which of its programs: by block, page and generation
  pub programmer : ℕ → ℕ → ℕ → Option (Name × ℕ)
  -- who erased a block in a generation, and as which of its erases
  pub eraser : ℕ → ℕ → Option (Name × ℕ)
  -- what each pass and broom has programmed and erased so far, in order
  pub programs : Name → List MapWord
  pub erases : Name → List Cycle
  -- the seat where a player's badge is
  pub badge : Name → ℕ
  -- the copies that a player's badge has with it while it is on a note
  pub carries : Name → Option Carried

-- a function with one value replaced
abbrev pub put : {X : Type 0} → (ℕ → X) → ℕ → X → ℕ → X
put f k x j = if j == k then x else f j

-- a function of passes and brooms with one value replaced
abbrev pub put_name : {X : Type 0} → (Name → X) → Name → X → Name → X
put_name f n x m = if same_name m n then x else f m

-- the pages with one word replaced
abbrev pub put_word : (ℕ → ℕ → ℕ → ℕ) → ℕ → ℕ → ℕ → ℕ → ℕ → ℕ → ℕ → ℕ
put_word pages b p i x = put pages b (put (pages b) p (put (pages b p) i x))

-- the phase is one of these
abbrev pub is_one_of : List Phase → Phase → Bool
is_one_of phases p = list_any (λ q. phase_bits q == phase_bits p) phases

-- the phases in which a block has an owner
abbrev pub is_owned : Phase → Bool
is_owned p = is_one_of (Open ∷ Victim ∷ Erasing ∷ []) p

-- the phases in which the written pages of a block can be read
abbrev pub is_intact : Phase → Bool
is_intact p = is_one_of (Open ∷ Closed ∷ Victim ∷ Drained ∷ []) p

-- the phases in which a map word may name a page of a block
abbrev pub is_nameable : Phase → Bool
is_nameable p = is_one_of (Open ∷ Closed ∷ Victim ∷ []) p

-- the phases in which no page of a block can become a sector's
abbrev pub is_shut : Phase → Bool
is_shut p = is_one_of (Closed ∷ Victim ∷ Drained ∷ Erasing ∷ Retired ∷ []) p

-- the phases in which nobody fills a page, and no page is being erased
abbrev pub is_still : Phase → Bool
is_still p = is_one_of (Free ∷ Closed ∷ Victim ∷ Drained ∷ []) p

-- the phases in which a broom drains or erases a block
abbrev pub is_reclaimed : Phase → Bool
is_reclaimed p = is_one_of (Victim ∷ Erasing ∷ []) p

-- what the phase adds to twice the generation
abbrev pub half_cycle : Phase → ℕ
half_cycle p = if is_one_of (Erasing ∷ Retired ∷ []) p then 1 else 0

-- the age of a block, which no step lowers
abbrev pub age_of : PinWord → ℕ
age_of p = 2 * p.generation + half_cycle p.phase

-- the block is in this generation, and its written pages can be read
pub record Intact (p : PinWord) (generation : ℕ) : Type 0 where
  pub same : p.generation ≡ generation
  pub phase : is_intact p.phase ≡ true

-- word i of a value, which is the bytes of a page
unfoldable pub data_word : List ℕ → ℕ → ℕ
data_word value i = word_of value i

-- a page has a value if its data words are the value's
abbrev pub HoldsValue : Numbers → (ℕ → ℕ) → List ℕ → Type 0
HoldsValue z page value = (i : ℕ) → i < z.words → page i ≡ data_word value i

-- a page word that nobody has written since the last erase
abbrev pub blank_word : ℕ
blank_word = 18446744073709551615

-- a page is blank if its words and its stamp are all ones
abbrev pub IsBlank : Numbers → (ℕ → ℕ) → Type 0
IsBlank z page = (i : ℕ) → i ≤ z.words → page i ≡ blank_word

-- the map word of a sector that no page holds is 0
abbrev pub sector_word : Option MapWord → ℕ
sector_word None = 0
sector_word (Some m) = map_word m

-- the words are those of the map, of the pins and of the pages, each at its index
pub record Fits (z : Numbers) (m : ℕ → Option MapWord) (q : ℕ → PinWord) (r : ℕ → ℕ → ℕ → ℕ) (words : List ℕ) : Type 0 where
  pub size : length words ≡ table_words_of z.blocks z.pages z.words z.sectors
  pub sectors : (s : ℕ) → s < z.sectors → slice_index words s ≡ sector_word (m s)
  pub blocks : (b : ℕ) → b < z.blocks → slice_index words (pin_index z b) ≡ pin_word (q b)
  pub pages : (b p i : ℕ) → b < z.blocks → p < z.pages → i ≤ z.words → slice_index words (page_index z b p + i) ≡ r b p i
