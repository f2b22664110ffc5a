-- The words of a shared device. The fields of packed words are numerals here, so that the constants of the code have to equal them.
-- Byte 8i + j of a page is bits 8j to 8j + 7 of its word i. In the word of a sector the page has bits 0 to 15, the block bits 16 to 31, the
-- generation bits 32 to 62, and bit 63 is set. In the word of a block the readers have bits 0 to 11, the phase bits 12 to 15, the pages written
-- bits 16 to 31, and the generation bits 32 to 63. The table has the sectors' words, the blocks' words, and then for each page its data words
-- and its stamp.
use Rattle.std.specs.Prelude.{ℕ, ◌+◌, ◌*◌, List, ◌++◌, take, drop, ◌<◌, ◌≡◌, ◌-◌, ◌≤◌}
use Rattle.std.specs.Int.{from_le_bytes, to_le_bytes, w64}
use Rattle.geometry.specs.Limits.{Numbers}
use Rattle.geometry.specs.declared.words.MapWord.{MapWord}
use Rattle.geometry.specs.declared.words.Phase.{Phase}
use Rattle.geometry.specs.declared.words.PinWord.{PinWord}
use Rattle.geometry.specs.declared.words.Phase.TheVariants.{Free, Open, Closed, Victim, Drained, Erasing, Retired}

-- word i of a page
abbrev pub word_of : List ℕ → ℕ → ℕ
word_of page i = from_le_bytes w64 (take 8 (drop (8 * i) page))

-- a page with its word i replaced
abbrev pub with_word : List ℕ → ℕ → ℕ → List ℕ
with_word page i word = take (8 * i) page ++ (to_le_bytes w64 word ++ drop (8 * i + 8) page)

-- the fields fit in a word
pub record FitsMap (m : MapWord) : Type 0 where
  pub generation : m.generation < 2147483648
  pub block : m.block < 65536
  pub page : m.page < 65536

-- a page that a device has, in a generation that its block can reach
pub record IsPageOf (n : Numbers) (m : MapWord) : Type 0 where
  pub generation : m.generation < n.endurance
  pub block : m.block < n.blocks
  pub page : m.page < n.pages

-- the word that names a page
abbrev pub map_word : MapWord → ℕ
map_word m = ((9223372036854775808 + m.generation * 4294967296) + m.block * 65536) + m.page

-- the phase as a number that is added to the word: a free block's bits are clear, and a taken block's phase counts up by 8192 from bit 12
abbrev pub phase_bits : Phase → ℕ
phase_bits Free = 0
phase_bits Open = 4096
phase_bits Closed = 12288
phase_bits Victim = 20480
phase_bits Drained = 28672
phase_bits Erasing = 36864
phase_bits Retired = 45056

-- the fields fit in a word, and a free block has no page written
pub record FitsPin (p : PinWord) : Type 0 where
  pub readers : p.readers < 4096
  pub written : p.written < 65536
  pub generation : p.generation < 4294967296
  pub free : p.phase ≡ Free → p.written ≡ 0

-- a state that a block of a device can be in if each host reads at most one page
pub record IsStateOf (n : Numbers) (p : PinWord) : Type 0 where
  pub readers : p.readers ≤ n.hosts
  pub written : p.written ≤ n.pages
  pub generation : p.generation < n.endurance
  pub free : p.phase ≡ Free → p.written ≡ 0

-- the word of a block in this state
abbrev pub pin_word : PinWord → ℕ
pin_word p = ((p.readers + phase_bits p.phase) + p.written * 65536) + p.generation * 4294967296

-- the number that makes an erased block with this many pages written free in the next generation, when it is added to its word
abbrev pub freed_added : ℕ → ℕ
freed_added written = (4294967296 - 36864) - written * 65536

-- the number that makes it open for its owner in the next generation, when it is added to its word
abbrev pub kept_added : ℕ → ℕ
kept_added written = (4294967296 - (36864 - 4096)) - written * 65536

-- the index of a block's pin word
abbrev pub pin_index : Numbers → ℕ → ℕ
pin_index n block = n.sectors + block

-- the index of a page's first word
abbrev pub page_index : Numbers → ℕ → ℕ → ℕ
page_index n block page = (n.sectors + n.blocks) + (block * n.pages + page) * (n.words + 1)
