-- The limits of a device, the first of them that its numbers break, and the names of these faults.
use Rattle.std.specs.Prelude.{◌≡◌, ℕ, ◌+◌, ◌-◌, ◌*◌, ◌%◌, ◌≤◌, ◌<◌, ◌==◌, Bool, not, ◌&&◌, ◌||◌, nat_lt, nat_le, List, [], ◌∷◌, Option, None, Some}
use Rattle.std.specs.Prelude.{if◌then◌else◌, codes}
use Rattle.geometry.specs.declared.limits.GeometryFault.TheVariants as fault
use Rattle.geometry.specs.declared.limits.GeometryFault.{GeometryFault}
use Rattle.geometry.specs.declared.limits.GeometryFault.TheVariants.{Luns, Blocks, Pages, Words, Sectors, Endurance, Passes, TooManyWords, TooFewBlocks}

-- the numbers that make a device
pub record Numbers : Type 0 where
  pub luns : ℕ
  pub blocks : ℕ
  pub pages : ℕ
  pub words : ℕ
  pub sectors : ℕ
  pub endurance : ℕ
  pub hosts : ℕ
  pub brooms : ℕ

-- the eight numbers, passed one by one
abbrev pub numbers : ℕ → ℕ → ℕ → ℕ → ℕ → ℕ → ℕ → ℕ → Numbers
numbers luns blocks pages words sectors endurance hosts brooms =
    record { luns = luns; blocks = blocks; pages = pages; words = words; sectors = sectors; endurance = endurance; hosts = hosts; brooms = brooms }

-- the number of words in a shared device's table: one for each sector, one for each block, and the words and the stamp of each page
abbrev pub table_words_of : ℕ → ℕ → ℕ → ℕ → ℕ
table_words_of blocks pages words sectors = sectors + blocks + blocks * pages * (words + 1)

-- the sectors fit in addition to what collection needs: with one thread a spare block and one page, and in a shared device a block for each host
-- and two for each broom
abbrev pub has_room_of : ℕ → ℕ → ℕ → ℕ → ℕ → Bool
has_room_of blocks pages sectors hosts brooms =
    if hosts == 0 then nat_lt sectors ((blocks - 1) * pages)
    else (nat_lt (hosts + 2 * brooms) blocks && nat_le sectors ((blocks - (hosts + 2 * brooms)) * pages))

-- a number is less than the first bound or greater than the second
abbrev pub is_outside : ℕ → ℕ → ℕ → Bool
is_outside low high n = nat_lt n low || nat_lt high n

-- the faults in the order in which they are checked, each with its test. The limits are numerals here, so that the constants of the code
-- have to equal them
abbrev pub fault_tests : Numbers → List (Bool × GeometryFault)
fault_tests n =
    (is_outside 1 8 n.luns, Luns)
    ∷ ((is_outside 3 4096 n.blocks || not (n.blocks % n.luns == 0), Blocks)
    ∷ ((is_outside 1 16384 n.pages, Pages)
    ∷ ((is_outside 1 512 n.words, Words)
    ∷ ((is_outside 1 1048576 n.sectors, Sectors)
    ∷ ((is_outside 1 1000000 n.endurance, Endurance)
    ∷ ((nat_lt 500 n.hosts || nat_lt 32 n.brooms || (n.hosts == 0 && nat_lt 0 n.brooms), Passes)
    ∷ ((nat_lt 16777216 (table_words_of n.blocks n.pages n.words n.sectors), TooManyWords)
    ∷ ((not (has_room_of n.blocks n.pages n.sectors n.hosts n.brooms), TooFewBlocks)
    ∷ []))))))))

-- the fault of the first test that holds
abbrev pub first_that_holds : {X : Type 0} → List (Bool × X) → Option X
first_that_holds [] = None
first_that_holds (t ∷ others) = if t.0 then Some t.1 else first_that_holds others

-- the first fault of these numbers, if they have one
abbrev pub first_fault : Numbers → Option GeometryFault
first_fault n = first_that_holds (fault_tests n)

-- the numbers break no limit
pub record IsWithinLimits (n : Numbers) : Type 0 where
  pub luns_low : 1 ≤ n.luns
  pub luns_high : n.luns ≤ 8
  pub blocks_low : 3 ≤ n.blocks
  pub blocks_high : n.blocks ≤ 4096
  pub whole_luns : n.blocks % n.luns ≡ 0
  pub pages_low : 1 ≤ n.pages
  pub pages_high : n.pages ≤ 16384
  pub words_low : 1 ≤ n.words
  pub words_high : n.words ≤ 512
  pub sectors_low : 1 ≤ n.sectors
  pub sectors_high : n.sectors ≤ 1048576
  pub endurance_low : 1 ≤ n.endurance
  pub endurance_high : n.endurance ≤ 1000000
  pub hosts_high : n.hosts ≤ 500
  pub brooms_high : n.brooms ≤ 32
  pub lone : n.hosts ≡ 0 → n.brooms ≡ 0
  pub table : table_words_of n.blocks n.pages n.words n.sectors ≤ 16777216
  pub one_thread : n.hosts ≡ 0 → n.sectors < (n.blocks - 1) * n.pages
  pub shared_blocks : 0 < n.hosts → n.hosts + 2 * n.brooms < n.blocks
  pub shared_space : 0 < n.hosts → n.sectors ≤ (n.blocks - (n.hosts + 2 * n.brooms)) * n.pages

-- the name of a fault, as it is printed
abbrev pub fault_name : GeometryFault → List ℕ
fault_name fault.Luns = codes "Luns"
fault_name fault.Blocks = codes "Blocks"
fault_name fault.Pages = codes "Pages"
fault_name fault.Words = codes "Words"
fault_name fault.Sectors = codes "Sectors"
fault_name fault.Endurance = codes "Endurance"
fault_name fault.Passes = codes "Passes"
fault_name fault.TooManyWords = codes "TooManyWords"
fault_name fault.TooFewBlocks = codes "TooFewBlocks"
