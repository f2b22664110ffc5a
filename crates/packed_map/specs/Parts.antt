-- Numbers by their parts: bytes in numbers of 32 bits, and these in numbers of 64 bits.
use Rattle.std.specs.Prelude.{ℕ, zero, suc, ◌+◌, ◌*◌, ◌/◌, ◌%◌, ◌^◌, ◌++◌, List, [], ◌∷◌, slice_index_or}

-- what a function gives for 0, 1 and so on, so many values
unfoldable pub values_of : (ℕ → ℕ) → ℕ → List ℕ
values_of f zero = []
values_of f (suc n) = values_of f n ++ (f n ∷ [])

-- the byte at an index, of numbers with four bytes each, the lowest first
abbrev pub byte_at : List ℕ → ℕ → ℕ
byte_at words i = slice_index_or words (i / 4) 0 / 2 ^ (8 * (i % 4)) % 256

-- the number at an index: its low 32 bits, the next 8, and the others
abbrev pub joined_at : List ℕ → List ℕ → List ℕ → ℕ → ℕ
joined_at low middle high i = slice_index_or high i 0 * 1099511627776 + slice_index_or middle i 0 * 4294967296 + slice_index_or low i 0
