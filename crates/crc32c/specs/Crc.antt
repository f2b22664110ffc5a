-- CRC-32C by polynomials over GF(2). A polynomial of degree 31 at most is a number below 2^32: bit i is the coefficient of x^(31 - i).
use Rattle.std.specs.Prelude.{ℕ, ◌/◌, ◌%◌, ◌==◌, if◌then◌else◌, List, fold, bit_xor}

-- Castagnoli's generator without its first term: x^28 + x^27 + x^26 + x^25 + x^23 + x^22 + x^20 + x^19 + x^18 + x^14 + x^13 + x^11 + x^10 + x^9 + x^8 + x^6 + 1
abbrev pub generator : ℕ
generator = 0x82f6_3b78

-- the polynomial times x, modulo the generator
unfoldable pub times_x : ℕ → ℕ
times_x p = bit_xor (p / 2) (if p % 2 == 1 then generator else 0)

-- the polynomial times x^8, modulo the generator
unfoldable pub times_x8 : ℕ → ℕ
times_x8 p = times_x (times_x (times_x (times_x (times_x (times_x (times_x (times_x p)))))))

-- the remainder with one more byte behind the message, whose lowest bit is the first coefficient
unfoldable pub with_byte : ℕ → ℕ → ℕ
with_byte p byte = times_x8 (bit_xor p byte)

-- the CRC-32C after more bytes: remainders are complemented
abbrev pub extended : ℕ → List ℕ → ℕ
extended crc bytes = bit_xor (fold with_byte (bit_xor crc 0xffff_ffff) bytes) 0xffff_ffff

-- the CRC-32C of the bytes: of none it is 0
abbrev pub crc32c_of : List ℕ → ℕ
crc32c_of bytes = extended 0 bytes
