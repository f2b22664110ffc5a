use Rattle.std.{proofs.Common.◌≡◌, proofs.Common.take, specs.Prelude.fold, specs.Prelude.bit_xor}
use Rattle.crc32c.specs.Crc.{with_byte}
use Rattle.crc32c.proofs.crc.extend.Given as goal

abbrev pub invariant-loop-byte : goal.invariant-loop-byte
invariant-loop-byte l = l.remainder ≡ fold with_byte (bit_xor l.crc 4294967295) (take l.byte-index l.bytes)
