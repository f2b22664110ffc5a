use Rattle.std.proofs.{Common.get_or, Common.arith, lemmas.Grind.common_steps}
use Rattle.crc32c.proofs.Remainders.{by_table}
use Rattle.crc32c.proofs.crc.extend.Goals as goal

pub loop-byte-preserved : goal.loop-byte-preserved
loop-byte-preserved c = let h = by_table c.loop-byte.remainder (get_or c.args.bytes.now c.loop-byte.byte-index 0) (omega (
  arith,
  c.type_inv.bytes c.loop-byte.byte-index,
)) in grind (arith, common_steps, h)
