use Rattle.std.proofs.Common.{◌==◌, ◌%◌, ◌^◌, ◌<◌, ◌≤◌, ℕ, sym, ap, arith}
use Rattle.std.proofs.Math.Nat.{div-eq_of_lt}
use Rattle.std.proofs.Math.Pow.{pow_mono}
use Rattle.nand.proofs.chip.has_bit.Goals as goal

pub returns-then-bit-ge64 : goal.returns-then-bit-ge64
returns-then-bit-ge64 c =
    let more : 2 ^ 64 ≤ 2 ^ c.args.bit = pow_mono c.if-bit-ge64.true in
    let less : c.args.mask < 2 ^ c.args.bit = omega (arith, more, c.ranges.mask.fits) in
    sym (ap (λ (q : ℕ). q % 2 == 1) (div-eq_of_lt less))
