use Rattle.std.proofs.Common.{◌≡◌, ◌-◌, ◌*◌, ◌≤◌, length}
use Rattle.text.proofs.Chunks.{AreDecoded}
use Rattle.text.proofs.digits.decode.Given as goal

-- the bytes so far are those of the digits so far
abbrev pub invariant-blocks-2 : goal.invariant-blocks-2
invariant-blocks-2 l = (l.at ≤ length l.out) × (length l.digits ≡ 2 * length l.out) × AreDecoded l.digits l.out l.at

abbrev pub decreases-blocks-2 : goal.decreases-blocks-2
decreases-blocks-2 l = length l.out - l.at

abbrev pub invariant-bytes : goal.invariant-bytes
invariant-bytes l = (length l.digits ≡ 2 * length l.out) × AreDecoded l.digits l.out l.i
