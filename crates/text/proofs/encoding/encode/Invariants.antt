use Rattle.std.proofs.Common.{◌≡◌, ◌*◌, ◌-◌, ◌≤◌, length, take}
use Rattle.hex.specs.Hex.{encode_lower}
use Rattle.text.proofs.encoding.encode.Given as goal

abbrev pub invariant-blocks-2 : goal.invariant-blocks-2
invariant-blocks-2 l = (l.at ≤ length l.bytes) × (length l.digits ≡ 2 * length l.bytes) × (take (2 * l.at) l.digits ≡ encode_lower (take l.at l.bytes))

abbrev pub decreases-blocks-2 : goal.decreases-blocks-2
decreases-blocks-2 l = length l.bytes - l.at
