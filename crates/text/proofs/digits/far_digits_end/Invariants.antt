use Rattle.std.proofs.Common.{◌≡◌, ◌-◌, ◌<◌, ◌≤◌, ℕ, true, length, get_or}
use Rattle.hex.specs.Hex.{is_hex_digit}
use Rattle.text.proofs.digits.far_digits_end.Given as goal

-- digits alone came so far
abbrev pub invariant-wide : goal.invariant-wide
invariant-wide l = record {
  low : l.start ≤ l.at;
  high : l.at ≤ length l.text;
  digits : (k : ℕ) → l.start ≤ k → k < l.at → is_hex_digit (get_or l.text k 0) ≡ true;
}

abbrev pub decreases-wide : goal.decreases-wide
decreases-wide l = length l.text - l.at

abbrev pub invariant-blocks-2 : goal.invariant-blocks-2
invariant-blocks-2 l = record {
  low : l.start ≤ l.at;
  high : l.at ≤ length l.text;
  digits : (k : ℕ) → l.start ≤ k → k < l.at → is_hex_digit (get_or l.text k 0) ≡ true;
}

abbrev pub decreases-blocks-2 : goal.decreases-blocks-2
decreases-blocks-2 l = length l.text - l.at

abbrev pub invariant-bytes : goal.invariant-bytes
invariant-bytes l = (k : ℕ) → l.start ≤ k → k < l.end → is_hex_digit (get_or l.text k 0) ≡ true
