use Rattle.std.proofs.Common.{◌≡◌, ◌<◌, ◌≤◌, ℕ, true, length, get_or}
use Rattle.hex.specs.Hex.{is_hex_digit}
use Rattle.text.proofs.digits.digits_end.Given as goal

-- digits alone came so far
abbrev pub invariant-near : goal.invariant-near
invariant-near l = record {
  low : l.start ≤ l.at;
  high : l.at ≤ length l.text;
  digits : (k : ℕ) → l.start ≤ k → k < l.at → is_hex_digit (get_or l.text k 0) ≡ true;
}
