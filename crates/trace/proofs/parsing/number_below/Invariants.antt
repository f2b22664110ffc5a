use Rattle.std.{proofs.Common.◌≡◌, proofs.Common.◌^◌, proofs.Common.◌<◌, proofs.Common.drop, specs.Str.all_ascii_digits}
use Rattle.std.specs.Str.Parse.{digits_value, digits_value_after}
use Rattle.trace.proofs.parsing.number_below.Given as goal

-- the number is that of the digits so far, and nothing but digits came
abbrev pub invariant-loop-digit : goal.invariant-loop-digit
invariant-loop-digit l = record {
  value : digits_value 10 l.text ≡ digits_value_after 10 l.number (drop l.digit-index l.text);
  digits : all_ascii_digits l.text ≡ all_ascii_digits (drop l.digit-index l.text);
  small : l.number < 10 ^ l.digit-index;
}
