use Rattle.std.proofs.Common.{◌≤◌, ◌⊎◌, inl, inr, [], codes, arith}
use Rattle.std.proofs.lemmas.List.Elements.{All-cons, All-nil}
use Rattle.trace.specs.Stored.{line_of_write, placed, IsKept}
use Rattle.trace.proofs.Examples.{data-0a, first_kept, no_data-0g, no_data-none, second_kept}
use Rattle.trace.proofs.laws.commands_that_are_kept.Goals as goal

pub returns-clause-in_text : goal.returns-clause-in_text
returns-clause-in_text c =
    let kept = IsKept (codes "0a") [] 1 in
    record {
      kept = All-cons kept (placed line_of_write 0) [] (record { within = omega arith; whole = inl (omega arith); fits = data-0a }) (All-nil kept);
      few = omega arith;
    }

pub returns-clause-after_text : goal.returns-clause-after_text
returns-clause-after_text c =
    let kept = IsKept [] (codes "0a") 1 in
    record {
      kept = All-cons kept (placed line_of_write 0) [] (record { within = omega arith; whole = inr (omega arith); fits = data-0a }) (All-nil kept);
      few = omega arith;
    }

pub returns-clause-past_end : goal.returns-clause-past_end
returns-clause-past_end c h =
    let within : 3 ≤ 2 = (first_kept (codes "0a") [] 1 (placed line_of_write 1) [] h).within in
    omega (arith, within)

pub returns-clause-across : goal.returns-clause-across
returns-clause-across c h =
    let whole : (2 ≤ 1) ⊎ (1 ≤ 0) = (first_kept (codes "0") (codes "a") 1 (placed line_of_write 0) [] h).whole in
    elim whole [ inl text ↦ omega (arith, text) | inr odd ↦ omega (arith, odd) ]

pub returns-clause-no_digit : goal.returns-clause-no_digit
returns-clause-no_digit c h = no_data-0g 1 (first_kept (codes "0g") [] 1 (placed line_of_write 0) [] h).fits

pub returns-clause-too_long : goal.returns-clause-too_long
returns-clause-too_long c h = no_data-none (first_kept (codes "0a") [] 0 (placed line_of_write 0) [] h).fits

pub returns-clause-second : goal.returns-clause-second
returns-clause-second c h =
    let within : 3 ≤ 2 = (second_kept (codes "0a") [] 1 (placed line_of_write 0) (placed line_of_write 1) [] h).within in
    omega (arith, within)
