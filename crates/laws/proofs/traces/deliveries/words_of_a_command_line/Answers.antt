use Rattle.std.proofs.Common.{◌≡◌, ℕ, List, [], ◌∷◌, length, refl, sym, ap, ◌∙◌, arith, Ok}
use Rattle.laws.proofs.PlayedLines.{d}
use Rattle.hex.specs.Hex.{decode_of}
use Rattle.text.specs.Digits.{bytes_of}
use Rattle.laws.proofs.traces.deliveries.words_of_a_command_line.Goals as goal

written : (text : List ℕ) → decode_of text ≡ Ok (10 ∷ []) → bytes_of text ≡ 10 ∷ []
unfolding bytes_of
written text is = rw is refl

pub returns-clause-answer_line : goal.returns-clause-answer_line
returns-clause-answer_line c l none = rw (none, d 3 refl, d 5 refl) refl

pub returns-clause-met : goal.returns-clause-met
returns-clause-met c l = rw (d 3 refl, d 5 refl) refl

pub returns-clause-digits : goal.returns-clause-digits
returns-clause-digits c text is = written text is

pub returns-clause-data : goal.returns-clause-data
returns-clause-data c text is long =
    let b = written text is in (
      record { bytes = is ∙ ap Ok (sym b); count = omega (arith, long, ap length b); fits = omega (arith, ap length b) },
      λ h. omega (arith, h.fits, ap length b),
    )
