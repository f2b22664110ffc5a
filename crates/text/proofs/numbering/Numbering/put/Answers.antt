use Rattle.std.proofs.Common.{◌≡◌, ◌+◌, ◌-◌, ◌/◌, ◌%◌, ◌<◌, ◌≤◌, ap, ◌∙◌, arith}
use Rattle.std.specs.Fmt.{decimal}
use Rattle.text.{specs.Putting.four_digits, proofs.Numbers.decimal_parts, proofs.Places.Puts-as, proofs.Places.Puts-byte, proofs.Places.Puts-then}
use Rattle.text.proofs.numbering.Numbering.put.Goals as goal
use Rattle.text.proofs.numbering.Numbering.put.Goals.{then-number-self, else-number-self+else-number-self-ge-STEP}

pub returns-clause-placed : goal.returns-clause-placed
returns-clause-placed c =
    let s = c.if-number-self.self in
    let near : (s.from ≤ c.args.number) × (c.args.number < s.from + 10000) = elim c.if-number-self.branch [
      | then-number-self w ↦ rw w.self-is w.turn_to.ensures
      | else-number-self+else-number-self-ge-STEP w ↦ let low = w.if-number-self.false in let high = w.if-number-self-ge-STEP.false in
          rw w.self-is (omega arith, omega arith)
    ] in
    let whole = s.whole in
    let first : s.from / 10000 ≡ c.args.number / 10000 = omega (arith, near.0, near.1) in
    let last : c.args.number - s.from ≡ c.args.number % 10000 = omega (arith, near.0, near.1) in
    let front = Puts-as (s.digits_of ∙ ap decimal first) c.put_short-middle.ensures.placed in
    let four = Puts-as (ap four_digits last) c.put_four.ensures in
    let digits = Puts-as (decimal_parts c.args.number (omega (arith, c.if-number-lt-STEP.false)) c.ranges.number.fits) (Puts-then front four) in
    let end = c.put_short-middle.ensures.end in
    let same = c.put_short-middle.ensures.placed.len in
    let still = c.put_four.ensures.len in Puts-then digits (Puts-byte c.put_four.new.buffer (c.put_short-middle.result + 4) 44 (omega (arith, c.requires)))
