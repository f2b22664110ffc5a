use Rattle.std.proofs.Common.{◌≡◌, ◌+◌, ◌-◌, ◌≤◌, ℕ, List, length, drop, get_or, take, arith, subst, length-drop}
use Rattle.std.proofs.lemmas.List.{take_all}
use Rattle.ftl_one.specs.Collections.{IsLeast, IsFirst}
use Rattle.ftl_one.proofs.Choosing.{fewest_below, fewest_above, min_either}
use Rattle.ftl_one.proofs.fewest.fewest_beside.Goals as goal

-- the counts from a place on
rest : (counts : List ℕ) (from : ℕ) → take (length counts - from) (drop from counts) ≡ drop from counts
rest counts from = take_all (length counts - from) (drop from counts) (omega (arith, length-drop from counts))

pub returns-then-place-below : goal.returns-then-place-below
returns-then-place-below c =
    let counts = c.args.counts.now in
    let fits : (k : ℕ) → get_or counts k 0 ≤ 65535 = λ k. omega (arith, (c.type_inv.counts k).fits) in
    let above = subst (λ (xs : List ℕ). IsLeast xs (length xs) c.least_of-2.result) (rest counts (c.args.left_out + 1)) c.least_of-2.ensures in
    fewest_below counts c.args.left_out c.least_of.result c.least_of-2.result c.min-least.result c.requires.left_out c.requires.others fits
    c.least_of.ensures above
    (omega (arith, c.min-least.ensures), omega (arith, c.min-least.ensures))
    (min_either c.least_of.result c.least_of-2.result c.min-least.result c.min-least.ensures)
    c.first_of-place.result c.if-place-below.true c.first_of-place.ensures

pub returns : goal.returns
returns c =
    let counts = c.args.counts.now in
    let fits : (k : ℕ) → get_or counts k 0 ≤ 65535 = λ k. omega (arith, (c.type_inv.counts k).fits) in
    let above = subst (λ (xs : List ℕ). IsLeast xs (length xs) c.least_of-2.result) (rest counts (c.args.left_out + 1)) c.least_of-2.ensures in
    let first = subst (λ (xs : List ℕ). IsFirst xs c.min-least.result c.first_of.result) (rest counts (c.args.left_out + 1)) c.first_of.ensures in
    fewest_above counts c.args.left_out c.least_of.result c.least_of-2.result c.min-least.result c.requires.left_out c.requires.others fits
    c.least_of.ensures above
    (omega (arith, c.min-least.ensures), omega (arith, c.min-least.ensures))
    (min_either c.least_of.result c.least_of-2.result c.min-least.result c.min-least.ensures)
    c.first_of-place.result c.first_of.result c.if-place-below.false c.first_of-place.ensures first
