use Rattle.std.proofs.Common.{◌≡◌, ◌%◌, ◌<◌, ℕ, List, length, get_or, ◌∙◌, sym, ap, arith, subst}
use Rattle.packed_map.specs.Finding.{Finds}
use Rattle.packed_map.specs.Parts.{joined_at}
use Rattle.packed_map.proofs.Parts.{length_values, values_get}
use Rattle.packed_map.proofs.numbers.SparseNumbers.find.Goals as goal

pub find-requires-clause-within : goal.find-requires-clause-within
find-requires-clause-within c =
    let n = c.self.inside in
    (c.requires.within.0, omega (arith, c.requires.within, ap length c.self.view_is, length_values (joined_at n.low n.middle n.high) (length n.low)))

pub returns-in-None : goal.returns-in-None
returns-in-None c = λ i le lt is.
    let n = c.self.inside in
    let number = joined_at n.low n.middle n.high in
    let within : i < length n.low = omega (arith, lt, c.requires.within, ap length c.self.view_is, length_values number (length n.low)) in
    let joined = ap (λ (xs : List ℕ). get_or xs i 0) (sym c.self.view_is) ∙ values_get number (length n.low) i within in
    subst (Finds (λ j. get_or n.low j 0 % 4294967296 ≡ c.args.number % 4294967296) c.args.first c.args.end) c.in-None.is c.find.ensures i le lt
    (omega (arith, joined, is))
