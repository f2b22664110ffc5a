use Rattle.std.proofs.Common.{◌<◌, ℕ, List, length, get_or, ap, arith}
use Rattle.packed_map.specs.Parts.{joined_at}
use Rattle.packed_map.proofs.Parts.{length_values, values_get}
use Rattle.packed_map.proofs.numbers.SparseNumbers.get.Goals as goal

pub get-requires : goal.get-requires
get-requires c =
    let n = c.self.inside in
    omega (arith, c.requires, ap length c.self.view_is, length_values (joined_at n.low n.middle n.high) (length n.low), c.self.invariant.high)

pub get-requires-2 : goal.get-requires-2
get-requires-2 c =
    let n = c.self.inside in
    omega (arith, c.requires, ap length c.self.view_is, length_values (joined_at n.low n.middle n.high) (length n.low), c.self.invariant.middle)

pub get-requires-3 : goal.get-requires-3
get-requires-3 c =
    let n = c.self.inside in
    omega (arith, c.requires, ap length c.self.view_is, length_values (joined_at n.low n.middle n.high) (length n.low))

pub returns : goal.returns
returns c =
    let n = c.self.inside in
    let number = joined_at n.low n.middle n.high in
    let within : c.args.index < length n.low = omega (arith, c.requires, ap length c.self.view_is, length_values number (length n.low)) in
    omega (
      arith,
      c.from.ensures,
      c.get.ensures,
      c.from-2.ensures,
      c.get-2.ensures,
      c.from-3.ensures,
      c.get-3.ensures,
      values_get number (length n.low) c.args.index within,
      ap (λ (xs : List ℕ). get_or xs c.args.index 0) c.self.view_is,
    )
