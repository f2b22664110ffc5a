use Rattle.std.proofs.Common.{◌<◌, ◌%◌, ℕ, List, length, set, ◌∙◌, ap, ap₂, arith}
use Rattle.packed_map.specs.Parts.{joined_at, values_of}
use Rattle.packed_map.proofs.Parts.{joined_set, length_values}
use Rattle.packed_map.proofs.numbers.SparseNumbers.set.Goals as goal

pub set-requires : goal.set-requires
set-requires c =
    let n = c.self.inside in
    omega (arith, c.requires, ap length c.self.view_is, length_values (joined_at n.low n.middle n.high) (length n.low))

pub set-requires-2 : goal.set-requires-2
set-requires-2 c =
    let n = c.self.inside in
    omega (arith, c.requires, ap length c.self.view_is, length_values (joined_at n.low n.middle n.high) (length n.low), c.self.invariant.middle)

pub set-requires-3 : goal.set-requires-3
set-requires-3 c =
    let n = c.self.inside in
    omega (arith, c.requires, ap length c.self.view_is, length_values (joined_at n.low n.middle n.high) (length n.low), c.self.invariant.high)

pub returns : goal.returns
returns c =
    let n = c.self.inside in
    let i = c.args.index in
    let low = set n.low i (c.args.number % 4294967296) in
    let within : i < length n.low = omega (arith, c.requires, ap length c.self.view_is, length_values (joined_at n.low n.middle n.high) (length n.low)) in
    ap (λ (xs : List ℕ). values_of (joined_at xs c.set-2.new.self c.set-3.new.self) (length xs)) c.set.ensures
    ∙ ap₂ (λ (middle : List ℕ) (high : List ℕ). values_of (joined_at low middle high) (length low)) c.set-2.ensures c.set-3.ensures
    ∙ joined_set n.low n.middle n.high i c.args.number within c.self.invariant.middle c.self.invariant.high
    ∙ ap (λ (xs : List ℕ). set xs i c.args.number) c.self.view_is
