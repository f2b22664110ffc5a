use Rattle.std.proofs.Common.{◌<◌, ◌/◌, ◌%◌, ◌^◌, ℕ, List, length, get_or, sym, ◌∙◌, ap, ap₂, arith}
use Rattle.packed_map.specs.Parts.{byte_at}
use Rattle.packed_map.proofs.Parts.{length_values, values_get}
use Rattle.packed_map.proofs.bytes.SparseBytes.get.Goals as goal

pub get-requires : goal.get-requires
get-requires c =
    let b = c.self.inside in
    omega (arith, c.requires, ap length c.self.view_is, length_values (byte_at b.words) b.len, c.self.invariant)

pub returns : goal.returns
returns c =
    let b = c.self.inside in
    let within : c.args.index < b.len = omega (arith, c.requires, ap length c.self.view_is, length_values (byte_at b.words) b.len) in
    ap₂ (λ (w : ℕ) (s : ℕ). w / 2 ^ s % 256) c.get.ensures c.shift.ensures
    ∙ sym (values_get (byte_at b.words) b.len c.args.index within) ∙ ap (λ (xs : List ℕ). get_or xs c.args.index 0) c.self.view_is
