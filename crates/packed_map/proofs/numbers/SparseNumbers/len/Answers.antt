use Rattle.std.proofs.Common.{length, sym, ◌∙◌, ap}
use Rattle.packed_map.specs.Parts.{joined_at}
use Rattle.packed_map.proofs.Parts.{length_values}
use Rattle.packed_map.proofs.numbers.SparseNumbers.len.Goals as goal

pub returns : goal.returns
returns c =
    let n = c.self.inside in
    c.len.ensures ∙ sym (ap length (sym c.self.view_is) ∙ length_values (joined_at n.low n.middle n.high) (length n.low))
