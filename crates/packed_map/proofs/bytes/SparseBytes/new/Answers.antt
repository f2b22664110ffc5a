use Rattle.std.proofs.Common.{◌+◌, ◌/◌, ◌∙◌, ℕ, List, ap}
use Rattle.packed_map.specs.Parts.{byte_at, values_of}
use Rattle.packed_map.proofs.Parts.{values_zero}
use Rattle.packed_map.proofs.BytesOfWords.{bytes_zero}
use Rattle.packed_map.proofs.bytes.SparseBytes.new.Goals as goal

pub returns : goal.returns
returns c =
    ap (λ (words : List ℕ). values_of (byte_at words) c.args.len) c.in_ok-new.ensures
    ∙ values_zero (byte_at _) c.args.len (bytes_zero (c.args.len / 4 + 1))
