use Rattle.packed_map.proofs.Parts.{joined_zeros}
use Rattle.packed_map.proofs.numbers.SparseNumbers.new.Goals as goal

pub returns : goal.returns
returns c = joined_zeros _ _ _ c.args.len c.in_ok-new.ensures c.in_ok-new-2.ensures c.in_ok-new-3.ensures
