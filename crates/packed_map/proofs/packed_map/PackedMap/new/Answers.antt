use Rattle.std.proofs.Common.{◌∙◌, ℕ, List, ap, map}
use Rattle.packed_map.specs.Entries.{entry_of}
use Rattle.packed_map.proofs.Entries.{map_entry_of-zeros}
use Rattle.packed_map.proofs.packed_map.PackedMap.new.Goals as goal

pub returns : goal.returns
returns c = ap (λ (xs : List ℕ). map entry_of xs) c.in_ok-new.ensures ∙ map_entry_of-zeros c.args.sectors
