use Rattle.std.proofs.Common.{arith}
use Rattle.std.proofs.lemmas.Grind.{common_steps}
use Rattle.std.proofs.lemmas.List.{map-set}
use Rattle.packed_map.specs.Entries.{entry_of}
use Rattle.packed_map.proofs.packed_map.PackedMap.set.Goals as goal

pub returns : goal.returns
returns c = rw (← c.self.view_is) (grind (arith, common_steps, map-set entry_of c.self.inside.entries c.args.sector c.pack.result))
