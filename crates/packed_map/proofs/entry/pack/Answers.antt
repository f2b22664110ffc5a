use Rattle.std.proofs.Common.{◌∙◌, sym, arith}
use Rattle.std.proofs.lemmas.Grind.{common_steps}
use Rattle.packed_map.proofs.Entries.{entry_of_page, entry_of_zero}
use Rattle.packed_map.proofs.entry.pack.Goals as goal

pub returns-in-Some : goal.returns-in-Some
returns-in-Some c = entry_of_page _ c.in-Some.at (grind (arith, common_steps)) (grind (arith, common_steps)) ∙ sym c.in-Some.is

pub returns-in-None : goal.returns-in-None
returns-in-None c = entry_of_zero ∙ sym c.in-None.is
