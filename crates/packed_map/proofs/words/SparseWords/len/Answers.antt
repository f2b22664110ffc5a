use Rattle.std.proofs.Common.{length, sym, ◌∙◌, ap}
use Rattle.packed_map.specs.Groups.{number_at}
use Rattle.packed_map.proofs.Parts.{length_values}
use Rattle.packed_map.proofs.words.SparseWords.len.Goals as goal

pub returns : goal.returns
returns c = sym (ap length (sym c.self.view_is) ∙ length_values (number_at c.self.inside.places.items c.self.inside.kept.items) c.self.inside.len)
