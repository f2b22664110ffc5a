use Rattle.ftl_one.proofs.Entries.{named_of}
use Rattle.ftl_one.proofs.map_entry.MapEntry.of.Goals as goal

pub returns : goal.returns
returns c = named_of c.args.at c.requires.block c.requires.page
