use Rattle.ftl_one.{specs.OneFtl.geometry_of, specs.OneFtl.array_of, proofs.Stores.length-sectors_of}
use Rattle.ftl_one.proofs.one_ftl.OneFtl.geometry.Goals as goal

pub returns-clause-sectors : goal.returns-clause-sectors
unfolding geometry_of array_of
returns-clause-sectors c = length-sectors_of c.args.self.now.store
