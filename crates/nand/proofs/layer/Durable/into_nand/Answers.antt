use Rattle.nand.proofs.Steps.{left_open}
use Rattle.nand.proofs.layer.Durable.into_nand.Goals as goal

pub returns-clause-left : goal.returns-clause-left
returns-clause-left g c updates is = left_open g.N.Nand.flash g.N.Nand.shape g.N.Nand.bad c.args.self updates is
