use Rattle.std.proofs.Common.{◌∙◌, sym, ap}
use Rattle.ftl_one.{specs.OneFtl.geometry_of, specs.Stock.Block, proofs.Layers.block_at-stock}
use Rattle.ftl_one.proofs.one_ftl.OneFtl.erases.Goals as goal

pub returns : goal.returns
unfolding geometry_of
returns c = c.erases.ensures ∙ sym (ap (λ (b : Block). b.erases) (block_at-stock c.args.self.now c.args.block c.requires))
