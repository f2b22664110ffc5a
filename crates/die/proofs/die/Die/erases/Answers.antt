use Rattle.std.proofs.Common.{◌∙◌, sym, ap, arith}
use Rattle.die.{specs.declared.die.BlockState.BlockState, proofs.Dies.state_read, proofs.Dies.erases-block, proofs.Dies.erases_below}
use Rattle.die.proofs.die.Die.erases.Goals as goal

pub returns-clause-value : goal.returns-clause-value
returns-clause-value c =
    ap (λ (s : BlockState). s.erases) (state_read c.args.self.now c.args.block c.index.result.now c.requires c.index.ensures)
    ∙ sym (erases-block c.args.self.now c.args.block)

pub returns-clause-usable : goal.returns-clause-usable
returns-clause-usable c =
    λ usable.
    let s = state_read c.args.self.now c.args.block c.index.result.now c.requires c.index.ensures in
    omega (
      arith,
      ap (λ (s : BlockState). s.erases) s,
      erases-block c.args.self.now c.args.block,
      erases_below c.args.self.now c.args.block c.requires usable.not_retired,
    )
