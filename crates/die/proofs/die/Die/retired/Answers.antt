use Rattle.std.proofs.{Common.◌≡◌, Common.◌∙◌, Common.sym, Common.ap, Common.arith, lemmas.Grind.common_steps}
use Rattle.die.{specs.Die.block_of, specs.declared.die.BlockState.BlockState, proofs.Dies.state_read, proofs.Dies.retired-block}
use Rattle.die.proofs.die.Die.retired.Goals as goal

pub returns : goal.returns
returns c =
    let is : c.index.result.now.retired ≡ (block_of c.args.self.now c.args.block).retired =
    ap (λ (s : BlockState). s.retired) (state_read c.args.self.now c.args.block c.index.result.now c.requires c.index.ensures)
    ∙ sym (retired-block c.args.self.now c.args.block) in
    grind (arith, common_steps, is)
