use Rattle.std.proofs.Common.{◌∙◌, sym, ap, arith}
use Rattle.die.{specs.declared.die.BlockState.BlockState, proofs.Dies.state_read, proofs.Dies.length-block}
use Rattle.die.proofs.die.Die.next.Goals as goal

pub returns-clause-value : goal.returns-clause-value
returns-clause-value c =
    ap (λ (s : BlockState). s.next) (state_read c.args.self.now c.args.block c.index.result.now c.requires c.index.ensures)
    ∙ sym (length-block c.args.self.now c.args.block)

pub returns-clause-within : goal.returns-clause-within
returns-clause-within c =
    let s = state_read c.args.self.now c.args.block c.index.result.now c.requires c.index.ensures in
    omega (arith, ap (λ (s : BlockState). s.next) s, (c.args.self.now.sound c.args.block c.requires).within)
