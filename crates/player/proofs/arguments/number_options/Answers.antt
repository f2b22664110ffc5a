use Rattle.std.proofs.{Common.◌∙◌, Common.ap, Common.arith, Common.fold, lemmas.List.take_all}
use Rattle.clap.specs.Words.{app_of, with_rule}
use Rattle.player.{specs.CommandLine.versioned, specs.CommandLine.with_number, proofs.CommandLines.next_number}
use Rattle.player.proofs.arguments.number_options.Goals as goal

pub numbers-preserved : goal.numbers-preserved
numbers-preserved c =
    next_number _ c.numbers.number-index _ _ (app_of c.numbers.command) (app_of c.in_ok-command.command) c.numbers-test.true c.numbers.invariant
    (c.in_ok-command.ensures.shape c.option.ensures.local ∙ ap (with_rule (app_of c.numbers.command)) c.option.ensures.rule)

pub returns : goal.returns
returns c = c.numbers.invariant ∙ ap (fold with_number versioned) (take_all c.numbers.number-index _ (omega arith))
