use Rattle.std.proofs.Common.{◌∙◌, ap}
use Rattle.flash_rule.specs.declared.view.View.{View}
use Rattle.flash_table.specs.{Flash.view_of, Steps.HasNumber}
use Rattle.uses.proofs.Rereadings.{read_behind}
use Rattle.uses.proofs.rereading.write_and_read.Goals as goal

pub returns-clause-behind : goal.returns-clause-behind
returns-clause-behind c t number =
    let wrote = c.in_ok-write.ensures.correct t number in
    let still : HasNumber t c.write.new.pass = ap (λ (v : View). v.role) (c.in_ok-write.ensures.wrote t number).changed ∙ number in
    read_behind _ t c.args.sector c.args.value.now _ c.read.result.got c.args.out.now c.read.new.out (view_of c.args.pass.now)
    (view_of c.write.new.pass) (view_of c.read.new.pass) wrote (c.read.ensures.correct t still)
