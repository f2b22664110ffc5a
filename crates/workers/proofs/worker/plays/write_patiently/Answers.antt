use Rattle.std.proofs.Common.{◌∙◌, ap, arith}
use Rattle.flash_rule.specs.declared.view.View.{View}
use Rattle.flash_table.specs.Flash.{view_of}
use Rattle.workers.proofs.OneLine.{a_write, full_line, write_line}
use Rattle.workers.proofs.worker.plays.write_patiently.Goals as goal

pub returns-in-Some-clause-played : goal.returns-in-Some-clause-played
returns-in-Some-clause-played g c t role =
    let waited = c.loop-tried.invariant.1 in
    let now = ap (λ (v : View). v.role) waited.changed ∙ role in
    write_line _ _ (a_write c.args.only_new) t c.args.patience c.loop-tried.tried (view_of c.args.pass.now) (view_of c.loop-tried.pass)
    (view_of c.try_write.new.pass) c.args.sector c.args.bytes.now c.args.bytes.now c.in-Some.was c.of_was.result
    c.loop-tried.pass.opened c.loop-tried.pass.owns c.loop-tried-test.true waited (c.in-Some.ensures.wrote t now) c.of_was.ensures

pub returns-clause-played : goal.returns-clause-played
returns-clause-played g c t role =
    full_line _ _ (a_write c.args.only_new) t c.args.patience c.loop-tried.tried (view_of c.args.pass.now) c.args.sector c.args.bytes.now c.args.bytes.now
    (view_of c.loop-tried.pass) (let past = c.loop-tried-test.false in let few = c.loop-tried.invariant.2 in omega arith) c.loop-tried.invariant.1
