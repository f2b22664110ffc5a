use Rattle.std.proofs.Common.{Bool, subst, sym}
use Rattle.geometry.specs.declared.answer.Was.TheVariants as was
use Rattle.flash_table.specs.Flash.{view_of}
use Rattle.host.specs.Told.{Programmed}
use Rattle.workers.specs.Playable.{write_call}
use Rattle.workers.proofs.worker.plays.try_write.Goals as goal

pub returns-in-Ok-clause-wrote : goal.returns-in-Ok-clause-wrote
returns-in-Ok-clause-wrote g c t role =
    subst (λ (b : Bool). Programmed (view_of c.args.pass.now) (write_call b t c.args.sector c.args.bytes.now) c.args.sector was.Empty
    (view_of c.write_new_gated.new.pass)) (sym c.if-only_new.true) (c.in-Ok.ensures.wrote t role)

pub returns-in-Err-Written-clause-wrote : goal.returns-in-Err-Written-clause-wrote
returns-in-Err-Written-clause-wrote g c t role =
    let wrote = rw c.in-Err-Written.field-0-is at c.in-Err-Written.ensures.wrote in
    subst (λ (b : Bool). Programmed (view_of c.args.pass.now) (write_call b t c.args.sector c.args.bytes.now) c.args.sector was.Written
    (view_of c.write_new_gated.new.pass)) (sym c.if-only_new.true) (wrote t role)

pub returns-in-Ok-write_gated-clause-wrote : goal.returns-in-Ok-write_gated-clause-wrote
returns-in-Ok-write_gated-clause-wrote g c t role =
    subst (λ (b : Bool). Programmed (view_of c.args.pass.now) (write_call b t c.args.sector c.args.bytes.now) c.args.sector c.in-Ok-write_gated.was
    (view_of c.write_gated.new.pass)) (sym c.if-only_new.false) (c.in-Ok-write_gated.ensures.wrote t role)
