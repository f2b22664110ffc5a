use Rattle.std.proofs.Common.{Some}
use Rattle.durable.specs.Updates.{sole}
use Rattle.nand.specs.Opened.{update_of}
use Rattle.nand.specs.declared.failure.Failure.TheVariants as failure
use Rattle.nand.proofs.Steps.{fails_after, fails_open, if_err, if_ok, marked_after, not_failed, not_lost}
use Rattle.nand.proofs.Steps.{once_after}
use Rattle.nand.proofs.layer.Durable.write_new.Goals as goal

pub returns-in-Ok-Empty-clause-fails : goal.returns-in-Ok-Empty-clause-fails
returns-in-Ok-Empty-clause-fails g c updates is = if_err c.update.result (λ cause fails. fails_after c.in-Ok-Empty.ensures.looks fails)
    (c.update.ensures.fails updates (c.was.ensures.looks.opens updates is))

pub returns-in-Ok-Empty-clause-marks : goal.returns-in-Ok-Empty-clause-marks
returns-in-Ok-Empty-clause-marks g c =
    if_ok c.update.result (λ marked updates is. marked_after c.in-Ok-Empty.ensures.looks c.update.new.self
    (marked updates (c.was.ensures.looks.opens updates is))) c.update.ensures.marks

pub returns-in-Ok-Empty-clause-once : goal.returns-in-Ok-Empty-clause-once
returns-in-Ok-Empty-clause-once g c updates is =
    if_ok c.update.result (λ once. once_after c.in-Ok-Empty.ensures.looks c.update.new.self (update_of (sole c.args.sector) (Some c.args.bytes.now)) once)
    (c.update.ensures.once updates (c.was.ensures.looks.opens updates is))

pub returns-in-Ok-Written-clause-fails : goal.returns-in-Ok-Written-clause-fails
returns-in-Ok-Written-clause-fails g c updates is =
    fails_open g.N.Nand.flash g.N.Nand.shape g.N.Nand.bad c.args.self.now c.was.new.self (update_of (sole c.args.sector) (Some c.args.bytes.now)) updates
    failure.Written (c.was.ensures.looks.opens updates is) c.was.ensures.looks.device.sectors (λ e. cc e) (λ e. cc e)

pub returns-in-Err-clause-fails : goal.returns-in-Err-clause-fails
returns-in-Err-clause-fails g c updates is =
    fails_open g.N.Nand.flash g.N.Nand.shape g.N.Nand.bad c.args.self.now c.was.new.self (update_of (sole c.args.sector) (Some c.args.bytes.now)) updates
    c.in-Err.failure (c.was.ensures.looks.opens updates is) c.was.ensures.looks.device.sectors
    (not_lost c.in-Err.failure (c.in-Err.ensures.only updates is)) (not_failed c.in-Err.failure (c.in-Err.ensures.only updates is))
