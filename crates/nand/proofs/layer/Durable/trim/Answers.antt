use Rattle.std.proofs.Common.{None, subst}
use Rattle.durable.specs.Updates.{array_after}
use Rattle.nand.specs.Opened.{Were, update_of}
use Rattle.nand.proofs.Steps.{fails_after, fails_open, marked_after, not_failed, not_lost, once_after}
use Rattle.nand.proofs.Steps.{trims_nothing}
use Rattle.nand.proofs.layer.Durable.trim.Goals as goal

pub returns-in-Ok-Empty-clause-was : goal.returns-in-Ok-Empty-clause-was
returns-in-Ok-Empty-clause-was g c updates is =
    subst (Were (array_after updates) c.args.extent) c.in-Ok-Empty.field-0-is (c.in-Ok-Empty.ensures.gives updates is)

pub returns-in-Ok-Empty-clause-acknowledged : goal.returns-in-Ok-Empty-clause-acknowledged
returns-in-Ok-Empty-clause-acknowledged g c updates is =
    trims_nothing g.N.Nand.flash g.N.Nand.shape g.N.Nand.bad c.were.new.self c.args.extent updates (c.were.ensures.looks.opens updates is)
    (subst (Were (array_after updates) c.args.extent) c.in-Ok-Empty.field-0-is (c.in-Ok-Empty.ensures.gives updates is))

pub returns-in-Ok-clause-was : goal.returns-in-Ok-clause-was
returns-in-Ok-clause-was g c updates is =
    subst (Were (array_after updates) c.args.extent) c.in-Ok-Written.field-0-is (c.in-Ok-Written.ensures.gives updates is)

pub returns-in-Ok-clause-acknowledged : goal.returns-in-Ok-clause-acknowledged
returns-in-Ok-clause-acknowledged g c updates is = c.in-Ok.ensures.acknowledged updates (c.were.ensures.looks.opens updates is)

pub returns-in-Ok-clause-once : goal.returns-in-Ok-clause-once
returns-in-Ok-clause-once g c updates is _ = once_after c.in-Ok-Written.ensures.looks c.update.new.self (update_of c.args.extent None)
    (c.in-Ok.ensures.once updates (c.were.ensures.looks.opens updates is))

pub returns-in-Ok-clause-marks : goal.returns-in-Ok-clause-marks
returns-in-Ok-clause-marks g c updates is =
    marked_after c.in-Ok-Written.ensures.looks c.update.new.self (c.in-Ok.ensures.marks updates (c.were.ensures.looks.opens updates is))

pub returns-in-Err-update-clause-fails : goal.returns-in-Err-update-clause-fails
returns-in-Err-update-clause-fails g c updates is =
    fails_after c.in-Ok-Written.ensures.looks (c.in-Err-update.ensures.fails updates (c.were.ensures.looks.opens updates is))

pub returns-in-Err-clause-fails : goal.returns-in-Err-clause-fails
returns-in-Err-clause-fails g c updates is =
    fails_open g.N.Nand.flash g.N.Nand.shape g.N.Nand.bad c.args.self.now c.were.new.self (update_of c.args.extent None) updates c.in-Err.failure
    (c.were.ensures.looks.opens updates is) c.were.ensures.looks.device.sectors (not_lost c.in-Err.failure (c.in-Err.ensures.only updates is))
    (not_failed c.in-Err.failure (c.in-Err.ensures.only updates is))
