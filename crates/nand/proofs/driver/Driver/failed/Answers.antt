use Rattle.std.proofs.Common.{inr, subst, sym, ap}
use Rattle.geometry.specs.Sectors.{Sector}
use Rattle.durable.specs.Commands.{CutLeaves}
use Rattle.durable.specs.declared.command.Command.{Command}
use Rattle.durable.specs.declared.command.Command.TheVariants.{Program}
use Rattle.nand.specs.Driving.{StepCutLeaves, step_for}
use Rattle.durable.specs.Failures.{Changes}
use Rattle.nand.specs.Numbers.{chip_block, chip_page}
use Rattle.nand.proofs.Driven.{has_none_left, job_value}
use Rattle.nand.proofs.driver.Driver.failed.Goals as goal

pub returns-in-Program-clause-holds : goal.returns-in-Program-clause-holds
returns-in-Program-clause-holds c f t value was v knows is cut =
    let old = c.args.self.now in
    let job = c.args.job in
    let here = subst (λ (m : Command). StepCutLeaves (step_for old.numbers.items m job) value f t) c.in-Program.is cut in (
      f,
      v,
      knows,
      is,
      subst (λ (x : Sector). CutLeaves (Program (chip_page old.numbers.items c.in-Program.at) c.in-Program.number) job.extent x f t)
          (job_value f old job value was v is here.0 here.1) here.2,
    )

pub returns-in_default-clause-holds : goal.returns-in_default-clause-holds
returns-in_default-clause-holds c f t value was v knows is cut =
    c.replace.ensures.holds f t value was v knows is cut (has_none_left _ c.args.command (λ at n e. c.in_default.not-Program at n e))

pub returns-in-Program-clause-alone : goal.returns-in-Program-clause-alone
returns-in-Program-clause-alone c b one changes =
    inr (ap (chip_block c.args.self.now.numbers.items) (sym (subst (λ (m : Command). Changes m b) c.in-Program.is changes)))
