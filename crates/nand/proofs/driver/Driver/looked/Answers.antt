use Rattle.std.proofs.Common.{refl, sym, subst}
use Rattle.geometry.specs.Sectors.{Sector}
use Rattle.durable.specs.Commands.{CutLeaves}
use Rattle.durable.specs.declared.command.Command.TheVariants.{Program}
use Rattle.nand.specs.Numbers.{chip_page}
use Rattle.nand.proofs.Driven.{job_main, job_value, left_by}
use Rattle.nand.proofs.driver.Driver.looked.Goals as goal

pub returns-clause-holds : goal.returns-clause-holds
returns-clause-holds c f t value was v knows is cut reads =
    let old = c.args.self.now in
    let job = c.args.job in
    let x = job_main f old job value was v is in
    c.replace.ensures.holds f t value was v knows is (
      v,
      x,
      subst (λ (u : Sector). CutLeaves (Program (chip_page old.numbers.items c.args.at) c.args.number) job.extent u f t)
          (sym (job_value f old job value was v is v x)) cut,
    )
    (left_by old.numbers.items t c.args.at c.args.number c.args.reading c.is_version.result c.is_version.ensures.yes c.is_version.ensures.no reads)

pub returns-clause-alone : goal.returns-clause-alone
returns-clause-alone c one = c.replace.ensures.alone c.args.at.block one refl
