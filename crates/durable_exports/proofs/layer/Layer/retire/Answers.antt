use Rattle.std.proofs.Common.{rules, ◌≡◌, ◌∙◌, refl, sym}
use Rattle.std.proofs.lemmas.Bool.{false≢true}
use Rattle.durable_exports.specs.Reports.{report_of}
use Rattle.durable_exports.proofs.layer.Layer.retire.Goals as goal

pub returns-then-retire-clause-retired : goal.returns-then-retire-clause-retired
returns-then-retire-clause-retired c done =
    let same : c.args.did ≡ report_of c.args.extent.first c.next-command.result = search rules in (
      c.next-command.result,
      same,
      c.next-command.ensures.next,
      c.retire.ensures.device,
      c.retire.ensures.retires c.if-retire.true,
      c.retire.ensures.whole c.if-retire.true,
      c.retire.ensures.losses,
      c.retire.ensures.number c.if-retire.true,
      refl,
    )

pub returns-else-retire-clause-takes : goal.returns-else-retire-clause-takes
returns-else-retire-clause-takes c f acked begun is blank past read number code = absurd (false≢true (sym c.if-retire.false
    ∙ c.retire.ensures.accepts f acked begun is blank past read (c.next-command.ensures.progress number)))
