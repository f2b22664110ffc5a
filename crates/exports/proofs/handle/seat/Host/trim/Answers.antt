use Rattle.std.proofs.Common.{◌∙◌, ap, sym, subst}
use Rattle.geometry.specs.declared.answer.Was.{Was}
use Rattle.geometry.specs.History as call
use Rattle.flash_table.specs.Steps.{HasCalled}
use Rattle.exports.proofs.CodeMeanings.{was_back}
use Rattle.exports.specs.Codes.{was_by}
use Rattle.exports.specs.Shared.{HasTrimmed}
use Rattle.exports.proofs.handle.seat.Host.trim.Goals as goal

pub returns-clause-called : goal.returns-clause-called
unfolding HasTrimmed
returns-clause-called c low t number =
    subst (λ (w : Was). HasCalled c.args.self.now.pass (call.Trim t c.args.sector) c.args.sector w c.trim.new.pass)
    (sym (ap was_by c.code_of.ensures ∙ was_back c.trim.result)) (c.trim.ensures.called t number)
