use Rattle.std.proofs.Common.{◌∙◌, ap, sym, subst, rules}
use Rattle.geometry.specs.declared.answer.Was.{Was}
use Rattle.flash_table.specs.Flash.{view_of}
use Rattle.host.specs.Told.{Wrote}
use Rattle.volume.specs.Correct.{Does, Replaced, Write}
use Rattle.volume.specs.declared.volume.Volume.{Volume}
use Rattle.exports.proofs.CodeMeanings.{was_back}
use Rattle.exports.specs.Codes.{was_by}
use Rattle.exports.specs.Shared.{HasWritten, IsStep, host_volume}
use Rattle.exports.proofs.handle.seat.Host.write.Goals as goal

pub returns-in-Ok-clause-wrote : goal.returns-in-Ok-clause-wrote
unfolding HasWritten IsStep
returns-in-Ok-clause-wrote c =
    let was = sym (ap was_by c.code_of.ensures ∙ was_back c.in-Ok.was) in
    let step = λ (v : Volume) (w : Was). Does v c.args.self.now.pass (Write c.args.sector c.args.bytes.now) (Replaced w) c.write.new.pass in
    record {
      correct = λ low. subst (step (host_volume c.args.self.now)) was
          (subst (λ (v : Volume). step v c.in-Ok.was) c.deref-2.ensures c.in-Ok.ensures.correct);
      wrote = λ low t number. subst (λ (w : Was). Wrote (view_of c.args.self.now.pass) t c.args.sector c.args.bytes.now w (view_of c.write.new.pass))
          was (c.in-Ok.ensures.wrote t number);
      refused = λ is. search rules;
      sector = λ is. search rules;
      page = λ is. search rules;
    }
