use Rattle.std.proofs.Common.{ℕ, subst}
use Rattle.geometry.specs.{History.WriteNew, declared.answer.Was.Was}
use Rattle.flash_table.specs.{Flash.view_of, Steps.HasNumber}
use Rattle.host.specs.{Ready.IsReady, Told.WroteNew}
use Rattle.host.proofs.WritingCalls.{exchanged_settled, write_done, write_ready}
use Rattle.host.proofs.writing_new.write_new_gated.{Given.Over, Goals.After-close_if_full}
use Rattle.host.proofs.writing_new.write_new_gated.Goals as goal

pub close_if_full-requires-clause-settled : goal.close_if_full-requires-clause-settled
close_if_full-requires-clause-settled g c =
    exchanged_settled c.args.flash.now c.args.pass.now c.program.new.pass c.place_new-was.new.pass
    c.args.sector c.args.bytes.now c.in-Some.page c.requires.pass c.in-Some.ensures.filled
    (λ t value. WriteNew t c.args.sector value) c.place_new-was.result c.place_new-was.ensures.placed

-- what the write has done and left, whatever the sector was
done : (g : Over) (c : After-close_if_full g) (n : ℕ) → HasNumber n c.args.pass.now
    → WroteNew (view_of c.args.pass.now) n c.args.sector c.args.bytes.now c.place_new-was.result (view_of c.close_if_full.new.pass)
done g c n is =
    write_done c.args.flash.now c.args.pass.now c.program.new.pass c.place_new-was.new.pass
    c.args.sector c.args.bytes.now c.in-Some.page c.requires.pass c.in-Some.ensures.filled
    (λ t value. WriteNew t c.args.sector value) c.place_new-was.result c.place_new-was.ensures.placed
    c.close_if_full.new.pass c.place_new-was.ensures.opened c.close_if_full.ensures.closed n is

ready : (g : Over) (c : After-close_if_full g) → IsReady c.args.flash.now c.close_if_full.new.pass
ready g c =
    write_ready c.args.flash.now c.args.pass.now c.program.new.pass c.place_new-was.new.pass
    c.args.sector c.args.bytes.now c.in-Some.page c.requires.pass c.in-Some.ensures.filled
    (λ t value. WriteNew t c.args.sector value) c.place_new-was.result c.place_new-was.ensures.placed
    c.close_if_full.new.pass c.place_new-was.ensures.opened c.close_if_full.ensures.closed c.close_if_full.ensures.pass

pub returns-in-Empty-clause-wrote : goal.returns-in-Empty-clause-wrote
returns-in-Empty-clause-wrote g c n is =
    subst (λ (a : Was). WroteNew (view_of c.args.pass.now) n c.args.sector c.args.bytes.now a (view_of c.close_if_full.new.pass)) c.in-Empty.is
    (done g (goal.at.returns-in-Empty-clause-wrote g c).After-close_if_full n is)

pub returns-in-Empty-clause-pass : goal.returns-in-Empty-clause-pass
returns-in-Empty-clause-pass g c = ready g (goal.at.returns-in-Empty-clause-pass g c).After-close_if_full

pub returns-in-Written-clause-wrote : goal.returns-in-Written-clause-wrote
returns-in-Written-clause-wrote g c n is =
    subst (λ (a : Was). WroteNew (view_of c.args.pass.now) n c.args.sector c.args.bytes.now a (view_of c.close_if_full.new.pass)) c.in-Written.is
    (done g (goal.at.returns-in-Written-clause-wrote g c).After-close_if_full n is)

pub returns-in-Written-clause-pass : goal.returns-in-Written-clause-pass
returns-in-Written-clause-pass g c = ready g (goal.at.returns-in-Written-clause-pass g c).After-close_if_full
