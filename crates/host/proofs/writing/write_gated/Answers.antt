use Rattle.geometry.specs.History.{Write}
use Rattle.host.proofs.WritingCalls.{exchanged_settled, write_done, write_ready}
use Rattle.host.proofs.writing.write_gated.Goals as goal

pub close_if_full-requires-clause-settled : goal.close_if_full-requires-clause-settled
close_if_full-requires-clause-settled g c =
    exchanged_settled c.args.flash.now c.args.pass.now c.program.new.pass c.place_write-was.new.pass
    c.args.sector c.args.bytes.now c.in-Some.page c.requires.pass c.in-Some.ensures.filled
    (λ t value. Write t c.args.sector value) c.place_write-was.result c.place_write-was.ensures.placed

pub returns-clause-wrote : goal.returns-clause-wrote
returns-clause-wrote g c =
    write_done c.args.flash.now c.args.pass.now c.program.new.pass c.place_write-was.new.pass
    c.args.sector c.args.bytes.now c.in-Some.page c.requires.pass c.in-Some.ensures.filled
    (λ t value. Write t c.args.sector value) c.place_write-was.result c.place_write-was.ensures.placed
    c.close_if_full.new.pass c.place_write-was.ensures.opened c.close_if_full.ensures.closed

pub returns-clause-pass : goal.returns-clause-pass
returns-clause-pass g c =
    write_ready c.args.flash.now c.args.pass.now c.program.new.pass c.place_write-was.new.pass
    c.args.sector c.args.bytes.now c.in-Some.page c.requires.pass c.in-Some.ensures.filled
    (λ t value. Write t c.args.sector value) c.place_write-was.result c.place_write-was.ensures.placed
    c.close_if_full.new.pass c.place_write-was.ensures.opened c.close_if_full.ensures.closed c.close_if_full.ensures.pass
