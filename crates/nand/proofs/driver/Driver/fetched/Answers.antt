use Rattle.std.proofs.Common.{sym, ◌∙◌}
use Rattle.nand.proofs.Driven.{reads_version, trimmed_is}
use Rattle.nand.proofs.driver.Driver.fetched.Goals as goal

pub returns-in-Version-clause-holds : goal.returns-in-Version-clause-holds
returns-in-Version-clause-holds c f value was v knows moves reads =
    let from = c.args.from in
    let read = reads_version (f from.block from.page) moves.extent_there moves.number v c.args.reading moves.held reads in
    c.choose.ensures.holds f value was v knows (trimmed_is c.in-Version.stamp moves.extent_there moves.number v (sym c.in-Version.is ∙ read), moves)
