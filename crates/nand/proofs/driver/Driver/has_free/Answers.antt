use Rattle.std.proofs.Common.{subst}
use Rattle.durable.specs.Choice.{IsNextCommand}
use Rattle.nand.proofs.Driven.{free_by_copy}
use Rattle.nand.proofs.driver.Driver.has_free.Goals as goal

pub returns-in-Copy : goal.returns-in-Copy
returns-in-Copy c found_one =
    let core = c.args.self.now.core in
    let found = c.has_empty_beside.ensures found_one in
    free_by_copy core c.in-Copy.field-0 c.in-Copy.field-1 c.in-Copy.to found.0 (subst (IsNextCommand core) c.in-Copy.is c.next.ensures.next)
    found.1 found.2 found.3
