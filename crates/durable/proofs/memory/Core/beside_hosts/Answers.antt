use Rattle.std.proofs.Common.{Option, refl, ap, arith}
use Rattle.geometry.specs.declared.page_addr.PageAddr.{PageAddr}
use Rattle.durable.specs.Collecting.{page_for_hosts}
use Rattle.durable.proofs.Collects.{free_beside_hosts}
use Rattle.durable.proofs.Opened.{some_not_none}
use Rattle.durable.proofs.memory.Core.beside_hosts.Goals as goal

pub returns-clause-next : goal.returns-clause-next
returns-clause-next c =
    let core = c.args.self.now in (
      ap (λ (k : Option PageAddr). page_for_hosts k core.next_pages.copies) c.requires,
      refl,
      omega (arith, c.if-self-ge18446744073709551615.false),
      free_beside_hosts core (some_not_none core.next_pages.hosts c.args.at c.requires),
    )
