use Rattle.std.proofs.Common.{inl, sym, subst, arith}
use Rattle.durable.specs.Collecting.{IsFree}
use Rattle.durable.specs.Updates.{sole}
use Rattle.durable.proofs.Collects.{free_beside_hosts, not_last}
use Rattle.durable.proofs.Opened.{some_not_none}
use Rattle.durable.proofs.layer.laws.next_commands.Goals as goal

pub returns-clause-open : goal.returns-clause-open
returns-clause-open c core at opened here next = next.3 at (inl opened) (sym here)

pub returns-clause-beside : goal.returns-clause-beside
returns-clause-beside c core at blocks opened used next =
    let free = next.5 at (inl opened) in
    used (subst (IsFree core.map.items) (omega (arith, free.1, free.2, blocks)) free.4)

pub returns-clause-closed : goal.returns-clause-closed
returns-clause-closed c core from to at next opened =
    (next.4 (free_beside_hosts core (some_not_none core.next_pages.hosts at opened))).0 at (inl opened)

pub returns-clause-last : goal.returns-clause-last
returns-clause-last c core from to next hosts last = not_last core (sole 0) 7 from to next hosts last

pub returns-clause-few : goal.returns-clause-few
returns-clause-few c core from to next free = (next.4 free).3

pub returns-clause-before : goal.returns-clause-before
returns-clause-before c core from to at next opened one =
    let room = next.4 (free_beside_hosts core (some_not_none core.next_pages.hosts at opened)) in omega (arith, room.1, one)
