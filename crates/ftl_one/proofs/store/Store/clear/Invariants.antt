use Rattle.ftl_one.proofs.Clearing.{ClearedTo}
use Rattle.ftl_one.proofs.store.Store.clear.Given as goal

abbrev pub invariant-loop-page : goal.invariant-loop-page
invariant-loop-page l = ClearedTo l.initial.self l.self l.victim l.spare l.page l.copies
