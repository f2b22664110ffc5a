use Rattle.std.proofs.Common.{◌≡◌, ◌<◌, ◌+◌, length, IfSome}
use Rattle.version_map.specs.History.{Continues}
use Rattle.version_map.specs.Map.{history_seen, looks_made, IsReaderOf}
use Rattle.shared_nand.proofs.reading.read.Given as goal

abbrev pub invariant-loop : goal.invariant-loop
invariant-loop g l =
    IsReaderOf l.map l.reader × Continues (history_seen l.reader) (history_seen l.initial.reader)
    × (looks_made l.reader ≡ looks_made l.initial.reader + l.counter) × IfSome l.search.found (λ _. 0 < l.counter)
    × (l.search.sector ≡ l.sector) × (l.search.looks + l.counter ≡ l.tries)
    × (length l.out ≡ g.N.SharedNand.page_bytes l.nand)
