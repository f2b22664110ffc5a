use Rattle.std.proofs.Common.{ap, ◌∙◌}
use Rattle.geometry.{proofs.Histories.held_written, specs.History.held}
use Rattle.laws.proofs.hosts.writes_of_hosts.Goals as goal

pub returns-clause-holds : goal.returns-clause-holds
returns-clause-holds c v w t s x a h low = ap (λ k. held v.numbers.sectors k s) h.now ∙ held_written v.numbers.sectors h.before t s x low
