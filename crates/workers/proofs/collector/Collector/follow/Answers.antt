use Rattle.std.proofs.Common.{◌∙◌, sym, ap}
use Rattle.std.specs.Prelude.{◌||◌}
use Rattle.workers.proofs.BroomTurns.{followed_other, followed_spareless, is_spareless}
use Rattle.workers.specs.Turns.{has_drained, has_erased}
use Rattle.workers.proofs.collector.Collector.follow.Goals as goal

pub returns-then-search : goal.returns-then-search
returns-then-search g c =
    followed_spareless c.args.self.now c.erase-erase.new.self c.search.new.self c.args.drain c.erase-erase.result c.search.result c.search.result
    (sym (is_spareless c.args.drain) ∙ (sym c.eq.ensures ∙ c.if-eq.true)) c.erase-erase.ensures c.search.ensures
    (c.if-search.true ∙ ap (λ b. b || (has_drained c.args.drain || has_erased c.erase-erase.result)) (sym c.if-search.true))

pub returns-else-search : goal.returns-else-search
returns-else-search g c =
    followed_spareless c.args.self.now c.erase-erase.new.self c.search.new.self c.args.drain c.erase-erase.result c.search.result
    c.have_gained-gained.result (sym (is_spareless c.args.drain) ∙ (sym c.eq.ensures ∙ c.if-eq.true)) c.erase-erase.ensures c.search.ensures
    (c.have_gained-gained.ensures ∙ ap (λ b. b || (has_drained c.args.drain || has_erased c.erase-erase.result)) (sym c.if-search.false))

pub returns : goal.returns
returns g c =
    followed_other c.args.self.now c.erase-erase.new.self c.args.drain c.erase-erase.result c.have_gained-gained.result
    (sym (is_spareless c.args.drain) ∙ (sym c.eq.ensures ∙ c.if-eq.false)) c.erase-erase.ensures c.have_gained-gained.ensures
