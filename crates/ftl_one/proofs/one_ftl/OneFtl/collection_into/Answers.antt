use Rattle.std.proofs.Common.{◌∙◌, ◌+◌, ◌<◌, ℕ, eqb, cond, List, ap, subst, arith}
use Rattle.geometry.specs.Geometry.{blocks_of, endurance_of, lun_of}
use Rattle.ftl_one.specs.{Collections.IsFewest, Laws.block_at, OneFtl.geometry_of, OneFtl.stock_of, Store.counts_of}
use Rattle.ftl_one.proofs.Collecting.{greedy_by, spare_within, victim_by, victim_within}
use Rattle.ftl_one.proofs.{Collections.same_collection, Layers.erases_at}
use Rattle.ftl_one.specs.Store as pages
use Rattle.ftl_one.proofs.one_ftl.OneFtl.collection_into.Goals as goal
use Rattle.ftl_one.proofs.one_ftl.OneFtl.collection_into.Goals.{After-fewest_beside-victim}

-- the victim has the fewest live pages beside the spare
the_fewest : (c : After-fewest_beside-victim) → IsFewest (counts_of c.args.self.now.store) c.args.spare c.fewest_beside-victim.result
the_fewest c = subst (λ (xs : List ℕ). IsFewest xs c.args.spare c.fewest_beside-victim.result) c.live.ensures.value c.fewest_beside-victim.ensures

the_low : (c : After-fewest_beside-victim) → c.fewest_beside-victim.result < blocks_of (pages.geometry_of c.args.self.now.store)
the_low c =
    victim_within c.args.self.now c.args.spare c.requires.none c.requires.no_free c.requires.spare c.fewest_beside-victim.result
    (greedy_by c.args.self.now c.args.spare c.requires.none c.requires.no_free c.requires.spare c.fewest_beside-victim.result (the_fewest c)).is_closed

pub fewest_beside-victim-requires-clause-left_out : goal.fewest_beside-victim-requires-clause-left_out
fewest_beside-victim-requires-clause-left_out c =
    omega (arith, spare_within c.args.self.now c.args.spare c.requires.none c.requires.no_free c.requires.spare, c.live.ensures.size)

pub live-copied-requires : goal.live-copied-requires
unfolding geometry_of
live-copied-requires c = the_low (goal.at.live-copied-requires c).After-fewest_beside-victim

pub erases-erases-requires : goal.erases-erases-requires
unfolding geometry_of
erases-erases-requires c = the_low (goal.at.erases-erases-requires c).After-fewest_beside-victim

pub overflow_add-erases : goal.overflow_add-erases
overflow_add-erases c =
    omega (
      arith,
      c.erases-erases.ensures,
      erases_at c.args.self.now c.fewest_beside-victim.result (the_low (goal.at.overflow_add-erases c).After-fewest_beside-victim),
      c.args.self.now.store.die.geometry.in_limits.endurance_high,
    )

pub copybacks-requires-clause-spare : goal.copybacks-requires-clause-spare
copybacks-requires-clause-spare c = spare_within c.args.self.now c.args.spare c.requires.none c.requires.no_free c.requires.spare

pub returns-clause-victim : goal.returns-clause-victim
returns-clause-victim c =
    victim_by c.args.self.now c.args.spare c.requires.none c.requires.no_free c.requires.spare c.fewest_beside-victim.result
    (the_fewest (goal.at.returns-clause-victim c).After-fewest_beside-victim)

pub returns-clause-value : goal.returns-clause-value
unfolding geometry_of
returns-clause-value c =
    let f = c.args.self.now in
    let v = c.fewest_beside-victim.result in
    let g = pages.geometry_of f.store in
    same_collection v _ _ _ _ _ _ _ _ c.live-copied.ensures
    (c.copybacks.ensures ∙ ap (λ (n : ℕ). cond (eqb (lun_of g v) (lun_of g c.args.spare)) n 0) c.live-copied.ensures)
    (ap (λ (n : ℕ). n + 1) c.erases-erases.ensures)
    (ap (λ (n : ℕ). eqb (n + 1) c.endurance.result) c.erases-erases.ensures
    ∙ ap (eqb ((block_at (stock_of f) v).erases + 1)) (c.endurance.ensures.value ∙ ap endurance_of c.geometry.ensures))
