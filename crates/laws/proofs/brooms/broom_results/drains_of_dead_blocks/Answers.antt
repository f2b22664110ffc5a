use Rattle.std.{proofs.Common.◌≡◌, proofs.Common.ℕ, proofs.Common.sym, proofs.Common.subst, proofs.Common.◌∙◌, specs.Prelude.slice_index}
use Rattle.broom.specs.{Dead.DeadBySurvey, Dead.DidDrainDead, Ready.blocks_of_broom, Ready.view_of_broom, Surveying.Chosen, declared.broom.Broom.Broom}
use Rattle.broom.specs.Told.{Unmarks, counts_kept}
use Rattle.broom.specs.declared.answer.Drain.TheVariants as drain
use Rattle.laws.proofs.brooms.broom_results.drains_of_dead_blocks.Goals as goal

-- the block of the result is the one that the survey chose
of_victim : (b n : ℕ) (x y : Broom) → DeadBySurvey x (drain.Drained b n) y
    → (r : Broom) × Chosen (view_of_broom x) b r × (slice_index (counts_kept r) b ≡ 0) × (n ≡ 0) × DidDrainDead (view_of_broom r) b (view_of_broom y)
    × (blocks_of_broom y ≡ blocks_of_broom x) × Unmarks r b y
of_victim b n x y (c, r, chose, none, (same, nothing, did, blocks), marks) = (
  r,
  subst (λ k. Chosen (view_of_broom x) k r) (sym same) chose.chosen,
  subst (λ k. slice_index (counts_kept r) k ≡ 0) (sym same) none,
  nothing,
  subst (λ k. DidDrainDead (view_of_broom r) k (view_of_broom y)) (sym same) did,
  blocks ∙ chose.blocks,
  subst (λ k. Unmarks r k y) (sym same) marks,
)

pub returns-clause-drained : goal.returns-clause-drained
returns-clause-drained c b n x y h = of_victim b n x y h

pub returns-clause-unmarked : goal.returns-clause-unmarked
returns-clause-unmarked c x y h = (h.0, h.1, h.2.chosen, h.5)
