use Rattle.std.proofs.Common.{◌≡◌, ℕ, zero, suc, Bool, true, false, List, [], ◌∷◌, length, refl, sym, ap, ◌∙◌, subst, length-set}
use Rattle.std.{specs.Prelude.slice_index_or, specs.Prelude.slice_set, proofs.lemmas.Bool.false≢true}
use Rattle.geometry.proofs.Choosing.{greedy_of-closed}
use Rattle.broom.specs.{Ready.marks_of, Survey.closed_of, Told.counts_kept, declared.broom.Broom.Broom}
use Rattle.laws.proofs.SurveyRows.{as_long}
use Rattle.laws.proofs.brooms.marks_of_a_survey.Goals as goal

set_same : (marks : List Bool) (b : ℕ) → slice_index_or (slice_set marks b false) b false ≡ false
set_same [] b = refl
set_same (m ∷ marks) zero = refl
set_same (m ∷ marks) (suc b) = set_same marks b

unmarked : (y : Broom) (marks : List Bool) (b : ℕ) → marks_of y ≡ slice_set marks b false → slice_index_or (marks_of y) b false ≡ true → ⊥
unmarked y marks b are closed = false≢true (sym (ap (λ l. slice_index_or l b false) are ∙ set_same marks b) ∙ closed)

pub returns-clause-next : goal.returns-clause-next
returns-clause-next c b d k e x y z (s, h) next same =
    let long : length (counts_kept y) ≡ length (marks_of y) =
    ap length h.counts ∙ (as_long s ∙ (sym (length-set (closed_of s.states) b false) ∙ ap length (sym h.marks))) in
    let closed : slice_index_or (marks_of y) k false ≡ true = greedy_of-closed (counts_kept y) (marks_of y) long k next.0.chosen in
    unmarked y (closed_of s.states) b h.marks (subst (λ (i : ℕ). slice_index_or (marks_of y) i false ≡ true) same closed)
