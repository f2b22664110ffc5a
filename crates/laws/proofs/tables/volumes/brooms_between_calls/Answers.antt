use Rattle.std.proofs.{Common.◌≡◌, Common.ℕ, Common.true, Common.false, Common.sym, Common.ap, Common.◌∙◌, lemmas.Bool.false≢true}
use Rattle.std.specs.Prelude.{slice_index_or}
use Rattle.laws.proofs.tables.volumes.brooms_between_calls.Goals as goal

no_mark : (k : ℕ) → false ≡ true → ⊥
no_mark k e = false≢true e

pub returns-clause-marks : goal.returns-clause-marks
returns-clause-marks c b = (
  λ none k closed. let e : false ≡ true = ap (λ l. slice_index_or l k false) (sym none) ∙ closed in absurd (no_mark k e),
  λ one h. h 0 (ap (λ l. slice_index_or l 0 false) one),
)

pub returns-clause-seat_rests : goal.returns-clause-seat_rests
returns-clause-seat_rests c f s t same rested = same.2 f rested
