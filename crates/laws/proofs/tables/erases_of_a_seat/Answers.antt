use Rattle.std.proofs.Common.{◌≡◌, ◌++◌, ℕ, List, [], ◌∷◌, Some, refl, sym, ap, ◌∙◌, arith}
use Rattle.std.specs.Prelude.{slice_get}
use Rattle.flash_rule.specs.{declared.view.View.View, BroomPlays.IsLastLoaded}
use Rattle.geometry.specs.Words.{pin_word}
use Rattle.laws.proofs.tables.erases_of_a_seat.Goals as goal

empty_no_part : (earlier later : List (ℕ × ℕ)) (x : ℕ × ℕ) → [] ≡ earlier ++ x ∷ later → ⊥
empty_no_part [] later x e = absurd (cc)
empty_no_part (y ∷ earlier) later x e = absurd (cc)

not_loaded : (v : View) (b word : ℕ) → v.loaded ≡ [] → IsLastLoaded v b word → ⊥
not_loaded v b word none h = empty_no_part h.earlier h.later (b, word) (sym none ∙ h.is)

again : (earlier later : List (ℕ × ℕ)) → (3, 7) ∷ (3, 8) ∷ [] ≡ earlier ++ (3, 7) ∷ later
    → ((k : ℕ) (x : ℕ × ℕ) → slice_get later k ≡ Some x → ¬ (x.0 ≡ 3)) → ⊥
again [] later e last = let rest : (3, 8) ∷ [] ≡ later = (cc) in last 0 (3, 8) (ap (λ l. slice_get l 0) (sym rest)) refl
again (y ∷ []) later e last = let same : (3, 8) ≡ (3, 7) = (cc) in let s : 8 ≡ 7 = ap (λ (p : ℕ × ℕ). p.1) same in absurd (omega (arith, s))
again (y ∷ z ∷ earlier) later e last = let rest : [] ≡ earlier ++ (3, 7) ∷ later = (cc) in empty_no_part earlier later (3, 7) rest

pub returns-clause-unread : goal.returns-clause-unread
returns-clause-unread c v is =
    record {
      fits = record { readers = omega arith; written = omega arith; generation = omega arith; free = λ e. absurd (cc) };
      drained = refl;
      unread = refl;
      loaded = record { earlier = []; later = []; is = is; last = λ k x at. absurd (cc) };
    }

pub returns-clause-unloaded : goal.returns-clause-unloaded
returns-clause-unloaded c v p none h = not_loaded v 3 (pin_word p) none h.loaded

pub returns-clause-loaded_again : goal.returns-clause-loaded_again
returns-clause-loaded_again c v is h = again h.earlier h.later (sym is ∙ h.is) h.last
