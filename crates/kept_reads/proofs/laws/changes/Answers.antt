use Rattle.std.proofs.Common.{◌≡◌, ℕ, List, [], ◌∷◌, ◌++◌, None, length, arith, ap, refl}
use Rattle.std.proofs.lemmas.List.{length-append}
use Rattle.geometry.specs.Sectors.{Sector}
use Rattle.kept_reads.proofs.laws.changes.Goals as goal

pub returns-clause-longer : goal.returns-clause-longer
returns-clause-longer c = ((2, None) ∷ [], refl)

pub returns-clause-newer : goal.returns-clause-newer
returns-clause-newer c is = by is.0 is.1
  where
    second : (a b c d : ℕ × Sector) → a ∷ b ∷ [] ≡ c ∷ d ∷ [] → b ≡ d
    second a b c d same = cc same

    by : (newer : List (ℕ × Sector)) → (2, None) ∷ (1, None) ∷ [] ≡ newer ++ (2, None) ∷ [] → ⊥
    by [] same = omega (arith, ap length same)
    by (one ∷ []) same = omega (arith, ap (λ (change : ℕ × Sector). change.0) (second (2, None) (1, None) one (2, None) same))
    by (one ∷ two ∷ newer) same = omega (arith, ap length same, length-append newer ((2, None) ∷ []))
