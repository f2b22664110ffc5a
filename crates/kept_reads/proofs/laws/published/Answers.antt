use Rattle.std.proofs.Common.{◌≡◌, ◌∙◌, ℕ, List, [], ◌∷◌, ◌++◌, None, Some, arith, ap, refl, sym}
use Rattle.geometry.specs.Sectors.{Sector}
use Rattle.kept_reads.specs.Published.{changes_shown}
use Rattle.kept_reads.specs.Sessions.{changes_in, value_after}
use Rattle.kept_reads.proofs.Kept.{sector_array}
use Rattle.kept_reads.proofs.laws.published.Goals as goal

pub returns-clause-written : goal.returns-clause-written
returns-clause-written c = record { opened = []; array = λ s lt. refl; since = (2, 9) ∷ []; both = refl; all = refl }

pub returns-clause-array : goal.returns-clause-array
returns-clause-array c is = apart (9 ∷ []) (is.array 2 (omega arith) ∙ sym (sector_array is.opened 2)
    ∙ ap (λ (changes : List (ℕ × Sector)). value_after changes 2) (none is.since (changes_in is.opened) is.all))
  where
    apart : (bytes : List ℕ) → Some bytes ≡ None → ⊥
    apart bytes same = absurd (cc same)

    none : (since : List (ℕ × ℕ)) (opened : List (ℕ × Sector)) → [] ≡ changes_shown (λ n. n ∷ []) since ++ opened → opened ≡ []
    none [] opened same = sym same
    none (one ∷ since) opened same = absurd (cc same)
