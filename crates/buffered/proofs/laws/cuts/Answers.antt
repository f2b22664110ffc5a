use Rattle.std.proofs.Common.{◌≡◌, ◌+◌, List, [], ◌∷◌, ◌++◌, length, arith, ap, refl, subst}
use Rattle.std.proofs.lemmas.List.{length-append}
use Rattle.durable.specs.Runs.{Completed, CutBetween, CutInside, Event}
use Rattle.buffered.specs.Buffered.{IsCutOf}
use Rattle.buffered.proofs.laws.cuts.Goals as goal

pub returns-clause-first : goal.returns-clause-first
returns-clause-first c a b is = (CutBetween ∷ [], [], a, refl, refl, is)

pub returns-clause-not_last : goal.returns-clause-not_last
returns-clause-not_last c update command is = by is.0 is.1 is.2 is.3 is.4 is.5
  where
    by : (later earlier : List Event) (first : Event) → Completed update command ∷ CutBetween ∷ [] ≡ later ++ first ∷ earlier
        → 2 ≡ length later + 1 → IsCutOf first (CutInside update command) → ⊥
    by [] earlier first same long cut = omega (arith, long)
    by (last ∷ []) earlier first same long cut = let idle : first ≡ CutBetween = cc same in
        let cuts : CutInside update command ≡ CutBetween = subst (λ (event : Event). IsCutOf event (CutInside update command)) idle cut in absurd (cc cuts)
    by (last ∷ more ∷ later) earlier first same long cut = omega (arith, long)

pub returns-clause-back : goal.returns-clause-back
returns-clause-back c now was = (now ∷ [], [], refl, refl)

pub returns-clause-not_back : goal.returns-clause-not_back
returns-clause-not_back c now was is = omega (arith, ap length is.2, is.3, length-append is.0 (was ∷ is.1))
