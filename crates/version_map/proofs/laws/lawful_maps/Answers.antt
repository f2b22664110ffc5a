use Rattle.std.proofs.Common.{◌≡◌, ℕ, List, [], ◌∷◌, refl, sym, ap, subst, ◌∙◌, arith}
use Rattle.version_map.specs.History.{version_after, Continues}
use Rattle.version_map.proofs.Kept.{two_sectors, nothing_continues}
use Rattle.version_map.proofs.laws.lawful_maps.Goals as goal

pub returns-clause-kept : goal.returns-clause-kept
returns-clause-kept c = ((0, 3) ∷ [], two_sectors)

pub returns-clause-versions : goal.returns-clause-versions
returns-clause-versions c (h, law) =
    let is : 4 ≡ 3 = law.versions 0 (omega arith) ∙ ap (λ (l : List (ℕ × ℕ)). version_after l 0) (sym (law.all 0 _ refl refl)) in omega (arith, is)

pub returns-clause-all : goal.returns-clause-all
returns-clause-all c (h, law) =
    let is : 3 ≡ 0 = law.versions 0 (omega arith) ∙ ap (λ (l : List (ℕ × ℕ)). version_after l 0) (sym (law.all 0 _ refl refl)) in omega (arith, is)

pub returns-clause-seen : goal.returns-clause-seen
returns-clause-seen c (h, law) =
    nothing_continues (0, 3) [] (subst (λ (l : List (ℕ × ℕ)). Continues l ((0, 3) ∷ [])) (sym (law.all 0 _ refl refl)) (law.saw 1 _ refl).0)

pub returns-clause-told : goal.returns-clause-told
returns-clause-told c (h, law) =
    nothing_continues (0, 3) [] (subst (λ (l : List (ℕ × ℕ)). Continues l ((0, 3) ∷ [])) (sym (law.all 0 _ refl refl)) (law.saw 1 _ refl).1)

pub returns-clause-one : goal.returns-clause-one
returns-clause-one c (h, law) = let is : 0 ≡ 1 = law.one 0 1 _ _ refl refl refl refl in omega (arith, is)
