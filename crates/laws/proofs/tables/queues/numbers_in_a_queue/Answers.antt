use Rattle.std.proofs.Common.{◌≡◌, ◌<◌, ◌++◌, ℕ, zero, suc, List, [], ◌∷◌, Some, length, refl, ap, ◌∙◌, subst, arith}
use Rattle.erase_queue.specs.{Moves.AreBelow, Moves.Stand, declared.sight.Sight.Sight}
use Rattle.laws.proofs.tables.queues.numbers_in_a_queue.Goals as goal

two_below : AreBelow 9 (5 ∷ 6 ∷ [])
two_below zero x is = let e : Some 5 ≡ Some x = is in let same : 5 ≡ x = (cc) in omega (arith, same)
two_below (suc zero) x is = let e : Some 6 ≡ Some x = is in let same : 6 ≡ x = (cc) in omega (arith, same)
two_below (suc (suc k)) x is = absurd (cc)

-- no number is below 0, so nothing was ever put
none_below : (numbers : List ℕ) → AreBelow 0 numbers → numbers ≡ []
none_below [] low = refl
none_below (x ∷ numbers) low = let below : x < 0 = low 0 x refl in absurd (omega (arith, below))

none_at : (v : Sight) (items : List ℕ) → v.limit ≡ 0 → (h : Stand v items) → h.done ++ items ≡ []
none_at v items at_0 h = none_below (h.done ++ items) (subst (λ limit. AreBelow limit (h.done ++ items)) at_0 h.low)

first_empty : (xs ys : List ℕ) → xs ++ ys ≡ [] → xs ≡ []
first_empty [] ys e = refl
first_empty (x ∷ xs) ys e = absurd (cc)

second_empty : (xs ys : List ℕ) → xs ++ ys ≡ [] → ys ≡ []
second_empty [] ys e = e
second_empty (x ∷ xs) ys e = absurd (cc)

pub returns-clause-at_limit : goal.returns-clause-at_limit
returns-clause-at_limit c low = let below : 6 < 6 = low 1 6 refl in omega (arith, below)

pub returns-clause-stood : goal.returns-clause-stood
returns-clause-stood c = record { done = 5 ∷ []; seen = ([], refl); takes = omega arith; low = two_below }

pub returns-clause-none_put : goal.returns-clause-none_put
returns-clause-none_put c v at_0 put (items, _, h) =
    let nothing : v.puts ≡ [] = first_empty v.puts h.seen.0 (h.seen.1 ∙ none_at v items at_0 h) in
    absurd (cc)

pub returns-clause-none_taken : goal.returns-clause-none_taken
returns-clause-none_taken c v at_0 one (items, _, h) =
    let nothing : h.done ≡ [] = first_empty h.done items (none_at v items at_0 h) in
    omega (arith, one, h.takes, ap length nothing)

pub returns-clause-never_full : goal.returns-clause-never_full
returns-clause-never_full c v at_0 (items, long, h) =
    let nothing : items ≡ [] = second_empty h.done items (none_at v items at_0 h) in
    omega (arith, long, ap length nothing)
