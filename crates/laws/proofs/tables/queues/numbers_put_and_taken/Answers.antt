use Rattle.std.proofs.Common.{◌≡◌, ◌++◌, ℕ, List, [], ◌∷◌, refl, sym, ap, ◌∙◌}
use Rattle.erase_queue.specs.declared.sight.Sight.{Sight}
use Rattle.laws.proofs.tables.queues.numbers_put_and_taken.Goals as goal

no_end : (before : List ℕ) → before ++ 7 ∷ [] ≡ [] → ⊥
no_end [] e = absurd (cc)
no_end (a ∷ before) e = absurd (cc)

-- a number that was put last is not the first of two
seven_is_last : (before : List ℕ) → before ++ 7 ∷ [] ≡ 7 ∷ 5 ∷ [] → ⊥
seven_is_last [] e = absurd (cc)
seven_is_last (a ∷ []) e = absurd (cc)
seven_is_last (a ∷ b ∷ before) e = let rest : before ++ 7 ∷ [] ≡ [] = (cc) in no_end before rest

pub returns-clause-put : goal.returns-clause-put
returns-clause-put c = record { before = 5 ∷ 6 ∷ []; seen = (6 ∷ [], refl); changed = refl }

pub returns-clause-in_front : goal.returns-clause-in_front
returns-clause-in_front c v w puts did = seven_is_last did.before (sym (ap (λ (x : Sight). x.puts) did.changed) ∙ puts)
