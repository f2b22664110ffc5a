-- Updates that lie between two lists.
use Rattle.std.proofs.Common.{◌≡◌, ◌⊎◌, ◌∙◌, inl, inr, ⊎_elim, ◌≤◌, Bool, true, false, List, [], ◌∷◌, length, refl, sym, ap, subst, arith}
use Rattle.std.proofs.lemmas.Bool.{cases_eq}
use Rattle.durable.specs.declared.command.Command.{Command}
use Rattle.durable.specs.declared.command.Command.TheVariants.{Program, Copy, Erase, Refused}
use Rattle.durable.specs.Retiring.{updates_left}
use Rattle.durable.specs.Updates.{Update, IsSubsequence}

pub all_of : (all : List Update) → IsSubsequence all all
all_of [] = refl
all_of (update ∷ all) = inr (all, refl, all_of all)

no_longer : (some all : List Update) → IsSubsequence some all → length some ≤ length all
no_longer some [] is = omega (arith, ap length is)
no_longer some (update ∷ all) is = ⊎_elim
    (λ left. omega (arith, no_longer some all left))
    (λ taken. omega (arith, ap length taken.1, no_longer taken.0 all taken.2))
    is

whole : (some all : List Update) → IsSubsequence some all → length some ≡ length all → some ≡ all
whole some [] is same = is
whole some (update ∷ all) is same = ⊎_elim
    (λ left. absurd (omega (arith, no_longer some all left, same)))
    (λ taken. taken.1 ∙ ap (λ (rest : List Update). update ∷ rest)
    (whole taken.0 all taken.2 (omega (arith, same, ap length taken.1))))
    is

-- between a list and itself is only the list
pub between_same : (updates found : List Update) → IsSubsequence updates found → IsSubsequence found updates → found ≡ updates
between_same updates found lower upper = whole found updates upper (omega (arith, no_longer updates found lower, no_longer found updates upper))

-- between a list and the same with one update more are only these two
pub between_next : (update : Update) (updates found : List Update) → IsSubsequence updates found → IsSubsequence found (update ∷ updates)
    → (found ≡ updates) ⊎ (found ≡ update ∷ updates)
between_next update updates found lower upper = ⊎_elim
    (λ same. inl (sym (whole updates found lower (sym same))))
    (λ more. inr (whole found (update ∷ updates) upper
    (omega (arith, more, no_longer updates found lower, no_longer found (update ∷ updates) upper))))
    (cases_eq (length found) (length updates))

-- a list without its first update
pub without_first : (update : Update) (some all : List Update) → IsSubsequence (update ∷ some) all → IsSubsequence some all
without_first update some [] is = absurd (omega (arith, ap length is))
without_first update some (first ∷ all) is = ⊎_elim
    (λ left. inl (without_first update some all left))
    (λ taken. inl (subst (λ (rest : List Update). IsSubsequence rest all) (sym (same_rest update first some taken.0 taken.1)) taken.2))
    is
  where
    same_rest : (a b : Update) (x y : List Update) → a ∷ x ≡ b ∷ y → x ≡ y
    same_rest a b x y e = cc e

-- a command that failed has made its update or not
pub made_or_not : (left : Bool) (m : Command) (update : Update) (was : List Update)
    → (updates_left left m update was ≡ was) ⊎ (updates_left left m update was ≡ update ∷ was)
made_or_not true (Program at n) update was = inr refl
made_or_not true (Copy k from to) update was = inl refl
made_or_not true (Erase b) update was = inl refl
made_or_not true Refused update was = inl refl
made_or_not false m update was = inl refl
