-- The map of two sectors of which the laws speak.
use Rattle.std.proofs.Common.{◌≡◌, ◌<◌, ℕ, zero, suc, true, false, List, [], ◌∷◌, length, slice_index, refl, sym, ap, subst, ◌∙◌, arith}
use mathlib.Core.Option.{some, some-injective, some-ne-none}
use lib.ListN.{get_elem?}
use Rattle.std.proofs.lemmas.List.{length-append}
use Rattle.version_map.specs.History.{version_in, version_after, Continues}
use Rattle.version_map.specs.Rule.{LawfulMap}
use Rattle.version_map.specs.Examples.{publisher, onlooker}
use Rattle.version_map.specs.declared.sighting.Sighting.{Sighting}

pub nothing_continues : (c : ℕ × ℕ) (h : List (ℕ × ℕ)) → Continues [] (c ∷ h) → ⊥
nothing_continues c h (newer, e) = let lengths = ap length e in omega (arith, lengths, length-append newer (c ∷ h))

two : (P : ℕ → Sighting → Type 0) → P 0 (publisher ((0, 3) ∷ [])) → P 1 (onlooker []) → (i : ℕ) (v : Sighting)
    → get_elem? (publisher ((0, 3) ∷ []) ∷ onlooker [] ∷ []) i ≡ some v → P i v
two P p q zero v is = subst (P 0) (some-injective _ v is) p
two P p q (suc zero) v is = subst (P 1) (some-injective _ v is) q
two P p q (suc (suc i)) v is = absurd (some-ne-none v (sym is))

versions : (s : ℕ) → s < 2 → version_in 10 (slice_index (37 ∷ 0 ∷ []) s) ≡ version_after ((0, 3) ∷ []) s
versions zero low = refl
versions (suc zero) low = refl
versions (suc (suc s)) low = absurd (omega (arith, low))

pub two_sectors : LawfulMap (record { sectors = 2; pages = 10 }) ((0, 3) ∷ []) (37 ∷ 0 ∷ []) (publisher ((0, 3) ∷ []) ∷ onlooker [] ∷ [])
two_sectors =
    let no : false ≡ true → ⊥ = λ e. cc in
    let of_publisher : (i : ℕ) (v : Sighting) → get_elem? (publisher ((0, 3) ∷ []) ∷ onlooker [] ∷ []) i ≡ some v → v.publishes ≡ true → i ≡ 0 =
    two (λ i v. v.publishes ≡ true → i ≡ 0) (λ _. refl) (λ e. absurd (no e)) in record {
      size = refl;
      versions = versions;
      saw = two (λ i v. Continues ((0, 3) ∷ []) v.seen × Continues ((0, 3) ∷ []) v.told)
          (([], refl), ((0, 3) ∷ [], refl)) (((0, 3) ∷ [], refl), ((0, 3) ∷ [], refl));
      all = two (λ i v. v.publishes ≡ true → v.seen ≡ (0, 3) ∷ []) (λ _. refl) (λ e. absurd (no e));
      one = λ i j v w here is there is'. of_publisher i v here is ∙ sym (of_publisher j w there is');
    }
