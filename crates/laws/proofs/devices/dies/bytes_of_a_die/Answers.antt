use Rattle.std.proofs.Common.{◌≡◌, ◌≤◌, ◌+◌, ◌*◌, ℕ, zero, suc, [], ◌∷◌, refl, ap, arith}
use Rattle.die.specs.Storage.{slot}
use Rattle.std.specs.Prelude.{◌≢◌, slice_index}
use Rattle.laws.proofs.devices.dies.bytes_of_a_die.Goals as goal

others_stay : (k : ℕ) → k ≢ 1 → (k + 1) * 1 ≤ 2 → slot 1 (1 ∷ 3 ∷ []) k ≡ slot 1 (1 ∷ 2 ∷ []) k
unfolding slot
others_stay zero apart low = refl
others_stay (suc zero) apart low = absurd (apart refl)
others_stay (suc (suc k)) apart low = absurd (omega (arith, low))

pub returns-clause-slots : goal.returns-clause-slots
unfolding slot
returns-clause-slots c = (refl, refl)

pub returns-clause-puts : goal.returns-clause-puts
unfolding slot
returns-clause-puts c = record { size = refl; changed = refl; others = others_stay }

pub returns-clause-elsewhere : goal.returns-clause-elsewhere
unfolding slot
returns-clause-elsewhere c h =
    let e : 4 ≡ 1 = ap (λ l. slice_index l 0) (h.others 0 (λ (e : 0 ≡ 1). omega (arith, e)) (omega arith)) in absurd (omega (arith, e))

pub returns-clause-not_there : goal.returns-clause-not_there
unfolding slot
returns-clause-not_there c h = let e : 4 ≡ 3 = ap (λ l. slice_index l 0) h.changed in absurd (omega (arith, e))
