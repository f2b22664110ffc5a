use Rattle.std.proofs.Common.{◌≡◌, [], ◌∷◌, length, refl, ap, arith}
use Rattle.version_map.specs.declared.sighting.Sighting.{Sighting}
use Rattle.version_map.proofs.laws.steps.Goals as goal

pub returns-clause-look : goal.returns-clause-look
returns-clause-look c = (
  refl,
  record { later = ((0, 3) ∷ [], refl); heard = ((0, 3) ∷ [], refl); version = refl; counted = refl; same = (refl, refl); all = λ e. cc },
)

pub returns-clause-changes_nothing : goal.returns-clause-changes_nothing
returns-clause-changes_nothing c (slots, is) = let lengths : 0 ≡ 1 = ap (λ (v : Sighting). length v.seen) is in omega (arith, lengths)
