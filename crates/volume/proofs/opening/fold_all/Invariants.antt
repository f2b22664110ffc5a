use Rattle.std.proofs.Common.{◌≡◌, All, None}
use Rattle.broom.specs.{Handing.aside_of, Ready.IsReady}
use Rattle.volume.proofs.opening.fold_all.Given as goal

abbrev pub invariant-loop-broom : goal.invariant-loop-broom
invariant-loop-broom l = All (λ b. IsReady l.flash b × (aside_of b ≡ None)) l.brooms.items

abbrev pub decreases-loop-broom : goal.decreases-loop-broom
decreases-loop-broom l = goal.left-loop-broom l
