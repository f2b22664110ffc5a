use Rattle.std.proofs.Common.{◌≡◌, refl, Option, None, Some}
use Rattle.broom.specs.declared.broom.Broom.{Broom}
use Rattle.volume.specs.declared.volume.Volume.{Volume}
use Rattle.exports.specs.declared.handle.seat.Seat.{Seat}
use Rattle.exports.specs.declared.handle.seat.Seat.TheVariants as seat
use Rattle.exports.specs.declared.handle.seat.Sweeper.{Sweeper}
use Rattle.exports.specs.Shared.{BroomCalled, sweeper_volume}
use Rattle.exports.proofs.laws.calls_of_brooms.Goals as goal

broom : (s : Sweeper) (x : Volume) (a c : Broom) (y : Option Seat) → BroomCalled (Some (seat.Sweeper s)) y (λ v p q. (v ≡ x) × (p ≡ a) × (q ≡ c))
    → (t : Sweeper) × (y ≡ Some (seat.Sweeper t)) × (t.volume ≡ s.volume) × (sweeper_volume s ≡ x) × (s.broom ≡ a) × (t.broom ≡ c)
broom s x a c None said = absurd said
broom s x a c (Some (seat.One l)) said = absurd said
broom s x a c (Some (seat.Host h)) said = absurd said
broom s x a c (Some (seat.Sweeper t)) said = (t, refl, said.0, said.1.0, said.1.1, said.1.2)
broom s x a c (Some (seat.Holder k)) said = absurd said
broom s x a c (Some seat.Away) said = absurd said

pub returns-clause-broom : goal.returns-clause-broom
returns-clause-broom c s x a d y said = broom s x a d y said
