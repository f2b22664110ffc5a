use Rattle.std.proofs.Common.{◌≡◌, Option, None, Some, refl, sym, arith, ap, ◌∙◌, subst}
use Rattle.broom.specs.declared.broom.Broom.{Broom}
use Rattle.broom.specs.Ready.{blocks_of_broom, view_of_broom}
use Rattle.flash_table.specs.Flash.{view_of}
use Rattle.flash_table.specs.declared.pass.Pass.{Pass}
use Rattle.volume.specs.Volume.{IsFresh, flash_of, queue_of}
use Rattle.volume.specs.declared.volume.Volume.{Volume}
use Rattle.exports.specs.declared.handle.seat.Host.{Host}
use Rattle.exports.specs.declared.handle.seat.Seat.{Seat}
use Rattle.exports.specs.declared.handle.seat.Seat.TheVariants as seat
use Rattle.exports.specs.declared.handle.seat.Sweeper.{Sweeper}
use Rattle.exports.specs.Handles.{seat_of}
use Rattle.exports.specs.Opening.{IsBroomIn, IsPassIn}
use Rattle.exports.specs.Shared.{host_volume, sweeper_volume}
use Rattle.exports.proofs.laws.opens_of_shared_devices.Goals as goal

host_in : (v : Volume) (p : Pass) (x : Option Seat) → IsPassIn v p x → (h : Host) × (x ≡ Some (seat.Host h)) × (host_volume h ≡ v) × (h.pass ≡ p)
host_in v p None is = absurd is
host_in v p (Some (seat.One l)) is = absurd is
host_in v p (Some (seat.Host h)) is = (h, refl, is.0, is.1)
host_in v p (Some (seat.Sweeper s)) is = absurd is
host_in v p (Some (seat.Holder k)) is = absurd is
host_in v p (Some seat.Away) is = absurd is

broom_in : (v : Volume) (b : Broom) (x : Option Seat) → IsBroomIn v b x → (s : Sweeper) × (x ≡ Some (seat.Sweeper s)) × (sweeper_volume s ≡ v) × (s.broom ≡ b)
broom_in v b None is = absurd is
broom_in v b (Some (seat.One l)) is = absurd is
broom_in v b (Some (seat.Host h)) is = absurd is
broom_in v b (Some (seat.Sweeper s)) is = (s, refl, is.0, is.1)
broom_in v b (Some (seat.Holder k)) is = absurd is
broom_in v b (Some seat.Away) is = absurd is

pub returns-clause-hosts : goal.returns-clause-hosts
returns-clause-hosts c n h g a =
    let it = a.host 1 h (omega arith) in
    let found = host_in a.volume it.0 (seat_of g) it.2 in
    (found.0, found.1, found.2, ap view_of found.3 ∙ it.1)

pub returns-clause-brooms : goal.returns-clause-brooms
returns-clause-brooms c n h g a =
    let it = a.broom 1 h (omega arith) in
    let found = broom_in a.volume it.0 (seat_of g) it.2 in (
      found.0,
      found.1,
      found.2,
      ap view_of_broom found.3 ∙ it.1.0.0,
      ap blocks_of_broom found.3 ∙ it.1.0.1,
      subst (λ (b : Broom). IsFresh (flash_of a.volume) (queue_of a.volume) b) (sym found.3) it.1.1,
    )
