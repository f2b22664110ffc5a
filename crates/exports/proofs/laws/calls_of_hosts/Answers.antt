use Rattle.std.proofs.Common.{◌≡◌, refl, Option, None, Some}
use Rattle.flash_table.specs.declared.pass.Pass.{Pass}
use Rattle.exports.specs.declared.handle.seat.Host.{Host}
use Rattle.exports.specs.declared.handle.seat.Seat.{Seat}
use Rattle.exports.specs.declared.handle.seat.Seat.TheVariants as seat
use Rattle.exports.specs.Shared.{HostCalled, host_volume}
use Rattle.exports.proofs.laws.calls_of_hosts.Goals as goal
use Rattle.volume.specs.declared.volume.Volume.{Volume}

host : (h : Host) (x : Volume) (a b : Pass) (y : Option Seat) → HostCalled (Some (seat.Host h)) y (λ v p q. (v ≡ x) × (p ≡ a) × (q ≡ b))
    → (g : Host) × (y ≡ Some (seat.Host g)) × (g.volume ≡ h.volume) × (host_volume h ≡ x) × (h.pass ≡ a) × (g.pass ≡ b)
host h x a b None said = absurd said
host h x a b (Some (seat.One l)) said = absurd said
host h x a b (Some (seat.Host g)) said = (g, refl, said.0, said.1.0, said.1.1, said.1.2)
host h x a b (Some (seat.Sweeper s)) said = absurd said
host h x a b (Some (seat.Holder k)) said = absurd said
host h x a b (Some seat.Away) said = absurd said

pub returns-clause-host : goal.returns-clause-host
returns-clause-host c h x a b y said = host h x a b y said
