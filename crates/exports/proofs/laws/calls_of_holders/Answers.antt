use Rattle.std.proofs.Common.{◌≡◌, ℕ, refl, arith, Option, None, Some}
use Rattle.flash_rule.specs.declared.facts.Pin.TheVariants.{Clear}
use Rattle.flash_table.specs.Flash.{opened_of, view_of}
use Rattle.host.specs.Holding.{Found, pass_of}
use Rattle.host.specs.declared.holding.Held.{Held}
use Rattle.host.specs.declared.holding.Holding.TheVariants as holding
use Rattle.volume.specs.Volume.{flash_of}
use Rattle.volume.specs.declared.volume.Volume.{Volume}
use Rattle.exports.specs.declared.handle.seat.Holder.{Holder}
use Rattle.exports.specs.declared.handle.seat.Host.{Host}
use Rattle.exports.specs.declared.handle.seat.Seat.{Seat}
use Rattle.exports.specs.declared.handle.seat.Seat.TheVariants as seat
use Rattle.exports.specs.Holding.{HoldCalled, HolderCalled, ReleaseCalled}
use Rattle.exports.specs.Shared.{holder_volume, host_volume}
use Rattle.exports.proofs.laws.calls_of_holders.Goals as goal

hold : (h : Host) (s : ℕ) (y : Option Seat) → HoldCalled s 1 (Some (seat.Host h)) y
    → (k : Holder) × (y ≡ Some (seat.Holder k)) × (k.volume ≡ h.volume) × Found (flash_of (host_volume h)) (view_of h.pass) s (holding.Held k.held)
hold h s None said = absurd said
hold h s (Some (seat.One l)) said = absurd said
hold h s (Some (seat.Host g)) said = absurd (said.1 refl)
hold h s (Some (seat.Sweeper t)) said = absurd said
hold h s (Some (seat.Holder k)) said = (k, refl, said.0, said.2)
hold h s (Some seat.Away) said = absurd said

hold_empty : (h : Host) (s : ℕ) (y : Option Seat) → HoldCalled s 0 (Some (seat.Host h)) y
    → (g : Host) × (y ≡ Some (seat.Host g)) × (g.volume ≡ h.volume) × Found (flash_of (host_volume h)) (view_of h.pass) s (holding.Empty g.pass)
hold_empty h s None said = absurd said
hold_empty h s (Some (seat.One l)) said = absurd said
hold_empty h s (Some (seat.Host g)) said = (g, refl, said.0, said.3 refl)
hold_empty h s (Some (seat.Sweeper t)) said = absurd said
hold_empty h s (Some (seat.Holder k)) said = absurd (omega (arith, said.1))
hold_empty h s (Some seat.Away) said = absurd said

hold_refused : (h : Host) (s : ℕ) (y : Option Seat) → HoldCalled s 3 (Some (seat.Host h)) y
    → (g : Host) × (y ≡ Some (seat.Host g)) × (g.volume ≡ h.volume) × (g.pass ≡ h.pass)
hold_refused h s None said = absurd said
hold_refused h s (Some (seat.One l)) said = absurd said
hold_refused h s (Some (seat.Host g)) said = (g, refl, said.0, said.2 refl)
hold_refused h s (Some (seat.Sweeper t)) said = absurd said
hold_refused h s (Some (seat.Holder k)) said = absurd (omega (arith, said.1))
hold_refused h s (Some seat.Away) said = absurd said

held : (k : Holder) (x : Volume) (a b : Held) (y : Option Seat) → HolderCalled (Some (seat.Holder k)) y (λ v p q. (v ≡ x) × (p ≡ a) × (q ≡ b))
    → (j : Holder) × (y ≡ Some (seat.Holder j)) × (j.volume ≡ k.volume) × (holder_volume k ≡ x) × (k.held ≡ a) × (j.held ≡ b)
held k x a b None said = absurd said
held k x a b (Some (seat.One l)) said = absurd said
held k x a b (Some (seat.Host h)) said = absurd said
held k x a b (Some (seat.Sweeper s)) said = absurd said
held k x a b (Some (seat.Holder j)) said = (j, refl, said.0, said.1.0, said.1.1, said.1.2)
held k x a b (Some seat.Away) said = absurd said

release : (k : Holder) (y : Option Seat) → ReleaseCalled (Some (seat.Holder k)) y
    → (h : Host) × (y ≡ Some (seat.Host h)) × (h.volume ≡ k.volume)
    × (view_of h.pass ≡ record (view_of (pass_of k.held)) { pin = Clear }) × (opened_of h.pass ≡ opened_of (pass_of k.held))
release k None said = absurd said
release k (Some (seat.One l)) said = absurd said
release k (Some (seat.Host h)) said = (h, refl, said.0, said.1, said.2)
release k (Some (seat.Sweeper s)) said = absurd said
release k (Some (seat.Holder j)) said = absurd said
release k (Some seat.Away) said = absurd said

pub returns-clause-hold : goal.returns-clause-hold
returns-clause-hold c h s y said = hold h s y said

pub returns-clause-hold_empty : goal.returns-clause-hold_empty
returns-clause-hold_empty c h s y said = hold_empty h s y said

pub returns-clause-hold_refused : goal.returns-clause-hold_refused
returns-clause-hold_refused c h s y said = hold_refused h s y said

pub returns-clause-held : goal.returns-clause-held
returns-clause-held c k x a b y said = held k x a b y said

pub returns-clause-release : goal.returns-clause-release
returns-clause-release c k y said = release k y said
