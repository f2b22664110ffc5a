-- The opening of a shared device: the code that has to be returned, and what the handles have then.
use Rattle.std.specs.Prelude.{◌≡◌, ℕ, ◌<◌, ◌==◌, Bool, nat_le, if◌then◌else◌, List, length, slice_index_or, Option, None, Some}
use Rattle.geometry.specs.Geometry.{numbers_of as numbers_in}
use Rattle.geometry.specs.Limits.{Numbers, first_fault}
use Rattle.geometry.specs.declared.limits.GeometryFault.{GeometryFault}
use Rattle.flash_table.specs.declared.pass.Pass.{Pass}
use Rattle.flash_table.specs.Flash.{view_of, device, first_view}
use Rattle.broom.specs.declared.broom.Broom.{Broom}
use Rattle.volume.specs.Volume.{IsFresh, IsUnused, flash_of, queue_of}
use Rattle.volume.specs.declared.volume.Volume.{Volume}
use Rattle.exports.specs.declared.handle.Handle.{Handle}
use Rattle.exports.specs.declared.handle.seat.Seat.{Seat}
use Rattle.exports.specs.declared.handle.seat.Seat.TheVariants as seat
use Rattle.exports.specs.Codes.{fault_code}
use Rattle.exports.specs.declared.codes.TheConstants.{DONE, NO_MEMORY, ALREADY_OPEN, BAD_SEATS}
use Rattle.exports.specs.Handles.{seat_of}
use Rattle.exports.specs.Shared.{numbers_of, host_volume, sweeper_volume}

-- the handle is closed
abbrev pub HasNoSeat : Handle → Type 0
HasNoSeat h = seat_of h ≡ None

-- a number, or the bound if it is greater
abbrev pub capped : ℕ → ℕ → ℕ
capped most n = if nat_le n most then n else most

-- the code of a fault of a shared device's numbers: a device without a host has the same fault as one with too many hosts
abbrev pub shared_fault_code : ℕ → GeometryFault → ℕ
shared_fault_code hosts f = if hosts == 0 then capped BAD_SEATS (fault_code f) else fault_code f

-- the code of an open of closed handles, by the first fault of the numbers, and then by whether the heap had room
abbrev pub shared_open_by : ℕ → Option GeometryFault → Bool → ℕ
shared_open_by hosts (Some f) had_room = shared_fault_code hosts f
shared_open_by hosts None had_room = if hosts == 0 then BAD_SEATS else (if had_room then DONE else NO_MEMORY)

-- the code of an open: whether a handle is open is checked before the faults
abbrev pub shared_open_code : Bool → Numbers → Bool → ℕ
shared_open_code closed n had_room = if closed then shared_open_by n.hosts (first_fault n) had_room else ALREADY_OPEN

-- a seat is this pass, at this device
abbrev pub IsPassIn : Volume → Pass → Option Seat → Type 0
IsPassIn v p None = ⊥
IsPassIn v p (Some (seat.One l)) = ⊥
IsPassIn v p (Some (seat.Host h)) = (host_volume h ≡ v) × (h.pass ≡ p)
IsPassIn v p (Some (seat.Sweeper s)) = ⊥
IsPassIn v p (Some (seat.Holder k)) = ⊥
IsPassIn v p (Some seat.Away) = ⊥

-- a seat is this broom, at this device
abbrev pub IsBroomIn : Volume → Broom → Option Seat → Type 0
IsBroomIn v b None = ⊥
IsBroomIn v b (Some (seat.One l)) = ⊥
IsBroomIn v b (Some (seat.Host h)) = ⊥
IsBroomIn v b (Some (seat.Sweeper s)) = (sweeper_volume s ≡ v) × (s.broom ≡ b)
IsBroomIn v b (Some (seat.Holder k)) = ⊥
IsBroomIn v b (Some seat.Away) = ⊥

-- this holds of each element of a list, by its index
abbrev pub EachAt : {X : Type 0} → (ℕ → X → Type 0) → List X → Type 0
EachAt {X} P xs = (k : ℕ) (x : X) → k < length xs → P k (slice_index_or xs k x)

-- pass t of a device has done nothing yet
abbrev pub IsFirstPass : Volume → ℕ → Pass → Type 0
IsFirstPass v t p = view_of p ≡ first_view (device (flash_of v)) t

-- broom i of a device has done nothing yet: it has made no survey, and set nothing aside
abbrev pub IsFirstBroom : Volume → ℕ → Broom → Type 0
IsFirstBroom v i b = IsUnused (flash_of v) i b × IsFresh (flash_of v) (queue_of v) b

-- a handle has pass t of this device, which has done nothing yet
abbrev pub IsFreshHost : Volume → ℕ → Handle → Type 0
IsFreshHost v t h = (p : Pass) × IsFirstPass v t p × IsPassIn v p (seat_of h)

-- a handle has broom i of this device, which has done nothing yet
abbrev pub IsFreshBroom : Volume → ℕ → Handle → Type 0
IsFreshBroom v i h = (b : Broom) × IsFirstBroom v i b × IsBroomIn v b (seat_of h)

-- the handles have the hosts and the brooms of one device of these numbers, in their order, each as it is before its first call
pub record AreFresh (n : Numbers) (hosts brooms : List Handle) : Type 0 where
  pub volume : Volume
  pub numbers : numbers_in (numbers_of volume) ≡ n
  pub host : EachAt (IsFreshHost volume) hosts
  pub broom : EachAt (IsFreshBroom volume) brooms
