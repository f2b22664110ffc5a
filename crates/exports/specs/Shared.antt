-- A handle of a shared device, as its caller sees it. For each call one total function gives the code that has to be returned, and says
-- between which passes or brooms the clauses of the device's own call hold.
use Rattle.std.specs.Prelude.{◌≡◌, ◌≤◌, ℕ, nat_le, if◌then◌else◌, List, [], length, Option, None, Some, is_some}
use Rattle.std.specs.Arc.{arc_value}
use Rattle.geometry.specs.declared.geometry.Geometry.{Geometry}
use Rattle.geometry.specs.Geometry.{sectors_of, blocks_of}
use Rattle.geometry.specs.Sectors.{Sector, was_of}
use Rattle.geometry.specs.History.{Call, Trim, held}
use Rattle.geometry.specs.declared.answer.Was.{Was}
use Rattle.flash_table.specs.declared.pass.Pass.{Pass}
use Rattle.flash_table.specs.Flash.{view_of, geometry_of}
use Rattle.broom.specs.Handing.{DrainedBy, HandsNothing, IsBelow}
use Rattle.broom.specs.declared.answer.Drain.{Drain}
use Rattle.broom.specs.declared.broom.Broom.{Broom}
use Rattle.broom.specs.declared.turns.Choice.{Choice}
use Rattle.volume.specs.declared.volume.Volume.{Volume}
use Rattle.volume.specs.Volume.{flash_of}
use Rattle.volume.specs.Correct.{Asked, Answer, Does, Replaced}
use Rattle.flash_table.specs.Steps.{HasCalled, HasNumber}
use Rattle.host.specs.Told.{Refused, Wrote, WroteNew}
use Rattle.host.specs.Holding.{pass_of}
use Rattle.exports.specs.declared.handle.seat.Holder.{Holder}
use Rattle.exports.specs.declared.handle.seat.Host.{Host}
use Rattle.exports.specs.declared.handle.seat.Sweeper.{Sweeper}
use Rattle.exports.specs.declared.handle.seat.Seat.{Seat}
use Rattle.exports.specs.declared.handle.seat.Seat.TheVariants as seat
use Rattle.exports.specs.declared.reports.NumbersReport.{NumbersReport}
use Rattle.exports.specs.Codes.{was_code, was_by, as_number, erase_code, erase_by}
use Rattle.exports.specs.declared.codes.TheConstants.{DONE, WRITTEN, CLOSED, NO_SECTOR, NOT_A_PAGE, NO_BLOCK, WRONG_KIND, NO_SUCH_BLOCK}
use Rattle.exports.specs.One.{by_place, page_over, reported}

-- the numbers of a volume
abbrev pub numbers_of : Volume → Geometry
numbers_of v = geometry_of (flash_of v)

-- the volume of a host
abbrev pub host_volume : Host → Volume
host_volume h = arc_value h.volume

-- the volume of a broom's seat
abbrev pub sweeper_volume : Sweeper → Volume
sweeper_volume s = arc_value s.volume

-- the volume of a host that holds
abbrev pub holder_volume : Holder → Volume
holder_volume k = arc_value k.volume

-- by the seat of a handle: the first if the handle is closed, the second if its seat is no host, and otherwise a value by the host
abbrev pub by_host : {X : Type 0} → Option Seat → X → X → (Host → X) → X
by_host None closed other value = closed
by_host (Some (seat.Host h)) closed other value = value h
by_host (Some _) closed other value = other

-- the same for a broom
abbrev pub by_sweeper : {X : Type 0} → Option Seat → X → X → (Sweeper → X) → X
by_sweeper None closed other value = closed
by_sweeper (Some (seat.Sweeper s)) closed other value = value s
by_sweeper (Some _) closed other value = other

-- the code of a host's call
abbrev pub host_code : Option Seat → (Host → ℕ) → ℕ
host_code x code = by_host x CLOSED WRONG_KIND code

-- the code of a broom's call
abbrev pub sweeper_code : Option Seat → (Sweeper → ℕ) → ℕ
sweeper_code x code = by_sweeper x CLOSED WRONG_KIND code

-- what a host's call leaves of a handle: a host stays one at its device, and this holds of the device and of its pass before and after; any
-- other handle is unchanged
abbrev pub HostCalled : Option Seat → Option Seat → (Volume → Pass → Pass → Type 0) → Type 0
HostCalled (Some (seat.Host h)) (Some (seat.Host g)) says = (g.volume ≡ h.volume) × says (host_volume h) h.pass g.pass
HostCalled (Some (seat.Host h)) _ says = ⊥
HostCalled before after says = after ≡ before

-- what a broom's call leaves of a handle: a broom stays one at its device, and this holds of the device and of it before and after; any other
-- handle is unchanged
abbrev pub BroomCalled : Option Seat → Option Seat → (Volume → Broom → Broom → Type 0) → Type 0
BroomCalled (Some (seat.Sweeper s)) (Some (seat.Sweeper t)) says = (t.volume ≡ s.volume) × says (sweeper_volume s) s.broom t.broom
BroomCalled (Some (seat.Sweeper s)) _ says = ⊥
BroomCalled before after says = after ≡ before

-- a broom drained so, by this choice of the block: it put nothing into the queue and took nothing from it, and the block is one of the device's
pub record Drains (choice : Choice) (v : Volume) (before : Broom) (answer : Drain) (after : Broom) : Type 0 where
  pub told : DrainedBy choice before answer after
  pub queue : HandsNothing before after
  pub below : IsBelow (blocks_of (numbers_of v)) answer

-- all that the pass of a handle's host has seen of the history
abbrev pub seen_of : Option Seat → List Call
seen_of (Some (seat.Host h)) = (view_of h.pass).seen
seen_of (Some (seat.Holder k)) = (view_of (pass_of k.held)).seen
seen_of _ = []

-- what a sector of a host's device holds after a history
abbrev pub sector_after : Host → List Call → ℕ → Sector
sector_after h seen s = held (sectors_of (numbers_of (host_volume h))) seen s

-- one of two, by whether a host's device has a sector
abbrev pub by_sector : Host → ℕ → ℕ → ℕ → ℕ
by_sector h s no_sector good = if nat_le (sectors_of (numbers_of (host_volume h))) s then no_sector else good

-- the code of a read, by what its pass has seen in the end
abbrev pub read_code : ℕ → ℕ → List Call → Host → ℕ
read_code s n seen h = by_place (numbers_of (host_volume h)) s n NO_SECTOR NOT_A_PAGE (was_code (was_of (sector_after h seen s)))

-- the buffer after a read
abbrev pub read_buffer : ℕ → List ℕ → List Call → Host → List ℕ
read_buffer s out seen h = by_place (numbers_of (host_volume h)) s (length out) out out (page_over (sector_after h seen s) out)

-- the code of a look, by what its pass has seen in the end: whether the sector is written
abbrev pub look_code : ℕ → List Call → Host → ℕ
look_code s seen h = by_sector h s NO_SECTOR (as_number (is_some (sector_after h seen s)))

-- the code of a write that has passed its checks: what the sector was, or that no block was found
abbrev pub block_found : ℕ → ℕ
block_found n = if nat_le n WRITTEN then n else NO_BLOCK

-- the code of a write
abbrev pub write_code : ℕ → ℕ → ℕ → Host → ℕ
write_code s n result h = by_place (numbers_of (host_volume h)) s n NO_SECTOR NOT_A_PAGE (block_found result)

-- the code of a trim: what the sector was
abbrev pub trim_code : ℕ → ℕ → Host → ℕ
trim_code s result h = by_sector h s NO_SECTOR (was_code (was_by result))

-- the code of an erase, by what it answered of a block that exists
abbrev pub erased_code : ℕ → ℕ → Sweeper → ℕ
erased_code b result s = if nat_le (blocks_of (numbers_of (sweeper_volume s))) b then NO_SUCH_BLOCK else erase_code (erase_by result b)

-- the code of a report on the numbers: a device for one thread has another call
abbrev pub numbers_code : Option Seat → ℕ
numbers_code None = CLOSED
numbers_code (Some (seat.One l)) = WRONG_KIND
numbers_code (Some seat.Away) = WRONG_KIND
numbers_code (Some _) = DONE

-- the report on the numbers of a handle's device
abbrev pub numbers_report : NumbersReport → Option Seat → NumbersReport
numbers_report out (Some (seat.Host h)) = reported (numbers_of (host_volume h))
numbers_report out (Some (seat.Sweeper s)) = reported (numbers_of (sweeper_volume s))
numbers_report out (Some (seat.Holder k)) = reported (numbers_of (holder_volume k))
numbers_report out _ = out

-- what a host asked was answered so, as one step of the array of its device's sectors
unfoldable pub IsStep : Volume → Pass → Asked → Answer → Pass → Type 0
IsStep v p asked answer q = Does v p asked answer q

-- the pass has written these bytes to the sector, which was so
unfoldable pub HasWritten : Pass → ℕ → List ℕ → Was → Pass → Type 0
HasWritten p s bytes was q = (t : ℕ) → HasNumber t p → Wrote (view_of p) t s bytes was (view_of q)

-- the same of a write of an empty sector
unfoldable pub HasWrittenNew : Pass → ℕ → List ℕ → Was → Pass → Type 0
HasWrittenNew p s bytes was q = (t : ℕ) → HasNumber t p → WroteNew (view_of p) t s bytes was (view_of q)

-- the pass has emptied the sector, which was so
unfoldable pub HasTrimmed : Pass → ℕ → Was → Pass → Type 0
HasTrimmed p s was q = (t : ℕ) → HasNumber t p → HasCalled p (Trim t s) s was q

-- a write has ended with this code: it was one step of the array, and wrote so; or it found no block; or the pass is as it was
pub record WriteEnds (v : Volume) (p : Pass) (asked : Asked) (has : Was → Pass → Type 0) (result : ℕ) (q : Pass) : Type 0 where
  pub correct : result ≤ WRITTEN → IsStep v p asked (Replaced (was_by result)) q
  pub wrote : result ≤ WRITTEN → has (was_by result) q
  pub refused : result ≡ NO_BLOCK → Refused (view_of p) (view_of q)
  pub sector : result ≡ NO_SECTOR → q ≡ p
  pub page : result ≡ NOT_A_PAGE → q ≡ p
