-- What a call on a held page returns, and what it leaves.
use Rattle.std.specs.Prelude.{◌≡◌, ◌≢◌, ℕ, ◌==◌, nat_le, if◌then◌else◌, List, length, Option, None, Some}
use Rattle.geometry.specs.Geometry.{words_of, page_bytes_of}
use Rattle.geometry.specs.History.{Call}
use Rattle.geometry.specs.Sectors.{was_of}
use Rattle.flash_rule.specs.World.{data_word}
use Rattle.flash_rule.specs.declared.facts.Pin.TheVariants.{Clear}
use Rattle.flash_table.specs.Flash.{view_of, opened_of}
use Rattle.host.specs.declared.holding.Held.{Held}
use Rattle.host.specs.declared.holding.Holding.TheVariants as holding
use Rattle.host.specs.Holding.{Found, pass_of, page_of}
use Rattle.volume.specs.Volume.{flash_of}
use Rattle.volume.specs.declared.volume.Volume.{Volume}
use Rattle.exports.specs.declared.reports.PageReport.{PageReport}
use Rattle.exports.specs.declared.handle.seat.Host.{Host}
use Rattle.exports.specs.declared.handle.seat.Holder.{Holder}
use Rattle.exports.specs.declared.handle.seat.Seat.{Seat}
use Rattle.exports.specs.declared.handle.seat.Seat.TheVariants as seat
use Rattle.exports.specs.Codes.{was_code}
use Rattle.exports.specs.declared.codes.TheConstants.{DONE, WRITTEN, CLOSED, NO_SECTOR, NOT_A_PAGE, WRONG_KIND, NO_SUCH_BLOCK}
use Rattle.exports.specs.Holds.{held_value}
use Rattle.exports.specs.Shared.{numbers_of, host_volume, holder_volume, sector_after, by_sector}

-- by the seat of a handle: the first if the handle is closed, the second if its seat holds no page, and otherwise a value by the holder
abbrev pub by_holder : {X : Type 0} → Option Seat → X → X → (Holder → X) → X
by_holder None closed other value = closed
by_holder (Some (seat.Holder k)) closed other value = value k
by_holder (Some _) closed other value = other

-- the code of a call on a held page
abbrev pub holder_code : Option Seat → (Holder → ℕ) → ℕ
holder_code x code = by_holder x CLOSED WRONG_KIND code

-- the code of a hold: what the sector is, by what the pass has seen in the end
abbrev pub hold_code : ℕ → List Call → Host → ℕ
hold_code s seen h = by_sector h s NO_SECTOR (was_code (was_of (sector_after h seen s)))

-- what a host's hold leaves: it holds what was found at the sector, or it is a host as before, which has found the sector empty or has not
-- looked
abbrev pub HoldLeaves : Host → ℕ → ℕ → Seat → Type 0
HoldLeaves h s code (seat.Host g) = (g.volume ≡ h.volume) × (code ≢ WRITTEN) × (code ≡ NO_SECTOR → g.pass ≡ h.pass)
    × (code ≡ DONE → Found (flash_of (host_volume h)) (view_of h.pass) s (holding.Empty g.pass))
HoldLeaves h s code (seat.Holder g) = (g.volume ≡ h.volume) × (code ≡ WRITTEN) × Found (flash_of (host_volume h)) (view_of h.pass) s (holding.Held g.held)
HoldLeaves h s code _ = ⊥

-- what a hold leaves of a handle: one that has no host is unchanged
abbrev pub HoldCalled : ℕ → ℕ → Option Seat → Option Seat → Type 0
HoldCalled s code (Some (seat.Host h)) (Some after) = HoldLeaves h s code after
HoldCalled s code (Some (seat.Host h)) None = ⊥
HoldCalled s code before after = after ≡ before

-- what a call on a held page leaves of a handle: the same page is held at the same device, and this holds of the device and of the hold before
-- and after; any other handle is unchanged
abbrev pub HolderCalled : Option Seat → Option Seat → (Volume → Held → Held → Type 0) → Type 0
HolderCalled (Some (seat.Holder k)) (Some (seat.Holder j)) says = (j.volume ≡ k.volume) × says (holder_volume k) k.held j.held
HolderCalled (Some (seat.Holder k)) _ says = ⊥
HolderCalled before after says = after ≡ before

-- the code of a copy of a held page
abbrev pub copy_code : ℕ → Holder → ℕ
copy_code n k = if n == page_bytes_of (numbers_of (holder_volume k)) then WRITTEN else NOT_A_PAGE

-- the buffer after a copy
abbrev pub copied : List ℕ → Holder → List ℕ
copied out k = if length out == page_bytes_of (numbers_of (holder_volume k)) then held_value k.held else out

-- the code of a word of a held page
abbrev pub word_code : ℕ → Holder → ℕ
word_code i k = if nat_le (words_of (numbers_of (holder_volume k))) i then NO_SUCH_BLOCK else DONE

-- word i of a held page
abbrev pub word_read : ℕ → ℕ → Holder → ℕ
word_read i out k = if nat_le (words_of (numbers_of (holder_volume k))) i then out else data_word (held_value k.held) i

-- where a held page is
abbrev pub page_report : Holder → PageReport
page_report k = record { block = (page_of k.held).block; generation = (page_of k.held).generation }

-- the hold is given up: the pass is as it was, with nothing pinned
abbrev pub ReleaseLeaves : Holder → Seat → Type 0
ReleaseLeaves k (seat.Host h) = (h.volume ≡ k.volume) × (view_of h.pass ≡ record (view_of (pass_of k.held)) { pin = Clear })
    × (opened_of h.pass ≡ opened_of (pass_of k.held))
ReleaseLeaves k _ = ⊥

-- what a release leaves of a handle: one that holds nothing is unchanged
abbrev pub ReleaseCalled : Option Seat → Option Seat → Type 0
ReleaseCalled (Some (seat.Holder k)) (Some after) = ReleaseLeaves k after
ReleaseCalled (Some (seat.Holder k)) None = ⊥
ReleaseCalled before after = after ≡ before
