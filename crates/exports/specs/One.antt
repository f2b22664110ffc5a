-- A device for one thread as its caller sees it. For each call one total function gives the code that has to be returned and the state
-- after the call, from the state of the handle, the numbers and the bytes that were passed.
use Rattle.std.specs.Prelude.{◌≡◌, ℕ, ◌==◌, Bool, true, false, nat_le, if◌then◌else◌, List, length, replicate, Option, None, Some}
use Rattle.geometry.specs.declared.geometry.Geometry.{Geometry}
use Rattle.geometry.specs.Geometry.{blocks_of, sectors_of, page_bytes_of, numbers_of}
use Rattle.geometry.specs.Limits.{Numbers, first_fault}
use Rattle.geometry.specs.Sectors.{Sector, sector_at, was_of}
use Rattle.geometry.specs.History.{Call, Write, WriteNew, Trim, step}
use Rattle.geometry.specs.declared.answer.Was.{Was}
use Rattle.geometry.specs.declared.answer.Was.TheVariants as was
use Rattle.geometry.specs.declared.limits.GeometryFault.{GeometryFault}
use Rattle.ftl_one.specs.declared.one_ftl.OneFtl.{OneFtl}
use Rattle.ftl_one.specs.OneFtl.{geometry_of, array_of, stock_of}
use Rattle.ftl_one.specs.Stock.{Stock, Block, next, opening, live_of, is_retired}
use Rattle.ftl_one.specs.Laws.{block_at}
use Rattle.exports.specs.declared.handle.Handle.{Handle}
use Rattle.exports.specs.declared.handle.seat.Seat.{Seat}
use Rattle.exports.specs.declared.handle.seat.Seat.TheVariants as seat
use Rattle.exports.specs.declared.reports.Totals.{Totals}
use Rattle.exports.specs.declared.reports.BlockReport.{BlockReport}
use Rattle.exports.specs.declared.reports.NumbersReport.{NumbersReport}
use Rattle.exports.specs.Codes.{was_code, fault_code, as_number}
use Rattle.exports.specs.declared.codes.TheConstants.{DONE, WRITTEN, CLOSED, NO_SECTOR, NOT_A_PAGE, WORN_OUT, NO_MEMORY, ALREADY_OPEN}
use Rattle.exports.specs.declared.codes.TheConstants.{WRONG_KIND, NO_SUCH_BLOCK}
use Rattle.exports.specs.Handles.{seat_of}

-- an open device: its numbers, what its sectors hold, and its blocks with the totals
pub record Machine : Type 0 where
  pub numbers : Geometry
  pub array : List Sector
  pub stock : Stock

-- a handle is closed, or has a device for one thread, or another seat
pub data State : Type 0 where
  Closed : State
  Open : Machine → State
  Other : Seat → State

-- a layer as a machine
abbrev pub machine_of : OneFtl → Machine
machine_of l = record { numbers = geometry_of l; array = array_of l; stock = stock_of l }

-- a seat as a state
abbrev pub state_in : Seat → State
state_in (seat.One l) = Open (machine_of l)
state_in (seat.Host h) = Other (seat.Host h)
state_in (seat.Sweeper s) = Other (seat.Sweeper s)
state_in (seat.Holder k) = Other (seat.Holder k)
state_in seat.Away = Other seat.Away

-- the state, by the seat that the handle has
abbrev pub state_by : Option Seat → State
state_by None = Closed
state_by (Some x) = state_in x

-- the state of a handle, as its caller sees it
abbrev pub state_of : Handle → State
state_of h = state_by (seat_of h)

-- what a call returns, and the state that it leaves
pub record Outcome : Type 0 where
  pub code : ℕ
  pub state : State

-- a call that is refused leaves the machine unchanged
abbrev pub refused : ℕ → Machine → Outcome
refused code m = record { code = code; state = Open m }

-- a call that changes a machine, on any state: a closed handle and another seat have codes of their own, and are unchanged
abbrev pub on_state : State → (Machine → Outcome) → Outcome
on_state Closed on_machine = record { code = CLOSED; state = Closed }
on_state (Open m) on_machine = on_machine m
on_state (Other x) on_machine = record { code = WRONG_KIND; state = Other x }

-- the code of a call that changes no machine, on any state
abbrev pub code_on : State → (Machine → ℕ) → ℕ
code_on Closed on_machine = CLOSED
code_on (Open m) on_machine = on_machine m
code_on (Other x) on_machine = WRONG_KIND

-- what a buffer or a report is after a call: without a machine it is unchanged
abbrev pub filled_on : {X : Type 0} → State → X → (Machine → X) → X
filled_on Closed out on_machine = out
filled_on (Open m) out on_machine = on_machine m
filled_on (Other x) out on_machine = out

-- what a sector of a machine is
abbrev pub was_at : Machine → ℕ → Was
was_at m s = was_of (sector_at m.array s)

-- one of three, by a sector and the length of a buffer: the first if there is no such sector, the second if the length is not a page's, and
-- otherwise the third
abbrev pub by_place : {X : Type 0} → Geometry → ℕ → ℕ → X → X → X → X
by_place g s n no_sector not_a_page good =
    if nat_le (sectors_of g) s then no_sector else (if n == page_bytes_of g then good else not_a_page)

-- a call that the layer makes steps the array and the stock; if no page is left it is refused as worn out
abbrev pub taken : Machine → Call → ℕ → Option Stock → Outcome
taken m call code (Some stock) = record { code = code; state = Open (record { numbers = m.numbers; array = step m.array call; stock = stock }) }
taken m call code None = refused WORN_OUT m

-- a write returns what the sector was
abbrev pub write_on : ℕ → List ℕ → Machine → Outcome
write_on s bytes m =
    by_place m.numbers s (length bytes) (refused NO_SECTOR m) (refused NOT_A_PAGE m)
    (taken m (Write 0 s bytes) (was_code (was_at m s)) (next m.numbers m.stock (Write 0 s bytes)))

-- a write of an empty sector: a written sector is refused, and an empty one is written
abbrev pub write_new_by : ℕ → List ℕ → Machine → Was → Outcome
write_new_by s bytes m was.Written = refused WRITTEN m
write_new_by s bytes m was.Empty = taken m (WriteNew 0 s bytes) DONE (next m.numbers m.stock (WriteNew 0 s bytes))

-- a write of an empty sector, by what the sector is
abbrev pub write_new_on : ℕ → List ℕ → Machine → Outcome
write_new_on s bytes m = by_place m.numbers s (length bytes) (refused NO_SECTOR m) (refused NOT_A_PAGE m) (write_new_by s bytes m (was_at m s))

-- a trim returns what the sector was
abbrev pub trim_on : ℕ → Machine → Outcome
trim_on s m =
    if nat_le (sectors_of m.numbers) s then refused NO_SECTOR m else taken m (Trim 0 s) (was_code (was_at m s)) (next m.numbers m.stock (Trim 0 s))

-- the code of a read: what the sector is
abbrev pub read_on : ℕ → ℕ → Machine → ℕ
read_on s n m = by_place m.numbers s n NO_SECTOR NOT_A_PAGE (was_code (was_at m s))

-- a buffer after a read: an empty sector leaves it unchanged
abbrev pub page_over : Sector → List ℕ → List ℕ
page_over None out = out
page_over (Some page) out = page

-- the buffer of a read
abbrev pub buffer_on : ℕ → List ℕ → Machine → List ℕ
buffer_on s out m = by_place m.numbers s (length out) out out (page_over (sector_at m.array s) out)

-- the totals of a machine
abbrev pub totals_on : Machine → Totals
totals_on m = record { programs = m.stock.programs; copies = m.stock.copies; erases = m.stock.erases }

-- the eight numbers of a geometry, as they are reported
abbrev pub reported : Geometry → NumbersReport
reported g = let n = numbers_of g in
    record {
      luns = n.luns;
      blocks = n.blocks;
      pages = n.pages;
      words = n.words;
      sectors = n.sectors;
      endurance = n.endurance;
      hosts = n.hosts;
      brooms = n.brooms;
    }

-- the code of a report on a block
abbrev pub block_on : ℕ → Machine → ℕ
block_on b m = if nat_le (blocks_of m.numbers) b then NO_SUCH_BLOCK else DONE

-- a block, as it is reported
abbrev pub block_report : Block → BlockReport
block_report block = record { erases = block.erases; live = live_of block; retired = as_number (is_retired block.role) }

-- the report on a block: for one that does not exist it is unchanged
abbrev pub report_on : ℕ → BlockReport → Machine → BlockReport
report_on b out m = if nat_le (blocks_of m.numbers) b then out else block_report (block_at m.stock b)

-- the code of an open, by the first fault of its numbers, if there is one, and otherwise by whether the heap had room, which no state says
abbrev pub open_by : Option GeometryFault → Bool → ℕ
open_by (Some f) had_room = fault_code f
open_by None true = DONE
open_by None false = NO_MEMORY

-- the code of an open: whether a handle is open is checked before the faults
abbrev pub open_code : Option Seat → Numbers → Bool → ℕ
open_code (Some x) n had_room = ALREADY_OPEN
open_code None n had_room = open_by (first_fault n) had_room

-- the handle has a machine of these numbers, before its first call
pub record IsFresh (n : Numbers) (m : Machine) : Type 0 where
  pub numbers : numbers_of m.numbers ≡ n
  pub array : m.array ≡ replicate n.sectors None
  pub stock : m.stock ≡ opening m.numbers

-- the state is open, with a machine of these numbers before its first call
abbrev pub IsFreshIn : Numbers → State → Type 0
IsFreshIn n Closed = ⊥
IsFreshIn n (Open m) = IsFresh n m
IsFreshIn n (Other x) = ⊥
