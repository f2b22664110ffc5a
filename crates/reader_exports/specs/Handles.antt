-- What a handle of C has.
use Rattle.std.specs.Prelude.{Option}
use Rattle.std.specs.Borrow.{Lends, MutBor, Fml}
use Rattle.handles.specs.declared.handle.Handle.{Handle as Typed}
use Rattle.handles.specs.contracts.handle.Handle as typed_handles
use Rattle.reader_exports.specs.declared.seat.Seat.{Seat}
use Rattle.reader_exports.specs.contracts.seat.Seat as seats
use Rattle.reader_exports.specs.declared.handle.Handle.{Handle}
use Rattle.reader_exports.specs.contracts.handle.Handle.{the_row}

-- the seat of a handle, if it is open
abbrev pub seat_of : Handle → Option Seat
seat_of h = h.slot.seat

-- the handle with its type
abbrev pub typed_map : Handle → Typed Seat
typed_map h = record { slot = record { at = h.slot.at; value = h.slot.seat }; is_open = h.is_open; known = h.known }

-- the handle as C has it
abbrev pub map_handle_of : Typed Seat → Handle
map_handle_of t = record { slot = record { at = t.slot.at; seat = t.slot.value }; is_open = t.is_open; known = t.known }

-- the handle ends as what was left behind the typed reference
abbrev pub LendsMap : MutBor Handle → MutBor (Typed Seat) → Fml
LendsMap h t = Lends the_row (typed_handles.the_row seats.the_row) h t map_handle_of
