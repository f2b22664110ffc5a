use denote.Param.Send.{IsSend, owning_send, sendable}
use Rattle.handles.proofs.SendableValues.{kept_keyless}
use Rattle.reader_exports.specs.contracts.seat.Seat as seats
use Rattle.reader_exports.specs.contracts.slot.Slot.{the_row, the_type}
use Rattle.reader_exports.proofs.seat.Seat.TheSendSync.{the_send}

pub send : IsSend the_row
send = owning_send the_type (search sendable, tt) (λ d. kept_keyless seats.the_row the_send d.at d.seat) (λ k x w. tt)
