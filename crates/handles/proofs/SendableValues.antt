-- What a handle keeps may go to another thread, as its value may, and any thread may free a block of the heap.
use mir.Raw.{raw}
use base.Shift.{Keyless}
use denote.Memory.{lone}
use denote.Param.Send.{IsSend}
use denote.RattleType.{RattleType}
use denote.RawPtr.{Ptr}
use Rattle.std.specs.Prelude.{Option, Some, None}
use Rattle.std_alloc.proofs.SendSync.{lies}
use Rattle.std.proofs.Crossing.{frees}
use Rattle.handles.specs.Kept.{heap, kept}

pub kept_keyless : (T : RattleType) → IsSend T → (p : Ptr) (x : Option T.Denot) → Keyless (kept T p x)
kept_keyless T sends p None = tt
kept_keyless T sends p (Some x) = (lies T sends p x, frees.frees heap (raw (lone T.mir)) p)
