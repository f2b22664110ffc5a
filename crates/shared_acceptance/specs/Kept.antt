-- The one device of a row or a schedule, and what is held there; a seat of a broom at rest.
use Rattle.std.specs.Prelude.{◌≡◌, ℕ, Option, List, [], Some}
use Rattle.std.proofs.Props.{props}
use Rattle.geometry.specs.Geometry.{page_bytes_of, words_of}
use Rattle.flash_rule.specs.declared.facts.Pin.{Pin}
use Rattle.flash_rule.specs.declared.facts.Pin.TheVariants as pin
use Rattle.flash_table.specs.declared.flash.Flash.{Flash}
use Rattle.flash_table.specs.Flash.{view_of, geometry_of}
use Rattle.flash_table.specs.declared.broom_seat.BroomSeat.{BroomSeat}
use Rattle.broom.specs.Once.{number-prop, filed-prop}
use Rattle.broom.specs.Ready.{IsRested}
use Rattle.host.specs.declared.holding.Held.{Held}
use Rattle.host.specs.Holding.{Holds, pass_of}
use Rattle.volume.specs.declared.volume.Volume.{Volume}
use Rattle.volume.specs.Volume.{flash_of}

-- the value that a pin has, if it is accepted
abbrev pub value_in : Pin → List ℕ
value_in pin.Clear = []
value_in (pin.Candidate at value) = []
value_in (pin.Accepted at value) = value
value_in (pin.Stray block) = []

-- the value that is held
abbrev pub held_value : Held → List ℕ
held_value h = value_in (view_of (pass_of h)).pin

-- This is the device, with pages of four words
abbrev pub IsHome : Option Volume → Volume → Type 0
IsHome home v =
    (home ≡ Some v) × (page_bytes_of (geometry_of (flash_of v)) ≡ 32) × (words_of (geometry_of (flash_of v)) ≡ 4)

-- that this value is held is a fact with at most one proof, so that a struct can keep it together with its hold
pub Holds-prop : (f : Flash) (h : Held) (value : List ℕ) → IsProp (Holds f h value)
Holds-prop f h value = hlevel props

-- that a broom's seat rests is a fact with at most one proof, so that a struct can keep it together with its seat
pub IsRested-prop : (f : Flash) (s : BroomSeat) → IsProp (IsRested f s)
IsRested-prop f s = hlevel (props, number-prop, filed-prop)
