-- What a struct keeps together with a hold.
use Rattle.std.specs.Prelude.{ℕ, List, []}
use Rattle.std.proofs.Props.{props}
use Rattle.flash_rule.specs.declared.facts.Pin.{Pin}
use Rattle.flash_rule.specs.declared.facts.Pin.TheVariants as pin
use Rattle.flash_table.specs.declared.flash.Flash.{Flash}
use Rattle.flash_table.specs.Flash.{view_of}
use Rattle.host.specs.declared.holding.Held.{Held}
use Rattle.host.specs.Holding.{Holds, pass_of}

-- the value of an accepted pin
abbrev pub pinned_value : Pin → List ℕ
pinned_value pin.Clear = []
pinned_value (pin.Candidate page value) = []
pinned_value (pin.Accepted page value) = value
pinned_value (pin.Stray block) = []

-- the value that is held
abbrev pub held_value : Held → List ℕ
held_value h = pinned_value (view_of (pass_of h)).pin

-- that a value is held is a fact with at most one proof, so that a struct can keep it together with its hold
pub Holds-prop : (f : Flash) (h : Held) (value : List ℕ) → IsProp (Holds f h value)
Holds-prop f h value = hlevel props
