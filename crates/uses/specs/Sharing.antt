-- What hosts that share a device know of each other, and a hold and a broom; what a pass reads after a write of its own, and lines of a trace that name
-- one sector.
use Rattle.std.specs.Prelude.{ℕ, List, [], ◌∷◌, ◌++◌, ◌≡◌, Some, slice_get, Bool, if◌then◌else◌}
use Rattle.geometry.specs.History.{Call, Write, held, Begins}
use Rattle.geometry.specs.Sectors.{Answers}
use Rattle.geometry.specs.declared.answer.Got.{Got}
use Rattle.flash_rule.specs.declared.view.View.{View}
use Rattle.geometry.specs.declared.words.MapWord.{MapWord}
use Rattle.flash_rule.specs.declared.facts.Cycle.{Cycle}
use Rattle.trace.specs.declared.commands.Command.{Command}
use Rattle.trace.specs.declared.commands.Op.TheVariants as op
use Rattle.flash_rule.specs.declared.facts.Name.TheVariants.{Pass as APass}
use Rattle.flash_rule.specs.declared.facts.Role.TheVariants.{Player}
use Rattle.flash_rule.specs.Views.{calls_of}

-- A pass wrote a sector, not before anything that it had seen, and then read it: the read was answered at a place of the history that
-- begins with everything up to the write, so the read is not older than the write
pub record IsReadBehind (n t s : ℕ) (value : List ℕ) (v : View) (got : Got) (old new : List ℕ) : Type 0 where
  pub before : List Call
  pub later : Begins v.seen before
  pub place : List Call
  pub behind : Begins (before ++ Write t s value ∷ []) place
  pub answered : Answers (held n place s) got old new

-- none of these erases is that of the page's block in the page's generation
abbrev pub HasNoErase : List Cycle → MapWord → Type 0
HasNoErase erases m = (k : ℕ) → ¬ (slice_get erases k ≡ Some (record { block = m.block; generation = m.generation }))

-- a line in which a worker reads a sector
abbrev pub read_by : ℕ → ℕ → Command
read_by worker sector = record { worker = worker; op = op.Read; sector = sector; page = [] }

-- a line in which a worker empties a sector
abbrev pub trim_by : ℕ → ℕ → Command
trim_by worker sector = record { worker = worker; op = op.Trim; sector = sector; page = [] }

-- Pass t has written a value to a sector, if this says that it was done, and has made no other call
pub record IsStoredBy (t s : ℕ) (value : List ℕ) (v : View) (done : Bool) (w : View) : Type 0 where
  pub role : w.role ≡ Player (APass t)
  pub later : Begins v.seen w.seen
  pub mine : w.mine ≡ v.mine ++ (if done then Write t s value ∷ [] else [])

-- A pass has written a value to a sector, if this says that it was done, and has made no other call
pub record IsStored (s : ℕ) (value : List ℕ) (v : View) (done : Bool) (w : View) : Type 0 where
  pub told : (t : ℕ) → v.role ≡ Player (APass t) → IsStoredBy t s value v done w

-- A pass has seen a history with all calls that pass t has made, which knows this
pub record HasSeenCallsOf (t : ℕ) (other v : View) : Type 0 where
  pub history : List Call
  pub seen : Begins history v.seen
  pub calls : calls_of t history ≡ other.mine

-- A pass has seen a history with all calls that another one has made, as its view says
pub record HasHeard (other v : View) : Type 0 where
  pub told : (t : ℕ) → other.role ≡ Player (APass t) → HasSeenCallsOf t other v
