-- What the sectors are with which a device is closed, and the parts of a close.
use Rattle.std.specs.Prelude.{◌≡◌, ℕ, ◌+◌, ◌<◌, ◌++◌, List, Option, Vec, map, option_map, length, [], None, Some, slice_get, slice_index_or}
use Rattle.std.specs.Global.{Global}
use Rattle.geometry.specs.Limits.{Numbers}
use Rattle.geometry.specs.History.{Call, after, held, Begins}
use Rattle.geometry.specs.declared.words.Phase.TheVariants.{Closed as ClosedPhase}
use Rattle.geometry.specs.Sectors.{Sector, sector_at}
use Rattle.flash_rule.specs.declared.facts.Name.TheVariants.{Pass as APass}
use Rattle.flash_rule.specs.declared.facts.Role.TheVariants.{Player}
use Rattle.flash_rule.specs.declared.facts.Owned.{Owned}
use Rattle.flash_rule.specs.declared.view.View.{View}
use Rattle.flash_rule.specs.Views.{AreOfHosts, calls_of}
use Rattle.flash_table.specs.declared.pass.Pass.{Pass}
use Rattle.flash_table.specs.Flash.{device, view_of, retired_view, geometry_of}
use Rattle.flash_table.specs.declared.flash.Flash.{Flash}
use Rattle.volume.specs.declared.closing.Closed.{Closed}
use Rattle.geometry.specs.Geometry.{hosts_of}

-- the array that a row of values is
abbrev pub array_of : List (Option (Vec ℕ Global)) → List Sector
array_of values = map (option_map (λ value. value.items)) values

-- the array of sectors that is left
abbrev pub sectors_left : Closed → List Sector
sectors_left c = array_of c.sectors.items

-- what the first pass knew last
abbrev pub last_view : Closed → View
last_view c = retired_view c.first

-- the pass is in the list
abbrev pub IsIn : List Pass → Pass → Type 0
IsIn passes p = (k : ℕ) × (slice_get passes k ≡ Some p)

-- each pass of the device is in the list
abbrev pub AreAll : ℕ → List Pass → Type 0
AreAll hosts passes = (t : ℕ) → t < hosts → (p : Pass) × IsIn passes p × ((view_of p).role ≡ Player (APass t))

-- The sectors were read one after another: each is what it is after a history that begins with all that the passes had seen, and that is a
-- beginning of all that the first pass, which reads, has seen in the end; the histories grow. Their calls are of hosts, and those of the
-- first pass are its own and no others
pub record AreRead (z : Numbers) (passes : List Pass) (last : List Call) (sectors : List Sector) : Type 0 where
  pub long : length sectors ≡ z.sectors
  pub history : ℕ → List Call
  pub later : (s : ℕ) (p : Pass) → IsIn passes p → Begins (view_of p).seen (history s)
  pub grows : (s : ℕ) → Begins (history s) (history (s + 1))
  pub seen : (s : ℕ) → Begins (history s) last
  pub callers : (s : ℕ) → AreOfHosts z (history s)
  pub own : (s t : ℕ) (p : Pass) → slice_get passes 0 ≡ Some p → (view_of p).role ≡ Player (APass t) → calls_of t (history s) ≡ (view_of p).mine
  pub each : (s : ℕ) → s < z.sectors → sector_at sectors s ≡ held z.sectors (history s) s

-- The sectors are those after one history: it begins with all that each pass had seen, the first pass has seen all of it in the end, and
-- its calls are those of the passes, each with exactly its own
pub record AreFinal (z : Numbers) (passes : List Pass) (last : List Call) (sectors : List Sector) : Type 0 where
  pub history : List Call
  pub later : (p : Pass) → IsIn passes p → Begins (view_of p).seen history
  pub seen : Begins history last
  pub callers : AreOfHosts z history
  pub own : (t : ℕ) (p : Pass) → IsIn passes p → (view_of p).role ≡ Player (APass t) → calls_of t history ≡ (view_of p).mine
  pub array : sectors ≡ after z.sectors history

-- the values with which a device was closed are its sectors after one history
abbrev pub IsFinal : Flash → List Pass → Closed → Type 0
IsFinal f passes closed = AreFinal (device f) passes (last_view closed).seen (sectors_left closed)

-- these open blocks as their owner leaves them when it closes them
abbrev pub closed_blocks : List Owned → List Owned
closed_blocks owns = map (λ (o : Owned). record o { phase = ClosedPhase }) owns

-- The pass has looked and was then given up: it has closed the block that it owned, if there was one, and fills no page, and nothing else
-- has changed
pub record HasLeft (v w : View) : Type 0 where
  pub changed : w ≡ record v {
    seen = w.seen;
    looks = w.looks;
    pin = w.pin;
    known = w.known;
    copy = w.copy;
    older = w.older;
    owns = [];
    work = None;
    ceded = v.ceded ++ closed_blocks v.owns;
  }
  pub later : Begins v.seen w.seen

-- The pass has looked, and nothing else has changed: its calls, its programs, its counts of takes and its block are as they were
pub record HasLooked (v w : View) : Type 0 where
  pub changed : w ≡ record v { seen = w.seen; looks = w.looks; pin = w.pin; known = w.known; copy = w.copy; older = w.older }
  pub later : Begins v.seen w.seen

-- Each pass of a row has looked, and nothing else has changed of it
pub record HaveLooked (ps qs : List Pass) : Type 0 where
  pub long : length qs ≡ length ps
  pub each : (k : ℕ) (p q : Pass) → slice_get ps k ≡ Some p → slice_get qs k ≡ Some q → HasLooked (view_of p) (view_of q)

-- Two passes that met: the first has seen all that the other one had, and the other one all that the first had
pub record Tied (v : View) (p : Pass) (w : View) (q : Pass) : Type 0 where
  pub looked : HasLooked (view_of p) (view_of q)
  pub brought : Begins (view_of p).seen w.seen
  pub given : Begins v.seen (view_of q).seen

-- One pass met each of a list, one after another
pub record MetEach (v : View) (ps : List Pass) (w : View) (qs : List Pass) : Type 0 where
  pub first : HasLooked v w
  pub long : length qs ≡ length ps
  pub each : (k : ℕ) (p q : Pass) → k < length ps → Tied v (slice_index_or ps k p) w (slice_index_or qs k q)

-- The sectors so far, as one pass has read them
pub record HasRead (n : ℕ) (v : View) (sectors : List Sector) (w : View) : Type 0 where
  pub looked : HasLooked v w
  pub history : ℕ → List Call
  pub later : (s : ℕ) → Begins v.seen (history s)
  pub grows : (s : ℕ) → Begins (history s) (history (s + 1))
  pub last : (s : ℕ) → Begins (history s) w.seen
  pub own : (s t : ℕ) → v.role ≡ Player (APass t) → calls_of t (history s) ≡ v.mine
  pub each : (s : ℕ) → s < length sectors → sector_at sectors s ≡ held n (history s) s

-- the values are those that the first pass has read, of a list of passes that was so before
abbrev pub IsReadBy : Flash → List Pass → List Pass → List (Option (Vec ℕ Global)) → Type 0
IsReadBy f old new values = (q : Pass) → slice_get new 0 ≡ Some q → AreRead (device f) old (view_of q).seen (array_of values)

-- and if the passes are all those of the device, they are those after one history
abbrev pub IsFinalBy : Flash → List Pass → List Pass → List (Option (Vec ℕ Global)) → Type 0
IsFinalBy f old new values = (q : Pass) → slice_get new 0 ≡ Some q → AreAll (hosts_of (geometry_of f)) old
    → AreFinal (device f) old (view_of q).seen (array_of values)
