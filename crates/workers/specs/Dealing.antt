-- What the workers of a run receive: the device, a pass each, and a share of the trace; and the workers that the shares make.
use Rattle.std.specs.Prelude.{◌≡◌, ℕ, ◌<◌, All, List, [], Some, length, slice_get, Vec, map}
use Rattle.std.proofs.Props.{props}
use Rattle.geometry.specs.Geometry.{brooms_of, hosts_of, page_bytes_of}
use Rattle.geometry.specs.declared.geometry.Geometry.{Geometry}
use Rattle.flash_table.specs.declared.pass.Pass.{Pass}
use Rattle.flash_table.specs.Flash.{view_of, device, geometry_of, first_view}
use Rattle.host.specs.Ready.{IsReady}
use Rattle.broom.specs.declared.broom.Broom.{Broom}
use Rattle.trace.specs.declared.commands.Command.{Command}
use Rattle.rounds.specs.Answers.{page_size_of, said_in, HasSpaceFor}
use Rattle.rounds.specs.declared.answer_list.Answers.{Answers}
use Rattle.workers.specs.Playable.{IsLine, lines_at}
use Rattle.volume.specs.declared.volume.Volume.{Volume}
use Rattle.volume.specs.Volume.{IsBroomReady, IsBroomReady-prop, IsUnused, flash_of}
use Rattle.std.specs.declared.sync.Arc.{Arc}
use Rattle.std.specs.Arc.{arc_value}
use Rattle.std.specs.Global.{Global}
use Rattle.std.specs.List.{range_with_len}
use Rattle.rounds.specs.Plans.{places_for}
use Rattle.workers.specs.declared.worker.Worker.{Worker}
use Rattle.workers.specs.declared.worker.share.Share.{Share}

-- passes and brooms that are ready at a device
pub record AreReady (volume : Volume) (passes : List Pass) (brooms : List Broom) : Type 0 where
  pub passes_ready : All (IsReady (flash_of volume)) passes
  pub brooms_ready : All (IsBroomReady volume) brooms

-- that they are ready is a fact with at most one proof, so that a struct can keep it
pub AreReady-prop : (volume : Volume) (passes : List Pass) (brooms : List Broom) → IsProp (AreReady volume passes brooms)
AreReady-prop volume passes brooms = hlevel (props, IsBroomReady-prop)

-- A new device of this geometry, with a pass for each host and all its brooms, each at its number. No pass and no broom has done or seen
-- anything
pub record AreNew (geo : Geometry) (volume : Volume) (passes : List Pass) (brooms : List Broom) : Type 0 where
  pub geometry : geometry_of (flash_of volume) ≡ geo
  pub playing : length passes ≡ hosts_of geo
  pub collecting : length brooms ≡ brooms_of geo
  pub first : (t : ℕ) (p : Pass) → slice_get passes t ≡ Some p → view_of p ≡ first_view (device (flash_of volume)) t
  pub unused : (i : ℕ) (b : Broom) → slice_get brooms i ≡ Some b → IsUnused (flash_of volume) i b

-- these indexes are of lines that a device of this geometry can do
pub record AreDoable (geo : Geometry) (lines : List Command) (places : List ℕ) : Type 0 where
  pub there : All (λ p. p < length lines) places
  pub doable : All (IsLine geo) (lines_at lines places)

-- A share of a trace: indexes of lines that can be done, no answers and room for those of the lines, and a buffer of a page
pub record IsFit (geo : Geometry) (lines : List Command) (places : List ℕ) (answers : Answers) (buffer : List ℕ) : Type 0 where
  pub doable : AreDoable geo lines places
  pub none : said_in answers ≡ []
  pub page : page_size_of answers ≡ page_bytes_of geo
  pub space : HasSpaceFor answers (lines_at lines places)
  pub paged : length buffer ≡ page_bytes_of geo

-- the commands of a trace, and the indexes of the share's lines among them
abbrev pub work_in : Share → List Command × List ℕ
work_in s = (arc_value s.commands, s.places.items)

-- the same, of commands and a list of indexes
abbrev pub with_commands : List Command → Vec ℕ Global → List Command × List ℕ
with_commands cs row = (cs, row.items)

-- the indexes of each worker's lines among commands
abbrev pub rows_for : ℕ → List Command → List (List ℕ)
rows_for hosts cs = map (λ t. places_for t cs) (range_with_len 0 hosts)

-- a share that a device of this geometry can play
abbrev pub HasFitShare : Geometry → Share → Type 0
HasFitShare geo s = IsFit geo (arc_value s.commands) s.places.items s.answers s.buffer.items

-- the commands that a worker has, and the indexes of its lines among them
abbrev pub work_of : Worker → List Command × List ℕ
work_of p = (arc_value p.commands, p.places.items)

-- the worker has played no line
abbrev pub HasPlayedNone : Worker → Type 0
HasPlayedNone p = said_in p.answers ≡ []

-- an owner of this device
abbrev pub IsOwner : Volume → Arc Volume Global → Type 0
IsOwner volume owner = arc_value owner ≡ volume
