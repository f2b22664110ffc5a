-- What the brooms of a run have done at its end, each by its number.
use Rattle.std.specs.Prelude.{◌≡◌, List, [], ◌∷◌, ℕ, ◌+◌, ◌%◌, ◌^◌, length}
use Rattle.flash_table.specs.GivingUp.{closed_broom}
use Rattle.broom.specs.Ready.{folded_place, folded_view, blocks_of_broom, view_of_broom}
use Rattle.broom.specs.Handing.{LeftAt}
use Rattle.workers.specs.declared.collector.Collector.{Collector}
use Rattle.workers.specs.declared.collector.collector_end.CollectorEnd.{CollectorEnd}
use Rattle.workers.specs.Collecting.{limit_at, HasCollected, listed_by_erases}
use Rattle.std.specs.Arc.{arc_value}
use Rattle.geometry.specs.Geometry.{brooms_of}
use Rattle.geometry.specs.declared.geometry.Geometry.{Geometry}
use Rattle.flash_rule.specs.declared.facts.Name.TheVariants.{Broom as ABroom}
use Rattle.flash_rule.specs.declared.facts.Role.TheVariants.{Player}
use Rattle.flash_rule.specs.declared.view.View.{View}
use Rattle.flash_table.specs.Flash.{geometry_of}
use Rattle.broom.specs.declared.broom.Broom.{Broom}
use Rattle.volume.specs.declared.volume.Volume.{Volume}
use Rattle.volume.specs.Volume.{IsUnused, flash_of}
use Rattle.workers.specs.declared.collector.tally.Tally.{Tally}
use Rattle.workers.specs.Tallies.{busy_in, stale_in, nothing_done}

-- A broom was given up, and its tally kept. The blocks that it had are closed. What it had set aside was put into the queue, or the queue
-- was full
pub record HasFolded (s : Collector) (end : CollectorEnd) : Type 0 where
  pub tally : end.tally ≡ s.tally
  pub view : folded_view end.folded ≡ closed_broom (view_of_broom s.broom) (blocks_of_broom s.broom)
  pub place : LeftAt (limit_at s) s.broom (folded_place end.folded)

-- each broom was, in order
abbrev pub HaveFolded : List Collector → List CollectorEnd → Type 0
HaveFolded [] [] = Unit {0}
HaveFolded [] (end ∷ ends) = ⊥
HaveFolded (s ∷ collectors) [] = ⊥
HaveFolded (s ∷ collectors) (end ∷ ends) = HasFolded s end × HaveFolded collectors ends

-- the broom of a collector
abbrev pub broom_of : Collector → Broom
broom_of s = s.broom

-- a collector is at this device, with this limit of drains by one survey, and nothing is counted
abbrev pub HasCountedNone : Volume → ℕ → Collector → Type 0
HasCountedNone volume drains s = (arc_value s.volume ≡ volume) × (s.drains ≡ drains) × (s.tally ≡ nothing_done)

-- A collector at the start of a run, with this limit of drains by one survey: its broom is the one of this number of an unused device, and
-- nothing is counted
pub record IsAtRunStart (volume : Volume) (drains k : ℕ) (s : Collector) : Type 0 where
  pub volume_is : arc_value s.volume ≡ volume
  pub unused : IsUnused (flash_of volume) k s.broom
  pub limit : s.drains ≡ drains
  pub tally : s.tally ≡ nothing_done

-- each collector is, and their numbers go on from this one
abbrev pub AreAtRunStart : Volume → ℕ → ℕ → List Collector → Type 0
AreAtRunStart volume drains k [] = Unit {0}
AreAtRunStart volume drains k (s ∷ collectors) = IsAtRunStart volume drains k s × AreAtRunStart volume drains (k + 1) collectors

-- by how many entries a list of a broom's view has grown in the erases among its calls
abbrev pub listed_in : (View → List ℕ) → (before after : Collector) → HasCollected before after → ℕ
listed_in list_of before after collected =
    listed_by_erases list_of (limit_at before) before.broom collected.answers after.broom collected.collected.calls

-- The broom of this number knows to have done what was counted, modulo 2 ^ 64: so many blocks drained, pages moved, pages programmed, blocks
-- erased and claims lost
pub record HasDone (k : ℕ) (count : Tally) (v : View) : Type 0 where
  pub role : v.role ≡ Player (ABroom k)
  pub drained : count.drained ≡ length v.drains % 2 ^ 64
  pub moved : count.moved ≡ v.moves % 2 ^ 64
  pub programmed : count.programmed ≡ length v.programs % 2 ^ 64
  pub erased : count.erased ≡ length v.erases % 2 ^ 64
  pub lost : count.lost ≡ length v.lost % 2 ^ 64

-- What was counted is what the erases among a broom's calls found, modulo 2 ^ 64: so many pinned blocks as they listed as busy, and so many
-- stale ones as they listed as stale
pub record HasListed (count : Tally) (before after : Collector) (collected : HasCollected before after) : Type 0 where
  pub pinned : count.pinned ≡ listed_in busy_in before after collected % 2 ^ 64
  pub stale : count.stale ≡ listed_in stale_in before after collected % 2 ^ 64

-- The broom of this number of a device of this geometry began with nothing done, took some turns within this limit of drains by one survey,
-- whose calls were counted, and was folded. The count is what it knows to have done, and what its erases found
pub record HasServed (geo : Geometry) (drains k : ℕ) (end : CollectorEnd) : Type 0 where
  pub volume : Volume
  pub geometry : geometry_of (flash_of volume) ≡ geo
  pub first : Collector
  pub begun : IsAtRunStart volume drains k first
  pub last : Collector
  pub collected : HasCollected first last
  pub folded : HasFolded last end
  pub done : HasDone k end.tally (folded_view end.folded)
  pub found : HasListed end.tally first last collected

-- each broom did so, and their numbers go on from this one
abbrev pub HaveServed : Geometry → ℕ → ℕ → List CollectorEnd → Type 0
HaveServed geo drains k [] = Unit {0}
HaveServed geo drains k (end ∷ ends) = HasServed geo drains k end × HaveServed geo drains (k + 1) ends

-- all brooms of a device of this geometry did, in the order of their numbers
pub record AllHaveServed (geo : Geometry) (drains : ℕ) (ends : List CollectorEnd) : Type 0 where
  pub count : length ends ≡ brooms_of geo
  pub each : HaveServed geo drains 0 ends
