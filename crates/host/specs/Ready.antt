-- A pass between two calls of its host.
use Rattle.std.specs.Prelude.{◌≡◌, ℕ, ◌<◌, List, true, None, Some}
use Rattle.geometry.specs.Geometry.{blocks_of, pages_of, endurance_of, sectors_of}
use Rattle.geometry.specs.declared.words.MapWord.{MapWord}
use Rattle.flash_rule.specs.declared.facts.Pin.TheVariants.{Accepted}
use Rattle.flash_rule.specs.declared.facts.Name.TheVariants.{Pass as APass}
use Rattle.flash_rule.specs.declared.facts.Role.TheVariants.{Player}
use Rattle.flash_rule.specs.Views.{AreOfHosts, calls_of}
use Rattle.flash_rule.specs.Plays.{IsSettled, is_unpinned}
use Rattle.flash_rule.specs.Rule.{IsValue}
use Rattle.flash_table.specs.declared.flash.Flash.{Flash}
use Rattle.flash_table.specs.declared.pass.Pass.{Pass}
use Rattle.flash_table.specs.declared.pass.OpenBlock.{OpenBlock}
use Rattle.flash_table.specs.Flash.{IsPassOf, device, view_of, opened_of, geometry_of}
use Rattle.geometry.specs.{History.held, Sectors.Sector}

-- The pass is of this device. The block that it has open, if any, has a page left, in a generation less than the endurance; no page of it
-- is half written, and without an open block no page is. Each call that it saw is of a host, its own ones are all the calls that it made,
-- and no note is out
pub record IsRested (f : Flash) (p : Pass) : Type 0 where
  pub pass : IsPassOf f p
  pub room : (o : OpenBlock) → opened_of p ≡ Some o → (o.block < blocks_of (geometry_of f)) × (o.written < pages_of (geometry_of f))
      × (o.generation < endurance_of (geometry_of f))
  pub settled : IsSettled (view_of p)
  pub idle : opened_of p ≡ None → (view_of p).work ≡ None
  pub callers : AreOfHosts (view_of p).numbers (view_of p).seen
  pub own : (t : ℕ) → (view_of p).role ≡ Player (APass t) → calls_of t (view_of p).seen ≡ (view_of p).mine
  pub whole : (view_of p).whole ≡ true
  pub alone : (view_of p).guest ≡ None

-- A pass between two calls: it is at rest, and has nothing pinned
pub record IsReady (f : Flash) (p : Pass) : Type 0 where
  pub rested : IsRested f p
  pub unpinned : is_unpinned (view_of p).pin ≡ true

-- A pass that holds a page: it is at rest, except for an accepted pin on this page, which holds this value
pub record IsPinned (f : Flash) (p : Pass) (at : MapWord) (value : List ℕ) : Type 0 where
  pub rested : IsRested f p
  pub pinned : (view_of p).pin ≡ Accepted at value
  pub whole : IsValue (device f) value
  pub block : at.block < blocks_of (geometry_of f)
  pub page : at.page < pages_of (geometry_of f)

-- what a sector holds after all that a pass has seen
abbrev pub seen_at : Flash → Pass → ℕ → Sector
seen_at f p s = held (sectors_of (geometry_of f)) (view_of p).seen s

-- this page is pinned, and holds what the sector held at the last look
abbrev pub HasFound : Flash → Pass → ℕ → MapWord → Type 0
HasFound f p sector page = (value : List ℕ) × IsPinned f p page value × (seen_at f p sector ≡ Some value)
