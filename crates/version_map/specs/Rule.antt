-- The rule of the map, and what each step tells.
use Rattle.std.specs.Prelude.{◌≡◌, ◌<◌, ◌+◌, ℕ, List, [], ◌∷◌, true, false, length, slice_index}
use mathlib.Core.Option.{some}
use lib.ListN.{get_elem?}
use Rattle.atomic_table.specs.Table.{State, Step, Me}
use Rattle.version_map.specs.History.{version_in, version_after, Continues}
use Rattle.version_map.specs.declared.shape.MapShape.{MapShape}
use Rattle.version_map.specs.declared.sighting.Sighting.{Sighting}

-- Each word names the sector's version after the history. The history goes on from what each seat has seen and was told. A seat that publishes has
-- seen all of it, and there is one such seat
pub record LawfulMap (shape : MapShape) (history : List (ℕ × ℕ)) (words : List ℕ) (views : List Sighting) : Type 0 where
  pub size : length words ≡ shape.sectors
  pub versions : (s : ℕ) → s < shape.sectors → version_in shape.pages (slice_index words s) ≡ version_after history s
  pub saw : (i : ℕ) (v : Sighting) → get_elem? views i ≡ some v → Continues history v.seen × Continues history v.told
  pub all : (i : ℕ) (v : Sighting) → get_elem? views i ≡ some v → v.publishes ≡ true → v.seen ≡ history
  pub one : (i j : ℕ) (v w : Sighting) → get_elem? views i ≡ some v → v.publishes ≡ true → get_elem? views j ≡ some w → w.publishes ≡ true → i ≡ j

-- there is a history for which it is so
abbrev pub FollowsHistory : MapShape → State (Unit {0}) Sighting → Type 0
FollowsHistory shape t = (history : List (ℕ × ℕ)) × LawfulMap shape history t.words t.views

-- after a look: the seat has seen the history of that moment, in which the sector has the version that the word names
pub record SawVersion (v : Sighting) (s found : ℕ) (w : Sighting) : Type 0 where
  pub later : Continues w.seen v.seen
  pub heard : Continues w.seen v.told
  pub version : version_after w.seen s ≡ version_in v.pages found
  pub counted : w.looks ≡ v.looks + 1
  pub same : (w.publishes ≡ v.publishes) × (w.pages ≡ v.pages)
  pub all : v.publishes ≡ true → w.seen ≡ v.seen

-- a look
abbrev pub saw_version : Step (Unit {0}) → Me (Unit {0}) Sighting → ℕ → Me (Unit {0}) Sighting → Type 0
saw_version st me found after = (after.1 ≡ me.1) × SawVersion me.0 st.word found after.0

-- a change: the history has one change more, of which the publisher knows
abbrev pub published_change : Step (Unit {0}) → Me (Unit {0}) Sighting → ℕ → Me (Unit {0}) Sighting → Type 0
published_change st me stored after =
    (after.1 ≡ me.1) × (after.0 ≡ record me.0 { seen = (st.word, version_in me.0.pages stored) ∷ me.0.seen })

-- a move: nothing of the history changes
abbrev pub moved_page : Step (Unit {0}) → Me (Unit {0}) Sighting → ℕ → Me (Unit {0}) Sighting → Type 0
moved_page st me stored after = (after.1 ≡ me.1) × (after.0 ≡ me.0)

-- a new reader, which has seen as much
abbrev pub new_reader : Sighting → Sighting
new_reader v = record { seen = v.seen; told = v.seen; looks = 0; publishes = false; pages = v.pages }

-- a seat that was told what another has seen
abbrev pub informed : Sighting → Sighting → Sighting
informed v w = record v { told = w.seen }

-- what is left of the other: a seat that has seen nothing
abbrev pub spent_reader : Sighting
spent_reader = record { seen = []; told = []; looks = 0; publishes = false; pages = 0 }
