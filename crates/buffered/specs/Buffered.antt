-- Flash that buffers: a power cut may undo what it was given since its last sync, but for a beginning. So does an image in mode `flush`.
use Rattle.std.specs.Prelude.{◌≡◌, ◌⊎◌, ◌+◌, ℕ, List, [], ◌∷◌, ◌++◌, drop, length}
use Rattle.durable.specs.Flash.{Flash}
use Rattle.durable.specs.Runs.{Event, Completed, Failed, Retired, CutInside, CutBetween, Happens, Runs}
use Rattle.durable.specs.declared.memory.Core.{Core}

-- a flash, and the layer that runs on it
pub record Moment : Type 0 where
  pub flash : Flash
  pub layer : Core

-- an event, after which the flash may still forget it; a sync that succeeds; or a power cut that undoes so many events, the newest ones, and is
-- itself one of a layer on the flash from before them
pub data Step : Type 0 where
  Does : (event : Event) → Step
  Syncs : Step
  Undoes : (undone : ℕ) (cut : Event) → Step

-- a power cut between two commands, or inside the one of this event
abbrev pub IsCutOf : Event → Event → Type 0
IsCutOf (Completed update command) cut = (cut ≡ CutBetween) ⊎ (cut ≡ CutInside update command)
IsCutOf (Failed update command) cut = (cut ≡ CutBetween) ⊎ (cut ≡ CutInside update command)
IsCutOf (Retired update command) cut = (cut ≡ CutBetween) ⊎ (cut ≡ CutInside update command)
IsCutOf (CutInside update command) cut = (cut ≡ CutBetween) ⊎ (cut ≡ CutInside update command)
IsCutOf CutBetween cut = cut ≡ CutBetween

-- the cut is one of the first of the last so many events, the newest first
abbrev pub IsCutOfFirst : ℕ → List Event → Event → Type 0
IsCutOfFirst undone events cut = (later earlier : List Event) × (first : Event) × (events ≡ later ++ first ∷ earlier) × (undone ≡ length later + 1)
    × IsCutOf first cut

-- the events that the flash has not forgotten, the newest first
abbrev pub kept_in : List Step → List Event
kept_in [] = []
kept_in (Does event ∷ steps) = event ∷ kept_in steps
kept_in (Syncs ∷ steps) = kept_in steps
kept_in (Undoes undone cut ∷ steps) = cut ∷ drop undone (kept_in steps)

-- of these moments, the newest first, it is the one before the last so many
abbrev pub LiesBack : ℕ → List Moment → Moment → Type 0
LiesBack undone moments was = (later earlier : List Moment) × (moments ≡ later ++ was ∷ earlier) × (length later ≡ undone)

-- a run on such flash, its newest step first, and the moments that a power cut may go back to: the present one, and before it each one since the last
-- sync, or since the flash was mounted after a power cut that has undone something
abbrev pub RunsThrough : List Step → List Moment → Type 0
RunsThrough [] moments = (now : Moment) × (moments ≡ now ∷ []) × Runs [] now.flash now.layer
RunsThrough (Does event ∷ steps) moments = (now was : Moment) × (earlier : List Moment) × (moments ≡ now ∷ was ∷ earlier)
    × RunsThrough steps (was ∷ earlier) × Happens event was.flash was.layer now.flash now.layer
RunsThrough (Syncs ∷ steps) moments = (now : Moment) × (earlier : List Moment) × (moments ≡ now ∷ []) × RunsThrough steps (now ∷ earlier)
RunsThrough (Undoes undone cut ∷ steps) moments = (now was : Moment) × (before : List Moment) × (moments ≡ now ∷ []) × RunsThrough steps before
    × LiesBack undone before was × IsCutOfFirst undone (kept_in steps) cut × Happens cut was.flash was.layer now.flash now.layer
