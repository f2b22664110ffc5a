-- Rounds of lines that several workers play at once, and what the passes know before a round, after it, and after the meetings that end it. The views
-- are those of the passes, by their numbers.
use Rattle.std.specs.Prelude.{◌≡◌, ℕ, ◌<◌, All, List, ◌++◌, []}
use Rattle.geometry.specs.Sectors.{Sector}
use Rattle.geometry.specs.History.{Call, Begins}
use Rattle.flash_rule.specs.declared.view.View.{View}
use Rattle.flash_rule.specs.Views.{caller, calls_of}
use Rattle.rounds.specs.Orders.{made, lines_of, Plays}

-- All passes have seen one history, and its calls are those of the passes, each with exactly its own
pub record AreTied (hosts : ℕ) (h : List Call) (view : ℕ → View) : Type 0 where
  pub callers : All (λ c. caller c < hosts) h
  pub later : (t : ℕ) → t < hosts → Begins h (view t).seen
  pub own : (t : ℕ) → t < hosts → calls_of t h ≡ (view t).mine

-- Each pass has played its worker's lines, and has made the calls of these and no others
pub record HavePlayed {X : Type 0} (worker sector : X → ℕ) (calls : X → List Call) (right : X → Sector → Type 0) (hosts n : ℕ) (before : ℕ → View)
    (xs : List X) (after : ℕ → View) : Type 0 where
  pub plays : (t : ℕ) → t < hosts → Plays sector calls right n (before t).seen (lines_of worker t xs) (after t).seen
  pub mine : (t : ℕ) → t < hosts → (after t).mine ≡ (before t).mine ++ made calls (lines_of worker t xs)

-- The passes have met: one history begins with all that each had seen, each has now seen it, and none has made a call
pub record HaveMet (hosts : ℕ) (h : List Call) (before after : ℕ → View) : Type 0 where
  pub callers : All (λ c. caller c < hosts) h
  pub brought : (t : ℕ) → t < hosts → Begins (before t).seen h
  pub given : (t : ℕ) → t < hosts → Begins h (after t).seen
  pub same : (t : ℕ) → t < hosts → (after t).mine ≡ (before t).mine
  pub own_before : (t : ℕ) → t < hosts → calls_of t (before t).seen ≡ (before t).mine
  pub own_after : (t : ℕ) → t < hosts → calls_of t (after t).seen ≡ (after t).mine

-- No sector at which a line makes a call is the sector of another worker's line. A sector that lines only read may be of all workers
abbrev pub AreDisjoint : {X : Type 0} → (X → ℕ) → (X → ℕ) → (X → List Call) → List X → Type 0
AreDisjoint worker sector calls xs = All (λ x. All (λ y. ¬ (calls x ≡ []) → sector x ≡ sector y → worker x ≡ worker y) xs) xs

-- the lines are of these workers, and name sectors of the array
pub record AreInRange {X : Type 0} (worker sector : X → ℕ) (hosts n : ℕ) (xs : List X) : Type 0 where
  pub workers : All (λ x. worker x < hosts) xs
  pub sectors : All (λ x. sector x < n) xs

-- A round was played between two histories: each worker has played its own lines, by histories that begin the last one, and each worker's
-- calls in between are those of its lines, and no others
pub record PlayedRound {X : Type 0} (worker sector : X → ℕ) (calls : X → List Call) (right : X → Sector → Type 0) (hosts n : ℕ) (first : List Call)
    (xs : List X) (last : List Call) : Type 0 where
  pub later : Begins first last
  pub callers : All (λ c. caller c < hosts) last
  pub seen : ℕ → List Call
  pub plays : (t : ℕ) → t < hosts → Plays sector calls right n first (lines_of worker t xs) (seen t)
  pub whole : (t : ℕ) → t < hosts → Begins (seen t) last
  pub own : (t : ℕ) → t < hosts → calls_of t last ≡ calls_of t first ++ made calls (lines_of worker t xs)
