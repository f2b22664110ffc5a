-- What a pass learns of all that the queue did: the list of all numbers put, of which the first ones were taken, in order, and the others
-- are in the queue.
use Rattle.std.specs.Prelude.{◌≡◌, ℕ, ◌+◌, ◌<◌, ◌≤◌, List, [], ◌∷◌, ◌++◌, Some, length, slice_get}
use Rattle.geometry.specs.History.{Begins}
use Rattle.erase_queue.specs.declared.sight.Sight.{Sight}

-- each number of the list is less than the limit
abbrev pub AreBelow : ℕ → List ℕ → Type 0
AreBelow limit numbers = (k x : ℕ) → slice_get numbers k ≡ Some x → x < limit

-- The number was put behind all others, among them the ones that the pass had seen first. Its place is the pass's own
pub record DidPut (v : Sight) (x : ℕ) (w : Sight) : Type 0 where
  pub before : List ℕ
  pub seen : Begins v.puts before
  pub changed : w ≡ record v { puts = before ++ x ∷ []; own_puts = v.own_puts ++ length before ∷ [] }

-- The number was the first one put and not yet taken: this many were taken before it, among them all those that the pass knew to be taken.
-- Its place is the pass's own
pub record DidTake (v : Sight) (x : ℕ) (w : Sight) : Type 0 where
  pub puts : List ℕ
  pub seen : Begins v.puts puts
  pub place : ℕ
  pub next : v.takes ≤ place
  pub first : slice_get puts place ≡ Some x
  pub low : x < v.limit
  pub changed : w ≡ record v { puts = puts; takes = place + 1; own_takes = v.own_takes ++ place ∷ [] }

-- Exactly these numbers may have been in the queue at one moment, by what the pass had seen: they are the last ones of the list of all
-- puts, and the others were taken. The list begins with the puts that the pass had seen, and no fewer were taken than it knew
pub record Stand (v : Sight) (items : List ℕ) : Type 0 where
  pub done : List ℕ
  pub seen : Begins v.puts (done ++ items)
  pub takes : v.takes ≤ length done
  pub low : AreBelow v.limit (done ++ items)

-- this many numbers may have been in the queue at one moment, by what the pass had seen
abbrev pub StoodSome : Sight → ℕ → Type 0
StoodSome v n = (items : List ℕ) × (length items ≡ n) × Stand v items

-- This many numbers may have been in the queue at one moment, by what the pass had seen, and the pass has done nothing
abbrev pub FoundFull : Sight → ℕ → Sight → Type 0
FoundFull v limit w = (w ≡ v) × StoodSome v limit
