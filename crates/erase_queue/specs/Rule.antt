-- The rule of a queue: each number is taken at its own place, in the order of the puts.
use Rattle.std.specs.Prelude.{◌≡◌, ℕ, ◌+◌, ◌<◌, ◌≤◌, Bool, true, false, List, [], ◌++◌, Some, length, slice_get}
use mathlib.Core.Option.{some}
use lib.ListN.{get_elem?}
use Rattle.geometry.specs.History.{Begins}
use Rattle.erase_queue.specs.declared.sight.Role.TheVariants.{Counter, Dealer, User, Gone}
use Rattle.erase_queue.specs.{declared.sight.Sight.Sight, Moves.AreBelow}

-- All that the queue did: the bound of the numbers, and whether that is still being fixed; all numbers put, in order, and how many of them
-- were taken. For each place of either list, the pass whose own it is, with its index among that pass's own places
pub record Course : Type 0 where
  pub counting : Bool
  pub limit : ℕ
  pub puts : List ℕ
  pub taken : ℕ
  pub putter : ℕ → ℕ × ℕ
  pub taker : ℕ → ℕ × ℕ

-- each of the places is less than this bound, and is this pass's own and no other one's
abbrev pub AreOwn : ℕ → (ℕ → ℕ × ℕ) → ℕ → List ℕ → Type 0
AreOwn bound owner pass places = (j k : ℕ) → slice_get places j ≡ Some k → (k < bound) × (owner k ≡ (pass, j))

-- each place less than this bound is among the own places of its pass
abbrev pub AreOwned : ℕ → (ℕ → ℕ × ℕ) → (Sight → List ℕ) → List Sight → Type 0
AreOwned bound owner own views = (k : ℕ) → k < bound → (v : Sight) × (get_elem? views (owner k).0 ≡ some v) × (slice_get (own v) (owner k).1 ≡ Some k)

-- A pass sees no more than there is, and knows the limit. The limit is fixed by the first pass, before any other is dealt
pub record LawfulSight (g : Course) (pass : ℕ) (v : Sight) : Type 0 where
  pub counts : v.role ≡ Counter → (pass ≡ 0) × (g.counting ≡ true) × (v.limit ≡ g.limit)
  pub deals : v.role ≡ Dealer → (g.counting ≡ false) × (v.limit ≡ g.limit)
  pub uses : v.role ≡ User → (g.counting ≡ false) × (v.limit ≡ g.limit)
  pub puts : Begins v.puts g.puts
  pub takes : v.takes ≤ g.taken
  pub own_puts : AreOwn (length g.puts) g.putter pass v.own_puts
  pub own_takes : AreOwn g.taken g.taker pass v.own_takes

-- The queue holds the numbers put without the first ones, which were taken, and all are less than the limit. Each pass is lawful, and each
-- place of the puts and of the takes is one pass's own
pub record Lawful (g : Course) (items : List ℕ) (views : List Sight) : Type 0 where
  pub order : (done : List ℕ) × (g.puts ≡ done ++ items) × (length done ≡ g.taken)
  pub low : AreBelow g.limit g.puts
  pub each : (pass : ℕ) (v : Sight) → get_elem? views pass ≡ some v → LawfulSight g pass v
  pub put_by : AreOwned (length g.puts) g.putter (λ v. v.own_puts) views
  pub taken_by : AreOwned g.taken g.taker (λ v. v.own_takes) views

-- the rule: there is a state of all that the queue did that is lawful
abbrev pub Ruled : List ℕ → List Sight → Type 0
Ruled items views = (g : Course) × Lawful g items views

-- the first pass, which has fixed this much of the limit
abbrev pub counter : ℕ → Sight
counter limit = record { role = Counter; limit = limit; puts = []; takes = 0; own_puts = []; own_takes = [] }

-- with a limit that is one higher
abbrev pub counted : Sight → Sight
counted v = record v { limit = v.limit + 1 }

-- with the limit fixed
abbrev pub dealer : Sight → Sight
dealer v = record v { role = Dealer }

-- a pass with the limit of the one that deals it
abbrev pub user_of : Sight → Sight
user_of v = record { role = User; limit = v.limit; puts = []; takes = 0; own_puts = []; own_takes = [] }

-- a pass that makes no more steps
abbrev pub gone : Sight
gone = record { role = Gone; limit = 0; puts = []; takes = 0; own_puts = []; own_takes = [] }
