-- What contracts name of a queue and of its passes.
use Rattle.std.specs.Prelude.{◌≡◌, ℕ, ◌+◌, ◌%◌, ◌^◌}
use Rattle.crossbeam_queue.specs.Passes as port
use Rattle.erase_queue.specs.declared.{queue.EraseQueue.EraseQueue, pass.QueuePass.QueuePass, sight.Role.TheVariants.User, sight.Sight.Sight}
use Rattle.erase_queue.specs.{Moves.DidPut, Moves.DidTake, Moves.StoodSome, Rule.counter, Rule.user_of}

-- the bound of the queue's numbers, and how many of them it has room for
abbrev pub limit_of : EraseQueue → ℕ
limit_of q = port.ruled_capacity q.numbers

-- what a pass knows of what the queue did
abbrev pub sight_of : QueuePass → Sight
sight_of p = port.view p.port

-- how many puts of this pass were refused, modulo 2 ^ 64
abbrev pub fulls_of : QueuePass → ℕ
fulls_of p = p.fulls

-- how many takes of this pass found nothing, modulo 2 ^ 64
abbrev pub empties_of : QueuePass → ℕ
empties_of p = p.empties

-- one more, in a count that wraps
abbrev pub one_more : ℕ → ℕ
one_more count = (count + 1) % 2 ^ 64

-- The pass belongs to this queue and to no other, to put and take its numbers
pub record IsPassOf (q : EraseQueue) (p : QueuePass) : Type 0 where
  pub port : port.IsPassOf q.numbers p.port
  pub role : (sight_of p).role ≡ User
  pub limit : (sight_of p).limit ≡ limit_of q

-- A pass of this queue that has seen, done and counted nothing
pub record IsNewPass (q : EraseQueue) (p : QueuePass) : Type 0 where
  pub queue : IsPassOf q p
  pub sight : sight_of p ≡ user_of (counter (limit_of q))
  pub fulls : fulls_of p ≡ 0
  pub empties : empties_of p ≡ 0

-- The number was put, and nothing was counted
pub record WasPut (p : QueuePass) (block : ℕ) (q : QueuePass) : Type 0 where
  pub did : DidPut (sight_of p) block (sight_of q)
  pub fulls : fulls_of q ≡ fulls_of p
  pub empties : empties_of q ≡ empties_of p

-- As far as the pass can know after one load, the queue held this many numbers, and was full; that was counted. The pass has done nothing.
-- Some queue that the rule allows beside what the pass has seen is full: the clause doesn't say that this one was
pub record WasFull (limit : ℕ) (p q : QueuePass) : Type 0 where
  pub stood : StoodSome (sight_of p) limit
  pub same : sight_of q ≡ sight_of p
  pub fulls : fulls_of q ≡ one_more (fulls_of p)
  pub empties : empties_of q ≡ empties_of p

-- The number was taken, and nothing was counted
pub record WasTaken (p : QueuePass) (block : ℕ) (q : QueuePass) : Type 0 where
  pub did : DidTake (sight_of p) block (sight_of q)
  pub fulls : fulls_of q ≡ fulls_of p
  pub empties : empties_of q ≡ empties_of p

-- As far as the pass can know after one load, the queue was empty; that was counted. The pass has done nothing. Some queue that the rule
-- allows beside what the pass has seen is empty: the clause doesn't say that this one was
pub record WasEmpty (p q : QueuePass) : Type 0 where
  pub stood : StoodSome (sight_of p) 0
  pub same : sight_of q ≡ sight_of p
  pub fulls : fulls_of q ≡ fulls_of p
  pub empties : empties_of q ≡ one_more (empties_of p)
