-- What a handle keeps: a value behind its pointer, or nothing.
use Rattle.std.specs.Prelude.{◌≡◌, ℕ, Option, Some, None, is_some, nat_lt}
use Rattle.std_alloc.specs.declared.boxed.Box.{Box}
use Rattle.std_alloc.specs.Box.Ownership.{box_owns}
use Rattle.std_heap.specs.contracts.GlobalAllocator.TheImpl.{ghosts}
use Rattle.std_heap.specs.declared.Global.{Global}
use base.Fml.{Fml, ftrue}
use denote.RattleType.{RattleType}
use denote.RawPtr.{Ptr}

-- there is one heap
abbrev pub heap : Global
heap = record { memory = record { seal = tt } }

-- a value in a block of the heap, with the right to free the block
abbrev pub kept : (T : RattleType) → Ptr → Option T.Denot → Fml
kept T p None = ftrue
kept T p (Some x) = box_owns (ghosts.dealloc_token heap) T p x

-- the second word of a handle says whether there is a value
abbrev pub SaysWhetherOpen : {T : Type 0} → ℕ → Option T → Type 0
SaysWhetherOpen n value = nat_lt 0 n ≡ is_some value

-- what is in a box
abbrev pub boxed : {T A : Type 0} → Box T A → T
boxed b = b.value
