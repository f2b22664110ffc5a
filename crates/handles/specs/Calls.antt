-- What a handle has, and what a call on its value is.
use Rattle.std.specs.Prelude.{◌≡◌, ℕ, Option, None, Some}
use denote.Param.Members.{Once}
use denote.Ref.{MutBor}
use Rattle.handles.specs.declared.handle.Handle.{Handle}
use Rattle.handles.specs.declared.handle.TheConstants.{CLOSED}

-- the value of a handle, if it is open
abbrev pub value_of : {T : Type 0} → Handle T → Option T
value_of h = h.slot.value

-- a call leaves a closed handle closed, with a code of its own, and an open one open: this holds of its value before, the code, and its value after
abbrev pub Calls : {T : Type 0} → Option T → ℕ → Option T → (T → ℕ → T → Type 0) → Type 0
Calls None code after says = (code ≡ CLOSED) × (after ≡ None)
Calls (Some x) code None says = ⊥
Calls (Some x) code (Some y) says = says x code y

-- the same of a call with a report or a buffer, which a closed handle leaves unchanged
abbrev pub CallsWith : {T O : Type 0} → Option T → O → ℕ → Option T → O → (T → O → ℕ → T → O → Type 0) → Type 0
CallsWith None out code after out' says = (code ≡ CLOSED) × (after ≡ None) × (out' ≡ out)
CallsWith (Some x) out code None out' says = ⊥
CallsWith (Some x) out code (Some y) out' says = says x out code y out'

-- a call of f at a `&mut` to x and one to o may give r, and leave y and p
pub record ReturnsAtBoth {F X O R : Type 0} (g : Once F (MutBor X × (MutBor O × Unit {0})) (R × (MutBor X × (MutBor O × Unit {0})))) (f : F)
    (x : X) (o : O) (r : R) (y : X) (p : O) : Type 0 where
  pub first : MutBor X
  pub second : MutBor O
  pub shows : (first.now ≡ x) × (second.now ≡ o)
  pub left : MutBor X × (MutBor O × Unit {0})
  pub met : g.post f (first, (second, tt)) (r, left)
  pub leaves : (left.0.now ≡ y) × (left.1.0.now ≡ p)
