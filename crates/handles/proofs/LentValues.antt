-- A call on a value that was taken out of its handle, lent, and put back is one of the handle.
use Rattle.std.proofs.Common.{◌≡◌, ℕ, Option, Some, sym, subst}
use Rattle.handles.specs.Calls.{Calls, CallsWith}

pub on_alone : {T : Type 0} (before after : Option T) (x y x' y' : T) (code : ℕ) (step : T → ℕ → T → Type 0)
    → Some x ≡ before → after ≡ Some y → x' ≡ x → y ≡ y' → step x' code y' → Calls before code after step
on_alone {T} before after x y x' y' code step had has lent back did =
    subst (λ (b : Option T). Calls b code after step) had (subst (λ (a : Option T). Calls (Some x) code a step) (sym has)
    (subst (λ (s : T). step s code y) lent (subst (λ (s : T). step x' code s) (sym back) did)))

pub on_lent : {T O : Type 0} (before after : Option T) (x y x' y' : T) (out out' : O) (code : ℕ) (step : T → O → ℕ → T → O → Type 0)
    → Some x ≡ before → after ≡ Some y → x' ≡ x → y ≡ y' → step x' out code y' out' → CallsWith before out code after out' step
on_lent {T} before after x y x' y' out out' code step had has lent back did =
    subst (λ (b : Option T). CallsWith b out code after out' step) had (subst (λ (a : Option T). CallsWith (Some x) out code a out' step) (sym has)
    (subst (λ (s : T). step s out code y out') lent (subst (λ (s : T). step x' out code s out') (sym back) did)))
