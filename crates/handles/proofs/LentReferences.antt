-- A `&mut` is lent at another type that owns the same memory; and the names that a walk cites whose function lends one so. Assumes `Logic`.
pub use Rattle.std.proofs.Common.{List, [], ◌∷◌, refl}
pub use Rattle.std.proofs.raw_atomic.Walks.{proved}
pub use mir.Syntax.{named}
pub use mir.Val.{vptr}
pub use base.Logic.{id⊢}
pub use base.Fml.{GName, ftrue, flft}
pub use contract.Running.{tables}
pub use types.Kit.{‵, ◌⊛◌, some, later, at_ret, ◌$◌, ◌∵◌, !, qed, done, move, keep, use2, split, split3, join, fjoin, await, pick, suffices, frame}
pub use types.Run.{stop, addr, of_opd, enter, first, blocks, exec, returns}
pub use types.ByLocal.{alloc_all, pass_all, free_all, look_at, get, through, sets, sets_last, env}
pub use denote.Exit.{no}
pub use denote.Follow.{follows}
pub use denote.RattleType.{RattleType}
pub use denote.Ref.{MutRef, mut_vals, mut_Tells}
pub use denote.Signature.{plain, mut_ref_to}
pub use denote.Steps.{nothing}
pub use denote.Triple.Walked.{Stays, walk_of, says, stay_dropped, Goes-spent_ref, ends_at}
pub use Rattle.core.proofs.alloc.Shapes.{after}
use Rattle.std.proofs.Common.{ℕ}
use seplogic.Ra.Ura.{Ura}
use mir.Syntax.{Lifetime}
use mir.Val.{Val}
use base.Logic.{SProp, ent, sep, emp, ex}
use base.Fml.{Lft, Share}
use types.Logic.{Logic, sem}
use types.Kit.{Item, raw, by, fsplit3, use0, use1, updating, group, now, show}
use types.Mut.{open_ref}
use denote.Follow.{Part, lends_Part}
use denote.Memory.{mem}

module _ {M : Type 1} {𝓤 : Ura M} (𝓛 : Logic 𝓤) (R T : RattleType) (F : T.Denot → R.Denot) (ℓ : Lifetime) (κ : Lft) (q : Share) (b o : ℕ) (γ : GName)
    (back : (w : T.Denot) → ent 𝓤 (sem 𝓛 ((mem T).own_at w b o)) (sem 𝓛 ((mem R).own_at (F w) b o))) where
  open 𝓛 use {H, A}

  pub back_alone : (w : T.Denot) → ent 𝓤 (sep 𝓤 (sem 𝓛 ((mem T).own_at w b o)) (emp 𝓤)) (sem 𝓛 ((mem R).own_at (F w) b o))
  back_alone w = qed 𝓛 (‵ ((mem T).own_at w b o) ∷ raw (emp 𝓤) ∷ []) ∵ keep ! (0 ∷ []) $ by ! (back w)

  abbrev pub Lent : T.Denot → GName → SProp 𝓤
  Lent = Part 𝓛 R T F ℓ κ q b o b o γ (emp 𝓤) back_alone

  -- once it is lent: the reference at the other type, the token of its lifetime, and what the first reference will be
  abbrev pub lent : T.Denot → Item 𝓤
  lent y = later (some (λ (δ : GName). ‵ ((MutRef ℓ κ T).own_val (record { ref_ptr = (b, o); ghost_name = δ; now = y }) (vptr b o ∷ []))
      ⊛ ‵ (flft κ q) ⊛ ‵ (follows R T γ δ F)))

  pub lends_as : (x : R.Denot) (y : T.Denot) → ent 𝓤 (sem 𝓛 ((mem R).own_at x b o)) (sem 𝓛 ((mem T).own_at y b o)) → (vs : List Val)
      → ent 𝓤 (sep 𝓤 (sem 𝓛 ((MutRef ℓ κ R).own_val (record { ref_ptr = (b, o); ghost_name = γ; now = x }) vs)) (A.lft κ q)) (H.⇛ (ex 𝓤 (Lent y)))
  lends_as x y over vs =
      qed 𝓛 (‵ ((MutRef ℓ κ R).own_val (record { ref_ptr = (b, o); ghost_name = γ; now = x }) vs) ∷ ‵ (flft κ q) ∷ []) ∵ updating ! $
      fsplit3 ! $ move ! (1 ∷ 2 ∷ 3 ∷ []) $
      open_ref ! tt (mem R) {b = b} {o = o} $ use1 𝓛 (‵ ((mem T).own_at y b o)) over $
      use0 𝓛 (raw (emp 𝓤)) (id⊢ 𝓤 (emp 𝓤)) $ move ! (2 ∷ 3 ∷ 4 ∷ 1 ∷ 0 ∷ []) $ group ! 5 $
      use1 𝓛 (later (some (λ (δ : GName). raw (Lent y δ))))
      (lends_Part 𝓛 R T F ℓ κ q b o b o γ (emp 𝓤) back_alone (R.coded.code x) (R.coded.code x) y) $ await ! tt $ pick ! (λ δ.
      now ! $ show ! (Lent y) δ $ keep ! (0 ∷ []) $ done !)
