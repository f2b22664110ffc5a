-- The search for a free block, one take after the other, the broom at rest after it, and one that gives its open blocks up.
use Rattle.std.proofs.Common.{◌≡◌, ◌++◌, false, List, Option, None, Some, is_some, sym, refl, ap, ◌∙◌, ℕ, zero, suc, ◌+◌, [], ◌∷◌, arith, append_assoc}
use Rattle.std.proofs.lemmas.List.{append-nil}
use Rattle.flash_rule.specs.declared.facts.Owned.{Owned}
use Rattle.flash_rule.specs.declared.facts.Work.{Work}
use Rattle.flash_rule.specs.declared.view.View.{View}
use Rattle.flash_rule.proofs.Owning.{none_some}
use Rattle.flash_table.specs.declared.broom_seat.BroomBlocks.{BroomBlocks}
use Rattle.flash_table.specs.declared.pass.OpenBlock.{OpenBlock}
use Rattle.flash_table.specs.Owning.{closed_list}
use Rattle.broom.specs.Ready.{IsFiled}
use Rattle.std.specs.List.{range_with_len}
use Rattle.flash_table.specs.declared.flash.Flash.{Flash}
use Rattle.flash_table.specs.declared.broom_seat.BroomSeat.{BroomSeat}
use Rattle.flash_table.specs.Taking.{GotNoSpare}
use Rattle.flash_table.specs.Flash.{IsBroomOf, broom_view, own_blocks}

nothing : (x : Option Work) → ((w : Work) → ¬ (x ≡ Some w)) → x ≡ None
nothing None never = refl
nothing (Some w) never = absurd (never w refl)

-- a broom without a destination fills no page
pub stays_idle : (v : View) (x : BroomBlocks) → IsFiled v x → x.destination ≡ None → v ≡ record v { work = None; ceded = v.ceded ++ closed_list x.destination }
stays_idle v x filed none =
    let idle : v.work ≡ None = nothing v.work (λ w is. let d = filed w is in none_some d.0 (sym none ∙ d.1)) in
    let ceded : v.ceded ≡ v.ceded ++ closed_list x.destination = sym (append-nil v.ceded) ∙ ap (λ (l : List Owned). v.ceded ++ l) (ap closed_list (sym none)) in
    λ i. record v { work = idle i; ceded = ceded i }

pub no_block : (x : Option OpenBlock) → is_some x ≡ false → x ≡ None
no_block None is = refl
no_block (Some o) is = absurd (cc)

-- ---- a row of numbers, and a list of blocks
row_more : (n : ℕ) → range_with_len 0 (n + 1) ≡ range_with_len 0 n ++ n ∷ []
row_more n = (let e : n + 1 ≡ suc n = omega arith in ap (range_with_len 0) e) ∙ from n 0 n (omega arith) where
  from : (k a b : ℕ) → a + k ≡ b → range_with_len a (suc k) ≡ range_with_len a k ++ b ∷ []
  from zero a b at = let e : a ≡ b = omega arith in ap (λ j. j ∷ []) e
  from (suc k) a b at = ap (λ l. a ∷ l) (from k (a + 1) b (omega arith))

-- ---- the search
-- All blocks below this one were found taken, and nothing else has changed
pub record Tried (f : Flash) (v : View) (x : BroomBlocks) (block : ℕ) (s : BroomSeat) : Type 0 where
  pub seat : IsBroomOf f s
  pub none : x.spare ≡ None
  pub blocks : own_blocks s ≡ x
  pub changed : broom_view s ≡ record v { denied = v.denied ++ range_with_len 0 block }

-- one more was found taken
pub tried_more : (f : Flash) (v : View) (x : BroomBlocks) (block : ℕ) (s t : BroomSeat) → Tried f v x block s
    → GotNoSpare (broom_view s) (own_blocks s) block (broom_view t) (own_blocks t) → IsBroomOf f t → Tried f v x (block + 1) t
tried_more f v x block s t h told seat =
    let denied : (broom_view s).denied ++ block ∷ [] ≡ v.denied ++ range_with_len 0 (block + 1) =
    ap (λ (w : View). w.denied ++ block ∷ []) h.changed
    ∙ (append_assoc v.denied (range_with_len 0 block) (block ∷ []) ∙ ap (λ l. v.denied ++ l) (sym (row_more block))) in
    record { seat = seat; none = h.none; blocks = told.blocks ∙ h.blocks; changed = told.changed ∙ (λ i. record (h.changed i) { denied = denied i }) }
