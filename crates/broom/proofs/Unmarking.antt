-- A broom that unmarks a block, loads its state and rests again is ready as before.
use Rattle.std.proofs.Common.{◌≡◌, ℕ, ◌<◌, Bool, false, List, [], ◌∷◌, ◌++◌, length, set, sym, ap, ◌∙◌, subst, arith, length-set}
use Rattle.geometry.specs.{Geometry.blocks_of, declared.words.PinWord.PinWord}
use Rattle.flash_table.specs.{declared.flash.Flash.Flash, Flash.geometry_of, Flash.device}
use Rattle.broom.specs.{declared.broom.Broom.Broom, declared.ranking.Ranking.Ranking, Survey.Ranks}
use Rattle.broom.specs.Ready.{AreMarked, IsReady, IsRested, view_of_broom}
use Rattle.broom.proofs.{Marking.marks_after, Marking.marks_kept, Marking.still_marked, Ranks.ranks_fewer}

unmarked : (f : Flash) (r after : Broom) (b : ℕ) → IsReady f r → b < length r.closed.items → IsRested f after.seat
    → after ≡ record r { seat = after.seat; closed = after.closed } → after.closed.items ≡ set r.closed.items b false
    → AreMarked (device f) (view_of_broom after) r.states.items (set r.closed.items b false) → IsReady f after
unmarked f r after b h low rested kept marks are =
    let fewer : List Bool = set r.closed.items b false in
    let long : length fewer ≡ length r.closed.items = length-set r.closed.items b false in
    let P : List PinWord × List Bool → Type 0 = λ x. AreMarked (device f) (view_of_broom after) x.0 x.1 in
    let Q : List ℕ × List Bool × Ranking → Type 0 = λ x. Ranks x.0 x.1 x.2 in
    record {
      rested = rested;
      states = ap (λ (x : Broom). length x.states.items) kept ∙ h.states;
      counts = ap (λ (x : Broom). length x.counts.items) kept ∙ h.counts;
      closed = ap (length {A = Bool}) marks ∙ (long ∙ h.closed);
      marks = subst P (λ i. ((sym kept i).states.items, sym marks i)) are;
      ranking = subst Q (λ i. ((sym kept i).counts.items, sym marks i, (sym kept i).ranking))
          (ranks_fewer r.counts.items r.closed.items fewer r.ranking long (still_marked r.closed.items b low) h.ranking);
    }

pub ready_unmarked : (f : Flash) (r after : Broom) (b n : ℕ) → IsReady f r → b < blocks_of (geometry_of f) → IsRested f after.seat
    → after ≡ record r { seat = after.seat; closed = after.closed } → after.closed.items ≡ set r.closed.items b false
    → (view_of_broom after).loaded ≡ (view_of_broom r).loaded ++ (b, n) ∷ [] → IsReady f after
ready_unmarked f r after b n h block rested kept marks loaded =
    let low : b < length r.closed.items = let long = h.closed in omega arith in
    unmarked f r after b h low rested kept marks
    (marks_after (device f) r.states.items (view_of_broom r) (view_of_broom after) r.closed.items b n low loaded h.marks)

-- and so is one that loads no state
pub ready_unseen : (f : Flash) (r after : Broom) (b : ℕ) → IsReady f r → b < length r.closed.items → IsRested f after.seat
    → after ≡ record r { seat = after.seat; closed = after.closed } → after.closed.items ≡ set r.closed.items b false
    → (view_of_broom after).loaded ≡ (view_of_broom r).loaded → IsReady f after
ready_unseen f r after b h low rested kept marks loaded =
    unmarked f r after b h low rested kept marks
    (marks_kept (device f) r.states.items (view_of_broom r) (view_of_broom after) r.closed.items
    (set r.closed.items b false) loaded (still_marked r.closed.items b low) h.marks)

-- and so is one that loads a block's state, and whose marks are still true
pub ready_loaded : (f : Flash) (r after : Broom) → IsReady f r → IsRested f after.seat → after ≡ record r { seat = after.seat }
    → AreMarked (device f) (view_of_broom after) r.states.items r.closed.items → IsReady f after
ready_loaded f r after h rested kept marks =
    let P : List PinWord × List Bool → Type 0 = λ x. AreMarked (device f) (view_of_broom after) x.0 x.1 in
    let Q : List ℕ × List Bool × Ranking → Type 0 = λ x. Ranks x.0 x.1 x.2 in
    record {
      rested = rested;
      states = ap (λ (x : Broom). length x.states.items) kept ∙ h.states;
      counts = ap (λ (x : Broom). length x.counts.items) kept ∙ h.counts;
      closed = ap (λ (x : Broom). length x.closed.items) kept ∙ h.closed;
      marks = subst P (λ i. ((sym kept i).states.items, (sym kept i).closed.items)) marks;
      ranking = subst Q (λ i. ((sym kept i).counts.items, (sym kept i).closed.items, (sym kept i).ranking)) h.ranking;
    }
