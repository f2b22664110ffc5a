-- The passes are dealt one after the other, and then the brooms.
use Rattle.std.proofs.Common.{◌≡◌, ℕ, suc, ◌+◌, ◌-◌, ◌<◌, ⊎_elim, List, [], ◌∷◌, ◌++◌, None, Some, length, slice_get, sym, ap, ◌∙◌, subst, arith, length-append}
use Rattle.geometry.specs.Limits.{Numbers}
use Rattle.atomic_table.specs.declared.shared.Seat.{Seat}
use Rattle.flash_rule.specs.{declared.facts.Role.TheVariants.Dealer, declared.view.View.View, Views.is_pass, Views.owned_at, Views.without}
use Rattle.flash_rule.specs.Seats.{dealt_pass, new_pass, spare, spares, next_spare, dealt_broom, new_broom}
use Rattle.flash_rule.proofs.{Owning.get_last, DealingBrooms.first_spare, DealingBrooms.other_spares}
use Rattle.flash_table.specs.declared.{flash.Flash.Flash, pass.Pass.Pass, broom_seat.BroomSeat.BroomSeat}
use Rattle.flash_table.specs.Flash.{IsPassOf, IsBroomOf, view_of, broom_view, opened_of, own_blocks, device, first_view, first_broom, first_blocks, spare_of}

-- so many passes have been dealt, pass k with number k
pub record Deals (f : Flash) (dealer : Seat (Unit {0}) View) (passes : List Pass) (t : ℕ) : Type 0 where
  pub table : dealer.table_id ≡ f.table.shared.table_id
  pub role : dealer.me.0.role ≡ Dealer
  pub count : dealer.me.0.passes ≡ t
  pub numbers : dealer.me.0.numbers ≡ device f
  pub long : length passes ≡ t
  pub none : dealer.me.0.brooms ≡ 0
  pub owns : dealer.me.0.owns ≡ spares (device f).brooms ((device f).blocks - (device f).brooms)
  pub each : (k : ℕ) (p : Pass) → slice_get passes k ≡ Some p → IsPassOf f p × (view_of p ≡ first_view (device f) k) × (opened_of p ≡ None)

-- what holds of each item of a row holds after one item more
pushed : {X : Type 0} (P : ℕ → X → Type 0) (xs : List X) (x : X) (t : ℕ) → length xs ≡ t → P t x → ((k : ℕ) (y : X) → slice_get xs k ≡ Some y → P k y)
    → (k : ℕ) (y : X) → slice_get (xs ++ x ∷ []) k ≡ Some y → P k y
pushed P xs x t long now each k y is =
    ⊎_elim (each k y) (λ (new : (k ≡ length xs) × (x ≡ y)). subst (λ k. P k y) (sym (new.0 ∙ long)) (subst (P t) new.1 now)) (get_last xs x y k is)

pub deals_next : (f : Flash) (before after : Seat (Unit {0}) View) (passes : List Pass) (p : Pass) (t : ℕ) → Deals f before passes t
    → after.table_id ≡ before.table_id → after.me.0 ≡ dealt_pass before.me.0
    → p.seat.table_id ≡ before.table_id → view_of p ≡ new_pass before.me.0 → opened_of p ≡ None → Deals f after (passes ++ p ∷ []) (t + 1)
deals_next f before after passes p t h table now seat view closed =
    let its : IsPassOf f p = record {
      table = seat ∙ h.table;
      role = ap (λ (v : View). is_pass v.role) view;
      numbers = ap (λ (v : View). v.numbers) view ∙ h.numbers;
    } in
    record {
      table = table ∙ h.table;
      role = ap (λ (v : View). v.role) now ∙ h.role;
      count = ap (λ (v : View). v.passes) now ∙ ap (λ k. k + 1) h.count;
      numbers = ap (λ (v : View). v.numbers) now ∙ h.numbers;
      long = (let l = length-append passes (p ∷ []) in let e = h.long in omega arith);
      none = ap (λ (v : View). v.brooms) now ∙ h.none;
      owns = ap (λ (v : View). v.owns) now ∙ h.owns;
      each = pushed (λ k q. IsPassOf f q × (view_of q ≡ first_view (device f) k) × (opened_of q ≡ None)) passes p t h.long
          (its, view ∙ (λ i. first_view (h.numbers i) (h.count i)), closed) h.each;
    }

-- ---- brooms
-- so many brooms have been dealt, broom k with number k, and the dealer owns the spares of the others
pub record DealsBrooms (f : Flash) (dealer : Seat (Unit {0}) View) (brooms : List BroomSeat) (t : ℕ) : Type 0 where
  pub table : dealer.table_id ≡ f.table.shared.table_id
  pub role : dealer.me.0.role ≡ Dealer
  pub count : dealer.me.0.brooms ≡ t
  pub numbers : dealer.me.0.numbers ≡ device f
  pub owns : dealer.me.0.owns ≡ spares ((device f).brooms - t) (spare_of (device f) t)
  pub long : length brooms ≡ t
  pub each : (k : ℕ) (b : BroomSeat) → slice_get brooms k ≡ Some b → IsBroomOf f b × (broom_view b ≡ first_broom (device f) k)
      × (own_blocks b ≡ first_blocks (device f) k)

module _ (z : Numbers) (v : View) (t : ℕ) (numbers : v.numbers ≡ z) (count : v.brooms ≡ t) (owns : v.owns ≡ spares (z.brooms - t) (spare_of z t))
    (more : t < z.brooms) where
  next_is : next_spare v ≡ spare_of z t
  next_is i = spare_of (numbers i) (count i)

  one_more : z.brooms - t ≡ suc (z.brooms - (t + 1))
  one_more = omega arith

  -- the dealer owns the next broom's spare
  pub next_owned : owned_at (next_spare v) v.owns ≡ Some (spare (next_spare v))
  next_owned = (λ i. owned_at (next_is i) ((owns ∙ ap (λ n. spares n (spare_of z t)) one_more) i))
      ∙ (first_spare (z.brooms - (t + 1)) (spare_of z t) ∙ ap (λ b. Some (spare b)) (sym next_is))

  -- and then those of the brooms behind it
  pub others_owned : without (next_spare v) v.owns ≡ spares (z.brooms - (t + 1)) (spare_of z (t + 1))
  others_owned =
      let behind : spare_of z t + 1 ≡ spare_of z (t + 1) = omega arith in
      (λ i. without (next_is i) ((owns ∙ ap (λ n. spares n (spare_of z t)) one_more) i))
      ∙ (other_spares (z.brooms - (t + 1)) (spare_of z t) ∙ ap (λ b. spares (z.brooms - (t + 1)) b) behind)

pub deals_next_broom : (f : Flash) (before after : Seat (Unit {0}) View) (brooms : List BroomSeat) (b : BroomSeat) (t : ℕ)
    → DealsBrooms f before brooms t → t < (device f).brooms → after.table_id ≡ before.table_id
    → after.me.0 ≡ dealt_broom before.me.0 → b.seat.table_id ≡ before.table_id → broom_view b ≡ new_broom before.me.0
    → own_blocks b ≡ first_blocks (device f) t → DealsBrooms f after (brooms ++ b ∷ []) (t + 1)
deals_next_broom f before after brooms b t h more table now seat view blocks =
    let its : IsBroomOf f b = record {
      table = seat ∙ h.table;
      role = (before.me.0.brooms, ap (λ (v : View). v.role) view);
      numbers = ap (λ (v : View). v.numbers) view ∙ h.numbers;
    } in
    record {
      table = table ∙ h.table;
      role = ap (λ (v : View). v.role) now ∙ h.role;
      count = ap (λ (v : View). v.brooms) now ∙ ap (λ k. k + 1) h.count;
      numbers = ap (λ (v : View). v.numbers) now ∙ h.numbers;
      owns = ap (λ (v : View). v.owns) now ∙ others_owned (device f) before.me.0 t h.numbers h.count h.owns more;
      long = (let l = length-append brooms (b ∷ []) in let e = h.long in omega arith);
      each = pushed (λ k q. IsBroomOf f q × (broom_view q ≡ first_broom (device f) k) × (own_blocks q ≡ first_blocks (device f) k)) brooms b t h.long
          (its, view ∙ (λ i. first_broom (h.numbers i) (h.count i)), blocks) h.each;
    }
