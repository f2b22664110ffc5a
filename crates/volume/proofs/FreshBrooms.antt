-- The brooms of a new device are ready.
use Rattle.std.proofs.Common.{◌≡◌, ℕ, ◌<◌, All, List, [], ◌∷◌, ◌++◌, Option, None, Some, IfSome, length, map, slice_get, get_or, sym, refl, ap, ◌∙◌, subst}
use Rattle.std.{proofs.Common.arith, proofs.Common.append_assoc, specs.Option.option_map}
use Rattle.std.proofs.lemmas.{List.map_push, List.length-map, List.length_push, Option.slice_get-get_or, Option.slice_get-map}
use Rattle.std.proofs.lemmas.List.Elements.{All-nil, All-same, All-push, All-pop, All-head, All-rest}
use Rattle.geometry.specs.Geometry.{brooms_of, hosts_of}
use Rattle.flash_rule.{specs.declared.view.View.View, specs.Views.caller, proofs.Owning.some_same, proofs.Owning.none_some}
use Rattle.erase_queue.specs.{declared.pass.QueuePass.QueuePass, declared.queue.EraseQueue.EraseQueue, Queue.limit_of, Queue.IsNewPass}
use Rattle.flash_table.specs.declared.{flash.Flash.Flash, broom_seat.BroomBlocks.BroomBlocks, broom_seat.BroomSeat.BroomSeat}
use Rattle.flash_table.specs.Flash.{IsBroomOf, broom_view, own_blocks, geometry_of, device, first_broom, first_blocks}
use Rattle.broom.specs.{declared.broom.Broom.Broom, Handing.IsQueued, Handing.place_of, Handing.aside_of}
use Rattle.broom.specs.Ready.{HasNoMarks, IsRested, IsReady, HasRoom, view_of_broom, blocks_of_broom}
use Rattle.volume.specs.Volume.{IsFresh, known_by_seat, known_by_broom}

-- a seat that has done nothing and has its spare alone
pub rested : (f : Flash) (s : BroomSeat) (i : ℕ) → 0 < hosts_of (geometry_of f) → i < brooms_of (geometry_of f) → IsBroomOf f s
    → broom_view s ≡ first_broom (device f) i → own_blocks s ≡ first_blocks (device f) i → IsRested f s
rested f s i hosts low seat first blocks =
    let seen : (broom_view s).seen ≡ [] = ap (λ (v : View). v.seen) first in
    let work = ap (λ (v : View). v.work) first in
    let limits = f.geometry.in_limits in
    let space = limits.shared_blocks hosts in
    let young = limits.endurance_low in
    let spare = ap (λ (x : BroomBlocks). x.spare) blocks in
    record {
      seat = seat;
      destination = λ o is. absurd (none_some o (sym (ap (λ (x : BroomBlocks). x.destination) blocks) ∙ is));
      spare = λ o is.
          let same = some_same _ o (sym spare ∙ is) in
          subst (HasRoom (geometry_of f) 1) same (record { low = omega arith; room = omega arith; young = omega arith });
      filed = λ w is. absurd (none_some w (sym work ∙ is));
      reclaiming = ap (λ (x : BroomBlocks). x.reclaiming) blocks;
      source = ap (λ (v : View). v.source) first;
      callers = All-same (λ c. caller c < (broom_view s).numbers.hosts) (broom_view s).seen [] seen (All-nil (λ c. caller c < (broom_view s).numbers.hosts));
      whole = ap (λ (v : View). v.whole) first;
      alone = ap (λ (v : View). v.guest) first;
    }

-- the seats of a device on which nothing was done
pub all_rested : (f : Flash) (seats : List BroomSeat) → 0 < hosts_of (geometry_of f) → length seats ≡ brooms_of (geometry_of f)
    → ((i : ℕ) (s : BroomSeat) → slice_get seats i ≡ Some s
    → IsBroomOf f s × (broom_view s ≡ first_broom (device f) i) × (own_blocks s ≡ first_blocks (device f) i)) → All (IsRested f) seats
all_rested f seats hosts count each k d low =
    let s = get_or seats k d in
    let h = each k s (slice_get-get_or seats k d low) in rested f s k hosts (omega arith) h.0 h.1 h.2

-- what a list has at a place where its image has y
behind_at : {X Y : Type 0} (g : X → Y) (o : Option X) (y : Y) → option_map g o ≡ Some y → (x : X) × (o ≡ Some x) × (g x ≡ y)
behind_at g None y is = absurd (none_some y is)
behind_at g (Some x) y is = (x, refl, some_same (g x) y is)

-- a broom knows what its seat did
pub of_seats : (seats : List BroomSeat) (brooms : List Broom) → map known_by_broom brooms ≡ map known_by_seat seats → (i : ℕ) (b : Broom)
    → slice_get brooms i ≡ Some b
    → (s : BroomSeat) × (slice_get seats i ≡ Some s) × (known_by_seat s ≡ known_by_broom b)
of_seats seats brooms same i b is =
    behind_at known_by_seat (slice_get seats i) (known_by_broom b)
    (sym (slice_get-map known_by_seat seats i)
    ∙ (ap (λ l. slice_get l i) (sym same) ∙ (slice_get-map known_by_broom brooms i ∙ ap (option_map known_by_broom) is)))

-- and there are as many
pub as_many : (seats : List BroomSeat) (brooms : List Broom) → map known_by_broom brooms ≡ map known_by_seat seats → length brooms ≡ length seats
as_many seats brooms same = sym (length-map brooms known_by_broom) ∙ (ap (λ l. length l) same ∙ length-map seats known_by_seat)

-- so each broom of a new device begins as its seat
pub begins : (f : Flash) (seats : List BroomSeat) (brooms : List Broom) → map known_by_broom brooms ≡ map known_by_seat seats
    → ((i : ℕ) (s : BroomSeat) → slice_get seats i ≡ Some s
    → IsBroomOf f s × (broom_view s ≡ first_broom (device f) i) × (own_blocks s ≡ first_blocks (device f) i)) → (i : ℕ) (b : Broom)
    → slice_get brooms i ≡ Some b
    → (view_of_broom b ≡ first_broom (device f) i) × (blocks_of_broom b ≡ first_blocks (device f) i)
begins f seats brooms same each i b is =
    let o = of_seats seats brooms same i b is in
    let h = each i o.0 o.1 in (ap (λ x. x.0) (sym o.2) ∙ h.1, ap (λ x. x.1) (sym o.2) ∙ h.2)

-- what holds of all holds of the first and of the others
pub taken : {X : Type 0} (P : X → Type 0) (x : X) (xs ys : List X) → ys ≡ x ∷ xs → All P ys → P x × All P xs
taken P x xs ys is all = (All-head P x xs (subst (All P) is all), All-rest P x xs ys is all)

-- a broom that was just made has its place at the queue
pub fresh_queued : (f : Flash) (q : EraseQueue) (b : Broom) → IsFresh f q b → IsQueued q b
fresh_queued f q b h = record { place = h.place.queue; aside = subst (λ (o : Option ℕ). IfSome o (λ block. block < limit_of q)) (sym h.aside) tt }

-- These brooms were made of the first seats and the last places, and these seats and places are left
pub record Making (f : Flash) (q : EraseQueue) (all : List BroomSeat) (brooms : List Broom) (rest : List BroomSeat) (places : List QueuePass) : Type 0 where
  pub known : map known_by_broom brooms ++ map known_by_seat rest ≡ map known_by_seat all
  pub fresh : All (IsFresh f q) brooms
  pub rested : All (IsRested f) rest
  pub new : All (IsNewPass q) places
  pub count : length places ≡ length rest

-- one seat more has become a broom
pub one_made : (f : Flash) (q : EraseQueue) (all rest rest' : List BroomSeat) (places places' : List QueuePass) (brooms brooms' : List Broom)
    (s : BroomSeat) (p : QueuePass) (b : Broom) → Making f q all brooms rest places → rest ≡ s ∷ rest'
    → places ≡ places' ++ p ∷ [] → brooms' ≡ brooms ++ b ∷ [] → view_of_broom b ≡ broom_view s → blocks_of_broom b ≡ own_blocks s
    → (place_of b ≡ p) × (aside_of b ≡ None) → (IsRested f s → IsReady f b) → HasNoMarks b → Making f q all brooms' rest' places'
one_made f q all rest rest' places places' brooms brooms' s p b was next left pushed view blocks place ready unmarked =
    let known : known_by_broom b ≡ known_by_seat s = λ i. (view i, blocks i) in
    let others = taken (IsRested f) s rest' rest next was.rested in
    let popped = All-pop (IsNewPass q) places places' (Some p) left was.new in
    let fewer = ap (length {A = BroomSeat}) next in
    let less = ap (length {A = QueuePass}) left in
    let as_many = was.count in
    record {
      new = popped.0;
      count = omega (arith, length_push places' p);
      known = ap (λ l. map known_by_broom l ++ map known_by_seat rest') pushed
          ∙ (ap (λ l. l ++ map known_by_seat rest') (map_push known_by_broom brooms b)
          ∙ (append_assoc (map known_by_broom brooms) (known_by_broom b ∷ []) (map known_by_seat rest')
          ∙ (ap (λ x. map known_by_broom brooms ++ x ∷ map known_by_seat rest') known
          ∙ (ap (λ l. map known_by_broom brooms ++ map known_by_seat l) (sym next) ∙ was.known))));
      fresh = subst (All (IsFresh f q)) (sym pushed)
          (All-push (IsFresh f q) brooms b was.fresh
          (record { ready = ready others.0; place = subst (IsNewPass q) (sym place.0) popped.1; aside = place.1; unmarked = unmarked }));
      rested = others.1;
    }
