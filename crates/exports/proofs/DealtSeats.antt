-- Handles that get their seats one after another, from the last one down, and a row of passes or brooms that is taken apart so.
use Rattle.std.proofs.Common.{◌≡◌, ℕ, Bool, true, false, if◌then◌else◌, nat_le, ◌+◌, ◌<◌, ◌≤◌, ◌++◌, ◌∙◌, All, Some, List, []}
use Rattle.std.proofs.Common.{◌∷◌, length, slice_set, get_or, sym, subst, ap, arith}
use Rattle.std.proofs.lemmas.List.{get_or-set_same, get_or-set_other, length-set, get_or_append_left}
use Rattle.std.proofs.Math.Seq.{get_or-append_seam}
use Rattle.std.proofs.lemmas.Grind.{common_steps}
use Rattle.std.proofs.lemmas.List.Elements.{All-pop}
use Rattle.geometry.specs.declared.geometry.Geometry.{Geometry}
use Rattle.geometry.specs.Geometry.{numbers_of as numbers_in}
use Rattle.volume.specs.declared.volume.Volume.{Volume}
use Rattle.exports.specs.Shared.{numbers_of}
use Rattle.exports.specs.Opening.{EachAt, HasNoSeat, capped, IsFreshHost, IsFreshBroom, AreFresh}
use Rattle.exports.specs.declared.handle.Handle.{Handle}
use mathlib.Core.Logic.{dite}
use native.Mathlib.Decide.{ℕ_discrete}

-- of a row, those below a number are as they began, and the others are as they end, by their places
pub record Dealt {X : Type 0} (Begun : X → Type 0) (Ended : ℕ → X → Type 0) (n : ℕ) (xs : List X) : Type 0 where
  pub below : (k : ℕ) (d : X) → k < n → k < length xs → Begun (get_or xs k d)
  pub above : (k : ℕ) (d : X) → n ≤ k → k < length xs → Ended k (get_or xs k d)

module _ {X : Type 0} (Begun : X → Type 0) (Ended : ℕ → X → Type 0) where
  pub deals_next : (xs : List X) (n m : ℕ) (x : X) → n ≡ m + 1 → m < length xs → Ended m x → Dealt Begun Ended n xs → Dealt Begun Ended m (slice_set xs m x)
  deals_next xs n m x next within ended dealt =
      record {
        below = λ k d low inside.
            subst Begun (sym (get_or-set_other xs m k x d (λ same. absurd (omega arith)))) (dealt.below k d (omega arith) (omega (arith, length-set xs m x)));
        above = λ k d high inside.
            dite (ℕ_discrete k m) (λ same.
            subst (λ (i : ℕ). Ended i (get_or (slice_set xs m x) i d)) (sym same) (subst (Ended m) (sym (get_or-set_same xs m x d within)) ended))
            (λ other. subst (Ended k) (sym (get_or-set_other xs m k x d other)) (dealt.above k d (omega (arith, other)) (omega (arith, length-set xs m x))));
      }

-- the last one of a row is taken: what held of each by its place holds of the others, and of the last at the place that they leave
pub each_but_last : {X : Type 0} (P : ℕ → X → Type 0) (xs ys : List X) (x : X) → xs ≡ ys ++ x ∷ [] → EachAt P xs → EachAt P ys × P (length ys) x
each_but_last {X} P xs ys x is each =
    let whole : EachAt P (ys ++ x ∷ []) = subst (EachAt P) is each in
    let longer : length (ys ++ x ∷ []) ≡ length ys + 1 = grind (arith, common_steps) in (
      λ k d low. subst (P k) (get_or_append_left ys (x ∷ []) d k low) (whole k d (omega (arith, longer))),
      subst (P (length ys)) (get_or-append_seam ys x [] x) (whole (length ys) x (omega (arith, longer))),
    )

-- a row of passes or brooms, and the handles that the last ones of it have gone to
pub record DealsOn {X : Type 0} (Ready : X → Type 0) (First : ℕ → X → Type 0) (Fresh : ℕ → Handle → Type 0) (items : List X) (handles : List Handle)
    (count : ℕ) : Type 0 where
  pub ready : All Ready items
  pub first : EachAt First items
  pub dealt : Dealt HasNoSeat Fresh (length items) handles
  pub room : length items ≤ length handles
  pub long : length handles ≡ count

module _ {X : Type 0} (Ready : X → Type 0) (First : ℕ → X → Type 0) (Fresh : ℕ → Handle → Type 0) where
  module _ (items rest : List X) (x : X) (handles : List Handle) (count : ℕ) (is : items ≡ rest ++ x ∷ [])
      (on : DealsOn Ready First Fresh items handles count) where
    one_fewer : length items ≡ length rest + 1
    one_fewer = grind (arith, common_steps)

    pub taken_ready : All Ready rest × Ready x
    taken_ready = All-pop Ready items rest (Some x) is on.ready

    pub taken_first : EachAt First rest × First (length rest) x
    taken_first = each_but_last First items rest x is on.first

    pub has_place : length rest < length handles
    has_place = let low = on.room in omega (arith, one_fewer)

    pub deal_goes_on : (at : ℕ) (h : Handle) → at ≡ length rest → Fresh (length rest) h → DealsOn Ready First Fresh rest (slice_set handles at h) count
    deal_goes_on at h here fresh =
        let set = slice_set handles (length rest) h in
        let same = length-set handles (length rest) h in
        let there : DealsOn Ready First Fresh rest set count =
        record {
          ready = taken_ready.0;
          first = taken_first.0;
          dealt = deals_next HasNoSeat Fresh handles (length items) (length rest) h one_fewer has_place fresh on.dealt;
          room = omega (arith, same, has_place);
          long = same ∙ on.long;
        } in
        subst (λ (i : ℕ). DealsOn Ready First Fresh rest (slice_set handles i h) count) (sym here) there

-- those before a place are closed
abbrev pub AreClosedTo : ℕ → List Handle → Type 0
AreClosedTo n handles = (k : ℕ) (d : Handle) → k < n → k < length handles → HasNoSeat (get_or handles k d)

-- the handles have what is dealt of a device of these numbers
pub now_fresh : (v : Volume) (g : Geometry) (hosts brooms : List Handle) → numbers_of v ≡ g → EachAt (IsFreshHost v) hosts
    → EachAt (IsFreshBroom v) brooms → AreFresh (numbers_in g) hosts brooms
now_fresh v g hosts brooms same h b = record { volume = v; numbers = ap numbers_in same; host = h; broom = b }

within_cap : (b : Bool) (most n m : ℕ) → m ≡ (if b then n else most + 1) → m ≤ most → m ≡ n
within_cap true most n m is low = is
within_cap false most n m is low = absurd (omega (arith, is, low))

-- a capped number that is not over the bound is the number
pub uncapped : (most n m : ℕ) → m ≡ capped (most + 1) n → m ≤ most → m ≡ n
uncapped most n m is low = within_cap (nat_le n (most + 1)) most n m is low
