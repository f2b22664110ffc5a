-- Two hosts that make one call each: whichever is first, the sectors are the same.
use Rattle.std.proofs.Common.{◌≡◌, ℕ, zero, suc, ◌<◌, ◌++◌, ◌⊎◌, inl, inr, ⊎_elim, eq-eqb, ne_eqb, List, [], ◌∷◌, Some, length, slice_get, get_or, sym, refl}
use Rattle.std.proofs.{Common.ap, Common.◌∙◌, Common.subst, Common.arith, Math.ListN.set, lemmas.List.Elements.All-head, lemmas.List.Elements.All-tail}
use Rattle.std.specs.Prelude.{All}
use mathlib.Core.Logic.{dite}
use native.Mathlib.Decide.{ℕ_discrete}
use Rattle.geometry.specs.{Geometry.hosts_of, Geometry.sectors_of, History.Call, History.Write, History.after, Sectors.Sector, declared.answer.Was.Was}
use Rattle.flash_rule.specs.declared.{facts.Name.TheVariants.Pass as APass, facts.Role.TheVariants.Player, view.View.View}
use Rattle.flash_rule.{specs.Views.caller, specs.Views.calls_of, proofs.Histories.nobody}
use Rattle.flash_table.specs.{declared.flash.Flash.Flash, declared.pass.Pass.Pass, Flash.view_of, Flash.geometry_of, Flash.device, Flash.first_view}
use Rattle.host.specs.{Ready.IsReady, Told.Wrote}
use Rattle.volume.specs.Closing.{AreAll, AreFinal}

-- the one call of a host, where the other one has none
only : (h : List Call) (t u : ℕ) (y : Call) → ¬ (t ≡ u) → ((k : ℕ) → k < 2 → (k ≡ t) ⊎ (k ≡ u)) → All (λ c. caller c < 2) h → calls_of t h ≡ y ∷ []
    → calls_of u h ≡ [] → h ≡ y ∷ []
only [] t u y apart both low one none = absurd (cc)
only (c ∷ h) t u y apart both low one none =
    let rest = All-tail (λ x. caller x < 2) c h low in
    ⊎_elim
    (λ (mine : caller c ≡ t).
    let other : ¬ (caller c ≡ u) = λ same. apart (sym mine ∙ same) in
    let first : c ∷ calls_of t h ≡ y ∷ [] = rw (eq-eqb (caller c) t mine) at one in
    let last : calls_of u h ≡ [] = rw (ne_eqb (caller c) u other) at none in
    let is : c ≡ y = (cc) in
    let no_more : calls_of t h ≡ [] = (cc) in
    let nothing : h ≡ [] = nobody 2 h rest
    (λ k below. ⊎_elim (λ (same : k ≡ t). ap (λ n. calls_of n h) same ∙ no_more) (λ (same : k ≡ u). ap (λ n. calls_of n h) same ∙ last) (both k below)) in
    λ i. is i ∷ nothing i)
    (λ (theirs : caller c ≡ u). let some : c ∷ calls_of u h ≡ [] = rw (eq-eqb (caller c) u theirs) at none in absurd (cc))
    (both (caller c) (All-head (λ x. caller x < 2) c h low))

-- the first call is one host's, and then comes the one of the other
first_of : (c : Call) (h : List Call) (a b : ℕ) (x y : Call) → ¬ (a ≡ b) → ((k : ℕ) → k < 2 → (k ≡ b) ⊎ (k ≡ a)) → All (λ c. caller c < 2) h
    → caller c ≡ a → calls_of a (c ∷ h) ≡ x ∷ [] → calls_of b (c ∷ h) ≡ y ∷ [] → (c ≡ x) × (h ≡ y ∷ [])
first_of c h a b x y apart both low mine one two =
    let first : c ∷ calls_of a h ≡ x ∷ [] = rw (eq-eqb (caller c) a mine) at one in
    let last : calls_of b h ≡ y ∷ [] = rw (ne_eqb (caller c) b (λ same. apart (sym mine ∙ same))) at two in
    let is : c ≡ x = (cc) in
    let no_more : calls_of a h ≡ [] = (cc) in
    (is, only h b a y (λ e. apart (sym e)) both low last no_more)

zero_or_one : (k : ℕ) → k < 2 → (k ≡ 0) ⊎ (k ≡ 1)
zero_or_one k below = dite (ℕ_discrete k 0) (λ same. inl same) (λ other. inr (omega arith))

one_or_zero : (k : ℕ) → k < 2 → (k ≡ 1) ⊎ (k ≡ 0)
one_or_zero k below = ⊎_elim (λ (zero : k ≡ 0). inr zero) (λ (one : k ≡ 1). inl one) (zero_or_one k below)

-- the calls of two hosts, one each, in one order or the other
pub in_some_order : (h : List Call) (x y : Call) → All (λ c. caller c < 2) h → calls_of 0 h ≡ x ∷ [] → calls_of 1 h ≡ y ∷ []
    → (h ≡ x ∷ y ∷ []) ⊎ (h ≡ y ∷ x ∷ [])
in_some_order [] x y low one two = absurd (cc)
in_some_order (c ∷ h) x y low one two =
    let rest = All-tail (λ z. caller z < 2) c h low in
    ⊎_elim
    (λ (mine : caller c ≡ 0). let e = first_of c h 0 1 x y (λ e. omega (arith, e)) one_or_zero rest mine one two in inl (λ i. e.0 i ∷ e.1 i))
    (λ (theirs : caller c ≡ 1). let e = first_of c h 1 0 y x (λ e. omega (arith, e)) zero_or_one rest theirs two one in inr (λ i. e.0 i ∷ e.1 i))
    (zero_or_one (caller c) (All-head (λ z. caller z < 2) c h low))

-- a write to sector 0 by one host and a write to sector 1 by the other
pub both_stay : (h : List Call) (first second : List ℕ) → All (λ c. caller c < 2) h → calls_of 0 h ≡ Write 0 0 first ∷ []
    → calls_of 1 h ≡ Write 1 1 second ∷ [] → after 2 h ≡ Some first ∷ Some second ∷ []
both_stay h first second low one two =
    ⊎_elim
    (λ (e : h ≡ Write 0 0 first ∷ Write 1 1 second ∷ []). ap (after 2) e)
    (λ (e : h ≡ Write 1 1 second ∷ Write 0 0 first ∷ []). ap (after 2) e)
    (in_some_order h (Write 0 0 first) (Write 1 1 second) low one two)

-- a device's passes of which nothing was asked yet
abbrev pub AreNew : Flash → List Pass → Type 0
AreNew f xs = (t : ℕ) (p : Pass) → slice_get xs t ≡ Some p → (view_of p ≡ first_view (device f) t) × IsReady f p

module _ (f : Flash) where
  pub first_ready : (xs : List Pass) (x : Pass) → length xs ≡ 2 → AreNew f xs → x ≡ get_or xs 0 x → (view_of x ≡ first_view (device f) 0) × IsReady f x
  first_ready [] x long new is = absurd (omega (arith, long))
  first_ready (p ∷ xs) x long new is = subst (λ q. (view_of q ≡ first_view (device f) 0) × IsReady f q) (sym is) (new 0 p refl)

  pub second_ready : (xs : List Pass) (p' x : Pass) → length xs ≡ 2 → AreNew f xs → x ≡ get_or (set xs 0 p') 1 x
      → (view_of x ≡ first_view (device f) 1) × IsReady f x
  second_ready [] p' x long new is = absurd (omega (arith, long))
  second_ready (p ∷ []) p' x long new is = absurd (omega (arith, long))
  second_ready (p ∷ q ∷ xs) p' x long new is = subst (λ r. (view_of r ≡ first_view (device f) 1) × IsReady f r) (sym is) (new 1 q refl)

  each_ready : (p q : Pass) → IsReady f p → IsReady f q → All (IsReady f) (p ∷ q ∷ [])
  each_ready p q h h' zero d low = h
  each_ready p q h h' (suc zero) d low = h'
  each_ready p q h h' (suc (suc k)) d low = absurd (omega (arith, low))

  pub both_ready : (xs : List Pass) (p q : Pass) → length xs ≡ 2 → IsReady f p → IsReady f q → All (IsReady f) (set (set xs 0 p) 1 q)
  both_ready (x ∷ y ∷ []) p q long h h' = each_ready p q h h'
  both_ready _ _ _ long _ _ = absurd (omega (arith, long))

  -- each has written its sector: the sectors are both values
  pub both_values : (xs : List Pass) (a b p q : Pass) (first second : List ℕ) (was was' : Was) (seen : List Call) (sectors : List Sector)
      → length xs ≡ 2 → hosts_of (geometry_of f) ≡ 2 → sectors_of (geometry_of f) ≡ 2
      → view_of a ≡ first_view (device f) 0 → view_of b ≡ first_view (device f) 1
      → ((t : ℕ) → (view_of a).role ≡ Player (APass t) → Wrote (view_of a) t 0 first was (view_of p))
      → ((t : ℕ) → (view_of b).role ≡ Player (APass t) → Wrote (view_of b) t 1 second was' (view_of q))
      → (AreAll (hosts_of (geometry_of f)) (set (set xs 0 p) 1 q) → AreFinal (device f) (set (set xs 0 p) 1 q) seen sectors)
      → sectors ≡ Some first ∷ Some second ∷ []
  both_values [] a b p q first second was was' seen sectors long hosts count new new' wrote wrote' final = absurd (omega (arith, long))
  both_values (x ∷ []) a b p q first second was was' seen sectors long hosts count new new' wrote wrote' final = absurd (omega (arith, long))
  both_values (x ∷ y ∷ z ∷ xs) a b p q first second was was' seen sectors long hosts count new new' wrote wrote' final = absurd (omega (arith, long))
  both_values (x ∷ y ∷ []) a b p q first second was was' seen sectors long hosts count new new' wrote wrote' final =
      let role = ap (λ (v : View). v.role) new in
      let role' = ap (λ (v : View). v.role) new' in
      let w = wrote 0 role in
      let w' = wrote' 1 role' in
      let is : (view_of p).role ≡ Player (APass 0) = ap (λ (v : View). v.role) w.changed ∙ role in
      let is' : (view_of q).role ≡ Player (APass 1) = ap (λ (v : View). v.role) w'.changed ∙ role' in
      let mine : (view_of p).mine ≡ Write 0 0 first ∷ [] = ap (λ (v : View). v.mine) w.changed ∙ ap (λ (v : View). v.mine ++ Write 0 0 first ∷ []) new in
      let mine' : (view_of q).mine ≡ Write 1 1 second ∷ [] = ap (λ (v : View). v.mine) w'.changed ∙ ap (λ (v : View). v.mine ++ Write 1 1 second ∷ []) new' in
      let all : AreAll (hosts_of (geometry_of f)) (p ∷ q ∷ []) = λ t low.
      ⊎_elim
      (λ (same : t ≡ 0). (p, (0, refl), is ∙ ap (λ n. Player (APass n)) (sym same)))
      (λ (same : t ≡ 1). (q, (1, refl), is' ∙ ap (λ n. Player (APass n)) (sym same)))
      (zero_or_one t (omega (arith, low, hosts))) in
      let end : AreFinal (device f) (p ∷ q ∷ []) seen sectors = final all in
      let callers : All (λ c. caller c < 2) end.history = subst (λ n. All (λ c. caller c < n) end.history) hosts end.callers in
      end.array ∙ (ap (λ n. after n end.history) count
      ∙ both_stay end.history first second callers (end.own 0 p (0, refl) is ∙ mine) (end.own 1 q (1, refl) is' ∙ mine'))
