-- One worker's play: by counting its calls, the history of each of its lines has just the calls of its lines before.
use Rattle.std.proofs.Common.{◌≡◌, ℕ, ◌+◌, ◌≤◌, All, List, [], ◌∷◌, ◌++◌, eq-eqb, ne_eqb, length, take, refl, sym, ap, ◌∙◌, arith, subst, append_assoc}
use Rattle.std.proofs.{Common.length-append, lemmas.List.take_at, lemmas.List.Concat.flat_map-append}
use Rattle.std.proofs.lemmas.List.Elements.{All-head, All-tail}
use mathlib.Core.Logic.{dite}
use native.Mathlib.Decide.{ℕ_discrete}
use Rattle.geometry.{specs.History.Call, specs.History.held, specs.History.Begins, specs.Sectors.Sector, proofs.Histories.Begins-trans}
use Rattle.flash_rule.{specs.Views.caller, specs.Views.calls_of, proofs.Histories.calls_of-append, proofs.Histories.calls_grow}
use Rattle.rounds.specs.Orders.{made, lines_of, Plays}

-- calls that are all of one host
pub all_own : (t : ℕ) (cs : List Call) → All (λ c. caller c ≡ t) cs → calls_of t cs ≡ cs
all_own t [] by = refl
all_own t (c ∷ cs) by =
    let there = all_own t cs (All-tail (λ c. caller c ≡ t) c cs by) in
    rw (eq-eqb (caller c) t (All-head (λ c. caller c ≡ t) c cs by)) (ap (λ l. c ∷ l) there)

-- and of another one than that which is asked for
pub none_own : (t u : ℕ) (cs : List Call) → ¬ (u ≡ t) → All (λ c. caller c ≡ u) cs → calls_of t cs ≡ []
none_own t u [] apart by = refl
none_own t u (c ∷ cs) apart by =
    let there = none_own t u cs apart (All-tail (λ c. caller c ≡ u) c cs by) in
    let other : ¬ (caller c ≡ t) = λ same. apart (sym (All-head (λ c. caller c ≡ u) c cs by) ∙ same) in
    rw (ne_eqb (caller c) t other) there

begins_length : (k l : List Call) → Begins k l → length k ≤ length l
begins_length k l b = omega (arith, length-append k b.0, ap (length {A = Call}) b.1)

-- two beginnings of one list that are equally long are one
pub same_beginning : (k l m : List Call) → Begins k m → Begins l m → length k ≡ length l → k ≡ l
same_beginning k l m a b long = sym (take_at k a.0 (length l) long) ∙ (ap (take (length l)) (a.1 ∙ sym b.1) ∙ take_at l b.0 (length l) refl)

module _ {X : Type 0} (worker sector : X → ℕ) (calls : X → List Call) (right : X → Sector → Type 0) (n : ℕ) where
  pub plays_later : (a : List Call) (xs : List X) (b : List Call) → Plays sector calls right n a xs b → Begins a b
  plays_later a [] b p = p
  plays_later a (x ∷ xs) b (h, from, fits, rest) =
      Begins-trans a h b from (Begins-trans h (h ++ calls x) b (calls x, refl) (plays_later (h ++ calls x) xs b rest))

  -- what was played from a history on was played from each of its beginnings on
  pub plays_from : (z a : List Call) (xs : List X) (b : List Call) → Begins z a → Plays sector calls right n a xs b → Plays sector calls right n z xs b
  plays_from z a [] b before p = Begins-trans z a b before p
  plays_from z a (x ∷ xs) b before (h, from, fits, rest) = (h, Begins-trans z a h before from, fits, rest)

  -- a line in the midst of others, with the history at which it was answered
  pub plays_split : (a : List Call) (ds : List X) (x : X) (rs : List X) (b : List Call) → Plays sector calls right n a (ds ++ x ∷ rs) b
      → (h : List Call) × Plays sector calls right n a ds h × right x (held n h (sector x)) × Plays sector calls right n (h ++ calls x) rs b
  plays_split a [] x rs b (h, from, fits, rest) = (h, from, fits, rest)
  plays_split a (d ∷ ds) x rs b (k, from, fits, rest) =
      let there = plays_split (k ++ calls d) ds x rs b rest in
      (there.0, (k, from, fits, there.1), there.2, there.3)

  module _ (by : (x : X) → All (λ c. caller c ≡ worker x) (calls x)) where
    own_calls : (t : ℕ) (x : X) → worker x ≡ t → calls_of t (calls x) ≡ calls x
    own_calls t x mine = all_own t (calls x) (subst (λ u. All (λ c. caller c ≡ u) (calls x)) mine (by x))

    -- the calls of one worker among those of all lines are those of its lines
    pub calls_of-made : (t : ℕ) (xs : List X) → calls_of t (made calls xs) ≡ made calls (lines_of worker t xs)
    calls_of-made t [] = refl
    calls_of-made t (x ∷ xs) =
        let there = calls_of-made t xs in
        let parts = calls_of-append t (calls x) (made calls xs) in
        dite (ℕ_discrete (worker x) t)
        (λ same. rw (eq-eqb (worker x) t same) (parts ∙ (ap (λ k. k ++ calls_of t (made calls xs)) (own_calls t x same) ∙ ap (λ k. calls x ++ k) there)))
        (λ other. rw (ne_eqb (worker x) t other) (parts ∙ (ap (λ k. k ++ calls_of t (made calls xs)) (none_own t (worker x) (calls x) other (by x)) ∙ there)))

    -- a play adds at least the calls of its lines
    least : (t : ℕ) (a : List Call) (xs : List X) (b : List Call) → All (λ x. worker x ≡ t) xs → Plays sector calls right n a xs b
        → length (calls_of t a) + length (made calls xs) ≤ length (calls_of t b)
    least t a [] b mine p = let grown = begins_length (calls_of t a) (calls_of t b) (calls_grow t a b p) in omega arith
    least t a (x ∷ xs) b mine (h, from, fits, rest) =
        let there = least t (h ++ calls x) xs b (All-tail (λ x. worker x ≡ t) x xs mine) rest in
        let grown = begins_length (calls_of t a) (calls_of t h) (calls_grow t a h from) in
        let own = calls_of-append t h (calls x) ∙ ap (λ k. calls_of t h ++ k) (own_calls t x (All-head (λ x. worker x ≡ t) x xs mine)) in
        let long = ap (length {A = Call}) own in
        omega (arith, length-append (calls_of t h) (calls x), length-append (calls x) (made calls xs), long, there, grown)

    -- the history of a line, in a play that is part of a whole in which the worker has made the calls of its lines and no others
    pub at_line : (t : ℕ) (a : List Call) (ds : List X) (x : X) (rs : List X) (b last : List Call) → All (λ x. worker x ≡ t) ds
        → All (λ x. worker x ≡ t) (x ∷ rs)
        → Plays sector calls right n a (ds ++ x ∷ rs) b → Begins b last → calls_of t last ≡ calls_of t a ++ made calls (ds ++ x ∷ rs)
        → (h : List Call) × Begins a h × Begins h last × right x (held n h (sector x)) × (calls_of t h ≡ calls_of t a ++ made calls ds)
    at_line t a ds x rs b last before mine p whole own =
        let s = plays_split a ds x rs b p in
        let h = s.0 in
        let rest = All-tail (λ x. worker x ≡ t) x rs mine in
        let upto : Begins (h ++ calls x) last = Begins-trans (h ++ calls x) b last (plays_later (h ++ calls x) rs b s.3) whole in
        let onward : Begins h last = Begins-trans h (h ++ calls x) last (calls x, refl) upto in
        let low = least t a ds h before s.1 in
        let high = least t (h ++ calls x) rs b rest s.3 in
        let more = ap (length {A = Call})
        (calls_of-append t h (calls x) ∙ ap (λ k. calls_of t h ++ k) (own_calls t x (All-head (λ x. worker x ≡ t) x rs mine))) in
        let grown = begins_length (calls_of t b) (calls_of t last) (calls_grow t b last whole) in
        let split = flat_map-append calls ds (x ∷ rs) in
        let all : calls_of t last ≡ (calls_of t a ++ made calls ds) ++ made calls (x ∷ rs) =
        own ∙ (ap (λ k. calls_of t a ++ k) split ∙ sym (append_assoc (calls_of t a) (made calls ds) (made calls (x ∷ rs)))) in
        let size = ap (length {A = Call}) all in
        let long : length (calls_of t h) ≡ length (calls_of t a ++ made calls ds) =
        omega (
          arith,
          low,
          high,
          more,
          grown,
          size,
          length-append (calls_of t h) (calls x),
          length-append (calls_of t a ++ made calls ds) (made calls (x ∷ rs)),
          length-append (calls_of t a) (made calls ds),
          length-append (calls x) (made calls rs),
        ) in
        let first : Begins (calls_of t a ++ made calls ds) (calls_of t last) = (made calls (x ∷ rs), sym all) in (
          h,
          plays_later a ds h s.1,
          onward,
          s.2,
          same_beginning (calls_of t h) (calls_of t a ++ made calls ds) (calls_of t last) (calls_grow t h last onward) first long,
        )
