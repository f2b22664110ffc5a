-- Lines in order, one after the other, and over another history that leaves the same array. A round of lines at disjoint sectors: each line's answer
-- is the one that it has where the lines are done one after another, and so is the array.
use Rattle.std.proofs.Common.{ℕ, List, [], ◌∷◌, ◌++◌, sym, ap, ◌∙◌, subst, append_assoc, append-nil, ◌≡◌, ◌<◌, ◌⊎◌, inl, inr, ⊎_elim, All, None, true, eq-eqb}
use Rattle.std.proofs.Common.{ne_eqb, length, refl, arith}
use Rattle.std.specs.List.{fold}
use Rattle.std.proofs.lemmas.List.Sums.{fold-append}
use Rattle.geometry.specs.History.{Call, step, after, held}
use Rattle.geometry.specs.Sectors.{Sector, sector_at}
use Rattle.rounds.specs.Orders.{made, InOrder, LeaveSame, lines_of, Plays}
use Rattle.std.specs.Prelude.{◌==◌}
use Rattle.std.proofs.lemmas.List.{append_cancel_left, ext_get_or}
use Rattle.std.proofs.lemmas.List.Concat.{flat_map-append}
use Rattle.std.proofs.lemmas.Bool.{eqb-true}
use Rattle.std.proofs.lemmas.List.Elements.{All-head, All-tail, All-nil, All-cons, All-append, All-filter, All-weaker, filter-append, filter_passes}
use mathlib.Core.Logic.{dite}
use native.Mathlib.Decide.{ℕ_discrete}
use Rattle.geometry.proofs.Histories.{length-after}
use Rattle.flash_rule.specs.Views.{caller, calls_of}
use Rattle.flash_rule.proofs.Histories.{calls_of-append, rest_callers}
use Rattle.rounds.specs.Rounds.{AreDisjoint, AreInRange, PlayedRound}
use Rattle.rounds.proofs.Content.{target, content, held-append, AreBy, content_own}
use Rattle.rounds.proofs.Playing.{calls_of-made, at_line}

-- two histories that leave the same array do so after more calls
pub same-append : (n : ℕ) (h k more : List Call) → LeaveSame n h k → LeaveSame n (h ++ more) (k ++ more)
same-append n h k more same = fold-append step (after n []) h more ∙ (ap (λ a. fold step a more) same ∙ sym (fold-append step (after n []) k more))

module _ {X : Type 0} (sector : X → ℕ) (calls : X → List Call) (right : X → Sector → Type 0) (n : ℕ) where
  pub in_order_same : (h k : List Call) (xs : List X) → LeaveSame n h k → InOrder sector calls right n h xs → InOrder sector calls right n k xs
  in_order_same h k [] same o = tt
  in_order_same h k (x ∷ xs) same (here, rest) =
      (subst (λ a. right x (sector_at a (sector x))) same here, in_order_same (h ++ calls x) (k ++ calls x) xs (same-append n h k (calls x) same) rest)

  pub in_order_append : (h : List Call) (xs ys : List X) → InOrder sector calls right n h xs → InOrder sector calls right n (h ++ made calls xs) ys
      → InOrder sector calls right n h (xs ++ ys)
  in_order_append h [] ys o p = subst (λ k. InOrder sector calls right n k ys) (append-nil h) p
  in_order_append h (x ∷ xs) ys (here, rest) p =
      (here, in_order_append (h ++ calls x) xs ys rest (subst (λ k. InOrder sector calls right n k ys) (sym (append_assoc h (calls x) (made calls xs))) p))

-- all of the first part of a list, and of the second
All-first : {X : Type 0} (P : X → Type 0) (xs ys : List X) → All P (xs ++ ys) → All P xs
All-first P [] ys all = All-nil P
All-first P (x ∷ xs) ys all = All-cons P x xs (All-head P x (xs ++ ys) all) (All-first P xs ys (All-tail P x (xs ++ ys) all))

All-second : {X : Type 0} (P : X → Type 0) (xs ys : List X) → All P (xs ++ ys) → All P ys
All-second P [] ys all = all
All-second P (x ∷ xs) ys all = All-second P xs ys (All-tail P x (xs ++ ys) all)

-- all of a list's parts
of_whole : {X : Type 0} (P : X → Type 0) {xs ys : List X} → xs ≡ ys → All P ys → All P xs
of_whole P {xs} {ys} same all = subst (All P) (sym same) all

-- the lines that are picked for a worker are its own
pub picked : {X : Type 0} (worker : X → ℕ) (t : ℕ) (xs : List X) → All (λ x. worker x ≡ t) (lines_of worker t xs)
picked worker t xs = All-weaker (λ x. (worker x == t) ≡ true) (λ x. worker x ≡ t) (λ x same. eqb-true (worker x) t same) (lines_of worker t xs)
    (filter_passes (λ x. worker x == t) xs)

-- what holds of all calls of each host holds of all calls
all_from_callers : (P : Call → Type 0) (hosts : ℕ) (cs : List Call) → All (λ c. caller c < hosts) cs → ((u : ℕ) → u < hosts → All P (calls_of u cs)) → All P cs
all_from_callers P hosts [] callers each = All-nil P
all_from_callers P hosts (c ∷ cs) callers each =
    let here = each (caller c) (All-head (λ c. caller c < hosts) c cs callers) in
    let first : All P (c ∷ calls_of (caller c) cs) = rw (eq-eqb (caller c) (caller c) refl) at here in
    All-cons P c cs (All-head P c (calls_of (caller c) cs) first)
    (all_from_callers P hosts cs (All-tail (λ c. caller c < hosts) c cs callers) (λ u low. rest u (each u low)))
  where
    rest : (u : ℕ) → All P (calls_of u (c ∷ cs)) → All P (calls_of u cs)
    rest u all =
        dite (ℕ_discrete (caller c) u)
        (λ same. let some : All P (c ∷ calls_of u cs) = rw (eq-eqb (caller c) u same) at all in All-tail P c (calls_of u cs) some)
        (λ other. rw (ne_eqb (caller c) u other) at all)

empty_or_not : (cs : List Call) → (cs ≡ []) ⊎ ¬ (cs ≡ [])
empty_or_not [] = inl refl
empty_or_not (c ∷ cs) = inr (λ none. cc)

module _ {X : Type 0} (worker sector : X → ℕ) (calls : X → List Call) (right : X → Sector → Type 0)
    (by : (x : X) → All (λ c. caller c ≡ worker x) (calls x)) (at : (x : X) → All (λ c. target c ≡ sector x) (calls x)) where
  -- a line that changes a sector is of this worker
  abbrev IsOwner : ℕ → ℕ → X → Type 0
  IsOwner s t x = ¬ (calls x ≡ []) → sector x ≡ s → worker x ≡ t

  calls_by_owner : (s t : ℕ) (x : X) → IsOwner s t x → AreBy s t (calls x)
  calls_by_owner s t x owner =
      λ k d low here. by x k d low ∙ owner (λ none. let short = ap (length {A = Call}) none in omega (arith, short)) (sym (at x k d low) ∙ here)

  made_by_owner : (s t : ℕ) (xs : List X) → All (IsOwner s t) xs → AreBy s t (made calls xs)
  made_by_owner s t [] all = All-nil (λ c. target c ≡ s → caller c ≡ t)
  made_by_owner s t (x ∷ xs) all =
      All-append (λ c. target c ≡ s → caller c ≡ t) (calls x) (made calls xs) (calls_by_owner s t x (All-head (IsOwner s t) x xs all))
      (made_by_owner s t xs (All-tail (IsOwner s t) x xs all))

  -- what lines make of a sector that one worker alone changes is told by the calls of that worker's lines
  made_of_owner : (s t : ℕ) (old : Sector) (xs : List X) → All (IsOwner s t) xs
      → content s old (made calls xs) ≡ content s old (made calls (lines_of worker t xs))
  made_of_owner s t old xs all =
      content_own s t old (made calls xs) (made_by_owner s t xs all) ∙ ap (content s old) (calls_of-made worker sector calls right 0 by t xs)

  module _ (hosts n : ℕ) (first : List Call) (xs : List X) (last : List Call) (round : PlayedRound worker sector calls right hosts n first xs last)
      (range : AreInRange worker sector hosts n xs) (apart : AreDisjoint worker sector calls xs) (some : 0 < hosts) where
    -- the calls since the first history
    since : List Call
    since = round.later.0

    of_host : (u : ℕ) → u < hosts → calls_of u since ≡ made calls (lines_of worker u xs)
    unfolding since
    of_host u low =
        append_cancel_left (calls_of u first) (calls_of u since) (made calls (lines_of worker u xs))
        (sym (calls_of-append u first since) ∙ (ap (calls_of u) round.later.1 ∙ round.own u low))

    since_by_owner : (s t : ℕ) → All (IsOwner s t) xs → AreBy s t since
    unfolding since
    since_by_owner s t all =
        all_from_callers (λ c. target c ≡ s → caller c ≡ t) hosts since
        (rest_callers hosts first since (subst (λ h. All (λ c. caller c < hosts) h) (sym round.later.1) round.callers))
        (λ u low. subst (λ cs. AreBy s t cs) (sym (of_host u low))
        (made_by_owner s t (lines_of worker u xs) (All-filter (λ x. worker x == u) (IsOwner s t) xs all)))

    -- the value at a line's own history is that after all lines before it
    at_place : (done : List X) (x : X) (rest : List X) → done ++ x ∷ rest ≡ xs → right x (held n (first ++ made calls done) (sector x))
    unfolding since
    at_place done x rest whole =
        let s = sector x in
        let t = worker x in
        let ds = lines_of worker t done in
        let rs = lines_of worker t rest in
        let in_range : s < n = All-head (λ x. sector x < n) x rest
        (All-second (λ x. sector x < n) done (x ∷ rest) (of_whole (λ x. sector x < n) whole range.sectors)) in
        let low : t < hosts = All-head (λ x. worker x < hosts) x rest
        (All-second (λ x. worker x < hosts) done (x ∷ rest) (of_whole (λ x. worker x < hosts) whole range.workers)) in
        let first_is : lines_of worker t (x ∷ rest) ≡ x ∷ rs = rw (eq-eqb (worker x) t refl) in
        let split : lines_of worker t xs ≡ ds ++ x ∷ rs =
        ap (lines_of worker t) (sym whole) ∙ (filter-append (λ x. worker x == t) done (x ∷ rest) ∙ ap (λ ys. ds ++ ys) first_is) in
        let owners : All (IsOwner s t) xs = All-weaker
        (λ y. All (λ z. ¬ (calls y ≡ []) → sector y ≡ sector z → worker y ≡ worker z) xs) (IsOwner s t)
        (λ y row. All-head (λ z. ¬ (calls y ≡ []) → sector y ≡ sector z → worker y ≡ worker z) x rest
        (All-second (λ z. ¬ (calls y ≡ []) → sector y ≡ sector z → worker y ≡ worker z) done (x ∷ rest)
        (of_whole (λ z. ¬ (calls y ≡ []) → sector y ≡ sector z → worker y ≡ worker z) whole row)))
        xs apart in
        let mine = picked worker t in
        let line = at_line worker sector calls right n by t first ds x rs (round.seen t) last (mine done)
        (subst (λ ys. All (λ x. worker x ≡ t) ys) first_is (mine (x ∷ rest)))
        (subst (λ ys. Plays sector calls right n first ys (round.seen t)) split (round.plays t low)) (round.whole t low)
        (round.own t low ∙ ap (λ ys. calls_of t first ++ made calls ys) split) in
        let h = line.0 in
        let k = line.1.0 in
        let same_since : k ++ line.2.0 ≡ since =
        append_cancel_left first (k ++ line.2.0) since
        (sym (append_assoc first k line.2.0) ∙ (ap (λ g. g ++ line.2.0) line.1.1 ∙ (line.2.1 ∙ sym round.later.1))) in
        let by_owner : AreBy s t k =
        All-first (λ c. target c ≡ s → caller c ≡ t) k line.2.0 (subst (λ cs. AreBy s t cs) (sym same_since) (since_by_owner s t owners)) in
        let own : calls_of t k ≡ made calls ds =
        append_cancel_left (calls_of t first) (calls_of t k) (made calls ds) (sym (calls_of-append t first k) ∙ (ap (calls_of t) line.1.1 ∙ line.4)) in
        let there : held n h s ≡ content s (held n first s) (made calls ds) =
        ap (λ g. held n g s) (sym line.1.1)
        ∙ (held-append n s in_range first k ∙ (content_own s t (held n first s) k by_owner ∙ ap (content s (held n first s)) own)) in
        let before : All (IsOwner s t) done = All-first (IsOwner s t) done (x ∷ rest) (of_whole (IsOwner s t) whole owners) in
        let here : held n (first ++ made calls done) s ≡ content s (held n first s) (made calls ds) =
        held-append n s in_range first (made calls done) ∙ made_of_owner s t (held n first s) done before in
        subst (right x) (there ∙ sym here) line.3

    -- one line more is done
    one_more : (done : List X) (x : X) → (first ++ made calls done) ++ calls x ≡ first ++ made calls (done ++ x ∷ [])
    one_more done x =
        append_assoc first (made calls done) (calls x)
        ∙ ap (λ k. first ++ k) (ap (λ k. made calls done ++ k) (sym (append-nil (calls x))) ∙ sym (flat_map-append calls done (x ∷ [])))

    from_place : (done rest : List X) → done ++ rest ≡ xs → InOrder sector calls right n (first ++ made calls done) rest
    from_place done [] whole = tt
    from_place done (x ∷ rest) whole = (
      at_place done x rest whole,
      subst (λ h. InOrder sector calls right n h rest) (sym (one_more done x)) (from_place (done ++ x ∷ []) rest (append_assoc done (x ∷ []) rest ∙ whole)),
    )

    -- each line has the answer that it has where the lines are done one after another
    pub sequential : InOrder sector calls right n first xs
    sequential = subst (λ h. InOrder sector calls right n h xs) (append-nil first) (from_place [] xs refl)

    -- some worker is the only one that changes a sector
    find_owner : (s : ℕ) (ys : List X) → All (λ y. worker y < hosts) ys
        → All (λ y. All (λ z. ¬ (calls y ≡ []) → sector y ≡ sector z → worker y ≡ worker z) xs) ys
        → ((t : ℕ) × (t < hosts) × All (IsOwner s t) xs) ⊎ All (λ y. ¬ (calls y ≡ []) → sector y ≡ s → ⊥) ys
    find_owner s [] workers rows = inr (All-nil (λ y. ¬ (calls y ≡ []) → sector y ≡ s → ⊥))
    find_owner s (y ∷ ys) workers rows =
        let row = All-head (λ y. All (λ z. ¬ (calls y ≡ []) → sector y ≡ sector z → worker y ≡ worker z) xs) y ys rows in
        let low = All-head (λ y. worker y < hosts) y ys workers in
        ⊎_elim
        (λ (found : (t : ℕ) × (t < hosts) × All (IsOwner s t) xs). inl found)
        (λ (none : All (λ y. ¬ (calls y ≡ []) → sector y ≡ s → ⊥) ys).
        ⊎_elim
        (λ (empty : calls y ≡ []). inr (All-cons (λ y. ¬ (calls y ≡ []) → sector y ≡ s → ⊥) y ys (λ changes here. changes empty) none))
        (λ (changes : ¬ (calls y ≡ [])).
        dite (ℕ_discrete (sector y) s)
        (λ here. inl (
          worker y,
          low,
          All-weaker (λ z. ¬ (calls y ≡ []) → sector y ≡ sector z → worker y ≡ worker z) (IsOwner s (worker y))
              (λ z same _ there. sym (same changes (here ∙ sym there))) xs row,
        ))
        (λ away. inr (All-cons (λ y. ¬ (calls y ≡ []) → sector y ≡ s → ⊥) y ys (λ _ here. away here) none)))
        (empty_or_not (calls y)))
        (find_owner s ys (All-tail (λ y. worker y < hosts) y ys workers)
        (All-tail (λ y. All (λ z. ¬ (calls y ≡ []) → sector y ≡ sector z → worker y ≡ worker z) xs) y ys rows))

    an_owner : (s : ℕ) → (t : ℕ) × (t < hosts) × All (IsOwner s t) xs
    an_owner s =
        ⊎_elim
        (λ (found : (t : ℕ) × (t < hosts) × All (IsOwner s t) xs). found)
        (λ (none : All (λ y. ¬ (calls y ≡ []) → sector y ≡ s → ⊥) xs).
        (0, some, All-weaker (λ y. ¬ (calls y ≡ []) → sector y ≡ s → ⊥) (IsOwner s 0) (λ y never changes here. absurd (never changes here)) xs none))
        (find_owner s xs range.workers apart)

    same_at : (s : ℕ) → s < n → held n last s ≡ held n (first ++ made calls xs) s
    unfolding since
    same_at s low =
        let o = an_owner s in
        let t = o.0 in
        let old = held n first s in
        ap (λ h. held n h s) (sym round.later.1)
        ∙ (held-append n s low first since
        ∙ (content_own s t old since (since_by_owner s t o.2)
        ∙ (ap (content s old) (of_host t o.1)
        ∙ sym (held-append n s low first (made calls xs) ∙ made_of_owner s t old xs o.2))))

    -- the round leaves the array that its lines leave where they are done one after another
    pub leaves_same : LeaveSame n last (first ++ made calls xs)
    leaves_same =
        ext_get_or None (after n last) (after n (first ++ made calls xs)) (length-after n last ∙ sym (length-after n (first ++ made calls xs)))
        (λ s low. same_at s (omega (arith, length-after n last)))
