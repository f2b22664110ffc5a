-- Tallies of answers, one list after another.
use Rattle.std.proofs.Common.{◌≡◌, ℕ, ◌+◌, List, [], ◌∷◌, ◌++◌, sym, ap, ◌∙◌, add-zero, arith}
use Rattle.std.specs.Prelude.{◌%◌, ◌^◌}
use Rattle.std.proofs.Math.Nat.{mod-add-mod, mod-mod}
use Rattle.workers.specs.declared.collector.{broom_answer.BroomAnswer.BroomAnswer, tally.Tally.Tally}
use Rattle.workers.specs.Tallies.{IsCounted, added, answer_adds, nothing_done, total_of, wrapped}

-- a sum modulo m, where its first part is another one modulo m
next_mod : (m t a y u : ℕ) → t % m ≡ a % m → u % m ≡ (t + y) % m → u % m ≡ (a + y) % m
next_mod m t a y u first more = more ∙ (sym (mod-add-mod t m y) ∙ (ap (λ (n : ℕ). (n + y) % m) first ∙ mod-add-mod a m y))

pub zero_plus : (n : ℕ) → n ≡ 0 + n
zero_plus n = omega arith

plus_plus : (a b c : ℕ) → (a + b) + c ≡ a + (b + c)
plus_plus a b c = omega arith

-- tallies are equal where each count is
same_counts : (s t : Tally) → s.drained ≡ t.drained → s.moved ≡ t.moved → s.programmed ≡ t.programmed → s.erased ≡ t.erased → s.kept ≡ t.kept
    → s.retired ≡ t.retired → s.lost ≡ t.lost → s.pinned ≡ t.pinned
    → s.stale ≡ t.stale → s.gainless ≡ t.gainless → s ≡ t
same_counts s t drained moved programmed erased kept retired lost pinned stale gainless = λ i. record {
  drained = drained i;
  moved = moved i;
  programmed = programmed i;
  erased = erased i;
  kept = kept i;
  retired = retired i;
  lost = lost i;
  pinned = pinned i;
  stale = stale i;
  gainless = gainless i;
}

added_nothing : (t : Tally) → added t nothing_done ≡ t
added_nothing t =
    same_counts (added t nothing_done) t (add-zero t.drained) (add-zero t.moved) (add-zero t.programmed) (add-zero t.erased) (add-zero t.kept)
    (add-zero t.retired) (add-zero t.lost) (add-zero t.pinned) (add-zero t.stale) (add-zero t.gainless)

pub nothing_added : (t : Tally) → t ≡ added nothing_done t
nothing_added t =
    same_counts t (added nothing_done t) (zero_plus t.drained) (zero_plus t.moved) (zero_plus t.programmed) (zero_plus t.erased) (zero_plus t.kept)
    (zero_plus t.retired) (zero_plus t.lost) (zero_plus t.pinned) (zero_plus t.stale) (zero_plus t.gainless)

added_twice : (s t u : Tally) → added (added s t) u ≡ added s (added t u)
added_twice s t u =
    same_counts (added (added s t) u) (added s (added t u)) (plus_plus s.drained t.drained u.drained) (plus_plus s.moved t.moved u.moved)
    (plus_plus s.programmed t.programmed u.programmed) (plus_plus s.erased t.erased u.erased)
    (plus_plus s.kept t.kept u.kept) (plus_plus s.retired t.retired u.retired) (plus_plus s.lost t.lost u.lost) (plus_plus s.pinned t.pinned u.pinned)
    (plus_plus s.stale t.stale u.stale) (plus_plus s.gainless t.gainless u.gainless)

wrapped_twice : (t : Tally) → wrapped (wrapped t) ≡ wrapped t
wrapped_twice t =
    let m = 2 ^ 64 in
    same_counts (wrapped (wrapped t)) (wrapped t) (mod-mod t.drained m) (mod-mod t.moved m) (mod-mod t.programmed m) (mod-mod t.erased m)
    (mod-mod t.kept m) (mod-mod t.retired m) (mod-mod t.lost m) (mod-mod t.pinned m) (mod-mod t.stale m) (mod-mod t.gainless m)

pub total_append : (xs ys : List BroomAnswer) → total_of (xs ++ ys) ≡ added (total_of xs) (total_of ys)
total_append [] ys = nothing_added (total_of ys)
total_append (x ∷ xs) ys = ap (added (answer_adds x)) (total_append xs ys) ∙ sym (added_twice (answer_adds x) (total_of xs) (total_of ys))

pub total_one : (x : BroomAnswer) → total_of (x ∷ []) ≡ answer_adds x
total_one x = added_nothing (answer_adds x)

pub counted_none : (t : Tally) → IsCounted t [] t
counted_none t = ap wrapped (sym (added_nothing t))

pub counted_one : (t u : Tally) (x : BroomAnswer) → u ≡ wrapped (added t (answer_adds x)) → IsCounted t (x ∷ []) u
counted_one t u x is = ap wrapped is ∙ (wrapped_twice (added t (answer_adds x)) ∙ ap (λ (n : Tally). wrapped (added t n)) (sym (total_one x)))

pub counted_then : (s t u : Tally) (xs ys : List BroomAnswer) → IsCounted s xs t → IsCounted t ys u → IsCounted s (xs ++ ys) u
counted_then s t u xs ys one two =
    let m = 2 ^ 64 in
    let x = total_of xs in
    let y = total_of ys in
    same_counts (wrapped u) (wrapped (added (added s x) y))
    (next_mod m t.drained (s.drained + x.drained) y.drained u.drained (ap (λ (n : Tally). n.drained) one) (ap (λ (n : Tally). n.drained) two))
    (next_mod m t.moved (s.moved + x.moved) y.moved u.moved (ap (λ (n : Tally). n.moved) one) (ap (λ (n : Tally). n.moved) two))
    (next_mod m t.programmed (s.programmed + x.programmed) y.programmed u.programmed
    (ap (λ (n : Tally). n.programmed) one) (ap (λ (n : Tally). n.programmed) two))
    (next_mod m t.erased (s.erased + x.erased) y.erased u.erased (ap (λ (n : Tally). n.erased) one) (ap (λ (n : Tally). n.erased) two))
    (next_mod m t.kept (s.kept + x.kept) y.kept u.kept (ap (λ (n : Tally). n.kept) one) (ap (λ (n : Tally). n.kept) two))
    (next_mod m t.retired (s.retired + x.retired) y.retired u.retired (ap (λ (n : Tally). n.retired) one) (ap (λ (n : Tally). n.retired) two))
    (next_mod m t.lost (s.lost + x.lost) y.lost u.lost (ap (λ (n : Tally). n.lost) one) (ap (λ (n : Tally). n.lost) two))
    (next_mod m t.pinned (s.pinned + x.pinned) y.pinned u.pinned (ap (λ (n : Tally). n.pinned) one) (ap (λ (n : Tally). n.pinned) two))
    (next_mod m t.stale (s.stale + x.stale) y.stale u.stale (ap (λ (n : Tally). n.stale) one) (ap (λ (n : Tally). n.stale) two))
    (next_mod m t.gainless (s.gainless + x.gainless) y.gainless u.gainless (ap (λ (n : Tally). n.gainless) one) (ap (λ (n : Tally). n.gainless) two))
    ∙ ap wrapped (added_twice s x y ∙ ap (added s) (sym (total_append xs ys)))

-- the same as one number, where the first tally is a count modulo 2 ^ 64
pub exact_none : (t : Tally) → t ≡ wrapped t → t ≡ wrapped (added t nothing_done)
exact_none t is = is ∙ ap wrapped (sym (added_nothing t))

pub exact_one : (t u : Tally) (x : BroomAnswer) → u ≡ wrapped (added t (answer_adds x)) → u ≡ wrapped (added t (total_of (x ∷ [])))
exact_one t u x is = is ∙ ap (λ (n : Tally). wrapped (added t n)) (sym (total_one x))

pub exact_then : (s t u : Tally) (xs ys : List BroomAnswer) → IsCounted s xs t → IsCounted t ys u → t ≡ wrapped (added s (total_of xs))
    → u ≡ wrapped (added t (total_of ys)) → u ≡ wrapped (added s (total_of (xs ++ ys)))
exact_then s t u xs ys one two first more = more ∙ (sym (wrapped_twice (added t (total_of ys))) ∙ (ap wrapped (sym more) ∙ counted_then s t u xs ys one two))

pub wrapped_sum : (s t u : Tally) → t ≡ wrapped (added s u) → t ≡ wrapped t
wrapped_sum s t u is = is ∙ (sym (wrapped_twice (added s u)) ∙ ap wrapped (sym is))
