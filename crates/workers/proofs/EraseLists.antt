-- What the erases among a broom's calls add to its lists of busy and of stale blocks.
use Rattle.std.proofs.Common.{◌≡◌, ℕ, ◌+◌, ◌-◌, List, [], ◌∷◌, ◌++◌, length, true, false, refl, sym, ap, subst, arith}
use Rattle.std.proofs.lemmas.List.{length-append}
use Rattle.flash_rule.specs.declared.view.View.{View}
use Rattle.broom.specs.declared.{broom.Broom.Broom, answer.Drain.Drain, answer.Erase.Erase}
use Rattle.broom.specs.{Handing.EraseOneTold, Handing.IsElse, Ready.view_of_broom}
use Rattle.workers.specs.{declared.collector.broom_answer.BroomAnswer.BroomAnswer, declared.collector.tally.Tally.Tally, Tallies.busy_in}
use Rattle.workers.specs.Tallies.{stale_in, answer_adds, drain_adds, erase_adds, survey_adds, total_of}
use Rattle.workers.specs.Collecting.{CallTold, HasMadeCalls, listed_by_erase, listed_by_erases}
use Rattle.broom.specs.declared.answer.Drain.TheVariants as drain
use Rattle.broom.specs.declared.answer.Erase.TheVariants as erase
use Rattle.workers.specs.declared.collector.broom_answer.BroomAnswer.TheVariants as by

-- two lists of brooms' views, and how much the second one is longer
abbrev growth : (View → List ℕ) → Broom → Broom → ℕ
growth list_of a b = length (list_of (view_of_broom b)) - length (list_of (view_of_broom a))

none_more : (xs ys : List ℕ) → ys ≡ xs → 0 ≡ length ys - length xs
none_more xs ys is = let long = ap (length {A = ℕ}) is in omega (arith, long)

one_longer : (xs ys : List ℕ) (b : ℕ) → ys ≡ xs ++ b ∷ [] → 1 ≡ length ys - length xs
one_longer xs ys b is = let long = ap (length {A = ℕ}) is in omega (arith, long, length-append xs (b ∷ []))

-- at the ends of an erase the broom has changed in its place at the queue alone
between : (list_of : View → List ℕ) (n : ℕ) (a b c d : Broom) → IsElse a b → IsElse c d → n ≡ growth list_of b c → n ≡ growth list_of a d
between list_of n a b c d first last is =
    subst (λ (x : View × View). n ≡ length (list_of x.1) - length (list_of x.0)) (λ i. (ap view_of_broom first i, sym (ap view_of_broom last) i)) is

behind : (list_of : View → List ℕ) (n : ℕ) (a b c : Broom) → IsElse a b → n ≡ growth list_of b c → n ≡ growth list_of a c
behind list_of n a b c first is = subst (λ (x : View). n ≡ length (list_of (view_of_broom c)) - length (list_of x)) (ap view_of_broom first) is

-- a list that the call has not changed
unchanged : (list_of : View → List ℕ) (a b c : Broom) → IsElse a b → list_of (view_of_broom c) ≡ list_of (view_of_broom b) → 0 ≡ growth list_of a c
unchanged list_of a b c first same = behind list_of 0 a b c first (none_more (list_of (view_of_broom b)) (list_of (view_of_broom c)) same)

-- the two lists of a broom's view
abbrev lists_in : View → List ℕ × List ℕ
lists_in x = (busy_in x, stale_in x)

neither : (a b c : Broom) → IsElse a b → lists_in (view_of_broom c) ≡ lists_in (view_of_broom b) → (0 ≡ growth busy_in a c) × (0 ≡ growth stale_in a c)
neither a b c first same = (unchanged busy_in a b c first (ap (λ l. l.0) same), unchanged stale_in a b c first (ap (λ l. l.1) same))

erase_lists : (limit : ℕ) (a b : Broom) (e : Erase) → EraseOneTold limit a e b
    → ((erase_adds e).pinned ≡ growth busy_in a b) × ((erase_adds e).stale ≡ growth stale_in a b)
erase_lists limit a b (erase.Erased block true) told = neither a told.1.fetched b told.1.first.rest (ap lists_in told.1.erase.1.erased.changed)
erase_lists limit a b (erase.Erased block false) told = neither a told.1.fetched b told.1.first.rest (ap lists_in told.1.erase.1.erased.changed)
erase_lists limit a b (erase.Retired block) told = neither a told.1.fetched b told.1.first.rest (ap lists_in told.1.erase.1.erased.changed)
erase_lists limit a b erase.Pinned told =
    let from = told.erase.fetched in
    let changed = told.erase.erase.0.changed in (
      between busy_in 1 a from told.found b told.erase.first.rest told.handed.rest (one_longer _ _ told.block (ap busy_in changed)),
      between stale_in 0 a from told.found b told.erase.first.rest told.handed.rest (none_more _ _ (ap stale_in changed)),
    )
erase_lists limit a b erase.Stale told =
    let from = told.1.fetched in
    let changed = told.1.erase.0.changed in (
      unchanged busy_in a from b told.1.first.rest (ap busy_in changed),
      behind stale_in 1 a from b told.1.first.rest (one_longer _ _ told.0 (ap stale_in changed)),
    )
erase_lists limit a b erase.QueueEmpty told =
    let same = ap view_of_broom told.rest in (none_more _ _ (ap busy_in same), none_more _ _ (ap stale_in same))

-- a drain finds no block pinned or stale that would be counted
abbrev FindsNone : Tally → Type 0
FindsNone t = (t.pinned ≡ 0) × (t.stale ≡ 0)

survey_finds_none : (d : Drain) → FindsNone (survey_adds d)
survey_finds_none (drain.Drained block copied) = (refl, refl)
survey_finds_none drain.NothingToGain = (refl, refl)
survey_finds_none drain.NoSpare = (refl, refl)
survey_finds_none drain.Lost = (refl, refl)
survey_finds_none drain.QueueFull = (refl, refl)

drain_finds_none : (d : Drain) → FindsNone (drain_adds d)
drain_finds_none (drain.Drained block copied) = (refl, refl)
drain_finds_none drain.NothingToGain = (refl, refl)
drain_finds_none drain.NoSpare = (refl, refl)
drain_finds_none drain.Lost = (refl, refl)
drain_finds_none drain.QueueFull = (refl, refl)

call_lists : (limit : ℕ) (a b : Broom) (x : BroomAnswer) → CallTold limit a x b
    → ((answer_adds x).pinned ≡ listed_by_erase busy_in a x b) × ((answer_adds x).stale ≡ listed_by_erase stale_in a x b)
call_lists limit a b (by.Drain given programmed) told = survey_finds_none given
call_lists limit a b (by.DrainNext given programmed) told = drain_finds_none given
call_lists limit a b (by.DrainDead given) told = survey_finds_none given
call_lists limit a b (by.Erase given) told = erase_lists limit a b given told
call_lists limit a b (by.Restock given) told = (refl, refl)

pub calls_listed : (limit : ℕ) (a b : Broom) (xs : List BroomAnswer) (calls : HasMadeCalls limit a xs b)
    → ((total_of xs).pinned ≡ listed_by_erases busy_in limit a xs b calls) × ((total_of xs).stale ≡ listed_by_erases stale_in limit a xs b calls)
calls_listed limit a b [] calls = (refl, refl)
calls_listed limit a b (x ∷ xs) calls =
    let here = call_lists limit a calls.0 x calls.1 in
    let rest = calls_listed limit calls.0 b xs calls.2 in
    ((λ i. here.0 i + rest.0 i), (λ i. here.1 i + rest.1 i))
