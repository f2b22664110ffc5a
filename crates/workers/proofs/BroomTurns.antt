-- A turn of a broom, call by call.
use Rattle.std.proofs.Common.{◌≡◌, ℕ, ◌+◌, ◌-◌, ◌≤◌, Bool, true, false, List, [], ◌∷◌, ◌++◌, length, refl, sym, ap, ◌∙◌, subst, append_assoc, append-nil, arith}
use Rattle.std.proofs.Common.{inr}
use Rattle.std.specs.{Prelude.◌||◌, List.flat_map, List.list_any}
use mathlib.Core.Bool.{true≢false}
use Rattle.std.proofs.lemmas.List.{length-append, Folds.list_any-append, Concat.flat_map-append}
use Rattle.broom.specs.{contracts.answer.DrainPartialEq.TheImpl.eq-value, declared.answer.Drain.Drain, declared.answer.Erase.Erase}
use Rattle.workers.specs.declared.collector.{broom_answer.BroomAnswer.BroomAnswer, Collector.Collector}
use Rattle.workers.specs.Collecting.{HasCollectedBy, HasFollowed, HasSearched}
use Rattle.workers.specs.Turns.{Follows, GoesOn, TurnDrain, by_last_survey, by_new_survey, found_no_spare, has_drained, has_erased, has_gained, is_last}
use Rattle.workers.proofs.BroomCalls.{collected_by_then}
use Rattle.broom.specs.declared.answer.Drain.TheVariants as drain
use Rattle.workers.specs.declared.collector.broom_answer.BroomAnswer.TheVariants as by

-- the drain behind which another one comes
abbrev last_of : TurnDrain → List TurnDrain → TurnDrain
last_of d [] = d
last_of d (next ∷ others) = last_of next others

last_is : (d e : TurnDrain) (others : List TurnDrain) → last_of d (others ++ e ∷ []) ≡ e
last_is d e [] = refl
last_is d e (next ∷ others) = last_is next e others

goes_on : (d e : TurnDrain) (others : List TurnDrain) → GoesOn d others → is_last (last_of d others).given ≡ false → GoesOn d (others ++ e ∷ [])
goes_on d e [] on more = (more, tt)
goes_on d e (next ∷ others) on more = (on.0, goes_on next e others on.1 more)

-- A turn so far, of this many drains, of which the last had this result
pub record TurnSoFar (before : Collector) (made : ℕ) (given : Drain) (gained : Bool) (now : Collector) : Type 0 where
  pub first : TurnDrain
  pub others : List TurnDrain
  pub count : length others + 1 ≡ made
  pub few : length others ≤ before.drains - 1
  pub on : GoesOn first others
  pub last : (last_of first others).given ≡ given
  pub told : gained ≡ list_any has_gained (by_new_survey first ++ flat_map by_last_survey others)
  pub collected : HasCollectedBy before (by_new_survey first ++ flat_map by_last_survey others) now

-- a drain, and what followed it
abbrev behind : (given : Drain) (programmed : ℕ) (answers : List BroomAnswer) → Follows given answers → TurnDrain
behind given programmed answers follows = record { given = given; programmed = programmed; behind = answers; follows = follows }

pub first_drain : (s t u : Collector) (given : Drain) (programmed : ℕ) (gained : Bool) → HasCollectedBy s (by.Drain given programmed ∷ []) t
    → HasFollowed t given gained u → TurnSoFar s 1 given gained u
first_drain s t u given programmed gained drained followed =
    let d = behind given programmed followed.behind followed.follows in
    let all = sym (append-nil (by_new_survey d)) in
    record {
      first = d;
      others = [];
      count = refl;
      few = omega arith;
      on = tt;
      last = refl;
      told = followed.told ∙ ap (list_any has_gained) all;
      collected = subst (λ (xs : List BroomAnswer). HasCollectedBy s xs u) all
          (collected_by_then s t u (by.Drain given programmed ∷ []) followed.behind drained followed.collected);
    }

or_turned : (a b : Bool) → (a || b) ≡ (b || a)
or_turned true true = refl
or_turned true false = refl
or_turned false true = refl
or_turned false false = refl

or_false : (a : Bool) → a ≡ (a || false)
or_false true = refl
or_false false = refl

pub next_drain : (s t u v : Collector) (made : ℕ) (given next : Drain) (programmed : ℕ) (gained more now : Bool) → TurnSoFar s made given gained t
    → is_last given ≡ false → made + 1 ≤ s.drains → HasCollectedBy t (by.DrainNext next programmed ∷ []) u → HasFollowed u next more v
    → now ≡ (more || gained) → TurnSoFar s (made + 1) next now v
next_drain s t u v made given next programmed gained more now so_far goes low drained followed is =
    let d = behind next programmed followed.behind followed.follows in
    let old = by_new_survey so_far.first ++ flat_map by_last_survey so_far.others in
    let all : old ++ by_last_survey d ≡ by_new_survey so_far.first ++ flat_map by_last_survey (so_far.others ++ d ∷ []) =
    append_assoc (by_new_survey so_far.first) (flat_map by_last_survey so_far.others) (by_last_survey d)
    ∙ ap (λ (l : List BroomAnswer). by_new_survey so_far.first ++ l)
    (ap (λ (l : List BroomAnswer). flat_map by_last_survey so_far.others ++ l) (sym (append-nil (by_last_survey d)))
    ∙ sym (flat_map-append by_last_survey so_far.others (d ∷ []))) in
    let long = length-append so_far.others (d ∷ []) in
    let count = so_far.count in
    record {
      first = so_far.first;
      others = so_far.others ++ d ∷ [];
      count = omega (arith, long, count);
      few = omega (arith, long, count, low);
      on = goes_on so_far.first d so_far.others so_far.on (ap is_last so_far.last ∙ goes);
      last = ap (λ (x : TurnDrain). x.given) (last_is so_far.first d so_far.others);
      told = is ∙ (or_turned more gained
          ∙ ((λ i. so_far.told i || followed.told i) ∙ (sym (list_any-append has_gained old (by_last_survey d)) ∙ ap (list_any has_gained) all)));
      collected = subst (λ (xs : List BroomAnswer). HasCollectedBy s xs v) all
          (collected_by_then s t v old (by_last_survey d) so_far.collected
          (collected_by_then t u v (by.DrainNext next programmed ∷ []) followed.behind drained followed.collected));
    }

-- whether a drain found no spare is its comparison with that result
pub is_spareless : (given : Drain) → eq-value.it given drain.NoSpare ≡ found_no_spare given
is_spareless (drain.Drained block copied) = refl
is_spareless drain.NothingToGain = refl
is_spareless drain.NoSpare = refl
is_spareless drain.Lost = refl
is_spareless drain.QueueFull = refl

pub searched_dead : (s t u : Collector) (found : Bool) (dead : Drain) (gained : Bool) → found ≡ false → HasCollectedBy s (by.Restock found ∷ []) t
    → HasCollectedBy t (by.DrainDead dead ∷ []) u → gained ≡ has_drained dead → HasSearched s gained u
searched_dead s t u found dead gained none restock drained is = record {
  answers = by.Restock false ∷ by.DrainDead dead ∷ [];
  search = inr (dead, refl);
  told = is ∙ or_false (has_drained dead);
  collected = subst (λ (b : Bool). HasCollectedBy s (by.Restock b ∷ by.DrainDead dead ∷ []) u) none
      (collected_by_then s t u (by.Restock found ∷ []) (by.DrainDead dead ∷ []) restock drained);
}

-- what followed a drain that found no spare, and what followed another one
pub followed_spareless : (s t u : Collector) (given : Drain) (erased : Erase) (more gained : Bool) → found_no_spare given ≡ true
    → HasCollectedBy s (by.Erase erased ∷ []) t → HasSearched t more u
    → gained ≡ (more || (has_drained given || has_erased erased)) → HasFollowed s given gained u
followed_spareless s t u given erased more gained none erase searched is = record {
  behind = by.Erase erased ∷ searched.answers;
  follows = record {
    erased = erased;
    spareless = λ same. (searched.answers, searched.search, refl);
    other = λ differs. absurd (true≢false (sym none ∙ differs));
  };
  told = is ∙ (each (has_drained given) (has_erased erased) more ∙ ap (λ (b : Bool). has_drained given || (has_erased erased || b)) searched.told);
  collected = collected_by_then s t u (by.Erase erased ∷ []) searched.answers erase searched.collected;
}
  where
    each : (a b c : Bool) → (c || (a || b)) ≡ (a || (b || c))
    each true true true = refl
    each true true false = refl
    each true false true = refl
    each true false false = refl
    each false true true = refl
    each false true false = refl
    each false false true = refl
    each false false false = refl

pub followed_other : (s t : Collector) (given : Drain) (erased : Erase) (gained : Bool) → found_no_spare given ≡ false
    → HasCollectedBy s (by.Erase erased ∷ []) t → gained ≡ (has_drained given || has_erased erased) → HasFollowed s given gained t
followed_other s t given erased gained differs erase is = record {
  behind = by.Erase erased ∷ [];
  follows = record { erased = erased; spareless = λ none. absurd (true≢false (sym none ∙ differs)); other = λ different. refl };
  told = is ∙ ap (λ (b : Bool). has_drained given || b) (or_false (has_erased erased));
  collected = erase;
}
