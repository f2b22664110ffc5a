use Rattle.std.proofs.Common.{◌≡◌, ◌++◌, ℕ, Bool, true, false, List, [], ◌∷◌, inl, inr, refl, sym, ap, ◌∙◌, append-nil, arith}
use Rattle.std.{specs.List.flat_map, specs.List.list_any, proofs.lemmas.List.Elements.All-cons, proofs.lemmas.List.Elements.All-nil}
use Rattle.broom.specs.declared.answer.{Drain.Drain, Erase.Erase}
use Rattle.broom.specs.declared.answer.Drain.TheVariants as drain
use Rattle.broom.specs.declared.answer.Erase.TheVariants as erase
use Rattle.workers.specs.Turns.{Follows, GoesOn, IsTurn, TurnDrain, by_last_survey, by_new_survey, found_no_spare, is_last}
use Rattle.workers.specs.declared.collector.broom_answer.BroomAnswer.{BroomAnswer}
use Rattle.workers.specs.declared.collector.broom_answer.BroomAnswer.TheVariants as by
use Rattle.laws.specs.Brooms.{two_drains}
use Rattle.laws.proofs.brooms.broom_turns.turns_of_a_broom.Goals as goal

-- a drain that has found a spare, and the erase behind it
abbrev with_erase : (given : Drain) (programmed : ℕ) (e : Erase) → found_no_spare given ≡ false → TurnDrain
with_erase given programmed e found =
    record {
      given = given;
      programmed = programmed;
      behind = by.Erase e ∷ [];
      follows = record { erased = e; spareless = λ none. let wrong : false ≡ true = sym found ∙ none in absurd (cc); other = λ other. refl };
    }

-- whether a call is a drain by the last survey
abbrev is_next : BroomAnswer → Bool
is_next (by.DrainNext given programmed) = true
is_next _ = false

-- none of the calls that follow a drain is one
none_next : (given : Drain) (answers : List BroomAnswer) → Follows given answers → list_any is_next answers ≡ false
none_next given answers h = each (found_no_spare given) refl
  where
    each : (none : Bool) → found_no_spare given ≡ none → list_any is_next answers ≡ false
    each true is =
        let search = h.spareless is in elim search.1 [
          | inl found ↦ ap (list_any is_next) (search.2 ∙ ap (λ l. by.Erase h.erased ∷ l) found)
          | inr none ↦ ap (list_any is_next) (search.2 ∙ ap (λ l. by.Erase h.erased ∷ l) none.1)
        ]
    each false is = ap (list_any is_next) (h.other is)

-- calls with one aren't one drain with what follows it
not_one : (first : TurnDrain) (answers : List BroomAnswer) → list_any is_next answers ≡ true → answers ≡ by_new_survey first ++ [] → ⊥
not_one first answers next are =
    let none = none_next first.given first.behind first.follows in
    let wrong : true ≡ false =
    sym next ∙ (ap (list_any is_next) are ∙ (ap (list_any is_next) (append-nil (by_new_survey first)) ∙ none)) in
    absurd (cc)

-- the result of the drain by a new survey with which calls begin
first_given : List BroomAnswer → Drain
first_given (by.Drain given programmed ∷ answers) = given
first_given _ = drain.Lost

none_behind : (first : TurnDrain) (others : List TurnDrain) → GoesOn first others
    → two_drains drain.NothingToGain drain.Lost ≡ by_new_survey first ++ flat_map by_last_survey others → ⊥
unfolding first_given
none_behind first [] on are = not_one first (two_drains drain.NothingToGain drain.Lost) refl are
none_behind first (d ∷ others) on are =
    let is : drain.NothingToGain ≡ first.given = ap first_given are in
    let wrong : true ≡ false = ap is_last is ∙ on.0 in
    absurd (cc)

pub returns-clause-one_drain : goal.returns-clause-one_drain
returns-clause-one_drain c e = record { first = with_erase drain.NothingToGain 0 e refl; others = []; few = omega arith; on = tt; are = refl }

pub returns-clause-no_limit : goal.returns-clause-no_limit
returns-clause-no_limit c e = record { first = with_erase drain.NothingToGain 0 e refl; others = []; few = omega arith; on = tt; are = refl }

pub returns-clause-two : goal.returns-clause-two
returns-clause-two c =
    record {
      first = with_erase (drain.Drained 3 1) 1 erase.QueueEmpty refl;
      others = with_erase drain.Lost 0 erase.QueueEmpty refl ∷ [];
      few = omega arith;
      on = (refl, tt);
      are = refl;
    }

pub returns-clause-behind_last : goal.returns-clause-behind_last
returns-clause-behind_last c h = none_behind h.first h.others h.on h.are

pub returns-clause-behind_full : goal.returns-clause-behind_full
returns-clause-behind_full c =
    record {
      first = with_erase drain.QueueFull 1 erase.QueueEmpty refl;
      others = with_erase drain.NothingToGain 0 erase.QueueEmpty refl ∷ [];
      few = omega arith;
      on = (refl, tt);
      are = refl;
    }

one_turn : (e : Erase) → IsTurn 1 (by.Drain drain.Lost 0 ∷ by.Erase e ∷ [])
one_turn e = record { first = with_erase drain.Lost 0 e refl; others = []; few = omega arith; on = tt; are = refl }

pub returns-clause-each : goal.returns-clause-each
returns-clause-each c e =
    let turn = by.Drain drain.Lost 0 ∷ by.Erase e ∷ [] in
    record {
      turns = turn ∷ turn ∷ [];
      each = All-cons (IsTurn 1) turn (turn ∷ []) (one_turn e) (All-cons (IsTurn 1) turn [] (one_turn e) (All-nil (IsTurn 1)));
      are = refl;
    }
