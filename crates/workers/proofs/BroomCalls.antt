-- A broom's calls, one after another and over rounds.
use Rattle.std.proofs.Common.{◌≡◌, ℕ, suc, List, [], ◌∷◌, ◌++◌, Bool, length, refl, sym, ap, ◌∙◌, subst, append-nil}
use Rattle.std.proofs.lemmas.List.{Concat.flat_map-append, Elements.All-append, Elements.All-cons, Elements.All-nil}
use Rattle.erase_queue.specs.Queue.{limit_of}
use Rattle.broom.specs.declared.broom.Broom.{Broom}
use Rattle.volume.specs.{declared.volume.Volume.Volume, Volume.queue_of}
use Rattle.std.specs.Arc.{arc_value}
use Rattle.workers.specs.declared.collector.{broom_answer.BroomAnswer.BroomAnswer, Collector.Collector}
use Rattle.workers.specs.{Tallies.added, Tallies.answer_adds, Tallies.total_of, Tallies.wrapped, Turns.AreTurns, Turns.IsTurn}
use Rattle.workers.proofs.TallySums.{counted_none, counted_one, counted_then, exact_none, exact_one, exact_then, wrapped_sum}
use Rattle.workers.proofs.{BroomGrowth.calls_grown, EraseLists.calls_listed}
use Rattle.workers.specs.Collecting.{CallTold, HasMadeCalls, HasCollected, HasCollectedBy, HasTakenTurn, HaveCollected, limit_at}

-- one call
pub calls_one : (limit : ℕ) (a b : Broom) (x : BroomAnswer) → CallTold limit a x b → HasMadeCalls limit a (x ∷ []) b
calls_one limit a b x told = (b, told, refl)

-- some calls, and then others
pub calls_then : (limit : ℕ) (a b c : Broom) (xs ys : List BroomAnswer) → HasMadeCalls limit a xs b → HasMadeCalls limit b ys c
    → HasMadeCalls limit a (xs ++ ys) c
calls_then limit a b c [] ys one two = subst (λ (x : Broom). HasMadeCalls limit x ys c) one two
calls_then limit a b c (x ∷ xs) ys one two = (one.0, one.1, calls_then limit one.0 b c xs ys one.2 two)

-- one call, counted
pub collected_one : (s t : Collector) (x : BroomAnswer) → arc_value t.volume ≡ arc_value s.volume → t.drains ≡ s.drains
    → CallTold (limit_at s) s.broom x t.broom
    → t.tally ≡ wrapped (added s.tally (answer_adds x)) → HasCollectedBy s (x ∷ []) t
collected_one s t x volume drains told tally =
    let calls = calls_one (limit_at s) s.broom t.broom x told in
    let listed = calls_listed (limit_at s) s.broom t.broom (x ∷ []) calls in
    record {
      volume = volume;
      drains = drains;
      calls = calls;
      counted = counted_one s.tally t.tally x tally;
      exact = λ whole. exact_one s.tally t.tally x tally;
      grown = calls_grown (limit_at s) s.broom t.broom (x ∷ []) calls;
      pinned = listed.0;
      stale = listed.1;
    }

collected_by_none : (s : Collector) → HasCollectedBy s [] s
collected_by_none s = record {
  volume = refl;
  drains = refl;
  calls = refl;
  counted = counted_none s.tally;
  exact = exact_none s.tally;
  grown = calls_grown (limit_at s) s.broom s.broom [] refl;
  pinned = refl;
  stale = refl;
}

-- calls with these answers, and then with those
pub collected_by_then : (s t u : Collector) (xs ys : List BroomAnswer) → HasCollectedBy s xs t → HasCollectedBy t ys u → HasCollectedBy s (xs ++ ys) u
collected_by_then s t u xs ys one two =
    let calls =
    calls_then (limit_at s) s.broom t.broom u.broom xs ys one.calls
    (subst (λ (v : Volume). HasMadeCalls (limit_of (queue_of v)) t.broom ys u.broom) one.volume two.calls) in
    let listed = calls_listed (limit_at s) s.broom u.broom (xs ++ ys) calls in
    record {
      volume = two.volume ∙ one.volume;
      drains = two.drains ∙ one.drains;
      calls = calls;
      counted = counted_then s.tally t.tally u.tally xs ys one.counted two.counted;
      exact = λ whole.
          let first = one.exact whole in
          exact_then s.tally t.tally u.tally xs ys one.counted two.counted first (two.exact (wrapped_sum s.tally t.tally (total_of xs) first));
      grown = calls_grown (limit_at s) s.broom u.broom (xs ++ ys) calls;
      pinned = listed.0;
      stale = listed.1;
    }

turns_then : (n : ℕ) (xs ys : List BroomAnswer) → AreTurns n xs → AreTurns n ys → AreTurns n (xs ++ ys)
turns_then n xs ys one two = record {
  turns = one.turns ++ two.turns;
  each = All-append (IsTurn n) one.turns two.turns one.each two.each;
  are = (λ i. one.are i ++ two.are i) ∙ sym (flat_map-append (λ turn. turn) one.turns two.turns);
}

pub collected_none : (s : Collector) → HasCollected s s
collected_none s = record { answers = []; turns = record { turns = []; each = All-nil (IsTurn s.drains); are = refl }; collected = collected_by_none s }

pub collected_then : (s t u : Collector) → HasCollected s t → HasCollected t u → HasCollected s u
collected_then s t u one two = record {
  answers = one.answers ++ two.answers;
  turns = turns_then s.drains one.answers two.answers one.turns (subst (λ (n : ℕ). AreTurns n two.answers) one.collected.drains two.turns);
  collected = collected_by_then s t u one.answers two.answers one.collected two.collected;
}

-- some turns, and then another one
pub collected_turn : (s t u : Collector) (gained : Bool) → HasCollected s t → HasTakenTurn t gained u → HasCollected s u
collected_turn s t u gained before turn =
    collected_then s t u before
    record {
      answers = turn.answers;
      turns = record {
        turns = turn.answers ∷ [];
        each = All-cons (IsTurn t.drains) turn.answers [] turn.turn (All-nil (IsTurn t.drains));
        are = sym (append-nil turn.answers);
      };
      collected = turn.collected;
    }

pub all_collected_none : (xs : List Collector) → HaveCollected xs xs
all_collected_none [] = tt
all_collected_none (x ∷ xs) = (collected_none x, all_collected_none xs)

pub all_collected_then : (xs ys zs : List Collector) → HaveCollected xs ys → HaveCollected ys zs → HaveCollected xs zs
all_collected_then [] [] zs one two = two
all_collected_then [] (y ∷ ys) zs one two = absurd one
all_collected_then (x ∷ xs) [] zs one two = absurd one
all_collected_then (x ∷ xs) (y ∷ ys) [] one two = absurd two
all_collected_then (x ∷ xs) (y ∷ ys) (z ∷ zs) one two = (collected_then x y z one.0 two.0, all_collected_then xs ys zs one.1 two.1)

-- as many brooms come back
pub collected_long : (xs ys : List Collector) → HaveCollected xs ys → length ys ≡ length xs
collected_long [] [] collected = refl
collected_long [] (y ∷ ys) collected = absurd collected
collected_long (x ∷ xs) [] collected = absurd collected
collected_long (x ∷ xs) (y ∷ ys) collected = ap suc (collected_long xs ys collected.1)
