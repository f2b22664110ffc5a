-- A round of a run: what each worker did in it, and what stands answered behind it.
use Rattle.std.proofs.Common.{◌≡◌, ℕ, ◌+◌, ◌-◌, ◌<◌, ◌≤◌, All, Bool, true, false, List, [], ◌∷◌, ◌++◌, length, take, refl, sym, ap, ◌∙◌, subst, arith}
use Rattle.std.proofs.Common.{append_assoc, append-nil, length-append, ne_eqb}
use Rattle.std.specs.{Prelude.if◌then◌else◌, Prelude.not, Prelude.◌&&◌, Prelude.◌==◌, List.slice_range}
use Rattle.std.proofs.lemmas.List.{length-drop, Elements.All-nil, Elements.All-cons}
use mathlib.Core.Logic.{dite}
use native.Mathlib.Decide.{ℕ_discrete}
use Rattle.geometry.specs.History.{Call, Begins}
use Rattle.geometry.proofs.Histories.{Begins-refl, Begins-trans}
use Rattle.flash_rule.specs.declared.view.View.{View}
use Rattle.trace.specs.declared.commands.Command.{Command}
use Rattle.rounds.specs.{Lines.Said, Lines.calls_made, Orders.made, Orders.lines_of, Rounds.HavePlayed, Plans.meetings_from}
use Rattle.rounds.specs.Playing.{Plays, Played, LinesFound, calls_done, writes_done}
use Rattle.workers.proofs.{PlayedLines.found-append, RoundLines.StandsBehind, RoundLines.ends_from}
use Rattle.volume.specs.Closing.{HasLooked}
use Rattle.rounds.specs.Told.{worker_of, sector_of, calls_in, is_right, line, told}
use Rattle.rounds.specs.Merging.{is_meet, is_line_of, lines_for, line_count, merge, rows_after, HaveNoMeeting, rounds_of}
use Rattle.rounds.proofs.{AnsweredLines.plays_told, AnsweredLines.calls_told, Chains.nobody_of, Merging.lines_of-merge, Merging.rounds_of-meet}
use Rattle.rounds.proofs.{Merging.rounds_of-last}
use Rattle.workers.specs.Runs.{HasRun}
use Rattle.rounds.specs.Orders as worked

-- what a worker did in a round, behind these commands: its earlier answers stay
pub record WorkerRound (t patience : ℕ) (done cs : List Command) (old new : List Said) (v w : View) : Type 0 where
  pub kept : take (line_count t done) old ≡ take (line_count t done) new
  pub enough : line_count t done + line_count t cs ≤ length new
  pub played : Played t patience v (lines_for t cs) (slice_range new (line_count t done) (line_count t done + line_count t cs)) w

plays_earlier : (n t : ℕ) (s m e : List Call) (lines : List Command) (answers : List Said) → Begins s m → Plays n t m lines answers e
    → Plays n t s lines answers e
plays_earlier n t s m e [] [] from p = Begins-trans s m e from p
plays_earlier n t s m e [] (a ∷ answers) from p = absurd p
plays_earlier n t s m e (c ∷ lines) [] from p = absurd p
plays_earlier n t s m e (c ∷ lines) (a ∷ answers) from p = (p.0, Begins-trans s m p.0 from p.1, p.2, p.3)

plays_on : (n t : ℕ) (s m e : List Call) (lines : List Command) (answers : List Said) → Plays n t s lines answers m → Begins m e → Plays n t s lines answers e
plays_on n t s m e [] [] p on = Begins-trans s m e p on
plays_on n t s m e [] (a ∷ answers) p on = absurd p
plays_on n t s m e (c ∷ lines) [] p on = absurd p
plays_on n t s m e (c ∷ lines) (a ∷ answers) p on = (p.0, p.1, p.2, plays_on n t (p.0 ++ calls_made t c a) m e lines answers p.3 on)

module _ (n t : ℕ) (more : List Command) (others : List Said) where
  plays-append : (s m e : List Call) (lines : List Command) (answers : List Said) → Plays n t s lines answers m → Plays n t m more others e
      → Plays n t s (lines ++ more) (answers ++ others) e
  plays-append s m e [] [] p q = plays_earlier n t s m e more others p q
  plays-append s m e [] (a ∷ answers) p q = absurd p
  plays-append s m e (c ∷ lines) [] p q = absurd p
  plays-append s m e (c ∷ lines) (a ∷ answers) p q = (p.0, p.1, p.2, plays-append (p.0 ++ calls_made t c a) m e lines answers p.3 q)

  calls-append : (s m : List Call) (lines : List Command) (answers : List Said) → Plays n t s lines answers m
      → calls_done t (lines ++ more) (answers ++ others) ≡ calls_done t lines answers ++ calls_done t more others
  calls-append s m [] [] p = refl
  calls-append s m [] (a ∷ answers) p = absurd p
  calls-append s m (c ∷ lines) [] p = absurd p
  calls-append s m (c ∷ lines) (a ∷ answers) p =
      ap (λ rest. calls_made t c a ++ rest) (calls-append (p.0 ++ calls_made t c a) m lines answers p.3)
      ∙ sym (append_assoc (calls_made t c a) (calls_done t lines answers) (calls_done t more others))

  writes-append : (s m : List Call) (lines : List Command) (answers : List Said) → Plays n t s lines answers m
      → writes_done (lines ++ more) (answers ++ others) ≡ writes_done lines answers + writes_done more others
  writes-append s m [] [] p = omega arith
  writes-append s m [] (a ∷ answers) p = absurd p
  writes-append s m (c ∷ lines) [] p = absurd p
  writes-append s m (c ∷ lines) (a ∷ answers) p = let rest = writes-append (p.0 ++ calls_made t c a) m lines answers p.3 in omega (arith, rest)

-- a worker that plays more lines: they are played up to each history that begins with what it has seen
pub plays_to : (t patience : ℕ) (earlier : List ℕ) (lines more : List Command) (answers others : List Said) (v u : View) (h : List Call)
    → HasRun t patience earlier lines answers v → Played t patience v more others u → Begins u.seen h
    → Plays v.numbers.sectors t [] (lines ++ more) (answers ++ others) h
plays_to t patience earlier lines more answers others v u h run played on =
    let n = v.numbers.sectors in
    plays_on n t [] u.seen h (lines ++ more) (answers ++ others) (plays-append n t more others [] v.seen u.seen lines answers run.plays played.plays) on

-- a worker that plays more lines, and then looks
pub run_more : (t patience : ℕ) (earlier : List ℕ) (lines more : List Command) (answers others : List Said) (v u w : View)
    → HasRun t patience earlier lines answers v → Played t patience v more others u → HasLooked u w
    → HasRun t patience earlier (lines ++ more) (answers ++ others) w
run_more t patience earlier lines more answers others v u w run played looked =
    let n = v.numbers.sectors in
    let same : w.numbers ≡ v.numbers = ap (λ (x : View). x.numbers) looked.changed ∙ ap (λ (x : View). x.numbers) played.changed in
    let plays = plays_to t patience earlier lines more answers others v u w.seen run played looked.later in
    let calls = calls-append n t more others [] v.seen lines answers run.plays in
    let writes = writes-append n t more others [] v.seen lines answers run.plays in
    let blocks : v.numbers.blocks ≡ w.numbers.blocks = ap (λ z. z.blocks) (sym same) in
    record {
      plays = subst (λ k. Plays k t [] (lines ++ more) (answers ++ others) w.seen) (ap (λ z. z.sectors) (sym same)) plays;
      mine = ap (λ (x : View). x.mine) looked.changed ∙ (played.mine ∙ (ap (λ k. k ++ calls_done t more others) run.mine ∙ sym calls));
      programmed =
          (let one = ap (λ (x : View). length x.programs) looked.changed in
          let two = ap (λ k. length k) played.programs in
          let three = length-append v.programs played.more in
          let four = played.programmed in
          let five = run.programmed in omega (arith, one, two, three, four, five, writes));
      found = run.found ++ played.found;
      denied = ap (λ (x : View). x.denied) looked.changed
          ∙ (played.denied ∙ (ap (λ l. l ++ played.found) run.denied ∙ append_assoc earlier run.found played.found));
      tried =
          subst (λ k. LinesFound patience k (lines ++ more) (answers ++ others) (run.found ++ played.found)) blocks
          (found-append patience v.numbers.blocks more others played.found played.tried lines answers run.found run.tried);
    }

-- a worker that only looks
pub run_begins : (t patience : ℕ) (v : View) → v.seen ≡ [] → v.mine ≡ [] → v.programs ≡ [] → HasRun t patience v.denied [] [] v
run_begins t patience v seen mine programs = record {
  plays = subst (λ h. Begins [] h) (sym seen) (Begins-refl []);
  mine = mine;
  programmed = ap (λ l. length l) programs;
  found = [];
  denied = sym (append-nil v.denied);
  tried = refl;
}

-- lines with fewer answers, or with more than they need
told_take : (lines : List Command) (answers : List Said) → told lines (take (length lines) answers) ≡ told lines answers
told_take [] answers = refl
told_take (c ∷ lines) [] = refl
told_take (c ∷ lines) (a ∷ answers) = let rest = told_take lines answers in λ i. line c a ∷ rest i

pub and_false : (a b : Bool) → b ≡ false → (a && b) ≡ false
and_false true b is = is
and_false false b is = refl

own_lines : (t : ℕ) (cs : List Command) → All (λ c. c.worker ≡ t) (lines_for t cs)
own_lines t [] = All-nil (λ c. c.worker ≡ t)
own_lines t (c ∷ cs) =
    let rest = own_lines t cs in
    dite (ℕ_discrete c.worker t)
    (λ same. go (is_line_of t c) same rest)
    (λ other. subst (λ b. All (λ d. d.worker ≡ t) (if b then c ∷ lines_for t cs else lines_for t cs))
    (sym (and_false (not (is_meet c.op)) (c.worker == t) (ne_eqb c.worker t other))) rest)
  where
    go : (b : Bool) → c.worker ≡ t → All (λ d. d.worker ≡ t) (lines_for t cs) → All (λ d. d.worker ≡ t) (if b then c ∷ lines_for t cs else lines_for t cs)
    go true same rest = All-cons (λ d. d.worker ≡ t) c (lines_for t cs) same rest
    go false same rest = rest

-- the workers have played the merged lines of the round
module _ (hosts n patience : ℕ) (done cs : List Command) (rows others : ℕ → List Said) (before played : ℕ → View) (plain : HaveNoMeeting cs)
    (sectors : (t : ℕ) → t < hosts → (before t).numbers.sectors ≡ n)
    (each : (t : ℕ) → t < hosts → WorkerRound t patience done cs (rows t) (others t) (before t) (played t)) where
  abbrev part : ℕ → List Said
  part t = slice_range (others t) (line_count t done) (line_count t done + line_count t cs)

  lines_are : (t : ℕ) → t < hosts → lines_of worker_of t (merge cs (rows_after done others)) ≡ told (lines_for t cs) (part t)
  lines_are t low =
      let enough = (each t low).enough in
      let long = length-drop (line_count t done) (others t) in
      let count : (line_count t done + line_count t cs) - line_count t done ≡ line_count t cs = omega arith in
      lines_of-merge t cs (rows_after done others) plain (omega (arith, enough, long))
      ∙ (sym (told_take (lines_for t cs) (rows_after done others t)) ∙ ap (λ k. told (lines_for t cs) (take k (rows_after done others t))) (sym count))

  pub round_played : HavePlayed worker_of sector_of calls_in is_right hosts n before (merge cs (rows_after done others)) played
  round_played = record {
    plays = λ t low.
        let p = (each t low).played in
        subst (λ l. worked.Plays sector_of calls_in is_right n (before t).seen l (played t).seen) (sym (lines_are t low))
        (plays_told n t (before t).seen (lines_for t cs) (part t) (played t).seen (own_lines t cs)
        (subst (λ k. Plays k t (before t).seen (lines_for t cs) (part t) (played t).seen) (sectors t low) p.plays));
    mine = λ t low.
        let p = (each t low).played in
        p.mine ∙ ap (λ k. (before t).mine ++ k) (calls_told t (lines_for t cs) (part t) (own_lines t cs) ∙ ap (made calls_in) (sym (lines_are t low)));
  }

-- these are the ends of the rounds that are left; where none is left, neither is a command
abbrev pub Left : ℕ → List Command → List ℕ → Type 0
Left at rest [] = rest ≡ []
Left at rest (e ∷ ends) = ends_from at rest ≡ e ∷ ends

-- there is always an end
pub some_end : (at : ℕ) (rest : List Command) (ends : List ℕ) → ends ≡ ends_from at rest → ¬ (ends ≡ [])
some_end at rest ends is none =
    let long = length-append (meetings_from at rest) ((at + length rest) ∷ []) in
    let a = ap (λ (l : List ℕ). length l) is in
    let b = ap (λ (l : List ℕ). length l) none in omega (arith, long, a, b)

pub left_is : (at : ℕ) (rest : List Command) (ends : List ℕ) → ends ≡ ends_from at rest → Left at rest ends
left_is at rest [] is = absurd (some_end at rest [] is refl)
left_is at rest (e ∷ ends) is = sym is

-- which rounds of a trace are over: all but those of the commands that are left, and where no end is left, all
abbrev pub Closed : List Command → List (List Command) → List Command → List ℕ → Type 0
Closed trace closed rest [] = rounds_of trace ≡ closed
Closed trace closed rest (e ∷ ends) = rounds_of trace ≡ closed ++ rounds_of rest

pub closed_is : (trace : List Command) (closed : List (List Command)) (rest : List Command) (at : ℕ) (ends : List ℕ) → ends ≡ ends_from at rest
    → rounds_of trace ≡ closed ++ rounds_of rest → Closed trace closed rest ends
closed_is trace closed rest at [] is whole = absurd (some_end at rest [] is refl)
closed_is trace closed rest at (e ∷ ends) is whole = whole

-- what stands behind a round: its meeting, if there is one, and the rest
pub record Next (done cs tail : List Command) (ends : List ℕ) : Type 0 where
  pub meeting : List Command
  pub rest : List Command
  pub whole : tail ≡ meeting ++ rest
  pub nobody : (t : ℕ) → lines_for t meeting ≡ []
  pub left : Left (length (done ++ (cs ++ meeting))) rest ends
  pub closed : (trace : List Command) (closed : List (List Command)) → rounds_of trace ≡ closed ++ rounds_of (cs ++ tail)
      → Closed trace (closed ++ cs ∷ []) rest ends

pub next_part : (done cs tail : List Command) (end : ℕ) (ends : List ℕ) → HaveNoMeeting cs → end ≡ length done + length cs
    → StandsBehind end tail ends → Next done cs tail ends
next_part done cs [] end ends plain last behind = record {
  meeting = [];
  rest = [];
  whole = refl;
  nobody = λ t. refl;
  left = subst (Left (length (done ++ (cs ++ []))) []) (sym behind) refl;
  closed = λ trace closed whole.
      subst (Closed trace (closed ++ cs ∷ []) []) (sym behind) (whole ∙ ap (λ l. closed ++ l) (ap rounds_of (append-nil cs) ∙ rounds_of-last cs plain));
}
next_part done cs (c ∷ rest) end ends plain last behind =
    let long = length-append done (cs ++ c ∷ []) in
    let longer = length-append cs (c ∷ []) in
    let at : end + 1 ≡ length (done ++ (cs ++ c ∷ [])) = omega (arith, long, longer) in
    record {
      meeting = c ∷ [];
      rest = rest;
      whole = refl;
      nobody = λ t. nobody_of t c behind.0;
      left = left_is (length (done ++ (cs ++ c ∷ []))) rest ends (behind.1 ∙ ap (λ k. ends_from k rest) at);
      closed = λ trace closed whole.
          closed_is trace (closed ++ cs ∷ []) rest (length (done ++ (cs ++ c ∷ []))) ends (behind.1 ∙ ap (λ k. ends_from k rest) at)
          (whole ∙ (ap (λ l. closed ++ l) (rounds_of-meet cs c rest plain behind.0) ∙ sym (append_assoc closed (cs ∷ []) (rounds_of rest))));
    }
