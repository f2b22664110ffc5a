-- What the merged rows of the workers' answers are, by commands and by workers.
use Rattle.std.proofs.Common.{◌≡◌, ℕ, zero, suc, ◌<◌, ◌≤◌, All, List, [], ◌∷◌, ◌++◌, Bool, true, false, Option, None, Some, length, get_or, take, drop, refl}
use Rattle.std.proofs.Common.{sym, ap, ◌∙◌, subst, arith, eq-eqb, ne_eqb}
use Rattle.std.specs.Prelude.{slice_get, if◌then◌else◌, not, ◌&&◌, ◌==◌}
use Rattle.std.proofs.lemmas.{Bool.false≢true, List.Elements.All-head, List.Elements.All-tail, List.Elements.All-nil, List.Elements.All-cons}
use mathlib.Core.Logic.{dite}
use native.Mathlib.Decide.{ℕ_discrete}
use Rattle.trace.specs.declared.commands.{Command.Command, Op.Op}
use Rattle.trace.specs.declared.commands.Op.TheVariants as op
use Rattle.rounds.specs.{Lines.Said, Lines.calls_by, Lines.is_full, Orders.lines_of, Rounds.AreDisjoint, Rounds.AreInRange, Told.commands_in}
use Rattle.rounds.specs.Told.{Line, worker_of, sector_of, calls_in, line, told}
use Rattle.rounds.specs.Merging.{is_meet, changes, is_line_of, lines_for, line_count, answer_for, next_of, after_line, merge, rows_after, AreSameFor}
use Rattle.rounds.specs.Merging.{HaveNoMeeting, AreDisjointCommands, in_first_round, rounds_of}

command_of_answer : (c : Command) (o : Option Said) → (answer_for c o).command ≡ c
command_of_answer c None = refl
command_of_answer c (Some a) = refl

-- the commands of the merged lines
pub commands_in-merge : (cs : List Command) (rows : ℕ → List Said) → commands_in (merge cs rows) ≡ cs
commands_in-merge [] rows = refl
commands_in-merge (c ∷ cs) rows =
    let first = command_of_answer c (next_of c rows) in
    let rest = commands_in-merge cs (after_line c rows) in
    λ i. first i ∷ rest i

-- a row with its first answer gone, as far as a count goes
drop_one : {X : Type 0} (n : ℕ) (xs : List X) → drop n (drop 1 xs) ≡ drop (suc n) xs
drop_one zero [] = refl
drop_one (suc n) [] = refl
drop_one n (x ∷ xs) = refl

-- one command more stands before what is left of the rows
after_more : (c : Command) (cs : List Command) (rows : ℕ → List Said) (t : ℕ) → rows_after cs (after_line c rows) t ≡ rows_after (c ∷ cs) rows t
after_more c cs rows t = go (is_line_of t c)
  where
    go : (b : Bool) → drop (length (lines_for t cs)) (if b then drop 1 (rows t) else rows t)
        ≡ drop (length (if b then c ∷ lines_for t cs else lines_for t cs)) (rows t)
    go true = drop_one (length (lines_for t cs)) (rows t)
    go false = refl

-- commands in two parts
pub merge-append : (cs ds : List Command) (rows : ℕ → List Said) → merge (cs ++ ds) rows ≡ merge cs rows ++ merge ds (rows_after cs rows)
merge-append [] ds rows = refl
merge-append (c ∷ cs) ds rows =
    let more = after_more c cs rows in
    ap (λ xs. answer_for c (next_of c rows) ∷ xs)
    (merge-append cs ds (after_line c rows) ∙ ap (λ r. merge cs (after_line c rows) ++ merge ds r) (λ i t. more t i))

-- the first answer of rows that are the same up to one or more
first_same : {X : Type 0} (n : ℕ) (xs ys : List X) → take (suc n) xs ≡ take (suc n) ys → slice_get xs 0 ≡ slice_get ys 0
first_same n [] [] e = refl
first_same n [] (y ∷ ys) e = absurd (cc)
first_same n (x ∷ xs) [] e = absurd (cc)
first_same n (x ∷ xs) (y ∷ ys) e = ap (λ l. slice_get l 0) e

rest_same : {X : Type 0} (n : ℕ) (xs ys : List X) → take (suc n) xs ≡ take (suc n) ys → take n (drop 1 xs) ≡ take n (drop 1 ys)
rest_same n [] [] e = refl
rest_same n [] (y ∷ ys) e = absurd (cc)
rest_same n (x ∷ xs) [] e = absurd (cc)
rest_same n (x ∷ xs) (y ∷ ys) e = ap (drop 1) e

-- a worker's own line
pub own_line : (c : Command) → is_meet c.op ≡ false → is_line_of c.worker c ≡ true
own_line c plain = ap (λ b. not b && (c.worker == c.worker)) plain ∙ eq-eqb c.worker c.worker refl

-- rows that are the same up to the commands merge to the same lines
pub merge_same : (cs : List Command) (rows others : ℕ → List Said) → AreSameFor cs rows others → merge cs rows ≡ merge cs others
merge_same [] rows others same = refl
merge_same (c ∷ cs) rows others same =
    let first : next_of c rows ≡ next_of c others = next (is_meet c.op) refl in
    let rest = merge_same cs (after_line c rows) (after_line c others) (λ t. left t (is_line_of t c) (same t)) in
    λ i. answer_for c (first i) ∷ rest i
  where
    at_own : (b : Bool) → b ≡ true
        → take (length (if b then c ∷ lines_for c.worker cs else lines_for c.worker cs)) (rows c.worker)
        ≡ take (length (if b then c ∷ lines_for c.worker cs else lines_for c.worker cs)) (others c.worker)
        → slice_get (rows c.worker) 0 ≡ slice_get (others c.worker) 0
    at_own true is e = first_same (length (lines_for c.worker cs)) (rows c.worker) (others c.worker) e
    at_own false is e = absurd (false≢true is)

    next : (b : Bool) → is_meet c.op ≡ b → (if b then None else slice_get (rows c.worker) 0) ≡ (if b then None else slice_get (others c.worker) 0)
    next true is = refl
    next false is = at_own (is_line_of c.worker c) (own_line c is) (same c.worker)

    left : (t : ℕ) (b : Bool)
        → take (length (if b then c ∷ lines_for t cs else lines_for t cs)) (rows t) ≡ take (length (if b then c ∷ lines_for t cs else lines_for t cs))
        (others t)
        → take (length (lines_for t cs)) (if b then drop 1 (rows t) else rows t) ≡ take (length (lines_for t cs)) (if b then drop 1 (others t) else others t)
    left t true e = rest_same (length (lines_for t cs)) (rows t) (others t) e
    left t false e = e

-- one line more of a worker, and one of another
module _ (t : ℕ) (c : Command) (cs : List Command) (rows : ℕ → List Said) (plain : is_meet c.op ≡ false)
    (rest : line_count t cs ≤ length (after_line c rows t)
    → lines_of worker_of t (merge cs (after_line c rows)) ≡ told (lines_for t cs) (after_line c rows t)) where
  own_merged : c.worker ≡ t → (row : List Said) → rows t ≡ row → line_count t (c ∷ cs) ≤ length row
      → lines_of worker_of t (merge (c ∷ cs) rows) ≡ told (lines_for t (c ∷ cs)) (rows t)
  own_merged same row is enough =
      let others = lines_for t cs in
      let mine : is_line_of t c ≡ true = ap (λ b. not b && (c.worker == t)) plain ∙ eq-eqb c.worker t same in
      let count : suc (length others) ≤ length row = subst (λ b. length (if b then c ∷ others else others) ≤ length row) mine enough in
      go row is count mine
    where
      go : (r : List Said) → rows t ≡ r → suc (line_count t cs) ≤ length r → is_line_of t c ≡ true
          → lines_of worker_of t (merge (c ∷ cs) rows) ≡ told (lines_for t (c ∷ cs)) (rows t)
      go [] is count mine = absurd (omega arith)
      go (a ∷ behind) is count mine =
          let others = lines_for t cs in
          let lines = lines_of worker_of t (merge cs (after_line c rows)) in
          let first : next_of c rows ≡ Some a =
          ap (λ b. if b then None else slice_get (rows c.worker) 0) plain ∙ (ap (λ u. slice_get (rows u) 0) same ∙ ap (λ r. slice_get r 0) is) in
          let left : after_line c rows t ≡ behind = ap (λ b. if b then drop 1 (rows t) else rows t) mine ∙ ap (drop 1) is in
          let long : length (after_line c rows t) ≡ length behind = ap length left in
          ap (λ o. if worker_of (answer_for c o) == t then answer_for c o ∷ lines else lines) first
          ∙ (ap (λ b. if b then line c a ∷ lines else lines) (eq-eqb c.worker t same)
          ∙ (ap (λ l. line c a ∷ l) (rest (omega (arith, long)) ∙ ap (told others) left)
          ∙ sym (ap (λ b. told (if b then c ∷ others else others) (rows t)) mine ∙ ap (told (c ∷ others)) is)))

  other_merged : ¬ (c.worker ≡ t) → line_count t (c ∷ cs) ≤ length (rows t) → lines_of worker_of t (merge (c ∷ cs) rows) ≡ told (lines_for t (c ∷ cs)) (rows t)
  other_merged other enough =
      let others = lines_for t cs in
      let lines = lines_of worker_of t (merge cs (after_line c rows)) in
      let x = answer_for c (next_of c rows) in
      let not_mine : is_line_of t c ≡ false = ap (λ b. not b && (c.worker == t)) plain ∙ ne_eqb c.worker t other in
      let count : length others ≤ length (rows t) = subst (λ b. length (if b then c ∷ others else others) ≤ length (rows t)) not_mine enough in
      let left : after_line c rows t ≡ rows t = ap (λ b. if b then drop 1 (rows t) else rows t) not_mine in
      let long : length (after_line c rows t) ≡ length (rows t) = ap length left in
      let away : (worker_of x == t) ≡ false = ap (λ (d : Command). d.worker == t) (command_of_answer c (next_of c rows)) ∙ ne_eqb c.worker t other in
      ap (λ b. if b then x ∷ lines else lines) away
      ∙ (rest (omega (arith, long)) ∙ (ap (told others) left ∙ sym (ap (λ b. told (if b then c ∷ others else others) (rows t)) not_mine)))

-- the merged lines of one worker are its own, with its row
pub lines_of-merge : (t : ℕ) (cs : List Command) (rows : ℕ → List Said) → HaveNoMeeting cs → line_count t cs ≤ length (rows t)
    → lines_of worker_of t (merge cs rows) ≡ told (lines_for t cs) (rows t)
lines_of-merge t [] rows plain enough = refl
lines_of-merge t (c ∷ cs) rows plain enough =
    let no_meet = All-head (λ c. is_meet c.op ≡ false) c cs plain in
    let rest = lines_of-merge t cs (after_line c rows) (All-tail (λ c. is_meet c.op ≡ false) c cs plain) in
    dite (ℕ_discrete c.worker t)
    (λ same. own_merged t c cs rows no_meet rest same (rows t) refl enough)
    (λ other. other_merged t c cs rows no_meet rest other enough)

-- what holds of the commands of lines holds of the lines
of_commands : (P : Command → Type 0) (xs : List Line) → All P (commands_in xs) → All (λ x. P x.command) xs
of_commands P [] all = All-nil (λ x. P x.command)
of_commands P (x ∷ xs) all =
    All-cons (λ x. P x.command) x xs (All-head P x.command (commands_in xs) all) (of_commands P xs (All-tail P x.command (commands_in xs) all))

-- only a line that may change its sector makes a call
calls_change : (full : Bool) (t : ℕ) (o : Op) (s : ℕ) (value : List ℕ) → ¬ ((if full then [] else calls_by t o s value) ≡ []) → changes o ≡ true
calls_change false t op.Write s value some = refl
calls_change false t op.New s value some = refl
calls_change false t op.Trim s value some = refl
calls_change _ _ _ _ _ some = absurd (some refl)

-- lines of disjoint commands are at disjoint sectors, whatever they were answered
pub disjoint_lines : (xs : List Line) → AreDisjointCommands (commands_in xs) → AreDisjoint worker_of sector_of calls_in xs
disjoint_lines xs apart =
    let rows = of_commands (λ c. All (λ d. changes c.op ≡ true → c.sector ≡ d.sector → c.worker ≡ d.worker) (commands_in xs)) xs apart in
    λ k d low j e below some same.
    let c = (get_or xs k d).command in
    of_commands (λ f. changes c.op ≡ true → c.sector ≡ f.sector → c.worker ≡ f.worker) xs (rows k d low) j e below
    (calls_change (is_full (get_or xs k d).kind) c.worker c.op c.sector c.page some) same

pub lines_in_range : (hosts n : ℕ) (xs : List Line) → All (λ c. c.worker < hosts) (commands_in xs) → All (λ c. c.sector < n) (commands_in xs)
    → AreInRange worker_of sector_of hosts n xs
lines_in_range hosts n xs workers sectors =
    record { workers = of_commands (λ c. c.worker < hosts) xs workers; sectors = of_commands (λ c. c.sector < n) xs sectors }

-- commands of a round in front of a meeting and the rounds behind it, or of the last round
pub rounds_of-meet : (cs : List Command) (c : Command) (ds : List Command) → HaveNoMeeting cs → is_meet c.op ≡ true
    → rounds_of (cs ++ c ∷ ds) ≡ cs ∷ rounds_of ds
rounds_of-meet [] c ds plain meet = ap (λ b. if b then [] ∷ rounds_of ds else in_first_round c (rounds_of ds)) meet
rounds_of-meet (d ∷ cs) c ds plain meet =
    let rest = rounds_of-meet cs c ds (All-tail (λ c. is_meet c.op ≡ false) d cs plain) meet in
    ap (λ b. if b then [] ∷ rounds_of (cs ++ c ∷ ds) else in_first_round d (rounds_of (cs ++ c ∷ ds)))
    (All-head (λ c. is_meet c.op ≡ false) d cs plain) ∙ ap (in_first_round d) rest

pub rounds_of-last : (cs : List Command) → HaveNoMeeting cs → rounds_of cs ≡ cs ∷ []
rounds_of-last [] plain = refl
rounds_of-last (d ∷ cs) plain =
    let rest = rounds_of-last cs (All-tail (λ c. is_meet c.op ≡ false) d cs plain) in
    ap (λ b. if b then [] ∷ rounds_of cs else in_first_round d (rounds_of cs)) (All-head (λ c. is_meet c.op ≡ false) d cs plain) ∙ ap (in_first_round d) rest
