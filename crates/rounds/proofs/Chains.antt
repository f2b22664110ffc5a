-- Rounds one behind another, each answered between two histories.
use Rattle.std.proofs.Common.{◌≡◌, ℕ, ◌+◌, ◌<◌, ◌≤◌, All, Bool, true, false, List, [], ◌∷◌, ◌++◌, length, take, drop, refl, sym, ap, ◌∙◌, subst, arith}
use Rattle.std.proofs.{Common.append_assoc, Common.append-nil, Common.length-append, lemmas.List.take-take, lemmas.List.drop-take, lemmas.List.drop-drop}
use Rattle.std.specs.Prelude.{if◌then◌else◌, not, ◌&&◌, ◌==◌}
use Rattle.std.proofs.lemmas.List.Elements.{All-head, All-tail, All-nil, All-cons, All-append, filter-append}
use Rattle.geometry.specs.History.{Call}
use Rattle.flash_rule.specs.declared.view.View.{View}
use Rattle.trace.specs.declared.commands.Command.{Command}
use Rattle.rounds.specs.{Lines.Said, Rounds.AreInRange, Rounds.PlayedRound, Merging.RoundAnswered, Merging.AreRounds, Runs.RoundsGoOn}
use Rattle.rounds.specs.{Orders.made, Orders.InOrder, Orders.LeaveSame, Told.worker_of, Told.sector_of, Told.calls_in, Told.is_right, Told.AreAnswered}
use Rattle.rounds.{specs.Rounds.AreTied, specs.Rounds.HavePlayed, specs.Rounds.HaveMet, proofs.Runs.run_begins, proofs.Runs.meeting_goes_on}
use Rattle.rounds.specs.Merging.{is_meet, is_line_of, lines_for, line_count, merge, rows_after, rounds_of, AreSameFor, HaveNoMeeting, AreDisjointCommands}
use Rattle.rounds.proofs.{Meetings.round_between, Sequential.sequential, Sequential.leaves_same, AnsweredLines.answered_more}
use Rattle.rounds.proofs.{AnsweredLines.callers_in, AnsweredLines.targets_in}
use Rattle.rounds.proofs.Merging.{commands_in-merge, disjoint_lines, lines_in_range, merge-append, merge_same, rounds_of-meet, rounds_of-last}

-- A round that passes have played between the history to which they were tied and the one at which they have met, disjoint or not
pub round_answered : (hosts n : ℕ) (first last : List Call) (before played after : ℕ → View) (cs : List Command) (rows : ℕ → List Said) → 0 < hosts
    → All (λ c. c.worker < hosts) cs → All (λ c. c.sector < n) cs
    → AreTied hosts first before → HavePlayed worker_of sector_of calls_in is_right hosts n before (merge cs rows) played
    → HaveMet hosts last played after → RoundAnswered n hosts first cs rows last
round_answered hosts n first last before played after cs rows some workers sectors tied play met =
    let xs = merge cs rows in
    let commands = commands_in-merge cs rows in
    let round : PlayedRound worker_of sector_of calls_in is_right hosts n first xs last =
    round_between worker_of sector_of calls_in is_right hosts n first last before played after xs some tied play met in
    let range : AreInRange worker_of sector_of hosts n xs =
    lines_in_range hosts n xs (subst (λ ds. All (λ c. c.worker < hosts) ds) (sym commands) workers)
    (subst (λ ds. All (λ c. c.sector < n) ds) (sym commands) sectors) in
    record {
      played = round;
      exact = λ disjoint.
          let apart = disjoint_lines xs (subst AreDisjointCommands (sym commands) disjoint) in (
            sequential worker_of sector_of calls_in is_right callers_in targets_in hosts n first xs last round range apart some,
            leaves_same worker_of sector_of calls_in is_right callers_in targets_in hosts n first xs last round range apart some,
          );
    }

-- rounds one behind another, as one list of commands
abbrev pub flat : List (List Command) → List Command
flat [] = []
flat (cs ∷ rest) = cs ++ flat rest

pub flat-append : (rs : List (List Command)) (cs : List Command) → flat (rs ++ cs ∷ []) ≡ flat rs ++ cs
flat-append [] cs = append-nil cs
flat-append (r ∷ rest) cs = ap (λ l. r ++ l) (flat-append rest cs) ∙ sym (append_assoc r (flat rest) cs)

-- lines in two parts
pub lines_for-append : (t : ℕ) (cs ds : List Command) → lines_for t (cs ++ ds) ≡ lines_for t cs ++ lines_for t ds
lines_for-append t cs ds = filter-append (is_line_of t) cs ds

pub line_count-append : (t : ℕ) (cs ds : List Command) → line_count t (cs ++ ds) ≡ line_count t cs + line_count t ds
line_count-append t cs ds = ap (λ (l : List Command). length l) (lines_for-append t cs ds) ∙ length-append (lines_for t cs) (lines_for t ds)

-- what is left of the rows behind two parts
pub rows_more : (cs ds : List Command) (rows : ℕ → List Said) → rows_after ds (rows_after cs rows) ≡ rows_after (cs ++ ds) rows
rows_more cs ds rows =
    let at : (t : ℕ) → rows_after ds (rows_after cs rows) t ≡ rows_after (cs ++ ds) rows t = λ t.
    drop-drop (line_count t ds) (line_count t cs) (rows t) ∙ ap (λ k. drop k (rows t)) (sym (line_count-append t cs ds)) in
    λ i t. at t i

-- what is left of the rows is told by how many lines each worker has
pub rows_count : (cs ds : List Command) (rows : ℕ → List Said) → ((t : ℕ) → line_count t cs ≡ line_count t ds) → rows_after cs rows ≡ rows_after ds rows
rows_count cs ds rows same = λ i t. drop (same t i) (rows t)

-- rows that are the same up to two parts: up to the first, and what is left of them up to the second
same_first : (cs ds : List Command) (rows others : ℕ → List Said) → AreSameFor (cs ++ ds) rows others → AreSameFor cs rows others
same_first cs ds rows others same t =
    let a = line_count t cs in
    let b = line_count t (cs ++ ds) in
    let both = line_count-append t cs ds in
    let order : a ≤ b = omega (arith, both) in
    sym (take-take a b (rows t) order) ∙ (ap (take a) (same t) ∙ take-take a b (others t) order)

same_rest : (cs ds : List Command) (rows others : ℕ → List Said) → AreSameFor (cs ++ ds) rows others → AreSameFor ds (rows_after cs rows) (rows_after cs others)
same_rest cs ds rows others same t =
    let a = line_count t cs in
    let k = line_count t ds in
    let all : take (a + k) (rows t) ≡ take (a + k) (others t) = subst (λ j. take j (rows t) ≡ take j (others t)) (line_count-append t cs ds) (same t) in
    sym (drop-take a k (rows t)) ∙ (ap (drop a) all ∙ drop-take a k (others t))

round_same : (n hosts : ℕ) (first : List Call) (cs : List Command) (rows others : ℕ → List Said) (last : List Call) → AreSameFor cs rows others
    → RoundAnswered n hosts first cs rows last → RoundAnswered n hosts first cs others last
round_same n hosts first cs rows others last same round =
    let e = merge_same cs rows others same in
    record {
      played = subst (λ xs. PlayedRound worker_of sector_of calls_in is_right hosts n first xs last) e round.played;
      exact = λ disjoint.
          subst (λ xs. InOrder sector_of calls_in is_right n first xs × LeaveSame n last (first ++ made calls_in xs)) e (round.exact disjoint);
    }

-- rounds are answered by the part of the rows that they take
pub rounds_same : (n hosts : ℕ) (first : List Call) (rs : List (List Command)) (rows others : ℕ → List Said) (last : List Call)
    → AreSameFor (flat rs) rows others → AreRounds n hosts first rs rows last → AreRounds n hosts first rs others last
rounds_same n hosts first [] rows others last same is = is
rounds_same n hosts first (cs ∷ rest) rows others last same (h, round, behind) = (
  h,
  round_same n hosts first cs rows others h (same_first cs (flat rest) rows others same) round,
  rounds_same n hosts h rest (rows_after cs rows) (rows_after cs others) last (same_rest cs (flat rest) rows others same) behind,
)

-- one round more
pub rounds_push : (n hosts : ℕ) (first : List Call) (rs : List (List Command)) (rows : ℕ → List Said) (m : List Call) (cs : List Command) (last : List Call)
    → AreRounds n hosts first rs rows m → RoundAnswered n hosts m cs (rows_after (flat rs) rows) last → AreRounds n hosts first (rs ++ cs ∷ []) rows last
rounds_push n hosts first [] rows m cs last is round = (last, subst (λ h. RoundAnswered n hosts h cs rows last) (sym is) round, refl)
rounds_push n hosts first (r ∷ rest) rows m cs last (h, here, behind) round = (
  h,
  here,
  rounds_push n hosts h rest (rows_after r rows) m cs last behind (subst (λ x. RoundAnswered n hosts m cs x last) (sym (rows_more r (flat rest) rows)) round),
)

-- a meeting is nobody's line
pub nobody_of : (t : ℕ) (c : Command) → is_meet c.op ≡ true → lines_for t (c ∷ []) ≡ []
nobody_of t c meet = ap (λ b. if (not b && (c.worker == t)) then c ∷ [] else []) meet

-- commands that are answered in order, and a disjoint round behind them
round_behind : (n hosts : ℕ) (first last : List Call) (done cs : List Command) (rows : ℕ → List Said) → AreAnswered n first (merge done rows)
    → RoundAnswered n hosts first cs (rows_after done rows) last → AreDisjointCommands cs
    → AreAnswered n last (merge (done ++ cs) rows)
round_behind n hosts first last done cs rows answered round disjoint =
    let both = round.exact disjoint in
    subst (λ all. AreAnswered n last all) (sym (merge-append done cs rows))
    (answered_more n first last (merge done rows) (merge cs (rows_after done rows)) answered both.0 both.1)

meet_count : (t : ℕ) (cs : List Command) (d : Command) → is_meet d.op ≡ true → line_count t cs ≡ line_count t (cs ++ d ∷ [])
meet_count t cs d meet =
    let more = line_count-append t cs (d ∷ []) in
    let none = ap (λ (l : List Command). length l) (nobody_of t d meet) in omega (arith, more, none)

by_bool : {P : Type 0} (b : Bool) → (b ≡ true → P) → (b ≡ false → P) → P
by_bool true here away = here refl
by_bool false here away = away refl

-- all rounds behind commands that are answered in order; of the first of them some commands may stand apart
module _ (n hosts : ℕ) (last : List Call) (rows : ℕ → List Said) where
  all_behind : (first : List Call) (done cs ds : List Command) → HaveNoMeeting cs → AreAnswered n first (merge done rows)
      → AreRounds n hosts first (rounds_of (cs ++ ds)) (rows_after done rows) last
      → All AreDisjointCommands (rounds_of (cs ++ ds)) → AreAnswered n last (merge (done ++ (cs ++ ds)) rows)
  all_behind first done cs [] plain answered chain apart =
      let only : rounds_of (cs ++ []) ≡ cs ∷ [] = ap rounds_of (append-nil cs) ∙ rounds_of-last cs plain in
      let c : AreRounds n hosts first (cs ∷ []) (rows_after done rows) last = subst (λ rs. AreRounds n hosts first rs (rows_after done rows) last) only chain in
      let disjoint = All-head AreDisjointCommands cs [] (subst (All AreDisjointCommands) only apart) in
      let at_end = round_behind n hosts first c.0 done cs rows answered c.1 disjoint in
      subst (λ (x : List Call × List Command). AreAnswered n x.0 (merge (done ++ x.1) rows)) (λ i. (c.2 i, sym (append-nil cs) i)) at_end
  all_behind first done cs (d ∷ ds) plain answered chain apart =
      by_bool (is_meet d.op)
      (λ meet.
      let parts = rounds_of-meet cs d ds plain meet in
      let c : AreRounds n hosts first (cs ∷ rounds_of ds) (rows_after done rows) last =
      subst (λ rs. AreRounds n hosts first rs (rows_after done rows) last) parts chain in
      let disjoint : All AreDisjointCommands (cs ∷ rounds_of ds) = subst (All AreDisjointCommands) parts apart in
      let here = round_behind n hosts first c.0 done cs rows answered c.1 (All-head AreDisjointCommands cs (rounds_of ds) disjoint) in
      let behind = (done ++ cs) ++ d ∷ [] in
      let met : AreAnswered n c.0 (merge behind rows) = meeting_goes_on n c.0 (done ++ cs) d rows meet here in
      let left : rows_after cs (rows_after done rows) ≡ rows_after behind rows =
      rows_more done cs rows ∙ rows_count (done ++ cs) behind rows (λ t. meet_count t (done ++ cs) d meet) in
      let rest = all_behind c.0 behind [] ds (All-nil (λ c. is_meet c.op ≡ false)) met
      (subst (λ r. AreRounds n hosts c.0 (rounds_of ds) r last) left c.2) (All-tail AreDisjointCommands cs (rounds_of ds) disjoint) in
      subst (λ l. AreAnswered n last (merge l rows)) (append_assoc (done ++ cs) (d ∷ []) ds ∙ append_assoc done cs (d ∷ ds)) rest)
      (λ line.
      let whole = append_assoc cs (d ∷ []) ds in
      let more : HaveNoMeeting (cs ++ d ∷ []) =
      All-append (λ c. is_meet c.op ≡ false) cs (d ∷ []) plain (All-cons (λ c. is_meet c.op ≡ false) d [] line (All-nil (λ c. is_meet c.op ≡ false))) in
      subst (λ l. AreAnswered n last (merge (done ++ l) rows)) whole
      (all_behind first done (cs ++ d ∷ []) ds more answered
      (subst (λ l. AreRounds n hosts first (rounds_of l) (rows_after done rows) last) (sym whole) chain)
      (subst (λ l. All AreDisjointCommands (rounds_of l)) (sym whole) apart)))

pub rounds_go_on : RoundsGoOn
rounds_go_on n hosts h commands rows chain disjoint =
    all_behind n hosts h rows [] [] [] commands (All-nil (λ c. is_meet c.op ≡ false)) (run_begins n rows) chain disjoint
