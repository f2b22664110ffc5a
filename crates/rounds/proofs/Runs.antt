-- A run over all rounds: one round more, one meeting more, and the text at the end.
use Rattle.std.proofs.Common.{◌≡◌, ℕ, ◌<◌, All, List, [], ◌∷◌, ◌++◌, true, None, refl, sym, ap, ◌∙◌, subst, append-nil}
use Rattle.std.{specs.Prelude.slice_get, specs.Prelude.if◌then◌else◌, proofs.lemmas.Bool.false≢true}
use Rattle.geometry.specs.History.{Call, after}
use Rattle.trace.specs.declared.commands.Op.{Op}
use Rattle.trace.specs.declared.commands.Op.TheVariants as op
use Rattle.rounds.specs.{Orders.InOrder, Orders.LeaveSame, Told.Line, Told.sector_of, Told.calls_in, Told.is_right, Told.AreAnswered, Told.RoundOf}
use Rattle.rounds.specs.{Told.IsTextOfSome, Told.lines_text, Runs.RunBegins, Runs.RunGoesOn, Runs.MeetingGoesOn, Runs.RunIsText}
use Rattle.rounds.specs.Merging.{is_meet, answer_for, merge, rows_after, AreDisjointCommands}
use Rattle.rounds.proofs.{AnsweredLines.rounds_are_in_order, AnsweredLines.answered_more, Texts.order_is_text}
use Rattle.rounds.proofs.Merging.{commands_in-merge, merge-append, merge_same, disjoint_lines, lines_in_range}

pub run_begins : RunBegins
run_begins n rows = record { in_order = tt; same = refl }

pub run_goes_on : RunGoesOn
run_goes_on hosts n first last before played after done cs rows others r answered =
    let xs = merge cs (rows_after done others) in
    let commands = commands_in-merge cs (rows_after done others) in
    let so_far : AreAnswered n first (merge done others) = subst (λ all. AreAnswered n first all) (merge_same done rows others r.kept) answered in
    let round : RoundOf hosts n first last before played after xs = record {
      some = r.some;
      range = lines_in_range hosts n xs (subst (λ ds. All (λ c. c.worker < hosts) ds) (sym commands) r.workers)
          (subst (λ ds. All (λ c. c.sector < n) ds) (sym commands) r.sectors);
      disjoint = disjoint_lines xs (subst AreDisjointCommands (sym commands) r.disjoint);
      tied = r.tied;
      play = r.play;
      met = r.met;
    } in
    let both = rounds_are_in_order hosts n first last before played after xs (merge done others) round so_far in
    (both.0, subst (λ all. AreAnswered n last all) (sym (merge-append done cs others)) both.1)

-- a meeting's line makes no call, and is rightly answered anywhere
meeting_right : (n : ℕ) (h : List Call) (o : Op) (w s : ℕ) (page : List ℕ) → is_meet o ≡ true → let x : Line =
    answer_for (record { worker = w; op = o; sector = s; page = page }) None in
    InOrder sector_of calls_in is_right n h (x ∷ []) × (calls_in x ≡ [])
meeting_right n h op.Read w s page meet = absurd (false≢true meet)
meeting_right n h op.Write w s page meet = absurd (false≢true meet)
meeting_right n h op.New w s page meet = absurd (false≢true meet)
meeting_right n h op.Trim w s page meet = absurd (false≢true meet)
meeting_right n h op.Meet w s page meet = ((refl, tt), refl)

pub meeting_goes_on : MeetingGoesOn
meeting_goes_on n h done c rows meet answered =
    let x = answer_for c None in
    let is : merge (c ∷ []) (rows_after done rows) ≡ x ∷ [] =
    ap (λ b. answer_for c (if b then None else slice_get (rows_after done rows c.worker) 0) ∷ []) meet in
    let right = meeting_right n h c.op c.worker c.sector c.page meet in
    let same : LeaveSame n h (h ++ (calls_in x ++ [])) = ap (after n) (sym (ap (λ k. h ++ (k ++ [])) right.1 ∙ append-nil h)) in
    subst (λ all. AreAnswered n h all) (sym (merge-append done (c ∷ []) rows ∙ ap (λ ys. merge done rows ++ ys) is))
    (answered_more n h h (merge done rows) (x ∷ []) answered right.0 same)

pub run_is_text : RunIsText
run_is_text n h commands rows answered =
    subst (λ cs. IsTextOfSome n cs (lines_text 0 (merge commands rows))) (commands_in-merge commands rows)
    (order_is_text n (merge commands rows) answered.in_order)
