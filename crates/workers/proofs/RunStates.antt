-- The state of a run between two rounds: where it begins, one round more, and its end.
use Rattle.std.proofs.Common.{◌≡◌, ℕ, ◌+◌, ◌-◌, ◌<◌, ◌≤◌, All, List, [], ◌∷◌, ◌++◌, map, length, get_or, take, drop, refl, sym, ap, ◌∙◌, subst, arith}
use Rattle.std.proofs.Common.{append_assoc, append-nil, length-append, zero-add, ne_eqb}
use Rattle.std.specs.{Prelude.if◌then◌else◌, Prelude.not, Prelude.◌==◌, List.slice_range, List.take_while}
use Rattle.std.proofs.Math.Seq.{drop-append_seam, take-append_seam, take-length}
use Rattle.std.proofs.lemmas.List.{get_or-map, get_or_past, get_or_append_left, get_or-append-add, length-map, take_all, take-take, take-append-drop, drop-take}
use Rattle.std.proofs.lemmas.List.Elements.{All-nil, All-head, All-tail}
use mathlib.Core.Logic.{dite}
use native.Mathlib.Decide.{dec_lt}
use Rattle.geometry.specs.{Geometry.sectors_of, History.Call, History.Begins}
use Rattle.geometry.proofs.Histories.{Begins-refl}
use Rattle.flash_rule.specs.{declared.facts.Name.TheVariants.Pass as APass, declared.facts.Role.TheVariants.Player, declared.view.View.View, Views.caller}
use Rattle.flash_table.specs.{declared.pass.Pass.Pass, Flash.view_of, Flash.device, Flash.geometry_of, Flash.first_view}
use Rattle.trace.specs.declared.commands.Command.{Command}
use Rattle.rounds.specs.{Lines.Said, Answers.said_in, Playing.Played, Playing.Plays, Plans.places_from, Plans.places_for, Plans.meetings_from}
use Rattle.workers.specs.{Playable.added, Playable.lines_at, Meetings.Rest, Meetings.passes_of, Meetings.rest_of, Meetings.views_of}
use Rattle.volume.specs.{declared.volume.Volume.Volume, Closing.HasLooked, Volume.flash_of}
use Rattle.rounds.specs.{Rounds.AreTied, Rounds.HaveMet, Merging.RoundAnswered, Merging.AreRounds}
use Rattle.rounds.specs.Merging.{is_meet, lines_for, line_count, rows_after, rounds_of}
use Rattle.rounds.proofs.{Meetings.tied_again, Runs.run_is_text, Planning.places_from-append}
use Rattle.rounds.proofs.Chains.{flat, flat-append, lines_for-append, line_count-append, rows_count, round_answered, rounds_same, rounds_push, rounds_go_on}
use Rattle.workers.specs.declared.worker.{round_limits.RoundLimits.RoundLimits, Worker.Worker}
use Rattle.workers.specs.Workers.{HasPlayed, answered, is_before, round_lines}
use Rattle.workers.specs.Runs.{RoundPlayed, AreManned, HasOwnLines, HasBegun, HasEnded, HasRun, answers_of, denied_by, rows_of}
use Rattle.workers.proofs.{RoundMeetings.ready_at, WorkerRows.front_is, PlayedRounds.played_long, PlayedRounds.played_at, PlayedRounds.rests_long}
use Rattle.workers.proofs.{PlayedRounds.rest_at}
use Rattle.workers.proofs.RoundLines.{count_places, places_low, places_high, lines_there, FirstRound, first_round}
use Rattle.workers.proofs.RoundStates.{WorkerRound, run_more, plays_to, round_played, Left, left_is, Closed, closed_is, Next, next_part}
use Rattle.workers.proofs.RoundStates as going

-- a part in the midst of a list
seam_range : {X : Type 0} (xs ys zs : List X) → slice_range (xs ++ (ys ++ zs)) (length xs) (length xs + length ys) ≡ ys
seam_range xs ys zs =
    let count : (length xs + length ys) - length xs ≡ length ys = omega arith in
    ap (take ((length xs + length ys) - length xs)) (drop-append_seam xs (ys ++ zs)) ∙ (ap (λ k. take k (ys ++ zs)) count ∙ take-append_seam ys zs)

all_part : {X : Type 0} (P : X → Type 0) (xs ys zs : List X) → All P (xs ++ (ys ++ zs)) → All P ys
all_part P xs ys zs all k d low =
    subst P (get_or-append-add xs (ys ++ zs) k d ∙ get_or_append_left ys zs d k low)
    (all (length xs + k) d (omega (arith, length-append xs (ys ++ zs), length-append ys zs)))

take_split : {X : Type 0} (a b : ℕ) (xs : List X) → a ≤ b → take b xs ≡ take a xs ++ slice_range xs a b
take_split a b xs order =
    let on : a + (b - a) ≡ b = omega arith in
    let front : take a (take b xs) ≡ take a xs = take-take a b xs order in
    let behind : drop a (take b xs) ≡ slice_range xs a b = subst (λ k. drop a (take k xs) ≡ slice_range xs a b) on (drop-take a (b - a) xs) in
    sym (take-append-drop a (take b xs)) ∙ (λ i. front i ++ behind i)

-- one worker's round, by the worker before it, after it was played, and after the meetings
module _ (trace done cs tail : List Command) (t patience end : ℕ) (p b r : Worker) (whole : trace ≡ done ++ (cs ++ tail))
    (last : end ≡ length done + length cs) (dealt : HasOwnLines trace t p) (cursor : answered p ≡ line_count t done)
    (played : HasPlayed (record { end = end; patience = patience }) p b) (same : rest_of r ≡ rest_of b) where
  abbrev here : List ℕ
  here = places_from (length done) t cs

  abbrev behind : List ℕ
  behind = places_from (length done + length cs) t tail

  row : p.places.items ≡ places_for t done ++ (here ++ behind)
  row =
      dealt.places
      ∙ (ap (places_for t) whole
      ∙ (places_from-append 0 t done (cs ++ tail)
      ∙ (ap (λ k. places_for t done ++ places_from k t (cs ++ tail)) (zero-add (length done))
      ∙ ap (λ l. places_for t done ++ l) (places_from-append (length done) t cs tail))))

  left : drop (answered p) p.places.items ≡ here ++ behind
  left = (λ i. drop ((cursor ∙ sym (count_places 0 t done)) i) (row i)) ∙ drop-append_seam (places_for t done) (here ++ behind)

  lines_are : round_lines end p ≡ lines_for t cs
  lines_are =
      (λ i. lines_at ((dealt.commands ∙ whole) i) (take_while (is_before end) (left i)))
      ∙ (ap (lines_at (done ++ (cs ++ tail)))
      (front_is here behind end (places_low (length done) t cs end last) (places_high (length done + length cs) t tail end (omega (arith, last))))
      ∙ lines_there t done cs tail)

  answers_are : r.answers ≡ b.answers
  answers_are = ap (λ (x : Rest). x.3) same

  abbrev more : List Said
  more = added p.answers b.answers

  grown : said_in r.answers ≡ said_in p.answers ++ more
  grown = ap said_in answers_are ∙ played.answers.kept

  count_added : length more ≡ line_count t cs
  count_added =
      let lines = ap (λ (l : List Command). length l) lines_are in
      let count = played.answers.count in
      let kept = ap (λ (l : List Said). length l) played.answers.kept in omega (arith, lines, count, kept, length-append (said_in p.answers) more)

  pub cursor_on : answered r ≡ line_count t done + line_count t cs
  cursor_on = (let parts = ap (λ (l : List Said). length l) grown in omega (arith, parts, cursor, count_added, length-append (said_in p.answers) more))

  pub dealt_on : HasOwnLines trace t r
  dealt_on = record {
    commands = ap (λ (x : Rest). x.1) same ∙ (played.commands ∙ dealt.commands);
    places = ap (λ (x : Rest). x.2) same ∙ (played.places ∙ dealt.places);
  }

  kept : take (line_count t done) (said_in p.answers) ≡ take (line_count t done) (said_in r.answers)
  kept =
      let old = said_in p.answers in
      subst (λ k. take k old ≡ take k (said_in r.answers)) cursor (take-length old ∙ sym (ap (take (length old)) grown ∙ take-append_seam old more))

  part : slice_range (said_in r.answers) (line_count t done) (line_count t done + line_count t cs) ≡ more
  part =
      let old = said_in p.answers in
      let ends : length old + length more ≡ line_count t done + line_count t cs = omega (arith, cursor, count_added) in
      let whole : said_in r.answers ≡ old ++ (more ++ []) = grown ∙ ap (λ l. old ++ l) (sym (append-nil more)) in
      ap (λ (x : List Said × ℕ × ℕ). slice_range x.0 x.1 x.2) (λ i. (whole i, sym cursor i, sym ends i)) ∙ seam_range old more []

  pub worker_round : (view_of p.pass).role ≡ Player (APass t)
      → WorkerRound t patience done cs (said_in p.answers) (said_in r.answers) (view_of p.pass) (view_of b.pass)
  worker_round role =
      record {
        kept = kept;
        enough = (let all = cursor_on in omega arith);
        played = subst (λ (x : List Command × List Said). Played t patience (view_of p.pass) x.0 x.1 (view_of b.pass))
            (λ i. (lines_are i, sym part i)) (played.played t role);
      }

-- what the worker at a number knows and has answered
pub view_at : (volume : Volume) (workers : List Worker) (t : ℕ) (p : Worker) → t < length workers
    → views_of volume (passes_of workers) t ≡ view_of (get_or workers t p).pass
view_at volume workers t p low =
    let pass : Worker → Pass = λ (z : Worker). z.pass in
    let count = length-map workers pass in
    get_or-map view_of (passes_of workers) t p.pass (first_view (device (flash_of volume)) t) (omega (arith, count))
    ∙ ap view_of (get_or-map pass workers t p p.pass low)

pub row_at : (workers : List Worker) (t : ℕ) (p : Worker) → t < length workers → rows_of workers t ≡ said_in (get_or workers t p).answers
row_at workers t p low = get_or-map answers_of workers t p [] low

row_past : (workers : List Worker) (t : ℕ) → length workers ≤ t → rows_of workers t ≡ []
row_past workers t past = let count = length-map workers answers_of in get_or_past (map answers_of workers) t [] (omega (arith, count))

pub some_worker : (workers : List Worker) → 0 < length workers → Worker
some_worker [] some = absurd (omega arith)
some_worker (p ∷ workers) some = p

-- a run of a trace between two rounds, with these ends of rounds left
pub record RunState (volume : Volume) (patience : ℕ) (trace : List Command) (before : List Worker) (ends : List ℕ) (workers : List Worker) : Type 0 where
  pub done : List Command
  pub rest : List Command
  pub whole : trace ≡ done ++ rest
  pub left : Left (length done) rest ends
  pub known : All (λ c. c.worker < length workers) trace
  pub sectors : All (λ c. c.sector < sectors_of (geometry_of (flash_of volume))) trace
  pub dealt : (t : ℕ) (p : Worker) → t < length workers → HasOwnLines trace t (get_or workers t p)
  pub cursor : (t : ℕ) (p : Worker) → t < length workers → answered (get_or workers t p) ≡ line_count t done
  pub each : (t : ℕ) → t < length workers
      → HasRun t patience (denied_by volume before t) (lines_for t done) (take (line_count t done) (rows_of workers t)) (views_of volume (passes_of workers) t)
  pub history : List Call
  pub tied : AreTied (length workers) history (views_of volume (passes_of workers))
  pub plays : (t : ℕ) → t < length workers
      → Plays (sectors_of (geometry_of (flash_of volume))) t [] (lines_for t done) (take (line_count t done) (rows_of workers t)) history
  pub closed : List (List Command)
  pub rounds : Closed trace closed rest ends
  pub counts : (t : ℕ) → line_count t (flat closed) ≡ line_count t done
  pub order : AreRounds (sectors_of (geometry_of (flash_of volume))) (length workers) [] closed (rows_of workers) history

-- the run begins
pub state_begins : (volume : Volume) (patience : ℕ) (trace : List Command) (ends : List ℕ) (workers : List Worker)
    → HasBegun volume trace ends workers → RunState volume patience trace workers ends workers
state_begins volume patience trace ends workers b = record {
  done = [];
  rest = trace;
  whole = refl;
  left = left_is 0 trace ends (ends_begin trace ends b.rounds);
  known = b.known;
  sectors = b.sectors;
  dealt = b.dealt;
  cursor = λ t p low. ap (λ (l : List Said). length l) (b.none t p low);
  each = λ t low. let new = b.new t low in going.run_begins t patience (views_of volume (passes_of workers) t) new.0 new.1 new.2;
  history = [];
  tied = record {
    callers = All-nil (λ c. caller c < length workers);
    later = λ t low. subst (λ h. Begins [] h) (sym (b.new t low).0) (Begins-refl []);
    own = λ t low. sym (b.new t low).1;
  };
  plays = λ t low. Begins-refl [];
  closed = [];
  rounds = closed_is trace [] trace 0 ends (ends_begin trace ends b.rounds) refl;
  counts = λ t. refl;
  order = refl;
}
  where
    ends_begin : (trace : List Command) (ends : List ℕ) → ends ≡ meetings_from 0 trace ++ length trace ∷ []
        → ends ≡ meetings_from 0 trace ++ (0 + length trace) ∷ []
    ends_begin trace ends are = are ∙ ap (λ k. meetings_from 0 trace ++ k ∷ []) (sym (zero-add (length trace)))

-- one round more
module _ (volume : Volume) (patience : ℕ) (trace : List Command) (begun : List Worker) (end : ℕ) (ends : List ℕ) (workers back : List Worker)
    (manned : AreManned volume workers) (round : RoundPlayed volume patience end workers back)
    (state : RunState volume patience trace begun (end ∷ ends) workers) where
  abbrev n : ℕ
  n = sectors_of (geometry_of (flash_of volume))

  abbrev limits : RoundLimits
  limits = record { end = end; patience = patience }

  x : Worker
  x = some_worker workers manned.some

  first : FirstRound (length state.done) state.rest end ends
  first = first_round (length state.done) state.rest end ends state.left

  abbrev cs : List Command
  cs = first.round

  next : Next state.done cs first.tail ends
  next = next_part state.done cs first.tail end ends first.plain first.last first.behind

  whole_now : trace ≡ state.done ++ (cs ++ first.tail)
  whole_now = state.whole ∙ ap (λ l. state.done ++ l) first.whole

  long_between : length round.between ≡ length workers
  long_between = played_long limits workers round.between round.played

  long_back : length back ≡ length workers
  long_back = rests_long volume round.between back round.rest ∙ long_between

  abbrev before : ℕ → View
  before = views_of volume (passes_of workers)

  abbrev played : ℕ → View
  played = views_of volume (passes_of round.between)

  abbrev after : ℕ → View
  after = views_of volume (passes_of back)

  role_at : (t : ℕ) (p : Worker) → t < length workers → (view_of (get_or workers t p).pass).role ≡ Player (APass t)
  role_at t p low =
      let pass : Worker → Pass = λ (z : Worker). z.pass in
      let count = length-map workers pass in
      ap (λ (z : Pass). (view_of z).role) (sym (get_or-map pass workers t p p.pass low)) ∙ manned.seated t p.pass (omega (arith, count))

  module _ (t : ℕ) (p : Worker) (low : t < length workers) where
    played_here : HasPlayed limits (get_or workers t p) (get_or round.between t p)
    played_here = played_at limits workers round.between round.played t p p low

    rest_here : rest_of (get_or back t p) ≡ rest_of (get_or round.between t p)
    rest_here = rest_at volume round.between back round.rest t p (omega (arith, long_between))

    dealt_here : HasOwnLines trace t (get_or back t p)
    dealt_here =
        dealt_on trace state.done cs first.tail t patience end (get_or workers t p) (get_or round.between t p) (get_or back t p) whole_now first.last
        (state.dealt t p low) (state.cursor t p low) played_here rest_here

    cursor_here : answered (get_or back t p) ≡ line_count t state.done + line_count t cs
    cursor_here =
        cursor_on trace state.done cs first.tail t patience end (get_or workers t p) (get_or round.between t p) (get_or back t p) whole_now first.last
        (state.dealt t p low) (state.cursor t p low) played_here rest_here

    worker_here : WorkerRound t patience state.done cs (rows_of workers t) (rows_of back t) (before t) (played t)
    worker_here =
        let w =
        worker_round trace state.done cs first.tail t patience end (get_or workers t p) (get_or round.between t p)
        (get_or back t p) whole_now first.last (state.dealt t p low) (state.cursor t p low) played_here rest_here (role_at t p low) in
        subst (λ (y : List Said × List Said × View × View). WorkerRound t patience state.done cs y.0 y.1 y.2 y.3)
        (λ i. (
          sym (row_at workers t p low) i,
          sym (row_at back t p (omega (arith, long_back))) i,
          sym (view_at volume workers t p low) i,
          sym (view_at volume round.between t p (omega (arith, long_between))) i,
        )) w

    sectors_here : (before t).numbers.sectors ≡ n
    sectors_here =
        let ready = ready_at volume (get_or workers t p) (manned.at t p low) in
        ap (λ (v : View). v.numbers.sectors) (view_at volume workers t p low) ∙ ap (λ z. z.sectors) ready.rested.pass.numbers

  count_met : length (passes_of round.between) ≡ length workers
  count_met = length-map round.between (λ (z : Worker). z.pass) ∙ long_between

  collected : HaveMet (length workers) round.met.history played after
  collected = subst (λ k. HaveMet k round.met.history played after) count_met round.met.have_met

  lines_more : (t : ℕ) → lines_for t (state.done ++ (cs ++ next.meeting)) ≡ lines_for t state.done ++ lines_for t cs
  lines_more t =
      lines_for-append t state.done (cs ++ next.meeting)
      ∙ ap (λ l. lines_for t state.done ++ l)
      (lines_for-append t cs next.meeting ∙ (ap (λ l. lines_for t cs ++ l) (next.nobody t) ∙ append-nil (lines_for t cs)))

  count_more : (t : ℕ) → line_count t (state.done ++ (cs ++ next.meeting)) ≡ line_count t state.done + line_count t cs
  count_more t = ap (λ (l : List Command). length l) (lines_more t) ∙ length-append (lines_for t state.done) (lines_for t cs)

  answers_more : (t : ℕ) → t < length workers
      → take (line_count t state.done) (rows_of workers t) ++ slice_range (rows_of back t) (line_count t state.done) (line_count t state.done + line_count t cs)
      ≡ take (line_count t (state.done ++ (cs ++ next.meeting))) (rows_of back t)
  answers_more t low =
      let a = line_count t state.done in
      let b = line_count t state.done + line_count t cs in
      ap (λ l. l ++ slice_range (rows_of back t) a b) (worker_here t x low).kept
      ∙ (sym (take_split a b (rows_of back t) (omega arith)) ∙ ap (λ k. take k (rows_of back t)) (sym (count_more t)))

  run_here : (t : ℕ) → t < length workers
      → HasRun t patience (denied_by volume begun t) (lines_for t (state.done ++ (cs ++ next.meeting)))
      (take (line_count t (state.done ++ (cs ++ next.meeting))) (rows_of back t)) (after t)
  run_here t low =
      let w = worker_here t x low in
      let a = line_count t state.done in
      let b = line_count t state.done + line_count t cs in
      let looked : HasLooked (played t) (after t) = round.met.looked t (omega (arith, count_met)) in
      let more = run_more t patience (denied_by volume begun t) (lines_for t state.done) (lines_for t cs) (take a (rows_of workers t))
      (slice_range (rows_of back t) a b) (before t) (played t) (after t) (state.each t low) w.played looked in
      subst (λ (y : List Command × List Said). HasRun t patience (denied_by volume begun t) y.0 y.1 (after t))
      (λ i. (sym (lines_more t) i, answers_more t low i)) more

  plays_here : (t : ℕ) → t < length workers
      → Plays n t [] (lines_for t (state.done ++ (cs ++ next.meeting)))
      (take (line_count t (state.done ++ (cs ++ next.meeting))) (rows_of back t)) round.met.history
  plays_here t low =
      let a = line_count t state.done in
      let b = line_count t state.done + line_count t cs in
      let plays =
      plays_to t patience (denied_by volume begun t) (lines_for t state.done) (lines_for t cs) (take a (rows_of workers t))
      (slice_range (rows_of back t) a b) (before t) (played t) round.met.history (state.each t low) (worker_here t x low).played (collected.brought t low) in
      subst (λ (y : ℕ × List Command × List Said). Plays y.0 t [] y.1 y.2 round.met.history)
      (λ i. (sectors_here t x low i, sym (lines_more t) i, answers_more t low i)) plays

  kept_here : (t : ℕ) → take (line_count t state.done) (rows_of workers t) ≡ take (line_count t state.done) (rows_of back t)
  kept_here t =
      dite (dec_lt t (length workers))
      (λ low. (worker_here t x low).kept)
      (λ past.
      let one = row_past workers t (omega arith) in
      let two = row_past back t (omega (arith, long_back)) in ap (take (line_count t state.done)) (one ∙ sym two))

  round_here : RoundAnswered n (length workers) state.history cs (rows_after state.done (rows_of back)) round.met.history
  round_here =
      round_answered (length workers) n state.history round.met.history before played after cs (rows_after state.done (rows_of back)) manned.some
      (all_part (λ c. c.worker < length workers) state.done cs first.tail (subst (λ l. All (λ c. c.worker < length workers) l) whole_now state.known))
      (all_part (λ c. c.sector < n) state.done cs first.tail (subst (λ l. All (λ c. c.sector < n) l) whole_now state.sectors)) state.tied
      (round_played (length workers) n patience state.done cs (rows_of workers) (rows_of back) before played first.plain
      (λ t low. sectors_here t x low) (λ t low. worker_here t x low)) collected

  order_here : AreRounds n (length workers) [] (state.closed ++ cs ∷ []) (rows_of back) round.met.history
  order_here =
      rounds_push n (length workers) [] state.closed (rows_of back) state.history cs round.met.history
      (rounds_same n (length workers) [] state.closed (rows_of workers) (rows_of back) state.history
      (λ t. subst (λ k. take k (rows_of workers t) ≡ take k (rows_of back t)) (sym (state.counts t)) (kept_here t)) state.order)
      (subst (λ r. RoundAnswered n (length workers) state.history cs r round.met.history)
      (sym (rows_count (flat state.closed) state.done (rows_of back) state.counts)) round_here)

  counts_here : (t : ℕ) → line_count t (flat (state.closed ++ cs ∷ [])) ≡ line_count t (state.done ++ (cs ++ next.meeting))
  counts_here t =
      ap (line_count t) (flat-append state.closed cs)
      ∙ (line_count-append t (flat state.closed) cs ∙ (ap (λ k. k + line_count t cs) (state.counts t) ∙ sym (count_more t)))

  pub state_next : RunState volume patience trace begun ends back
  state_next = record {
    done = state.done ++ (cs ++ next.meeting);
    rest = next.rest;
    whole = whole_now ∙ (ap (λ l. state.done ++ (cs ++ l)) next.whole
        ∙ (ap (λ l. state.done ++ l) (sym (append_assoc cs next.meeting next.rest)) ∙ sym (append_assoc state.done (cs ++ next.meeting) next.rest)));
    left = next.left;
    known = subst (λ k. All (λ c. c.worker < k) trace) (sym long_back) state.known;
    sectors = state.sectors;
    dealt = λ t p low. dealt_here t p (omega (arith, long_back));
    cursor = λ t p low. cursor_here t p (omega (arith, long_back)) ∙ sym (count_more t);
    each = λ t low. run_here t (omega (arith, long_back));
    history = round.met.history;
    tied = subst (λ k. AreTied k round.met.history after) (sym long_back) (tied_again (length workers) round.met.history played after collected);
    plays = λ t low. plays_here t (omega (arith, long_back));
    closed = state.closed ++ cs ∷ [];
    rounds = next.closed trace state.closed (state.rounds ∙ ap (λ l. state.closed ++ rounds_of l) first.whole);
    counts = counts_here;
    order = subst (λ k. AreRounds n k [] (state.closed ++ cs ∷ []) (rows_of back) round.met.history) (sym long_back) order_here;
  }

-- a worker that isn't there has no line
none_past : (hosts t : ℕ) (cs : List Command) → All (λ c. c.worker < hosts) cs → hosts ≤ t → line_count t cs ≡ 0
none_past hosts t [] all past = refl
none_past hosts t (c ∷ cs) all past =
    let low = All-head (λ c. c.worker < hosts) c cs all in
    let rest = none_past hosts t cs (All-tail (λ c. c.worker < hosts) c cs all) past in
    let other : ¬ (c.worker ≡ t) = λ same. omega arith in
    subst (λ b. length (if b then c ∷ lines_for t cs else lines_for t cs) ≡ 0)
    (sym (going.and_false (not (is_meet c.op)) (c.worker == t) (ne_eqb c.worker t other))) rest

-- the run's end, once no end of a round is left
pub state_ends : (volume : Volume) (patience : ℕ) (trace : List Command) (begun workers : List Worker) → AreManned volume workers
    → RunState volume patience trace begun [] workers → HasEnded volume patience trace begun workers
state_ends volume patience trace begun workers manned state =
    let n = sectors_of (geometry_of (flash_of volume)) in
    let h = state.history in
    let all : state.done ≡ trace = sym (append-nil state.done) ∙ (ap (λ l. state.done ++ l) (sym state.left) ∙ sym state.whole) in
    let long : (t : ℕ) → t < length workers → length (rows_of workers t) ≡ line_count t trace = λ t low.
    let p = some_worker workers manned.some in
    ap (λ (l : List Said). length l) (row_at workers t p low) ∙ (state.cursor t p low ∙ ap (line_count t) all) in
    let row_end : (t : ℕ) → t < length workers → take (line_count t trace) (rows_of workers t) ≡ rows_of workers t = λ t low.
    take_all (line_count t trace) (rows_of workers t) (omega (arith, long t low)) in
    let row_now : (t : ℕ) → t < length workers → take (line_count t state.done) (rows_of workers t) ≡ rows_of workers t = λ t low.
    ap (λ l. take (line_count t l) (rows_of workers t)) all ∙ row_end t low in
    let run : (t : ℕ) → t < length workers
    → HasRun t patience (denied_by volume begun t) (lines_for t trace) (rows_of workers t) (views_of volume (passes_of workers) t) = λ t low.
    subst (λ (x : List Command × List Said).
    HasRun t patience (denied_by volume begun t) (lines_for t x.0) x.1 (views_of volume (passes_of workers) t)) (λ i. (all i, row_now t low i))
    (state.each t low) in
    let rounds : AreRounds n (length workers) [] (rounds_of trace) (rows_of workers) h =
    subst (λ rs. AreRounds n (length workers) [] rs (rows_of workers) h) (sym state.rounds) state.order in
    record {
      count = λ t.
          dite (dec_lt t (length workers))
          (λ low.
          omega (arith, long t low))
          (λ past. let none = none_past (length workers) t trace state.known (omega arith) in omega (arith, none));
      dealt = state.dealt;
      told = record {
        history = h;
        callers = state.tied.callers;
        calls = λ t low. state.tied.own t low ∙ (run t low).mine;
        plays = λ t low. subst (λ (x : List Command × List Said). Plays n t [] (lines_for t x.0) x.1 h) (λ i. (all i, row_now t low i)) (state.plays t low);
        rounds = rounds;
      };
      each = run;
      text = λ apart. run_is_text n h trace (rows_of workers) (rounds_go_on n (length workers) h trace (rows_of workers) rounds apart);
    }
