-- What a run's answers are for a delivery: one for each line, with a whole page where one is told.
use Rattle.std.proofs.Common.{◌≡◌, ℕ, ◌*◌, ◌<◌, ◌≤◌, suc, Bool, true, false, List, [], ◌∷◌, ◌++◌, Option, None, Some, length, get_or, refl, sym, ap, subst}
use Rattle.std.proofs.{Common.arith, Common.ne_eqb, lemmas.List.Elements.All-head, lemmas.List.Elements.All-tail, lemmas.List.Elements.All-weaker}
use Rattle.std.specs.{Prelude.All, Prelude.IfSome, Prelude.Ok, Prelude.if◌then◌else◌, Prelude.not, Prelude.◌&&◌, Prelude.◌==◌, Io.KnownBytes.Appends}
use mathlib.Core.Logic.{dite}
use native.Mathlib.Decide.{dec_lt}
use Rattle.geometry.specs.{Geometry.hosts_of, Geometry.page_bytes_of, Geometry.sectors_of, History.Call, declared.geometry.Geometry.Geometry}
use Rattle.trace.specs.{Trace.commands_of, declared.commands.Command.Command}
use Rattle.answers.specs.{Delivery.AppendsBeginning, Delivery.AppendsPart, Delivery.AppendsText, Answers.IsPlayable}
use Rattle.rounds.specs.{Playing.Plays, Lines.Said, Lines.calls_made, Answers.page_size_of, declared.answer_list.Answers.Answers, Merging.answers_by}
use Rattle.rounds.specs.{Merging.is_meet, Merging.line_count, Merging.lines_for, Merging.merge, Merging.HaveAnswers, Told.lines_text}
use Rattle.runs.specs.{Texts.text_of, Outputs.IsOutputByWorkers, Outputs.written_by_workers, Texts.IsTextOf}
use Rattle.workers.specs.Runs.{ArePlayed}

-- each line that was played has one answer
plays_long : (n t : ℕ) (seen : List Call) (lines : List Command) (answers : List Said) (last : List Call) → Plays n t seen lines answers last
    → length lines ≡ length answers
plays_long n t seen [] [] last plays = refl
plays_long n t seen [] (a ∷ answers) last plays = absurd plays
plays_long n t seen (c ∷ lines) [] last plays = absurd plays
plays_long n t seen (c ∷ lines) (a ∷ answers) last plays = ap suc (plays_long n t (plays.0 ++ calls_made t c a) lines answers last plays.3)

-- a worker that isn't there has no line
none_past : (hosts t : ℕ) (cs : List Command) → All (λ c. c.worker < hosts) cs → hosts ≤ t → line_count t cs ≡ 0
none_past hosts t [] all past = refl
none_past hosts t (c ∷ cs) all past =
    let low = All-head (λ c. c.worker < hosts) c cs all in
    let rest = none_past hosts t cs (All-tail (λ c. c.worker < hosts) c cs all) past in
    let other : ¬ (c.worker ≡ t) = λ same. omega arith in
    subst (λ b. length (if b then c ∷ lines_for t cs else lines_for t cs) ≡ 0)
    (sym (and_false (not (is_meet c.op)) (c.worker == t) (ne_eqb c.worker t other))) rest
  where
    and_false : (a b : Bool) → b ≡ false → (a && b) ≡ false
    and_false true b is = is
    and_false false b is = refl

-- the workers of playable commands are the hosts of a shared device
workers_there : (geo : Geometry) (cs : List Command) → 0 < hosts_of geo → All (IsPlayable geo) cs → All (λ c. c.worker < hosts_of geo) cs
workers_there geo cs some all k c low = subst (λ n. (get_or cs k c).worker < n) (shared (hosts_of geo) some) (all k c low).worker
  where
    shared : (n : ℕ) → 0 < n → (if n == 0 then 500 else n) ≡ n
    shared n some = ap (λ b. if b then 500 else n) (ne_eqb n 0 (λ none. omega arith))

-- so each line has an answer
pub enough_answers : (geo : Geometry) (cs : List Command) (rows : ℕ → List Said) → 0 < hosts_of geo → All (IsPlayable geo) cs → ArePlayed geo cs rows
    → HaveAnswers rows cs
enough_answers geo cs rows some playable played t =
    dite (dec_lt t (hosts_of geo))
    (λ low. let long = plays_long (sectors_of geo) t [] (lines_for t cs) (rows t) played.told.history (played.told.plays t low) in omega (arith, long))
    (λ past. let none = none_past (hosts_of geo) t cs (workers_there geo cs some playable) (omega arith) in omega (arith, none))

-- the digits of the rows' pages
pub all_digits : (geo : Geometry) (rows : List Answers) (digits : ℕ) → digits ≡ 2 * page_bytes_of geo
    → All (λ row. page_size_of row ≡ page_bytes_of geo) rows → All (λ row. digits ≡ 2 * page_size_of row) rows
all_digits geo rows digits same sizes =
    All-weaker (λ row. page_size_of row ≡ page_bytes_of geo) (λ row. digits ≡ 2 * page_size_of row) (λ row size. omega (arith, same, size)) rows sizes

-- what was played, under other names for the commands and the rows
pub renamed : (geo : Geometry) (cs were : List Command) (rows stood : List Answers) → cs ≡ were → rows ≡ stood → ArePlayed geo were (answers_by stood)
    → ArePlayed geo cs (answers_by rows)
renamed geo cs were rows stood same same_rows played =
    subst (λ l. ArePlayed geo l (answers_by rows)) (sym same) (subst (λ r. ArePlayed geo were (answers_by r)) (sym same_rows) played)

-- and what the bytes mean
pub renamed_meaning : (geo : Geometry) (cs were : List Command) (input : Option (List ℕ)) → cs ≡ were
    → IfSome input (λ bytes. commands_of bytes geo ≡ Ok were) → IfSome input (λ bytes. commands_of bytes geo ≡ Ok cs)
renamed_meaning geo cs were input same meaning = subst (λ l. IfSome input (λ bytes. commands_of bytes geo ≡ Ok l)) (sym same) meaning

module _ (geo : Geometry) (cs : List Command) (rows : ℕ → List Said) (played : ArePlayed geo cs rows) where
  -- the text of what was played is a text of the bytes that mean these commands
  is_text : (bytes : List ℕ) → commands_of bytes geo ≡ Ok cs → IsTextOf geo bytes (text_of cs rows)
  is_text bytes meaning = record {
    commands = cs;
    meaning = meaning;
    rows = rows;
    lines = refl;
    told = played.told;
    answers = λ apart. record { lines = lines_text 0 (merge cs rows); answers = played.text apart; whole = refl };
  }

  -- and what is written of it is right, with the answers or without
  is_output : (wanted : Bool) (bytes : List ℕ) → commands_of bytes geo ≡ Ok cs → IsOutputByWorkers wanted geo bytes (written_by_workers wanted cs rows)
  is_output true bytes meaning = is_text bytes meaning
  is_output false bytes meaning = record { lines = lines_text 0 (merge cs rows); whole = is_text bytes meaning; line = refl }

  -- so such a text was written
  pub text_sent : (wanted : Bool) (input old new : Option (List ℕ)) → IfSome input (λ bytes. commands_of bytes geo ≡ Ok cs)
      → Appends old new (written_by_workers wanted cs rows) → IfSome input (λ bytes. AppendsText (IsOutputByWorkers wanted geo) bytes old new)
  text_sent wanted None old new meaning sent = tt
  text_sent wanted (Some bytes) old new meaning sent = record { text = written_by_workers wanted cs rows; is_text = is_output wanted bytes meaning; out = sent }

  -- or a beginning of it
  pub part_sent : (wanted : Bool) (input old new : Option (List ℕ)) → IfSome input (λ bytes. commands_of bytes geo ≡ Ok cs)
      → AppendsBeginning old new (written_by_workers wanted cs rows) → IfSome input (λ bytes. AppendsPart (IsOutputByWorkers wanted geo) bytes old new)
  part_sent wanted None old new meaning part = tt
  part_sent wanted (Some bytes) old new meaning part = record { text = written_by_workers wanted cs rows; is_text = is_output wanted bytes meaning; out = part }

-- the bytes mean some commands
pub some_meaning : (geo : Geometry) (cs : List Command) (input : Option (List ℕ)) → IfSome input (λ bytes. commands_of bytes geo ≡ Ok cs)
    → IfSome input (λ bytes. (commands : List Command) × (commands_of bytes geo ≡ Ok commands))
some_meaning geo cs None meaning = tt
some_meaning geo cs (Some bytes) meaning = (cs, meaning)
