-- Lines that were played: a read on a new device, three lines of one worker, and a sector that one worker writes in a round in which another one reads
-- it; and small numbers as text.
use Rattle.std.proofs.Common.{◌≡◌, ℕ, true, ltb, arith, ◌⊎◌, inl, inr, ⊎_elim, zero, suc, Bool, false, List, [], ◌∷◌, refl, ◌∙◌, codes, ◌<◌, ◌++◌, eq-eqb}
use Rattle.std.proofs.Common.{ne_eqb, sym, ap, subst}
use Rattle.std.proofs.lemmas.Bool.Decides.{nat_tests}
use Rattle.std.specs.Prelude.{decimal, All}
use Rattle.clap.specs.Matches.{count_text}
use Rattle.clap.proofs.CountText.{decimal-count_text}
use Rattle.std.proofs.lemmas.Bool.{false≢true, cases_Bool}
use Rattle.answers.specs.Answers.{answers}
use Rattle.trace.specs.declared.commands.Op.TheVariants as op
use Rattle.rounds.specs.Merging.{AreDisjointCommands, lines_for, merge, AreAtOneHistory, RoundAnswered}
use Rattle.rounds.specs.Told.{IsTextOfSome, worker_of, sector_of, calls_in, is_right}
use Rattle.laws.specs.Rounds.{all_done, plain_line, three_lines, write_turned_away, rows_with, says, nothing_read, write_and_reads}
use Rattle.std.proofs.lemmas.List.Elements.{All-nil, All-head, All-tail}
use Rattle.flash_rule.specs.Views.{caller, calls_of}
use Rattle.trace.specs.declared.commands.Command.{Command}
use Rattle.rounds.specs.declared.answer.Kind.TheVariants as kind
use Rattle.rounds.specs.Lines.{Said, IsFound}
use Rattle.rounds.specs.Orders.{made, lines_of, Plays as PlaysLines}
use Rattle.rounds.specs.Playing.{Plays, calls_done}
use mathlib.Core.Logic.{dite}
use native.Mathlib.Decide.{ℕ_discrete}
use Rattle.geometry.specs.History.{Call, Write, held}

pub d : (n : ℕ) → ltb n 1000 ≡ true → decimal n ≡ count_text n
d n low = decimal-count_text n (grind (arith, nat_tests, low))

-- a round of one read
pub one_read : (worker sector : ℕ) → AreDisjointCommands (plain_line worker op.Read sector ∷ [])
one_read worker sector zero d low = λ j e within changed same. let is : false ≡ true = changed in absurd (false≢true is)
one_read worker sector (suc k) d low = absurd (omega (arith, low))

text_if : (x : List ℕ) (refused : ℕ → Bool) → refused 0 ≡ false → refused 1 ≡ false → answers (codes "full") 1 refused (three_lines x) ≡ all_done x
text_if x refused first second = rw (first, second) refl

text_if_not : (x : List ℕ) (refused : ℕ → Bool) → refused 0 ≡ true → refused 1 ≡ false → answers (codes "full") 1 refused (three_lines x) ≡ write_turned_away x
text_if_not x refused first second = rw (first, second) refl

trim_is_done : (refused : Bool) → (refused ≡ true → (op.Trim ≡ op.Write) ⊎ (op.Trim ≡ op.New)) → refused ≡ false
trim_is_done false write = refl
trim_is_done true write = ⊎_elim (λ (e : op.Trim ≡ op.Write). absurd (cc)) (λ (e : op.Trim ≡ op.New). absurd (cc)) (write refl)

pub text_of_three : (x text : List ℕ) → IsTextOfSome 1 (three_lines x) text → (text ≡ all_done x) ⊎ (text ≡ write_turned_away x)
text_of_three x text is =
    let done : is.refused 1 ≡ false = trim_is_done (is.refused 1) (is.writes 1 (plain_line 0 op.Trim 0) refl) in
    elim (cases_Bool (is.refused 0)) [
      | inl turned ↦ inr (is.answers ∙ text_if_not x is.refused turned done)
      | inr first ↦ inl (is.answers ∙ text_if x is.refused first done)
    ]

abbrev commands : List Command
commands = plain_line 0 op.Read 0 ∷ []

abbrev rows : ℕ → List Said
rows = rows_with (says kind.Empty ∷ []) []

no_calls : (t : ℕ) → t < 1 → calls_of t [] ≡ calls_done t (lines_for t commands) (rows t)
no_calls zero low = refl
no_calls (suc t) low = absurd (omega (arith, low))

plays : (t : ℕ) → t < 1 → Plays 1 t [] (lines_for t commands) (rows t) []
plays zero low = ([], ([], refl), refl, ([], refl))
plays (suc t) low = absurd (omega (arith, low))

plays_round : (t : ℕ) → t < 1 → PlaysLines sector_of calls_in is_right 1 [] (lines_of worker_of t (merge commands rows)) []
plays_round zero low = ([], ([], refl), refl, ([], refl))
plays_round (suc t) low = absurd (omega (arith, low))

own : (t : ℕ) → t < 1 → calls_of t [] ≡ calls_of t [] ++ made calls_in (lines_of worker_of t (merge commands rows))
own zero low = refl
own (suc t) low = absurd (omega (arith, low))

answered : RoundAnswered 1 1 [] commands rows []
answered =
    record {
      played = record {
        later = ([], refl);
        callers = All-nil (λ c. caller c < 1);
        seen = λ t. [];
        plays = plays_round;
        whole = λ t low. ([], refl);
        own = own;
      };
      exact = λ disjoint. ((refl, tt), refl);
    }

-- it finds an empty sector
pub finds_none : AreAtOneHistory 1 1 (plain_line 0 op.Read 0 ∷ []) (rows_with (says kind.Empty ∷ []) [])
finds_none = record { history = []; callers = All-nil (λ c. caller c < 1); calls = no_calls; plays = plays; rounds = ([], answered, refl) }

zero_or_one : (k : ℕ) → k < 2 → (k ≡ 0) ⊎ (k ≡ 1)
zero_or_one k below = dite (ℕ_discrete k 0) (λ same. inl same) (λ other. inr (omega arith))

-- of two passes one has made no call, so all calls are the other one's
all_of_first : (h : List Call) → All (λ c. caller c < 2) h → calls_of 1 h ≡ [] → calls_of 0 h ≡ h
all_of_first [] low none = refl
all_of_first (c ∷ h) low none =
    ⊎_elim
    (λ (mine : caller c ≡ 0).
    let other : ¬ (caller c ≡ 1) = λ same. omega (arith, mine, same) in
    let rest : calls_of 1 h ≡ [] = rw (ne_eqb (caller c) 1 other) at none in
    rw (eq-eqb (caller c) 0 mine) (ap (λ l. c ∷ l) (all_of_first h (All-tail (λ x. caller x < 2) c h low) rest)))
    (λ (theirs : caller c ≡ 1). let some : c ∷ calls_of 1 h ≡ [] = rw (eq-eqb (caller c) 1 theirs) at none in absurd (cc))
    (zero_or_one (caller c) (All-head (λ x. caller x < 2) c h low))

pub reads_behind : (x : List ℕ) → AreAtOneHistory 1 2 (write_and_reads x) nothing_read → ⊥
reads_behind x h =
    let first = h.rounds.1 in
    let second = h.rounds.2.1 in
    let one : h.rounds.0 ≡ Write 0 0 x ∷ [] =
    sym (all_of_first h.rounds.0 first.played.callers (first.played.own 1 (omega arith))) ∙ first.played.own 0 (omega arith) in
    let found : (kind.Empty ≡ kind.Page) × ([] ≡ x) = subst (λ k. IsFound (held 1 k 0) kind.Empty []) one (second.exact (one_read 1 0)).0.0 in
    let same : kind.Empty ≡ kind.Page = found.0 in
    absurd (cc)
