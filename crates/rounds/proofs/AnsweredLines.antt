-- The law of rounds, of lines with what they were told, and what a pass that plays its worker's lines makes of it.
use Rattle.std.proofs.Common.{◌≡◌, ℕ, All, List, [], ◌∷◌, ◌++◌, Bool, true, false, refl, sym, ap, ◌∙◌, subst}
use Rattle.std.{specs.Prelude.if◌then◌else◌, proofs.lemmas.List.Concat.flat_map-append}
use Rattle.std.proofs.lemmas.List.Elements.{All-head, All-tail, All-nil, All-cons}
use Rattle.geometry.specs.History.{Call, after}
use Rattle.flash_rule.specs.Views.{caller}
use Rattle.trace.specs.declared.commands.{Command.Command, Op.Op}
use Rattle.trace.specs.declared.commands.Op.TheVariants as op
use Rattle.rounds.specs.{Lines.Said, Lines.calls_by, Lines.is_full, Orders.made, Orders.Plays, Orders.InOrder, Orders.LeaveSame, Rounds.PlayedRound}
use Rattle.rounds.specs.Told.{Line, worker_of, sector_of, calls_in, is_right, line, told, AreAnswered, RoundsAreInOrder}
use Rattle.rounds.proofs.{Content.target, Sequential.sequential, Sequential.leaves_same, Sequential.same-append, Sequential.in_order_same}
use Rattle.rounds.proofs.Sequential.{in_order_append}
use Rattle.rounds.proofs.Meetings.{tied_again, round_between}
use Rattle.rounds.specs.Playing as playing

-- what holds of the calls of each op holds of those of a line
of_calls : (P : Call → Type 0) (b : Bool) (cs : List Call) → All P cs → All P (if b then [] else cs)
of_calls P true cs all = All-nil P
of_calls P false cs all = all

by_worker : (t : ℕ) (o : Op) (s : ℕ) (value : List ℕ) → All (λ c. caller c ≡ t) (calls_by t o s value)
by_worker t op.Read s value = All-nil (λ c. caller c ≡ t)
by_worker t op.Meet s value = All-nil (λ c. caller c ≡ t)
by_worker t _ _ _ = All-cons (λ c. caller c ≡ t) _ [] refl (All-nil (λ c. caller c ≡ t))

at_sector : (t : ℕ) (o : Op) (s : ℕ) (value : List ℕ) → All (λ c. target c ≡ s) (calls_by t o s value)
at_sector t op.Read s value = All-nil (λ c. target c ≡ s)
at_sector t op.Meet s value = All-nil (λ c. target c ≡ s)
at_sector _ _ s _ = All-cons (λ c. target c ≡ s) _ [] refl (All-nil (λ c. target c ≡ s))

pub callers_in : (x : Line) → All (λ c. caller c ≡ worker_of x) (calls_in x)
callers_in x =
    let c = x.command in
    of_calls (λ call. caller call ≡ c.worker) (is_full x.kind) (calls_by c.worker c.op c.sector c.page) (by_worker c.worker c.op c.sector c.page)

pub targets_in : (x : Line) → All (λ c. target c ≡ sector_of x) (calls_in x)
targets_in x =
    let c = x.command in
    of_calls (λ call. target call ≡ c.sector) (is_full x.kind) (calls_by c.worker c.op c.sector c.page) (at_sector c.worker c.op c.sector c.page)

-- lines behind others
pub answered_more : (n : ℕ) (first last : List Call) (all xs : List Line) → AreAnswered n first all → InOrder sector_of calls_in is_right n first xs
    → LeaveSame n last (first ++ made calls_in xs) → AreAnswered n last (all ++ xs)
answered_more n first last all xs a order same =
    record {
      in_order = in_order_append sector_of calls_in is_right n [] all xs a.in_order
          (in_order_same sector_of calls_in is_right n first (made calls_in all) xs a.same order);
      same = same ∙ (same-append n first (made calls_in all) (made calls_in xs) a.same ∙ ap (after n) (sym (flat_map-append calls_in all xs)));
    }

pub rounds_are_in_order : RoundsAreInOrder
rounds_are_in_order hosts n first last before played after xs all r answered =
    let round : PlayedRound worker_of sector_of calls_in is_right hosts n first xs last =
    round_between worker_of sector_of calls_in is_right hosts n first last before played after xs r.some r.tied r.play r.met in (
      tied_again hosts last played after r.met,
      answered_more n first last all xs answered
          (sequential worker_of sector_of calls_in is_right callers_in targets_in hosts n first xs last round r.range r.disjoint r.some)
          (leaves_same worker_of sector_of calls_in is_right callers_in targets_in hosts n first xs last round r.range r.disjoint r.some),
    )

-- a worker's play of commands, as a play of lines with what they were told
pub plays_told : (n t : ℕ) (seen : List Call) (lines : List Command) (answers : List Said) (last : List Call) → All (λ c. c.worker ≡ t) lines
    → playing.Plays n t seen lines answers last → Plays sector_of calls_in is_right n seen (told lines answers) last
plays_told n t seen [] [] last mine p = p
plays_told n t seen [] (a ∷ answers) last mine p = absurd p
plays_told n t seen (c ∷ lines) [] last mine p = absurd p
plays_told n t seen (c ∷ lines) (a ∷ answers) last mine (h, from, fits, rest) = (
  h,
  from,
  fits,
  plays_told n t (h ++ calls_in (line c a)) lines answers last (All-tail (λ c. c.worker ≡ t) c lines mine)
      (subst (λ u. playing.Plays n t (h ++ (if is_full a.kind then [] else calls_by u c.op c.sector c.page)) lines answers last)
      (sym (All-head (λ c. c.worker ≡ t) c lines mine)) rest),
)

-- and the calls that it has made
pub calls_told : (t : ℕ) (lines : List Command) (answers : List Said) → All (λ c. c.worker ≡ t) lines
    → playing.calls_done t lines answers ≡ made calls_in (told lines answers)
calls_told t [] answers mine = refl
calls_told t (c ∷ lines) [] mine = refl
calls_told t (c ∷ lines) (a ∷ answers) mine =
    let rest = calls_told t lines answers (All-tail (λ c. c.worker ≡ t) c lines mine) in
    ap (λ u. (if is_full a.kind then [] else calls_by u c.op c.sector c.page) ++ playing.calls_done t lines answers)
    (sym (All-head (λ c. c.worker ≡ t) c lines mine))
    ∙ ap (λ k. calls_in (line c a) ++ k) rest
