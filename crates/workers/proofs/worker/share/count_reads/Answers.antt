use Rattle.std.proofs.Common.{◌≡◌, ℕ, suc, ◌+◌, ◌*◌, ◌<◌, ◌++◌, [], ◌∷◌, List, get_or, length, take, sym, refl, ap, ◌∙◌, arith, add-zero, mul-suc}
use Rattle.std.proofs.lemmas.{List.map_push, List.take_more, Option.get_or_from_slice_get}
use Rattle.trace.specs.declared.commands.{Command.Command, Op.Op}
use Rattle.rounds.specs.Answers.{space_for, space_of}
use Rattle.rounds.proofs.Pages.{space_of-append}
use Rattle.workers.specs.Playable.{lines_at, no_line}
use Rattle.workers.proofs.worker.share.count_reads.Goals.{in-Read, in_default}
use Rattle.trace.specs.declared.commands.Op.TheVariants as op
use Rattle.workers.proofs.worker.share.count_reads.Goals as goal

-- the lines at one place more
lines_more : (cs : List Command) (places : List ℕ) (i : ℕ) → i < length places
    → lines_at cs (take (i + 1) places) ≡ lines_at cs (take i places) ++ get_or cs (get_or places i 0) no_line ∷ []
lines_more cs places i low =
    let line : ℕ → Command = λ p. get_or cs p no_line in
    ap (lines_at cs) (take_more places i 0 low) ∙ map_push line (take i places) (get_or places i 0)

-- a line more: a read needs room, and no other line does
more_space : (n reads : ℕ) (lines : List Command) (c : Command) → space_of n lines ≡ n * reads → space_of n (lines ++ c ∷ []) ≡ n * reads + space_for n c.op
more_space n reads lines c before = let sum = space_of-append n lines (c ∷ []) in omega (arith, before, sum)

not_read : (n : ℕ) (o : Op) → ¬ (o ≡ op.Read) → space_for n o ≡ 0
not_read n op.Read other = absurd (other refl)
not_read n op.Write other = refl
not_read n op.New other = refl
not_read n op.Trim other = refl
not_read n op.Meet other = refl

pub loop-place-preserved : goal.loop-place-preserved
loop-place-preserved c =
    let cs = c.args.commands.now in
    let places = c.args.places.now in
    let i = c.loop-place.place-index in
    let command = c.command.result in
    let before = lines_at cs (take i places) in
    let line : get_or cs (get_or places i 0) no_line ≡ command = get_or_from_slice_get cs (get_or places i 0) command no_line c.command.ensures.at in
    let lines : lines_at cs (take (i + 1) places) ≡ before ++ command ∷ [] = lines_more cs places i c.loop-place-test.true ∙ ap (λ l. before ++ l ∷ []) line in
    let all : (n : ℕ) → space_of n (lines_at cs (take (i + 1) places)) ≡ n * c.loop-place.reads + space_for n command.op = λ n.
    ap (space_of n) lines ∙ more_space n c.loop-place.reads before command (c.loop-place.invariant.0 n) in
    let few = c.loop-place.invariant.1 in
    let next : suc c.loop-place.reads ≡ c.loop-place.reads + 1 = omega arith in
    elim c.match-command.branch [
      | in-Read w ↦ (
        λ n. all n
            ∙ (ap (λ o. n * c.loop-place.reads + space_for n o) w.in-Read.is
            ∙ (sym (mul-suc n c.loop-place.reads) ∙ ap (λ k. n * k) (next ∙ sym w.reads-is))),
        (let is = w.reads-is in omega arith),
      )
      | in_default w ↦ (
        λ n. all n
            ∙ (ap (λ k. n * c.loop-place.reads + k) (not_read n command.op w.in_default.not-Read)
            ∙ (add-zero (n * c.loop-place.reads) ∙ ap (λ k. n * k) (sym w.reads-is))),
        (let is = w.reads-is in omega arith),
      )
    ]
