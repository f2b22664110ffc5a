use Rattle.std.proofs.Common.{◌≡◌, ◌∙◌, ℕ, [], ◌∷◌, ◌++◌, Some, Global, ap, arith, codes}
use Rattle.std.{specs.Prelude.Ok, specs.Prelude.string_bytes, specs.Prelude.vec_items, proofs.lemmas.Grind.common_steps}
use Rattle.player.proofs.CommandLines.{found_there, no_text, not_ok, word_there, words_more, words_start}
use Rattle.player.proofs.environment.read_words.Goals as goal

pub loop-place-init : goal.loop-place-init
loop-place-init g c =
    let only : c.push.new.self.items ≡ [] ++ c.in-Ok.name ∷ [] = grind (arith, common_steps) in
    words_start (string_bytes {Z = Global}) (g.S.Arguments.all c.args.system.now) c.push.new.self.items c.in-Ok.name (codes "flashplay") c.in-Ok.ensures.ok only

pub loop-place-preserved : goal.loop-place-preserved
loop-place-preserved g c =
    let all = g.S.Arguments.all c.args.system.now in
    let grown : c.push-in-loop-place.new.self.items ≡ c.loop-place.words.items ++ c.in-Ok-from_utf8.word ∷ [] = grind (arith, common_steps) in
    words_more (string_bytes {Z = Global}) all c.loop-place.place c.loop-place.words.items c.push-in-loop-place.new.self.items c.in-Ok-from_utf8.word
    (codes "flashplay") grown c.loop-place.invariant
    (word_there (vec_items {X = ℕ} {Z = Global}) (string_bytes {Z = Global}) all c.loop-place.place c.in-Some.bytes c.in-Ok-from_utf8.word
    (ap (vec_items {X = ℕ} {Z = Global}) c.in-Ok-from_utf8.ensures.ok)
    (found_there (vec_items {X = ℕ} {Z = Global}) all c.loop-place.place c.argument.result (Some c.in-Some.bytes)
    (c.in-Ok-argument.is ∙ ap Ok c.in-Some.is) c.argument.ensures))

pub returns-in_default-from_utf8-clause-why : goal.returns-in_default-from_utf8-clause-why
returns-in_default-from_utf8-clause-why g c =
    let all = g.S.Arguments.all c.args.system.now in
    no_text (vec_items {X = ℕ} {Z = Global}) all c.loop-place.place c.in-Some.bytes
    (λ utf8. not_ok c.from_utf8.result c.in_default-from_utf8.not-Ok (c.from_utf8.ensures.succeeds utf8))
    (found_there (vec_items {X = ℕ} {Z = Global}) all c.loop-place.place c.argument.result (Some c.in-Some.bytes)
    (c.in-Ok-argument.is ∙ ap Ok c.in-Some.is) c.argument.ensures)
