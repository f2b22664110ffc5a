use Rattle.std.proofs.Common.{◌≡◌, ◌<◌, Some, sym, ap, ◌∙◌, subst, arith}
use Rattle.geometry.specs.{Geometry.numbers_of, Geometry.blocks_of, Geometry.pages_of, Geometry.words_of, declared.words.MapWord.MapWord}
use Rattle.flash_rule.specs.Plays.{next_page}
use Rattle.flash_table.specs.{Owning.owned_of, declared.pass.OpenBlock.OpenBlock, Flash.view_of, Flash.opened_of, Flash.geometry_of}
use Rattle.flash_table.proofs.PassResults.{same_block, starts_same}
use Rattle.host.specs.Filling.{Filled}
use Rattle.host.proofs.WritingSteps.{Filling, filling_none, filling_can, filling_more, word_is, filled_can, filled, put_work}
use Rattle.host.proofs.writing.fill.Goals.{In-Some, After-loop-i}
use Rattle.host.proofs.writing.fill.Goals as goal

opened : (c : In-Some) → opened_of c.args.pass.now ≡ Some c.in-Some.opened
opened c = sym c.opened.ensures ∙ c.in-Some.is

-- the open block has a page left
room : (c : In-Some) → (c.in-Some.opened.block < blocks_of (geometry_of c.args.flash.now))
    × (c.in-Some.opened.written < pages_of (geometry_of c.args.flash.now))
room c =
    let f = c.args.flash.now in
    let t = c.requires.room in
    let P : OpenBlock → Type 0 = λ x. (x.block < blocks_of (geometry_of f)) × (x.written < pages_of (geometry_of f)) in
    subst P (same_block t.1 (opened c)) (t.2, t.3)

pub loop-i-init : goal.loop-i-init
loop-i-init c o is = filling_none c.args.flash.now c.args.pass.now o c.args.bytes.now c.requires.pass is c.requires.settled

pub loop-i-preserved : goal.loop-i-preserved
loop-i-preserved c o is =
    let h = c.loop-i.invariant o is in
    filling_more c.args.flash.now (view_of c.args.pass.now) o c.args.bytes.now c.loop-i.i _ c.loop-i.pass c.put_word.new.pass h
    c.put_word.ensures.pass c.put_word.ensures.opened
    (c.put_word.ensures.put o h.opened) (omega (arith, c.word_at.ensures, word_is c.args.bytes.now c.loop-i.i))

pub put_word-requires-clause-pass : goal.put_word-requires-clause-pass
put_word-requires-clause-pass c = (c.loop-i.invariant c.in-Some.opened (opened (goal.at.put_word-requires-clause-pass c).In-Some)).pass

pub put_word-requires-clause-next : goal.put_word-requires-clause-next
put_word-requires-clause-next c =
    let f = c.args.flash.now in
    let o = c.in-Some.opened in
    let here = (goal.at.put_word-requires-clause-next c).In-Some in
    let h = c.loop-i.invariant o (opened here) in
    let left = room here in
    let words : c.words-words.result ≡ words_of (geometry_of f) = c.words-words.ensures.value ∙ ap words_of c.geometry.ensures in
    let below = c.loop-i-test.true in
    (o, h.opened, filling_can f (view_of c.args.pass.now) o c.args.bytes.now c.loop-i.i c.loop-i.pass h left.1 (omega arith), sym h.long, left.0)

pub put_word-requires-clause-start : goal.put_word-requires-clause-start
put_word-requires-clause-start c o is =
    let h = c.loop-i.invariant c.in-Some.opened (opened (goal.at.put_word-requires-clause-start c).In-Some) in
    starts_same (numbers_of (geometry_of c.args.flash.now)) c.page_start-start.result c.page_start-start.ensures h.opened is

-- all words of the value stand in the page
full : (c : After-loop-i) (o : OpenBlock) → opened_of c.args.pass.now ≡ Some o
    → Filling c.args.flash.now (view_of c.args.pass.now) o c.args.bytes.now (words_of (geometry_of c.args.flash.now)) c.loop-i.pass
full c o is =
    let f = c.args.flash.now in
    let words : c.words-words.result ≡ words_of (geometry_of f) = c.words-words.ensures.value ∙ ap words_of c.geometry.ensures in
    let most = c.loop-i.auto.i-end in
    let least = c.loop-i-test.false in
    let all : c.loop-i.i ≡ words_of (geometry_of f) = omega arith in
    subst (λ k. Filling f (view_of c.args.pass.now) o c.args.bytes.now k c.loop-i.pass) all (c.loop-i.invariant o is)

pub put_word-requires-2-clause-pass : goal.put_word-requires-2-clause-pass
put_word-requires-2-clause-pass c = (c.loop-i.invariant c.in-Some.opened (opened (goal.at.put_word-requires-2-clause-pass c).In-Some)).pass

pub put_word-requires-2-clause-next : goal.put_word-requires-2-clause-next
put_word-requires-2-clause-next c =
    let f = c.args.flash.now in
    let o = c.in-Some.opened in
    let here = (goal.at.put_word-requires-2-clause-next c).In-Some in
    let h = full (goal.at.put_word-requires-2-clause-next c).After-loop-i o (opened here) in
    let left = room here in
    let words : c.words-words.result ≡ words_of (geometry_of f) = c.words-words.ensures.value ∙ ap words_of c.geometry.ensures in (
      o,
      h.opened,
      filling_can f (view_of c.args.pass.now) o c.args.bytes.now (words_of (geometry_of f)) c.loop-i.pass h left.1 (omega arith),
      words ∙ sym h.long,
      left.0,
    )

pub put_word-requires-2-clause-start : goal.put_word-requires-2-clause-start
put_word-requires-2-clause-start c o is =
    let h = c.loop-i.invariant c.in-Some.opened (opened (goal.at.put_word-requires-2-clause-start c).In-Some) in
    starts_same (numbers_of (geometry_of c.args.flash.now)) c.page_start-start.result c.page_start-start.ensures h.opened is

pub count-requires-clause-filled : goal.count-requires-clause-filled
count-requires-clause-filled c =
    let f = c.args.flash.now in
    let here = (goal.at.count-requires-clause-filled c).In-Some in
    let o = c.in-Some.opened in
    let h = full (goal.at.count-requires-clause-filled c).After-loop-i o (opened here) in
    let told = c.put_word-2.ensures.put o h.opened in
    let left = room here in (
      o,
      put_work o c.loop-i.pass c.args.sector,
      c.put_word-2.ensures.opened ∙ h.opened,
      filled_can f (view_of c.args.pass.now) o c.args.bytes.now c.args.sector c.loop-i.pass c.put_word-2.new.pass h told c.put_word-2.ensures.opened,
      left.1,
      left.0,
    )

pub returns-clause-filled : goal.returns-clause-filled
returns-clause-filled c o is =
    let f = c.args.flash.now in
    let p = c.in-Some.opened in
    let here = opened (goal.at.returns-clause-filled c).In-Some in
    let h = full (goal.at.returns-clause-filled c).After-loop-i p here in
    let told = c.put_word-2.ensures.put p h.opened in
    let can = filled_can f (view_of c.args.pass.now) p c.args.bytes.now c.args.sector c.loop-i.pass c.put_word-2.new.pass h told c.put_word-2.ensures.opened in
    let counted = c.count.ensures.counted p (put_work p c.loop-i.pass c.args.sector) (c.put_word-2.ensures.opened ∙ h.opened) can in
    let done = filled f (view_of c.args.pass.now) p c.args.bytes.now c.args.sector c.loop-i.pass c.put_word-2.new.pass h told
    (view_of c.count.new.pass) counted c.requires.page c.type_inv.bytes in
    let same = same_block here is in
    let page : OpenBlock → MapWord = λ x. next_page (owned_of x) in
    let P : OpenBlock → Type 0 = λ x. Filled (view_of c.args.pass.now) x c.args.sector c.args.bytes.now (page p) (view_of c.count.new.pass) in subst P same done

pub returns-clause-opened : goal.returns-clause-opened
returns-clause-opened c o is =
    let h = full (goal.at.returns-clause-opened c).After-loop-i o is in c.count.ensures.opened o (c.put_word-2.ensures.opened ∙ h.opened)
