use Rattle.std.proofs.Common.{◌≡◌, ℕ, Option, Some, IfSome, sym, ap, ◌∙◌, subst, arith, get_or}
use Rattle.std.proofs.lemmas.{Grind.common_steps, List.get_or_default}
use Rattle.geometry.specs.{Geometry.pages_of, Limits.Numbers}
use Rattle.geometry.proofs.Choosing.{greedy_of-closed}
use Rattle.broom.specs.{Ready.view_of_broom, Told.next_of, Told.counts_kept}
use Rattle.broom.proofs.{Choosing.next_low, survey.gains.Goals.In-Some}
use Rattle.broom.proofs.survey.gains.Goals as goal

next_is : (c : In-Some) → Some c.in-Some.victim ≡ next_of c.args.broom.now
next_is c = sym c.in-Some.is ∙ c.requires.next

pub index-requires : goal.index-requires
index-requires c =
    let low = next_low c.args.flash.now c.args.broom.now c.in-Some.victim c.requires.ready (next_is (goal.at.index-requires c).In-Some) in
    let long = c.requires.ready.counts in
    let ok = c.args.broom.now.counts.ok.0 in omega arith

pub returns-then-index-pages-clause-next : goal.returns-then-index-pages-clause-next
returns-then-index-pages-clause-next c =
    let b = c.args.broom.now in
    let h = c.requires.ready in
    let is = next_is (goal.at.returns-then-index-pages-clause-next c).In-Some in
    let low = next_low c.args.flash.now b c.in-Some.victim h is in
    let count : get_or b.counts.items c.in-Some.victim 0 ≡ c.index.result.now =
    get_or_default b.counts.items c.in-Some.victim 0 c.index.result.now (let long = h.counts in omega arith) ∙ sym c.index.ensures in
    let pages : c.pages-pages.result ≡ (view_of_broom b).numbers.pages =
    c.pages-pages.ensures.value ∙ (ap pages_of c.geometry.ensures ∙ ap (λ (z : Numbers). z.pages) (sym h.rested.seat.numbers)) in
    let P : Option ℕ → Type 0 = λ o. IfSome o (λ block. get_or (counts_kept b) block 0 ≡ (view_of_broom b).numbers.pages) in
    let full = c.if-index-pages.true in
    let live : get_or b.counts.items c.in-Some.victim 0 ≡ (view_of_broom b).numbers.pages = omega arith in
    subst P is live

pub overflow_cast-result : goal.overflow_cast-result
overflow_cast-result c =
    let low = next_low c.args.flash.now c.args.broom.now c.in-Some.victim c.requires.ready (next_is (goal.at.overflow_cast-result c).In-Some) in
    grind (arith, common_steps, low)

pub returns-clause-marked : goal.returns-clause-marked
returns-clause-marked c =
    let b = c.args.broom.now in
    let h = c.requires.ready in
    greedy_of-closed b.counts.items b.closed.items (h.counts ∙ sym h.closed) c.in-Some.victim (sym (next_is (goal.at.returns-clause-marked c).In-Some))
