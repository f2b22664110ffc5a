use Rattle.std.proofs.Common.{◌≡◌, ◌∙◌, ap, sym, arith, rules, subst}
use mathlib.Core.Logic.{dite}
use native.Mathlib.Decide.{ℕ_discrete}
use Rattle.geometry.specs.{Geometry.words_of, Words.word_of}
use Rattle.flash_rule.specs.{declared.view.View.View, declared.facts.Pin.TheVariants.Accepted, World.data_word, Plays.Spared}
use Rattle.flash_table.specs.Flash.{geometry_of, view_of}
use Rattle.host.proofs.ReadingSearch.{pinned_same, value_read}
use Rattle.host.proofs.searching.read_page.Goals as goal

pub returns-clause-value : goal.returns-clause-value
returns-clause-value c value h =
    let f = c.args.flash.now in
    let inv = c.loop-i.invariant in
    let words : c.words-i-end.result ≡ words_of (geometry_of f) = c.words-i-end.ensures.value ∙ ap words_of c.geometry.ensures in (
      value_read f c.args.pass.now c.args.page value c.loop-i.out h (omega arith) inv.bytes (λ k low. inv.words value h k (omega arith)),
      pinned_same f c.args.pass.now c.loop-i.pass c.args.page value h inv.pass inv.same inv.opened,
    )

pub loop-i-preserved : goal.loop-i-preserved
loop-i-preserved c =
    let inv = c.loop-i.invariant in
    record {
      pass = search rules;
      same = search rules;
      opened = search rules;
      bytes = search rules;
      words = λ value h k low.
          let e : (view_of c.loop-i.pass).pin ≡ Accepted c.args.page value = ap (λ (v : View). v.pin) inv.same ∙ h.pinned in
          dite (ℕ_discrete k c.loop-i.i)
          (λ last. ap (word_of c.put_word.new.page) last
          ∙ (c.put_word.ensures.word ∙ (c.get_word-word.ensures.value value e ∙ ap (data_word value) (sym last))))
          (λ earlier. let long = c.loop-i.auto.out in
          let end : c.words-i-end.result ≡ words_of (geometry_of c.args.flash.now) = c.words-i-end.ensures.value ∙ ap words_of c.geometry.ensures in
          let room = c.requires.out in
          let below = c.loop-i-test.true in c.put_word.ensures.others k earlier (omega arith) ∙ inv.words value h k (omega arith));
      spared = λ _ value copy h is.
          subst (λ (v : View). Spared v c.args.page copy) inv.same
          (c.get_word-word.ensures.spared value copy (ap (λ (v : View). v.pin) inv.same ∙ h.pinned) (ap (λ (v : View). v.copy) inv.same ∙ is));
    }

pub returns-clause-spared : goal.returns-clause-spared
returns-clause-spared c =
    let f = c.args.flash.now in
    let words : c.words-i-end.result ≡ words_of (geometry_of f) = c.words-i-end.ensures.value ∙ ap words_of c.geometry.ensures in
    let some = (geometry_of f).in_limits.words_low in c.loop-i.invariant.spared (omega arith)
