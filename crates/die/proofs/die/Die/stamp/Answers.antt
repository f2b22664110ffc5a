use Rattle.std.proofs.{Common.◌∙◌, Common.ℕ, Common.get_or, Common.ap, Common.sym, Common.arith, lemmas.List.get_or_read}
use Rattle.die.{specs.Pages.Page, specs.Storage.stored, proofs.Dies.pages_within, proofs.Dies.page-stored}
use Rattle.die.proofs.die.Die.stamp.Goals as goal

pub place_of-requires-clause-page : goal.place_of-requires-clause-page
place_of-requires-clause-page c = omega (arith, c.requires.programmed, pages_within c.args.self.now c.args.at.block c.requires.usable.within)

pub returns : goal.returns
unfolding stored
returns c =
    let d = c.args.self.now in
    c.from.ensures ∙ (get_or_read d.stamps.items c.place_of.result c.index.result.now
    (omega (arith, c.place_of.ensures.within, d.stamps_sized)) c.index.ensures 0
    ∙ (ap (λ (k : ℕ). get_or d.stamps.items k 0) c.place_of.ensures.value
    ∙ ap (λ (p : Page). p.stamp) (sym (page-stored d c.args.at.block c.args.at.page c.requires.programmed))))
