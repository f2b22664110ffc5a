use Rattle.std.proofs.Common.{◌∙◌, ℕ, List, ap, sym, arith}
use Rattle.geometry.specs.Geometry.{page_bytes_of}
use Rattle.die.{specs.Pages.Page, specs.Storage.slot, specs.Storage.stored, proofs.Dies.pages_within, proofs.Dies.page-stored}
use Rattle.die.proofs.die.Die.page.Goals as goal

pub place_of-requires-clause-page : goal.place_of-requires-clause-page
place_of-requires-clause-page c = omega (arith, c.requires.programmed, pages_within c.args.self.now c.args.at.block c.requires.usable.within)

pub returns-clause-value : goal.returns-clause-value
unfolding stored
returns-clause-value c =
    let d = c.args.self.now in
    c.lend_page.ensures.value
    ∙ (ap (λ (n : ℕ). slot n c.deref.result.now c.place_of.result) c.page_bytes.ensures
    ∙ (ap (λ (xs : List ℕ). slot (page_bytes_of d.geometry) xs c.place_of.result) c.deref.ensures.value
    ∙ (ap (λ (k : ℕ). slot (page_bytes_of d.geometry) d.bytes.items k) c.place_of.ensures.value
    ∙ ap (λ (p : Page). p.value) (sym (page-stored d c.args.at.block c.args.at.page c.requires.programmed)))))
