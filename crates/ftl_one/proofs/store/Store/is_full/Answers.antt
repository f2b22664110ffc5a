use Rattle.std.proofs.Common.{◌∙◌, ℕ, eqb, length, ap, sym}
use Rattle.geometry.specs.Geometry.{pages_of}
use Rattle.ftl_one.{specs.Store.entries_of, proofs.Stores.length-entries_of}
use Rattle.ftl_one.proofs.store.Store.is_full.Goals as goal

pub returns : goal.returns
returns c =
    let s = c.args.self.now in
    ap (λ (k : ℕ). eqb k c.pages.result) (c.next.ensures.value ∙ sym (length-entries_of s c.args.block))
    ∙ ap (λ (k : ℕ). eqb (length (entries_of s c.args.block)) k) (c.pages.ensures.value ∙ ap pages_of c.geometry.ensures)
