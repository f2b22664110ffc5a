use Rattle.std.proofs.Common.{◌≡◌, ◌+◌, ◌*◌, length, sym, refl, subst, arith, List, ℕ, take, ◌-◌}
use Rattle.std.proofs.{Math.Seq.paste, lemmas.Slice.put_mid-paste, lemmas.List.take_all}
use Rattle.die.{proofs.Blocks.PutsSlot-paste, specs.Storage.PutsSlot}
use Rattle.die.proofs.slots.put_page.Goals as goal

pub returns : goal.returns
returns c =
    let page = c.args.page.now in
    let n = length page in
    let bytes = c.args.bytes.now in
    let h = PutsSlot-paste n bytes c.args.place page c.requires (omega arith) in
    let same : take n page ≡ page = take_all n page (omega arith) in
    let written = put_mid-paste (c.args.place * n) (c.args.place * n + n - c.args.place * n) bytes c.copy_from_slice.new.self page n
    c.copy_from_slice.ensures.after (omega arith) refl in
    let by_page = subst (λ (p : List ℕ). PutsSlot n bytes (paste bytes (c.args.place * n) page n) c.args.place p) same h in
    subst (λ (new : List ℕ). PutsSlot n bytes new c.args.place page) (sym written) by_page
