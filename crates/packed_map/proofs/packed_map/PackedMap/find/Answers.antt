use Rattle.std.proofs.Common.{◌≡◌, ◌<◌, ℕ, None, Some, length, get_or, sym, ◌∙◌, ap, arith}
use Rattle.std.proofs.lemmas.List.{get_or-map, length-map}
use Rattle.packed_map.specs.Entries.{Entries, entry_of}
use Rattle.packed_map.proofs.Entries.{bits_of_page}
use Rattle.packed_map.proofs.Searches.{found_same}
use Rattle.packed_map.proofs.packed_map.PackedMap.find.Goals as goal

pub returns : goal.returns
returns c =
    let items = c.self.inside.entries in
    let bits = c.pack.result in
    let size : length items ≡ length c.args.self.now.items = sym (length-map items entry_of) ∙ ap (λ (e : Entries). length e.items) c.self.view_is in
    let entry : (i : ℕ) → i < c.args.end → get_or c.args.self.now.items i None ≡ entry_of (get_or items i 0) = λ i lt.
    ap (λ (e : Entries). get_or e.items i None) (sym c.self.view_is) ∙ get_or-map entry_of items i 0 None (omega (arith, lt, c.requires.within, size)) in
    found_same (λ i. get_or items i 0 ≡ bits) (λ i. get_or c.args.self.now.items i None ≡ Some c.args.at) c.args.first c.args.end c.find.result
    (λ i le lt is. entry i lt ∙ ap entry_of is ∙ c.pack.ensures)
    (λ i le lt is. omega (arith, bits_of_page (get_or items i 0) c.args.at (sym (entry i lt) ∙ is), bits_of_page bits c.args.at c.pack.ensures))
    c.find.ensures
