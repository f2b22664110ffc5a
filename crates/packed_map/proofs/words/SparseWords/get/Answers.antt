use Rattle.std.proofs.Common.{◌<◌, ◌+◌, ◌*◌, ◌/◌, ◌%◌, ℕ, List, length, get_or, sym, ◌∙◌, ap, arith}
use Rattle.std.proofs.lemmas.List.{get_or_read}
use Rattle.packed_map.proofs.Groups.{numbers_unused, kept_within}
use Rattle.packed_map.specs.Groups.{number_at}
use Rattle.packed_map.proofs.Parts.{length_values, values_get}
use Rattle.packed_map.proofs.words.SparseWords.get.Goals as goal

pub returns-then-self-eq1 : goal.returns-then-self-eq1
returns-then-self-eq1 c =
    let n = c.self.inside in
    let size = length_values (number_at n.places.items n.kept.items) n.len in
    let within : c.args.index < n.len = omega (arith, c.requires, ap length c.self.view_is, size) in
    sym (ap (λ (xs : List ℕ). get_or xs c.args.index 0) (sym c.self.view_is)
    ∙ numbers_unused n.places.items n.kept.items n.used n.len c.args.index c.self.invariant.kept (omega (arith, c.if-self-eq1.true)) within
    c.self.invariant.all)

pub index-requires : goal.index-requires
index-requires c =
    let n = c.self.inside in
    omega (arith, c.requires, ap length c.self.view_is, length_values (number_at n.places.items n.kept.items) n.len, c.self.invariant.all, n.places.ok)

pub index-requires-2 : goal.index-requires-2
index-requires-2 c =
    let n = c.self.inside in
    let size = length_values (number_at n.places.items n.kept.items) n.len in
    let below : c.args.index / 256 < length n.places.items = omega (arith, c.requires, ap length c.self.view_is, size, c.self.invariant.all) in
    let place = get_or_read n.places.items (c.args.index / 256) c.index.result.now below c.index.ensures 0 in
    omega (arith, kept_within n.places.items n.kept.items n.used c.args.index c.self.invariant.kept below, place, n.kept.ok)

pub returns : goal.returns
returns c =
    let n = c.self.inside in
    let size = length_values (number_at n.places.items n.kept.items) n.len in
    let within : c.args.index < n.len = omega (arith, c.requires, ap length c.self.view_is, size) in
    let below : c.args.index / 256 < length n.places.items = omega (arith, within, c.self.invariant.all) in
    let place = get_or_read n.places.items (c.args.index / 256) c.index.result.now below c.index.ensures 0 in
    let kept = kept_within n.places.items n.kept.items n.used c.args.index c.self.invariant.kept below in
    let there : c.index.result.now * 256 + c.args.index % 256 < length n.kept.items = omega (arith, kept, place) in
    get_or_read n.kept.items (c.index.result.now * 256 + c.args.index % 256) c.index-2.result.now there c.index-2.ensures 0
    ∙ ap (λ (p : ℕ). get_or n.kept.items (p * 256 + c.args.index % 256) 0) place
    ∙ sym (values_get (number_at n.places.items n.kept.items) n.len c.args.index within)
    ∙ ap (λ (xs : List ℕ). get_or xs c.args.index 0) c.self.view_is
