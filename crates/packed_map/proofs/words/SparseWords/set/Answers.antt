use Rattle.std.proofs.Common.{◌≡◌, ◌<◌, ◌+◌, ◌*◌, ◌/◌, ◌%◌, ℕ, List, length, get_or, set, ◌∙◌, ap, arith}
use Rattle.std.proofs.lemmas.List.{get_or_read}
use Rattle.packed_map.proofs.Groups.{stored_here, stored_other}
use Rattle.packed_map.specs.Groups.{number_at}
use Rattle.packed_map.specs.Parts.{values_of}
use Rattle.packed_map.proofs.Parts.{length_values, values_changed}
use Rattle.packed_map.proofs.words.SparseWords.set.Goals as goal

pub own_place-requires-clause-group : goal.own_place-requires-clause-group
own_place-requires-clause-group c =
    let n = c.self-2.inside in
    omega (arith, c.requires, ap length c.self-2.view_is, length_values (number_at n.places.items n.kept.items) n.len, c.self-2.invariant.all)

pub returns : goal.returns
returns c =
    let n = c.self-2.inside in
    let places = c.own_place.new.places.items in
    let kept = c.own_place.new.kept.items in
    let i = c.args.index in
    let was = c.own_place.ensures.kept in
    let within : i < n.len = omega (arith, c.requires, ap length c.self-2.view_is, length_values (number_at n.places.items n.kept.items) n.len) in
    let old_below : (k : ℕ) → k < n.len → k / 256 < length n.places.items = λ k lt. omega (arith, lt, c.self-2.invariant.all) in
    let below : (k : ℕ) → k < n.len → k / 256 < length places = λ k lt. omega (arith, old_below k lt, c.own_place.ensures.size) in
    let place = get_or_read places (i / 256) c.index.result.now (below i within) c.index.ensures 0 in
    let at : c.index.result.now * 256 + i % 256 ≡ get_or places (i / 256) 0 * 256 + i % 256 = omega (arith, place) in
    ap (λ (a : ℕ). values_of (number_at places (set kept a c.args.number)) n.len) at
    ∙ values_changed (number_at n.places.items n.kept.items)
    (number_at places (set kept (get_or places (i / 256) 0 * 256 + i % 256) c.args.number)) n.len i c.args.number within
    (stored_here places kept c.own_place.new.used i c.args.number was (below i within))
    (λ k lt differs. stored_other places kept c.own_place.new.used i c.args.number k was c.own_place.ensures.own (below i within) (below k lt) differs
    ∙ c.own_place.ensures.same k (old_below k lt))
    ∙ ap (λ (xs : List ℕ). set xs i c.args.number) c.self-2.view_is
