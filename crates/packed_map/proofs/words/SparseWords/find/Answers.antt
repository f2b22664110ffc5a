use Rattle.std.proofs.Common.{◌≡◌, ◌<◌, ◌+◌, ◌*◌, ◌/◌, ◌%◌, ◌-◌, ℕ, List, length, get_or, ◌∙◌, ap, arith}
use Rattle.std.proofs.lemmas.List.{get_or_read}
use Rattle.packed_map.proofs.Groups.{kept_within, kept_beside}
use Rattle.packed_map.proofs.Searches.{found_last, found_before}
use Rattle.packed_map.specs.Groups.{number_at}
use Rattle.packed_map.proofs.Parts.{length_values}
use Rattle.packed_map.proofs.words.SparseWords.find.Goals as goal
use Rattle.packed_map.proofs.words.SparseWords.find.Goals.{then-from, else-from}

pub index-requires : goal.index-requires
index-requires c =
    let n = c.self.inside in
    omega (arith, c.requires.within, ap length c.self.view_is, length_values (number_at n.places.items n.kept.items) n.len, c.self.invariant.all, n.places.ok)

pub index-requires-in-loop-i : goal.index-requires-in-loop-i
index-requires-in-loop-i c =
    let n = c.self.inside in
    let size = length_values (number_at n.places.items n.kept.items) n.len in
    let below : c.args.first / 256 < length n.places.items = omega (arith, c.requires.within, ap length c.self.view_is, size, c.self.invariant.all) in
    let place = get_or_read n.places.items (c.args.first / 256) c.index.result.now below c.index.ensures 0 in
    omega (arith, kept_within n.places.items n.kept.items n.used c.args.first c.self.invariant.kept below, place, n.kept.ok)

pub loop-i-preserved : goal.loop-i-preserved
loop-i-preserved c =
    let n = c.self.inside in
    let self = c.args.self.now in
    let i = c.loop-i.i in
    let size = length_values (number_at n.places.items n.kept.items) n.len in
    let within : i < n.len = omega (arith, c.loop-i-test.true, c.requires.within, ap length c.self.view_is, size) in
    let below : c.args.first / 256 < length n.places.items = omega (arith, c.loop-i.auto.i, within, c.self.invariant.all) in
    let place = get_or_read n.places.items (c.args.first / 256) c.index.result.now below c.index.ensures 0 in
    let at = c.index.result.now * 256 + c.args.first % 256 + (i - c.args.first) in
    let room = kept_within n.places.items n.kept.items n.used c.args.first c.self.invariant.kept below in
    let group : i < c.args.first / 256 * 256 + 256 = omega (arith, c.loop-i-test.true, c.requires.group) in
    let kept : at < length n.kept.items = omega (arith, room, place, c.loop-i.auto.i, group) in
    let is : c.index-in-loop-i.result.now ≡ get_or self i 0 = get_or_read n.kept.items at c.index-in-loop-i.result.now kept c.index-in-loop-i.ensures 0
    ∙ kept_beside n.places.items n.kept.items n.len c.args.first i c.index.result.now c.loop-i.auto.i group within place
    ∙ ap (λ (xs : List ℕ). get_or xs i 0) c.self.view_is in
    let Holds : ℕ → Type 0 = λ j. get_or self j 0 % 4294967296 ≡ c.args.number in
    elim c.if-from.branch [
      | then-from w ↦ rw w.found-is
          (found_last Holds c.args.first i c.loop-i.auto.i (omega (arith, is, c.from.ensures, c.from-in-loop-i.ensures, w.if-from.true)))
      | else-from w ↦ rw w.found-is (found_before Holds c.args.first i c.loop-i.found c.loop-i.invariant
          (λ e. w.if-from.false (omega (arith, is, c.from.ensures, c.from-in-loop-i.ensures, e))))
    ]
