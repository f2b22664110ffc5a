use Rattle.std.proofs.Common.{◌≡◌, ◌+◌, ℕ, List, get_or, set, sym, subst, arith}
use Rattle.std.proofs.lemmas.List.{get_or_read}
use Rattle.packed_map.specs.Groups.{AreGrouped}
use Rattle.packed_map.proofs.Groups.{opened, place_left, resized}
use Rattle.packed_map.proofs.words.own_place.Goals as goal

pub overflow_add-used : goal.overflow_add-used
overflow_add-used c =
    let places = c.args.places.now.items in
    let none : get_or places c.args.group 0 ≡ 0 =
    omega (arith, c.if-index-ne0.false, get_or_read places c.args.group c.index.result.now c.requires.group c.index.ensures 0) in
    omega (arith, place_left places c.args.group c.requires.group none, c.requires.kept.counted, c.requires.few)

pub returns-clause-kept : goal.returns-clause-kept
returns-clause-kept c =
    let places = c.args.places.now.items in
    let kept = c.args.kept.now.items in
    let none : get_or places c.args.group 0 ≡ 0 =
    omega (arith, c.if-index-ne0.false, get_or_read places c.args.group c.index.result.now c.requires.group c.index.ensures 0) in
    let left = place_left places c.args.group c.requires.group none in
    let more = resized c.resize.result kept c.resize.new.self.items _ c.args.kept.now.len c.resize.ensures.items
    (c.resize.ensures.succeeds (omega (arith, left, c.requires.kept.counted, c.requires.kept.size, c.requires.room, c.len.ensures, c.args.kept.now.ok)))
    (omega (arith, c.args.kept.now.ok)) (omega (arith, c.len.ensures)) in
    subst (λ (ks : List ℕ). AreGrouped (set places c.args.group c.args.used.now) ks (c.args.used.now + 1)) (sym more)
    (opened places kept c.args.used.now c.args.group c.requires.kept c.requires.group none)
