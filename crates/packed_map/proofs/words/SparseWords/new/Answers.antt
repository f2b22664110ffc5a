use Rattle.std.proofs.Common.{◌+◌, ◌-◌, ◌/◌, ◌++◌, ℕ, List, length, take, replicate, sym, ◌∙◌, ap, ap₂, subst, arith}
use Rattle.std.proofs.lemmas.List.{length-replicate}
use Rattle.packed_map.specs.Groups.{number_at, AreGrouped}
use Rattle.packed_map.proofs.Groups.{first_kept, first_numbers}
use Rattle.packed_map.specs.Parts.{values_of}
use Rattle.packed_map.proofs.words.SparseWords.new.Goals as goal

pub invariant_of-result : goal.invariant_of-result
invariant_of-result c =
    let groups = c.args.len / 256 + 1 in
    let places = c.in_ok-vec.ensures.items_if_clones_equal (λ y h. h) in
    let zeros = c.in_ok-resize.ensures.items
    ∙ ap₂ (λ (xs : List ℕ) (n : ℕ). take 256 xs ++ replicate (256 - n) 0) c.in_ok-kept.ensures.items c.in_ok-kept.ensures.len in
    let size = ap length places ∙ length-replicate {A = ℕ} groups 0 in record {
      kept = subst (λ (ps : List ℕ). AreGrouped ps c.resize.new.self.items 1) (sym places)
          (subst (λ (ks : List ℕ). AreGrouped (replicate {A = ℕ} groups 0) ks 1) (sym zeros) (first_kept groups));
      all = omega (arith, size);
      few = omega (arith, size, c.ranges.len.fits);
      room = omega (arith, size, c.resize.ensures.capacity, c.in_ok-kept.ensures.exact);
    }

pub returns : goal.returns
returns c =
    let groups = c.args.len / 256 + 1 in
    let places = c.in_ok-vec.ensures.items_if_clones_equal (λ y h. h) in
    let zeros = c.in_ok-resize.ensures.items
    ∙ ap₂ (λ (xs : List ℕ) (n : ℕ). take 256 xs ++ replicate (256 - n) 0) c.in_ok-kept.ensures.items c.in_ok-kept.ensures.len in
    ap₂ (λ (ps : List ℕ) (ks : List ℕ). values_of (number_at ps ks) c.args.len) places zeros ∙ first_numbers groups c.args.len
