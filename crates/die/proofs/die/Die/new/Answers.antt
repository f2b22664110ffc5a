use Rattle.std.{specs.List.range_with_len, proofs.lemmas.List.get_or-replicate}
use Rattle.std.proofs.Common.{◌≡◌, ◌∙◌, ◌+◌, ◌*◌, List, get_or, map, replicate, refl, ap, arith, rules}
use Rattle.geometry.specs.Geometry.{pages_of, page_bytes_of}
use Rattle.die.specs.{declared.die.BlockState.BlockState, Die.block_of, Pages.Block, Storage.unused, Storage.stored, Storage.block_in}
use Rattle.die.proofs.die.Die.new.Goals as goal

pub returns : goal.returns
unfolding block_of block_in
returns c = record {
  geometry = refl;
  blocks = λ b low.
      let g = c.args.geometry.now in
      let states = c.in_ok-vec-3.field-0.items in
      let fresh : states ≡ replicate c.blocks-blocks.result unused = c.in_ok-vec-3.ensures.items_if_clones_equal (λ y h. search rules) in
      let state : get_or states b unused ≡ unused =
      ap (λ (xs : List BlockState). get_or xs b unused) fresh
      ∙ get_or-replicate c.blocks-blocks.result b unused unused (omega (arith, c.blocks-blocks.ensures.value)) in
      let by : BlockState → Block = λ t. record {
        pages = map (λ p. stored (page_bytes_of g) c.in_ok-vec.field-0.items c.in_ok-vec-2.field-0.items (b * pages_of g + p)) (range_with_len 0 t.next);
        erases = t.erases;
        retired = t.retired;
      } in
      ap by state;
  copybacks = refl;
}
