use Rattle.std.proofs.{Common.refl, lemmas.Simd.length-chunk, lemmas.Simd.zip2_of_maps, lemmas.Simd.zip2_splat}
use lib.Lanes.{chunk}
use Rattle.text.proofs.Chunks.{run_is}
use Rattle.text.proofs.lanes.field_run.Goals as goal

pub returns : goal.returns
returns c =
    let v = chunk c.args.at 16 c.args.text.now in
    let long = length-chunk c.args.at 16 c.args.text.now c.requires in
    run_is c.args.text.now c.args.at _ _ c.requires c.type_inv.text c.first_set.ensures _
    (zip2_of_maps _ _ _ v (zip2_of_maps _ _ _ v (zip2_splat _ v 16 13 long) (zip2_splat _ v 16 10 long)) (zip2_splat _ v 16 44 long)) refl
