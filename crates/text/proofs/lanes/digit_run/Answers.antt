use Rattle.std.proofs.Common.{ℕ, bit_and, leb, cond, refl}
use Rattle.std.proofs.lemmas.Simd.{length-chunk, splat_is_map, zip2_of_maps, zip2_splat}
use lib.Lanes.{chunk}
use Rattle.text.proofs.Chunks.{digit_run_is}
use Rattle.text.proofs.lanes.digit_run.Goals as goal

pub returns : goal.returns
returns c =
    let v = chunk c.args.at 16 c.args.text.now in
    let long = length-chunk c.args.at 16 c.args.text.now c.requires in
    digit_run_is c.args.text.now c.args.at _ _ c.requires c.type_inv.text c.first_set.ensures _
    (zip2_of_maps bit_and _ _ v (zip2_of_maps (λ a b. cond (leb a b) 255 0) _ _ v (splat_is_map v 16 10 long) (zip2_splat {Y = ℕ} _ v 16 48 long))
    (zip2_of_maps (λ a b. cond (leb a b) 255 0) _ _ v (splat_is_map v 16 6 long)
    (zip2_of_maps _ _ _ v (zip2_splat {Y = ℕ} _ v 16 32 long) (splat_is_map v 16 97 long)))) refl
