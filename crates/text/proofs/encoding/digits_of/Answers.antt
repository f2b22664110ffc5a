use Rattle.std.proofs.{Common.w8, Common.refl, Common.arith, lemmas.Simd.SwzOk-from_below}
use Rattle.text.proofs.Encodings.{picked}
use Rattle.text.proofs.encoding.digits_of.Goals as goal

pub swizzle : goal.swizzle
swizzle c = SwzOk-from_below w8 16 1 16 0 c.args.values refl (omega (arith, c.fits-values.0)) c.requires

pub returns : goal.returns
returns c = picked 0 c.args.values (omega (arith, c.fits-values.0)) c.requires
