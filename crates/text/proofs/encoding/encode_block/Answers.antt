use Rattle.text.proofs.Encodings.{high_are, low_are, woven_is}
use Rattle.text.proofs.encoding.encode_block.Goals as goal

pub digits_of-high-requires : goal.digits_of-high-requires
digits_of-high-requires c = high_are c.args.bytes c.fits-bytes.1

pub digits_of-low-requires : goal.digits_of-low-requires
digits_of-low-requires c = low_are c.args.bytes

pub returns-clause-digits : goal.returns-clause-digits
returns-clause-digits c = woven_is c.args.bytes _ _ c.fits-bytes.0 c.digits_of-high.ensures c.digits_of-low.ensures
