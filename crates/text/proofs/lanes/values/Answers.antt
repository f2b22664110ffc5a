use Rattle.text.proofs.Chunks.{values_are}
use Rattle.text.proofs.lanes.values.Goals as goal

pub returns : goal.returns
returns c = values_are c.args.digits c.fits-digits.0
