use Rattle.text.proofs.Chunks.{block_is}
use Rattle.text.proofs.lanes.decode_block.Goals as goal

pub returns : goal.returns
returns c =
    let digits = c.requires.digits in
    block_is c.args.text.now c.args.at c.requires.room _ _ c.values-front.ensures c.values-back.ensures c.type_inv.text digits.0 digits.1
