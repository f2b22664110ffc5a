use Rattle.std.proofs.{Common.◌+◌, Common.◌≤◌, Common.length, Common.ap, Common.◌∙◌, Common.arith, Common.refl, lemmas.List.take_rest}
use Rattle.std.proofs.lemmas.Simd.{length-put_chunk}
use Rattle.hex.specs.Hex.{encode_lower, encode_with}
use Rattle.text.proofs.Encodings.{block_written, rest_written}
use Rattle.text.proofs.encoding.encode.Goals as goal

pub blocks-2-init : goal.blocks-2-init
unfolding encode_with
blocks-2-init c = (omega arith, c.requires, refl)

pub blocks-2-preserved : goal.blocks-2-preserved
blocks-2-preserved c =
    let (within, sized, before) = c.blocks-2.invariant in
    let room : c.blocks-2.at + 16 ≤ length c.args.bytes.now = omega (arith, c.blocks-2-test.true) in
    let block = c.encode_block.ensures in (
      room,
      length-put_chunk _ _ _ ∙ length-put_chunk _ _ _ ∙ sized,
      block_written c.args.bytes.now c.blocks-2.digits _ _ c.blocks-2.at block.lanes.0 block.lanes.1 room sized block.digits before,
    )

pub returns : goal.returns
returns c =
    let (within, sized, before) = c.blocks-2.invariant in
    let written = rw c.unwrap.ensures at c.encode_to_slice.ensures.written in
    rest_written c.args.bytes.now c.blocks-2.digits _ c.blocks-2.at within sized (written ∙ ap encode_lower (take_rest c.args.bytes.now c.blocks-2.at)) before
