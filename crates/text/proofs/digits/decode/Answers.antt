use Rattle.std.proofs.Common.{◌≡◌, ◌+◌, ◌*◌, ◌%◌, length, slice_index, ℕ, sym, ap, ◌∙◌, arith}
use Rattle.std.proofs.lemmas.{List.length-set, Simd.length-put_chunk}
use Rattle.hex.proofs.{HexLemmas.decode_of-even, HexLemmas.decode_of-same, Pairs.decode_done, Pairs.decode_step}
use Rattle.text.proofs.{Encodings.digit_at, Encodings.pair_read, Encodings.value_below, Chunks.decoded_block}
use Rattle.text.proofs.digits.decode.Goals as goal

pub decode_block-requires-clause-digits : goal.decode_block-requires-clause-digits
decode_block-requires-clause-digits c =
    let (within, sized, before) = c.blocks-2.invariant in
    let digit = digit_at c.args.digits.now _ in (
      λ k from to. digit k c.requires.digits (omega (arith, sized, c.blocks-2-test.true)),
      λ k from to. digit k c.requires.digits (omega (arith, sized, c.blocks-2-test.true)),
    )

pub blocks-2-preserved : goal.blocks-2-preserved
blocks-2-preserved c =
    let (within, sized, before) = c.blocks-2.invariant in
    let long = length-put_chunk c.blocks-2.at c.blocks-2.out c.decode_block.result in (
      omega (arith, long, c.blocks-2-test.true),
      omega (arith, long, sized),
      decoded_block c.args.digits.now c.blocks-2.out c.decode_block.result c.blocks-2.at c.decode_block.ensures
          (omega (arith, c.blocks-2-test.true)) sized before,
    )

pub overflow_mul-out : goal.overflow_mul-out
overflow_mul-out c =
    let (sized, before) = c.bytes.invariant in
    let high = value_below (slice_index c.args.digits.now (2 * c.bytes.i)) _ c.value-high.ensures
    (digit_at c.args.digits.now _ (2 * c.bytes.i) c.requires.digits (omega (arith, sized))) in
    omega (arith, high)

pub overflow_add-out : goal.overflow_add-out
overflow_add-out c =
    let (sized, before) = c.bytes.invariant in
    let high = value_below (slice_index c.args.digits.now (2 * c.bytes.i)) _ c.value-high.ensures
    (digit_at c.args.digits.now _ (2 * c.bytes.i) c.requires.digits (omega (arith, sized))) in
    let low = value_below (slice_index c.args.digits.now (2 * c.bytes.i + 1)) _ c.value-low.ensures
    (digit_at c.args.digits.now _ (2 * c.bytes.i + 1) c.requires.digits (omega (arith, sized))) in
    omega (arith, high, low)

pub bytes-preserved : goal.bytes-preserved
bytes-preserved c =
    let (sized, before) = c.bytes.invariant in
    let high = value_below (slice_index c.args.digits.now (2 * c.bytes.i)) _ c.value-high.ensures
    (digit_at c.args.digits.now _ (2 * c.bytes.i) c.requires.digits (omega (arith, sized))) in
    let low = value_below (slice_index c.args.digits.now (2 * c.bytes.i + 1)) _ c.value-low.ensures
    (digit_at c.args.digits.now _ (2 * c.bytes.i + 1) c.requires.digits (omega (arith, sized))) in
    let a = slice_index c.args.digits.now (2 * c.bytes.i) in
    let b = slice_index c.args.digits.now (2 * c.bytes.i + 1) in
    let read = pair_read a b (2 * c.bytes.i) _ _ c.value-high.ensures c.value-low.ensures high low in
    (sized ∙ ap (λ (n : ℕ). 2 * n) (sym (length-set c.bytes.out c.bytes.i _)), decode_step _ _ c.bytes.i _ (omega (arith, sized)) (omega arith) read before)

pub returns : goal.returns
returns c =
    let (sized, before) = c.bytes.invariant in
    let even : length c.args.digits.now % 2 ≡ 0 = omega (arith, sized) in
    let decoded = decode_of-even c.args.digits.now even ∙ decode_done _ c.bytes.out c.bytes.i (omega arith) (omega (arith, sized)) before in
    decode_of-same c.args.digits.now c.bytes.out _ decoded c.requires.digits
