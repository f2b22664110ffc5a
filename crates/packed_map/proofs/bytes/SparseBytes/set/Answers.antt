use Rattle.std.proofs.Common.{◌<◌, ◌/◌, ◌%◌, ℕ, List, length, set, sym, ◌∙◌, ap, ap₂, subst, arith}
use Rattle.packed_map.specs.Parts.{byte_at, values_of}
use Rattle.packed_map.proofs.Parts.{length_values}
use Rattle.packed_map.proofs.BytesOfWords.{put, put_fits, bytes_set}
use Rattle.packed_map.proofs.bytes.SparseBytes.set.Goals as goal

pub get-word-requires : goal.get-word-requires
get-word-requires c =
    let b = c.self.inside in
    omega (arith, c.requires, ap length c.self.view_is, length_values (byte_at b.words) b.len, c.self.invariant)

pub overflow_add-rest : goal.overflow_add-rest
overflow_add-rest c =
    let word = c.get-word.result in
    omega (
      arith,
      subst (λ (s : ℕ). put word s c.from.result < 4294967296) (sym c.shift-shift.ensures)
          (put_fits word (c.args.index % 4) c.from.result (omega arith) (omega arith) (omega (arith, c.from.ensures))),
    )

pub set-requires : goal.set-requires
set-requires c =
    let b = c.self.inside in
    omega (arith, c.requires, ap length c.self.view_is, length_values (byte_at b.words) b.len, c.self.invariant)

pub returns : goal.returns
returns c =
    let b = c.self.inside in
    let i = c.args.index in
    let word = c.get-word.result in
    let within : i < b.len = omega (arith, c.requires, ap length c.self.view_is, length_values (byte_at b.words) b.len) in
    ap (λ (words : List ℕ). values_of (byte_at words) b.len)
    (c.set.ensures ∙ ap₂ (λ (s : ℕ) (x : ℕ). set b.words (i / 4) (put word s x)) c.shift-shift.ensures c.from.ensures)
    ∙ bytes_set b.words b.len i c.args.byte word within c.self.invariant c.get-word.ensures (omega arith) (omega arith)
    ∙ ap (λ (xs : List ℕ). set xs i c.args.byte) c.self.view_is
