use Rattle.std.proofs.Common.{◌∙◌, sym, ap, arith}
use Rattle.packed_map.specs.Entries.{entry_of}
use Rattle.packed_map.proofs.Entries.{entry_of_some, entry_of_zero}
use Rattle.packed_map.proofs.entry.unpack.Goals as goal

pub returns-then-bits-eq0-clause-entry : goal.returns-then-bits-eq0-clause-entry
returns-then-bits-eq0-clause-entry c = sym (ap entry_of (omega (arith, c.if-bits-eq0.true)) ∙ entry_of_zero)

pub returns-clause-entry : goal.returns-clause-entry
returns-clause-entry c = sym (entry_of_some c.args.bits (λ e. omega (arith, c.if-bits-eq0.false, e)))
