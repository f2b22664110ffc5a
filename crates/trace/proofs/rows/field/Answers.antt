use Rattle.std.proofs.Common.{sym}
use Rattle.trace.proofs.Fields.{field_at-get, field_at-some, some-option_map}
use Rattle.trace.proofs.rows.field.Goals as goal

pub unwrap-requires : goal.unwrap-requires
unwrap-requires c = some-option_map (λ s. s.now) c.get.result _ c.get.ensures.value (field_at-some _ c.args.i c.requires)

pub returns : goal.returns
returns c = field_at-get _ c.args.i _ (rw c.unwrap.ensures at (sym c.get.ensures.value))
