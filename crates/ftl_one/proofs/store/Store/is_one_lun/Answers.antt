use Rattle.std.proofs.Common.{rules}
use Rattle.ftl_one.proofs.store.Store.is_one_lun.Goals as goal

pub returns : goal.returns
returns c = search rules
