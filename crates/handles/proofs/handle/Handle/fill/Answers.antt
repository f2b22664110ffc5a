use Rattle.std.proofs.Common.{rules}
use Rattle.handles.proofs.handle.Handle.fill.Goals as goal

pub returns-clause-closed : goal.returns-clause-closed
returns-clause-closed g c = search rules
