use Rattle.std.proofs.Common.{refl}
use Rattle.handles.proofs.LentValues.{on_alone}
use Rattle.handles.proofs.handle.Handle.on.Goals as goal

pub returns : goal.returns
returns g c =
    on_alone _ _ _ _ _ _ _ _ c.in-Some.ensures.value c.put.ensures c.deref_mut.ensures.value refl
    (record { shown = _; shows = refl; left = _; met = c.call-code.ensures; leaves = refl })
