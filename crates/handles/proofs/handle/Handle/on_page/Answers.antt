use Rattle.std.proofs.Common.{refl}
use Rattle.handles.proofs.LentValues.{on_lent}
use Rattle.handles.proofs.handle.Handle.on_page.Goals as goal

pub returns : goal.returns
returns g c =
    on_lent _ _ _ _ _ _ _ _ _ _ c.in-Some.ensures.value c.put.ensures c.deref_mut.ensures.value refl
    (record { first = _; second = _; shows = (refl, refl); left = _; met = c.call-code.ensures; leaves = (refl, refl) })
