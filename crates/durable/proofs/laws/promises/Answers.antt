use Rattle.std.proofs.Common.{inl, ⊎_elim, List, None, refl, subst, arith}
use Rattle.durable.specs.Updates.{Update, array_after}
use Rattle.durable.specs.Flash.{RecoversSector}
use Rattle.durable.proofs.Cells.{shown_value}
use Rattle.durable.proofs.Opened.{some_not_none}
use Rattle.durable.proofs.laws.promises.Goals as goal

pub returns-clause-not_begun : goal.returns-clause-not_begun
returns-clause-not_begun c f bytes newest keeps =
    shown_value f 7 bytes 0 0 newest (subst (λ (us : List Update). RecoversSector f 7 (array_after us 7)) keeps.included (keeps.recovers 7 (omega arith)))

pub returns-clause-safe : goal.returns-clause-safe
returns-clause-safe c f core acked begun is safe = (safe f acked begun is).1

pub returns-clause-off_device : goal.returns-clause-off_device
returns-clause-off_device c f core acked begun is blocks safe = let within = (safe f acked begun is).0 in omega (arith, within, blocks)

pub returns-clause-refused : goal.returns-clause-refused
returns-clause-refused c f old new acked begun is acknowledges = acknowledges f f None acked begun is (λ b p. refl)

pub returns-clause-open : goal.returns-clause-open
returns-clause-open c f core acked begun is opened = is.represents.erased (record { block = 1; page = 2 }) (inl opened) 3 (omega arith)

pub returns-clause-spare : goal.returns-clause-spare
returns-clause-spare c f core acked begun is none = ⊎_elim
    (λ free. (free.0, free.1, free.3))
    (λ copies. absurd (some_not_none core.next_pages.copies copies.0 copies.2 none))
    is.spare
