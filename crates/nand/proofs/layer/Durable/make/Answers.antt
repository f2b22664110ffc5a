use Rattle.std.proofs.Common.{◌∷◌, ◌∙◌, ℕ, List, Some, Ok, OnOk, sym, ap, subst}
use Rattle.durable.specs.Updates.{Update, sole}
use Rattle.nand.specs.Histories.{update_by}
use Rattle.nand.specs.Opened.{Fails, IsOpenLayer, update_of}
use Rattle.nand.specs.Programs.{ProgramsOnce}
use Rattle.nand.specs.declared.history.Change.{Change}
use Rattle.nand.proofs.Programs.{by_answer, or_once}
use Rattle.nand.proofs.layer.Durable.make.Goals as goal

pub returns-in-Ok-clause-acknowledged : goal.returns-in-Ok-clause-acknowledged
returns-in-Ok-clause-acknowledged g c updates is =
    subst (λ (x : Change). IsOpenLayer g.N.Nand.flash g.N.Nand.shape g.N.Nand.bad c.trim.new.self (update_by x ∷ updates)) (sym c.in-Trim.is)
    (c.in-Ok.ensures.acknowledged updates is)

pub returns-in-Err-clause-fails : goal.returns-in-Err-clause-fails
returns-in-Err-clause-fails g c updates is =
    subst (λ (x : Change). Fails g.N.Nand.flash g.N.Nand.shape g.N.Nand.bad c.args.self.now c.trim.new.self (update_by x) updates c.in-Err.failure)
    (sym c.in-Trim.is) (c.in-Err.ensures.fails updates is)

pub returns-in-Write-clause-once : goal.returns-in-Write-clause-once
returns-in-Write-clause-once g c updates is =
    let once = λ (u : Update).
    OnOk c.write.result (ProgramsOnce g.N.Nand.flash g.N.Nand.shape g.N.Nand.bad g.N.Nand.tally c.args.self.now c.write.new.self u) in
    let bytes = ap (λ (main : List ℕ). update_of (sole c.in-Write.sector) (Some main)) c.deref.ensures.value in
    or_once _ _ c.write.result (subst once (bytes ∙ ap update_by (sym c.in-Write.is)) (c.write.ensures.once updates is))

pub returns-in-Ok-clause-once : goal.returns-in-Ok-clause-once
returns-in-Ok-clause-once g c updates is = by_answer c.in-Ok.field-0
    (λ empty. (c.in-Ok.ensures.nothing (ap Ok empty), c.in-Ok.ensures.none (ap Ok empty)))
    (λ written. subst
    (λ (x : Change). ProgramsOnce g.N.Nand.flash g.N.Nand.shape g.N.Nand.bad g.N.Nand.tally c.args.self.now c.trim.new.self (update_by x))
    (sym c.in-Trim.is) (c.in-Ok.ensures.once updates is (ap Ok written)))
