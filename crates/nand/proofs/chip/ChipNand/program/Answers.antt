use Rattle.nand.proofs.chip.ChipNand.program.Goals as goal

pub returns-clause-does : goal.returns-clause-does
returns-clause-does c _ = c.in_ok-fill.ensures.sets _ c.version-page.ensures
