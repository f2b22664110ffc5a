use Rattle.std.proofs.Common.{⊎_elim, sym, ◌∙◌, arith}
use Rattle.durable.specs.Updates.{sole}
use Rattle.durable.proofs.Cells.{same_held, shown_value}
use Rattle.durable.proofs.Spares.{no_value}
use Rattle.durable.proofs.laws.versions_of_a_sector.Goals as goal

pub returns-clause-newest : goal.returns-clause-newest
returns-clause-newest c f v w old new is =
    let number = (same_held (sole 7) 1 v is.held.0 is.number v (sym old ∙ is.held.1)).1 in
    ⊎_elim (λ less. omega (arith, less, number)) (λ same. omega (arith, same.0, number)) (is.newest 1 1 2 w (sole 7, new, (omega arith, omega arith)))

pub returns-clause-lost : goal.returns-clause-lost
returns-clause-lost c f bytes newest = shown_value f 7 bytes 0 0 newest

pub returns-clause-valueless : goal.returns-clause-valueless
returns-clause-valueless c f none has = no_value f 7 none has

pub returns-clause-unneeded : goal.returns-clause-unneeded
returns-clause-unneeded c f v none shows = no_value f 7 none shows.valued
