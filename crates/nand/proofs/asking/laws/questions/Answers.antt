use Rattle.nand.proofs.Openings.{asks_on_chip}
use Rattle.nand.proofs.asking.laws.questions.Goals as goal

pub returns-clause-on_chip : goal.returns-clause-on_chip
returns-clause-on_chip c f bad opening read =
    asks_on_chip f bad opening.shape opening.sectors opening.numbers.items opening.mount read.order read.noted opening.asks
