use Rattle.uses.proofs.standing.held_beside_a_writer.Goals as goal

pub returns-clause-brought : goal.returns-clause-brought
returns-clause-brought c = c.meet_holding.ensures.met_holding.brought
