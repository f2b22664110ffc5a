use Rattle.flash_rule.proofs.Forcing.{tests_forced, takes_forced, pins_forced, unpins_forced, counts_forced, closes_forced, claims_forced, drains_forced}
use Rattle.flash_rule.proofs.Forcing.{condemns_forced, frees_forced, keeps_forced, retires_forced}
use Rattle.flash_rule.proofs.forced.pin_words_are_forced.Goals as goal

pub returns-clause-tests : goal.returns-clause-tests
returns-clause-tests c = tests_forced

pub returns-clause-takes : goal.returns-clause-takes
returns-clause-takes c = takes_forced

pub returns-clause-pins : goal.returns-clause-pins
returns-clause-pins c = pins_forced

pub returns-clause-unpins : goal.returns-clause-unpins
returns-clause-unpins c = unpins_forced

pub returns-clause-counts : goal.returns-clause-counts
returns-clause-counts c = counts_forced

pub returns-clause-closes : goal.returns-clause-closes
returns-clause-closes c = closes_forced

pub returns-clause-claims : goal.returns-clause-claims
returns-clause-claims c = claims_forced

pub returns-clause-drains : goal.returns-clause-drains
returns-clause-drains c = drains_forced

pub returns-clause-condemns : goal.returns-clause-condemns
returns-clause-condemns c = condemns_forced

pub returns-clause-frees : goal.returns-clause-frees
returns-clause-frees c = frees_forced

pub returns-clause-keeps : goal.returns-clause-keeps
returns-clause-keeps c = keeps_forced

pub returns-clause-retires : goal.returns-clause-retires
returns-clause-retires c = retires_forced
