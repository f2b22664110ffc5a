use Rattle.laws.proofs.PlayedLines.{text_of_three, finds_none, reads_behind}
use Rattle.laws.proofs.traces.lines.answers_of_rounds.Goals as goal

pub returns-clause-empty : goal.returns-clause-empty
returns-clause-empty c = finds_none

pub returns-clause-text : goal.returns-clause-text
returns-clause-text c x text is = text_of_three x text is

pub returns-clause-behind : goal.returns-clause-behind
returns-clause-behind c x h = reads_behind x h
