use Rattle.std.proofs.Common.{rules}
use Rattle.geometry.proofs.geometry.Geometry.new.Goals as goal

pub returns-then-words-lt1-clause-first : goal.returns-then-words-lt1-clause-first
returns-then-words-lt1-clause-first c = search rules
