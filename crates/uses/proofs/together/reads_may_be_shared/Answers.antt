use Rattle.std.proofs.Common.{[], refl, arith}
use Rattle.uses.specs.Sharing.{read_by}
use Rattle.uses.proofs.together.reads_may_be_shared.Goals as goal

pub returns-clause-changed : goal.returns-clause-changed
returns-clause-changed c first second sector disjoint =
    disjoint 0 [] (omega arith) 0 (read_by first sector) (omega arith) 1 (read_by first sector) (omega arith) refl refl
