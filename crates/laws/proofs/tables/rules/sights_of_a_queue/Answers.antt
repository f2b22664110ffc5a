use Rattle.std.proofs.Common.{false, [], refl, arith}
use Rattle.laws.proofs.tables.rules.sights_of_a_queue.Goals as goal

pub returns-clause-nothing : goal.returns-clause-nothing
returns-clause-nothing c = (
  record { counting = false; limit = 0; puts = []; taken = 0; putter = λ k. (0, 0); taker = λ k. (0, 0) },
  record {
    order = ([], refl, refl);
    low = λ k x is. absurd (cc);
    each = λ k v is. absurd (cc);
    put_by = λ k low. absurd (omega (arith, low));
    taken_by = λ k low. absurd (omega (arith, low));
  },
)
