use Rattle.std.proofs.Common.{refl}
use Rattle.laws.proofs.Loads.{took_one_too_many}
use Rattle.laws.proofs.traces.faults_of_a_trace.Goals as goal

pub returns-clause-big : goal.returns-clause-big
returns-clause-big c g bytes long =
    record {
      record_fault = λ e. absurd (cc e);
      record_end = λ e. absurd (cc e);
      other_fault = λ _. refl;
      read = λ e. absurd (cc);
      unfailed = λ _. refl;
      big = λ _. took_one_too_many bytes long;
    }
