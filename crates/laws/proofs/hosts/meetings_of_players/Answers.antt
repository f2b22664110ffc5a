use Rattle.std.proofs.Common.{slice_get, ap}
use Rattle.laws.proofs.hosts.meetings_of_players.Goals as goal

pub returns-clause-programs : goal.returns-clause-programs
returns-clause-programs c v w x y m h one other = h.programs 0 0 m (ap (λ l. slice_get l 0) one) (ap (λ l. slice_get l 0) other)
