use Rattle.std.{proofs.Common.arith, specs.Prelude.Err}
use Rattle.player.proofs.sessions.session.Goals as goal

pub returns-in-Err-clause-ending : goal.returns-in-Err-clause-ending
returns-in-Err-clause-ending g c =
    record { ending = Err c.in-Err.stop; status_is = omega (arith, c.tell.ensures.status); why = c.in-Err.ensures; told = c.tell.ensures.reported }
