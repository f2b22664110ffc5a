-- The statuses of sessions that stopped.
use Rattle.std.proofs.Common.{◌≡◌, ◌<◌, ◌≤◌, ℕ, arith}
use Rattle.trace.specs.declared.fault.TraceFaultKind.{TraceFaultKind}
use Rattle.trace.specs.declared.fault.TraceFaultKind.TheVariants as fault
use Rattle.answers.specs.declared.fault.RunFault.{RunFault}
use Rattle.answers.specs.declared.fault.RunFault.TheVariants as run
use Rattle.player.specs.{Session.status_of, Session.status_of_run, Session.status_of_trace, declared.stop.Stop.Stop}
use Rattle.player.specs.declared.run_files.FileStop.TheVariants as file_stop
use Rattle.player.specs.declared.stop.Stop.TheVariants as stop

-- A status of a stop: more than 0 and at most 5
pub record IsStatus (s : ℕ) : Type 0 where
  pub some : 0 < s
  pub few : s ≤ 5

pub record IsRunStatus (s : ℕ) : Type 0 where
  pub some : 0 < s
  pub few : s ≤ 4
  pub other : ¬ (s ≡ 2)

of_trace : (k : TraceFaultKind) → IsRunStatus (status_of_trace k)
of_trace fault.Fields = record { some = omega arith; few = omega arith; other = λ e. omega (arith, e) }
of_trace _ = record { some = omega arith; few = omega arith; other = λ e. omega (arith, e) }

pub of_run : (f : RunFault) → IsRunStatus (status_of_run f)
of_run (run.Trace found) = of_trace found.kind
of_run _ = record { some = omega arith; few = omega arith; other = λ e. omega (arith, e) }

pub of_stop : (why : Stop) → IsStatus (status_of why)
of_stop (stop.Run found) = let h = of_run found in record { some = h.some; few = omega (arith, h.few) }
of_stop (stop.File file file_stop.NotWithWorkers) = record { some = omega arith; few = omega arith }
of_stop (stop.File file file_stop.NotOpened) = record { some = omega arith; few = omega arith }
of_stop (stop.File file file_stop.NotItsOwn) = record { some = omega arith; few = omega arith }
of_stop (stop.File file file_stop.Failed) = record { some = omega arith; few = omega arith }
of_stop _ = record { some = omega arith; few = omega arith }
