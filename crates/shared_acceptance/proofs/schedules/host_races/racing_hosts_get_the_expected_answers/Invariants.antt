use Rattle.std.proofs.Common.{Some}
use Rattle.shared_acceptance.proofs.schedules.host_races.racing_hosts_get_the_expected_answers.Given as goal

abbrev pub ghosts-run_race : goal.ghosts-run_race
ghosts-run_race g a = record { home = Some a.volume.now }
