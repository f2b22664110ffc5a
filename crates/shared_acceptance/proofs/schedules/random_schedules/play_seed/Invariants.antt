use Rattle.std.proofs.Common.{Some}
use Rattle.shared_acceptance.proofs.schedules.random_schedules.play_seed.Given as goal

abbrev pub ghosts-play : goal.ghosts-play
ghosts-play g a = record { home = Some a.volume.now }
