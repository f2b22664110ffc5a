use Rattle.std.proofs.Common.{Some}
use Rattle.shared_acceptance.proofs.schedules.erase_beside_a_read.a_pin_between_the_load_and_the_condemn_refuses_the_erase.Given as goal

abbrev pub ghosts-play : goal.ghosts-play
ghosts-play g a = record { home = Some a.volume.now }
