use Rattle.std.proofs.Common.{Some}
use Rattle.shared_acceptance.proofs.threads.many_threads.hosts_find_what_was_written_beside_brooms.Given as goal

abbrev pub ghosts-play : goal.ghosts-play
ghosts-play g a = record { home = Some a.volume.now }
