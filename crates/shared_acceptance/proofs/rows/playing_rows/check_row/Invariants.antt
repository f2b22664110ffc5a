use Rattle.std.proofs.Common.{Some}
use Rattle.shared_acceptance.proofs.rows.playing_rows.check_row.Given as goal

abbrev pub ghosts-play : goal.ghosts-play
ghosts-play g a = record { home = Some a.volume.now }
