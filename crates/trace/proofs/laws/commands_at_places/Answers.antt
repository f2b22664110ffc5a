use Rattle.std.proofs.Common.{refl}
use Rattle.trace.proofs.Examples.{bytes-0a, bytes-0b, bytes-none}
use Rattle.trace.proofs.laws.commands_at_places.Goals as goal

pub returns-clause-write : goal.returns-clause-write
returns-clause-write c = rw bytes-0a refl

pub returns-clause-later : goal.returns-clause-later
returns-clause-later c = rw bytes-0b refl

pub returns-clause-odd : goal.returns-clause-odd
returns-clause-odd c = rw bytes-0a refl

pub returns-clause-read : goal.returns-clause-read
returns-clause-read c = rw bytes-none refl
