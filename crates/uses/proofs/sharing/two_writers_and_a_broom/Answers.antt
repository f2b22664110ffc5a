use Rattle.std.proofs.Common.{rules}
use Rattle.volume.specs.Volume.{flash_of}
use Rattle.uses.proofs.Meetings.{first_keeps, second_keeps, has_heard}
use Rattle.uses.proofs.sharing.two_writers_and_a_broom.Goals as goal

pub returns-clause-first : goal.returns-clause-first
returns-clause-first g c = first_keeps _ _ _ _ _ _ _ _ (search rules) c.meet.ensures.met

pub returns-clause-second : goal.returns-clause-second
returns-clause-second g c = second_keeps _ _ _ _ _ _ _ _ (search rules) c.meet.ensures.met

pub returns-clause-heard : goal.returns-clause-heard
returns-clause-heard g c =
    let second = c.second-1.given.0 in has_heard (flash_of second.volume.now) second.pass _ _ _ (search rules) c.meet.ensures.met
