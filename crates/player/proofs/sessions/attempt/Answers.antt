use Rattle.std.proofs.Common.{refl}
use Rattle.answers.specs.Streams.{over}
use Rattle.player.{specs.Session.filings, proofs.Endings.from_run}
use Rattle.player.proofs.sessions.attempt.Goals as goal

pub returns-in-0 : goal.returns-in-0
returns-in-0 g c =
    from_run _ c.in-Ok-device.geometry
    (record { accepted = c.in-Ok.ensures.outcome; given = c.in-Ok.given; told = c.in-Ok.ensures.numbers; numbers = c.in-Ok-device.ensures.numbers })
    (over g.R.Read.remaining c.args.reader.now c.play_alone.new.reader)
    (over g.W.Write.contents c.args.writer.now c.play_alone.new.writer)
    (filings g.F.NamedFile.opened_as g.F.NamedFile.refused_as g.F.Write.contents c.args.files.now c.play_alone.new.files)
    c.play_alone.result c.play_alone.ensures

pub returns-in_default : goal.returns-in_default
returns-in_default g c =
    from_run _ c.in-Ok-device.geometry
    (record { accepted = c.in-Ok.ensures.outcome; given = c.in-Ok.given; told = c.in-Ok.ensures.numbers; numbers = c.in-Ok-device.ensures.numbers })
    (over g.R.Read.remaining c.args.reader.now c.play_shared.new.reader)
    (over g.W.Write.contents c.args.writer.now c.play_shared.new.writer)
    (filings g.F.NamedFile.opened_as g.F.NamedFile.refused_as g.F.Write.contents c.args.files.now c.play_shared.new.files)
    c.play_shared.result c.play_shared.ensures

pub returns-in-Err-device : goal.returns-in-Err-device
returns-in-Err-device g c = (
  record { accepted = c.in-Ok.ensures.outcome; given = c.in-Ok.given; told = c.in-Ok.ensures.numbers; first = c.in-Err-device.ensures.first },
  (refl, refl),
  (refl, refl),
)
