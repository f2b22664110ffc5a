use Rattle.answers.specs.Streams.{stream_of}
use Rattle.player.{specs.Session.filing, proofs.Endings.opened_some, proofs.Endings.same_stream}
use Rattle.player.proofs.sessions.open_file.Goals as goal

pub returns-in-Ok-clause-opened : goal.returns-in-Ok-clause-opened
returns-in-Ok-clause-opened g c =
    let same = same_stream (stream_of g.F.Write.contents c.open.new.self)
    (stream_of g.F.Write.contents c.args.file.now) c.in-Ok.ensures.count c.in-Ok.ensures.bytes in
    opened_some (λ n. n.now) c.args.name c.in-Some.name
    (filing g.F.NamedFile.opened_as g.F.NamedFile.refused_as g.F.Write.contents c.args.file.now c.open.new.self) c.in-Some.is
    (record { opened = c.open.new.self; named = c.in-Ok.ensures.opened; untouched = same }) same
