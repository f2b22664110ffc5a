use Rattle.std.proofs.Common.{◌∙◌, ap, refl, subst, sym}
use Rattle.answers.specs.Streams.{stream_of}
use Rattle.runs.specs.{Logs.log_part, Logs.IsLogged, Logs.IsOpen, declared.log.Log.Log}
use Rattle.runs.proofs.LogTexts.{fails_open, shut_more, tells_open}
use Rattle.runs.proofs.log.Log.tell.Goals as goal

pub returns-in-Ok-clause-logged : goal.returns-in-Ok-clause-logged
returns-in-Ok-clause-logged g c = λ before text more told logged.
    let old = stream_of g.V.Write.contents c.args.file.now in
    let new = stream_of g.V.Write.contents c.make_room.new.writer in
    tells_open c.in-Open.lines before old new c.args.line c.in-Some.it text more _ _
    (subst (λ (s : Log). IsLogged s (record { before = before; after = old }) text) c.in-Open.is logged)
    c.in-Ok.ensures.failed c.in-Ok.ensures.moved c.collection.ensures.waiting
    (told (subst IsOpen (sym c.in-Open.is) tt) ∙ ap (log_part c.args.line) c.in-Some.is)

pub returns-in-Err-clause-logged : goal.returns-in-Err-clause-logged
returns-in-Err-clause-logged g c = λ before text more told logged.
    let old = stream_of g.V.Write.contents c.args.file.now in
    let new = stream_of g.V.Write.contents c.make_room.new.writer in
    fails_open c.in-Open.lines before old new text more
    (subst (λ (s : Log). IsLogged s (record { before = before; after = old }) text) c.in-Open.is logged)
    c.in-Err.ensures.failed c.in-Err.ensures.part

pub returns-in_default-self : goal.returns-in_default-self
returns-in_default-self g c =
    record { wanted = refl; logged = λ before text more told logged. shut_more c.args.self.now _ text more c.in_default-self.not-Open logged }
