use Rattle.std.proofs.Common.{subst, sym}
use Rattle.answers.specs.Streams.{stream_of, WritesIf}
use Rattle.runs.{specs.Logs.IsLogged, specs.Logs.is_wanted, specs.declared.log.Log.Log, proofs.LogTexts.ends_open}
use Rattle.runs.proofs.log.Log.finish.Goals as goal

pub returns-in-Open : goal.returns-in-Open
returns-in-Open g c = λ before text logged.
    let old = stream_of g.V.Write.contents c.args.file.now in
    let new = stream_of g.V.Write.contents c.hand_on.new.writer in
    subst (λ (s : Log). WritesIf (is_wanted s) text (record { before = before; after = new }) c.hand_on.result) (sym c.in-Open.is)
    (ends_open c.in-Open.lines before old new text c.hand_on.result
    (subst (λ (s : Log). IsLogged s (record { before = before; after = old }) text) c.in-Open.is logged)
    c.hand_on.ensures.sent)
