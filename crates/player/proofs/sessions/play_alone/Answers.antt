use Rattle.std.{proofs.Common.ap, proofs.Common.sym}
use Rattle.answers.specs.Streams.{over, stream_of}
use Rattle.runs.specs.Logs.{IsWearOf}
use Rattle.player.specs.{Session.IsLogFor, Session.filings, Session.refusal_by}
use Rattle.player.proofs.Endings.{file_ended, run_ended}
use Rattle.player.proofs.RunTexts.{one_log, one_run, one_text}
use Rattle.player.specs.declared.refusal.Refusal.TheVariants as refusal
use Rattle.player.proofs.sessions.play_alone.Goals as goal

pub returns-in-Ok : goal.returns-in-Ok
returns-in-Ok g c =
    let geo = c.args.geometry.now in
    let given = c.args.given in
    let opens = c.in_default.ensures in
    let told = c.in-Ok.ensures in
    let start = stream_of g.R.Read.remaining c.args.reader.now in
    let files = filings g.F.NamedFile.opened_as g.F.NamedFile.refused_as g.F.Write.contents c.args.files.now c.run_with_files.new.files in
    let stream = stream_of g.F.Write.contents in
    let mid = c.open_files.new.files in
    let new = c.run_with_files.new.files in
    let log = file_ended (λ n. n.now) given.collections c.is_some.result (IsLogFor given geo) start files.collections (stream mid.collections)
    c.in-Ok.written.collections opens.1 c.is_some.ensures
    (one_log given geo c.is_some.result start (over g.F.Write.contents mid.collections new.collections) c.in-Ok.written.collections c.requires
    told.collections) in
    let wear = file_ended (λ n. n.now) given.wear c.is_some-2.result (IsWearOf geo) start files.wear (stream mid.wear)
    c.in-Ok.written.wear opens.0 c.is_some-2.ensures told.wear in
    rw c.outcome.ensures
    (run_ended c.in-Ok.written.collections c.in-Ok.written.wear refusal.Worn c.if_counted-count.result geo given _ _ files
    (record {
      end = told.end;
      text = one_text given geo _ _ _ c.requires told.text;
      input_unfailed = told.reader_unfailed;
      output_unfailed = told.writer_unfailed;
      refused = c.in-Ok.written.refused;
      run = one_run given geo start _ files.collections.stream c.in-Ok.written.refused c.requires told.refused;
    })
    log wear (sym c.if_counted-count.ensures) (sym (ap refusal_by c.requires)))
