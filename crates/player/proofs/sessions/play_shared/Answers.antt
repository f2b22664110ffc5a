use Rattle.std.proofs.Common.{◌∙◌, subst, sym}
use Rattle.std.specs.Prelude.{Bool, Ok, not}
use Rattle.answers.specs.Streams.{Stream, over, stream_of, Whole}
use Rattle.geometry.specs.Geometry.{hosts_of}
use Rattle.runs.specs.{ByWorkers.WasPlayed, ByWorkers.answers_played, ByWorkers.commands_played, Playing.refused_by_workers, Logs.IsWearOf}
use Rattle.player.specs.{Session.IsLogFor, Session.filings, Session.run_options_of}
use Rattle.player.proofs.Endings.{file_ended, run_ended, unnamed}
use Rattle.player.proofs.RunTexts.{shared_log, shared_refusal, shared_run, shared_text}
use Rattle.player.specs.declared.refusal.Refusal.TheVariants as refusal
use Rattle.player.proofs.sessions.play_shared.Goals as goal

pub returns-in-Ok : goal.returns-in-Ok
returns-in-Ok g c =
    let geo = c.args.geometry.now in
    let given = c.args.given in
    let opens = c.in_default.ensures in
    let told = c.in-Ok.ensures in
    let start = stream_of g.R.Read.remaining c.args.reader.now in
    let output = over g.W.Write.contents c.args.writer.now c.run_by_workers.new.writer in
    let stream = stream_of g.F.Write.contents in
    let mid = c.open_files.new.files in
    let new = record mid { collections = c.run_by_workers.new.file } in
    let files = filings g.F.NamedFile.opened_as g.F.NamedFile.refused_as g.F.Write.contents c.args.files.now new in
    let log = file_ended (λ n. n.now) given.collections c.is_some-2.result (IsLogFor given geo) start files.collections (stream mid.collections)
    c.in-Ok.played.log opens.1 c.is_some-2.ensures
    (shared_log given geo c.is_some-2.result start (over g.F.Write.contents mid.collections new.collections) c.in-Ok.played.log c.requires told.log) in
    let wear = unnamed (λ n. n.now) given.wear (IsWearOf geo) start files.wear (sym c.is_some.ensures ∙ c.if-is_some.false) opens.0.1 in
    rw c.outcome.ensures
    (run_ended c.in-Ok.played.log (Ok tt) refusal.Full c.count_if_wanted-count.result geo given _ _ files
    (record {
      end = told.end;
      text = shared_text (hosts_of geo) (not given.quiet) geo Whole start output c.requires told.text;
      input_unfailed = told.reader_unfailed;
      output_unfailed = told.writer_unfailed;
      refused = refused_by_workers (commands_played c.in-Ok.played) (answers_played c.in-Ok.played);
      run = shared_run (hosts_of geo) given geo start output files.collections.stream c.in-Ok.played c.requires
          (subst (λ (s : Stream). WasPlayed geo (run_options_of given) start output (record { before = s; after = files.collections.stream.after })
          c.in-Ok.played) opens.1.1
          (subst (λ (w : Bool). WasPlayed geo
          (record { patience = given.patience; drains = given.drains; answers = not given.quiet; log = w }) start output
          (record { before = stream mid.collections; after = files.collections.stream.after }) c.in-Ok.played) c.is_some-2.ensures told.played));
    })
    log wear (sym c.count_if_wanted-count.ensures) (shared_refusal (hosts_of geo) c.requires))
