use Rattle.std.proofs.Common.{subst}
use Rattle.ftl_one.specs.OneFtl.{stock_of}
use Rattle.geometry.specs.declared.geometry.Geometry.{Geometry}
use Rattle.answers.specs.Streams.{over, stream_of, WritesIf}
use Rattle.runs.specs.Logs.{IsLogOf, IsWearOf, wear_text}
use Rattle.runs.proofs.LogTexts.{ends_file, wear_right}
use Rattle.runs.proofs.one_thread.run_with_files.Goals as goal

pub returns-in-Ok-clause-collections : goal.returns-in-Ok-clause-collections
returns-in-Ok-clause-collections g c =
    let under = c.in-Ok.ensures.logged in
    let start = stream_of g.V.Write.contents c.args.files.now.collections in
    let file = over g.V.Write.contents c.args.files.now.collections c.finish-collections.new.file in
    ends_file c.args.wanted.collections (IsLogOf c.args.geometry.now)
    (stream_of g.R.Read.remaining c.args.reader.now) file under.text c.finish-collections.result under.right
    (subst (λ w. WritesIf w under.text file c.finish-collections.result) c.in-Ok.ensures.wanted (c.finish-collections.ensures start under.text under.logged))

pub returns-in-Ok-clause-wear : goal.returns-in-Ok-clause-wear
returns-in-Ok-clause-wear g c =
    let geo = c.args.geometry.now in
    let start = stream_of g.R.Read.remaining c.args.reader.now in
    let file = over g.V.Write.contents c.args.files.now.wear c.tell_wear_if-wear.new.wear in
    let stock = stock_of c.in-Ok.played.ftl in
    ends_file c.args.wanted.wear (IsWearOf geo) start file (wear_text geo stock) c.tell_wear_if-wear.result
    (wear_right geo start.bytes stock c.in-Ok.ensures.stock)
    (subst (λ (x : Geometry). WritesIf c.args.wanted.wear (wear_text x stock) file c.tell_wear_if-wear.result) c.in-Ok.ensures.geometry
    c.tell_wear_if-wear.ensures)
