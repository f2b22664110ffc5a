use Rattle.std.proofs.Common.{◌≡◌, vec_len}
use Rattle.geometry.specs.Geometry.{page_bytes_of}
use Rattle.ftl_one.specs.OneFtl.{geometry_of, array_of, stock_of}
use Rattle.streams.specs.Watched.{failures_of, inner_of}
use Rattle.answers.specs.{Delivery.waiting_of, Streams.over}
use Rattle.runs.specs.{Logs.log_before, Logs.IsLogged, Logs.is_wanted, Playing.refused_before, Playing.ArePlayed}
use Rattle.runs.proofs.one_thread.play.Given as goal

abbrev pub invariant-loop-i : goal.invariant-loop-i
invariant-loop-i g l =
    (geometry_of l.ftl ≡ geometry_of l.initial.ftl)
    × (vec_len l.desk.page ≡ page_bytes_of (geometry_of l.initial.ftl))
    × (failures_of l.writer ≡ failures_of l.initial.writer)
    × ArePlayed l.answers (geometry_of l.initial.ftl) l.commands l.i (array_of l.ftl) (stock_of l.ftl)
    (g.W.Write.contents (inner_of l.initial.writer)) (g.W.Write.contents (inner_of l.writer)) (waiting_of l.desk.lines)
    × (is_wanted l.log ≡ is_wanted l.initial.log)
    × IsLogged l.log (over g.V.Write.contents l.initial.file l.file) (log_before (geometry_of l.initial.ftl) l.commands l.i)
    × (l.desk.refused ≡ refused_before (geometry_of l.initial.ftl) l.commands l.i)
