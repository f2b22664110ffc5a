use Rattle.std.specs.Prelude.{◌≤◌}
use Rattle.flash_table.specs.Flash.{view_of}
use Rattle.host.specs.Ready.{IsReady}
use Rattle.volume.specs.Volume.{flash_of}
use Rattle.workers.proofs.OneLine.{Waited}
use Rattle.workers.proofs.worker.plays.write_patiently.Given as goal

abbrev pub invariant-loop-tried : goal.invariant-loop-tried
invariant-loop-tried g l = IsReady (flash_of l.volume) l.pass × Waited l.tried (view_of l.fn.pass) (view_of l.pass) × (l.tried ≤ l.patience)
