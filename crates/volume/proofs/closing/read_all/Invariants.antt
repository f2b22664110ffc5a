use Rattle.std.proofs.Common.{◌≤◌, vec_capacity}
use Rattle.geometry.specs.Geometry.{sectors_of}
use Rattle.flash_table.specs.Flash.{geometry_of}
use Rattle.volume.{specs.Closing.array_of, proofs.Looks.Sweeps}
use Rattle.volume.proofs.closing.read_all.Given as goal

abbrev pub invariant-loop-sector : goal.invariant-loop-sector
invariant-loop-sector l = Sweeps l.flash (sectors_of (geometry_of l.flash)) l.fn.pass l.pass (array_of l.sectors.items) l.sector
    × (l.count ≤ vec_capacity l.sectors)
