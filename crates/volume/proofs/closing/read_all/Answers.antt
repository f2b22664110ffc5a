use Rattle.std.proofs.{Common.◌+◌, Common.sym, Common.arith, Common.subst, Common.List}
use Rattle.std.specs.Option.{option_map}
use Rattle.geometry.specs.{Sectors.Sector, Geometry.sectors_of}
use Rattle.flash_table.specs.Flash.{view_of, geometry_of}
use Rattle.volume.{specs.Closing.array_of, proofs.Looks.looked-refl}
use Rattle.volume.proofs.Looks.{Sweeps, sweep_begins, sweeps_next, one_more}
use Rattle.volume.proofs.closing.read_all.Goals as goal

pub returns-in_err-sectors-clause-looked : goal.returns-in_err-sectors-clause-looked
returns-in_err-sectors-clause-looked c = looked-refl (view_of c.args.pass.now)

pub loop-sector-init : goal.loop-sector-init
loop-sector-init c =
    let room = c.in_ok-sectors.ensures.capacity in (
      sweep_begins c.args.flash.now (sectors_of (geometry_of c.args.flash.now)) c.args.pass.now c.in_ok-sectors.sectors.items
          c.in_ok-sectors.ensures.items c.requires,
      omega arith,
    )

pub loop-sector-preserved : goal.loop-sector-preserved
loop-sector-preserved c =
    let f = c.args.flash.now in
    let n = sectors_of (geometry_of f) in
    let next = c.read_sector.new.pass in
    let items = c.loop-sector.sectors.items in
    let told = c.in_ok-value.ensures in
    let same = one_more items c.push_reserved.new.self.items c.in_ok-value.value c.push_reserved.ensures.items in
    let h = sweeps_next f n c.args.pass.now c.loop-sector.pass next (array_of items) c.loop-sector.sector
    (option_map (λ v. v.items) c.in_ok-value.value) c.loop-sector.invariant.0 told.looked told.pass told.value in
    let room = c.loop-sector.invariant.1 in
    let kept = c.push_reserved.ensures.capacity in
    (subst (λ (l : List Sector). Sweeps f n c.args.pass.now next l (c.loop-sector.sector + 1)) (sym same) h, omega arith)
