use Rattle.std.proofs.Common.{◌≡◌, ◌∙◌, ℕ, ◌+◌, Bool, true, false, cond, eqb, List, sym, ap, refl, subst}
use Rattle.geometry.specs.{declared.geometry.Geometry.Geometry, Geometry.blocks_of, Geometry.page_bytes_of, Geometry.endurance_of, Geometry.sectors_of}
use Rattle.die.specs.{Die.geometry_of as die_geometry_of, Die.block_of, Pages.Block, Pages.erased}
use Rattle.ftl_one.{specs.Stock.Entry, specs.Entries.IsMapped, specs.Entries.entries_in, specs.Entries.sectors_in, proofs.Stores.usable_block}
use Rattle.ftl_one.specs.Store.{array_of, entries_of, erases_of, retired_of}
use Rattle.ftl_one.proofs.Maps.{Becomes, mapped-erase, entries-erase, sectors-erase}
use Rattle.ftl_one.proofs.store.Store.erase.Goals as goal

pub erase-requires : goal.erase-requires
erase-requires c = usable_block c.args.self.now c.args.block c.requires.block c.requires.usable

-- a byte of a test
is_one : (t : Bool) → eqb (cond t 1 0) 1 ≡ t
is_one true = refl
is_one false = refl

pub invariant_of-self : goal.invariant_of-self
unfolding entries_of
invariant_of-self c =
    let s = c.args.self.now in
    let g = die_geometry_of s.die in
    let die = c.erase.new.self in
    let changes = c.erase.ensures.changes in
    record {
      page_sized = s.page_sized ∙ ap page_bytes_of (sym changes.geometry);
      mapped = subst (λ (h : Geometry). IsMapped (page_bytes_of h) (blocks_of h) (sectors_of h) (block_of die) s.current.items s.live.items)
          (sym changes.geometry)
          (mapped-erase (page_bytes_of g) (blocks_of g) (sectors_of g) (endurance_of g) (block_of s.die)
          (block_of die) s.current.items s.live.items s.mapped c.args.block c.requires.block c.requires.dead
          (record { changed = changes.changed; others = changes.others }));
    }

pub returns-clause-failed : goal.returns-clause-failed
unfolding erases_of
returns-clause-failed c =
    let s = c.args.self.now in
    ap (λ (k : ℕ). eqb k 1) c.erase.ensures.status ∙ is_one (eqb ((block_of s.die c.args.block).erases + 1) (endurance_of (die_geometry_of s.die)))

pub returns-clause-erases : goal.returns-clause-erases
unfolding entries_of erases_of retired_of array_of
returns-clause-erases c =
    let s = c.args.self.now in
    let g = die_geometry_of s.die in
    let die = c.erase.new.self in
    let changes = c.erase.ensures.changes in
    let becomes : Becomes (blocks_of g) (block_of s.die) (block_of die) c.args.block (erased (endurance_of g) (block_of s.die c.args.block)) =
    record { changed = changes.changed; others = changes.others } in
    let by : Geometry → ℕ → List Entry = λ h b. entries_in (page_bytes_of h) s.current.items b (block_of die b) in
    record {
      emptied = ap (λ (h : Geometry). by h c.args.block) changes.geometry
          ∙ entries-erase (page_bytes_of g) (blocks_of g) (sectors_of g) (endurance_of g) (block_of s.die)
          (block_of die) s.current.items s.live.items s.mapped c.args.block c.requires.block c.requires.dead becomes;
      counted = ap (λ (k : Block). k.erases) changes.changed;
      retired = ap (λ (k : Block). k.retired) changes.changed;
      entries = λ b apart low. ap (λ (h : Geometry). by h b) changes.geometry
          ∙ ap (λ (k : Block). entries_in (page_bytes_of g) s.current.items b k) (changes.others b apart low);
      erases = λ b apart low. ap (λ (k : Block). k.erases) (changes.others b apart low);
      others = λ b apart low. ap (λ (k : Block). k.retired) (changes.others b apart low);
      sectors = ap (λ (h : Geometry). sectors_in (page_bytes_of h) (block_of die) s.current.items) changes.geometry
          ∙ sectors-erase (page_bytes_of g) (blocks_of g) (sectors_of g) (endurance_of g) (block_of s.die)
          (block_of die) s.current.items s.live.items s.mapped c.args.block c.requires.block c.requires.dead becomes;
      geometry = changes.geometry;
    }
