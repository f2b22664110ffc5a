use Rattle.std.proofs.Common.{◌≡◌, ◌∙◌, ◌+◌, ◌≤◌, List, length, sum_by, Some, sym, ap, subst, arith}
use Rattle.std.proofs.lemmas.List.{length-map}
use Rattle.geometry.specs.{declared.geometry.Geometry.Geometry, Geometry.blocks_of, Geometry.pages_of, Geometry.hosts_of}
use Rattle.ftl_one.specs.{Stock.Stock, Stock.Block, Stock.next, Stock.Entry, Stock.forgotten, Lawful.IsLawful, Lawful.role_in, Lawful.blocks_in, Lawful.weight}
use Rattle.ftl_one.{specs.OneFtl.stock_of, proofs.Lawful.lawful-same, proofs.Layers.blocks-forget, proofs.Layers.weight-forget}
use Rattle.ftl_one.specs.Store as pages
use Rattle.ftl_one.proofs.one_ftl.OneFtl.trim.Goals as goal

pub invariant_of-self : goal.invariant_of-self
invariant_of-self c =
    let f = c.args.self.now in
    let s = c.forget.new.self in
    let g = pages.geometry_of f.store in
    let same = c.forget.ensures.keeps.geometry in
    let blocks = blocks-forget f.store s f.roles.items c.args.sector f.roles_sized c.forget.ensures.entries c.forget.ensures.keeps in
    let heavy : sum_by (weight (pages_of g)) (blocks_in s f.roles.items) ≡ sum_by (weight (pages_of g)) (blocks_in f.store f.roles.items) =
    ap (sum_by (weight (pages_of g))) blocks ∙ weight-forget (pages_of g) c.args.sector (blocks_in f.store f.roles.items) in
    let law = lawful-same (blocks_of g) (pages_of g) (λ b. length (pages.entries_of f.store b)) (pages.retired_of f.store)
    (role_in f.roles.items) f.open_block f.lawful (λ b. length (pages.entries_of s b)) (pages.retired_of s)
    (λ b low. ap (λ (xs : List Entry). length xs) (c.forget.ensures.entries b low) ∙ length-map (pages.entries_of f.store b) (forgotten c.args.sector))
    c.forget.ensures.keeps.retired in
    record {
      one_thread = ap hosts_of same ∙ f.one_thread;
      roles_sized = f.roles_sized ∙ ap blocks_of (sym same);
      free_within = f.free_within;
      free_above = f.free_above;
      knows_spare = f.knows_spare;
      lawful = subst (λ (h : Geometry). IsLawful (blocks_of h) (pages_of h) (λ b. length (pages.entries_of s b)) (pages.retired_of s)
          (role_in f.roles.items) f.open_block) (sym same) law;
      bounded = subst (λ (h : Geometry). f.counts.programs + f.counts.copies + f.counts.erases
          ≤ sum_by (weight (pages_of h)) (blocks_in s f.roles.items)) (sym same) (omega (arith, heavy, f.bounded));
    }

pub returns-clause-stock : goal.returns-clause-stock
unfolding next stock_of
returns-clause-stock c =
    let f = c.args.self.now in
    let s = c.forget.new.self in
    let by : List Block → Stock = λ blocks. record { blocks = blocks; programs = f.counts.programs; copies = f.counts.copies; erases = f.counts.erases } in
    ap (λ (blocks : List Block). Some (by blocks))
    (sym (blocks-forget f.store s f.roles.items c.args.sector f.roles_sized c.forget.ensures.entries c.forget.ensures.keeps))
