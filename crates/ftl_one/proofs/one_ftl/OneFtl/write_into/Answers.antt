use Rattle.std.proofs.Common.{◌≡◌, ◌≢◌, ◌∙◌, ℕ, ◌+◌, ◌<◌, ◌≤◌, Bool, true, cond, eqb, List, length, set, map, sum_by, Option, None, Some, sym, ap, refl, subst}
use Rattle.std.proofs.{Common.arith, Common.length-set, Common.get_or-set_same, Common.get_or-set_other, lemmas.List.length-map, lemmas.List.length_push}
use Rattle.std.proofs.lemmas.Bool.{eqb-true, eqb-false}
use Rattle.geometry.specs.{declared.geometry.Geometry.Geometry, Geometry.blocks_of, Geometry.pages_of, Geometry.hosts_of}
use Rattle.ftl_one.specs.{declared.role.Role.Role, Lawful.IsLawful, Lawful.role_in, Lawful.blocks_in, Lawful.weight, OneFtl.geometry_of, OneFtl.stock_of}
use Rattle.ftl_one.{specs.declared.role.Role.TheVariants.Closed, specs.declared.role.Role.TheVariants.Retired, proofs.Stores.entries_within}
use Rattle.ftl_one.specs.Stock.{Stock, Block, write_of, write_into, forget, change_at, with_page, closed_if_full, Entry, forgotten}
use Rattle.ftl_one.proofs.Lawful.{lawful-put, lawful-close, open≢spare, closed≢spare, spare-kept}
use Rattle.ftl_one.proofs.Layers.{blocks-put, weight-put, length-blocks, open_found, open_room, total_small, free-kept}
use Rattle.ftl_one.specs.Store as pages
use Rattle.ftl_one.proofs.one_ftl.OneFtl.write_into.Goals as goal
use Rattle.ftl_one.proofs.one_ftl.OneFtl.write_into.Goals.{After-put-was, After-is_full}

pub put-was-requires-clause-room : goal.put-was-requires-clause-room
put-was-requires-clause-room c = open_room c.args.self.now c.args.block c.requires.opened

pub overflow_add-self : goal.overflow_add-self
overflow_add-self c = omega (arith, total_small c.args.self.now)

pub is_full-requires : goal.is_full-requires
is_full-requires c = omega (arith, (open_found c.args.self.now c.args.block c.requires.opened).0, ap blocks_of c.put-was.ensures.puts.keeps.geometry)

pub index_mut-requires : goal.index_mut-requires
index_mut-requires c =
    let f = c.args.self.now in
    omega (arith, (open_found f c.args.block c.requires.opened).0, f.roles_sized, f.roles.ok.0)

-- the block has one more page
the_size : (c : After-put-was) → length (pages.entries_of c.put-was.new.self c.args.block) ≡ length (pages.entries_of c.args.self.now.store c.args.block) + 1
the_size c =
    let old = pages.entries_of c.args.self.now.store c.args.block in
    ap (λ (xs : List Entry). length xs) c.put-was.ensures.puts.changed
    ∙ (length_push (map (forgotten c.args.sector) old) (record { sector = c.args.sector; live = true })
    ∙ ap (λ (n : ℕ). n + 1) (length-map old (forgotten c.args.sector)))

other_sizes : (c : After-put-was) → (b : ℕ) → b < blocks_of (pages.geometry_of c.args.self.now.store) → b ≢ c.args.block
    → length (pages.entries_of c.put-was.new.self b) ≡ length (pages.entries_of c.args.self.now.store b)
other_sizes c b low apart =
    ap (λ (xs : List Entry). length xs) (c.put-was.ensures.puts.others b apart low)
    ∙ length-map (pages.entries_of c.args.self.now.store b) (forgotten c.args.sector)

-- the test for a full block, in the pages of the geometry
the_test : (c : After-is_full)
    → c.is_full.result ≡ eqb (length (pages.entries_of c.put-was.new.self c.args.block)) (pages_of (pages.geometry_of c.args.self.now.store))
the_test c = c.is_full.ensures
    ∙ ap (λ (h : Geometry). eqb (length (pages.entries_of c.put-was.new.self c.args.block)) (pages_of h)) c.put-was.ensures.puts.keeps.geometry

-- the blocks, with the roles that they have then
the_blocks : (c : After-is_full) (roles : List Role) → length roles ≡ length c.args.self.now.roles.items
    → role_in roles c.args.block ≡ cond c.is_full.result Closed (role_in c.args.self.now.roles.items c.args.block)
    → ((b : ℕ) → b ≢ c.args.block → role_in roles b ≡ role_in c.args.self.now.roles.items b)
    → blocks_in c.put-was.new.self roles
    ≡ change_at (map (forget c.args.sector) (blocks_in c.args.self.now.store c.args.self.now.roles.items)) c.args.block
    (λ block. closed_if_full (pages_of (pages.geometry_of c.args.self.now.store)) (with_page c.args.sector block))
the_blocks c roles same here there =
    let f = c.args.self.now in
    blocks-put f.store c.put-was.new.self f.roles.items roles c.args.block c.args.sector (pages_of (pages.geometry_of f.store)) f.roles_sized same
    (omega (arith, (open_found f c.args.block c.requires.opened).0, f.roles_sized)) c.put-was.ensures.puts
    (here ∙ ap (λ (t : Bool). cond t Closed (role_in f.roles.items c.args.block)) (the_test c)) there

the_weight : (c : After-is_full) (roles : List Role) → length roles ≡ length c.args.self.now.roles.items
    → role_in roles c.args.block ≡ cond c.is_full.result Closed (role_in c.args.self.now.roles.items c.args.block)
    → ((b : ℕ) → b ≢ c.args.block → role_in roles b ≡ role_in c.args.self.now.roles.items b)
    → c.args.self.now.counts.programs + 1 + c.args.self.now.counts.copies + c.args.self.now.counts.erases
    ≤ sum_by (weight (pages_of (pages.geometry_of c.put-was.new.self))) (blocks_in c.put-was.new.self roles)
the_weight c roles same here there =
    let f = c.args.self.now in
    let g = pages.geometry_of f.store in
    let heavy = ap (sum_by (weight (pages_of g))) (the_blocks c roles same here there)
    ∙ weight-put (pages_of g) c.args.sector c.args.block (blocks_in f.store f.roles.items)
    (omega (arith, (open_found f c.args.block c.requires.opened).0, f.roles_sized, length-blocks f.store f.roles.items)) in
    subst (λ (h : Geometry). f.counts.programs + 1 + f.counts.copies + f.counts.erases
    ≤ sum_by (weight (pages_of h)) (blocks_in c.put-was.new.self roles)) (sym c.put-was.ensures.puts.keeps.geometry)
    (omega (arith, heavy, f.bounded))

pub invariant_of-self : goal.invariant_of-self
invariant_of-self c =
    let f = c.args.self.now in
    let s = c.put-was.new.self in
    let g = pages.geometry_of f.store in
    let b = c.args.block in
    let put = (goal.at.invariant_of-self c).After-put-was in
    let full = (goal.at.invariant_of-self c).After-is_full in
    let same = c.put-was.ensures.puts.keeps.geometry in
    let found = open_found f b c.requires.opened in
    let low : b < length f.roles.items = omega (arith, found.0, f.roles_sized) in
    let new = set f.roles.items b Closed in
    let here : role_in new b ≡ Closed = get_or-set_same f.roles.items b Closed Retired low in
    let there : (k : ℕ) → k ≢ b → role_in new k ≡ role_in f.roles.items k = λ k apart. get_or-set_other f.roles.items b k Closed Retired apart in
    let last : length (pages.entries_of s b) ≡ pages_of g = eqb-true (length (pages.entries_of s b)) (pages_of g) (sym (the_test full) ∙ c.if-is_full.true) in
    let law = lawful-close (blocks_of g) (pages_of g) (λ k. length (pages.entries_of f.store k)) (pages.retired_of f.store)
    (role_in f.roles.items) f.open_block f.lawful
    (λ k. length (pages.entries_of s k)) (pages.retired_of s) (role_in new) b found.1 last (other_sizes put) c.put-was.ensures.puts.keeps.retired here there in
    record {
      one_thread = ap hosts_of same ∙ f.one_thread;
      roles_sized = length-set f.roles.items b Closed ∙ (f.roles_sized ∙ ap blocks_of (sym same));
      free_within = omega (arith, f.free_within, length-set f.roles.items b Closed);
      free_above = free-kept f.roles.items f.free_from b Closed f.free_above low refl;
      knows_spare = spare-kept (role_in f.roles.items) (role_in new) f.spare b f.knows_spare (λ h. open≢spare (role_in f.roles.items b) found.1 h)
          (λ h. closed≢spare (role_in new b) here h) there;
      lawful = subst (λ (h : Geometry). IsLawful (blocks_of h) (pages_of h) (λ k. length (pages.entries_of s k)) (pages.retired_of s)
          (role_in new) None) (sym same) law;
      bounded = the_weight full new (length-set f.roles.items b Closed)
          (here ∙ ap (λ (t : Bool). cond t Closed (role_in f.roles.items b)) (sym c.if-is_full.true)) there;
    }

pub invariant_of-self-else-is_full : goal.invariant_of-self-else-is_full
invariant_of-self-else-is_full c =
    let f = c.args.self.now in
    let s = c.put-was.new.self in
    let g = pages.geometry_of f.store in
    let b = c.args.block in
    let put = (goal.at.invariant_of-self-else-is_full c).After-put-was in
    let full = (goal.at.invariant_of-self-else-is_full c).After-is_full in
    let same = c.put-was.ensures.puts.keeps.geometry in
    let found = open_found f b c.requires.opened in
    let left = eqb-false (length (pages.entries_of s b)) (pages_of g) (sym (the_test full) ∙ c.if-is_full.false) in
    let room : length (pages.entries_of f.store b) + 1 < pages_of g =
    omega (arith, the_size put, left, entries_within s b (omega (arith, found.0, ap blocks_of same)), ap pages_of same) in
    let law = lawful-put (blocks_of g) (pages_of g) (λ k. length (pages.entries_of f.store k)) (pages.retired_of f.store)
    (role_in f.roles.items) f.open_block f.lawful
    (λ k. length (pages.entries_of s k)) (pages.retired_of s) b found.1 (the_size put) room (other_sizes put) c.put-was.ensures.puts.keeps.retired in
    record {
      one_thread = ap hosts_of same ∙ f.one_thread;
      roles_sized = f.roles_sized ∙ ap blocks_of (sym same);
      free_within = f.free_within;
      free_above = f.free_above;
      knows_spare = f.knows_spare;
      lawful = subst (λ (h : Geometry). IsLawful (blocks_of h) (pages_of h) (λ k. length (pages.entries_of s k)) (pages.retired_of s)
          (role_in f.roles.items) f.open_block) (sym same) law;
      bounded = the_weight full f.roles.items refl (ap (λ (t : Bool). cond t Closed (role_in f.roles.items b)) (sym c.if-is_full.false)) (λ k apart. refl);
    }

-- the stock with these blocks and one more program
the_stock : (c : After-is_full) (blocks : List Block)
    → blocks ≡ change_at (map (forget c.args.sector) (blocks_in c.args.self.now.store c.args.self.now.roles.items)) c.args.block
    (λ block. closed_if_full (pages_of (pages.geometry_of c.args.self.now.store)) (with_page c.args.sector block))
    → write_of (pages_of (geometry_of c.args.self.now)) c.args.sector (stock_of c.args.self.now)
    ≡ Some (record {
      blocks = blocks;
      programs = c.args.self.now.counts.programs + 1;
      copies = c.args.self.now.counts.copies;
      erases = c.args.self.now.counts.erases;
    })
unfolding stock_of geometry_of
the_stock c blocks e =
    let f = c.args.self.now in
    let by : List Block → Stock = λ xs. record { blocks = xs; programs = f.counts.programs + 1; copies = f.counts.copies; erases = f.counts.erases } in
    ap (λ (o : Option ℕ). write_into (pages_of (pages.geometry_of f.store)) c.args.sector
    (record { blocks = blocks_in f.store f.roles.items; programs = f.counts.programs; copies = f.counts.copies; erases = f.counts.erases }) o)
    c.requires.opened
    ∙ ap (λ (xs : List Block). Some (by xs)) (sym e)

pub returns-then-is_full-clause-stock : goal.returns-then-is_full-clause-stock
unfolding stock_of
returns-then-is_full-clause-stock c =
    let f = c.args.self.now in
    let b = c.args.block in
    let full = (goal.at.returns-then-is_full-clause-stock c).After-is_full in
    let low : b < length f.roles.items = omega (arith, (open_found f b c.requires.opened).0, f.roles_sized) in
    let new = set f.roles.items b Closed in
    the_stock full (blocks_in c.put-was.new.self new)
    (the_blocks full new (length-set f.roles.items b Closed)
    (get_or-set_same f.roles.items b Closed Retired low ∙ ap (λ (t : Bool). cond t Closed (role_in f.roles.items b)) (sym c.if-is_full.true))
    (λ k apart. get_or-set_other f.roles.items b k Closed Retired apart))

pub returns-else-is_full-clause-stock : goal.returns-else-is_full-clause-stock
unfolding stock_of
returns-else-is_full-clause-stock c =
    let f = c.args.self.now in
    let full = (goal.at.returns-else-is_full-clause-stock c).After-is_full in
    the_stock full (blocks_in c.put-was.new.self f.roles.items)
    (the_blocks full f.roles.items refl (ap (λ (t : Bool). cond t Closed (role_in f.roles.items c.args.block)) (sym c.if-is_full.false)) (λ k apart. refl))
