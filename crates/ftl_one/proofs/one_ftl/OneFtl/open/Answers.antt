use Rattle.std.proofs.Common.{◌≡◌, ◌≢◌, inl, inr, ◌∙◌, ℕ, ◌<◌, List, length, set, sum_by, sym, ap, arith, length-set, get_or-set_same, get_or-set_other}
use Rattle.std.proofs.lemmas.Bool.{cases_eq}
use Rattle.geometry.specs.Geometry.{blocks_of, pages_of}
use Rattle.ftl_one.specs.declared.{role.Role.Role, role.Role.TheVariants.Open, role.Role.TheVariants.Retired, one_ftl.OneFtl.OneFtl}
use Rattle.ftl_one.specs.{Stock.Stock, Stock.Block, Stock.is_free, Stock.change_at, Lawful.role_in, Lawful.blocks_in, Lawful.weight, OneFtl.stock_of}
use Rattle.ftl_one.proofs.Lawful.{lawful-open, free≢spare, open≢spare, spare-kept}
use Rattle.ftl_one.proofs.Layers.{open_of-stock, blocks-role, weight-role, length-blocks, free_found, none_below}
use Rattle.ftl_one.specs.Store as pages
use Rattle.ftl_one.proofs.one_ftl.OneFtl.open.Goals as goal

pub index_mut-requires : goal.index_mut-requires
index_mut-requires c = omega (arith, (free_found c.args.self.now c.args.block c.requires.free).0, c.args.self.now.roles.ok.0)

-- the roles then
abbrev roles_open : OneFtl → ℕ → List Role
roles_open f b = set f.roles.items b Open

others_kept : (f : OneFtl) (b k : ℕ) → k ≢ b → role_in (roles_open f b) k ≡ role_in f.roles.items k
others_kept f b k apart = get_or-set_other f.roles.items b k Open Retired apart

the_blocks : (f : OneFtl) (b : ℕ) → b < length f.roles.items
    → blocks_in f.store (roles_open f b) ≡ change_at (blocks_in f.store f.roles.items) b (λ block. record block { role = Open })
the_blocks f b low =
    let roles = f.roles.items in
    blocks-role f.store roles (roles_open f b) b Open (length-set roles b Open) low (get_or-set_same roles b Open Retired low) (others_kept f b)

pub invariant_of-self : goal.invariant_of-self
invariant_of-self c =
    let f = c.args.self.now in
    let s = f.store in
    let g = pages.geometry_of s in
    let b = c.args.block in
    let new = roles_open f b in
    let found = free_found f b c.requires.free in
    let here : role_in new b ≡ Open = get_or-set_same f.roles.items b Open Retired found.0 in
    let heavy : sum_by (weight (pages_of g)) (blocks_in s new) ≡ sum_by (weight (pages_of g)) (blocks_in s f.roles.items) =
    ap (sum_by (weight (pages_of g))) (the_blocks f b found.0)
    ∙ weight-role (pages_of g) b Open (blocks_in s f.roles.items) (omega (arith, found.0, length-blocks s f.roles.items)) in
    record {
      one_thread = f.one_thread;
      roles_sized = length-set f.roles.items b Open ∙ f.roles_sized;
      free_within = omega (arith, found.0, length-set f.roles.items b Open);
      free_above = λ k below. elim (cases_eq k b) [
        | inl e ↦ ap is_free (ap (role_in new) e ∙ here)
        | inr apart ↦ ap is_free (others_kept f b k apart) ∙ none_below f b c.requires.free k (omega (arith, below, apart))
      ];
      knows_spare = spare-kept (role_in f.roles.items) (role_in new) f.spare b f.knows_spare (λ h. free≢spare (role_in f.roles.items b) found.1 h)
          (λ h. open≢spare (role_in new b) here h) (others_kept f b);
      lawful = lawful-open (blocks_of g) (pages_of g) (λ k. length (pages.entries_of s k)) (pages.retired_of s)
          (role_in f.roles.items) f.open_block f.lawful (role_in new) b
          (omega (arith, s.die.geometry.in_limits.pages_low)) (omega (arith, found.0, f.roles_sized))
          (sym (open_of-stock f) ∙ c.requires.none) found.1 here (others_kept f b);
      bounded = omega (arith, heavy, f.bounded);
    }

pub returns-clause-stock : goal.returns-clause-stock
unfolding stock_of
returns-clause-stock c =
    let f = c.args.self.now in
    let by : List Block → Stock = λ blocks. record { blocks = blocks; programs = f.counts.programs; copies = f.counts.copies; erases = f.counts.erases } in
    ap by (the_blocks f c.args.block (free_found f c.args.block c.requires.free).0)

pub returns-clause-opened : goal.returns-clause-opened
returns-clause-opened c = open_of-stock _
