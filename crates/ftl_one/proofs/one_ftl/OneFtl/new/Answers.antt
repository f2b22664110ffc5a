use Rattle.std.proofs.Common.{◌≡◌, ◌∙◌, ℕ, ◌+◌, ◌-◌, ◌<◌, List, [], ◌∷◌, ◌++◌, length, set, replicate, None, Some, sym, ap, subst, arith, rules}
use Rattle.geometry.specs.Geometry.{blocks_of, pages_of, hosts_of}
use Rattle.ftl_one.specs.{declared.role.Role.Role, declared.role.Role.TheVariants.Free, declared.role.Role.TheVariants.Spare, Lawful.blocks_in, OneFtl.stock_of}
use Rattle.ftl_one.specs.{Stock.Stock, Stock.Block, Stock.opening, Stock.unused, Stock.Entry, Lawful.IsLawful, Lawful.KnowsSpare, Lawful.role_in}
use Rattle.ftl_one.proofs.Openings.{roles_new, roles_new-set, length-roles_new, lawful-new, spare_new, blocks_new}
use Rattle.ftl_one.specs.Store as pages
use Rattle.ftl_one.proofs.one_ftl.OneFtl.new.Goals as goal
use Rattle.ftl_one.proofs.one_ftl.OneFtl.new.Goals.{In_ok-roles}

-- the blocks but the spare
abbrev last_of : (c : In_ok-roles) → ℕ
last_of c = c.blocks-blocks.result - 1

the_count : (c : In_ok-roles) → c.blocks-blocks.result ≡ last_of c + 1
the_count c = omega (arith, c.blocks-blocks.ensures.low)

the_roles : (c : In_ok-roles) → set c.in_ok-roles.roles.items (last_of c) Spare ≡ roles_new (last_of c)
the_roles c =
    let fresh : c.in_ok-roles.roles.items ≡ replicate c.blocks-blocks.result Free = c.in_ok-roles.ensures.items_if_clones_equal (λ y h. search rules) in
    ap (λ (xs : List Role). set xs (last_of c) Spare) (fresh ∙ ap (λ (k : ℕ). replicate k Free) (the_count c)) ∙ roles_new-set (last_of c)

-- the blocks of the store
the_size : (c : In_ok-roles) → blocks_of (pages.geometry_of c.in_ok-store.store) ≡ last_of c + 1
the_size c = ap blocks_of c.in_ok-store.ensures.geometry ∙ (sym c.blocks-blocks.ensures.value ∙ the_count c)

pub invariant_of-result : goal.invariant_of-result
invariant_of-result c =
    let at_end = (goal.at.invariant_of-result c).In_ok-roles in
    let s = c.in_ok-store.store in
    let n = last_of at_end in
    let new = c.in_ok-store.ensures in
    let same = c.in_ok-store.ensures.geometry in
    let within : (b : ℕ) → b < n + 1 → b < blocks_of c.args.geometry.now = λ b low. omega (arith, low, the_count at_end, c.blocks-blocks.ensures.value) in
    let law = lawful-new n (pages_of (pages.geometry_of s)) (λ b. length (pages.entries_of s b)) (pages.retired_of s)
    (λ b low. ap (λ (xs : List Entry). length xs) (new.entries b (within b low))) (λ b low. new.retired b (within b low)) in
    record {
      one_thread = ap hosts_of same ∙ c.requires;
      roles_sized = ap (λ (xs : List Role). length xs) (the_roles at_end) ∙ (length-roles_new n ∙ sym (the_size at_end));
      free_within = omega arith;
      free_above = λ b below. absurd (omega (arith, below));
      knows_spare = subst (λ (xs : List Role). KnowsSpare (role_in xs) (Some n)) (sym (the_roles at_end)) (spare_new n);
      lawful = subst (λ (xs : List Role).
          IsLawful (blocks_of (pages.geometry_of s)) (pages_of (pages.geometry_of s)) (λ b. length (pages.entries_of s b)) (pages.retired_of s)
          (role_in xs) None) (sym (the_roles at_end))
          (subst (λ (k : ℕ). IsLawful k (pages_of (pages.geometry_of s)) (λ b. length (pages.entries_of s b)) (pages.retired_of s)
          (role_in (roles_new n)) None) (sym (the_size at_end)) law);
      bounded = omega arith;
    }

pub returns-clause-stock : goal.returns-clause-stock
unfolding stock_of opening
returns-clause-stock c =
    let at_end = (goal.at.returns-clause-stock c).In_ok-roles in
    let n = last_of at_end in
    let g = c.args.geometry.now in
    let by : List Block → Stock = λ blocks. record { blocks = blocks; programs = 0; copies = 0; erases = 0 } in
    let size : blocks_of g ≡ n + 1 = sym c.blocks-blocks.ensures.value ∙ the_count at_end in
    let less : n ≡ blocks_of g - 1 = omega (arith, size) in
    ap (λ (xs : List Role). by (blocks_in c.in_ok-store.store xs)) (the_roles at_end)
    ∙ (ap by (blocks_new c.in_ok-store.store g n size c.in_ok-store.ensures)
    ∙ ap (λ (k : ℕ). by (replicate k (unused Free) ++ unused Spare ∷ [])) less)
