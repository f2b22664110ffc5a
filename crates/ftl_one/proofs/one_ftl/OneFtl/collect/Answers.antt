use Rattle.std.proofs.Common.{◌≡◌, ◌≢◌, ◌∙◌, ℕ, ◌+◌, ◌<◌, ◌≤◌, Bool, true, false, cond, eqb, List, length, get_or, set, map, sum_by, Option, None, Some, sym}
use Rattle.std.proofs.Common.{ap, refl, subst, arith, length-set, get_or-set_same, get_or-set_other}
use Rattle.std.{specs.Vec.with_items, proofs.lemmas.List.with_items_is}
use Rattle.geometry.specs.{declared.geometry.Geometry.Geometry, Geometry.blocks_of, Geometry.pages_of, Geometry.endurance_of, Geometry.hosts_of}
use Rattle.geometry.specs.Greedy.{IsGreedy, IsClosed}
use Rattle.ftl_one.specs.declared.role.Role.{Role, TheVariants.Open, TheVariants.Spare, TheVariants.Retired}
use Rattle.ftl_one.specs.Stock.{Stock, Block, is_free, is_closed, is_retired, victim_of, collect, change_at, unused, live_of, filled, emptied}
use Rattle.ftl_one.specs.{Lawful.IsLawful, Lawful.KnowsSpare, Lawful.role_in, Lawful.blocks_in, Lawful.weight, OneFtl.geometry_of, OneFtl.stock_of}
use Rattle.ftl_one.proofs.Layers.{open_of-stock, blocks-collect, weight-collect, length-blocks, get_or-blocks, total_small, free-kept}
use Rattle.ftl_one.{specs.Store.counts_of, proofs.Lawful.spare-collected, specs.Collections.IsFewest}
use Rattle.ftl_one.proofs.Collecting.{spare_within, victim_within, victim_role, victim_apart, greedy_by, victim_by, spare_room, law_after}
use Rattle.ftl_one.specs.Store as pages
use Rattle.ftl_one.proofs.one_ftl.OneFtl.collect.Goals as goal
use Rattle.ftl_one.proofs.one_ftl.OneFtl.collect.Goals.{After-fewest_beside-victim, After-hand_over}

-- the victim has the fewest live pages beside the spare
the_fewest : (c : After-fewest_beside-victim) → IsFewest (counts_of c.args.self.now.store) c.args.spare c.fewest_beside-victim.result
the_fewest c = subst (λ (xs : List ℕ). IsFewest xs c.args.spare c.fewest_beside-victim.result) c.live.ensures.value c.fewest_beside-victim.ensures

-- so it is the greedy choice
the_best : (c : After-fewest_beside-victim)
    → IsGreedy (counts_of c.args.self.now.store) (map is_closed c.args.self.now.roles.items) c.fewest_beside-victim.result
the_best c = greedy_by c.args.self.now c.args.spare c.requires.none c.requires.no_free c.requires.spare c.fewest_beside-victim.result (the_fewest c)

pub fewest_beside-victim-requires-clause-left_out : goal.fewest_beside-victim-requires-clause-left_out
fewest_beside-victim-requires-clause-left_out c =
    omega (arith, spare_within c.args.self.now c.args.spare c.requires.none c.requires.no_free c.requires.spare, c.live.ensures.size)

pub clear-copies-requires-clause-room : goal.clear-copies-requires-clause-room
clear-copies-requires-clause-room c =
    let at_end = (goal.at.clear-copies-requires-clause-room c).After-fewest_beside-victim in
    spare_room c.args.self.now c.args.spare c.requires.none c.requires.no_free c.requires.spare c.fewest_beside-victim.result (the_best at_end).is_closed

-- the victim is in use
the_usable : (c : After-fewest_beside-victim) → pages.retired_of c.args.self.now.store c.fewest_beside-victim.result ≡ false
the_usable c =
    let f = c.args.self.now in
    let closed = (the_best c).is_closed in
    f.lawful.usable c.fewest_beside-victim.result
    (victim_within f c.args.spare c.requires.none c.requires.no_free c.requires.spare c.fewest_beside-victim.result closed)
    ∙ ap is_retired (victim_role f c.args.spare c.requires.none c.requires.no_free c.requires.spare c.fewest_beside-victim.result closed)

pub clear-copies-requires-clause-usable : goal.clear-copies-requires-clause-usable
clear-copies-requires-clause-usable c = the_usable (goal.at.clear-copies-requires-clause-usable c).After-fewest_beside-victim

pub erase-failed-requires-clause-usable : goal.erase-failed-requires-clause-usable
erase-failed-requires-clause-usable c =
    let f = c.args.self.now in
    let at_end = (goal.at.erase-failed-requires-clause-usable c).After-fewest_beside-victim in
    let low = victim_within f c.args.spare c.requires.none c.requires.no_free c.requires.spare c.fewest_beside-victim.result (the_best at_end).is_closed in
    c.clear-copies.ensures.clears.keeps.retired c.fewest_beside-victim.result low ∙ the_usable at_end

pub overflow_add-self : goal.overflow_add-self
overflow_add-self c =
    let f = c.args.self.now in
    omega (arith, total_small f, c.from.ensures, c.clear-copies.type_inv)

pub overflow_add-self-2 : goal.overflow_add-self-2
overflow_add-self-2 c = omega (arith, total_small c.args.self.now)

pub hand_over-requires-clause-spare : goal.hand_over-requires-clause-spare
hand_over-requires-clause-spare c =
    let f = c.args.self.now in
    omega (
      arith,
      spare_within f c.args.spare c.requires.none c.requires.no_free c.requires.spare,
      f.roles_sized,
      ap (λ (xs : List Role). length xs) c.deref_mut.ensures.value,
    )

-- the victim's role after its erase
abbrev after_erase : Bool → Role
after_erase failed = cond failed Retired Spare

-- the roles after the collection
abbrev roles_after : (c : After-hand_over) → List Role
roles_after c = set (set c.args.self.now.roles.items c.args.spare Open) c.fewest_beside-victim.result (after_erase c.erase-failed.result)

the_roles : (c : After-hand_over) → (with_items c.args.self.now.roles c.hand_over.new.roles).items ≡ roles_after c
the_roles c =
    let f = c.args.self.now in
    let now : c.hand_over.new.roles ≡ roles_after c =
    c.hand_over.ensures ∙ ap (λ (xs : List Role).
    set (set xs c.args.spare Open) c.fewest_beside-victim.result (after_erase c.erase-failed.result)) c.deref_mut.ensures.value in
    with_items_is f.roles c.hand_over.new.roles
    (omega (
      arith,
      ap (λ (xs : List Role). length xs) now,
      length-set (set f.roles.items c.args.spare Open) c.fewest_beside-victim.result (after_erase c.erase-failed.result),
      length-set f.roles.items c.args.spare Open,
      f.roles.ok.0,
    )) ∙ now

not_free : (failed : Bool) → is_free (after_erase failed) ≡ false
not_free true = refl
not_free false = refl

-- whether the erase fails, by the victim's erases before
the_failure : (c : After-hand_over) → c.fewest_beside-victim.result < blocks_of (pages.geometry_of c.args.self.now.store)
    → c.erase-failed.result ≡ eqb (pages.erases_of c.args.self.now.store c.fewest_beside-victim.result + 1)
    (endurance_of (pages.geometry_of c.args.self.now.store))
the_failure c low =
    let v = c.fewest_beside-victim.result in
    let f = c.args.self.now in
    c.erase-failed.ensures.failed
    ∙ (ap (λ (n : ℕ). eqb (n + 1) (endurance_of (pages.geometry_of c.clear-copies.new.self))) (c.clear-copies.ensures.clears.keeps.erases v low)
    ∙ ap (λ (h : Geometry). eqb (pages.erases_of f.store v + 1) (endurance_of h)) c.clear-copies.ensures.clears.keeps.geometry)

-- the roles, place by place
role_victim : (c : After-hand_over) → c.fewest_beside-victim.result < length c.args.self.now.roles.items
    → role_in (roles_after c) c.fewest_beside-victim.result ≡ after_erase c.erase-failed.result
role_victim c low =
    let f = c.args.self.now in
    get_or-set_same (set f.roles.items c.args.spare Open) c.fewest_beside-victim.result (after_erase c.erase-failed.result) Retired
    (omega (arith, low, length-set f.roles.items c.args.spare Open))

role_spare : (c : After-hand_over) → c.args.spare < length c.args.self.now.roles.items → c.fewest_beside-victim.result ≢ c.args.spare
    → role_in (roles_after c) c.args.spare ≡ Open
role_spare c low apart =
    let f = c.args.self.now in
    get_or-set_other (set f.roles.items c.args.spare Open) c.fewest_beside-victim.result c.args.spare (after_erase c.erase-failed.result) Retired
    (λ e. apart (sym e))
    ∙ get_or-set_same f.roles.items c.args.spare Open Retired low

role_others : (c : After-hand_over) → (b : ℕ) → b ≢ c.args.spare → b ≢ c.fewest_beside-victim.result
    → role_in (roles_after c) b ≡ role_in c.args.self.now.roles.items b
role_others c b first second =
    let f = c.args.self.now in
    get_or-set_other (set f.roles.items c.args.spare Open) c.fewest_beside-victim.result b (after_erase c.erase-failed.result) Retired second
    ∙ get_or-set_other f.roles.items c.args.spare b Open Retired first

roles-size : (c : After-hand_over) → length (roles_after c) ≡ length c.args.self.now.roles.items
roles-size c =
    let f = c.args.self.now in
    length-set (set f.roles.items c.args.spare Open) c.fewest_beside-victim.result (after_erase c.erase-failed.result)
    ∙ length-set f.roles.items c.args.spare Open

-- the blocks after the collection
the_blocks : (c : After-hand_over) → IsClosed (map is_closed c.args.self.now.roles.items) c.fewest_beside-victim.result
    → blocks_in c.erase-failed.new.self (roles_after c)
    ≡ change_at (change_at (blocks_in c.args.self.now.store c.args.self.now.roles.items) c.args.spare
    (filled (get_or (blocks_in c.args.self.now.store c.args.self.now.roles.items) c.fewest_beside-victim.result (unused Retired))))
    c.fewest_beside-victim.result (emptied (endurance_of (pages.geometry_of c.args.self.now.store)))
the_blocks c is =
    let f = c.args.self.now in
    let v = c.fewest_beside-victim.result in
    let low = victim_within f c.args.spare c.requires.none c.requires.no_free c.requires.spare v is in
    let apart = victim_apart f c.args.spare c.requires.none c.requires.no_free c.requires.spare v is in
    let v_in : v < length f.roles.items = omega (arith, low, f.roles_sized) in
    let s_in : c.args.spare < length f.roles.items =
    omega (arith, spare_within f c.args.spare c.requires.none c.requires.no_free c.requires.spare, f.roles_sized) in
    blocks-collect f.store c.clear-copies.new.self c.erase-failed.new.self f.roles.items (roles_after c) c.args.spare v
    (endurance_of (pages.geometry_of f.store)) f.roles_sized (roles-size c) s_in v_in apart
    c.clear-copies.ensures.clears c.erase-failed.ensures.erases (role_spare c s_in apart)
    (role_victim c v_in ∙ ap after_erase (the_failure c low)) (role_others c)

-- the geometry is as before
the_geometry : (c : After-hand_over) → pages.geometry_of c.erase-failed.new.self ≡ pages.geometry_of c.args.self.now.store
the_geometry c = c.erase-failed.ensures.erases.geometry ∙ c.clear-copies.ensures.clears.keeps.geometry

-- the pages that were copied are the victim's live ones
the_copies : (c : After-hand_over) → IsClosed (map is_closed c.args.self.now.roles.items) c.fewest_beside-victim.result
    → live_of (get_or (blocks_in c.args.self.now.store c.args.self.now.roles.items) c.fewest_beside-victim.result (unused Retired)) ≡ c.from.result
the_copies c is =
    let f = c.args.self.now in
    let v = c.fewest_beside-victim.result in
    let low : v < length f.roles.items = omega (arith, victim_within f c.args.spare c.requires.none c.requires.no_free c.requires.spare v is, f.roles_sized) in
    ap live_of (get_or-blocks f.store f.roles.items v (unused Retired) low) ∙ (sym c.clear-copies.ensures.copies ∙ sym c.from.ensures)

pub invariant_of-self : goal.invariant_of-self
invariant_of-self c =
    let f = c.args.self.now in
    let v = c.fewest_beside-victim.result in
    let spare = c.args.spare in
    let new = c.erase-failed.new.self in
    let g = pages.geometry_of f.store in
    let at_end = (goal.at.invariant_of-self c).After-hand_over in
    let best = the_best (goal.at.invariant_of-self c).After-fewest_beside-victim in
    let same = the_geometry at_end in
    let low = victim_within f spare c.requires.none c.requires.no_free c.requires.spare v best.is_closed in
    let apart = victim_apart f spare c.requires.none c.requires.no_free c.requires.spare v best.is_closed in
    let v_in : v < length f.roles.items = omega (arith, low, f.roles_sized) in
    let s_in : spare < length f.roles.items = omega (arith, spare_within f spare c.requires.none c.requires.no_free c.requires.spare, f.roles_sized) in
    let roles = the_roles at_end in
    let failed : pages.retired_of new v ≡ c.erase-failed.result = c.erase-failed.ensures.erases.retired ∙ sym c.erase-failed.ensures.failed in
    let law = law_after f spare c.requires.none c.requires.no_free c.requires.spare c.clear-copies.new.self new v c.erase-failed.result
    (role_in (roles_after at_end)) best c.clear-copies.ensures.clears c.erase-failed.ensures.erases failed
    (role_spare at_end s_in apart) (role_victim at_end v_in) (role_others at_end) in
    let full : length (get_or (blocks_in f.store f.roles.items) v (unused Retired)).entries ≡ pages_of g =
    ap (λ (b : Block). length b.entries) (get_or-blocks f.store f.roles.items v (unused Retired) v_in)
    ∙ f.lawful.full v (victim_role f spare c.requires.none c.requires.no_free c.requires.spare v best.is_closed) in
    let size = length-blocks f.store f.roles.items in
    let heavy = ap (sum_by (weight (pages_of g))) (the_blocks at_end best.is_closed)
    ∙ weight-collect (pages_of g) (endurance_of g) spare v (blocks_in f.store f.roles.items) (omega (arith, s_in, size))
    (omega (arith, v_in, size)) apart full in
    let copies = the_copies at_end best.is_closed in
    record {
      one_thread = ap hosts_of same ∙ f.one_thread;
      roles_sized = ap (λ (xs : List Role). length xs) roles ∙ (roles-size at_end ∙ (f.roles_sized ∙ ap blocks_of (sym same)));
      free_within = omega (arith, f.free_within, ap (λ (xs : List Role). length xs) roles, roles-size at_end);
      free_above = subst (λ (xs : List Role). (b : ℕ) → b < f.free_from → is_free (role_in xs b) ≡ false) (sym roles)
          (free-kept (set f.roles.items spare Open) f.free_from v (after_erase c.erase-failed.result)
          (free-kept f.roles.items f.free_from spare Open f.free_above s_in refl) (omega (arith, v_in, length-set f.roles.items spare Open))
          (not_free c.erase-failed.result));
      knows_spare = subst (λ (o : Option ℕ). KnowsSpare (role_in (with_items f.roles c.hand_over.new.roles).items) o) (sym c.next_spare-self.ensures)
          (subst (λ (xs : List Role). KnowsSpare (role_in xs) (cond c.erase-failed.result None (Some v))) (sym roles)
          (spare-collected (blocks_of g) (pages_of g) (λ k. length (pages.entries_of new k)) (pages.retired_of new) (role_in (roles_after at_end))
          (Some spare) v c.erase-failed.result law low (role_victim at_end v_in)));
      lawful = subst (λ (h : Geometry). IsLawful (blocks_of h) (pages_of h) (λ k. length (pages.entries_of new k)) (pages.retired_of new)
          (role_in (with_items f.roles c.hand_over.new.roles).items) (Some spare)) (sym same)
          (subst (λ (xs : List Role). IsLawful (blocks_of g) (pages_of g) (λ k. length (pages.entries_of new k)) (pages.retired_of new) (role_in xs)
          (Some spare)) (sym roles) law);
      bounded = subst (λ (h : Geometry). f.counts.programs + (f.counts.copies + c.from.result) + (f.counts.erases + 1)
          ≤ sum_by (weight (pages_of h)) (blocks_in new (with_items f.roles c.hand_over.new.roles).items)) (sym same)
          (subst (λ (xs : List Role). f.counts.programs + (f.counts.copies + c.from.result) + (f.counts.erases + 1)
          ≤ sum_by (weight (pages_of g)) (blocks_in new xs)) (sym roles)
          (omega (arith, heavy, copies, f.bounded)));
    }

pub returns-clause-geometry : goal.returns-clause-geometry
unfolding geometry_of
returns-clause-geometry c = the_geometry (goal.at.returns-clause-geometry c).After-hand_over

pub returns-clause-stock : goal.returns-clause-stock
unfolding stock_of geometry_of
returns-clause-stock c =
    let f = c.args.self.now in
    let v = c.fewest_beside-victim.result in
    let E = endurance_of (pages.geometry_of f.store) in
    let at_end = (goal.at.returns-clause-stock c).After-hand_over in
    let best = the_best (goal.at.returns-clause-stock c).After-fewest_beside-victim in
    let k : Stock = record { blocks = blocks_in f.store f.roles.items; programs = f.counts.programs; copies = f.counts.copies; erases = f.counts.erases } in
    let by : List Block → ℕ → Stock =
    λ blocks copies. record { blocks = blocks; programs = f.counts.programs; copies = f.counts.copies + copies; erases = f.counts.erases + 1 } in
    let fewest = the_fewest (goal.at.returns-clause-stock c).After-fewest_beside-victim in
    let chosen : victim_of (blocks_in f.store f.roles.items) ≡ Some v = victim_by f c.args.spare c.requires.none c.requires.no_free c.requires.spare v fewest in
    ap (λ (o : Option ℕ). collect E k c.args.spare o) chosen
    ∙ (ap (λ (xs : List Block). Some (by xs (live_of (get_or (blocks_in f.store f.roles.items) v (unused Retired)))))
    (sym (the_blocks at_end best.is_closed) ∙ ap (blocks_in c.erase-failed.new.self) (sym (the_roles at_end)))
    ∙ ap (λ (n : ℕ). Some (by (blocks_in c.erase-failed.new.self (with_items f.roles c.hand_over.new.roles).items) n)) (the_copies at_end best.is_closed))

pub returns-clause-opened : goal.returns-clause-opened
returns-clause-opened c = open_of-stock _
