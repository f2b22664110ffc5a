-- A collection: all blocks but the spare are closed, the victim has a dead page, and what stands after it.
use Rattle.std.proofs.Common.{◌≡◌, ◌≢◌, inl, inr, ℕ, zero, suc, ◌-◌, ◌*◌, ◌<◌, ◌≤◌, Bool, false, cond, List, [], ◌∷◌, length, get_or, map, sum, None, Some}
use Rattle.std.proofs.Common.{is_some, sym, ap, ◌∙◌, subst, arith, length-append}
use Rattle.std.proofs.lemmas.List.{length-map, get_or-map, get_or_past, Sums.sum_by-cons, Sums.count_by-le-length, Sums.length-filter}
use Rattle.std.proofs.lemmas.Bool.{false≢true, cases_lt}
use Rattle.geometry.{specs.Geometry.blocks_of, specs.Geometry.pages_of, specs.Greedy.IsGreedy, specs.Greedy.IsClosed, proofs.Choosing.greedy_of-best}
use Rattle.ftl_one.specs.declared.role.Role.{Role, TheVariants.Open, TheVariants.Closed, TheVariants.Spare, TheVariants.Retired}
use Rattle.ftl_one.specs.{declared.store.Store.Store, declared.one_ftl.OneFtl.OneFtl, Entries.live_count, Collections.IsFewest, OneFtl.stock_of}
use Rattle.ftl_one.specs.Stock.{Entry, live_entries, is_free, is_closed, open_of, free_of, spare_of, victim_of, is_retired}
use Rattle.ftl_one.specs.Store.{geometry_of, entries_of, retired_of, counts_of, HasRoomFor, Clears, ErasesBlock}
use Rattle.ftl_one.{specs.Lawful.IsLawful, specs.Lawful.role_in, specs.Lawful.has_pages, proofs.Stores.entries_within, proofs.Stores.count-entries_of}
use Rattle.ftl_one.proofs.Lawful.{closed_else, lawful-collect, closed≢spare}
use Rattle.ftl_one.proofs.Layers.{none_found, closed_by, open_of-stock, free_of-stock, spare_found, victim_of-stock}

-- a sum of terms that are at least m, but for one
sum_all : (xs : List ℕ) (m : ℕ) → ((k : ℕ) → k < length xs → m ≤ get_or xs k 0) → length xs * m ≤ sum xs
sum_all [] m most = omega arith
sum_all (x ∷ xs) m most =
    let first = most 0 (omega arith) in
    let others = sum_all xs m (λ k low. most (suc k) (omega arith)) in
    omega (arith, first, others, sum_by-cons (λ (n : ℕ). n) x xs)

sum_all_but : (xs : List ℕ) (a m : ℕ) → ((k : ℕ) → k < length xs → k ≢ a → m ≤ get_or xs k 0) → (length xs - 1) * m ≤ sum xs
sum_all_but [] a m most = omega arith
sum_all_but (x ∷ xs) zero m most =
    let others = sum_all xs m (λ k low. most (suc k) (omega arith) (λ e. omega (arith, e))) in
    let size : suc (length xs) - 1 ≡ length xs = omega arith in
    subst (λ (n : ℕ). n * m ≤ sum (x ∷ xs)) (sym size) (omega (arith, others, sum_by-cons (λ (n : ℕ). n) x xs))
sum_all_but (x ∷ []) (suc a) m most = omega arith
sum_all_but (x ∷ (y ∷ ys)) (suc a) m most =
    let first = most 0 (omega arith) (λ e. omega (arith, e)) in
    let others = sum_all_but (y ∷ ys) a m (λ k low apart. most (suc k) (omega arith) (λ e. apart (omega (arith, e)))) in
    let fewer : suc (length ys) - 1 ≡ length ys = omega arith in
    let size : suc (suc (length ys)) - 1 ≡ suc (length ys) = omega arith in
    let rest : length ys * m ≤ sum (y ∷ ys) = subst (λ (n : ℕ). n * m ≤ sum (y ∷ ys)) fewer others in
    let more : suc (length ys) * m ≤ sum (x ∷ (y ∷ ys)) = omega (arith, first, rest, sum_by-cons (λ (n : ℕ). n) x (y ∷ ys)) in
    subst (λ (n : ℕ). n * m ≤ sum (x ∷ (y ∷ ys))) (sym size) more

-- where a block is collected
module _ (f : OneFtl) (spare : ℕ) (none : open_of (stock_of f).blocks ≡ None) (no_free : free_of (stock_of f).blocks ≡ None)
    (is_spare : spare_of (stock_of f).blocks ≡ Some spare) where
  no_open : f.open_block ≡ None
  no_open = sym (open_of-stock f) ∙ none

  pub spare_within : spare < blocks_of (geometry_of f.store)
  spare_within = omega (arith, (spare_found f spare is_spare).0, f.roles_sized)

  pub spare_role : role_in f.roles.items spare ≡ Spare
  spare_role = (spare_found f spare is_spare).1

  -- every other block is closed
  pub all_closed : (b : ℕ) → b < blocks_of (geometry_of f.store) → b ≢ spare → role_in f.roles.items b ≡ Closed
  all_closed b low apart =
      closed_else (role_in f.roles.items b)
      (λ e. absurd (false≢true (sym (none_found is_free f.roles.items Retired (sym (free_of-stock f) ∙ no_free) b (omega (arith, low, f.roles_sized)))
      ∙ ap is_free e)))
      (λ e. clash b no_open (f.lawful.open_is b e))
      (λ e. apart (f.lawful.one_spare b spare e spare_role))
      (λ e. f.lawful.spare_last spare b low spare_role e)
    where
      clash : (k : ℕ) → f.open_block ≡ None → f.open_block ≡ Some k → ⊥
      clash k p q = cc

  mark_of : (b : ℕ) → b < blocks_of (geometry_of f.store) → get_or (map is_closed f.roles.items) b false ≡ is_closed (role_in f.roles.items b)
  mark_of b low = get_or-map is_closed f.roles.items b Retired false (omega (arith, low, f.roles_sized))

  pub marked : (b : ℕ) → b < blocks_of (geometry_of f.store) → b ≢ spare → IsClosed (map is_closed f.roles.items) b
  marked b low apart = mark_of b low ∙ ap is_closed (all_closed b low apart)

  -- a block that is marked is one of the device's, and closed
  pub victim_within : (b : ℕ) → IsClosed (map is_closed f.roles.items) b → b < blocks_of (geometry_of f.store)
  victim_within b is = elim (cases_lt b (blocks_of (geometry_of f.store))) [
    | inl low ↦ low
    | inr past ↦ absurd (false≢true
        (sym (get_or_past (map is_closed f.roles.items) b false (omega (arith, past, f.roles_sized, length-map f.roles.items is_closed))) ∙ is))
  ]

  pub victim_role : (b : ℕ) → IsClosed (map is_closed f.roles.items) b → role_in f.roles.items b ≡ Closed
  victim_role b is = closed_by (role_in f.roles.items b) (sym (mark_of b (victim_within b is)) ∙ is)

  pub victim_apart : (b : ℕ) → IsClosed (map is_closed f.roles.items) b → b ≢ spare
  victim_apart b is e = closed≢spare (role_in f.roles.items b) (victim_role b is) (ap (role_in f.roles.items) e ∙ spare_role)

  -- the block with the fewest live pages beside the spare is the greedy choice
  pub greedy_by : (v : ℕ) → IsFewest (counts_of f.store) spare v → IsGreedy (counts_of f.store) (map is_closed f.roles.items) v
  unfolding counts_of
  greedy_by v fewest =
      record {
        is_closed = marked v (omega (arith, fewest.within, f.store.mapped.live_size)) fewest.apart;
        least = λ k is. fewest.least k (omega (arith, victim_within k is, f.store.mapped.live_size)) (victim_apart k is);
        lowest = λ k low is. fewest.lowest k low (victim_apart k is);
      }

  -- which the stock's victim is
  pub victim_by : (v : ℕ) → IsFewest (counts_of f.store) spare v → victim_of (stock_of f).blocks ≡ Some v
  unfolding counts_of
  victim_by v fewest =
      victim_of-stock f
      ∙ greedy_of-best (counts_of f.store) (map is_closed f.roles.items)
      (omega (arith, f.store.mapped.live_size, f.roles_sized, length-map f.roles.items is_closed)) v (greedy_by v fewest)

  spare_empty : length (entries_of f.store spare) ≡ 0
  spare_empty = f.lawful.unused spare spare_within (ap has_pages spare_role)

  pub spare_room : (b : ℕ) → IsClosed (map is_closed f.roles.items) b → HasRoomFor f.store spare (live_count (entries_of f.store b))
  spare_room b is =
      let most : live_count (entries_of f.store b) ≤ length (entries_of f.store b) = count_by-le-length (λ (e : Entry). e.live) (entries_of f.store b) in
      record {
        within = spare_within;
        not_retired = f.lawful.usable spare spare_within ∙ ap is_retired spare_role;
        room = omega (arith, spare_empty, most, entries_within f.store b (victim_within b is));
      }

  -- the greedy victim has a dead page, for the sectors are fewer than the pages of the closed blocks
  pub few_live : (v : ℕ) → IsGreedy (counts_of f.store) (map is_closed f.roles.items) v → live_count (entries_of f.store v) < pages_of (geometry_of f.store)
  unfolding counts_of
  few_live v best = elim (cases_lt (live_count (entries_of f.store v)) (pages_of (geometry_of f.store))) [
    | inl few ↦ few
    | inr many ↦
        let g = geometry_of f.store in
        let s = f.store in
        let mine = count-entries_of s v (victim_within v best.is_closed) in
        let all = sum_all_but s.live.items spare (pages_of g) (λ k low apart.
        let within : k < blocks_of g = omega (arith, low, s.mapped.live_size) in
        omega (arith, many, mine, best.least k (marked k within apart))) in
        let size = ap (λ (n : ℕ). (n - 1) * pages_of g) s.mapped.live_size in
        let named = count_by-le-length is_some s.current.items in
        omega (arith, all, size, s.mapped.total, named, s.mapped.current_size, s.die.geometry.in_limits.one_thread f.one_thread)
  ]

  -- what the layer keeps true after it
  pub law_after : (mid new : Store) (v : ℕ) (failed : Bool) (role' : ℕ → Role) → IsGreedy (counts_of f.store) (map is_closed f.roles.items) v
      → Clears f.store mid v spare → ErasesBlock mid new v → retired_of new v ≡ failed → role' spare ≡ Open → role' v ≡ cond failed Retired Spare
      → ((c : ℕ) → c ≢ spare → c ≢ v → role' c ≡ role_in f.roles.items c)
      → IsLawful (blocks_of (geometry_of f.store)) (pages_of (geometry_of f.store)) (λ b. length (entries_of new b)) (retired_of new) role' (Some spare)
  law_after mid new v failed role' best clears erases is_failed opened done others =
      let g = geometry_of f.store in
      let apart = victim_apart v best.is_closed in
      let count = ap blocks_of clears.keeps.geometry in
      let moved : length (entries_of new spare) ≡ live_count (entries_of f.store v) =
      ap (λ (xs : List Entry). length xs) (erases.entries spare (λ e. apart (sym e)) (omega (arith, spare_within, count)) ∙ clears.copied)
      ∙ omega (
        arith,
        length-append (entries_of f.store spare) (live_entries (entries_of f.store v)),
        spare_empty,
        length-filter (λ (e : Entry). e.live) (entries_of f.store v),
      ) in
      lawful-collect (blocks_of g) (pages_of g) (λ b. length (entries_of f.store b)) (retired_of f.store) (role_in f.roles.items) f.open_block f.lawful
      (λ b. length (entries_of new b)) (retired_of new) role' spare v failed no_open spare_role (victim_role v best.is_closed)
      (omega (arith, moved, few_live v best))
      (ap (λ (xs : List Entry). length xs) erases.emptied)
      (λ c low first second. ap (λ (xs : List Entry). length xs) (erases.entries c second (omega (arith, low, count)) ∙ clears.others c first second low))
      is_failed
      (λ c low other. erases.others c other (omega (arith, low, count)) ∙ clears.keeps.retired c low)
      opened done others
