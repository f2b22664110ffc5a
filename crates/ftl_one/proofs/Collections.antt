-- The collection that a write makes is the one that was due.
use Rattle.std.proofs.Common.{◌≡◌, ◌≢◌, ℕ, ◌+◌, ◌<◌, ◌≤◌, Bool, true, false, cond, eqb, ltb, List, length, get_or, map, Option, None, Some, sym, ap, ◌∙◌, refl}
use Rattle.std.proofs.{Common.inl, Common.inr, Common.subst, Common.arith, Common.length-set, Common.zero-add, lemmas.List.Sums.position_or_len_is}
use Rattle.std.specs.{Prelude.is_some, Prelude.option_map, Option.option_and_then, List.position_or_len, List.range_with_len}
use Rattle.std.proofs.lemmas.List.{length-map, get_or-map, get_or_past, FromFn.get_or-range_with_len, FromFn.length-range_with_len, Quantifiers.position-Some}
use Rattle.std.proofs.lemmas.Bool.{false≢true, cases_lt, Decides.nat_tests}
use Rattle.geometry.specs.{Geometry.endurance_of, Geometry.pages_of, declared.geometry.Geometry.Geometry}
use Rattle.ftl_one.specs.declared.{collection.Collection.Collection, role.Role.TheVariants.Retired, role.Role.TheVariants.Spare}
use Rattle.ftl_one.specs.Collections.{collection_between, collection_due, collection_into, collection_of, copybacks_into, due_by, erased_between, was_erased}
use Rattle.ftl_one.{specs.Laws.block_at, specs.Laws.Collects, specs.Laws.ErasesNothing, proofs.Laws.victim_low, proofs.Laws.written}
use Rattle.ftl_one.specs.Stock.{Block, Stock, change_at, closed_if_full, collect, collected, emptied, filled, forget, free_of, is_open, is_retired, live_of}
use Rattle.ftl_one.specs.Stock.{open_of, opened, ready, ready_by, spare_of, unused, victim_of, with_page, write_into, write_of}
use Rattle.ftl_one.proofs.Laws.{Collects-then, ErasesNothing-then, change-here, change-there, collects, nothing_opened, same_some, none_some, victim_apart}

-- the first place of a range that passes a test
first_place : (p : ℕ → Bool) (n v : ℕ) → v ≤ n → ((k : ℕ) → k < v → p k ≡ false) → (v < n → p v ≡ true) → position_or_len p (range_with_len 0 n) ≡ v
first_place p n v low below here =
    position_or_len_is p (range_with_len 0 n) v 0 (omega (arith, length-range_with_len 0 n))
    (λ k under. ap p (get_or-range_with_len 0 n k 0 (omega arith) ∙ zero-add k) ∙ below k under)
    (λ inside. let at : v < n = omega (arith, inside, length-range_with_len 0 n) in ap p (get_or-range_with_len 0 n v 0 at ∙ zero-add v) ∙ here at)

place_some : (i n : ℕ) → i < n → cond (ltb i n) (Some i) None ≡ Some i
place_some i n low = grind (arith, nat_tests)

place_none : (n : ℕ) → cond (ltb n n) (Some n) None ≡ None
place_none n = grind (arith, nat_tests)

erased_here : (old new : Stock) (v : ℕ) → v < length old.blocks → was_erased old new v ≡ true → ((k : ℕ) → k < v → was_erased old new k ≡ false)
    → erased_between old new ≡ Some v
erased_here old new v low here below =
    let n = length old.blocks in
    let xs = range_with_len 0 n in
    ap (λ (i : ℕ). cond (ltb i (length xs)) (Some i) None) (first_place (was_erased old new) n v (omega arith) below (λ _. here))
    ∙ (ap (λ (m : ℕ). cond (ltb v m) (Some v) None) (length-range_with_len 0 n) ∙ place_some v n low)

erased_nowhere : (old new : Stock) → ((k : ℕ) → was_erased old new k ≡ false) → erased_between old new ≡ None
erased_nowhere old new none =
    let n = length old.blocks in
    let xs = range_with_len 0 n in
    ap (λ (i : ℕ). cond (ltb i (length xs)) (Some i) None) (first_place (was_erased old new) n n (omega arith) (λ k _. none k) (λ over. absurd (omega arith)))
    ∙ (ap (λ (m : ℕ). cond (ltb n m) (Some n) None) (length-range_with_len 0 n) ∙ place_none n)

not_less : (a b : ℕ) → b ≡ a → ltb a b ≡ false
not_less a b same = grind (arith, nat_tests)

one_more : (a b : ℕ) → b ≡ a + 1 → ltb a b ≡ true
one_more a b more = grind (arith, nat_tests)

-- where nothing is erased there is no collection
pub between_nothing : (geo : Geometry) (old new : Stock) → ErasesNothing old new → collection_between geo old new ≡ None
unfolding collection_between
between_nothing geo old new nothing =
    ap (option_map (collection_of geo old new)) (erased_nowhere old new (λ k. not_less (block_at old k).erases (block_at new k).erases (nothing.blocks k)))

-- and where one block is erased it is that block's
between_one : (geo : Geometry) (old new : Stock) (v : ℕ) → v < length old.blocks → Collects old new v
    → collection_between geo old new ≡ Some (collection_of geo old new v)
unfolding collection_between
between_one geo old new v low h =
    ap (option_map (collection_of geo old new)) (erased_here old new v low (one_more (block_at old v).erases (block_at new v).erases h.erased)
    (λ k under. not_less (block_at old k).erases (block_at new k).erases (h.others k (omega arith))))

map-role : (xs : List Block) (s c : ℕ) → (get_or (map (forget s) xs) c (unused Retired)).role ≡ (get_or xs c (unused Retired)).role
map-role xs s c = elim (cases_lt c (length xs)) [
  | inl low ↦ ap (λ (x : Block). x.role) (get_or-map (forget s) xs c (unused Retired) (unused Retired) low)
  | inr past ↦
      ap (λ (x : Block). x.role) (get_or_past (map (forget s) xs) c (unused Retired) (omega (arith, past, length-map xs (forget s))))
      ∙ ap (λ (x : Block). x.role) (sym (get_or_past xs c (unused Retired) past))
]

-- a page that is put leaves the role of each block that isn't open
role_kept : (pages s v : ℕ) (k new : Stock) (o : Option ℕ) → open_of k.blocks ≡ o → is_open (block_at k v).role ≡ false
    → write_into pages s k o ≡ Some new → (block_at new v).role ≡ (block_at k v).role
role_kept pages s v k new None is shut h = absurd (none_some new h)
role_kept pages s v k new (Some b) is shut h =
    let change : Block → Block = λ block. closed_if_full pages (with_page s block) in
    let after : Stock = record k { blocks = change_at (map (forget s) k.blocks) b change; programs = k.programs + 1 } in
    let found = position-Some (λ (block : Block). is_open block.role) k.blocks b (unused Retired) is in
    let apart : v ≢ b = λ e. false≢true (sym shut ∙ (ap (λ (i : ℕ). is_open (block_at k i).role) e ∙ found.1)) in
    ap (λ (x : Stock). (block_at x v).role) (sym (same_some after new h))
    ∙ (ap (λ (x : Block). x.role) (change-there (map (forget s) k.blocks) b v change apart) ∙ map-role k.blocks s v)

role_shut : (t : Bool) → is_open (cond t Retired Spare) ≡ false
role_shut true = refl
role_shut false = refl

role_retired : (t : Bool) → is_retired (cond t Retired Spare) ≡ t
role_retired true = refl
role_retired false = refl

abbrev pub the_collection : ℕ → ℕ → ℕ → ℕ → Bool → Collection
the_collection v copied copybacks erases retired = record { victim = v; copied = copied; copybacks = copybacks; erases = erases; retired = retired }

pub same_collection : (v a b c d e f : ℕ) (r t : Bool) → a ≡ b → c ≡ d → e ≡ f → r ≡ t → the_collection v a c e r ≡ the_collection v b d f t
same_collection v a b c d e f r t o p q s = cc

-- a collection into the spare, and then a page that is put
module _ (geo : Geometry) (pages s : ℕ) (k new : Stock) (spare v : ℕ) (is_spare_of : spare_of k.blocks ≡ Some spare) (chosen : victim_of k.blocks ≡ Some v)
    (puts : write_of pages s (collected (endurance_of geo) k spare v) ≡ Some new) where
  whole : Collects k new v
  whole = Collects-then k (collected (endurance_of geo) k spare v) new v (collects (endurance_of geo) k spare v is_spare_of chosen)
      (written pages s (collected (endurance_of geo) k spare v) new (open_of (collected (endurance_of geo) k spare v).blocks) puts)

  role_after : (block_at (collected (endurance_of geo) k spare v) v).role ≡ cond (eqb ((block_at k v).erases + 1) (endurance_of geo)) Retired Spare
  role_after =
      let taken = block_at k v in
      let ys : List Block = change_at k.blocks spare (filled taken) in
      ap (λ (x : Block). x.role)
      (change-here ys v (emptied (endurance_of geo))
      (omega (
        arith,
        victim_low (endurance_of geo) k spare v is_spare_of chosen,
        length-set k.blocks spare (filled taken (get_or k.blocks spare (unused Retired))),
      )))
      ∙ ap (λ (x : Block). cond (eqb (x.erases + 1) (endurance_of geo)) Retired Spare)
      (change-there k.blocks spare v (filled taken) (victim_apart (endurance_of geo) k spare v is_spare_of chosen))

  retired_after : is_retired (block_at new v).role ≡ eqb ((block_at k v).erases + 1) (endurance_of geo)
  retired_after =
      let shut : is_open (block_at (collected (endurance_of geo) k spare v) v).role ≡ false =
      ap is_open role_after ∙ role_shut (eqb ((block_at k v).erases + 1) (endurance_of geo)) in
      ap is_retired (role_kept pages s v (collected (endurance_of geo) k spare v) new
      (open_of (collected (endurance_of geo) k spare v).blocks) refl shut puts ∙ role_after)
      ∙ role_retired (eqb ((block_at k v).erases + 1) (endurance_of geo))

  pub collects_due : collection_between geo k new ≡ option_map (collection_into geo k spare) (victim_of k.blocks)
  collects_due =
      between_one geo k new v (victim_low (endurance_of geo) k spare v is_spare_of chosen) whole
      ∙ (ap Some (same_collection v (live_of (block_at k v)) (live_of (block_at k v)) (copybacks_into geo k v (spare_of k.blocks))
      (copybacks_into geo k v (Some spare)) (block_at new v).erases ((block_at k v).erases + 1)
      (is_retired (block_at new v).role) (eqb ((block_at k v).erases + 1) (endurance_of geo))
      refl (ap (copybacks_into geo k v) is_spare_of) whole.erased retired_after)
      ∙ ap (option_map (collection_into geo k spare)) (sym chosen))

due_into : (geo : Geometry) (pages s : ℕ) (k mid new : Stock) (spare : ℕ) (o : Option ℕ) → spare_of k.blocks ≡ Some spare → victim_of k.blocks ≡ o
    → collect (endurance_of geo) k spare o ≡ Some mid → write_of pages s mid ≡ Some new
    → collection_between geo k new ≡ option_map (collection_into geo k spare) (victim_of k.blocks)
due_into geo pages s k mid new spare None is chosen h puts = absurd (none_some mid h)
due_into geo pages s k mid new spare (Some v) is chosen h puts =
    collects_due geo pages s k new spare v is chosen
    (subst (λ (x : Stock). write_of pages s x ≡ Some new) (sym (same_some (collected (endurance_of geo) k spare v) mid h)) puts)

due-by : (geo : Geometry) (pages s : ℕ) (k mid new : Stock) (o f sp : Option ℕ) → spare_of k.blocks ≡ sp
    → ready_by (endurance_of geo) k o f sp ≡ Some mid → write_of pages s mid ≡ Some new
    → collection_between geo k new ≡ due_by geo k o f sp
due-by geo pages s k mid new (Some b) f sp is h puts =
    between_nothing geo k new (subst (λ (x : Stock). ErasesNothing x new) (sym (same_some k mid h)) (written pages s mid new (open_of mid.blocks) puts))
due-by geo pages s k mid new None (Some b) sp is h puts =
    between_nothing geo k new
    (ErasesNothing-then k mid new (subst (ErasesNothing k) (same_some (opened k b) mid h) (nothing_opened k b))
    (written pages s mid new (open_of mid.blocks) puts))
due-by geo pages s k mid new None None (Some spare) is h puts = due_into geo pages s k mid new spare (victim_of k.blocks) is refl h puts
due-by geo pages s k mid new None None None is h puts = absurd (none_some mid h)

-- the collection that a write makes is the one that was due
pub write-makes : (geo : Geometry) (s : ℕ) (k new : Stock) → option_and_then (write_of (pages_of geo) s) (ready (endurance_of geo) k) ≡ Some new
    → collection_between geo k new ≡ collection_due geo k
unfolding collection_due
write-makes geo s k new h = by (ready (endurance_of geo) k) refl h
  where
    by : (r : Option Stock) → ready (endurance_of geo) k ≡ r → option_and_then (write_of (pages_of geo) s) r ≡ Some new
        → collection_between geo k new ≡ collection_due geo k
    by None e g = absurd (none_some new g)
    by (Some mid) e g = due-by geo (pages_of geo) s k mid new (open_of k.blocks) (free_of k.blocks) (spare_of k.blocks) refl e g

-- what is due, by what is open, free and spare
pub due_is : (geo : Geometry) (k : Stock) (o f s : Option ℕ) → open_of k.blocks ≡ o → free_of k.blocks ≡ f → spare_of k.blocks ≡ s
    → collection_due geo k ≡ due_by geo k o f s
unfolding collection_due
due_is geo k o f s p q r =
    ap (λ (x : Option ℕ). due_by geo k x (free_of k.blocks) (spare_of k.blocks)) p
    ∙ (ap (λ (x : Option ℕ). due_by geo k o x (spare_of k.blocks)) q
    ∙ ap (λ (x : Option ℕ). due_by geo k o f x) r)

pub none_of : {X : Type 0} (o : Option X) → is_some o ≡ false → o ≡ None
none_of None h = refl
none_of (Some x) h = cc

-- nothing is due while a block is open
pub due_open : (geo : Geometry) (k : Stock) (o f s : Option ℕ) → is_some o ≡ true → due_by geo k o f s ≡ None
due_open geo k (Some b) f s h = refl
due_open geo k None f s h = cc

-- nor while one is free
pub due_free : (geo : Geometry) (k : Stock) (f s : Option ℕ) → is_some f ≡ true → due_by geo k None f s ≡ None
due_free geo k (Some b) s h = refl
due_free geo k None s h = cc
