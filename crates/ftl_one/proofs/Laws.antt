-- What the stock's definition gives of a write: at most one block is collected, and it is a closed one with the
-- fewest live pages.
use Rattle.std.proofs.Common.{◌≡◌, ◌≢◌, ◌⊎◌, inl, inr, ℕ, ◌+◌, ◌<◌, Bool, true, false, cond, eqb, List, length, get_or, map, Option, None, Some, sym, ap, ◌∙◌}
use Rattle.std.proofs.Common.{refl, subst, arith, length-set, get_or-set_same, get_or-set_other}
use Rattle.std.specs.Option.{option_and_then}
use Rattle.std.proofs.lemmas.{List.length-map, List.get_or-map, List.get_or_past, Bool.false≢true, Bool.cases_eq, Bool.cases_lt, List.Quantifiers.position-Some}
use Rattle.geometry.proofs.Choosing.{greedy_of-closed, greedy_of-least}
use Rattle.ftl_one.specs.declared.role.Role.{Role, TheVariants.Open, TheVariants.Closed, TheVariants.Spare, TheVariants.Retired}
use Rattle.ftl_one.specs.Stock.{Stock, Block, unused, live_of, is_closed, is_spare, open_of, free_of, spare_of, victim_of, forget, with_page, closed_if_full}
use Rattle.ftl_one.specs.Stock.{change_at, filled, emptied, opened, collected, collect, ready_by, ready, write_into, write_of}
use Rattle.ftl_one.{specs.Laws.block_at, specs.Laws.ErasesNothing, specs.Laws.Collects, proofs.Layers.closed_by, proofs.Layers.spare_by}

-- a change of one block, place by place
pub change-here : (xs : List Block) (b : ℕ) (h : Block → Block) → b < length xs
    → get_or (change_at xs b h) b (unused Retired) ≡ h (get_or xs b (unused Retired))
change-here xs b h low = get_or-set_same xs b (h (get_or xs b (unused Retired))) (unused Retired) low

pub change-there : (xs : List Block) (b c : ℕ) (h : Block → Block) → c ≢ b → get_or (change_at xs b h) c (unused Retired) ≡ get_or xs c (unused Retired)
change-there xs b c h apart = get_or-set_other xs b c (h (get_or xs b (unused Retired))) (unused Retired) apart

-- a change that keeps each block's erases keeps them in the list
change-erases : (xs : List Block) (b c : ℕ) (h : Block → Block) → ((x : Block) → (h x).erases ≡ x.erases)
    → (get_or (change_at xs b h) c (unused Retired)).erases ≡ (get_or xs c (unused Retired)).erases
change-erases xs b c h same = elim (cases_eq c b) [
  | inr apart ↦ ap (λ (x : Block). x.erases) (change-there xs b c h apart)
  | inl e ↦ elim (cases_lt b (length xs)) [
    | inl low ↦ ap (λ (k : ℕ). (get_or (change_at xs b h) k (unused Retired)).erases) e
        ∙ (ap (λ (x : Block). x.erases) (change-here xs b h low)
        ∙ (same (get_or xs b (unused Retired)) ∙ ap (λ (k : ℕ). (get_or xs k (unused Retired)).erases) (sym e)))
    | inr past ↦
        ap (λ (x : Block). x.erases)
        (get_or_past (change_at xs b h) c (unused Retired) (omega (arith, past, e, length-set xs b (h (get_or xs b (unused Retired))))))
        ∙ ap (λ (x : Block). x.erases) (sym (get_or_past xs c (unused Retired) (omega (arith, past, e))))
  ]
]

pub map-erases : (xs : List Block) (s c : ℕ) → (get_or (map (forget s) xs) c (unused Retired)).erases ≡ (get_or xs c (unused Retired)).erases
map-erases xs s c = elim (cases_lt c (length xs)) [
  | inl low ↦ ap (λ (x : Block). x.erases) (get_or-map (forget s) xs c (unused Retired) (unused Retired) low)
  | inr past ↦
      ap (λ (x : Block). x.erases) (get_or_past (map (forget s) xs) c (unused Retired) (omega (arith, past, length-map xs (forget s))))
      ∙ ap (λ (x : Block). x.erases) (sym (get_or_past xs c (unused Retired) past))
]

closed-erases : (pages : ℕ) (x : Block) → (closed_if_full pages x).erases ≡ x.erases
closed-erases pages x = by (eqb (length x.entries) pages)
  where
    by : (t : Bool) → (cond t (record x { role = Closed }) x).erases ≡ x.erases
    by true = refl
    by false = refl

-- a page that is put erases nothing and relocates nothing
pub written : (pages s : ℕ) (k k' : Stock) (o : Option ℕ) → write_into pages s k o ≡ Some k' → ErasesNothing k k'
written pages s k k' None h = absurd (none_some h)
  where
    none_some : None ≡ Some k' → ⊥
    none_some e = cc
written pages s k k' (Some b) h =
    let new : Stock = record k {
      blocks = change_at (map (forget s) k.blocks) b (λ block. closed_if_full pages (with_page s block));
      programs = k.programs + 1;
    } in
    let is : new ≡ k' = same_some new h in
    subst (λ (x : Stock). ErasesNothing k x) is (record {
      blocks = λ c. change-erases (map (forget s) k.blocks) b c (λ block. closed_if_full pages (with_page s block))
          (λ x. closed-erases pages (with_page s x)) ∙ map-erases k.blocks s c;
      erases = refl;
      copies = refl;
    })
  where
    same_some : (x : Stock) → Some x ≡ Some k' → x ≡ k'
    same_some x e = cc

-- what was collected before a page is put, was collected
pub Collects-then : (old mid new : Stock) (v : ℕ) → Collects old mid v → ErasesNothing mid new → Collects old new v
Collects-then old mid new v h more =
    record {
      closed = h.closed;
      fewest = h.fewest;
      erased = more.blocks v ∙ h.erased;
      others = λ b apart. more.blocks b ∙ h.others b apart;
      erases = more.erases ∙ h.erases;
      copies = more.copies ∙ h.copies;
    }

pub ErasesNothing-then : (old mid new : Stock) → ErasesNothing old mid → ErasesNothing mid new → ErasesNothing old new
ErasesNothing-then old mid new h more =
    record { blocks = λ b. more.blocks b ∙ h.blocks b; erases = more.erases ∙ h.erases; copies = more.copies ∙ h.copies }

-- a collection into the spare
module _ (endurance : ℕ) (k : Stock) (spare v : ℕ) (is_spare_of : spare_of k.blocks ≡ Some spare) (chosen : victim_of k.blocks ≡ Some v) where
  found_spare : (spare < length k.blocks) × ((block_at k spare).role ≡ Spare)
  found_spare =
      let found = position-Some (λ (block : Block). is_spare block.role) k.blocks spare (unused Retired) is_spare_of in
      (found.0, spare_by (block_at k spare).role found.1)

  sizes : length (map live_of k.blocks) ≡ length (map (λ block. is_closed block.role) k.blocks)
  sizes = length-map k.blocks live_of ∙ sym (length-map k.blocks (λ (block : Block). is_closed block.role))

  pub victim_low : v < length k.blocks
  victim_low = elim (cases_lt v (length k.blocks)) [
    | inl low ↦ low
    | inr past ↦ absurd (false≢true
        (sym (get_or_past (map (λ block. is_closed block.role) k.blocks) v false
        (omega (arith, past, length-map k.blocks (λ (block : Block). is_closed block.role))))
        ∙ greedy_of-closed (map live_of k.blocks) (map (λ block. is_closed block.role) k.blocks) sizes v chosen))
  ]

  victim_closed : (block_at k v).role ≡ Closed
  victim_closed =
      closed_by (block_at k v).role
      (sym (get_or-map (λ (block : Block). is_closed block.role) k.blocks v (unused Retired) false victim_low)
      ∙ greedy_of-closed (map live_of k.blocks) (map (λ block. is_closed block.role) k.blocks) sizes v chosen)

  pub victim_apart : v ≢ spare
  victim_apart e = clash (block_at k v).role victim_closed (ap (λ (b : ℕ). (block_at k b).role) e ∙ found_spare.1)
    where
      clash : (r : Role) → r ≡ Closed → r ≡ Spare → ⊥
      clash r p q = cc

  closed_low : (b : ℕ) → (block_at k b).role ≡ Closed → b < length k.blocks
  closed_low b is = elim (cases_lt b (length k.blocks)) [
    | inl low ↦ low
    | inr past ↦ absurd (clash (sym (ap (λ (x : Block). x.role) (get_or_past k.blocks b (unused Retired) past)) ∙ is))
  ]
    where
      clash : Retired ≡ Closed → ⊥
      clash h = cc

  pub collects : Collects k (collected endurance k spare v) v
  collects =
      let taken = block_at k v in
      let xs = k.blocks in
      let ys : List Block = change_at xs spare (filled taken) in
      record {
        closed = victim_closed;
        fewest = λ b is.
            let low = closed_low b is in
            let shut : get_or (map (λ block. is_closed block.role) xs) b false ≡ true =
            get_or-map (λ (block : Block). is_closed block.role) xs b (unused Retired) false low ∙ ap is_closed is in
            let least = greedy_of-least (map live_of xs) (map (λ block. is_closed block.role) xs) sizes v chosen b shut in
            omega (arith, least, get_or-map live_of xs v (unused Retired) 0 victim_low, get_or-map live_of xs b (unused Retired) 0 low);
        erased =
            ap (λ (x : Block). x.erases)
            (change-here ys v (emptied endurance) (omega (arith, victim_low, length-set xs spare (filled taken (get_or xs spare (unused Retired))))))
            ∙ ap (λ (x : Block). x.erases + 1) (change-there xs spare v (filled taken) victim_apart);
        others = λ b apart.
            ap (λ (x : Block). x.erases) (change-there ys v b (emptied endurance) apart) ∙ change-erases xs spare b (filled taken) (λ x. refl);
        erases = refl;
        copies = refl;
      }

-- what a write does: nothing is erased, or one block is collected into the spare
abbrev pub Does : Stock → Stock → Type 0
Does k k' = ErasesNothing k k' ⊎ ((v : ℕ) × (spare : ℕ) × (spare_of k.blocks ≡ Some spare) × Collects k k' v)

pub same_some : (x y : Stock) → Some x ≡ Some y → x ≡ y
same_some x y h = cc

pub none_some : (x : Stock) → None ≡ Some x → ⊥
none_some x h = cc

collect-does : (endurance : ℕ) (k k' : Stock) (spare : ℕ) (o : Option ℕ) → spare_of k.blocks ≡ Some spare → victim_of k.blocks ≡ o
    → collect endurance k spare o ≡ Some k' → Does k k'
collect-does endurance k k' spare None s e h = absurd (none_some k' h)
collect-does endurance k k' spare (Some v) s e h =
    inr (v, spare, s, subst (λ (x : Stock). Collects k x v) (same_some (collected endurance k spare v) k' h) (collects endurance k spare v s e))

pub nothing_same : (k : Stock) → ErasesNothing k k
nothing_same k = record { blocks = λ b. refl; erases = refl; copies = refl }

pub nothing_opened : (k : Stock) (b : ℕ) → ErasesNothing k (opened k b)
nothing_opened k b = record { blocks = λ c. change-erases k.blocks b c (λ block. record block { role = Open }) (λ x. refl); erases = refl; copies = refl }

ready-does : (endurance : ℕ) (k k' : Stock) (o f s : Option ℕ) → spare_of k.blocks ≡ s → ready_by endurance k o f s ≡ Some k' → Does k k'
ready-does endurance k k' (Some b) f s e h = inl (subst (ErasesNothing k) (same_some k k' h) (nothing_same k))
ready-does endurance k k' None (Some b) s e h = inl (subst (ErasesNothing k) (same_some (opened k b) k' h) (nothing_opened k b))
ready-does endurance k k' None None (Some spare) e h = collect-does endurance k k' spare (victim_of k.blocks) e refl h
ready-does endurance k k' None None None e h = absurd (none_some k' h)

pub write-does : (pages endurance s : ℕ) (k new : Stock) → option_and_then (write_of pages s) (ready endurance k) ≡ Some new → Does k new
write-does pages endurance s k new h = by (ready endurance k) refl h
  where
    by : (r : Option Stock) → ready endurance k ≡ r → option_and_then (write_of pages s) r ≡ Some new → Does k new
    by None e g = absurd (none_some new g)
    by (Some mid) e g =
        let more = written pages s mid new (open_of mid.blocks) g in
        elim (ready-does endurance k mid (open_of k.blocks) (free_of k.blocks) (spare_of k.blocks) refl e) [
          | inl nothing ↦ inl (ErasesNothing-then k mid new nothing more)
          | inr one ↦ inr (one.0, one.1, one.2, Collects-then k mid new one.0 one.3 more)
        ]

-- a write that succeeds is one program
collect-programs : (endurance : ℕ) (k k' : Stock) (spare : ℕ) (o : Option ℕ) → collect endurance k spare o ≡ Some k' → k'.programs ≡ k.programs
collect-programs endurance k k' spare None h = absurd (none_some k' h)
collect-programs endurance k k' spare (Some v) h = ap (λ (x : Stock). x.programs) (sym (same_some (collected endurance k spare v) k' h))

ready-programs : (endurance : ℕ) (k k' : Stock) (o f s : Option ℕ) → ready_by endurance k o f s ≡ Some k' → k'.programs ≡ k.programs
ready-programs endurance k k' (Some b) f s h = ap (λ (x : Stock). x.programs) (sym (same_some k k' h))
ready-programs endurance k k' None (Some b) s h = ap (λ (x : Stock). x.programs) (sym (same_some (opened k b) k' h))
ready-programs endurance k k' None None (Some spare) h = collect-programs endurance k k' spare (victim_of k.blocks) h
ready-programs endurance k k' None None None h = absurd (none_some k' h)

into-programs : (pages s : ℕ) (k k' : Stock) (o : Option ℕ) → write_into pages s k o ≡ Some k' → k'.programs ≡ k.programs + 1
into-programs pages s k k' None h = absurd (none_some k' h)
into-programs pages s k k' (Some b) h =
    let new : Stock = record k {
      blocks = change_at (map (forget s) k.blocks) b (λ block. closed_if_full pages (with_page s block));
      programs = k.programs + 1;
    } in
    ap (λ (x : Stock). x.programs) (sym (same_some new k' h))

pub write-programs : (pages endurance s : ℕ) (k new : Stock) → option_and_then (write_of pages s) (ready endurance k) ≡ Some new → new.programs ≡ k.programs + 1
write-programs pages endurance s k new h = by (ready endurance k) refl h
  where
    by : (r : Option Stock) → ready endurance k ≡ r → option_and_then (write_of pages s) r ≡ Some new → new.programs ≡ k.programs + 1
    by None e g = absurd (none_some new g)
    by (Some mid) e g = into-programs pages s mid new (open_of mid.blocks) g
        ∙ ap (λ (n : ℕ). n + 1) (ready-programs endurance k mid (open_of k.blocks) (free_of k.blocks) (spare_of k.blocks) e)
