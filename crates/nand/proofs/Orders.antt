-- The numbers of a chip's blocks.
use Rattle.std.proofs.Common.{◌≡◌, ◌≢◌, ◌∙◌, ⊎_elim, ◌+◌, ◌<◌, ◌≤◌, ℕ, zero, suc, Bool, true, false, List, []}
use Rattle.std.proofs.Common.{Some, ◌==◌, min, max, ◌-◌, ◌*◌, ◌/◌, if◌then◌else◌, nat_lt, length, refl, sym, ap, subst, arith}
use Rattle.std.proofs.lemmas.Bool.{cases_eq, cases_lt, false≢true}
use Rattle.std.proofs.lemmas.Bool.Decides.{nat_tests}
use Rattle.std.proofs.lemmas.List.{get_or_default, get_or_past}
use Rattle.std.proofs.lemmas.List.Edits.{get_or-insert_above, get_or-insert_at, get_or-insert_below, length-insert}
use Rattle.std.proofs.Math.Nat.{div-mul-le_self, lt-div-mul-add, mul-le-mul_right}
use Rattle.std.specs.List.{insert}
use Rattle.geometry.specs.Sectors.{Sector}
use Rattle.durable.specs.Flash.{Flash, HoldsNewest, IsErased}
use Rattle.durable.specs.Device.{IsWrittenOn}
use Rattle.durable.specs.Collecting.{HasCapacity}
use Rattle.durable.specs.Failures.{IsRenumbered}
use Rattle.durable.specs.Promise.{IsRecoverable}
use Rattle.durable.specs.Spare.{IsDuplicated}
use Rattle.durable.specs.Updates.{Update}
use Rattle.durable.proofs.Cells.{erased_holds_none, erased_has_none}
use Rattle.durable.proofs.Promises.{erased_recoverable, version_before, readable, readable_renumbered, written_renumbered}
use Rattle.nand.specs.declared.flash.Shape.{Shape}
use Rattle.nand.specs.Numbers.{IsOrder, chip_block, good_before, is_marked, most_in_use, numbered}
use Rattle.nand.specs.Opened.{CanSpare, IsOpenable, IsReserveBlank, device_on, most_used, used_blocks}

-- no block has a number yet
pub first_order : (bad : List Bool) (most : ℕ) → IsOrder [] bad 0 most
first_order bad most = record {
  all = refl;
  to = λ b. b;
  found = λ c. refl;
  put = λ b. refl;
  good = λ c lt. absurd (omega (arith, lt));
  reserved = λ c le lt. absurd (omega (arith, lt));
  others = λ c le lt. absurd (omega (arith, lt));
}

pub next_good : (bad : List Bool) (i : ℕ) (marked : Bool) → is_marked bad i ≡ marked → good_before bad (i + 1) ≡ good_before bad i + (if marked then 0 else 1)
next_good bad i marked is = let e : i + 1 ≡ suc i = omega arith in ap (good_before bad) e ∙ ap (λ (m : Bool). good_before bad i + (if m then 0 else 1)) is

one_or_none : (marked : Bool) → (if marked then 0 else 1) ≤ 1
one_or_none true = omega arith
one_or_none false = omega arith

pub few_good : (bad : List Bool) (b : ℕ) → good_before bad b ≤ b
few_good bad zero = omega arith
few_good bad (suc b) = omega (arith, few_good bad b, one_or_none (is_marked bad b))

pub good_grows : (bad : List Bool) (a b : ℕ) → a ≤ b → good_before bad a ≤ good_before bad b
good_grows bad a zero le = omega (arith, ap (good_before bad) {x = a} {y = 0} (omega (arith, le)))
good_grows bad a (suc b) le = ⊎_elim
    (λ here. omega (arith, ap (good_before bad) here))
    (λ differs. omega (arith, good_grows bad a b (omega (arith, le, differs))))
    (cases_eq a (suc b))

-- as many good blocks come before no two good ones
not_before : (bad : List Bool) (a b : ℕ) → is_marked bad a ≡ false → good_before bad b ≡ good_before bad a → b ≤ a
not_before bad a b good same = ⊎_elim
    (λ before. absurd (omega (arith, good_grows bad (a + 1) b (omega (arith, before)), next_good bad a false good, same)))
    (λ le. le)
    (cases_lt a b)

same_rank : (bad : List Bool) (a b : ℕ) → is_marked bad a ≡ false → is_marked bad b ≡ false → good_before bad a ≡ good_before bad b → a ≡ b
same_rank bad a b first second same = omega (arith, not_before bad a b first (sym same), not_before bad b a second same)

-- some block is good and the first of them, if they aren't none
abbrev HasFirst : List Bool → ℕ → Type 0
HasFirst bad n = (b : ℕ) × (b < n) × (is_marked bad b ≡ false) × (good_before bad b ≡ 0)

last_good : (bad : List Bool) (n : ℕ) (marked : Bool) → is_marked bad n ≡ marked → (0 < good_before bad n → HasFirst bad n)
    → 0 < good_before bad n + (if marked then 0 else 1) → HasFirst bad (suc n)
last_good bad n false is before some = ⊎_elim
    (λ none. (n, omega arith, is, none))
    (λ more. let good = before (omega (arith, more)) in (good.0, omega (arith, good.1), good.2, good.3))
    (cases_eq (good_before bad n) 0)
last_good bad n true is before some = let good = before (omega (arith, some)) in (good.0, omega (arith, good.1), good.2, good.3)

first_good : (bad : List Bool) (n : ℕ) → 0 < good_before bad n → HasFirst bad n
first_good bad zero some = absurd (omega (arith, some))
first_good bad (suc n) some = last_good bad n (is_marked bad n) refl (first_good bad n) some

-- the lesser of two numbers
pub fewer : (a b c : ℕ) → c < min a b → (c < a) × (c < b)
fewer a b c lt = (grind (arith, nat_tests, lt), grind (arith, nat_tests, lt))

pub least : (a b c : ℕ) → c < a → c < b → c < min a b
least a b c first second = grind (arith, nat_tests)

pub least_first : (a b : ℕ) → a ≤ b → min a b ≡ a
least_first a b le = grind (arith, nat_tests)

pub least_second : (a b : ℕ) → b < a → min a b ≡ b
least_second a b lt = grind (arith, nat_tests)

pub no_greater : (a b : ℕ) → (min a b ≤ a) × (min a b ≤ b)
no_greater a b = (grind (arith, nat_tests), grind (arith, nat_tests))

at_least : (a b : ℕ) → b ≤ max a b
at_least a b = grind (arith, nat_tests)

-- a number past the blocks stands for itself
pub past : (numbers : List ℕ) (c : ℕ) → length numbers ≤ c → chip_block numbers c ≡ c
past numbers c le = get_or_past numbers c c le

-- where the last of these numbers goes to the place of the first, and each of the others to the next one; and back
abbrev later : ℕ → ℕ → ℕ → ℕ
later p i c = if nat_lt c p then c else if nat_lt c i then c + 1 else if c == i then p else c

abbrev earlier : ℕ → ℕ → ℕ → ℕ
earlier p i c = if nat_lt c p then c else if c == p then i else if nat_lt i c then c else c - 1

later_earlier : (p i c : ℕ) → p ≤ i → later p i (earlier p i c) ≡ c
later_earlier p i c le = grind (arith, nat_tests, le)

earlier_later : (p i c : ℕ) → p ≤ i → earlier p i (later p i c) ≡ c
earlier_later p i c le = grind (arith, nat_tests, le)

earlier_below : (p i c : ℕ) → c < p → earlier p i c ≡ c
earlier_below p i c lt = grind (arith, nat_tests, lt)

earlier_here : (p i : ℕ) → earlier p i p ≡ i
earlier_here p i = grind (arith, nat_tests)

earlier_above : (p i c : ℕ) → p ≤ c → c < i → earlier p i (c + 1) ≡ c
earlier_above p i c le lt = grind (arith, nat_tests, le, lt)

earlier_past : (p i c : ℕ) → p ≤ i → i < c → earlier p i c ≡ c
earlier_past p i c le lt = grind (arith, nat_tests, le, lt)

-- the next block is put in this place
module _ (numbers : List ℕ) (bad : List Bool) (i most : ℕ) (is : IsOrder numbers bad i most) (p : ℕ) (le : p ≤ i) where
  below : (c : ℕ) → c < p → chip_block (insert numbers p i) c ≡ chip_block numbers c
  below c lt = get_or-insert_below numbers p i c c lt (omega (arith, le, is.all))

  here : chip_block (insert numbers p i) p ≡ i
  here = get_or-insert_at numbers p i p (omega (arith, le, is.all))

  above : (c : ℕ) → p ≤ c → c < i → chip_block (insert numbers p i) (c + 1) ≡ chip_block numbers c
  above c after lt = get_or-insert_above numbers p i (c + 1) c after (omega (arith, le, is.all))
      ∙ get_or_default numbers c (c + 1) c (omega (arith, lt, is.all))

  one_more : length (insert numbers p i) ≡ i + 1
  one_more = omega (arith, length-insert numbers p i (omega (arith, le, is.all)), is.all)

  moved : (c : ℕ) → chip_block (insert numbers p i) c ≡ chip_block numbers (earlier p i c)
  moved c = ⊎_elim
      (λ lt. below c lt ∙ ap (chip_block numbers) (sym (earlier_below p i c lt)))
      (λ not_below. ⊎_elim
      (λ e. ap (chip_block (insert numbers p i)) e ∙ (here ∙ (sym (past numbers i (omega (arith, is.all)))
      ∙ ap (chip_block numbers) (sym (ap (earlier p i) e ∙ earlier_here p i)))))
      (λ differs. ⊎_elim
      (λ beyond. past (insert numbers p i) c (omega (arith, beyond, one_more)) ∙ (sym (past numbers c (omega (arith, beyond, is.all)))
      ∙ ap (chip_block numbers) (sym (earlier_past p i c le beyond))))
      (λ within.
      let one : (c - 1) + 1 ≡ c = omega (arith, not_below, differs) in
      ap (chip_block (insert numbers p i)) (sym one)
      ∙ (above (c - 1) (omega (arith, not_below, differs)) (omega (arith, within, not_below, differs))
      ∙ ap (chip_block numbers) (sym (ap (earlier p i) (sym one)
      ∙ earlier_above p i (c - 1) (omega (arith, not_below, differs)) (omega (arith, within, not_below, differs))))))
      (cases_lt i c))
      (cases_eq c p))
      (cases_lt c p)

-- a bad block takes the last number
pub places_bad : (numbers : List ℕ) (bad : List Bool) (i most : ℕ) → is_marked bad i ≡ true → IsOrder numbers bad i most
    → IsOrder (insert numbers i i) bad (i + 1) most
places_bad numbers bad i most marked is =
    let new = insert numbers i i in
    let le : i ≤ i = omega arith in
    let now : good_before bad (i + 1) ≡ good_before bad i = omega (arith, next_good bad i true marked) in
    let same : (c : ℕ) → c < i → chip_block new c ≡ chip_block numbers c = below numbers bad i most is i le in
    let few = few_good bad i in
    record {
      all = one_more numbers bad i most is i le;
      to = λ b. later i i (is.to b);
      found = λ c. ap (λ (b : ℕ). later i i (is.to b)) (moved numbers bad i most is i le c)
          ∙ (ap (later i i) (is.found (earlier i i c)) ∙ later_earlier i i c le);
      put = λ b. moved numbers bad i most is i le (later i i (is.to b))
          ∙ (ap (chip_block numbers) (earlier_later i i (is.to b) le) ∙ is.put b);
      good = λ c lt. ap (is_marked bad) (same c (omega (arith, lt, now, few))) ∙ is.good c (omega (arith, lt, now));
      reserved = λ c past lt. omega (
        arith,
        ap (good_before bad) (same c (omega (arith, lt, now, few))),
        is.reserved c past (omega (arith, lt, now)),
        now,
      );
      others = λ c past lt. ⊎_elim
          (λ e. ap (is_marked bad) (ap (chip_block new) e ∙ here numbers bad i most is i le) ∙ marked)
          (λ differs. ap (is_marked bad) (same c (omega (arith, lt, differs)))
          ∙ is.others c (omega (arith, past, now)) (omega (arith, lt, differs)))
          (cases_eq c i);
    }

-- a good block takes the number behind those in use
pub places_good : (numbers : List ℕ) (bad : List Bool) (i most p : ℕ) → p ≡ min (good_before bad i) most → is_marked bad i ≡ false
    → IsOrder numbers bad i most → IsOrder (insert numbers p i) bad (i + 1) most
places_good numbers bad i most p place good is =
    let new = insert numbers p i in
    let g = good_before bad i in
    let few = few_good bad i in
    let first : p ≤ g = omega (arith, place, (no_greater g most).0) in
    let second : p ≤ most = omega (arith, place, (no_greater g most).1) in
    let le : p ≤ i = omega (arith, first, few) in
    let now : good_before bad (i + 1) ≡ g + 1 = next_good bad i false good in
    let at_most : p < most → p ≡ g = λ lt. ⊎_elim
    (λ under. absurd (omega (arith, place, lt, least_second g most under)))
    (λ fits. place ∙ least_first g most fits)
    (cases_lt most g) in
    let low = below numbers bad i most is p le in
    let mid : chip_block new p ≡ i = here numbers bad i most is p le in
    let high : (c : ℕ) → p < c → c ≤ i → chip_block new c ≡ chip_block numbers (c - 1) = λ c after within.
    let one : (c - 1) + 1 ≡ c = omega (arith, after) in
    ap (chip_block new) (sym one) ∙ above numbers bad i most is p le (c - 1) (omega (arith, after)) (omega (arith, after, within)) in
    record {
      all = one_more numbers bad i most is p le;
      to = λ b. later p i (is.to b);
      found = λ c. ap (λ (b : ℕ). later p i (is.to b)) (moved numbers bad i most is p le c)
          ∙ (ap (later p i) (is.found (earlier p i c)) ∙ later_earlier p i c le);
      put = λ b. moved numbers bad i most is p le (later p i (is.to b))
          ∙ (ap (chip_block numbers) (earlier_later p i (is.to b) le) ∙ is.put b);
      good = λ c lt. ⊎_elim
          (λ under. ap (is_marked bad) (low c under) ∙ is.good c (omega (arith, under, first)))
          (λ not_under. ⊎_elim
          (λ e. ap (is_marked bad) (ap (chip_block new) e ∙ mid) ∙ good)
          (λ differs. ap (is_marked bad) (high c (omega (arith, not_under, differs)) (omega (arith, lt, now, few)))
          ∙ is.good (c - 1) (omega (arith, lt, now, not_under, differs)))
          (cases_eq c p))
          (cases_lt c p);
      reserved = λ c past lt.
          let last : p ≡ most = ⊎_elim
          (λ under. absurd (omega (arith, at_most under, under, past, lt, now)))
          (λ not_under. omega (arith, not_under, second))
          (cases_lt p most) in
          ⊎_elim
          (λ e. omega (arith, ap (good_before bad) (ap (chip_block new) e ∙ mid), e, last, now))
          (λ differs. omega (
            arith,
            ap (good_before bad) (high c (omega (arith, past, last, differs)) (omega (arith, lt, now, few))),
            is.reserved (c - 1) (omega (arith, past, last, differs)) (omega (arith, lt, now, past, last, differs)),
            now,
            past,
            last,
            differs,
          ))
          (cases_eq c p);
      others = λ c past lt. ap (is_marked bad) (high c (omega (arith, past, now, first)) (omega (arith, lt)))
          ∙ is.others (c - 1) (omega (arith, past, now)) (omega (arith, past, now, lt));
    }

has_pages : (sectors blocks pages : ℕ) → sectors < blocks * pages → 0 < pages
has_pages sectors blocks zero lt = absurd (omega (arith, lt))
has_pages sectors blocks (suc pages) lt = omega arith

-- the sectors fit in the blocks in use if they fit in all good ones
pub capacity_of_used : (sectors good blocks spare pages : ℕ) → HasCapacity sectors good pages
    → HasCapacity sectors (min good (most_in_use blocks spare pages sectors)) pages
capacity_of_used sectors good blocks spare pages capacity =
    let most = most_in_use blocks spare pages sectors in
    ⊎_elim
    (λ more. let all = lt-div-mul-add {a = sectors} {b = pages} (has_pages sectors (good - 1) pages capacity) in
    let needed : sectors / pages + 1 ≤ min good most - 1 =
    omega (arith, least_second good most more, at_least (blocks - spare) (sectors / pages + 2)) in
    let fits = mul-le-mul_right pages needed in
    let one : (sectors / pages + 1) * pages ≡ sectors / pages * pages + pages = grind arith in
    omega (arith, all, fits, one))
    (λ le. let is = least_first good most le in
    subst (λ (n : ℕ). HasCapacity sectors n pages) (sym is) capacity)
    (cases_lt most good)

no_more : (a b c : ℕ) → a ≤ c → b ≤ c → max a b ≤ c
no_more a b c first second = grind (arith, nat_tests)

-- as many blocks are in reserve as may go bad yet
pub spares_reserved : (shape : Shape) (bad : List Bool) (sectors n reserve : ℕ) → CanSpare shape bad sectors n
    → reserve + used_blocks shape bad sectors ≡ good_before bad shape.blocks → n ≤ reserve
spares_reserved shape bad sectors n reserve can is =
    let good = good_before bad shape.blocks in
    let rows = sectors / shape.pages in
    let fits : rows + 2 + n ≤ good = ⊎_elim
    (λ lt. omega (arith, lt))
    (λ le. absurd (omega (arith, can.1, mul-le-mul_right shape.pages le, div-mul-le_self sectors shape.pages)))
    (cases_lt rows (good - n - 1)) in
    let most : most_used shape sectors ≤ good - n =
    no_more (shape.blocks - shape.spare_blocks) (rows + 2) (good - n) (omega (arith, can.0, fits)) (omega (arith, fits)) in
    omega (arith, is, most, fits, (no_greater good (most_used shape sectors)).1)

-- at least two blocks are in use, if they are good
pub at_least_two : (shape : Shape) (sectors : ℕ) → 2 ≤ most_used shape sectors
at_least_two shape sectors = grind (arith, nat_tests)

-- an erased chip with a good block can be opened
pub erased_opens : (f : Flash) (shape : Shape) (bad : List Bool) (sectors : ℕ) → IsErased f → 0 < good_before bad shape.blocks
    → IsOpenable f shape bad sectors []
erased_opens f shape bad sectors erased some =
    let device = device_on shape bad sectors in
    let good = first_good bad shape.blocks some in
    let used : 0 < device.blocks =
    least (good_before bad shape.blocks) (most_used shape sectors) 0 some (omega (arith, at_least_two shape sectors)) in
    record {
      readable = readable f device [] [] (erased_recoverable f device erased used);
      frees = (
        good.0,
        good.1,
        (good.2, omega (arith, good.3, at_least_two shape sectors)),
        λ s p v lt needed. absurd (erased_has_none f good.0 p s needed.newest.number v (erased good.0 p) needed.newest.held),
      );
      blank = λ b lt is p s n v held. erased_holds_none s n v (sym (erased b p) ∙ held);
    }

-- the pages of the blocks in this order are those of a flash that is numbered anew
module _ (numbers : List ℕ) (bad : List Bool) (blocks most : ℕ) (is : IsOrder numbers bad blocks most) where
  rest : (c : ℕ) → blocks ≤ c → chip_block numbers c ≡ c
  rest c le = past numbers c (omega (arith, is.all, le))

  -- those of the chip are the chip's, since each other one has its own number
  pub within : (b : ℕ) → b < blocks → is.to b < blocks
  within b lt = ⊎_elim (λ lt. lt) (λ le. absurd (omega (arith, rest (is.to b) le, is.put b, le, lt))) (cases_lt (is.to b) blocks)

  pub lies : (c : ℕ) → c < blocks → chip_block numbers c < blocks
  lies c lt = ⊎_elim
      (λ lt. lt)
      (λ le. absurd (omega (arith, is.found (chip_block numbers c), ap is.to (rest (chip_block numbers c) le), is.found c, le, lt)))
      (cases_lt (chip_block numbers c) blocks)

  abbrev pub anew : (f : Flash) → IsRenumbered f (numbered numbers f) blocks
  anew f = record { to = is.to; from = chip_block numbers; inverse = is.found; moved = λ b p i. f (is.put b i) p; within = within }

  abbrev pub back : (f : Flash) → IsRenumbered (numbered numbers f) f blocks
  back f = record { to = chip_block numbers; from = is.to; inverse = is.put; moved = λ b p. refl; within = lies }

  -- those in use come before the reserve
  pub used_rank : (c : ℕ) → c < most → c < good_before bad blocks → good_before bad (chip_block numbers c) < most
  used_rank c few lt =
      let b = chip_block numbers c in
      let good = is.good c lt in
      ⊎_elim
      (λ under. under)
      (λ many.
      let r = good_before bad b in
      let total = good_grows bad (suc b) blocks (lies c (omega (arith, lt, few_good bad blocks))) in
      let one = next_good bad b false good in
      let below : r < good_before bad blocks = omega (arith, total, one, ap (good_before bad) {x = suc b} {y = b + 1} (omega arith)) in
      let d = most + good_before bad blocks - 1 - r in
      let there : good_before bad (chip_block numbers d) ≡ r =
      omega (arith, is.reserved d (omega (arith, below)) (omega (arith, many, below)), many, below) in
      let same = same_rank bad (chip_block numbers d) b (is.good d (omega (arith, many, below))) good there in
      absurd (omega (arith, sym (is.found d) ∙ (ap is.to same ∙ is.found c), few, below)))
      (cases_lt (good_before bad b) most)

  pub other_chip_block : (c d : ℕ) → d ≢ c → chip_block numbers d ≢ chip_block numbers c
  other_chip_block c d differs e = differs (sym (is.found d) ∙ (ap is.to e ∙ is.found c))

  -- a good block has one of the first numbers: so many good ones come before it
  pub first_numbers : (b : ℕ) → b < blocks → is_marked bad b ≡ false → is.to b < good_before bad blocks
  first_numbers b lt good = ⊎_elim
      (λ first. first)
      (λ past. absurd (false≢true (sym good ∙ (sym (ap (is_marked bad) (is.put b)) ∙ is.others (is.to b) past (within b lt)))))
      (cases_lt (is.to b) (good_before bad blocks))

  -- of these, one in use has one of the first, and one in reserve another
  pub in_use_first : (b : ℕ) → b < blocks → is_marked bad b ≡ false → good_before bad b < most → is.to b < min (good_before bad blocks) most
  in_use_first b lt good few =
      let first = first_numbers b lt good in
      let rank = ap (good_before bad) (is.put b) in
      least (good_before bad blocks) most (is.to b) first (⊎_elim
      (λ under. under)
      (λ le. absurd (omega (arith, is.reserved (is.to b) le first, rank, first, few)))
      (cases_lt (is.to b) most))

  pub in_reserve_past : (b : ℕ) → b < blocks → is_marked bad b ≡ false → most ≤ good_before bad b → most ≤ is.to b
  in_reserve_past b lt good many =
      let first = first_numbers b lt good in
      let rank = ap (good_before bad) (is.put b) in
      ⊎_elim (λ under. absurd (omega (arith, used_rank (is.to b) under first, rank, many))) (λ le. le) (cases_lt (is.to b) most)

-- a block's newest versions, after the blocks were numbered anew
module _ (f t : Flash) (blocks sectors : ℕ) (r : IsRenumbered f t blocks) (whole : (b : ℕ) → r.from (r.to b) ≡ b) where
  newest_there : (s b p : ℕ) (v : Sector) → HoldsNewest f s v b p → HoldsNewest t s v (r.to b) p
  newest_there s b p v is = record {
    number = is.number;
    held = (is.held.0, r.moved b p ∙ is.held.1, is.held.2);
    newest = λ c q m w e. is.newest (r.from c) q m w (version_before f t blocks r c q s m w e);
  }

  newest_before : (s b p : ℕ) (v : Sector) → HoldsNewest t s v (r.to b) p → HoldsNewest f s v b p
  newest_before s b p v is = record {
    number = is.number;
    held = (is.held.0, sym (r.moved b p) ∙ is.held.1, is.held.2);
    newest = λ c q m w e. is.newest (r.to c) q m w (e.0, r.moved c q ∙ e.1, e.2);
  }

  pub duplicated_there : (b : ℕ) → IsDuplicated f sectors b → IsDuplicated t sectors (r.to b)
  duplicated_there b is s p v lt needed =
      let has = needed.valued in
      let other = is s p v lt (record {
        newest = newest_before s b p v needed.newest;
        valued = (r.from has.0, has.1, has.2, has.3, version_before f t blocks r has.0 has.1 s has.2 (Some has.3) has.4);
      }) in (
        r.to other.0,
        other.1,
        other.2,
        (λ e. other.3 (sym (whole other.0) ∙ (ap r.from e ∙ whole b))),
        newest_there s other.0 other.1 other.2 other.4,
      )

-- what a mount needs, told of the chip's own blocks and of those in order
module _ (f : Flash) (shape : Shape) (bad : List Bool) (numbers : List ℕ) (sectors : ℕ)
    (is : IsOrder numbers bad shape.blocks (most_used shape sectors)) where
  pub openable : (updates : List Update) → IsRecoverable (numbered numbers f) (device_on shape bad sectors) updates updates
      → IsReserveBlank f shape bad sectors → IsOpenable f shape bad sectors updates
  openable updates mounts blank =
      let device = device_on shape bad sectors in
      let again = back numbers bad shape.blocks (most_used shape sectors) is f in
      let spare = mounts.spare in
      let first = fewer (good_before bad shape.blocks) (most_used shape sectors) spare.0 spare.1 in
      record {
        readable = readable_renumbered (numbered numbers f) f device device updates updates again (refl, refl, refl)
            (readable (numbered numbers f) device updates updates mounts);
        frees = (
          chip_block numbers spare.0,
          lies numbers bad shape.blocks (most_used shape sectors) is spare.0 (omega (arith, first.0, few_good bad shape.blocks)),
          (
            is.good spare.0 first.0,
            used_rank numbers bad shape.blocks (most_used shape sectors) is spare.0 first.1 first.0,
          ),
          duplicated_there (numbered numbers f) f shape.blocks sectors again is.found spare.0 spare.2,
        );
        blank = blank;
      }

  pub written_in_order : IsWrittenOn (device_on shape bad sectors) f → IsWrittenOn (device_on shape bad sectors) (numbered numbers f)
  written_in_order written = let device = device_on shape bad sectors in
      written_renumbered f (numbered numbers f) shape.blocks (anew numbers bad shape.blocks (most_used shape sectors) is f) device device
      (refl, refl, refl) refl written
