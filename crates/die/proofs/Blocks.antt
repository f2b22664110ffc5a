-- Writing one place of the storage, and the blocks of the storage after a page is added or a block's state changes.
use Rattle.std.proofs.Common.{◌≡◌, ℕ, ◌+◌, ◌-◌, ◌*◌, ◌<◌, ◌≤◌, inl, inr, List, ◌++◌, length, take, drop, get_or, sym, ap, ◌∙◌, arith, length-append}
use Rattle.std.proofs.Common.{length-take, length-drop, get_or-take, get_or-drop, ◌≢◌, [], ◌∷◌, map, set, get_or-set_same, get_or-set_other}
use Rattle.std.proofs.Math.Seq.{paste}
use Rattle.std.proofs.Math.Nat.{mul-le-mul_right}
use Rattle.std.proofs.lemmas.List.{same_lists, take_at, drop_at, append_assoc, length-take-le, get_or-append_right, take_all, take-append-le, drop-append-le}
use Rattle.std.proofs.lemmas.List.{drop-drop, get_or_append_left}
use Rattle.std.proofs.lemmas.Bool.{cases_lt, cases_order}
use Rattle.die.specs.Storage.{slot, PutsSlot, unused, stored, block_in}
use Rattle.std.proofs.lemmas.Nat.{same_from_place, mul-add-lt}
use Rattle.std.specs.List.{range_with_len}
use Rattle.std.proofs.lemmas.List.FromFn.{length-map-range_with_len, get_or-map-range_with_len, map-range_with_len_more}
use Rattle.die.specs.declared.die.BlockState.{BlockState}
use Rattle.die.specs.Pages.{Page, Block, programmed, page_at, erased_page}

-- a list whose part from `at` on, n long, is replaced by the front of s
length-paste : (d : List ℕ) (at : ℕ) (s : List ℕ) (n : ℕ) → at + n ≤ length d → n ≤ length s → length (paste d at s n) ≡ length d
length-paste d at s n fits long = simp (length-append, length-take, length-drop) (omega arith)

-- below the part nothing changes
below-paste : (d : List ℕ) (at : ℕ) (s : List ℕ) (n j z : ℕ) → at + n ≤ length d → n ≤ length s → j < at → get_or (paste d at s n) j z ≡ get_or d j z
below-paste d at s n j z fits long low =
    let e : length (take at d) ≡ at = length-take-le at d (omega arith) in
    rw append_assoc
    (get_or_append_left (take at d) (take n s ++ drop (at + n) d) z j (omega arith) ∙ get_or-take at d j z low)

-- above the part nothing changes
above-paste : (d : List ℕ) (at : ℕ) (s : List ℕ) (n j z : ℕ) → at + n ≤ length d → n ≤ length s → at + n ≤ j → get_or (paste d at s n) j z ≡ get_or d j z
above-paste d at s n j z fits long high =
    let e : length (take at d ++ take n s) ≡ at + n =
    length-append (take at d) (take n s) ∙ omega (arith, length-take-le at d (omega arith), length-take-le n s long) in
    let k : at + n + (j - (at + n)) ≡ j = omega arith in
    get_or-append_right (take at d ++ take n s) (drop (at + n) d) (at + n) j z e high
    ∙ (get_or-drop (at + n) d (j - (at + n)) z ∙ ap (λ i. get_or d i z) k)

-- the part itself
part-paste : (d : List ℕ) (at : ℕ) (s : List ℕ) (n : ℕ) → at + n ≤ length d → n ≤ length s → take n (drop at (paste d at s n)) ≡ take n s
part-paste d at s n fits long =
    rw append_assoc
    (ap (take n) (drop_at (take at d) (take n s ++ drop (at + n) d) at (length-take-le at d (omega arith)))
    ∙ take_at (take n s) (drop (at + n) d) n (length-take-le n s long))

-- two lists that agree at n places from `at` on have one part there
same_part : (n at : ℕ) (xs ys : List ℕ) → length xs ≡ length ys → ((i z : ℕ) → i < n → get_or xs (at + i) z ≡ get_or ys (at + i) z)
    → take n (drop at xs) ≡ take n (drop at ys)
same_part n at xs ys e h =
    same_lists (take n (drop at xs)) (take n (drop at ys)) (simp (length-take, length-drop) (omega arith))
    (λ k z short. let low : k < n = omega (arith, length-take n (drop at xs)) in
    get_or-take n (drop at xs) k z low ∙ (get_or-drop at xs k z ∙ (h k z low ∙ (sym (get_or-drop at ys k z) ∙ sym (get_or-take n (drop at ys) k z low)))))

-- one place is written
pub PutsSlot-paste : (n : ℕ) (d : List ℕ) (place : ℕ) (s : List ℕ) → (place + 1) * n ≤ length d → n ≤ length s
    → PutsSlot n d (paste d (place * n) s n) place (take n s)
unfolding slot
PutsSlot-paste n d place s fits long =
    let room : place * n + n ≤ length d = omega arith in
    record {
      size = length-paste d (place * n) s n room long;
      changed = part-paste d (place * n) s n room long;
      others = λ k apart within.
          same_part n (k * n) (paste d (place * n) s n) d (length-paste d (place * n) s n room long)
          (λ i z low. elim (cases_order k place) [
            | inl e ↦ absurd (apart e)
            | inr o ↦ elim o [
              | inl lower ↦ below-paste d (place * n) s n (k * n + i) z room long
                  (let g : (k + 1) * n ≤ place * n = mul-le-mul_right n (omega arith) in omega arith)
              | inr higher ↦ above-paste d (place * n) s n (k * n + i) z room long
                  (let g : (place + 1) * n ≤ k * n = mul-le-mul_right n (omega arith) in omega arith)
            ]
          ]);
    }

-- a place that lies in the first of two parts, and one that lies in the second
pub slot-front : (n : ℕ) (xs ys : List ℕ) (k : ℕ) → (k + 1) * n ≤ length xs → slot n (xs ++ ys) k ≡ slot n xs k
unfolding slot
slot-front n xs ys k within =
    ap (take n) (drop-append-le (k * n) xs ys (omega arith))
    ∙ take-append-le n (drop (k * n) xs) ys (omega (arith, length-drop (k * n) xs))

slot-back : (n : ℕ) (xs ys : List ℕ) (cut k : ℕ) → length xs ≡ cut * n → cut ≤ k → slot n (xs ++ ys) k ≡ take n (drop (k * n - cut * n) ys)
unfolding slot
slot-back n xs ys cut k size past =
    let low : cut * n ≤ k * n = mul-le-mul_right n past in
    let sum : cut * n + (k * n - cut * n) ≡ k * n = omega arith in
    ap (λ (i : ℕ). take n (drop i (xs ++ ys))) (sym sum)
    ∙ (ap (take n) (sym (drop-drop (k * n - cut * n) (cut * n) (xs ++ ys)))
    ∙ ap (λ (zs : List ℕ). take n (drop (k * n - cut * n) zs)) (drop_at xs ys (cut * n) size))

-- a place below a cut is written
pub PutsSlot-below : (n : ℕ) (xs xs' ys : List ℕ) (cut place : ℕ) (page : List ℕ) → length xs ≡ cut * n → place < cut → PutsSlot n xs xs' place page
    → PutsSlot n (xs ++ ys) (xs' ++ ys) place page
PutsSlot-below n xs xs' ys cut place page size low puts =
    let room : (place + 1) * n ≤ cut * n = mul-le-mul_right n (omega arith) in
    record {
      size = omega (arith, length-append xs ys, length-append xs' ys, puts.size);
      changed = slot-front n xs' ys place (omega (arith, puts.size, size)) ∙ puts.changed;
      others = λ k apart within. elim (cases_lt k cut) [
        | inl inside ↦
            let fits : (k + 1) * n ≤ cut * n = mul-le-mul_right n (omega arith) in
            slot-front n xs' ys k (omega (arith, puts.size, size))
            ∙ (puts.others k apart (omega (arith, size)) ∙ sym (slot-front n xs ys k (omega (arith, size))))
        | inr past ↦ slot-back n xs' ys cut k (puts.size ∙ size) past ∙ sym (slot-back n xs ys cut k size past)
      ];
    }

-- the front of the part above a cut is written
pub paste-above : (d : List ℕ) (at n : ℕ) (s : List ℕ) → length s ≡ n → take at d ++ (s ++ drop n (drop at d)) ≡ paste d at s n
paste-above d at n s size =
    ap (λ (xs : List ℕ). take at d ++ (s ++ xs)) (drop-drop n at d)
    ∙ (ap (λ (xs : List ℕ). take at d ++ (xs ++ drop (at + n) d)) (sym (take_all n s (omega (arith, size))))
    ∙ sym (append_assoc (take at d) (take n s) (drop (at + n) d)))

-- two lists made from functions that agree below their length are one
pub map_range_same : {X : Type 0} (f g : ℕ → X) (n : ℕ) → ((k : ℕ) → k < n → f k ≡ g k) → map f (range_with_len 0 n) ≡ map g (range_with_len 0 n)
map_range_same f g n same =
    same_lists (map f (range_with_len 0 n)) (map g (range_with_len 0 n)) (length-map-range_with_len f 0 n ∙ sym (length-map-range_with_len g 0 n))
    (λ k d short. let low : k < n = omega (arith, length-map-range_with_len f 0 n) in
    get_or-map-range_with_len f 0 n k k d low (omega arith) ∙ (same k low ∙ sym (get_or-map-range_with_len g 0 n k k d low (omega arith))))

-- a block has as many pages as its state says
pub length-pages : (n pages : ℕ) (bytes stamps : List ℕ) (states : List BlockState) (b : ℕ)
    → length (block_in n pages bytes stamps states b).pages ≡ (get_or states b unused).next
unfolding block_in
length-pages n pages bytes stamps states b = length-map-range_with_len (λ p. stored n bytes stamps (b * pages + p)) 0 (get_or states b unused).next

-- a programmed page of a block is what stands at its place
pub page_at-stored : (n pages : ℕ) (bytes stamps : List ℕ) (states : List BlockState) (b p : ℕ) → p < (get_or states b unused).next
    → page_at n (block_in n pages bytes stamps states b) p ≡ stored n bytes stamps (b * pages + p)
unfolding block_in
page_at-stored n pages bytes stamps states b p low =
    get_or-map-range_with_len (λ p. stored n bytes stamps (b * pages + p)) 0 (get_or states b unused).next p p (erased_page n) low (omega arith)

-- a block shows what it showed where its state and its places are as before
pub block_in-same : (n pages : ℕ) (bytes bytes' stamps stamps' : List ℕ) (states states' : List BlockState) (b : ℕ)
    → get_or states' b unused ≡ get_or states b unused
    → ((p : ℕ) → p < (get_or states b unused).next → stored n bytes' stamps' (b * pages + p) ≡ stored n bytes stamps (b * pages + p))
    → block_in n pages bytes' stamps' states' b ≡ block_in n pages bytes stamps states b
unfolding block_in
block_in-same n pages bytes bytes' stamps stamps' states states' b same places =
    rw same
    (ap (λ (ps : List Page). let r : Block = record { pages = ps; erases = (get_or states b unused).erases; retired = (get_or states b unused).retired } in r)
    (map_range_same (λ p. stored n bytes' stamps' (b * pages + p)) (λ p. stored n bytes stamps (b * pages + p)) (get_or states b unused).next places))

-- a page is put at a place that its block's state allows, and that state counts it
pub record Adds (n pages blocks : ℕ) (bytes bytes' stamps stamps' : List ℕ) (states states' : List BlockState) (b p : ℕ) (page : Page) : Type 0 where
  pub block : b < blocks
  pub next : p ≡ (get_or states b unused).next
  pub within : p < pages
  pub stamps_size : length stamps ≡ blocks * pages
  pub states_size : length states ≡ blocks
  pub bytes_size : length bytes ≡ blocks * pages * n
  pub counts : (c : ℕ) → c < blocks → (get_or states c unused).next ≤ pages
  pub bytes_after : PutsSlot n bytes bytes' (b * pages + p) page.value
  pub stamps_after : stamps' ≡ set stamps (b * pages + p) page.stamp
  pub state_after : get_or states' b unused ≡ record (get_or states b unused) { next = (get_or states b unused).next + 1 }
  pub states_after : (c : ℕ) → c ≢ b → get_or states' c unused ≡ get_or states c unused

-- the place that is written holds the page
stored-added : (n : ℕ) (bytes bytes' stamps : List ℕ) (place : ℕ) (page : Page) → place < length stamps → PutsSlot n bytes bytes' place page.value
    → stored n bytes' (set stamps place page.stamp) place ≡ page
unfolding stored
stored-added n bytes bytes' stamps place page within puts =
    rw puts.changed (ap (λ (s : ℕ). let r : Page = record { value = page.value; stamp = s } in r) (get_or-set_same stamps place page.stamp 0 within))

-- each other place holds what it held
stored-other : (n : ℕ) (bytes bytes' stamps : List ℕ) (place k : ℕ) (page : Page) → k ≢ place → (k + 1) * n ≤ length bytes
    → PutsSlot n bytes bytes' place page.value → stored n bytes' (set stamps place page.stamp) k ≡ stored n bytes stamps k
unfolding stored
stored-other n bytes bytes' stamps place k page apart within puts =
    rw (puts.others k apart within)
    (ap (λ (s : ℕ). let r : Page = record { value = slot n bytes k; stamp = s } in r) (get_or-set_other stamps place k page.stamp 0 apart))

module _ (n pages blocks : ℕ) (bytes bytes' stamps stamps' : List ℕ) (states states' : List BlockState) (b p : ℕ) (page : Page)
    (adds : Adds n pages blocks bytes bytes' stamps stamps' states states' b p page) where
  -- another programmed page keeps its place
  kept : (c q : ℕ) → c < blocks → q < pages → (c ≡ b → q ≡ p → ⊥) → stored n bytes' stamps' (c * pages + q) ≡ stored n bytes stamps (c * pages + q)
  kept c q low short apart =
      let place : c * pages + q < blocks * pages = omega (arith, mul-add-lt c pages q blocks low short) in
      let room : (c * pages + q + 1) * n ≤ blocks * pages * n = mul-le-mul_right n (omega arith) in
      rw adds.stamps_after
      (stored-other n bytes bytes' stamps (b * pages + p) (c * pages + q) page
      (λ e. let same = same_from_place c q b p pages short adds.within e in apart same.0 same.1)
      (omega (arith, adds.bytes_size)) adds.bytes_after)

  -- each other block shows what it showed
  pub others-added : (c : ℕ) → c ≢ b → c < blocks → block_in n pages bytes' stamps' states' c ≡ block_in n pages bytes stamps states c
  others-added c apart low =
      block_in-same n pages bytes bytes' stamps stamps' states states' c (adds.states_after c apart)
      (λ q short. kept c q low (omega (arith, adds.counts c low)) (λ e _. apart e))

  -- the block has the page behind the others
  pub block-added : block_in n pages bytes' stamps' states' b ≡ programmed (block_in n pages bytes stamps states b) page
  unfolding block_in
  block-added =
      let s = get_or states b unused in
      let f : ℕ → Page = λ q. stored n bytes' stamps' (b * pages + q) in
      let g : ℕ → Page = λ q. stored n bytes stamps (b * pages + q) in
      let place : b * pages + p < blocks * pages = omega (arith, mul-add-lt b pages p blocks adds.block adds.within) in
      let last : f s.next ≡ page =
      ap f (sym adds.next) ∙ rw adds.stamps_after
      (stored-added n bytes bytes' stamps (b * pages + p) page (omega (arith, adds.stamps_size)) adds.bytes_after) in
      let front : map f (range_with_len 0 s.next) ≡ map g (range_with_len 0 s.next) =
      map_range_same f g s.next (λ q low. kept b q adds.block (omega (arith, adds.counts b adds.block)) (λ _ e. omega (arith, adds.next))) in
      let pushed : map f (range_with_len 0 (s.next + 1)) ≡ map g (range_with_len 0 s.next) ++ page ∷ [] =
      map-range_with_len_more f 0 s.next s.next (omega arith)
      ∙ (ap (λ (ps : List Page). ps ++ f s.next ∷ []) front ∙ ap (λ (x : Page). map g (range_with_len 0 s.next) ++ x ∷ []) last) in
      rw adds.state_after
      (ap (λ (ps : List Page). let r : Block = record { pages = ps; erases = s.erases; retired = s.retired } in r) pushed)
