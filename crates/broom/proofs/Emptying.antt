-- The pages that a broom fills with copies, one after another, what is left of them, and how many it can still copy to.
use Rattle.std.proofs.Common.{◌≡◌, ℕ, ◌+◌, ◌-◌, Some, length, length-append, suc, ◌<◌, ◌≤◌, ◌==◌, List, [], ◌∷◌, ◌++◌, Option, None, sym, refl, ap, ◌∙◌, arith}
use Rattle.std.proofs.Common.{eq-eqb, ne_eqb, append_assoc, append-nil, map}
use Rattle.std.proofs.lemmas.List.FromFn.{length-map-range_with_len}
use Rattle.flash_table.specs.declared.pass.OpenBlock.{OpenBlock}
use Rattle.flash_table.specs.declared.broom_seat.BroomBlocks.{BroomBlocks}
use Rattle.broom.specs.Emptying.{page_at, pages_left, pages_to_fill, Programmed, Emptied, victim_page, closed_if, filled_by, looks_in, is_live, live_from}
use Rattle.broom.specs.Emptying.{count_if}
use Rattle.std.specs.List.{range_with_len}
use mathlib.Core.Logic.{dite}
use native.Mathlib.Decide.{dec_le}
use Rattle.geometry.specs.declared.words.MapWord.{MapWord}
use Rattle.flash_rule.specs.declared.facts.Owned.{Owned}
use Rattle.flash_rule.specs.declared.facts.Work.{Work}
use Rattle.flash_rule.specs.declared.view.View.{View}
use Rattle.flash_table.specs.declared.broom_seat.ReclaimedBlock.{ReclaimedBlock}
use Rattle.flash_table.specs.Owning.{closed_as}

pub left_count : (pages : ℕ) (o : OpenBlock) → length (pages_left pages (Some o)) ≡ pages - o.written
left_count pages o = length-map-range_with_len (page_at o) o.written (pages - o.written)

pub fill_count : (pages : ℕ) (x : BroomBlocks) → length (pages_to_fill pages x) ≡ length (pages_left pages x.destination) + length (pages_left pages x.spare)
fill_count pages x = length-append (pages_left pages x.destination) (pages_left pages x.spare)

-- ---- the victim's pages
pub looks_push : (finds : List (Option (ℕ × ℕ))) (find : Option (ℕ × ℕ)) → looks_in (finds ++ find ∷ []) ≡ looks_in finds ++ looks_in (find ∷ [])
looks_push [] find = refl
looks_push (None ∷ finds) find = looks_push finds find
looks_push (Some look ∷ finds) find = ap (λ (l : List (ℕ × ℕ)). look ∷ l) (looks_push finds find)

pub live_push : (x : ReclaimedBlock) (page last : ℕ) (finds : List (Option (ℕ × ℕ))) (find : Option (ℕ × ℕ)) → page + length finds ≡ last
    → live_from x page (finds ++ find ∷ []) ≡ live_from x page finds + count_if (is_live (victim_page x last) find)
live_push x page last [] find at =
    let here : page ≡ last = omega (arith, at) in
    let same : count_if (is_live (victim_page x page) find) ≡ count_if (is_live (victim_page x last) find) =
    ap (λ p. count_if (is_live (victim_page x p) find)) here in omega arith
live_push x page last (f ∷ finds) find at =
    let rest = live_push x (page + 1) last finds find (omega (arith, at)) in omega arith

-- ---- the pages of an open block
pub pages_more : (pages : ℕ) (o : OpenBlock) → o.written < pages
    → pages_left pages (Some o) ≡ page_at o o.written ∷ pages_left pages (Some (record o { written = o.written + 1 }))
pages_more pages o room =
    let e : pages - o.written ≡ suc (pages - (o.written + 1)) = omega arith in ap (λ n. map (page_at o) (range_with_len o.written n)) e

pub pages_full : (pages : ℕ) (o : OpenBlock) → o.written ≡ pages → pages_left pages (Some o) ≡ []
pages_full pages o full = let e : pages - o.written ≡ 0 = omega arith in ap (λ n. map (page_at o) (range_with_len o.written n)) e

-- ---- the blocks that are filled
pub filled_then : (pages : ℕ) (before after : List MapWord) → filled_by pages (before ++ after) ≡ filled_by pages before ++ filled_by pages after
filled_then pages [] after = refl
filled_then pages (m ∷ before) after =
    let one : List Owned = closed_if (m.page + 1 == pages) m in
    ap (λ (l : List Owned). one ++ l) (filled_then pages before after) ∙ sym (append_assoc one (filled_by pages before) (filled_by pages after))

pub filled_last : (pages : ℕ) (o : OpenBlock) → o.written + 1 ≡ pages
    → filled_by pages (page_at o o.written ∷ []) ≡ closed_as (record o { written = o.written + 1 }) ∷ []
filled_last pages o full = ap (λ b. closed_if b (page_at o o.written) ++ []) (eq-eqb (o.written + 1) pages full)

pub filled_none : (pages : ℕ) (o : OpenBlock) → ¬ (o.written + 1 ≡ pages) → filled_by pages (page_at o o.written ∷ []) ≡ []
filled_none pages o left = ap (λ b. closed_if b (page_at o o.written) ++ []) (ne_eqb (o.written + 1) pages left)

-- ---- nothing is programmed, or one page
pub programmed_none : (pages : ℕ) (v w : View) (x y : BroomBlocks) → w.programs ≡ v.programs → w.work ≡ v.work → y ≡ x → Programmed pages v x [] w y
programmed_none pages v w x y programs work same =
    record {
      listed = programs ∙ sym (append-nil v.programs);
      left = ap (pages_to_fill pages) (sym same);
      spare_kept = λ _. ap (λ (z : BroomBlocks). z.spare) same;
      spare_used = λ over. absurd (omega (arith, over));
      idle = λ _. (work, ap (λ (z : BroomBlocks). z.destination) same);
      filled = λ k some. absurd (some refl);
      filling = λ o some. absurd (some refl);
    }

some_list : {X : Type 0} (x : X) (xs : List X) → x ∷ xs ≡ [] → ⊥
some_list x xs e = absurd (let n : suc (length xs) ≡ 0 = ap length e in omega (arith, n))

pub programmed_one : (pages : ℕ) (v w : View) (x y : BroomBlocks) (m : MapWord) → w.programs ≡ v.programs ++ m ∷ []
    → pages_to_fill pages x ≡ m ∷ pages_to_fill pages y
    → (1 ≤ length (pages_left pages x.destination) → y.spare ≡ x.spare) → (length (pages_left pages x.destination) < 1 → y.spare ≡ None)
    → ((k : Work) → w.work ≡ Some k → k.page ≡ m)
    → ((o : OpenBlock) → y.destination ≡ Some o → (k : Work) × (w.work ≡ Some k)) → Programmed pages v x (m ∷ []) w y
programmed_one pages v w x y m programs left kept used work filling =
    record {
      listed = programs;
      left = left;
      spare_kept = kept;
      spare_used = used;
      idle = λ e. absurd (some_list m [] e);
      filled = λ k some is. ([], ap (λ (p : MapWord). p ∷ []) (sym (work k is)));
      filling = λ o some is. filling o is;
    }

-- ---- one part after another
no_first : {X : Type 0} (xs ys : List X) → xs ++ ys ≡ [] → (xs ≡ []) × (ys ≡ [])
no_first [] ys e = (refl, e)
no_first (x ∷ xs) ys e = absurd (some_list x (xs ++ ys) e)

module _ (pages : ℕ) (u v w : View) (x y z : BroomBlocks) (before after : List MapWord) (first : Programmed pages u x before v y)
    (second : Programmed pages v y after w z) where
  -- what is left in the destination, while the spare is as it was
  lefts : y.spare ≡ x.spare → length (pages_left pages x.destination) ≡ length before + length (pages_left pages y.destination)
  lefts same =
      let all : length (pages_to_fill pages x) ≡ length (before ++ pages_to_fill pages y) = ap (length {A = MapWord}) first.left in
      let mine = length-append (pages_left pages x.destination) (pages_left pages x.spare) in
      let theirs = length-append before (pages_to_fill pages y) in
      let others = length-append (pages_left pages y.destination) (pages_left pages y.spare) in
      let spares : length (pages_left pages y.spare) ≡ length (pages_left pages x.spare) =
      ap (λ (o : Option OpenBlock). length (pages_left pages o)) same in omega arith

  kept : length (before ++ after) ≤ length (pages_left pages x.destination) → z.spare ≡ x.spare
  kept within =
      let long = length-append before after in
      let same = first.spare_kept (omega arith) in
      let rest = lefts same in second.spare_kept (omega arith) ∙ same

  used : length (pages_left pages x.destination) < length (before ++ after) → z.spare ≡ None
  used over =
      let long = length-append before after in
      dite (dec_le (length before) (length (pages_left pages x.destination)))
      (λ within. let same = first.spare_kept within in let rest = lefts same in second.spare_used (omega arith))
      (λ past.
      let none = first.spare_used (omega arith) in
      dite (dec_le (length after) (length (pages_left pages y.destination)))
      (λ within. second.spare_kept within ∙ none)
      (λ more. second.spare_used (omega arith)))

  filled : (l : List MapWord) → l ≡ after → (k : Work) → ¬ (before ++ l ≡ []) → w.work ≡ Some k
      → (earlier : List MapWord) × (before ++ l ≡ earlier ++ k.page ∷ [])
  filled [] same k some is =
      let whole = append-nil before in
      let t = first.filled k (λ e. some (whole ∙ e)) (sym (second.idle (sym same)).0 ∙ is) in (t.0, whole ∙ t.1)
  filled (m ∷ l) same k some is =
      let t = second.filled k (λ e. some_list m l (same ∙ e)) is in
      (before ++ t.0, ap (λ (r : List MapWord). before ++ r) (same ∙ t.1) ∙ sym (append_assoc before t.0 (k.page ∷ [])))

  filling : (l : List MapWord) → l ≡ after → (o : OpenBlock) → ¬ (before ++ l ≡ []) → z.destination ≡ Some o → (k : Work) × (w.work ≡ Some k)
  filling [] same o some is =
      let idle = second.idle (sym same) in
      let t = first.filling o (λ e. some (append-nil before ∙ e)) (sym idle.1 ∙ is) in (t.0, idle.0 ∙ t.1)
  filling (m ∷ l) same o some is = second.filling o (λ e. some_list m l (same ∙ e)) is

  pub programmed_then : Programmed pages u x (before ++ after) w z
  programmed_then =
      record {
        listed = second.listed ∙ (ap (λ (l : List MapWord). l ++ after) first.listed ∙ append_assoc u.programs before after);
        left = first.left ∙ (ap (λ (l : List MapWord). before ++ l) second.left ∙ sym (append_assoc before after (pages_to_fill pages z)));
        spare_kept = kept;
        spare_used = used;
        idle = λ e. let none = no_first before after e in let late = second.idle none.1 in let early = first.idle none.0 in
            (late.0 ∙ early.0, late.1 ∙ early.1);
        filled = filled after refl;
        filling = filling after refl;
      }

-- ---- page after page
abbrev pub emptied_none : (pages : ℕ) (x : ReclaimedBlock) (v : View) (y : BroomBlocks) → Emptied pages (record x { written = 0 }) v y 0 v y
emptied_none pages x v y =
    record {
      finds = [];
      visited = refl;
      named = sym (append-nil v.named);
      copies = [];
      each = refl;
      moved = omega arith;
      programmed = programmed_none pages v v y y refl refl refl;
    }

abbrev pub emptied_more : (pages : ℕ) (x : ReclaimedBlock) (page copied moved now : ℕ) (u v w : View) (a b c : BroomBlocks)
    → Emptied pages (record x { written = page }) u a copied v b → (find : Option (ℕ × ℕ))
    → w.named ≡ v.named ++ looks_in (find ∷ []) → (copies : List MapWord) → length copies ≡ count_if (is_live (victim_page x page) find)
    → moved ≤ length copies → now ≡ copied + moved → Programmed pages v b copies w c
    → Emptied pages (record x { written = page + 1 }) u a now w c
emptied_more pages x page copied moved now u v w a b c h find named copies each few sum programmed =
    let visited : length (h.finds ++ find ∷ []) ≡ page + 1 = let e = length-append h.finds (find ∷ []) in let v1 = h.visited in omega arith in
    let live = live_push x 0 page h.finds find (let v1 = h.visited in omega arith) in
    let long = length-append h.copies copies in
    let e1 = h.each in
    let m1 = h.moved in
    record {
      finds = h.finds ++ find ∷ [];
      visited = visited;
      named = named ∙ (ap (λ (l : List (ℕ × ℕ)). l ++ looks_in (find ∷ [])) h.named
          ∙ (append_assoc u.named (looks_in h.finds) (looks_in (find ∷ [])) ∙ ap (λ (l : List (ℕ × ℕ)). u.named ++ l) (sym (looks_push h.finds find))));
      copies = h.copies ++ copies;
      each = omega arith;
      moved = omega arith;
      programmed = programmed_then pages u v w a b c h.copies copies h.programmed programmed;
    }

-- what was emptied, told of views and blocks with the same parts
abbrev pub emptied_same : (pages copied : ℕ) (x : ReclaimedBlock) (v v' w w' : View) (a a' b b' : BroomBlocks) → v.named ≡ v'.named
    → v.programs ≡ v'.programs → v.work ≡ v'.work → w'.named ≡ w.named → w'.programs ≡ w.programs → w'.work ≡ w.work
    → ◌≡◌ {A = Option OpenBlock × Option OpenBlock} (a.destination, a.spare) (a'.destination, a'.spare)
    → ◌≡◌ {A = Option OpenBlock × Option OpenBlock} (b'.destination, b'.spare) (b.destination, b.spare) → Emptied pages x v a copied w b
    → Emptied pages x v' a' copied w' b'
emptied_same pages copied x v v' w w' a a' b b' named programs work named' programs' work' before after h =
    let t = h.programmed in
    let Both : Type 0 = Option OpenBlock × Option OpenBlock in
    let fills : Both → List MapWord = λ d. pages_left pages d.0 ++ pages_left pages d.1 in
    let first : a.destination ≡ a'.destination = ap (λ (d : Both). d.0) before in
    let spare : a.spare ≡ a'.spare = ap (λ (d : Both). d.1) before in
    let first' : b'.destination ≡ b.destination = ap (λ (d : Both). d.0) after in
    let spare' : b'.spare ≡ b.spare = ap (λ (d : Both). d.1) after in
    let long : length (pages_left pages a.destination) ≡ length (pages_left pages a'.destination) =
    ap (λ (d : Option OpenBlock). length (pages_left pages d)) first in
    record {
      finds = h.finds;
      visited = h.visited;
      named = named' ∙ (h.named ∙ ap (λ (l : List (ℕ × ℕ)). l ++ looks_in h.finds) named);
      copies = h.copies;
      each = h.each;
      moved = h.moved;
      programmed = record {
        listed = programs' ∙ (t.listed ∙ ap (λ (l : List MapWord). l ++ h.copies) programs);
        left = sym (ap fills before) ∙ (t.left ∙ ap (λ (l : List MapWord). h.copies ++ l) (sym (ap fills after)));
        spare_kept = λ within. spare' ∙ (t.spare_kept (omega arith) ∙ spare);
        spare_used = λ over. spare' ∙ t.spare_used (omega arith);
        idle = λ none. let i = t.idle none in (work' ∙ (i.0 ∙ work), first' ∙ (i.1 ∙ first));
        filled = λ k some is. t.filled k some (sym work' ∙ is);
        filling = λ o some is. let k = t.filling o some (sym first' ∙ is) in (k.0, work' ∙ k.1);
      };
    }
