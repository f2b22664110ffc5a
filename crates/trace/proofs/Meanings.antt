-- The commands that are kept, by the places of their digits.
use Rattle.std.proofs.Common.{◌≡◌, ℕ, zero, suc, ◌+◌, ◌<◌, ◌≤◌, inl, inr, List, [], ◌∷◌, ◌++◌, length, map, take, drop, refl, sym, subst, ap, ap₂, ◌∙◌}
use Rattle.std.proofs.{Common.append_assoc, Common.arith, Common.length-append, Math.Seq.drop-append_seam}
use Rattle.std.proofs.lemmas.List.{length-map, map-append, take-append-le, take_all, Elements.All-append, Elements.All-cons, Elements.All-nil}
use Rattle.std.specs.Prelude.{All, Some, slice_get, slice_index_or}
use Rattle.trace.specs.{Page.IsData, Parsing.page_len}
use Rattle.trace.specs.Stored.{IsKept, command_at, digits_at, drafted, head_of, stored_in, with_digits}
use Rattle.trace.specs.declared.{commands.Command.Command, draft.Draft.Draft, stored.Head.Head, stored.Stored.Stored}

-- what a list holds at a place and after it, seen through a function
pub map_at : {A B : Type 0} (f : A → B) (xs : List A) (i : ℕ) (x : A) → i < length xs → x ≡ slice_index_or xs i x
    → (slice_get (map f xs) i ≡ Some (f x)) × (drop i (map f xs) ≡ f x ∷ drop (suc i) (map f xs))
map_at f [] i x h e = absurd (omega arith)
map_at f (y ∷ xs) zero x h e = (ap (λ v. Some (f v)) (sym e), ap (λ v. f v ∷ map f xs) (sym e))
map_at f (y ∷ xs) (suc i) x h e = map_at f xs i x (omega arith) e

-- a part of a list is the same where the list grows
part-append : (start count : ℕ) (xs ys : List ℕ) → start + count ≤ length xs → take count (drop start (xs ++ ys)) ≡ take count (drop start xs)
part-append zero count xs ys h = take-append-le count xs ys (omega arith)
part-append (suc start) count [] ys h = absurd (omega arith)
part-append (suc start) count (x ∷ xs) ys h = part-append start count xs ys (omega arith)

-- digits that stand in the text
pub digits-text : (text odd : List ℕ) (s : Stored) → s.start + s.brief.digits ≤ length text → digits_at text odd s ≡ take s.brief.digits (drop s.start text)
digits-text text odd s h = part-append s.start s.brief.digits text odd h

-- digits that are put behind the odd ones
digits-new : (text odd digits : List ℕ) (s : Stored) → s.start ≡ length text + length odd → s.brief.digits ≡ length digits
    → digits_at text (odd ++ digits) s ≡ digits
digits-new text odd digits s start count =
    let seam : s.start ≡ length (text ++ odd) = omega (arith, start, length-append text odd) in
    ap (λ l. take s.brief.digits (drop s.start l)) (sym (append_assoc text odd digits))
    ∙ ap₂ (λ (n k : ℕ). take n (drop k ((text ++ odd) ++ digits))) count seam
    ∙ ap (take (length digits)) (drop-append_seam (text ++ odd) digits)
    ∙ take_all (length digits) digits (omega arith)

-- a command stays where others' digits follow
digits-append : (text odd more : List ℕ) (s : Stored) → s.start + s.brief.digits ≤ length (text ++ odd) → digits_at text (odd ++ more) s ≡ digits_at text odd s
digits-append text odd more s h =
    ap (λ l. take s.brief.digits (drop s.start l)) (sym (append_assoc text odd more)) ∙ part-append s.start s.brief.digits (text ++ odd) more h

kept-append : (text odd more : List ℕ) (size : ℕ) (s : Stored) → IsKept text odd size s → IsKept text (odd ++ more) size s
kept-append text odd more size s h =
    let same = digits-append text odd more s h.within in
    record {
      within = omega (arith, h.within, length-append text odd, length-append text (odd ++ more), length-append odd more);
      whole = h.whole;
      fits = subst (IsData (page_len s.brief.op size)) (sym same) h.fits;
    }

all_kept-append : (text odd more : List ℕ) (size : ℕ) (xs : List Stored) → All (IsKept text odd size) xs → All (IsKept text (odd ++ more) size) xs
all_kept-append text odd more size xs h k d lt = kept-append text odd more size _ (h k d lt)

-- and so do all
commands-append : (text odd more : List ℕ) (size : ℕ) (xs : List Stored) → All (IsKept text odd size) xs
    → map (command_at text (odd ++ more) size) xs ≡ map (command_at text odd size) xs
commands-append text odd more size [] h = refl
commands-append text odd more size (x ∷ xs) h =
    let kept : IsKept text odd size x = h 0 x (omega arith) in
    let others : All (IsKept text odd size) xs = λ k d lt. h (suc k) d (omega arith) in
    ap₂ (λ (c : Command) (cs : List Command). c ∷ cs) (ap (with_digits (head_of x.brief) size) (digits-append text odd more x kept.within))
    (commands-append text odd more size xs others)

-- ---- one command more

module _ (text odd : List ℕ) (size : ℕ) (xs : List Stored) (s : Stored) (head : Head) (is : head_of s.brief ≡ head) where
  op_is : s.brief.op ≡ head.op
  op_is = ap (λ (h : Head). h.op) is

  -- a command is added behind the others
  pushed : (digits : List ℕ) → digits_at text odd s ≡ digits
      → map (command_at text odd size) (xs ++ s ∷ []) ≡ map (command_at text odd size) xs ++ with_digits head size digits ∷ []
  pushed digits e =
      map-append (command_at text odd size) xs (s ∷ [])
      ∙ ap₂ (λ (h : Head) (d : List ℕ). map (command_at text odd size) xs ++ with_digits h size d ∷ []) is e

  -- and is kept beside them
  kept : All (IsKept text odd size) xs → IsKept text odd size s → All (IsKept text odd size) (xs ++ s ∷ [])
  kept before h = All-append (IsKept text odd size) xs (s ∷ []) before (All-cons (IsKept text odd size) s [] h (All-nil (IsKept text odd size)))

  data_is : (digits : List ℕ) → digits_at text odd s ≡ digits → IsData (page_len head.op size) digits → IsData (page_len s.brief.op size) (digits_at text odd s)
  data_is digits e h = subst (λ o. IsData (page_len o size) (digits_at text odd s)) (sym op_is) (subst (IsData (page_len head.op size)) (sym e) h)

-- one whose digits stand in the text
module _ (text odd : List ℕ) (size : ℕ) (xs : List Stored) (s : Stored) (head : Head) (is : head_of s.brief ≡ head)
    (within : s.start + s.brief.digits ≤ length text) where
  pub push-kept : All (IsKept text odd size) xs → IsData (page_len head.op size) (take s.brief.digits (drop s.start text))
      → All (IsKept text odd size) (xs ++ s ∷ [])
  push-kept before h = kept text odd size xs s head is before record {
    within = omega (arith, within, length-append text odd);
    whole = inl within;
    fits = data_is text odd size xs s head is _ (digits-text text odd s within) h;
  }

-- one whose digits are put behind the odd ones
module _ (text odd digits : List ℕ) (size : ℕ) (xs : List Stored) (s : Stored) (head : Head) (is : head_of s.brief ≡ head)
    (start : s.start ≡ length text + length odd) (count : s.brief.digits ≡ length digits) where
  pub push_odd-commands : All (IsKept text odd size) xs
      → map (command_at text (odd ++ digits) size) (xs ++ s ∷ []) ≡ map (command_at text odd size) xs ++ with_digits head size digits ∷ []
  push_odd-commands before =
      pushed text (odd ++ digits) size xs s head is digits (digits-new text odd digits s start count)
      ∙ ap (λ cs. cs ++ with_digits head size digits ∷ []) (commands-append text odd digits size xs before)

  pub push_odd-kept : All (IsKept text odd size) xs → IsData (page_len head.op size) digits → All (IsKept text (odd ++ digits) size) (xs ++ s ∷ [])
  push_odd-kept before h = kept text (odd ++ digits) size xs s head is (all_kept-append text odd digits size xs before) record {
    within = omega (arith, start, count, length-append text (odd ++ digits), length-append odd digits);
    whole = inr (omega (arith, start));
    fits = data_is text (odd ++ digits) size xs s head is digits (digits-new text odd digits s start count) h;
  }

-- the number of the line behind the commands so far
pub line_is : (text : List ℕ) (d : Draft) → length (stored_in d.stored) + 1 ≡ length (drafted text d) + 1
line_is text d = ap (λ n. n + 1) (sym (length-map (stored_in d.stored) (command_at text d.odd.items d.page_bytes)))
