-- The next answer of each worker, where so many commands have theirs.
use Rattle.std.proofs.Common.{◌≡◌, ℕ, ◌+◌, ◌*◌, ◌<◌, All, List, [], ◌∷◌, ◌++◌, Bool, true, false, Option, None, Some, zero, suc, length, replicate, get_or}
use Rattle.std.proofs.Common.{take, drop, refl, sym, ap, ◌∙◌, subst, arith, eq-eqb, ne_eqb}
use Rattle.std.specs.Prelude.{slice_get, slice_set, if◌then◌else◌, not, ◌&&◌, ◌==◌}
use Rattle.std.proofs.lemmas.List.{get_or-map, get_or-replicate, get_or_default, get_or-set_same, get_or-set_other, length-append, length-map, length-replicate}
use Rattle.std.proofs.lemmas.{List.length-set, List.take-append-drop, List.Elements.filter-append, Option.slice_get_within}
use Rattle.std.proofs.Math.Seq.{take-append_seam}
use mathlib.Core.Logic.{dite}
use native.Mathlib.Decide.{ℕ_discrete}
use Rattle.trace.specs.declared.commands.Command.{Command}
use Rattle.rounds.specs.{Lines.Said, Merging.answers_by, Answers.first_place, Answers.page_size_of, Answers.answer_index, Answers.said_in, Answers.IsCursorOf}
use Rattle.rounds.specs.Merging.{is_meet, is_line_of, line_count, lines_for, next_of, rows_after, HaveAnswers}
use Rattle.rounds.proofs.{Merging.own_line, Planning.at_place, Planning.commands_more, Pages.said_whole}
use Rattle.rounds.specs.declared.answer_list.{Answers.Answers, Cursor.Cursor}
use Rattle.runs.specs.Texts.{AreAt, HasDigits, passed_in}

-- the row of a worker
pub row_is : (rows : List Answers) (w : ℕ) (row : Answers) → row ≡ get_or rows w row → w < length rows → answers_by rows w ≡ said_in row
row_is rows w row is low = get_or-map said_in rows w row [] low ∙ ap said_in (sym is)

-- what was lent whole and came back
pub lent : {X : Type 0} (n : ℕ) (new old : List X) → length new ≡ n → take n (new ++ old) ≡ new
lent n new old same = ap (λ k. take k (new ++ old)) (sym same) ∙ take-append_seam new old

-- a worker with an answer has a row
pub row_there : (rows : List Answers) (w p : ℕ) → p < length (answers_by rows w) → w < length rows
row_there [] w p below = absurd (omega arith)
row_there (r ∷ rows) zero p below = omega arith
row_there (r ∷ rows) (suc w) p below =
    let rest = row_there rows w p below in
    omega arith

-- what holds of all answers of all rows holds of one
pub answer_holds : (P : Said → Type 0) (rows : List Answers) (w p : ℕ) (a : Said) → All (λ row. All P (said_in row)) rows
    → slice_get (answers_by rows w) p ≡ Some a → P a
answer_holds P rows w p a all is =
    let low = row_there rows w p (slice_get_within (answers_by rows w) p a is) in
    go rows low all is
  where
    go : (rs : List Answers) → w < length rs → All (λ row. All P (said_in row)) rs → slice_get (answers_by rs w) p ≡ Some a → P a
    go [] low all is = absurd (cc)
    go (r ∷ rs) low all is =
        let own : All P (answers_by (r ∷ rs) w) = subst (All P) (sym (get_or-map said_in (r ∷ rs) w r [] low)) (all w r low) in
        at_place P (answers_by (r ∷ rs) w) p a own is

-- and so of the answer of a command
pub answer_found : (P : Said → Type 0) (rows : List Answers) (c : Command) (p : ℕ) (a : Said) → All (λ row. All P (said_in row)) rows
    → (if is_meet c.op then None else slice_get (answers_by rows c.worker) p) ≡ Some a → P a
answer_found P rows c p a all is = go (is_meet c.op) is
  where
    go : (b : Bool) → (if b then None else slice_get (answers_by rows c.worker) p) ≡ Some a → P a
    go true is = absurd (cc)
    go false is = answer_holds P rows c.worker p a all is

-- one command more of a worker, or none
pub counted : (t : ℕ) (cs more : List Command) (c : Command) → more ≡ cs ++ c ∷ [] → line_count t more ≡ line_count t cs + (if is_line_of t c then 1 else 0)
counted t cs more c is = ap (line_count t) is
    ∙ (ap (length {A = Command}) (filter-append (is_line_of t) cs (c ∷ [])) ∙ (length-append _ _ ∙ ap (λ n. line_count t cs + n) (one (is_line_of t c))))
  where
    one : (b : Bool) → length (if b then c ∷ [] else []) ≡ (if b then 1 else 0)
    one true = refl
    one false = refl

-- a line of a worker is one of its lines
pub line_before : (t i : ℕ) (cs : List Command) (c : Command) → drop i cs ≡ c ∷ drop (i + 1) cs → is_line_of t c ≡ true
    → line_count t (take i cs) < line_count t cs
line_before t i cs c at mine =
    let parts : line_count t cs ≡ line_count t (take i cs) + line_count t (drop i cs) =
    ap (line_count t) (sym (take-append-drop i cs)) ∙ (ap (length {A = Command}) (filter-append (is_line_of t) (take i cs) (drop i cs)) ∙ length-append _ _) in
    let rest = lines_for t (drop (i + 1) cs) in
    let one : line_count t (drop i cs) ≡ suc (length rest) = ap (line_count t) at ∙ ap (λ b. length (if b then c ∷ rest else rest)) mine in
    omega (arith, parts, one)

first_left : {X : Type 0} (n : ℕ) (xs : List X) → slice_get (drop n xs) 0 ≡ slice_get xs n
first_left zero xs = refl
first_left (suc n) [] = refl
first_left (suc n) (x ∷ xs) = first_left n xs

-- The places of the next answers, where so many commands have theirs
abbrev pub AreNext : List ℕ → ℕ → List Command → Type 0
AreNext next i cs = (t : ℕ) → t < length next → get_or next t 0 ≡ line_count t (take i cs)

module _ (rows : List Answers) (next : List ℕ) (i : ℕ) (cs : List Command) (c : Command) (so_far : AreNext next i cs) (same : length next ≡ length rows) where
  -- a line's worker has an answer for it
  pub next_there : HaveAnswers (answers_by rows) cs → drop i cs ≡ c ∷ drop (i + 1) cs → is_meet c.op ≡ false
      → get_or next c.worker 0 < length (answers_by rows c.worker)
  next_there enough at plain =
      let w = c.worker in
      let fewer = line_before w i cs c at (own_line c plain) in
      let all = enough w in
      let below : line_count w (take i cs) < length (answers_by rows w) = omega arith in
      let low = row_there rows w (line_count w (take i cs)) below in
      let is = so_far w (omega arith) in
      omega arith

  -- and that answer is the command's next one
  pub next_is : (o : Option Said) → (is_meet c.op ≡ false → get_or next c.worker 0 < length (answers_by rows c.worker))
      → o ≡ (if is_meet c.op then None else slice_get (answers_by rows c.worker) (get_or next c.worker 0))
      → o ≡ next_of c (rows_after (take i cs) (answers_by rows))
  next_is o there is = is ∙ go (is_meet c.op) refl
    where
      go : (b : Bool) → is_meet c.op ≡ b
          → (if b then None else slice_get (answers_by rows c.worker) (get_or next c.worker 0))
          ≡ (if b then None else slice_get (drop (line_count c.worker (take i cs)) (answers_by rows c.worker)) 0)
      go true e = refl
      go false e =
          let w = c.worker in
          let low = row_there rows w (get_or next w 0) (there e) in
          ap (slice_get (answers_by rows w)) (so_far w (omega arith)) ∙ sym (first_left (line_count w (take i cs)) (answers_by rows w))

  -- the places behind it
  pub next_more : (more : List ℕ) → slice_get cs i ≡ Some c → (is_meet c.op ≡ false → get_or next c.worker 0 < length (answers_by rows c.worker))
      → more ≡ (if is_meet c.op then next else slice_set next c.worker (get_or next c.worker 0 + 1)) → AreNext more (i + 1) cs
  next_more more at there is = go (is_meet c.op) refl is
    where
      grown : (t : ℕ) → line_count t (take (i + 1) cs) ≡ line_count t (take i cs) + (if is_line_of t c then 1 else 0)
      grown t = counted t (take i cs) (take (i + 1) cs) c (commands_more cs i c at).0

      go : (b : Bool) → is_meet c.op ≡ b → more ≡ (if b then next else slice_set next c.worker (get_or next c.worker 0 + 1)) → AreNext more (i + 1) cs
      go true e is = λ t low.
          let other : is_line_of t c ≡ false = ap (λ b. not b && (c.worker == t)) e in
          let none : ◌≡◌ {A = ℕ} (if is_line_of t c then 1 else 0) 0 = ap (λ b. if b then 1 else 0) other in
          let before = so_far t (subst (λ l. t < length l) is low) in
          ap (λ l. get_or l t 0) is ∙ omega (arith, grown t, none)
      go false e is = λ t low.
          let w = c.worker in
          let long : length more ≡ length next = ap (length {A = ℕ}) is ∙ length-set next w (get_or next w 0 + 1) in
          let before = so_far t (omega arith) in
          dite (ℕ_discrete w t)
          (λ same_worker.
          let one : ◌≡◌ {A = ℕ} (if is_line_of t c then 1 else 0) 1 =
          ap (λ b. if b then 1 else 0) (ap (λ b. not b && (c.worker == t)) e ∙ eq-eqb w t same_worker) in
          let at_own : get_or (slice_set next w (get_or next w 0 + 1)) t 0 ≡ get_or next t 0 + 1 =
          subst (λ u. get_or (slice_set next w (get_or next w 0 + 1)) u 0 ≡ get_or next u 0 + 1) same_worker
          (get_or-set_same next w (get_or next w 0 + 1) 0 (subst (λ u. u < length next) (sym same_worker) (omega arith))) in
          ap (λ l. get_or l t 0) is ∙ (at_own ∙ omega (arith, grown t, one)))
          (λ other.
          let none : ◌≡◌ {A = ℕ} (if is_line_of t c then 1 else 0) 0 = ap (λ b. if b then 1 else 0) (ap (λ b. not b && (c.worker == t)) e ∙ ne_eqb w t other) in
          let kept = get_or-set_other next w t (get_or next w 0 + 1) 0 (λ e. other (sym e)) in
          ap (λ l. get_or l t 0) is ∙ (kept ∙ omega (arith, grown t, none)))

-- a row that goes on by one place is still at it
pub at_more : (rows : List Answers) (next : List Cursor) (w : ℕ) (row : Answers) (cursor : Cursor) → row ≡ get_or rows w row → w < length rows
    → AreAt rows next → IsCursorOf row cursor → AreAt rows (slice_set next w cursor)
at_more rows next w row cursor is low all here t other d below =
    let long = length-set next w cursor in
    dite (ℕ_discrete t w)
    (λ same.
    let last : get_or (slice_set next w cursor) w d ≡ cursor = get_or-set_same next w cursor d (subst (λ u. u < length next) same (omega (arith, long))) in
    let there : get_or rows w other ≡ row = get_or_default rows w other row low ∙ sym is in
    subst (λ u. IsCursorOf (get_or rows u other) (get_or (slice_set next w cursor) u d)) (sym same)
    (subst (λ (x : Answers × Cursor). IsCursorOf x.0 x.1) (λ i. (sym there i, sym last i)) here))
    (λ apart.
    subst (IsCursorOf (get_or rows t other)) (sym (get_or-set_other next w t cursor d apart)) (all t other d (omega (arith, long))))

-- the pages of each row have so many digits
pub all_digits : (n : ℕ) (rows : List Answers) → All (λ row. n ≡ 2 * page_size_of row) rows → All (λ row. All (HasDigits n) (said_in row)) rows
all_digits n rows all k d low =
    let row = get_or rows k d in
    λ j e below is.
    all k d low ∙ ap (λ m. 2 * m) (sym (said_whole row.page_bytes row.kinds.items row.pages.items row.whole j e below is))

-- no row is passed at first
pub none_passed : (next : List Cursor) (n : ℕ) (cs : List Command) → next ≡ replicate n first_place → AreNext (passed_in next) 0 cs
none_passed next n cs is t low =
    let inside : t < length next = omega (arith, length-map next answer_index) in
    get_or-map answer_index next t first_place 0 inside
    ∙ ap answer_index (ap (λ (l : List Cursor). get_or l t first_place) is
    ∙ get_or-replicate n t first_place first_place (subst (λ k. t < k) (ap (length {A = Cursor}) is ∙ length-replicate n first_place) inside))

pub all_at : (rows : List Answers) (next : List Cursor) (n : ℕ) → next ≡ replicate n first_place → AreAt rows next
all_at rows next n is t row cursor low =
    subst (IsCursorOf (get_or rows t row))
    (sym (get_or_default next t cursor first_place low
    ∙ (ap (λ (l : List Cursor). get_or l t first_place) is
    ∙ get_or-replicate n t first_place first_place (subst (λ k. t < k) (ap (length {A = Cursor}) is ∙ length-replicate n first_place) low)))) refl
