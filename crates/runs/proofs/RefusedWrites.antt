-- How many writes are refused, by one command more.
use Rattle.std.proofs.Common.{◌≡◌, ℕ, ◌+◌, ◌≤◌, Bool, true, false, List, [], ◌∷◌, ◌++◌, Option, None, Some, length, replicate, take, refl, sym, ap, ◌∙◌}
use Rattle.std.proofs.{Common.zero-add, Common.arith, lemmas.List.Elements.filter-append, lemmas.List.FromFn.length-range_with_len}
use Rattle.std.specs.{Prelude.if◌then◌else◌, Prelude.slice_get, List.filter, List.range_with_len, Option.option_map_or}
use Rattle.std.proofs.lemmas.List.{length-append, length-replicate, length-take, take-replicate, Sums.count_by-le-length, Sums.length-filter}
use mir.Val.{bool_byte}
use Rattle.geometry.specs.declared.geometry.Geometry.{Geometry}
use Rattle.ftl_one.specs.Stock.{Stock}
use Rattle.trace.specs.declared.commands.Command.{Command}
use Rattle.answers.proofs.Texts.{range_with_len_more}
use Rattle.rounds.specs.{Answers.first_place, Lines.Said, Lines.is_full, Merging.answer_for, Merging.merge, Merging.next_of, Merging.rows_after, Told.Line}
use Rattle.rounds.{specs.declared.answer_list.Cursor.Cursor, proofs.Merging.merge-append, proofs.Planning.commands_more}
use Rattle.runs.specs.Playing.{is_refused, refused_at, stock_before, is_full_line, refused_before}
use Rattle.runs.proofs.{Deliveries.length-merge, Plays.refused_is}

-- of a list and one more, as many pass a test as of the list, and perhaps one
one_more : {X : Type 0} (p : X → Bool) (xs : List X) (x : X) → length (filter p (xs ++ x ∷ [])) ≡ length (filter p xs) + (if p x then 1 else 0)
one_more {X} p xs x =
    ap (length {A = X}) (filter-append p xs (x ∷ [])) ∙ (length-append _ _ ∙ ap (λ n. length (filter p xs) + n) (one (p x)))
  where
    one : (b : Bool) → length (if b then x ∷ [] else []) ≡ (if b then 1 else 0)
    one true = refl
    one false = refl

few : {X : Type 0} (p : X → Bool) (xs : List X) → length (filter p xs) ≤ length xs
few {X} p xs = let same = length-filter p xs in let low = count_by-le-length p xs in omega (arith, same, low)

-- a test as a number
pub bit_is : (b : Bool) → bool_byte b ≡ (if b then 1 else 0)
bit_is true = refl
bit_is false = refl

pub bit_low : (b : Bool) → bool_byte b ≤ 1
bit_low true = omega arith
bit_low false = omega arith

-- no more are refused than were played
pub refused_few : (geo : Geometry) (commands : List Command) (n : ℕ) → refused_before geo commands n ≤ n
refused_few geo commands n =
    let some = few (refused_at geo commands) (range_with_len 0 n) in
    let long = length-range_with_len 0 n in
    omega (arith, some, long)

-- a turn of the loop of a run by one thread
pub refused_turn : (geo its_geo : Geometry) (commands : List Command) (k : ℕ) (c : Command) (stock : Stock) (before mid last : ℕ) → its_geo ≡ geo
    → slice_get commands k ≡ Some c → stock ≡ stock_before geo commands k → before ≡ refused_before geo commands k → mid ≡ before
    → last ≡ mid + (if is_refused its_geo stock c then 1 else 0) → last ≡ refused_before geo commands (k + 1)
refused_turn geo its_geo commands k c stock before mid last same at stock_is so_far kept adds =
    let is : is_refused its_geo stock c ≡ refused_at geo commands k =
    ap (λ x. is_refused x stock c) same ∙ (ap (λ s. is_refused geo s c) stock_is ∙ sym (refused_is geo commands k c at)) in
    adds
    ∙ (ap (λ n. n + (if is_refused its_geo stock c then 1 else 0)) (kept ∙ so_far)
    ∙ (ap (λ b. refused_before geo commands k + (if b then 1 else 0)) is
    ∙ (sym (one_more (refused_at geo commands) (range_with_len 0 k) k)
    ∙ ap (λ l. length (filter (refused_at geo commands) l)) (sym (range_with_len_more 0 k ∙ ap (λ j. range_with_len 0 k ++ j ∷ []) (zero-add k))))))

-- how many of the first lines of a run by workers were refused
abbrev pub lines_refused : ℕ → List Command → (ℕ → List Said) → ℕ
lines_refused i cs rows = length (filter is_full_line (merge (take i cs) rows))

pub lines_few : (i : ℕ) (cs : List Command) (rows : ℕ → List Said) → lines_refused i cs rows ≤ i
lines_few i cs rows =
    let some = few is_full_line (merge (take i cs) rows) in
    let long = length-merge (take i cs) rows in
    let short = length-take i cs in
    omega (arith, some, long, short)

-- a turn of the loop of a run by workers
pub lines_turn : (i : ℕ) (cs : List Command) (c : Command) (rows : ℕ → List Said) (o : Option Said) (before last : ℕ) (full : Bool)
    → slice_get cs i ≡ Some c → o ≡ next_of c (rows_after (take i cs) rows) → full ≡ option_map_or (λ (a : Said). is_full a.kind) o false
    → before ≡ lines_refused i cs rows → last ≡ before + (if full then 1 else 0) → last ≡ lines_refused (i + 1) cs rows
lines_turn i cs c rows o before last full at is full_is so_far adds =
    let more = commands_more cs i c at in
    let done = merge (take i cs) rows in
    adds
    ∙ (ap (λ n. n + (if full then 1 else 0)) so_far
    ∙ (ap (λ b. length (filter is_full_line done) + (if b then 1 else 0)) (full_is ∙ (line_of o ∙ ap (λ p. is_full_line (answer_for c p)) is))
    ∙ (sym (one_more is_full_line done (answer_for c (next_of c (rows_after (take i cs) rows))))
    ∙ ap (λ (l : List Line). length (filter is_full_line l))
    (sym (ap (λ l. merge l rows) more.0 ∙ merge-append (take i cs) (c ∷ []) rows)))))
  where
    line_of : (p : Option Said) → option_map_or (λ (a : Said). is_full a.kind) p false ≡ is_full_line (answer_for c p)
    line_of None = refl
    line_of (Some a) = refl

-- the first places of so many lists
pub first_places : (x : Cursor) (n k : ℕ) → x ≡ first_place → n ≤ k → take n (replicate k x) ≡ replicate (length (take n (replicate k x))) first_place
first_places x n k is low =
    let same : take n (replicate k x) ≡ replicate n first_place = take-replicate n k x low ∙ ap (replicate n) is in
    same ∙ ap (λ m. replicate m first_place) (sym (ap (length {A = Cursor}) same ∙ length-replicate n first_place))
