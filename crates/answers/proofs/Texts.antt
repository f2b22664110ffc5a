-- One command more: the history and the text grow by its own part.
use Rattle.std.proofs.Common.{◌≡◌, ℕ, ◌+◌, Bool, List, [], ◌∷◌, ◌++◌, Some, zero, suc, sym, ap, ◌∙◌, add-zero, zero-add, append_assoc, append-nil, arith}
use Rattle.std.specs.{Prelude.slice_get, List.flat_map, List.range_with_len, List.fold, Option.option_map_or}
use Rattle.std.proofs.lemmas.List.{Concat.flat_map-append, Sums.fold-append}
use Rattle.geometry.specs.History.{step, after, held, Begins}
use Rattle.trace.specs.declared.commands.Command.{Command}
use Rattle.answers.specs.Answers.{at_place, calls_of, history_before, line_at, lines_before, line_text, answer_of}

pub range_with_len_more : (a n : ℕ) → range_with_len a (n + 1) ≡ range_with_len a n ++ (a + n) ∷ []
range_with_len_more a zero = ap (λ k. k ∷ []) (sym (add-zero a))
range_with_len_more a (suc n) =
    let e : (a + 1) + n ≡ a + suc n = omega arith in
    let more : suc n + 1 ≡ suc (n + 1) = omega arith in
    ap (range_with_len a) more ∙ ap (λ rest. a ∷ rest) (range_with_len_more (a + 1) n ∙ ap (λ k. range_with_len (a + 1) n ++ k ∷ []) e)

-- one place more of a list that is made place by place
pub flat_map_more : {X : Type 0} (f : ℕ → List X) (n : ℕ) → flat_map f (range_with_len 0 (n + 1)) ≡ flat_map f (range_with_len 0 n) ++ f n
flat_map_more f n =
    ap (flat_map f) (range_with_len_more 0 n ∙ ap (λ k. range_with_len 0 n ++ k ∷ []) (zero-add n))
    ∙ (flat_map-append f (range_with_len 0 n) (n ∷ []) ∙ ap (λ last. flat_map f (range_with_len 0 n) ++ last) (append-nil (f n)))

pub flat_map_begins : {X : Type 0} (f : ℕ → List X) (n m : ℕ) → Begins (flat_map f (range_with_len 0 n)) (flat_map f (range_with_len 0 (n + m)))
flat_map_begins f n zero = ([], append-nil (flat_map f (range_with_len 0 n)) ∙ ap (λ k. flat_map f (range_with_len 0 k)) (sym (add-zero n)))
flat_map_begins f n (suc m) =
    let before = flat_map_begins f n m in
    let e : (n + m) + 1 ≡ n + suc m = omega arith in (
      before.0 ++ f (n + m),
      sym (append_assoc (flat_map f (range_with_len 0 n)) before.0 (f (n + m)))
          ∙ (ap (λ front. front ++ f (n + m)) before.1 ∙ (sym (flat_map_more f (n + m)) ∙ ap (λ k. flat_map f (range_with_len 0 k)) e)),
    )

-- what is made of the command at a place
pub at_place_is : {X : Type 0} (commands : List Command) (k : ℕ) (c : Command) (f : Command → List X) → slice_get commands k ≡ Some c
    → at_place commands k f ≡ f c
at_place_is commands k c f is = ap (λ o. option_map_or f o []) is

-- the array after one command more
pub array_more : (n : ℕ) (refused : ℕ → Bool) (commands : List Command) (k : ℕ) (c : Command) → slice_get commands k ≡ Some c
    → after n (history_before refused commands (k + 1)) ≡ fold step (after n (history_before refused commands k)) (calls_of (refused k) c)
array_more n refused commands k c is =
    ap (after n) (flat_map_more (λ j. at_place commands j (calls_of (refused j))) k
    ∙ ap (λ calls. history_before refused commands k ++ calls) (at_place_is commands k c (calls_of (refused k)) is))
    ∙ fold-append step (after n []) (history_before refused commands k) (calls_of (refused k) c)

-- the text of one line more
pub lines_more : (refusal : List ℕ) (n : ℕ) (refused : ℕ → Bool) (commands : List Command) (k : ℕ) (c : Command) → slice_get commands k ≡ Some c
    → lines_before refusal n refused commands (k + 1) ≡ lines_before refusal n refused commands k
    ++ line_text (k + 1) c.op c.sector (answer_of refusal (refused k) c.op (held n (history_before refused commands k) c.sector))
lines_more refusal n refused commands k c is =
    flat_map_more (line_at refusal n refused commands) k
    ∙ ap (λ line. lines_before refusal n refused commands k ++ line)
    (at_place_is commands k c
    (λ command. line_text (k + 1) command.op command.sector
    (answer_of refusal (refused k) command.op (held n (history_before refused commands k) command.sector))) is)
