-- The text grows line by line.
use Rattle.std.proofs.Common.{◌≡◌, ℕ, ◌+◌, ◌≤◌, List, [], ◌∷◌, ◌++◌, Option, None, Some, suc, length, take, drop, sym, ap, ◌∙◌, subst, append_assoc, append-nil}
use Rattle.std.{proofs.Common.add-zero, proofs.Common.zero-add, proofs.Common.arith, specs.Prelude.slice_get}
use Rattle.std.proofs.lemmas.List.{length-map, take_all, take-append-drop}
use Rattle.geometry.specs.History.{Begins}
use Rattle.trace.specs.declared.commands.Command.{Command}
use Rattle.answers.specs.{Answers.end_text, Answers.line_text, Delivery.IsUnderWay}
use Rattle.answers.proofs.Deliveries.{IsUnderWay-more, IsUnderWay-trans}
use Rattle.rounds.specs.{Lines.Said, Told.Line, Told.answer_text, Told.lines_text, Merging.answer_for, Merging.merge, Merging.next_of, Merging.rows_after}
use Rattle.rounds.proofs.{Merging.commands_in-merge, Merging.merge-append, Planning.commands_more}
use Rattle.runs.specs.Texts.{text_of}

-- lines in two parts
pub lines_text-append : (k : ℕ) (xs ys : List Line) → lines_text k (xs ++ ys) ≡ lines_text k xs ++ lines_text (k + length xs) ys
lines_text-append k [] ys = ap (λ j. lines_text j ys) (sym (add-zero k))
lines_text-append k (x ∷ xs) ys =
    let on : (k + 1) + length xs ≡ k + suc (length xs) = omega arith in
    let first = line_text (k + 1) x.command.op x.command.sector (answer_text x.kind x.page) in
    ap (λ l. first ++ l) (lines_text-append (k + 1) xs ys ∙ ap (λ j. lines_text (k + 1) xs ++ lines_text j ys) on)
    ∙ sym (append_assoc first (lines_text (k + 1) xs) (lines_text (k + suc (length xs)) ys))

pub length-merge : (cs : List Command) (rows : ℕ → List Said) → length (merge cs rows) ≡ length cs
length-merge cs rows = sym (length-map (merge cs rows) (λ (x : Line). x.command)) ∙ ap (length {A = Command}) (commands_in-merge cs rows)

-- the text of the first lines
abbrev pub text_before : ℕ → List Command → (ℕ → List Said) → List ℕ
text_before i cs rows = lines_text 0 (merge (take i cs) rows)

-- one line more
pub text_more : (i : ℕ) (cs : List Command) (c : Command) (rows : ℕ → List Said) (o : Option Said) → slice_get cs i ≡ Some c
    → o ≡ next_of c (rows_after (take i cs) rows)
    → text_before (i + 1) cs rows ≡ text_before i cs rows ++ line_text (i + 1) c.op c.sector (answer_text (answer_for c o).kind (answer_for c o).page)
text_more i cs c rows o at is =
    let more = commands_more cs i c at in
    let done = merge (take i cs) rows in
    let long : 0 + length done ≡ i = zero-add (length done) ∙ (length-merge (take i cs) rows ∙ more.1) in
    ap (λ l. lines_text 0 (merge l rows)) more.0
    ∙ (ap (lines_text 0) (merge-append (take i cs) (c ∷ []) rows)
    ∙ (lines_text-append 0 done (answer_for c (next_of c (rows_after (take i cs) rows)) ∷ [])
    ∙ (ap (λ p. lines_text 0 done ++ lines_text (0 + length done) (answer_for c p ∷ [])) (sym is)
    ∙ (ap (λ k. lines_text 0 done ++ lines_text k (answer_for c o ∷ [])) long
    ∙ ap (λ l. lines_text 0 done ++ l) (one o)))))
  where
    one : (p : Option Said) → lines_text i (answer_for c p ∷ []) ≡ line_text (i + 1) c.op c.sector (answer_text (answer_for c p).kind (answer_for c p).page)
    one None = append-nil _
    one (Some a) = append-nil _

-- it begins the whole text
pub text_begins : (i : ℕ) (cs : List Command) (rows : ℕ → List Said) → Begins (text_before i cs rows) (text_of cs rows)
text_begins i cs rows =
    let done = merge (take i cs) rows in
    let rest = merge (drop i cs) (rows_after (take i cs) rows) in
    let whole : lines_text 0 (merge cs rows) ≡ lines_text 0 done ++ lines_text (0 + length done) rest =
    ap (λ l. lines_text 0 (merge l rows)) (sym (take-append-drop i cs))
    ∙ (ap (lines_text 0) (merge-append (take i cs) (drop i cs) rows) ∙ lines_text-append 0 done rest) in (
      lines_text (0 + length done) rest ++ end_text,
      sym (append_assoc (lines_text 0 done) (lines_text (0 + length done) rest) end_text) ∙ ap (λ l. l ++ end_text) (sym whole),
    )

-- a turn of the loop: there is room for a line, and then it waits
pub delivery_turn : (i : ℕ) (cs : List Command) (c : Command) (rows : ℕ → List Said) (o : Option Said) (old new newer : Option (List ℕ))
    (waiting later last : List ℕ) → IsUnderWay old new waiting (text_before i cs rows) → IsUnderWay new newer later waiting
    → slice_get cs i ≡ Some c → o ≡ next_of c (rows_after (take i cs) rows)
    → last ≡ later ++ line_text (i + 1) c.op c.sector (answer_text (answer_for c o).kind (answer_for c o).page)
    → IsUnderWay old newer last (text_before (i + 1) cs rows)
delivery_turn i cs c rows o old new newer waiting later last under moved at is adds =
    let line = line_text (i + 1) c.op c.sector (answer_text (answer_for c o).kind (answer_for c o).page) in
    subst (λ l. IsUnderWay old newer l (text_before (i + 1) cs rows)) (sym adds)
    (subst (IsUnderWay old newer (later ++ line)) (sym (text_more i cs c rows o at is))
    (IsUnderWay-more old newer later (text_before i cs rows) line (IsUnderWay-trans old new newer later waiting (text_before i cs rows) under moved)))

-- the whole text, behind the last line
pub delivery_whole : (i : ℕ) (cs : List Command) (rows : ℕ → List Said) (old new newer : Option (List ℕ)) (waiting later last : List ℕ)
    → length cs ≤ i → IsUnderWay old new waiting (text_before i cs rows) → IsUnderWay new newer later waiting → last ≡ later ++ end_text
    → IsUnderWay old newer last (text_of cs rows)
delivery_whole i cs rows old new newer waiting later last all under moved ends =
    subst (λ l. IsUnderWay old newer l (text_of cs rows)) (sym ends)
    (subst (λ l. IsUnderWay old newer (later ++ end_text) (lines_text 0 (merge l rows) ++ end_text)) (take_all i cs all)
    (IsUnderWay-more old newer later (text_before i cs rows) end_text (IsUnderWay-trans old new newer later waiting (text_before i cs rows) under moved)))
