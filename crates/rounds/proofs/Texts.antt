-- Lines that are answered in order are the answers of their commands, as text.
use Rattle.std.proofs.Common.{◌≡◌, ℕ, ◌+◌, ◌⊎◌, inl, inr, ⊎_elim, List, [], ◌∷◌, ◌++◌, Bool, true, false, None, Some, zero, suc, length, refl, sym, ap, ◌∙◌}
use Rattle.std.proofs.{Common.subst, Common.append_assoc, Common.append-nil, Common.codes, lemmas.Bool.false≢true}
use Rattle.std.specs.{Prelude.slice_get, Prelude.if◌then◌else◌, List.fold, Option.option_map, Option.option_map_or}
use Rattle.std.proofs.lemmas.{List.length-append, List.length-map, List.Sums.fold-append, Option.slice_get-map, Option.same_Some}
use Rattle.geometry.specs.{History.Call, History.step, History.after, History.held, Sectors.Sector, Sectors.sector_at}
use Rattle.trace.specs.declared.commands.{Command.Command, Op.Op}
use Rattle.trace.specs.declared.commands.Op.TheVariants as op
use Rattle.answers.specs.Answers.{answer_of, calls_of, history_before, lines_before, line_text}
use Rattle.answers.proofs.Texts.{array_more, lines_more}
use Rattle.rounds.specs.{declared.answer.Kind.Kind, Lines.calls_by, Lines.is_full, Lines.IsRight, Told.Line, Told.sector_of, Told.calls_in, Told.is_right}
use Rattle.rounds.specs.{Orders.InOrder, Orders.LeaveSame, Told.answer_text, Told.lines_text, Told.commands_in, Told.refused_in, Told.OrderIsText}
use Rattle.rounds.specs.declared.answer.Kind.TheVariants as kind

-- a right answer is the text that the array gives
answer_is : (o : Op) (x : Sector) (k : Kind) (page : List ℕ) → IsRight o x k page → answer_text k page ≡ answer_of (codes "full") (is_full k) o x
answer_is op.Read None k page r = ap (λ a. answer_text a page) r
answer_is op.Read (Some v) k page r = ap (λ a. answer_text a page) r.0 ∙ ap (answer_text kind.Page) r.1
answer_is op.Write None k page r =
    ⊎_elim
    (λ (full : k ≡ kind.Full). subst (λ a. answer_text a page ≡ answer_of (codes "full") (is_full a) op.Write None) (sym full) refl)
    (λ (done : k ≡ kind.Empty). subst (λ a. answer_text a page ≡ answer_of (codes "full") (is_full a) op.Write None) (sym done) refl) r
answer_is op.Write (Some v) k page r =
    ⊎_elim
    (λ (full : k ≡ kind.Full). subst (λ a. answer_text a page ≡ answer_of (codes "full") (is_full a) op.Write (Some v)) (sym full) refl)
    (λ (done : k ≡ kind.Written). subst (λ a. answer_text a page ≡ answer_of (codes "full") (is_full a) op.Write (Some v)) (sym done) refl) r
answer_is op.New None k page r =
    ⊎_elim
    (λ (full : k ≡ kind.Full). subst (λ a. answer_text a page ≡ answer_of (codes "full") (is_full a) op.New None) (sym full) refl)
    (λ (done : k ≡ kind.Empty). subst (λ a. answer_text a page ≡ answer_of (codes "full") (is_full a) op.New None) (sym done) refl) r
answer_is op.New (Some v) k page r =
    ⊎_elim
    (λ (full : k ≡ kind.Full). subst (λ a. answer_text a page ≡ answer_of (codes "full") (is_full a) op.New (Some v)) (sym full) refl)
    (λ (done : k ≡ kind.Written). subst (λ a. answer_text a page ≡ answer_of (codes "full") (is_full a) op.New (Some v)) (sym done) refl) r
answer_is op.Trim None k page r = ap (λ a. answer_text a page) r
answer_is op.Trim (Some v) k page r = ap (λ a. answer_text a page) r
answer_is op.Meet x k page r = ap (λ a. answer_text a page) r

-- only a write is turned away
only_writes : (o : Op) (x : Sector) (k : Kind) (page : List ℕ) → IsRight o x k page → is_full k ≡ true → (o ≡ op.Write) ⊎ (o ≡ op.New)
only_writes op.Read None k page r full = absurd (false≢true (sym (ap is_full r) ∙ full))
only_writes op.Read (Some v) k page r full = absurd (false≢true (sym (ap is_full r.0) ∙ full))
only_writes op.Write x k page r full = inl refl
only_writes op.New x k page r full = inr refl
only_writes op.Trim None k page r full = absurd (false≢true (sym (ap is_full r) ∙ full))
only_writes op.Trim (Some v) k page r full = absurd (false≢true (sym (ap is_full r) ∙ full))
only_writes op.Meet x k page r full = absurd (false≢true (sym (ap is_full r) ∙ full))

-- which pass makes a call is no matter to the array
same_step : (a : List Sector) (full : Bool) (t : ℕ) (o : Op) (s : ℕ) (value : List ℕ) (c : Command)
    → c ≡ record { worker = t; op = o; sector = s; page = value }
    → fold step a (if full then [] else calls_by t o s value) ≡ fold step a (calls_of full c)
same_step a full t o s value c is = go full o ∙ ap (λ d. fold step a (calls_of full d)) (sym is)
  where
    go : (b : Bool) (p : Op) → fold step a (if b then [] else calls_by t p s value)
        ≡ fold step a (calls_of b (record { worker = t; op = p; sector = s; page = value }))
    go true p = refl
    go false op.Read = refl
    go false op.Write = refl
    go false op.New = refl
    go false op.Trim = refl
    go false op.Meet = refl

-- what stands behind others in a list
there : {X : Type 0} (done : List X) (x : X) (rest : List X) → slice_get (done ++ x ∷ rest) (length done) ≡ Some x
there [] x rest = refl
there (d ∷ done) x rest = there done x rest

module _ (n : ℕ) (all : List Line) where
  text_from : (done rest : List Line) (h : List Call) → done ++ rest ≡ all
      → LeaveSame n h (history_before (refused_in all) (commands_in all) (length done)) → InOrder sector_of calls_in is_right n h rest
      → lines_before (codes "full") n (refused_in all) (commands_in all) (length done)
      ++ lines_text (length done) rest ≡ lines_before (codes "full") n (refused_in all) (commands_in all) (length all)
  text_from done [] h whole same order =
      append-nil (lines_before (codes "full") n (refused_in all) (commands_in all) (length done))
      ∙ ap (λ xs. lines_before (codes "full") n (refused_in all) (commands_in all) (length xs)) (sym (append-nil done) ∙ whole)
  text_from done (x ∷ rest) h whole same (right, order) =
      let cs = commands_in all in
      let refused = refused_in all in
      let k = length done in
      let c = x.command in
      let here : slice_get all k ≡ Some x = subst (λ xs. slice_get xs k ≡ Some x) whole (there done x rest) in
      let is : slice_get cs k ≡ Some c = slice_get-map (λ (x : Line). x.command) all k ∙ ap (λ o. option_map (λ (x : Line). x.command) o) here in
      let full : refused k ≡ is_full x.kind = ap (λ o. option_map_or (λ (x : Line). is_full x.kind) o false) here in
      let array : after n (h ++ calls_in x) ≡ after n (history_before refused cs (k + 1)) =
      fold-append step (after n []) h (calls_in x)
      ∙ (ap (λ a. fold step a (calls_in x)) same
      ∙ (same_step (after n (history_before refused cs k)) (is_full x.kind) c.worker c.op c.sector c.page c refl
      ∙ (ap (λ b. fold step (after n (history_before refused cs k)) (calls_of b c)) (sym full) ∙ sym (array_more n refused cs k c is)))) in
      let text : answer_text x.kind x.page ≡ answer_of (codes "full") (refused k) c.op (held n (history_before refused cs k) c.sector) =
      answer_is c.op (held n h c.sector) x.kind x.page right
      ∙ (ap (λ b. answer_of (codes "full") b c.op (held n h c.sector)) (sym full)
      ∙ ap (λ a. answer_of (codes "full") (refused k) c.op (sector_at a c.sector)) same) in
      let more = lines_more (codes "full") n refused cs k c is in
      let long : length (done ++ x ∷ []) ≡ k + 1 = length-append done (x ∷ []) in
      let next = text_from (done ++ x ∷ []) rest (h ++ calls_in x) (append_assoc done (x ∷ []) rest ∙ whole)
      (array ∙ ap (λ j. after n (history_before refused cs j)) (sym long)) order in
      ap (λ a. lines_before (codes "full") n refused cs k ++ (line_text (k + 1) c.op c.sector a ++ lines_text (k + 1) rest)) text
      ∙ (sym (append_assoc (lines_before (codes "full") n refused cs k)
      (line_text (k + 1) c.op c.sector (answer_of (codes "full") (refused k) c.op (held n (history_before refused cs k) c.sector)))
      (lines_text (k + 1) rest))
      ∙ (ap (λ l. l ++ lines_text (k + 1) rest) (sym more)
      ∙ subst (λ j. lines_before (codes "full") n refused cs j ++ lines_text j rest ≡ lines_before (codes "full") n refused cs (length all)) long next))

  -- the lines at the refused places are writes
  refused_are_writes : (h : List Call) (xs : List Line) → InOrder sector_of calls_in is_right n h xs → (k : ℕ) (c : Command)
      → slice_get (commands_in xs) k ≡ Some c → refused_in xs k ≡ true → (c.op ≡ op.Write) ⊎ (c.op ≡ op.New)
  refused_are_writes h [] order k c is full = absurd (cc)
  refused_are_writes h (x ∷ xs) (right, order) zero c is full =
      let same : x.command ≡ c = same_Some x.command c is in
      subst (λ (d : Command). (d.op ≡ op.Write) ⊎ (d.op ≡ op.New)) same (only_writes x.command.op (held n h x.command.sector) x.kind x.page right full)
  refused_are_writes h (x ∷ xs) (right, order) (suc k) c is full = refused_are_writes (h ++ calls_in x) xs order k c is full

pub order_is_text : OrderIsText
order_is_text n xs order = record {
  refused = refused_in xs;
  writes = refused_are_writes n xs [] xs order;
  answers = text_from n xs [] xs [] refl refl order
      ∙ ap (λ k. lines_before (codes "full") n (refused_in xs) (commands_in xs) k) (sym (length-map xs (λ (x : Line). x.command)));
}
