-- The check of one record, field by field, and of all records.
use Rattle.std.proofs.Common.{◌≡◌, ◌≢◌, ℕ, ◌+◌, inl, inr, true, List, [], ◌∷◌, ◌++◌, length, map, Result, Ok, Err, refl, ap, ◌∙◌, arith, append_assoc}
use Rattle.std.{proofs.lemmas.List.map-append, specs.Bool.OnTrue, specs.Str.bytes_eq}
use Rattle.std.specs.Prelude.{Bool, false, MatchBool, if◌then◌else◌}
use Rattle.geometry.specs.{Geometry.page_bytes_of, Geometry.sectors_of, declared.geometry.Geometry.Geometry}
use Rattle.hex.specs.{Hex.decode_of, declared.error.FromHexError.FromHexError}
use Rattle.trace.specs.{Parsing.Adds, Parsing.RefusesBy, Parsing.fault_at, Trace.whole_fault, Trace.workers_of, Trace.◌>>=◌, declared.commands.Command.Command}
use Rattle.trace.specs.Trace.{IsFirstFault, all_or_first, checked, command_of, commands_of, is_of_record, number_below}
use Rattle.trace.specs.Trace.{op_name, op_of, page_of_bytes, page_of_op}
use Rattle.trace.specs.declared.{commands.Op.Op, fault.TraceFault.TraceFault, fault.TraceFaultKind.TraceFaultKind}
use Rattle.trace.specs.declared.commands.Op.TheVariants as op
use Rattle.trace.specs.declared.fault.TraceFaultKind.TheVariants as fault

-- ---- the steps of one check

-- a record of another number of fields
pub refuses_fields : (geo : Geometry) (fs : List (List ℕ)) → length fs ≢ 4 → command_of geo fs ≡ Err fault.Fields
unfolding command_of
refuses_fields geo [] n = refl
refuses_fields geo (x ∷ []) n = refl
refuses_fields geo (x ∷ y ∷ []) n = refl
refuses_fields geo (x ∷ y ∷ z ∷ []) n = refl
refuses_fields geo (x ∷ y ∷ z ∷ w ∷ []) n = absurd (n refl)
refuses_fields geo (x ∷ y ∷ z ∷ w ∷ v ∷ fs) n = refl

module _ (geo : Geometry) (a b c d : List ℕ) where
  pub refuses_worker : (k : TraceFaultKind) → number_below (workers_of geo) fault.Worker a ≡ Err k → command_of geo (a ∷ b ∷ c ∷ d ∷ []) ≡ Err k
  unfolding command_of
  refuses_worker k p = rw p refl

  module _ (worker : ℕ) (p : number_below (workers_of geo) fault.Worker a ≡ Ok worker) where
    pub refuses_op : (k : TraceFaultKind) → op_of b ≡ Err k → command_of geo (a ∷ b ∷ c ∷ d ∷ []) ≡ Err k
    unfolding command_of
    refuses_op k q = rw (p, q) refl

    module _ (o : Op) (q : op_of b ≡ Ok o) where
      pub refuses_sector : (k : TraceFaultKind) → number_below (sectors_of geo) fault.Sector c ≡ Err k → command_of geo (a ∷ b ∷ c ∷ d ∷ []) ≡ Err k
      unfolding command_of
      refuses_sector k r = rw (p, q, r) refl

      module _ (sector : ℕ) (r : number_below (sectors_of geo) fault.Sector c ≡ Ok sector) where
        pub refuses_page : (k : TraceFaultKind) → page_of_op (page_bytes_of geo) o worker sector d ≡ Err k → command_of geo (a ∷ b ∷ c ∷ d ∷ []) ≡ Err k
        unfolding command_of
        refuses_page k s = rw (p, q, r, s) refl

        pub accepts : (page : List ℕ) → page_of_op (page_bytes_of geo) o worker sector d ≡ Ok page
            → command_of geo (a ∷ b ∷ c ∷ d ∷ []) ≡ Ok (record { worker = worker; op = o; sector = sector; page = page })
        unfolding command_of
        accepts page s = rw (p, q, r, s) refl

-- ---- the faults of a check are those of a record

abbrev OfRecord : {A : Type 0} → Result A TraceFaultKind → Type 0
OfRecord r = (k : TraceFaultKind) → r ≡ Err k → is_of_record k ≡ true

-- a value is no fault, and one fault is one kind
value_of_record : {A : Type 0} (x : A) → OfRecord (Ok x)
value_of_record x k e = cc e

fault_of_record : {A : Type 0} (kind : TraceFaultKind) → is_of_record kind ≡ true → OfRecord {A = A} (Err kind)
fault_of_record kind h k e =
    let same : kind ≡ k = cc in
    rw (← same) h

-- two checks, one after the other
then_of_record : {A B : Type 0} (r : Result A TraceFaultKind) (f : A → Result B TraceFaultKind) → OfRecord r → ((x : A) → OfRecord (f x)) → OfRecord (r >>= f)
then_of_record (Ok x) f p q k e = q x k e
then_of_record (Err d) f p q k e =
    let same : d ≡ k = cc in
    p k (ap (λ (kind : TraceFaultKind). Err kind) same)

-- a choice between two
choice_of_record : {A : Type 0} (b : Bool) (x y : Result A TraceFaultKind) → OfRecord x → OfRecord y → OfRecord (if b then x else y)
choice_of_record true x y p q = p
choice_of_record false x y p q = q

number_of_record : (bound : ℕ) (kind : TraceFaultKind) (text : List ℕ) → is_of_record kind ≡ true → OfRecord (number_below bound kind text)
unfolding number_below
number_of_record bound kind text h = choice_of_record _ _ _ (value_of_record _) (fault_of_record kind h)

op_of_record : (text : List ℕ) → OfRecord (op_of text)
unfolding op_of
op_of_record text =
    choice_of_record (bytes_eq text (op_name op.Read)) (Ok op.Read) _ (value_of_record _)
    (choice_of_record (bytes_eq text (op_name op.Write)) (Ok op.Write) _ (value_of_record _)
    (choice_of_record (bytes_eq text (op_name op.New)) (Ok op.New) _ (value_of_record _)
    (choice_of_record (bytes_eq text (op_name op.Trim)) (Ok op.Trim) _ (value_of_record _)
    (choice_of_record (bytes_eq text (op_name op.Meet)) (Ok op.Meet) _ (value_of_record _) (fault_of_record fault.Op refl)))))

bytes_of_record : (size : ℕ) (r : Result (List ℕ) FromHexError) → OfRecord (page_of_bytes size r)
bytes_of_record size (Ok bytes) = choice_of_record _ _ _ (value_of_record _) (fault_of_record fault.TooLong refl)
bytes_of_record size (Err e) = fault_of_record fault.Hex refl

page_of_record : (size : ℕ) (o : Op) (worker sector : ℕ) (digits : List ℕ) → OfRecord (page_of_op size o worker sector digits)
unfolding page_of_op
page_of_record size op.Write worker sector digits = bytes_of_record size (decode_of digits)
page_of_record size op.New worker sector digits = bytes_of_record size (decode_of digits)
page_of_record size op.Read worker sector digits = choice_of_record _ _ _ (value_of_record _) (fault_of_record fault.Unused refl)
page_of_record size op.Trim worker sector digits = choice_of_record _ _ _ (value_of_record _) (fault_of_record fault.Unused refl)
page_of_record size op.Meet worker sector digits = choice_of_record _ _ _ (value_of_record _) (fault_of_record fault.Unused refl)

pub command_of_record : (geo : Geometry) (fs : List (List ℕ)) → OfRecord (command_of geo fs)
unfolding command_of
command_of_record geo [] = fault_of_record fault.Fields refl
command_of_record geo (a ∷ []) = fault_of_record fault.Fields refl
command_of_record geo (a ∷ b ∷ []) = fault_of_record fault.Fields refl
command_of_record geo (a ∷ b ∷ c ∷ []) = fault_of_record fault.Fields refl
command_of_record geo (a ∷ b ∷ c ∷ d ∷ []) =
    then_of_record _ _ (number_of_record _ _ a refl) (λ worker.
    then_of_record _ _ (op_of_record b) (λ o.
    then_of_record _ _ (number_of_record _ _ c refl) (λ sector.
    then_of_record _ _ (page_of_record _ o worker sector d) (λ page. value_of_record _))))
command_of_record geo (a ∷ b ∷ c ∷ d ∷ e ∷ fs) = fault_of_record fault.Fields refl

-- a check that gave a command
pub adds_some : (check : Result Command TraceFaultKind) (old new : List Command) → Adds check old new → (command : Command) × (check ≡ Ok command)
    × (new ≡ old ++ command ∷ [])
adds_some (Ok command) old new h = (command, refl, h)
adds_some (Err k) old new h = absurd h

-- ---- all checks

-- commands alone
pub all_or_first-commands : (commands : List Command) (n : ℕ) → all_or_first n (map Ok commands) ≡ Ok commands
unfolding all_or_first
all_or_first-commands [] n = refl
all_or_first-commands (c ∷ cs) n = rw (all_or_first-commands cs (n + 1)) refl

-- the first fault behind commands
pub all_or_first-fault : (commands : List Command) (n : ℕ) (k : TraceFaultKind) (after : List (Result Command TraceFaultKind))
    → all_or_first n (map Ok commands ++ (Err k ∷ after)) ≡ Err (record { line = n + length commands; kind = k })
unfolding all_or_first
all_or_first-fault [] n k after =
    let at : ℕ → Result (List Command) TraceFault = λ line. Err (record { line = line; kind = k }) in
    let first : n ≡ n + 0 = omega arith in
    ap at first
all_or_first-fault (c ∷ cs) n k after =
    let at : ℕ → Result (List Command) TraceFault = λ line. Err (record { line = line; kind = k }) in
    let next : n + 1 + length cs ≡ n + length (c ∷ cs) = omega arith in
    rw (all_or_first-fault cs (n + 1) k after) (ap at next)

-- a text of commands
pub commands_of-commands : (text : List ℕ) (geo : Geometry) (commands : List Command) → checked geo text ≡ map Ok commands → commands_of text geo ≡ Ok commands
unfolding commands_of
commands_of-commands text geo commands e = rw e (all_or_first-commands commands 1)

-- a text whose first fault is that of this record
commands_of-fault : (text : List ℕ) (geo : Geometry) (commands : List Command) (fields : List (List ℕ)) (left : List (List (List ℕ))) (k : TraceFaultKind)
    → checked geo text ≡ map Ok commands ++ map (command_of geo) (fields ∷ left) → command_of geo fields ≡ Err k
    → commands_of text geo ≡ Err (record { line = length commands + 1; kind = k })
unfolding commands_of
commands_of-fault text geo commands fields left k e h =
    let at : ℕ → Result (List Command) TraceFault = λ line. Err (record { line = line; kind = k }) in
    let line : 1 + length commands ≡ length commands + 1 = omega arith in
    rw (e, h) (all_or_first-fault commands 1 k (map (command_of geo) left) ∙ ap at line)

-- a fault of a record has its line
stated : (text : List ℕ) (geo : Geometry) (line : ℕ) (k : TraceFaultKind) → is_of_record k ≡ true
    → commands_of text geo ≡ Err (record { line = line; kind = k })
    → MatchBool (is_of_record (fault_at line k).kind) (commands_of text geo ≡ Err (fault_at line k)) (fault_at line k ≡ whole_fault fault.Memory)
stated text geo line fault.Fields h e = e
stated text geo line fault.Worker h e = e
stated text geo line fault.Op h e = e
stated text geo line fault.Sector h e = e
stated text geo line fault.Hex h e = e
stated text geo line fault.TooLong h e = e
stated text geo line fault.Unused h e = e
stated text geo line fault.Read h e = cc h
stated text geo line fault.Memory h e = cc h
stated text geo line fault.Big h e = cc h

pub states_fault : (text : List ℕ) (geo : Geometry) (commands : List Command) (fields : List (List ℕ)) (rows left : List (List (List ℕ))) (k : TraceFaultKind)
    → checked geo text ≡ map Ok commands ++ map (command_of geo) rows → rows ≡ fields ∷ left → RefusesBy (command_of geo fields) k
    → MatchBool (is_of_record (fault_at (length commands + 1) k).kind) (commands_of text geo ≡ Err (fault_at (length commands + 1) k))
    (fault_at (length commands + 1) k ≡ whole_fault fault.Memory)
states_fault text geo commands fields rows left k e first (inl memory) = rw memory refl
states_fault text geo commands fields rows left k e first (inr h) =
    stated text geo (length commands + 1) k (command_of_record geo fields k h) (commands_of-fault text geo commands fields left k (rw first at e) h)

-- a record of other than four fields behind commands is the first fault
pub first_other : (text : List ℕ) (geo : Geometry) (commands : List Command) (fields : List (List ℕ)) (rows left : List (List (List ℕ)))
    → checked geo text ≡ map Ok commands ++ map (command_of geo) rows → rows ≡ fields ∷ left → length fields ≢ 4
    → OnTrue (is_of_record (fault_at (length commands + 1) fault.Fields).kind) (IsFirstFault (checked geo text) (fault_at (length commands + 1) fault.Fields))
first_other text geo commands fields rows left e first count = record {
  before = commands;
  after = map (command_of geo) left;
  order = e ∙ rw (first, refuses_fields geo fields count) refl;
  line = refl;
}

-- a fault of a record keeps its line
fault_kept : (line : ℕ) (k : TraceFaultKind) → is_of_record k ≡ true → fault_at line k ≡ record { line = line; kind = k }
fault_kept line fault.Read h = cc h
fault_kept line fault.Memory h = cc h
fault_kept line fault.Big h = cc h
fault_kept _ _ _ = refl

-- a record that is refused behind commands is the first fault
first_kept : (text : List ℕ) (geo : Geometry) (commands : List Command) (fields : List (List ℕ)) (left : List (List (List ℕ))) (k : TraceFaultKind)
    → checked geo text ≡ map Ok commands ++ map (command_of geo) (fields ∷ left) → command_of geo fields ≡ Err k
    → IsFirstFault (checked geo text) (record { line = length commands + 1; kind = k })
first_kept text geo commands fields left k e h = record { before = commands; after = map (command_of geo) left; order = e ∙ rw h refl; line = refl }

pub first_refused : (text : List ℕ) (geo : Geometry) (commands : List Command) (fields : List (List ℕ)) (rows left : List (List (List ℕ))) (k : TraceFaultKind)
    → checked geo text ≡ map Ok commands ++ map (command_of geo) rows → rows ≡ fields ∷ left → RefusesBy (command_of geo fields) k
    → OnTrue (is_of_record (fault_at (length commands + 1) k).kind) (IsFirstFault (checked geo text) (fault_at (length commands + 1) k))
first_refused text geo commands fields rows left k e first (inl memory) = rw memory tt
first_refused text geo commands fields rows left k e first (inr h) =
    let of_record = command_of_record geo fields k h in
    rw (fault_kept (length commands + 1) k of_record, of_record) (first_kept text geo commands fields left k (rw first at e) h)

-- two ways to begin one list
pub same_first : {A : Type 0} (xs : List A) (x y : A) (left right : List A) → xs ≡ x ∷ left → xs ≡ y ∷ right → (x ≡ y) × (left ≡ right)
same_first xs x y left right p q = (cc, cc)

-- one command more
more : (text : List ℕ) (geo : Geometry) (old new : List Command) (fields : List (List ℕ)) (left : List (List (List ℕ))) (command : Command)
    → checked geo text ≡ map Ok old ++ map (command_of geo) (fields ∷ left) → command_of geo fields ≡ Ok command → new ≡ old ++ command ∷ []
    → checked geo text ≡ map Ok new ++ map (command_of geo) left
more text geo old new fields left command e is grown =
    e ∙ rw (
      grown,
      map-append {B = Result Command TraceFaultKind} Ok old (command ∷ []),
      append_assoc (map Ok old) (Ok command ∷ []) (map (command_of geo) left),
      is,
    ) refl

pub one_more_command : (text : List ℕ) (geo : Geometry) (old new : List Command) (fields : List (List ℕ)) (rows left : List (List (List ℕ)))
    → checked geo text ≡ map Ok old ++ map (command_of geo) rows → rows ≡ fields ∷ left → Adds (command_of geo fields) old new
    → checked geo text ≡ map Ok new ++ map (command_of geo) left
one_more_command text geo old new fields rows left e first h =
    let (command, is, grown) = adds_some (command_of geo fields) old new h in
    more text geo old new fields left command (rw first at e) is grown
