-- The defaults that clap adds to what the words give.
use Rattle.std.proofs.Common.{◌≡◌, ◌∙◌, ◌++◌, ◌||◌, Bool, true, false, cond, List, [], ◌∷◌, Option, None, Some, refl, sym, ap, fold, true≢false}
use Rattle.std.{specs.Prelude.unwrap_or, specs.List.find, specs.Option.option_or, specs.Str.bytes_eq, proofs.lemmas.List.append-nil}
use Rattle.std.proofs.lemmas.{List.Folds.find-append, Slice.Eq.bytes_eq-Decides}
use Rattle.clap.specs.Walk.{at_row, default_rows, has_row, more_values, reading_by, with_default}
use Rattle.clap.specs.{Words.Row, Words.Rule, Words.Text, declared.parser.matches.ValueSource.TheVariants.DefaultValue}

-- a row has this id
abbrev pub is_row : Text → Row → Bool
is_row name row = bytes_eq row.id name

-- the row of an option that only its default gives
abbrev pub default_row : Rule → Text → Row
default_row rule text = record { id = rule.id; values = text ∷ []; count = None; source = Some DefaultValue; reading = reading_by rule }

-- the rows that a rule adds for its default
abbrev added : List Row → Rule → List Row
added rows rule = cond (has_row rule.id rows) [] (default_rows rule.id (reading_by rule) rule.defaults [])

at_end : (id : Text) (change : Row → List Row) (missing rows : List Row) → has_row id rows ≡ false → at_row id change missing rows ≡ rows ++ missing
at_end id change missing [] none = refl
at_end id change missing (r ∷ rs) none = by (bytes_eq r.id id) none (at_end id change missing rs)
  where
    by : (b : Bool) → (b || has_row id rs) ≡ false → (has_row id rs ≡ false → at_row id change missing rs ≡ rs ++ missing)
        → cond b (change r ++ rs) (r ∷ at_row id change missing rs) ≡ (r ∷ rs) ++ missing
    by true none rest = absurd (true≢false none)
    by false none rest = ap (λ xs. r ∷ xs) (rest none)

-- a rule adds its rows at the end
adds : (rows : List Row) (rule : Rule) → with_default rows rule ≡ rows ++ added rows rule
adds rows rule = by (has_row rule.id rows) refl rule.defaults
  where
    by : (b : Bool) → has_row rule.id rows ≡ b → (texts : List Text)
        → cond b rows (default_rows rule.id (reading_by rule) texts rows) ≡ rows ++ cond b [] (default_rows rule.id (reading_by rule) texts [])
    by true is texts = sym (append-nil rows)
    by false is [] = sym (append-nil rows)
    by false is (t ∷ ts) = at_end rule.id (more_values DefaultValue (t ∷ ts)) (default_rows rule.id (reading_by rule) (t ∷ ts) []) rows is

-- a row that is there stays the first of its id
pub kept : (name : Text) (row : Row) (rows : List Row) (rules : List Rule) → find (is_row name) rows ≡ Some row
    → find (is_row name) (fold with_default rows rules) ≡ Some row
kept name row rows [] found = found
kept name row rows (r ∷ rs) found =
    kept name row (with_default rows r) rs
    (ap (find (is_row name)) (adds rows r) ∙ find-append (is_row name) rows (added rows r)
    ∙ ap (λ (o : Option Row). option_or o (find (is_row name) (added rows r))) found)

none_has : (name : Text) (rows : List Row) → find (is_row name) rows ≡ None → has_row name rows ≡ false
none_has name [] none = refl
none_has name (r ∷ rs) none = by (bytes_eq r.id name) none (none_has name rs)
  where
    by : (b : Bool) → cond b (Some r) (find (is_row name) rs) ≡ None → (find (is_row name) rs ≡ None → has_row name rs ≡ false) → (b || has_row name rs) ≡ false
    by true none rest = cc
    by false none rest = rest none

-- a rule of another id adds no row of this one
other_adds : (name : Text) (rows : List Row) (rule : Rule) → bytes_eq rule.id name ≡ false → find (is_row name) (added rows rule) ≡ None
other_adds name rows rule other = by (has_row rule.id rows) rule.defaults
  where
    by : (b : Bool) (texts : List Text) → find (is_row name) (cond b [] (default_rows rule.id (reading_by rule) texts [])) ≡ None
    by true texts = refl
    by false [] = refl
    by false (t ∷ ts) = rw other refl

-- and the rule of this id adds its default
own_adds : (name text : Text) (rows : List Row) (rule : Rule) → bytes_eq rule.id name ≡ true → rule.defaults ≡ text ∷ [] → find (is_row name) rows ≡ None
    → find (is_row name) (added rows rule) ≡ Some (default_row rule text)
own_adds name text rows rule own defaults none =
    let same : rule.id ≡ name = (bytes_eq-Decides rule.id name).0 own in
    let no_row : has_row rule.id rows ≡ false = ap (λ (id : Text). has_row id rows) same ∙ none_has name rows none in
    rw (no_row, defaults, own) refl

-- an option that has no row yet gets that of its default
pub defaulted : (name text : Text) (rows : List Row) (rules : List Rule) (rule : Rule) → find (is_row name) rows ≡ None
    → find (λ (r : Rule). bytes_eq r.id name) rules ≡ Some rule → rule.defaults ≡ text ∷ []
    → find (is_row name) (fold with_default rows rules) ≡ Some (default_row rule text)
defaulted name text rows [] rule none found defaults = cc
defaulted name text rows (r ∷ rs) rule none found defaults = by (bytes_eq r.id name) refl found
    (λ none_yet rest. defaulted name text (with_default rows r) rs rule none_yet rest defaults)
  where
    next : find (is_row name) (with_default rows r) ≡ find (is_row name) (added rows r)
    next = ap (find (is_row name)) (adds rows r) ∙ find-append (is_row name) rows (added rows r)
        ∙ ap (λ (o : Option Row). option_or o (find (is_row name) (added rows r))) none

    by : (b : Bool) → bytes_eq r.id name ≡ b → cond b (Some r) (find (λ (x : Rule). bytes_eq x.id name) rs) ≡ Some rule
        → (find (is_row name) (with_default rows r) ≡ None → find (λ (x : Rule). bytes_eq x.id name) rs ≡ Some rule
        → find (is_row name) (fold with_default (with_default rows r) rs) ≡ Some (default_row rule text))
        → find (is_row name) (fold with_default (with_default rows r) rs) ≡ Some (default_row rule text)
    by true own is rest =
        let same : r ≡ rule = ap (λ (o : Option Rule). unwrap_or o r) is in
        kept name (default_row rule text) (with_default rows r) rs
        (next ∙ own_adds name text rows r own (ap (λ (x : Rule). x.defaults) same ∙ defaults) none ∙ ap (λ (x : Rule). Some (default_row x text)) same)
    by false other is rest = rest (next ∙ other_adds name rows r other) is
