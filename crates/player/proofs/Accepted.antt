-- What clap's clauses say of a number that it accepted.
use Rattle.std.proofs.Common.{◌≡◌, ◌∙◌, ◌<◌, ◌^◌, ◌&&◌, ℕ, zero, suc, Bool, true, not, List, [], ◌∷◌, Option, None, Some, refl, sym, ap, subst, arith}
use Rattle.std.proofs.{Common.fold, Common.length, Common.map, Common.codes, Common.true≢false, Common.inl, Common.inr, lemmas.Slice.Eq.bytes_eq-Decides}
use Rattle.std.specs.Prelude.{MatchOption, ltb, option_and_then, option_map, pos, slice_get, unwrap_or}
use Rattle.std.specs.{Borrow.Bor, List.All, List.find, List.list_any, List.slice_index_or, Str.bytes_eq, Str.Parse.digits_value, Str.Parse.without_leading_plus}
use Rattle.std.proofs.{lemmas.Bool.ltb-true, lemmas.List.length-map, lemmas.List.Folds.list_any_at, Math.ListN.get_or-map}
use Rattle.std.proofs.lemmas.Option.{get_or_from_slice_get, slice_get_within}
use Rattle.clap.specs.{Facts.Entry, Facts.EntryPasses, Facts.PassesArg, Facts.args_of, Facts.groups_of, Facts.parser_of, Facts.parser_of_value, Simple.filled}
use Rattle.clap.specs.{Walk.row_text, Walk.with_default, declared.parser.matches.ArgMatches.ArgMatches, declared.parser.matches.MatchedArg.MatchedArg}
use Rattle.clap.specs.Words.{Accepts, App, IsParsedFrom, Row, Rule, Text, app_of, built, found_of, matched_of, one_of, one_text, read_as, reading_of, rows_of}
use Rattle.clap.specs.Words.{without_minus}
use Rattle.clap.{specs.Words.rule_of, specs.Words.shape_of, proofs.WalkLemmas.both, proofs.WalkLemmas.one_text-rows}
use Rattle.clap.specs.declared.builder.{arg.Arg.Arg, command.Command.Command, value_parser.Reading.Reading, value_parser.ValueParser.ValueParser}
use Rattle.clap.proofs.{CallerLemmas.entry_by_id, CallerLemmas.same_rules_by_id, SimpleLemmas.all_simple, SimpleLemmas.plain_fields, SimpleLemmas.simple_groups}
use Rattle.clap.specs.declared.builder.value_parser.Reading.TheVariants as reading
use Rattle.clap.specs.declared.builder.value_parser.ValueParser.TheVariants as parser
use Rattle.player.specs.CommandLine.{IsAcceptedIn, IsNumberIn, IsNumberOf, IsNumberRead, flashplay, option_rule, rows_given, rows_named}
use Rattle.player.proofs.Defaults.{default_row, defaulted, is_row, kept}

-- only the rule at this place has this id
abbrev pub is_alone : Text → ℕ → List Rule → Bool
is_alone name k [] = true
is_alone name zero (r ∷ rs) = not (list_any (λ (x : Rule). bytes_eq x.id name) rs)
is_alone name (suc k) (r ∷ rs) = not (bytes_eq r.id name) && is_alone name k rs

only_place : (name : Text) (rules : List Rule) (k j : ℕ) (d : Rule) → is_alone name k rules ≡ true → j < length rules
    → bytes_eq (slice_index_or rules j d).id name ≡ true → j ≡ k
only_place name [] k j d alone inside same = absurd (omega arith)
only_place name (r ∷ rs) zero zero d alone inside same = refl
only_place name (r ∷ rs) zero (suc j) d alone inside same =
    let any : list_any (λ (x : Rule). bytes_eq x.id name) rs ≡ true = list_any_at (λ (x : Rule). bytes_eq x.id name) rs j d (omega arith) same in
    absurd (true≢false (sym alone ∙ ap not any))
only_place name (r ∷ rs) (suc k) zero d alone inside same = absurd (true≢false (sym (both _ _ alone).0 ∙ ap not same))
only_place name (r ∷ rs) (suc k) (suc j) d alone inside same = ap suc (only_place name rs k j d (both _ _ alone).1 (omega arith) same)

-- the option has a name of its own, which no other rule has and none that clap adds, and numbers of 32 bits
abbrev pub is_apart : ℕ → Text → ℕ → Bool
is_apart k name most =
    is_alone name k flashplay.top.rules && (not (bytes_eq name []) && (not (bytes_eq name (codes "help")) && (not (bytes_eq name (codes "version"))
    && ltb most (2 ^ 32))))

-- where the option of a number stands among the rules of the command line
record StandsAt (k : ℕ) (name default : Text) (least most : ℕ) : Type 0 where
  at : slice_get flashplay.top.rules k ≡ Some (option_rule name default least most)
  alone : is_alone name k flashplay.top.rules ≡ true
  named : not (bytes_eq name []) ≡ true
  no_help : not (bytes_eq name (codes "help")) ≡ true
  no_version : not (bytes_eq name (codes "version")) ≡ true
  small : most < 2 ^ 32

stands_at : (k : ℕ) (name default : Text) (least most : ℕ) → slice_get flashplay.top.rules k ≡ Some (option_rule name default least most)
    → is_apart k name most ≡ true → StandsAt k name default least most
stands_at k name default least most at apart =
    let alone = both _ _ apart in
    let named = both _ _ alone.1 in
    let no_help = both _ _ named.1 in
    let no_version = both _ _ no_help.1 in
    record { at = at; alone = alone.0; named = named.0; no_help = no_help.0; no_version = no_version.0; small = ltb-true most (2 ^ 32) no_version.1 }

differs : (a b : Text) → not (bytes_eq a b) ≡ true → a ≡ b → ⊥
differs a b unequal same = true≢false (sym unequal ∙ ap not ((bytes_eq-Decides a b).1 same))

-- the argument with the id of an option has the option's parser in the command that was built
parser_kept : (c : Command) (m : ArgMatches) (p : IsParsedFrom c m) → app_of c ≡ flashplay → (k : ℕ) (name default : Text) (least most : ℕ)
    → StandsAt k name default least most → (j : ℕ) (x : Arg) → j < length (args_of p.built) → slice_index_or (args_of p.built) j x ≡ x
    → bytes_eq x.id.now name ≡ true → parser_of x ≡ parser.Signed (pos least) (pos most)
parser_kept c m p same k name default least most stands j x inside at_j has =
    let args = args_of c in
    let rules : map rule_of args ≡ flashplay.top.rules = ap (λ (a : App). a.top.rules) same in
    let count : length args ≡ length flashplay.top.rules = sym (length-map args rule_of) ∙ ap length rules in
    let rule_at : (i : ℕ) (e : Arg) → rule_of (slice_index_or args i e) ≡ slice_index_or flashplay.top.rules i (rule_of e) =
    λ i e. sym (get_or-map rule_of args i e) ∙ ap (λ l. slice_index_or l i (rule_of e)) rules in
    let own : rule_of (slice_index_or args k x) ≡ option_rule name default least most =
    rule_at k x ∙ get_or_from_slice_get flashplay.top.rules k (option_rule name default least most) (rule_of x) stands.at in
    let id : (slice_index_or args k x).id.now ≡ name = ap (λ (r : Rule). r.id) own in
    let kept_rules = same_rules_by_id c m p k x
    (subst (λ n. k < n) (sym count) (slice_get_within flashplay.top.rules k (option_rule name default least most) stands.at))
    (λ i e lower equal. only_place name flashplay.top.rules k i (rule_of e) stands.alone (subst (λ n. i < n) count lower)
    (subst (λ (t : Text). bytes_eq t name ≡ true) (ap (λ (r : Rule). r.id) (rule_at i e))
    (subst (λ (t : Text). bytes_eq (slice_index_or args i e).id.now t ≡ true) id equal)))
    (λ auto. elim auto [
      | inl help ↦ differs name (codes "help") stands.no_help (sym id ∙ help)
      | inr version ↦ differs name (codes "version") stands.no_version (sym id ∙ version)
    ])
    j x inside at_j (subst (λ (t : Text). bytes_eq x.id.now t ≡ true) (sym id) has) in
    ap parser_of_value (kept_rules.parser (parser.Signed (pos least) (pos most)) (ap (λ (r : Rule). r.parser) own))

-- the first value of an entry of an option was accepted
first_accepted : (name : Text) (least most : ℕ) (c : Command) (how : Reading) (values : List (Bor Text)) (text : Text)
    → ((j : ℕ) (x : Arg) → j < length (args_of c) → slice_index_or (args_of c) j x ≡ x → bytes_eq x.id.now name ≡ true
    → parser_of x ≡ parser.Signed (pos least) (pos most))
    → how ≡ reading.WithoutMinus → All (λ v. PassesArg c name v.now) values → option_map (λ v. read_as how v.now) (slice_get values 0) ≡ Some text
    → IsAcceptedIn least most text
first_accepted name least most c how [] text parsers is all found = cc
first_accepted name least most c how (v ∷ vs) text parsers is all found =
    let any : PassesArg c name v.now = all 0 v (omega arith) in
    let parser_is = parsers any.0 any.1 any.2 any.3 any.4.0 in (
      v.now,
      sym (ap (λ (o : Option Text). unwrap_or o text) found) ∙ ap (λ (r : Reading). read_as r v.now) is,
      subst (λ (q : ValueParser). Accepts any.1.ignore_case q v.now) parser_is any.4.1,
    )

entry_accepted : (name : Text) (least most : ℕ) (c : Command) (e : Entry) (text : Text) → groups_of c ≡ [] → not (bytes_eq name []) ≡ true
    → ((j : ℕ) (x : Arg) → j < length (args_of c) → slice_index_or (args_of c) j x ≡ x → bytes_eq x.id.now name ≡ true
    → parser_of x ≡ parser.Signed (pos least) (pos most))
    → e.0.now ≡ name → EntryPasses c e → option_map (λ v. read_as e.1.reading v.now) (slice_get e.1.vals.items 0) ≡ Some text
    → IsAcceptedIn least most text
entry_accepted name least most c e text no_groups named parsers id passes found =
    let no_group : e.1.is_group ≡ true → ⊥ = λ group. elim (passes.3 group) [
      | inl empty ↦ differs name [] named (sym id ∙ empty)
      | inr some ↦
          let bad : 0 < 0 = subst (λ gs. 0 < length gs) no_groups some in
          absurd (omega arith)
    ] in
    let all : All (λ v. PassesArg c name v.now) e.1.vals.items = elim passes.0 [
      | inl group ↦ absurd (no_group group)
      | inr values ↦ subst (λ (t : Text). All (λ v. PassesArg c t v.now) e.1.vals.items) id values
    ] in
    let how : e.1.reading ≡ reading.WithoutMinus = elim passes.4 [
      | inl group ↦ absurd (no_group group)
      | inr any ↦
          let parser_is = parsers any.0 any.1 any.2 any.3 (subst (λ (t : Text). bytes_eq any.1.id.now t ≡ true) id any.4.0) in
          sym any.4.1 ∙ ap reading_of parser_is
    ] in
    first_accepted name least most c e.1.reading e.1.vals.items text parsers how all found

-- a text that the matches have for an option was accepted as a number from `least` to `most`
accepted : (c : Command) (m : ArgMatches) (p : IsParsedFrom c m) → app_of c ≡ flashplay → (k : ℕ) (name default : Text) (least most : ℕ)
    → StandsAt k name default least most → (text : Text) → one_text (found_of m) name ≡ Some text → IsAcceptedIn least most text
accepted c m p same k name default least most stands text found = by (matched_of (found_of m) name) refl found
  where
    of_entry : (y : MatchedArg) → ((e : Entry) × (e.1 ≡ y) × (bytes_eq e.0.now name ≡ true) × EntryPasses p.built e)
        → option_map (λ v. read_as y.reading v.now) (slice_get y.vals.items 0) ≡ Some text → IsAcceptedIn least most text
    of_entry y got value =
        let simple : all_simple (shape_of c).rules ≡ true = ap (λ (a : App). all_simple a.top.rules) same in
        let no_groups : groups_of p.built ≡ [] = (p.from.same_groups (simple_groups c simple)).1
        ∙ (plain_fields c (ap (λ (a : App). a.top.is_plain) same)).groups in
        entry_accepted name least most p.built got.0 text no_groups stands.named (parser_kept c m p same k name default least most stands)
        ((bytes_eq-Decides got.0.0.now name).0 got.2) got.3
        (subst (λ (z : MatchedArg). option_map (λ v. read_as z.reading v.now) (slice_get z.vals.items 0) ≡ Some text) (sym got.1) value)

    by : (o : Option MatchedArg) → matched_of (found_of m) name ≡ o
        → option_and_then (λ (y : MatchedArg). option_map (λ v. read_as y.reading v.now) (slice_get y.vals.items 0)) o ≡ Some text
        → IsAcceptedIn least most text
    by None is value = cc
    by (Some y) is value =
        let parsed = p.parsed (p.from.globals ∙ (plain_fields c (ap (λ (a : App). a.top.is_plain) same)).globals) in
        of_entry y (entry_by_id (EntryPasses p.built) (found_of m).entries.items name y parsed.values is) value

-- what the matches have for an option is what the words write for it, or its default
given_is : (words : List Text) → rows_given words ≡ fold with_default (rows_named words) (built flashplay).top.rules
unfolding rows_given rows_named
given_is words = refl

-- the number of an option is the one that the words write for it, or its default
pub option_is : (c : Command) (m : ArgMatches) (p : IsParsedFrom c m) → app_of c ≡ flashplay → (words : List Text) → rows_of (found_of m) ≡ rows_given words
    → (k : ℕ) (name default : Text) (worth least most : ℕ) → slice_get flashplay.top.rules k ≡ Some (option_rule name default least most)
    → is_apart k name most ≡ true
    → find (λ (r : Rule). bytes_eq r.id name) (built flashplay).top.rules ≡ Some (filled (option_rule name default least most))
    → digits_value 10 (without_leading_plus (without_minus default)) ≡ worth
    → (number : ℕ) → IsNumberRead (one_of name (rows_of (found_of m))) worth number → IsNumberOf words name worth least most number
option_is c m p same words rows k name default worth least most at apart there value number read = by (find (is_row name) (rows_named words)) refl
  where
    stands : StandsAt k name default least most
    stands = stands_at k name default least most at apart

    rule : Rule
    rule = filled (option_rule name default least most)

    given : rows_of (found_of m) ≡ fold with_default (rows_named words) (built flashplay).top.rules
    given = rows ∙ given_is words

    in_limits : (row : Row) (o : Option Text) → find (is_row name) (rows_of (found_of m)) ≡ Some row → row_text row ≡ o
        → MatchOption o (number ≡ worth) (λ text. IsNumberIn least most text number)
    in_limits row o found is = with_text o (ap (option_and_then row_text) found ∙ is)
      where
        with_text : (t : Option Text) → one_of name (rows_of (found_of m)) ≡ t → MatchOption t (number ≡ worth) (λ text. IsNumberIn least most text number)
        with_text None none = subst (λ (f : Option Text). IsNumberRead f worth number) none read
        with_text (Some text) some =
            (subst (λ (f : Option Text). IsNumberRead f worth number) some read) least most stands.small
            (accepted c m p same k name default least most stands text (one_text-rows (found_of m) name ∙ some))

    by : (o : Option Row) → find (is_row name) (rows_named words) ≡ o
        → MatchOption (option_and_then row_text (find (is_row name) (rows_named words))) (number ≡ worth) (λ text. IsNumberIn least most text number)
    by (Some row) is =
        let found : find (is_row name) (rows_of (found_of m)) ≡ Some row =
        ap (find (is_row name)) given ∙ kept name row (rows_named words) (built flashplay).top.rules is in
        subst (λ (f : Option Row). MatchOption (option_and_then row_text f) (number ≡ worth) (λ text. IsNumberIn least most text number)) (sym is)
        (in_limits row (row_text row) found refl)
    by None is =
        let found : find (is_row name) (rows_of (found_of m)) ≡ Some (default_row rule default) =
        ap (find (is_row name)) given ∙ defaulted name default (rows_named words) (built flashplay).top.rules rule is there refl in
        subst (λ (f : Option Row). MatchOption (option_and_then row_text f) (number ≡ worth) (λ text. IsNumberIn least most text number)) (sym is)
        ((in_limits (default_row rule default) (Some (without_minus default)) found refl).1 ∙ value)
