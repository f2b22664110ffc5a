-- The words of a command line, one argument more, and what clap's clauses say of the program's own.
use Rattle.std.proofs.Common.{◌≡◌, ◌∙◌, ℕ, ◌+◌, List, [], ◌∷◌, ◌++◌, Option, None, Some, map, take, refl, ap, subst, sym, ◌<◌, ◌≤◌, ◌^◌, Bool, true, false}
use Rattle.std.proofs.Common.{fold, get_or, length, codes}
use Rattle.std.specs.Prelude.{IfOk, IfSome, IsOk, Result, Ok, Err, option_map, slice_get, unwrap_or}
use Rattle.std.specs.Str.{IsUtf8}
use Rattle.std.proofs.lemmas.List.{map-append, take_more}
use Rattle.std.proofs.lemmas.Option.{get_or_from_slice_get, slice_get_within}
use Rattle.player.specs.CommandLine.{IsNoText, IsAcceptedIn, IsFlagOf, IsNumberIn, IsNumberRead, faults_given, flashplay, rows_given, with_number}
use Rattle.clap.specs.Words.{Text, App, FailsBy, HasMatchesOf, fault_of, found_of, is_simple, is_simple_and_free, matches_of, rows_of}
use Rattle.std.proofs.lemmas.List.Sums.{fold_more}
use Rattle.std.specs.Str.Parse.{ParsesUnsigned}
use Rattle.clap.specs.Matches.{ReadsOne, one_text}
use Rattle.clap.specs.declared.parser.matches.Found.{Found}
use Rattle.clap.specs.declared.parser.matches.ArgMatches.{ArgMatches}
use Rattle.clap.proofs.CallerReads.{signed_reads}
use Rattle.clap.proofs.WalkLemmas.{one_text-rows}
use Rattle.clap.specs.declared.error.Error.{Error}
use Rattle.clap.proofs.OnLiterals.{clap_on_literals}
use Rattle.player.specs.declared.arguments.NumberOption.{NumberOption}

-- the first word is the name
pub words_start : {X : Type 0} (f : X → Text) (all : Option (List Text)) (words : List X) (name : X) (text : Text) → f name ≡ text
    → words ≡ [] ++ name ∷ [] → IfSome all (λ ws. map f words ≡ text ∷ take 0 ws)
words_start f None words name text named only = tt
words_start f (Some ws) words name text named only = ap (map f) only ∙ ap (λ (t : Text). t ∷ []) named

-- an argument more
pub words_more : {X : Type 0} (f : X → Text) (all : Option (List Text)) (place : ℕ) (old new : List X) (word : X) (text : Text)
    → new ≡ old ++ word ∷ [] → IfSome all (λ ws. map f old ≡ text ∷ take place ws)
    → IfSome all (λ ws. option_map f (Some word) ≡ slice_get ws place) → IfSome all (λ ws. map f new ≡ text ∷ take (place + 1) ws)
words_more f None place old new word text grown before next = tt
words_more f (Some ws) place old new word text grown before next =
    let inside = slice_get_within ws place (f word) (sym next) in
    ap (map f) grown
    ∙ (map-append f old (word ∷ [])
    ∙ (ap (λ (ts : List Text). ts ++ f word ∷ []) before
    ∙ (ap (λ (t : Text). text ∷ (take place ws ++ t ∷ [])) (sym (get_or_from_slice_get ws place (f word) (f word) (sym next)))
    ∙ ap (λ (ts : List Text). text ∷ ts) (sym (take_more ws place (f word) inside)))))

-- what was found at a place
pub found_there : {A E : Type 0} (items : A → Text) (all : Option (List Text)) (place : ℕ) (r : Result (Option A) E) (found : Option A) → r ≡ Ok found
    → IfSome all (λ ws. IfOk r (λ it. option_map items it ≡ slice_get ws place)) → IfSome all (λ ws. option_map items found ≡ slice_get ws place)
found_there {A} {E} items None place r found is it = tt
found_there {A} {E} items (Some ws) place r found is it = subst (λ (q : Result (Option A) E). IfOk q (λ some. option_map items some ≡ slice_get ws place)) is it

-- the word at a place
pub word_there : {A X : Type 0} (items : A → Text) (f : X → Text) (all : Option (List Text)) (place : ℕ) (bytes : A) (word : X) → f word ≡ items bytes
    → IfSome all (λ ws. option_map items (Some bytes) ≡ slice_get ws place) → IfSome all (λ ws. option_map f (Some word) ≡ slice_get ws place)
word_there items f None place bytes word is it = tt
word_there items f (Some ws) place bytes word is it = ap Some is ∙ it

-- an argument that is no text
pub no_text : {A : Type 0} (items : A → Text) (all : Option (List Text)) (place : ℕ) (bytes : A) → (IsUtf8 (items bytes) → ⊥)
    → IfSome all (λ ws. option_map items (Some bytes) ≡ slice_get ws place) → IsNoText all (place + 1)
no_text items all place bytes other found = record { before = place; place_is = refl; bytes = by all found }
  where
    by : (all : Option (List Text)) → IfSome all (λ ws. option_map items (Some bytes) ≡ slice_get ws place)
        → IfSome all (λ ws. (text : Text) × (slice_get ws place ≡ Some text) × ¬ IsUtf8 text)
    by None it = tt
    by (Some ws) it = (items bytes, sym it, other)

pub not_ok : {T E : Type 0} (r : Result T E) → ((x : T) → r ≡ Ok x → ⊥) → IsOk r → ⊥
not_ok (Ok x) never ok = never x refl
not_ok (Err e) never ok = cc

flashplay_is_simple : is_simple flashplay ≡ true
unfolding clap_on_literals
flashplay_is_simple = refl

flashplay_is_free : is_simple_and_free flashplay ≡ true
unfolding clap_on_literals
flashplay_is_free = refl

-- the options so far, and one more
pub next_number : (numbers : List NumberOption) (i : ℕ) (none : NumberOption) (start app more : App) → i < length numbers
    → app ≡ fold with_number start (take i numbers) → more ≡ with_number app (get_or numbers i none) → more ≡ fold with_number start (take (i + 1) numbers)
next_number numbers i none start app more inside so_far is =
    is ∙ ap (λ (a : App). with_number a (get_or numbers i none)) so_far ∙ sym (fold_more with_number start numbers i none inside)

-- the matches are those that the words give
pub rows_are : (app : App) (words : List Text) (m : ArgMatches) → app ≡ flashplay → HasMatchesOf app words m → rows_of (found_of m) ≡ rows_given words
unfolding rows_given
rows_are app words m same has = (has (ap is_simple same ∙ flashplay_is_simple)).0 ∙ ap (λ a. matches_of a words) same

-- and so are the faults
pub faults_are : {T : Type 0} (app : App) (words : List Text) (r : Result T Error) → app ≡ flashplay
    → (is_simple_and_free app ≡ true → FailsBy (fault_of app words) r) → FailsBy (faults_given words) r
unfolding faults_given
faults_are app words r same fails = subst (λ (a : App). FailsBy (fault_of a words) r) same (fails (ap is_simple_and_free same ∙ flashplay_is_free))

-- what is read of an option's text, by what the text's parser gives
pub number_read : {E : Type 0} (G : List ℕ → Result ℕ E → Type 0) → ((t : List ℕ) (r : Result ℕ E) → G t r → ParsesUnsigned 32 10 t r)
    → (found : Option (List ℕ)) (default : ℕ) (read : Option ℕ) (number : ℕ) → (found ≡ None → read ≡ None)
    → ((t : List ℕ) → found ≡ Some t → ReadsOne G t read) → number ≡ unwrap_or read default → IsNumberRead found default number
number_read G parses None default read number none some is = is ∙ ap (λ r. unwrap_or r default) (none refl)
number_read {E} G parses (Some text) default read number none some is = λ least most fits accepted. by least most fits accepted (some text refl)
  where
    by : (least most : ℕ) → most < 2 ^ 32 → IsAcceptedIn least most text → ReadsOne G text read → IsNumberIn least most text number
    by least most fits (value, same, passes) reads =
        let got = signed_reads E G 32 least most value read (subst (λ t. ReadsOne G t read) same reads) parses fits passes in
        let is_some : read ≡ Some got.0 = got.1 in
        let parsed : ParsesUnsigned {E = E} 32 10 text (Ok got.0) = parses text (Ok got.0) (subst (λ r. ReadsOne G text r) is_some reads) in
        let same_number : number ≡ got.0 = is ∙ ap (λ r. unwrap_or r default) is_some in
        (parsed.0.0, same_number ∙ parsed.1, subst (λ n. least ≤ n) (sym same_number) got.2, subst (λ n. n ≤ most) (sym same_number) got.3)

-- a flag, by the rows of the matches
pub flag_of : (found : Found) (name : Text) (is_set : Bool) → (one_text found name ≡ None → is_set ≡ false)
    → (one_text found name ≡ Some (codes "true") → is_set ≡ true) → (one_text found name ≡ Some (codes "false") → is_set ≡ false)
    → IsFlagOf (rows_of found) name is_set
flag_of found name is_set none set unset =
    let same = one_text-rows found name in
    record { none = λ is. none (same ∙ is); used = λ is. set (same ∙ is); unused = λ is. unset (same ∙ is) }
