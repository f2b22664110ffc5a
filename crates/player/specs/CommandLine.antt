-- The command line: its words as a program reads them, the options as clap knows them, and the numbers that its matches give.
use Rattle.std.specs.Prelude.{◌≡◌, ◌+◌, ⊤, ℕ, List, ◌∷◌, Option, Some, IfSome, codes, slice_get, Bool, true, false, [], None, pos, MatchOption, ◌^◌, ◌<◌, ◌≤◌}
use Rattle.std.specs.Str.{IsUtf8}
use Rattle.clap.specs.Words.{Text, without_minus, App, IsSignedIn, Kinds, Row, Rule, built, fault_of, first_of, matches_of, new_app, new_rule, one_of}
use Rattle.clap.specs.Words.{with_rule}
use Rattle.player.specs.declared.stop.Stop.TheVariants as stop
use Rattle.player.specs.declared.stop.Stop.{Stop}
use Rattle.std.specs.Option.{option_map}
use Rattle.std.specs.Str.Parse.{IsNumeral, digits_value, without_leading_plus}
use Rattle.clap.specs.Simple.{argument_words, names_of, on_top}
use Rattle.clap.specs.Walk.{nothing_held, settled, walk}
use Rattle.clap.specs.declared.builder.action.ArgAction.TheVariants as action
use Rattle.clap.specs.declared.builder.value_parser.ValueParser.TheVariants as parser
use Rattle.geometry.specs.Limits.{Numbers, numbers}
use Rattle.player.specs.declared.arguments.NumberOption.{NumberOption}
use Rattle.player.specs.declared.command_line.Options.{Options}

-- the words are the program's name and then all arguments, in their order
abbrev pub AreWordsOf : List Text → List Text → Type 0
AreWordsOf words arguments = words ≡ codes "flashplay" ∷ arguments

-- an argument is not UTF-8; they count from 1
pub record IsNoText (arguments : Option (List Text)) (place : ℕ) : Type 0 where
  pub before : ℕ
  pub place_is : place ≡ before + 1
  pub bytes : IfSome arguments (λ all. (text : Text) × (slice_get all before ≡ Some text) × ¬ IsUtf8 text)

-- why the words of a command line could not be read
abbrev pub WhyUnread : Option (List Text) → Stop → Type 0
WhyUnread arguments (stop.Encoding place) = IsNoText arguments place
WhyUnread arguments stop.Memory = ⊤
WhyUnread _ _ = ⊥

-- an option of a whole number: its name after two dashes, and one value from `least` to `most`, with a default
abbrev pub option_rule : Text → Text → ℕ → ℕ → Rule
option_rule name default least most =
    record (new_rule name) { long = Some name; value_names = 1; defaults = default ∷ []; parser = Some (parser.Signed (pos least) (pos most)) }

-- an option with one value, of any text
abbrev pub named_rule : Text → Rule
named_rule name = record (new_rule name) { long = Some name; value_names = 1 }

-- an option of a file's name, which is not empty; the option may be absent
abbrev pub file_rule : Text → Rule
file_rule name = record (named_rule name) { parser = Some parser.NonEmptyString }

-- an option without a value
abbrev pub flag_rule : Text → Rule
flag_rule name = record (new_rule name) { long = Some name; action = Some action.SetTrue }

-- an option of a whole number, by its name, its default and the numbers that it takes
abbrev pub number_rule : NumberOption → Rule
number_rule number = record (option_rule number.name.now number.default.now 0 0) { parser = Some (parser.Signed number.least number.most) }

-- a command line with one more such option
abbrev pub with_number : App → NumberOption → App
with_number app number = with_rule app (number_rule number)

-- a command line without options, which has a version
abbrev pub versioned : App
versioned = on_top (λ top. record top { has_version = true }) (new_app (codes "flashplay"))

-- a command line with the numbers of a device
abbrev pub with_numbers : App
with_numbers =
    with_rule (with_rule (with_rule (with_rule (with_rule (with_rule versioned
    (option_rule (codes "luns") (codes "1") 0 4294967295))
    (option_rule (codes "blocks") (codes "64") 0 4294967295))
    (option_rule (codes "pages") (codes "64") 0 4294967295))
    (option_rule (codes "words") (codes "64") 0 4294967295))
    (option_rule (codes "sectors") (codes "3072") 0 4294967295))
    (option_rule (codes "endurance") (codes "1000") 0 4294967295)

-- a command line that also has the threads of a run: workers, brooms, the tries of a write, and the drains by one survey
abbrev pub with_threads : App → App
with_threads app = with_rule (with_rule (with_rule (with_rule app
    (option_rule (codes "workers") (codes "0") 0 4294967295))
    (option_rule (codes "brooms") (codes "0") 0 4294967295))
    (option_rule (codes "patience") (codes "1000000") 1 1000000000))
    (option_rule (codes "drains") (codes "1") 1 4096)

-- the program's command line: the numbers of a device, the threads of a run, the files of a run, whether its answers are left out, and whether
-- all writes have to be done
abbrev pub flashplay : App
flashplay = with_rule (with_rule (with_rule (with_rule (with_threads with_numbers) (file_rule (codes "wear"))) (file_rule (codes "collections")))
    (flag_rule (codes "quiet"))) (flag_rule (codes "all-written"))

-- what clap finds for each option in the words of a command line, the defaults included
unfoldable pub rows_given : List Text → List Row
rows_given words = matches_of flashplay words

-- what the words themselves give for each option that they name, without the defaults
unfoldable pub rows_named : List Text → List Row
rows_named words =
    let rules = (built flashplay).top.rules in
    (settled rules (walk rules (names_of (built flashplay)) nothing_held (argument_words flashplay words)).held).rows

-- the faults that clap finds in the words of a command line: a call for help is one of them
unfoldable pub faults_given : List Text → Kinds
faults_given words = fault_of flashplay words

-- a text writes a number from `least` to `most` in decimal digits, perhaps after a plus sign
abbrev pub IsNumberIn : ℕ → ℕ → Text → ℕ → Type 0
IsNumberIn least most text number =
    IsNumeral 10 (without_leading_plus text) × (number ≡ digits_value 10 (without_leading_plus text)) × (least ≤ number) × (number ≤ most)

-- a text as it is read of a value that clap accepts for an option from `least` to `most`: it is the value without a minus sign, which a zero may have
abbrev pub IsAcceptedIn : ℕ → ℕ → Text → Type 0
IsAcceptedIn least most text = (value : Text) × (text ≡ without_minus value) × IsSignedIn (pos least) (pos most) value

-- the number that is read of what the matches have for an option: the one that its text writes, if clap accepts it, and the default if there is no text
abbrev pub IsNumberRead : Option Text → ℕ → ℕ → Type 0
IsNumberRead found default number =
    MatchOption found (number ≡ default) (λ text. (least most : ℕ) → most < 2 ^ 32 → IsAcceptedIn least most text → IsNumberIn least most text number)

-- the number of an option: the one from `least` to `most` that the words write for it, or the default if they don't name the option
abbrev pub IsNumberOf : List Text → Text → ℕ → ℕ → ℕ → ℕ → Type 0
IsNumberOf words name default least most number =
    MatchOption (one_of name (rows_named words)) (number ≡ default) (λ text. IsNumberIn least most text number)

-- an option without a value is set if the matches have true for it, and isn't if they have false or nothing
pub record IsFlagOf (rows : List Row) (name : Text) (is_set : Bool) : Type 0 where
  pub none : one_of name rows ≡ None → is_set ≡ false
  pub used : one_of name rows ≡ Some (codes "true") → is_set ≡ true
  pub unused : one_of name rows ≡ Some (codes "false") → is_set ≡ false

-- each number lies in the limits of its option and is the one that the words write for it, or else the default; and the names of the files, and
-- whether the answers are left out and all writes have to be done, are those of the matches
pub record AreOptionsOf (line : List Text) (given : Options) : Type 0 where
  pub luns : IsNumberOf line (codes "luns") 1 0 4294967295 given.luns
  pub blocks : IsNumberOf line (codes "blocks") 64 0 4294967295 given.blocks
  pub pages : IsNumberOf line (codes "pages") 64 0 4294967295 given.pages
  pub words : IsNumberOf line (codes "words") 64 0 4294967295 given.words
  pub sectors : IsNumberOf line (codes "sectors") 3072 0 4294967295 given.sectors
  pub endurance : IsNumberOf line (codes "endurance") 1000 0 4294967295 given.endurance
  pub workers : IsNumberOf line (codes "workers") 0 0 4294967295 given.workers
  pub brooms : IsNumberOf line (codes "brooms") 0 0 4294967295 given.brooms
  pub patience : IsNumberOf line (codes "patience") 1000000 1 1000000000 given.patience
  pub drains : IsNumberOf line (codes "drains") 1 1 4096 given.drains
  pub wear : option_map (λ name. name.now) given.wear ≡ first_of (codes "wear") (rows_given line)
  pub collections : option_map (λ name. name.now) given.collections ≡ first_of (codes "collections") (rows_given line)
  pub quiet : IsFlagOf (rows_given line) (codes "quiet") given.quiet
  pub all_written : IsFlagOf (rows_given line) (codes "all-written") given.all_written

-- the numbers of the device that the options describe: it has a host for each worker
abbrev pub numbers_given : Options → Numbers
numbers_given given = numbers given.luns given.blocks given.pages given.words given.sectors given.endurance given.workers given.brooms
