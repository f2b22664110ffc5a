-- How a session ends, by how its run did.
use Rattle.std.proofs.Common.{◌≡◌, ◌∙◌, ℕ, zero, suc, Bool, false, List, None, Some, Option, refl, inl, ap, subst, sym}
use Rattle.std.specs.Prelude.{⊤, MatchOption, Result, Ok, Err, is_some, option_map}
use Rattle.geometry.specs.{Geometry.hosts_of, declared.geometry.Geometry.Geometry}
use Rattle.streams.specs.declared.named_file.OpenFault.TheVariants as open_fault
use Rattle.answers.specs.{Streams.Passage, Streams.Stream, declared.delivery.OutputFailed.OutputFailed}
use Rattle.answers.specs.Streams.{TellsIf}
use Rattle.clap.specs.{Words.Text}
use Rattle.clap.specs.declared.error.kind.ErrorKind.TheVariants as kind
use Rattle.player.specs.{declared.command_line.Options.Options, Session.outcome_of, Session.refusal_by}
use Rattle.player.specs.declared.{refusal.Refusal.Refusal, stop.Stop.Stop}
use Rattle.player.specs.Session.{EndsOn, Explains, Filing, Filings, IsDescribed, IsLogFor, IsOpened, WritesFile, Finishes}
use Rattle.player.specs.Session.{IsUntouched, PlaysOn, counted_refusals, name_given}
use Rattle.runs.specs.Logs.{IsWearOf}
use Rattle.player.specs.declared.run_files.RunFile.TheVariants as run_file
use Rattle.player.specs.declared.stop.Stop.TheVariants as stop

is_some_map : {X Y : Type 0} (f : X → Y) (o : Option X) → is_some o ≡ is_some (option_map f o)
is_some_map f None = refl
is_some_map f (Some x) = refl

-- a file that was opened by its name
pub opened_some : {X : Type 0} (f : X → Text) (o : Option X) (x : X) (file : Filing) → o ≡ Some x → file.is_opened_as (f x) → IsUntouched file
    → IsOpened (option_map f o) file
opened_some {X} f o x file is opened same = (subst (λ (q : Option X). MatchOption (option_map f q) ⊤ (λ name. file.is_opened_as name)) (sym is) opened, same)

-- a file that was opened, and then written where it is named
pub file_ended : {X : Type 0} (f : X → Text) (o : Option X) (wanted : Bool) (IsTextOf : List ℕ → List ℕ → Type 0) (input : Stream) (file : Filing)
    (mid : Stream) (r : Result (Unit {0}) OutputFailed)
    → IsOpened (option_map f o) (record file { stream = record { before = file.stream.before; after = mid } }) → wanted ≡ is_some o
    → TellsIf wanted IsTextOf input (record { before = mid; after = file.stream.after }) r
    → WritesFile (option_map f o) IsTextOf input file r
file_ended f o wanted IsTextOf input file mid r (opened, same) asked ends = (
  opened,
  subst (λ (s : Stream). TellsIf (is_some (option_map f o)) IsTextOf input (record { before = s; after = file.stream.after }) r) same
      (subst (λ w. TellsIf w IsTextOf input (record { before = mid; after = file.stream.after }) r) (asked ∙ is_some_map f o) ends),
)

finishes : (c w : Result (Unit {0}) OutputFailed) (why : Refusal) (count : ℕ) (geo : Geometry) (given : Options) (input output : Passage)
    (files : Filings) (plays : PlaysOn geo given input output files)
    → WritesFile (name_given run_file.Collections given) (IsLogFor given geo) input.before files.collections c
    → WritesFile (name_given run_file.Wear given) (IsWearOf geo) input.before files.wear w
    → counted_refusals given plays.refused ≡ count → why ≡ refusal_by (hosts_of geo)
    → Finishes (outcome_of c w why count) geo given input output files
finishes c w why count geo given input output files plays log wear is because = record {
  plays = plays;
  log = c;
  log_written = log;
  wear = w;
  wear_written = wear;
  ending_is = ap (λ r. outcome_of c w r count) because ∙ ap (λ n. outcome_of c w (refusal_by (hosts_of geo)) n) (sym is);
}

-- a run ends by how its log and its wear were written, and by how many refused writes are counted
pub run_ended : (c w : Result (Unit {0}) OutputFailed) (why : Refusal) (count : ℕ) (geo : Geometry) (given : Options) (input output : Passage)
    (files : Filings) (plays : PlaysOn geo given input output files)
    → WritesFile (name_given run_file.Collections given) (IsLogFor given geo) input.before files.collections c
    → WritesFile (name_given run_file.Wear given) (IsWearOf geo) input.before files.wear w
    → counted_refusals given plays.refused ≡ count → why ≡ refusal_by (hosts_of geo)
    → EndsOn (outcome_of c w why count) geo given input output files
run_ended (Err e) w why count = finishes (Err e) w why count
run_ended (Ok x) (Err e) why count = finishes (Ok x) (Err e) why count
run_ended (Ok x) (Ok y) why zero = finishes (Ok x) (Ok y) why 0
run_ended (Ok x) (Ok y) why (suc n) = finishes (Ok x) (Ok y) why (suc n)

-- a file that is not named
pub unnamed : {X : Type 0} (f : X → Text) (o : Option X) (IsTextOf : List ℕ → List ℕ → Type 0) (input : Stream) (file : Filing) → is_some o ≡ false
    → IsUntouched file → WritesFile (option_map f o) IsTextOf input file (Ok tt)
unnamed f None IsTextOf input file none same = (tt, (ap (λ (s : Stream). s.failures) same, same))
unnamed f (Some x) IsTextOf input file none same = cc

-- a run on the device ends the session as it ended itself
pub from_run : (words : List Text) (geo : Geometry) (device : IsDescribed words geo) (input output : Passage) (files : Filings) (r : Result (Unit {0}) Stop)
    → EndsOn r geo device.given input output files → Explains r words input output files
from_run words geo device input output files (Ok x) ends = inl (record { geo = geo; device = device; ends = ends })
from_run words geo device input output files (Err (stop.Arguments error)) never = absurd never
from_run words geo device input output files (Err (stop.Encoding place)) never = absurd never
from_run words geo device input output files (Err (stop.Geometry found)) never = absurd never
from_run words geo device input output files (Err (stop.Run found)) ends = record { geo = geo; device = device; ends = ends }
from_run words geo device input output files (Err stop.Help) never = absurd never
from_run words geo device input output files (Err stop.Memory) never = absurd never
from_run words geo device input output files (Err (stop.File file why)) ends = record { geo = geo; device = device; ends = ends }
from_run words geo device input output files (Err (stop.Refused why count)) ends = record { geo = geo; device = device; ends = ends }

pub same_stream : (a b : Stream) → a.failures ≡ b.failures → a.bytes ≡ b.bytes → a ≡ b
same_stream a b p q =
    ap (λ (n : ℕ). the n a.bytes) p ∙ ap (the b.failures) q
  where
    the : ℕ → Option (List ℕ) → Stream
    the failures bytes = record { failures = failures; bytes = bytes }
