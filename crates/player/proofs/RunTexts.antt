-- What a run tells, by whether its device has hosts.
use Rattle.std.proofs.Common.{◌≡◌, ◌≢◌, ℕ, zero, suc, List, Option, refl, sym, subst}
use Rattle.std.specs.Prelude.{Bool, not, IfSome, Result}
use Rattle.geometry.specs.{Geometry.hosts_of, declared.geometry.Geometry.Geometry}
use Rattle.answers.specs.{Delivery.AppendsText, Streams.Passage, Streams.Stream, Streams.Tells}
use Rattle.answers.specs.declared.{delivery.OutputFailed.OutputFailed}
use Rattle.answers.specs.declared.fault.RunFault.TheVariants as run
use Rattle.answers.specs.Streams.{Portion, TellsIf}
use Rattle.runs.specs.{Logs.IsBroomLogOf, Logs.IsLogOf, ByWorkers.WasPlayed, ByWorkers.answers_played, ByWorkers.commands_played}
use Rattle.runs.specs.{Outputs.IsOutputByWorkers, Outputs.IsOutputOf, Playing.IsRefusedCount, Playing.refused_by_workers}
use Rattle.runs.specs.declared.played_by_workers.PlayedByWorkers.{PlayedByWorkers}
use Rattle.player.specs.declared.command_line.Options.{Options}
use Rattle.player.specs.Session.{IsLogBy, IsLogFor, IsOneRun, IsTextBy, IsTextFor, refusal_by, run_options_of}
use Rattle.player.specs.declared.refusal.Refusal.TheVariants as refusal

-- without hosts the text is that of one thread
pub one_text : (given : Options) (geo : Geometry) (input old new : Option (List ℕ)) → hosts_of geo ≡ 0
    → IfSome input (λ bytes. AppendsText (IsOutputOf (not given.quiet) geo) bytes old new)
    → IfSome input (λ bytes. AppendsText (IsTextFor given geo) bytes old new)
one_text given geo input old new none text = subst (λ h. IfSome input (λ bytes. AppendsText (IsTextBy h (not given.quiet) geo) bytes old new)) (sym none) text

-- with hosts it is that of their workers
pub shared_text : (hosts : ℕ) (answers : Bool) (geo : Geometry) (portion : Portion) (input : Stream) (output : Passage) → hosts ≢ 0
    → Tells portion (IsOutputByWorkers answers geo) input output → Tells portion (IsTextBy hosts answers geo) input output
shared_text zero answers geo portion input output some text = absurd (some refl)
shared_text (suc others) answers geo portion input output some text = text

-- and so is the log
pub one_log : (given : Options) (geo : Geometry) (wanted : Bool) (input : Stream) (file : Passage) (r : Result (Unit {0}) OutputFailed) → hosts_of geo ≡ 0
    → TellsIf wanted (IsLogOf geo) input file r → TellsIf wanted (IsLogFor given geo) input file r
one_log given geo wanted input file r none ends = subst (λ h. TellsIf wanted (IsLogBy h given.drains geo) input file r) (sym none) ends

shared_end : (hosts drains : ℕ) (geo : Geometry) (wanted : Bool) (input : Stream) (file : Passage) (r : Result (Unit {0}) OutputFailed) → hosts ≢ 0
    → TellsIf wanted (IsBroomLogOf drains geo) input file r → TellsIf wanted (IsLogBy hosts drains geo) input file r
shared_end zero drains geo wanted input file r some ends = absurd (some refl)
shared_end (suc others) drains geo wanted input file r some ends = ends

pub shared_log : (given : Options) (geo : Geometry) (wanted : Bool) (input : Stream) (file : Passage) (r : Result (Unit {0}) OutputFailed) → hosts_of geo ≢ 0
    → TellsIf wanted (IsBroomLogOf given.drains geo) input file r → TellsIf wanted (IsLogFor given geo) input file r
shared_log given geo wanted input file r some ends = shared_end (hosts_of geo) given.drains geo wanted input file r some ends

-- and so many writes were refused
pub one_run : (given : Options) (geo : Geometry) (input : Stream) (output log : Passage) (refused : ℕ) → hosts_of geo ≡ 0
    → IfSome input.bytes (λ bytes. IsRefusedCount geo bytes refused) → IsOneRun (hosts_of geo) geo given input output log refused
one_run given geo input output log refused none counts = subst (λ h. IsOneRun h geo given input output log refused) (sym none) counts

pub shared_run : (hosts : ℕ) (given : Options) (geo : Geometry) (input : Stream) (output log : Passage) (run : PlayedByWorkers) → hosts ≢ 0
    → WasPlayed geo (run_options_of given) input output log run
    → IsOneRun hosts geo given input output log (refused_by_workers (commands_played run) (answers_played run))
shared_run zero given geo input output log run some played = absurd (some refl)
shared_run (suc others) given geo input output log run some played = (run, played, refl)

pub shared_refusal : (hosts : ℕ) → hosts ≢ 0 → refusal.Full ≡ refusal_by hosts
shared_refusal zero some = absurd (some refl)
shared_refusal (suc others) some = refl
