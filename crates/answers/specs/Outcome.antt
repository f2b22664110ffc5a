-- What a fault of a run means, and what is printed if a run stopped.
use Rattle.std.specs.Prelude.{List, ℕ, codes, ◌≡◌, ◌≢◌, IfSome, Ok, Err, false, IsTrue}
use Rattle.trace.specs.Faults.{fault_text}
use Rattle.answers.specs.declared.fault.RunFault.TheVariants as run
use Rattle.answers.specs.declared.fault.RunFault.{RunFault}
use Rattle.std.specs.Io.KnownBytes.{IsAtEnd}
use Rattle.geometry.specs.Geometry.{hosts_of}
use Rattle.geometry.specs.declared.geometry.Geometry.{Geometry}
use Rattle.trace.specs.Trace.{commands_of, is_of_record}
use Rattle.trace.specs.Loading.{TookOneTooMany}
use Rattle.trace.specs.declared.commands.Command.{Command}
use Rattle.trace.specs.declared.fault.TraceFault.{TraceFault}
use Rattle.trace.specs.declared.fault.TraceFaultKind.TheVariants as fault
use Rattle.answers.specs.Streams.{Passage, Part, Tells}

-- why a run stopped
abbrev pub run_text : RunFault → List ℕ
run_text (run.Trace found) = fault_text found
run_text run.Memory = codes "memory: refused"
run_text run.Threads = codes "threads: refused"
run_text run.Output = codes "output: failed"

-- a trace that was not played: its first fault, or why it could not be read
pub record ExplainsTrace (found : TraceFault) (geo : Geometry) (input : Passage) : Type 0 where
  pub record_fault : IsTrue (is_of_record found.kind) → IfSome input.before.bytes (λ bytes. commands_of bytes geo ≡ Err found)
  pub record_end : IsTrue (is_of_record found.kind) → IsAtEnd input.after.bytes
  pub other_fault : is_of_record found.kind ≡ false → found.line ≡ 0
  pub read : found.kind ≡ fault.Read → input.after.failures ≢ input.before.failures
  pub unfailed : found.kind ≢ fault.Read → input.after.failures ≡ input.before.failures
  pub big : found.kind ≡ fault.Big → TookOneTooMany input.before.bytes input.after.bytes

-- the input was read to its end, no read failed, and its bytes mean commands
pub record ReadsCommands (geo : Geometry) (input : Passage) : Type 0 where
  pub end : IsAtEnd input.after.bytes
  pub unfailed : input.after.failures ≡ input.before.failures
  pub meaning : IfSome input.before.bytes (λ bytes. (commands : List Command) × (commands_of bytes geo ≡ Ok commands))

-- why a run wrote no whole output, by its reader and its writer before and after: the trace was not played; or it is a good one and memory
-- ran out, the system refused the threads of a run by workers, or the writer failed. Only with `Output` was anything written, and that is a
-- beginning of a text that is right for the bytes read
abbrev pub ExplainsRun : (Geometry → List ℕ → List ℕ → Type 0) → Geometry → Passage → Passage → RunFault → Type 0
ExplainsRun IsTextOf geo input output (run.Trace found) = ExplainsTrace found geo input × (output.after ≡ output.before)
ExplainsRun IsTextOf geo input output run.Memory = ReadsCommands geo input × (output.after ≡ output.before)
ExplainsRun IsTextOf geo input output run.Threads = (hosts_of geo ≢ 0) × ReadsCommands geo input × (output.after ≡ output.before)
ExplainsRun IsTextOf geo input output run.Output =
    ReadsCommands geo input × (output.after.failures ≢ output.before.failures) × Tells Part (IsTextOf geo) input.before output
