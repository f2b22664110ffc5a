-- What loading a trace takes from a reader.
use Rattle.std.specs.Prelude.{◌≡◌, ◌≢◌, ℕ, ◌+◌, ◌<◌, List, length, Option, IfSome}
use Rattle.std.specs.Io.KnownBytes.{Consumes}
use Rattle.trace.specs.declared.fault.TraceFaultKind.{TraceFaultKind}
use Rattle.trace.specs.declared.fault.TraceFaultKind.TheVariants as fault

-- the largest number of bytes of a trace
abbrev pub most_bytes : ℕ
most_bytes = 268435456

-- if a reader held more bytes than that, exactly one byte more was read
pub record TookOneTooMany (old new : Option (List ℕ)) : Type 0 where
  pub held : IfSome old (λ bytes. most_bytes < length bytes)
  pub taken : List ℕ
  pub took : Consumes old new taken
  pub count : length taken ≡ most_bytes + 1

-- why a trace was not loaded: a read failed, or none did and memory ran out or the trace is too big
abbrev pub ExplainsLoad : TraceFaultKind → ℕ → ℕ → Option (List ℕ) → Option (List ℕ) → Type 0
ExplainsLoad fault.Read failures_old failures_new old new = failures_new ≢ failures_old
ExplainsLoad fault.Memory failures_old failures_new old new = failures_new ≡ failures_old
ExplainsLoad fault.Big failures_old failures_new old new = (failures_new ≡ failures_old) × TookOneTooMany old new
ExplainsLoad _ _ _ _ _ = ⊥
