-- A trace that is too big, small records, and bytes that mean no commands.
use Rattle.std.proofs.Common.{◌≡◌, ℕ, List, Some, length, take, drop, sym, arith, [], Result, Ok, Err, ap, ◌∙◌}
use Rattle.std.proofs.lemmas.List.{length-take-le, take-append-drop}
use Rattle.trace.specs.Loading.{TookOneTooMany}
use Rattle.trace.specs.declared.commands.Command.{Command}
use Rattle.trace.specs.declared.fault.TraceFault.{TraceFault}

-- two bytes more than a trace may have, of which one is left
pub took_one_too_many : (bytes : List ℕ) → length bytes ≡ 268435458 → TookOneTooMany (Some bytes) (Some (drop 268435457 bytes))
took_one_too_many bytes long =
    record {
      held = omega (arith, long);
      taken = take 268435457 bytes;
      took = sym (take-append-drop 268435457 bytes);
      count = length-take-le 268435457 bytes (omega (arith, long));
    }

-- the commands of a good result
good : Result (List Command) TraceFault → List Command
good (Ok commands) = commands
good (Err fault) = []

-- a result that is no commands is no others
pub none_meant : (meaning : Result (List Command) TraceFault) (commands : List Command) → meaning ≡ Ok [] → meaning ≡ Ok commands → commands ≡ []
unfolding good
none_meant meaning commands none some = ap good (sym some ∙ none)
