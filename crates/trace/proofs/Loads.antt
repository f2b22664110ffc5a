-- What a reader gave, piece by piece.
use Rattle.std.proofs.Common.{◌≡◌, ℕ, ◌+◌, ◌<◌, List, length, Option, None, Some, ap, arith, length-append}
use Rattle.std.specs.Prelude.{IfSome}
use Rattle.std.specs.{Io.KnownBytes.Consumes}
use Rattle.trace.specs.Loading.{TookOneTooMany, most_bytes}

-- a byte too many was taken
held_more : (old new : Option (List ℕ)) (text : List ℕ) → Consumes old new text → length text ≡ most_bytes + 1 → IfSome old (λ bytes. most_bytes < length bytes)
held_more None new text taken count = tt
held_more (Some xs) None text taken count = absurd taken
held_more (Some xs) (Some ys) text taken count = omega (arith, ap length taken, length-append text ys)

pub too_many : (old new : Option (List ℕ)) (text : List ℕ) → Consumes old new text → length text ≡ most_bytes + 1 → TookOneTooMany old new
too_many old new text taken count = record { held = held_more old new text taken count; taken = text; took = taken; count = count }
