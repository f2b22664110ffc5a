use Rattle.std.proofs.Common.{◌≡◌, List, [], ◌∷◌, ◌++◌, map, length, refl, ap, arith}
use Rattle.std.specs.Prelude.{Result, Ok, Err}
use Rattle.trace.specs.declared.{commands.Command.Command, fault.TraceFaultKind.TraceFaultKind}
use Rattle.trace.specs.declared.fault.TraceFaultKind.TheVariants as fault
use Rattle.laws.proofs.traces.records_of_a_trace.Goals as goal

pub returns-clause-faulty : goal.returns-clause-faulty
returns-clause-faulty c [] h = let e : Err fault.Hex ∷ [] ≡ [] = h in absurd (cc)
returns-clause-faulty c (d ∷ ds) h = let e : Err fault.Hex ∷ [] ≡ Ok d ∷ map Ok ds = h in absurd (cc)

pub returns-clause-first : goal.returns-clause-first
returns-clause-first c = record { before = []; after = Err fault.Op ∷ []; order = refl; line = refl }

none_before : (before : List Command) (kind first : TraceFaultKind) (after others : List (Result Command TraceFaultKind))
    → Err first ∷ others ≡ map Ok before ++ (Err kind ∷ after) → before ≡ []
none_before [] kind first after others e = refl
none_before (d ∷ ds) kind first after others e = let first : Err first ∷ others ≡ Ok d ∷ map Ok ds ++ (Err kind ∷ after) = e in absurd (cc)

all_commands : (before : List Command) (d : Command) (kind : TraceFaultKind) (after : List (Result Command TraceFaultKind))
    → Ok d ∷ [] ≡ map Ok before ++ (Err kind ∷ after) → ⊥
all_commands [] d kind after e = let f : Ok d ∷ [] ≡ Err kind ∷ after = e in absurd (cc)
all_commands (x ∷ []) d kind after e = let f : Ok d ∷ [] ≡ Ok x ∷ Err kind ∷ after = e in absurd (cc)
all_commands (x ∷ y ∷ ys) d kind after e = let f : Ok d ∷ [] ≡ Ok x ∷ Ok y ∷ map Ok ys ++ (Err kind ∷ after) = e in absurd (cc)

pub returns-clause-second : goal.returns-clause-second
returns-clause-second c h =
    let none = ap length (none_before h.before fault.Op fault.Hex h.after (Err fault.Op ∷ []) h.order) in
    omega (arith, none, h.line)

pub returns-clause-no_fault : goal.returns-clause-no_fault
returns-clause-no_fault c d k h = all_commands h.before d k.kind h.after h.order
