-- Lines of a trace, each done by a worker at a sector: the calls that they make, and the histories at which they are answered. What a line
-- is is left open here; who does it, at which sector, by which calls, and which answer is right for what its sector holds, are functions of
-- it.
use Rattle.std.specs.{Prelude.◌≡◌, Prelude.ℕ, Prelude.◌==◌, Prelude.List, Prelude.[], Prelude.◌∷◌, Prelude.◌++◌, List.flat_map, List.filter}
use Rattle.geometry.specs.{Sectors.Sector, History.Call, History.after, History.held, History.Begins}

-- all calls that lines make, in the order of the lines
abbrev pub made : {X : Type 0} → (X → List Call) → List X → List Call
made calls xs = flat_map calls xs

-- the lines of one worker, in order
abbrev pub lines_of : {X : Type 0} → (X → ℕ) → ℕ → List X → List X
lines_of worker t xs = filter (λ x. worker x == t) xs

-- One worker has played its lines between two histories: each line was answered correctly at a history of its own, which begins with that of
-- the line before and its calls, and the last history begins with that of the last line and its calls
abbrev pub Plays : {X : Type 0} → (X → ℕ) → (X → List Call) → (X → Sector → Type 0) → ℕ → List Call → List X → List Call → Type 0
Plays sector calls right n seen [] last = Begins seen last
Plays sector calls right n seen (x ∷ xs) last =
    (h : List Call) × Begins seen h × right x (held n h (sector x)) × Plays sector calls right n (h ++ calls x) xs last

-- The lines were rightly answered one after another, as by one worker alone: each at the history of all the lines before it
abbrev pub InOrder : {X : Type 0} → (X → ℕ) → (X → List Call) → (X → Sector → Type 0) → ℕ → List Call → List X → Type 0
InOrder sector calls right n seen [] = Unit {0}
InOrder sector calls right n seen (x ∷ xs) = right x (held n seen (sector x)) × InOrder sector calls right n (seen ++ calls x) xs

-- two histories give the same array
abbrev pub LeaveSame : ℕ → List Call → List Call → Type 0
LeaveSame n h k = after n h ≡ after n k
