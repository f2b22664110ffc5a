-- The plan of a run: which worker does which lines, and where the rounds end.
use Rattle.std.specs.Prelude.{ℕ, ◌+◌, if◌then◌else◌, List, [], ◌∷◌, ◌++◌, length, Vec}
use Rattle.std.specs.Global.{Global}
use Rattle.trace.specs.declared.commands.Command.{Command}
use Rattle.rounds.specs.Merging.{is_meet, is_line_of}

-- the items of a row
abbrev pub items_of : Vec ℕ Global → List ℕ
items_of row = row.items

-- the indexes of one worker's lines among commands, in order, if the first command has this index
abbrev pub places_from : ℕ → ℕ → List Command → List ℕ
places_from k t [] = []
places_from k t (c ∷ cs) = if is_line_of t c then k ∷ places_from (k + 1) t cs else places_from (k + 1) t cs

-- the indexes of one worker's lines among all commands
abbrev pub places_for : ℕ → List Command → List ℕ
places_for t cs = places_from 0 t cs

-- the indexes of the meetings, if the first command has this index, and the one after the last command
abbrev pub meetings_from : ℕ → List Command → List ℕ
meetings_from k [] = []
meetings_from k (c ∷ cs) = if is_meet c.op then k ∷ meetings_from (k + 1) cs else meetings_from (k + 1) cs

-- where the rounds of a trace end: at the meetings, and after the last command
abbrev pub ends_of : List Command → List ℕ
ends_of cs = meetings_from 0 cs ++ length cs ∷ []
