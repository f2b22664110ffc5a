-- Lines of traces and their answers, as the laws of rounds name them.
use Rattle.std.specs.Prelude.{ℕ, zero, suc, List, [], ◌∷◌}
use Rattle.trace.specs.declared.commands.{Command.Command, Op.Op}
use Rattle.trace.specs.declared.commands.Op.TheVariants as op
use Rattle.rounds.specs.{declared.answer.Kind.Kind, Lines.Said, Told.lines_text, Told.Line, Told.line, Told.told}
use Rattle.rounds.specs.declared.answer.Kind.TheVariants as kind

-- a line of a worker without a page
abbrev pub plain_line : ℕ → Op → ℕ → Command
plain_line worker o sector = record { worker = worker; op = o; sector = sector; page = [] }

-- a line in which a worker reads sector 5
abbrev pub read : ℕ → Command
read worker = plain_line worker op.Read 5

-- a line in which a worker writes a sector
abbrev pub write_by : ℕ → ℕ → List ℕ → Command
write_by worker sector page = record { worker = worker; op = op.Write; sector = sector; page = page }

-- a line that ends a round
abbrev pub meeting : Command
meeting = plain_line 0 op.Meet 0

-- an answer without a page
abbrev pub says : Kind → Said
says k = record { kind = k; page = [] }

-- the answer of a read that found a page
abbrev pub says_page : List ℕ → Said
says_page page = record { kind = kind.Page; page = page }

-- the answers of two workers
abbrev pub rows_with : List Said → List Said → ℕ → List Said
rows_with first second zero = first
rows_with first second (suc zero) = second
rows_with first second (suc (suc t)) = []

-- two reads of one worker and one of another, with a meeting before the last
abbrev pub three_reads : List Command
three_reads = read 1 ∷ read 0 ∷ meeting ∷ read 1 ∷ []

-- the lines of these reads, with these answers
abbrev pub three_answers : Said → Said → Said → List Line
three_answers a b c = line (read 1) a ∷ line (read 0) b ∷ line meeting (says kind.Met) ∷ line (read 1) c ∷ []

-- a write of a sector, a trim and a read of it
abbrev pub three_lines : List ℕ → List Command
three_lines x = write_by 0 0 x ∷ plain_line 0 op.Trim 0 ∷ plain_line 0 op.Read 0 ∷ []

-- their text if all of them are done
abbrev pub all_done : List ℕ → List ℕ
all_done x = lines_text 0 (told (three_lines x) (says kind.Empty ∷ says kind.Written ∷ says kind.Empty ∷ []))

-- the same if the write is turned away
abbrev pub write_turned_away : List ℕ → List ℕ
write_turned_away x = lines_text 0 (told (three_lines x) (says kind.Full ∷ says kind.Empty ∷ says kind.Empty ∷ []))

-- a worker writes a sector that another one reads, and that one reads it in the next round too
abbrev pub write_and_reads : List ℕ → List Command
write_and_reads x = write_by 0 0 x ∷ plain_line 1 op.Read 0 ∷ meeting ∷ plain_line 1 op.Read 0 ∷ []

-- the write is done, and both reads find an empty sector
abbrev pub nothing_read : ℕ → List Said
nothing_read = rows_with (says kind.Empty ∷ []) (says kind.Empty ∷ says kind.Empty ∷ [])
