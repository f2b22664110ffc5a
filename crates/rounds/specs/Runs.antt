-- A run over the rounds of a trace, as far as it has been played.
use Rattle.std.specs.Prelude.{◌≡◌, ℕ, ◌<◌, All, true, List, [], ◌∷◌, ◌++◌}
use Rattle.geometry.specs.History.{Call}
use Rattle.flash_rule.specs.declared.view.View.{View}
use Rattle.trace.specs.declared.commands.Command.{Command}
use Rattle.rounds.specs.{Lines.Said, Rounds.AreTied, Rounds.HavePlayed, Rounds.HaveMet, Told.lines_text, Told.IsTextOfSome, Merging.AreRounds}
use Rattle.rounds.specs.Told.{worker_of, sector_of, calls_in, is_right, AreAnswered}
use Rattle.rounds.specs.Merging.{is_meet, merge, rows_after, rounds_of, AreSameFor, AreDisjointCommands, IsDisjointTrace}

-- A round of commands at disjoint sectors was played behind others: the answers before it stay, each pass has played its worker's commands, and the
-- passes have met
pub record RoundOfRun (hosts n : ℕ) (first last : List Call) (before played after : ℕ → View) (done cs : List Command)
    (rows others : ℕ → List Said) : Type 0 where
  pub some : 0 < hosts
  pub workers : All (λ c. c.worker < hosts) cs
  pub sectors : All (λ c. c.sector < n) cs
  pub disjoint : AreDisjointCommands cs
  pub tied : AreTied hosts first before
  pub kept : AreSameFor done rows others
  pub play : HavePlayed worker_of sector_of calls_in is_right hosts n before (merge cs (rows_after done others)) played
  pub met : HaveMet hosts last played after

-- A run begins with no line, at the empty history
abbrev pub RunBegins : Type 0
RunBegins = (n : ℕ) (rows : ℕ → List Said) → AreAnswered n [] (merge [] rows)

-- After one more round the passes are still at one history, and all lines so far are answered in order
abbrev pub RunGoesOn : Type 0
RunGoesOn =
    (hosts n : ℕ) (first last : List Call) (before played after : ℕ → View) (done cs : List Command) (rows others : ℕ → List Said)
    → RoundOfRun hosts n first last before played after done cs rows others → AreAnswered n first (merge done rows)
    → AreTied hosts last after × AreAnswered n last (merge (done ++ cs) others)

-- A meeting adds a line and no call
abbrev pub MeetingGoesOn : Type 0
MeetingGoesOn = (n : ℕ) (h : List Call) (done : List Command) (c : Command) (rows : ℕ → List Said) → is_meet c.op ≡ true
    → AreAnswered n h (merge done rows) → AreAnswered n h (merge (done ++ c ∷ []) rows)

-- If all rounds are disjoint, the lines of all rounds, each round answered between two histories, are answered in order
abbrev pub RoundsGoOn : Type 0
RoundsGoOn = (n hosts : ℕ) (h : List Call) (commands : List Command) (rows : ℕ → List Said) → AreRounds n hosts [] (rounds_of commands) rows h
    → IsDisjointTrace commands → AreAnswered n h (merge commands rows)

-- If all commands are answered so, the text of their lines is the answers of the trace, with the writes turned away at some set of lines
abbrev pub RunIsText : Type 0
RunIsText = (n : ℕ) (h : List Call) (commands : List Command) (rows : ℕ → List Said) → AreAnswered n h (merge commands rows)
    → IsTextOfSome n commands (lines_text 0 (merge commands rows))
