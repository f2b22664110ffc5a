-- Answers side by side: what they say, and the room for more.
use Rattle.std.specs.Prelude.{◌≡◌, ℕ, ◌+◌, ◌≤◌, List, [], ◌∷◌, length, take, vec_capacity}
use Rattle.trace.specs.declared.commands.{Command.Command, Op.Op}
use Rattle.trace.specs.declared.commands.Op.TheVariants as op
use Rattle.rounds.specs.{Lines.Said, Pages.bytes_in, Pages.said_from, declared.answer_list.Answers.Answers, declared.answer_list.Cursor.Cursor}

-- all answers, in order
abbrev pub said_in : Answers → List Said
said_in answers = said_from answers.page_bytes answers.kinds.items answers.pages.items

-- how many bytes their pages have
abbrev pub page_size_of : Answers → ℕ
page_size_of answers = answers.page_bytes

-- there is room for this many more answers, with this many bytes
pub record HasSpace (answers : Answers) (lines bytes : ℕ) : Type 0 where
  pub kinds : length answers.kinds.items + lines ≤ vec_capacity answers.kinds
  pub pages : length answers.pages.items + bytes ≤ vec_capacity answers.pages

-- how many bytes the answer of an op can have
abbrev pub space_for : ℕ → Op → ℕ
space_for n op.Read = n
space_for _ _ = 0

-- and how many the answers of lines can have
abbrev pub space_of : ℕ → List Command → ℕ
space_of n [] = 0
space_of n (c ∷ lines) = space_for n c.op + space_of n lines

-- there is room for the answers of these lines
abbrev pub HasSpaceFor : Answers → List Command → Type 0
HasSpaceFor answers lines = HasSpace answers (length lines) (space_of (page_size_of answers) lines)

-- the cursor is at one of the answers, or behind them all: its page begins behind those of the answers before it
abbrev pub IsCursorOf : Answers → Cursor → Type 0
IsCursorOf answers cursor = cursor.page ≡ bytes_in answers.page_bytes (take cursor.line answers.kinds.items)

-- the cursor at the first answer
abbrev pub first_place : Cursor
first_place = record { line = 0; page = 0 }

-- the index of the answer at the cursor
abbrev pub answer_index : Cursor → ℕ
answer_index cursor = cursor.line
