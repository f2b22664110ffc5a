-- What a pass that plays lines does: each is answered at a history, one after another.
use Rattle.std.specs.Prelude.{◌≡◌, ℕ, zero, suc, ◌+◌, ◌<◌, ◌≤◌, Bool, true, false, if◌then◌else◌, List, [], ◌∷◌, ◌++◌, length}
use Rattle.std.specs.List.{range_with_len}
use Rattle.geometry.specs.{History.Call, History.held, History.Begins, declared.words.MapWord.MapWord}
use Rattle.flash_rule.specs.declared.view.View.{View}
use Rattle.trace.specs.declared.commands.{Command.Command, Op.Op}
use Rattle.trace.specs.declared.commands.Op.TheVariants as op
use Rattle.rounds.specs.Lines.{Said, calls_made, is_full, IsRight}

-- Pass t, which had seen this, has played the lines and has seen that at the end: each line has its right answer at a history of its own.
-- The first history isn't before what the pass had seen, each next one not before the previous one with its call, and the end not before
-- the last one with its call
abbrev pub Plays : ℕ → ℕ → List Call → List Command → List Said → List Call → Type 0
Plays n t seen [] [] last = Begins seen last
Plays n t seen (c ∷ lines) (a ∷ answers) last =
    (h : List Call) × Begins seen h × IsRight c.op (held n h c.sector) a.kind a.page × Plays n t (h ++ calls_made t c a) lines answers last
Plays _ _ _ _ _ _ = ⊥

-- the calls that lines have added, made by one pass
abbrev pub calls_done : ℕ → List Command → List Said → List Call
calls_done t (c ∷ lines) (a ∷ answers) = calls_made t c a ++ calls_done t lines answers
calls_done _ _ _ = []

-- whether a line has programmed a page
abbrev pub one_done : Op → Bool → ℕ
one_done op.Write full = if full then 0 else 1
one_done op.New full = if full then 0 else 1
one_done _ _ = 0

-- how many of the lines are writes that were done
abbrev pub writes_done : List Command → List Said → ℕ
writes_done (c ∷ lines) (a ∷ answers) = one_done c.op (is_full a.kind) + writes_done lines answers
writes_done _ _ = 0

-- the blocks that were found taken in this many tries that found none free: in each try all blocks, in order
abbrev pub all_taken : ℕ → ℕ → List ℕ
all_taken blocks zero = []
all_taken blocks (suc tries) = all_taken blocks tries ++ range_with_len 0 blocks

-- how many tries of a write found no block, and how many of the lowest blocks were found taken in the try that did: a write that was turned away was
-- tried as often as it may be, and one that was done no more often
abbrev pub IsTried : ℕ → ℕ → Bool → ℕ → ℕ → Type 0
IsTried patience blocks true refused below = (refused ≡ patience) × (below ≡ 0)
IsTried patience blocks false refused below = (refused < patience) × (below < blocks)

-- the blocks that a write has found taken: all of them in each try that found no block, and in the try that did the lowest ones, fewer than
-- all; which block it took is not said here
pub record WriteFound (patience blocks : ℕ) (full : Bool) (found : List ℕ) : Type 0 where
  pub refused : ℕ
  pub below : ℕ
  pub tried : IsTried patience blocks full refused below
  pub whole : found ≡ all_taken blocks refused ++ range_with_len 0 below

-- the blocks that a line has found taken: none if it is no write
abbrev pub LineFound : ℕ → ℕ → Op → Bool → List ℕ → Type 0
LineFound patience blocks op.Write full found = WriteFound patience blocks full found
LineFound patience blocks op.New full found = WriteFound patience blocks full found
LineFound _ _ _ _ found = found ≡ []

-- the blocks that lines have found taken, one line after another
abbrev pub LinesFound : ℕ → ℕ → List Command → List Said → List ℕ → Type 0
LinesFound patience blocks [] [] found = found ≡ []
LinesFound patience blocks (c ∷ lines) (a ∷ answers) found =
    (first : List ℕ) × (rest : List ℕ) × (found ≡ first ++ rest) × LineFound patience blocks c.op (is_full a.kind) first
    × LinesFound patience blocks lines answers rest
LinesFound _ _ _ _ _ = ⊥

-- what a pass knows, with the eleven fields of another view that playing may change
abbrev pub with_play : View → View → View
with_play v w = record v {
  seen = w.seen;
  mine = w.mine;
  looks = w.looks;
  pin = w.pin;
  known = w.known;
  programs = w.programs;
  owns = w.owns;
  work = w.work;
  taken = w.taken;
  denied = w.denied;
  ceded = w.ceded;
}

-- What playing has added to what a pass knows: these calls behind its own, in order, and so many programmed pages; it took at most as many blocks,
-- and the blocks that it found taken are as they have to be. Nothing else has changed
pub record PlayAdds (calls : List Call) (writes : ℕ) (AreFound : List ℕ → Type 0) (v w : View) : Type 0 where
  pub changed : w ≡ with_play v w
  pub mine : w.mine ≡ v.mine ++ calls
  pub more : List MapWord
  pub programs : w.programs ≡ v.programs ++ more
  pub programmed : length more ≡ writes
  pub kept : v.taken ≤ w.taken
  pub taken : w.taken ≤ v.taken + writes
  pub found : List ℕ
  pub denied : w.denied ≡ v.denied ++ found
  pub tried : AreFound found

-- A pass has played lines, with this many tries of each write. Exactly the calls of the lines that were done were added to its own, in
-- order; for each write that was done one page was programmed, and at most one block taken; and the blocks that it has found taken are
-- those of the tries of each line, in order
pub record Played (t patience : ℕ) (v : View) (lines : List Command) (answers : List Said) (w : View) : Type 0 where
  pub plays : Plays v.numbers.sectors t v.seen lines answers w.seen
  pub adds : PlayAdds (calls_done t lines answers) (writes_done lines answers) (LinesFound patience v.numbers.blocks lines answers) v w
  pub open adds use *
