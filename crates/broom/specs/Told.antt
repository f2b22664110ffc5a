-- What a drain and a restock record in what their broom knows, before and after.
use Rattle.std.specs.Prelude.{◌≡◌, ℕ, ◌+◌, ◌<◌, ◌⊎◌, ◌∷◌, ◌++◌, Bool, None, Some, MatchBool, false, List, [], Option, IfSome, slice_index, slice_set}
use Rattle.std.specs.List.{range_with_len}
use Rattle.flash_rule.specs.declared.view.View.{View}
use Rattle.flash_table.specs.declared.broom_seat.BroomBlocks.{BroomBlocks}
use Rattle.flash_table.specs.declared.pass.OpenBlock.{OpenBlock}
use Rattle.flash_table.specs.Owning.{owned_of}
use Rattle.flash_table.specs.Taking.{fresh_block}
use Rattle.broom.specs.declared.broom.Broom.{Broom}
use Rattle.broom.specs.Ready.{view_of_broom, blocks_of_broom, marks_of}
use Rattle.geometry.specs.Greedy.{greedy_of}
use Rattle.geometry.specs.History.{Begins}
use Rattle.geometry.specs.declared.words.PinWord.{PinWord}
use Rattle.flash_table.specs.declared.broom_seat.ReclaimedBlock.{ReclaimedBlock}
use Rattle.broom.specs.declared.answer.Drain.TheVariants as drain
use Rattle.broom.specs.declared.answer.Drain.{Drain}
use Rattle.broom.specs.Survey.{Survey, IsSurvey, GainsNothing, IsVictim, loads_of, looks_of, generation_in, written_in, counts_of, closed_of}
use Rattle.broom.specs.Emptying.{Emptied, given_up}

-- The broom had a spare, and nothing was done
pub record HadSpare (v : View) (x : BroomBlocks) (w : View) (y : BroomBlocks) : Type 0 where
  pub spare : (o : OpenBlock) × (x.spare ≡ Some o)
  pub view : w ≡ v
  pub blocks : y ≡ x

-- The broom had no spare. The blocks below this one were tried in order and found taken, and this one was free, in some generation less
-- than the endurance: now the broom owns it as its spare in addition to what it owned, open and with nothing written. Nothing else has changed
pub record DidRestock (v : View) (x : BroomBlocks) (w : View) (y : BroomBlocks) : Type 0 where
  pub none : x.spare ≡ None
  pub block : ℕ
  pub generation : ℕ
  pub low : block < v.numbers.blocks
  pub young : generation < v.numbers.endurance
  pub changed : w ≡ record v { taken = v.taken + 1; denied = v.denied ++ range_with_len 0 block; owns = owned_of (fresh_block block generation) ∷ v.owns }
  pub blocks : y ≡ record x { spare = Some (fresh_block block generation) }

-- The broom had no spare, and has none. All blocks were tried in order and found taken, and nothing else has changed
pub record FoundNoSpare (v : View) (x : BroomBlocks) (w : View) (y : BroomBlocks) : Type 0 where
  pub none : x.spare ≡ None
  pub changed : w ≡ record v { denied = v.denied ++ range_with_len 0 v.numbers.blocks }
  pub blocks : y ≡ x

-- what a search for a spare records
abbrev pub SearchTold : View → BroomBlocks → Bool → View → BroomBlocks → Type 0
SearchTold v x result w y = MatchBool result (DidRestock v x w y) (FoundNoSpare v x w y)

-- what each result of a restock means
abbrev pub RestockTold : Broom → Bool → Broom → Type 0
RestockTold before result after =
    MatchBool result (HadSpare (view_of_broom before) (blocks_of_broom before) (view_of_broom after) (blocks_of_broom after)
    ⊎ DidRestock (view_of_broom before) (blocks_of_broom before) (view_of_broom after) (blocks_of_broom after))
    (FoundNoSpare (view_of_broom before) (blocks_of_broom before) (view_of_broom after) (blocks_of_broom after))

-- A survey was made: the state of each block was loaded in order, and then each sector looked at in order, with these words
pub record Surveyed (v : View) (x : Survey) (w : View) : Type 0 where
  pub whole : IsSurvey v.numbers x
  pub loaded : w.loaded ≡ v.loaded ++ loads_of x.states
  pub named : Begins (v.named ++ looks_of x.pages) w.named
  pub later : Begins v.seen w.seen

-- The broom had no spare, and nothing was done
pub record HadNoSpare (before after : Broom) : Type 0 where
  pub none : (blocks_of_broom before).spare ≡ None
  pub view : view_of_broom after ≡ view_of_broom before
  pub blocks : blocks_of_broom after ≡ blocks_of_broom before

-- A survey was made that shows nothing to gain, and nothing else was done
pub record GainedNothing (v w : View) : Type 0 where
  pub survey : Survey
  pub made : Surveyed v survey w
  pub nothing : GainsNothing survey v.numbers.pages
  pub changed : w ≡ record v { seen = w.seen; loaded = w.loaded; named = v.named ++ looks_of survey.pages; busy = w.busy; stale = w.stale }

-- A survey was made, and the claim of its victim failed. Nothing else was done
pub record LostClaim (v w : View) : Type 0 where
  pub survey : Survey
  pub made : Surveyed v survey w
  pub block : ℕ
  pub victim : IsVictim survey v.numbers.pages block
  pub changed : w ≡ record v {
    seen = w.seen;
    loaded = w.loaded;
    named = v.named ++ looks_of survey.pages;
    busy = w.busy;
    stale = w.stale;
    lost = v.lost ++ block ∷ [];
  }

-- the victim of a survey, in its generation and with its pages written as loaded
abbrev pub victim_in : Survey → ℕ → ReclaimedBlock
victim_in x b = record { block = b; generation = generation_in x.states b; written = written_in x.states b }

-- A survey was made, and this block, its victim, was drained in its generation as loaded: no map word names it any more. It was emptied
-- page by page: for each live page the next page of the destination was programmed, and once that had none, the next one of the spare, and
-- this many map words were exchanged for a copy's. The broom gave up exactly the blocks that the copies filled, closed, and after them the
-- victim, drained
pub record DidDrain (v : View) (x : BroomBlocks) (block copied : ℕ) (w : View) (y : BroomBlocks) : Type 0 where
  pub survey : Survey
  pub made : Surveyed v survey w
  pub victim : IsVictim survey v.numbers.pages block
  pub emptied : Emptied v.numbers.pages (victim_in survey block) (record v { named = v.named ++ looks_of survey.pages }) x copied w y
  pub room : (o : OpenBlock) → y.destination ≡ Some o → o.written < v.numbers.pages
  pub reclaiming : y.reclaiming ≡ x.reclaiming
  pub changed : w ≡ record v {
    seen = w.seen;
    loaded = w.loaded;
    named = w.named;
    busy = w.busy;
    stale = w.stale;
    owns = w.owns;
    work = w.work;
    programs = w.programs;
    cleared = (victim_in survey block).written;
    moves = v.moves + copied;
    drains = v.drains ++ record { block = block; generation = generation_in survey.states block } ∷ [];
    ceded = v.ceded ++ given_up v.numbers.pages emptied.copies (victim_in survey block);
  }

-- What each result of a drain means. The broom's own blocks are unchanged if it drained none. A drain doesn't use the queue
abbrev pub DrainTold : Broom → Drain → Broom → Type 0
DrainTold before (drain.Drained block copied) after =
    DidDrain (view_of_broom before) (blocks_of_broom before) block copied (view_of_broom after) (blocks_of_broom after)
DrainTold before drain.NothingToGain after = GainedNothing (view_of_broom before) (view_of_broom after) × (blocks_of_broom after ≡ blocks_of_broom before)
DrainTold before drain.NoSpare after = HadNoSpare before after
DrainTold before drain.Lost after = LostClaim (view_of_broom before) (view_of_broom after) × (blocks_of_broom after ≡ blocks_of_broom before)
DrainTold before drain.QueueFull after = ⊥

-- a block in its generation and with its pages written as its state among these has them
abbrev pub block_in : List PinWord → ℕ → ReclaimedBlock
block_in states b = record { block = b; generation = generation_in states b; written = written_in states b }

-- This block was drained, in its generation as loaded: no map word names it any more. No state was loaded, and no sector was looked at
-- except those that the stamps of this block's pages name. It was emptied page by page, as by a drain
pub record DidDrainAgain (v : View) (x : BroomBlocks) (states : List PinWord) (block copied : ℕ) (w : View) (y : BroomBlocks) : Type 0 where
  pub later : Begins v.seen w.seen
  pub emptied : Emptied v.numbers.pages (block_in states block) v x copied w y
  pub room : (o : OpenBlock) → y.destination ≡ Some o → o.written < v.numbers.pages
  pub reclaiming : y.reclaiming ≡ x.reclaiming
  pub changed : w ≡ record v {
    seen = w.seen;
    named = w.named;
    owns = w.owns;
    work = w.work;
    programs = w.programs;
    cleared = written_in states block;
    moves = v.moves + copied;
    drains = v.drains ++ record { block = block; generation = generation_in states block } ∷ [];
    ceded = v.ceded ++ given_up v.numbers.pages emptied.copies (block_in states block);
  }

-- the claim of this block failed, and nothing else was done
abbrev pub LostAgain : View → ℕ → View → Type 0
LostAgain v block w = w ≡ record v { lost = v.lost ++ block ∷ [] }

-- the live pages of each block by the survey that the broom made last
abbrev pub counts_kept : Broom → List ℕ
counts_kept b = b.counts.items

-- the states that it keeps
abbrev pub states_kept : Broom → List PinWord
states_kept b = b.states.items

-- the block to be drained next: of those still marked the one with the fewest live pages, and the lowest on a tie
abbrev pub next_of : Broom → Option ℕ
next_of b = greedy_of b.counts.items b.closed.items

-- only the broom's ranking of the marked blocks has changed
abbrev pub HasOnlyRanked : Broom → Broom → Type 0
HasOnlyRanked before after = after ≡ record before { ranking = after.ranking }

-- there is nothing to gain: no block is marked any more, or all pages of the one to be drained next were live
abbrev pub GainsNothingNext : Broom → Type 0
GainsNothingNext b = IfSome (next_of b) (λ block. slice_index (counts_kept b) block ≡ (view_of_broom b).numbers.pages)

-- This block is the one to be drained next, and not all of its pages were live
pub record IsDrainedNext (b : Broom) (block : ℕ) : Type 0 where
  pub chosen : next_of b ≡ Some block
  pub gains : ¬ (slice_index (counts_kept b) block ≡ (view_of_broom b).numbers.pages)

-- what each result of a drain of a marked block means
abbrev pub MarkedTold : Broom → ℕ → Drain → Broom → Type 0
MarkedTold before b (drain.Drained block copied) after =
    (block ≡ b) × DidDrainAgain (view_of_broom before) (blocks_of_broom before) (states_kept before) b copied (view_of_broom after) (blocks_of_broom after)
MarkedTold before b drain.NothingToGain after = ⊥
MarkedTold before b drain.NoSpare after = ⊥
MarkedTold before b drain.Lost after = LostAgain (view_of_broom before) b (view_of_broom after) × (blocks_of_broom after ≡ blocks_of_broom before)
MarkedTold before b drain.QueueFull after = ⊥

-- The broom has unmarked this block, and keeps everything else of its last survey
pub record Unmarks (before : Broom) (block : ℕ) (after : Broom) : Type 0 where
  pub states : states_kept after ≡ states_kept before
  pub counts : counts_kept after ≡ counts_kept before
  pub marks : marks_of after ≡ slice_set (marks_of before) block false

-- The broom keeps everything of its last survey
pub record KeepsSurvey (before after : Broom) : Type 0 where
  pub states : states_kept after ≡ states_kept before
  pub counts : counts_kept after ≡ counts_kept before
  pub marks : marks_of after ≡ marks_of before

-- what each result of a drain by the last survey means
abbrev pub NextTold : Broom → Drain → Broom → Type 0
NextTold before (drain.Drained block copied) after =
    IsDrainedNext before block × DidDrainAgain (view_of_broom before) (blocks_of_broom before) (states_kept before) block copied (view_of_broom after)
    (blocks_of_broom after) × Unmarks before block after
NextTold before drain.NothingToGain after =
    GainsNothingNext before × (view_of_broom after ≡ view_of_broom before) × (blocks_of_broom after ≡ blocks_of_broom before) × KeepsSurvey before after
NextTold before drain.NoSpare after = HadNoSpare before after × KeepsSurvey before after
NextTold before drain.Lost after = (block : ℕ) × IsDrainedNext before block × LostAgain (view_of_broom before) block (view_of_broom after)
    × (blocks_of_broom after ≡ blocks_of_broom before) × Unmarks before block after
NextTold before drain.QueueFull after = ⊥

-- A survey was made, and the broom keeps it, with these marks
pub record LeftSurvey (v : View) (x : Survey) (marked : List Bool) (after : Broom) : Type 0 where
  pub made : Surveyed v x (view_of_broom after)
  pub states : states_kept after ≡ x.states
  pub counts : counts_kept after ≡ counts_of x
  pub marks : marks_of after ≡ marked

-- What a drain leaves for the next ones: if it made a survey the broom keeps that, and each closed block is marked, except the victim
abbrev pub SurveyLeft : Broom → Drain → Broom → Type 0
SurveyLeft before (drain.Drained block copied) after = (x : Survey) × LeftSurvey (view_of_broom before) x (slice_set (closed_of x.states) block false) after
SurveyLeft before drain.NothingToGain after = (x : Survey) × LeftSurvey (view_of_broom before) x (closed_of x.states) after
SurveyLeft before drain.NoSpare after = KeepsSurvey before after
SurveyLeft before drain.Lost after = (x : Survey) × (block : ℕ) × IsVictim x (view_of_broom before).numbers.pages block
    × LeftSurvey (view_of_broom before) x (slice_set (closed_of x.states) block false) after
SurveyLeft before drain.QueueFull after = KeepsSurvey before after
