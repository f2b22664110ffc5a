-- What players did, what a write leaves, what a pass knows of a queue, and blocks as their owners have them, as the laws of steps, hosts, queues and
-- tables name them.
use Rattle.std.specs.Prelude.{◌≡◌, [], ◌∷◌, ◌++◌, ℕ, List, Some, slice_get}
use Rattle.geometry.specs.declared.words.MapWord.{MapWord}
use Rattle.flash_rule.specs.declared.view.View.{View}
use Rattle.erase_queue.specs.declared.sight.Role.TheVariants.{User}
use Rattle.erase_queue.specs.declared.sight.Sight.{Sight}
use Rattle.geometry.specs.declared.words.Phase.{Phase}
use Rattle.flash_rule.specs.declared.facts.Cycle.{Cycle}
use Rattle.flash_rule.specs.declared.facts.Inspection.{Inspection}
use Rattle.flash_rule.specs.declared.facts.Owned.{Owned}
use Rattle.flash_table.specs.declared.broom_seat.BroomBlocks.{BroomBlocks}
use Rattle.flash_table.specs.declared.broom_seat.ReclaimedBlock.{ReclaimedBlock}
use Rattle.flash_table.specs.declared.pass.OpenBlock.{OpenBlock}
use Rattle.flash_table.specs.declared.broom_seat.Reclaiming.TheVariants as reclaiming
use Rattle.geometry.specs.History.{held}
use Rattle.flash_rule.specs.declared.carried.Carried.{Carried}

-- a pass has made no call, programmed no page and taken no block
pub record TookNothing (v w : View) : Type 0 where
  pub mine : w.mine ≡ v.mine
  pub programs : w.programs ≡ v.programs
  pub taken : w.taken ≡ v.taken
  pub owns : w.owns ≡ v.owns

-- a pass has programmed one page
abbrev pub FilledOne : View → View → Type 0
FilledOne v w = (page : MapWord) × (w.programs ≡ v.programs ++ page ∷ [])

-- a pass that knows this limit, these puts, how many were taken, and the places of its own puts and takes
abbrev pub sees_own : ℕ → List ℕ → ℕ → List ℕ → List ℕ → Sight
sees_own limit puts takes own_puts own_takes = record { role = User; limit = limit; puts = puts; takes = takes; own_puts = own_puts; own_takes = own_takes }

-- a pass that has put and taken none of them itself
abbrev pub sees : ℕ → List ℕ → ℕ → Sight
sees limit puts takes = sees_own limit puts takes [] []

-- an open block, in this generation, with this many pages written
abbrev pub an_open : ℕ → ℕ → ℕ → OpenBlock
an_open block generation written = record { block = block; generation = generation; written = written }

-- a block that is drained or erased
abbrev pub a_reclaimed : ℕ → ℕ → ℕ → ReclaimedBlock
a_reclaimed block generation written = record { block = block; generation = generation; written = written }

-- a block as its owner has it
abbrev pub an_owned : ℕ → Phase → ℕ → ℕ → Owned
an_owned block phase generation written = record { block = block; phase = phase; generation = generation; written = written }

-- an inspection of a generation of a block, so many sectors of which were passed
abbrev pub an_inspection : ℕ → ℕ → ℕ → Inspection
an_inspection block generation sectors = record { block = block; generation = generation; sectors = sectors }

-- a generation of a block
abbrev pub a_cycle : ℕ → ℕ → Cycle
a_cycle block generation = record { block = block; generation = generation }

-- the blocks of a broom that drains one
abbrev pub some_blocks : BroomBlocks
some_blocks = record { destination = Some (an_open 3 1 2); spare = Some (an_open 4 0 0); reclaiming = reclaiming.Draining (a_reclaimed 5 2 4) }

-- a sector holds after all that the second view has seen what it held after all that the first one has
abbrev pub StaysAt : ℕ → View → View → Type 0
StaysAt s v w = held v.numbers.sectors w.seen s ≡ held v.numbers.sectors v.seen s

-- an erase of a page's block in this generation of it
abbrev pub erase_in : MapWord → ℕ → Cycle
erase_in m generation = record { block = m.block; generation = generation }

-- no page was programmed by this seat and by the player of the copies, in one generation of its block
abbrev pub ProgramsApart : View → Carried → Type 0
ProgramsApart v c = (j k : ℕ) (page : MapWord) → slice_get v.programs j ≡ Some page → ¬ (slice_get c.programs k ≡ Some page)
