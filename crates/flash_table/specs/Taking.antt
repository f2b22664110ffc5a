-- What a take of a block records, by a pass or by a broom, and a broom's take of a spare.
use Rattle.std.specs.Prelude.{◌≡◌, ℕ, ◌+◌, ◌<◌, [], ◌∷◌, ◌++◌, Bool, Some, MatchBool, None}
use Rattle.flash_rule.specs.declared.view.View.{View}
use Rattle.flash_table.specs.declared.broom_seat.BroomBlocks.{BroomBlocks}
use Rattle.flash_table.specs.declared.pass.OpenBlock.{OpenBlock}
use Rattle.flash_table.specs.Owning.{owned_of}
use Rattle.flash_rule.specs.Views.{owned_at}

-- a block as it is taken: open, with nothing written
abbrev pub fresh_block : ℕ → ℕ → OpenBlock
fresh_block block generation = record { block = block; generation = generation; written = 0 }

-- The block was free, in some generation less than the endurance, and is now the broom's spare in addition to what it owned, open and with nothing
-- written
pub record GotSpare (v : View) (x : BroomBlocks) (block : ℕ) (w : View) (y : BroomBlocks) : Type 0 where
  pub generation : ℕ
  pub young : generation < v.numbers.endurance
  pub changed : w ≡ record v { taken = v.taken + 1; owns = owned_of (fresh_block block generation) ∷ v.owns }
  pub blocks : y ≡ record x { spare = Some (fresh_block block generation) }

-- or it was found taken, and is listed so; the broom's blocks are unchanged
pub record GotNoSpare (v : View) (x : BroomBlocks) (block : ℕ) (w : View) (y : BroomBlocks) : Type 0 where
  pub changed : w ≡ record v { denied = v.denied ++ block ∷ [] }
  pub blocks : y ≡ x

-- what a take of a spare records, by its result
abbrev pub SpareTold : View → BroomBlocks → ℕ → Bool → View → BroomBlocks → Type 0
SpareTold v x block result w y = MatchBool result (GotSpare v x block w y) (GotNoSpare v x block w y)

-- The block was free, in this generation, which is less than the endurance. It wasn't the seat's, and now it is, open and with nothing
-- written
pub record TookFree (v : View) (block generation : ℕ) (w : View) : Type 0 where
  pub young : generation < v.numbers.endurance
  pub fresh : owned_at block v.owns ≡ None
  pub changed : w ≡ record v { taken = v.taken + 1; owns = owned_of (fresh_block block generation) ∷ v.owns }

-- or it was found taken, by a load or by a take, and is listed so
abbrev pub FoundTaken : View → ℕ → View → Type 0
FoundTaken v block w = w ≡ record v { denied = v.denied ++ block ∷ [] }
