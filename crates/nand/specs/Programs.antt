-- What a call programs.
use Rattle.std.specs.Prelude.{◌≡◌, ◌⊎◌, ◌≤◌, ◌+◌, ◌-◌, ◌*◌, ◌%◌, ◌^◌, ℕ, Bool, List}
use Rattle.geometry.specs.Sectors.{Sector}
use Rattle.durable.specs.Flash.{Flash, Version}
use Rattle.durable.specs.Updates.{Update}
use Rattle.durable.specs.declared.extent.Extent.{Extent}
use Rattle.nand.specs.declared.flash.Shape.{Shape}
use Rattle.nand.specs.declared.flash.Tally.{Tally}
use Rattle.nand.specs.declared.layer.Durable.{Durable}
use Rattle.nand.specs.Opened.{marked_blocks, number_of}

-- a page has this version
abbrev pub HasSomewhere : Flash → Extent → ℕ → Sector → Type 0
HasSomewhere f e m v = (b : ℕ) × (p : ℕ) × (f b p ≡ Version e m v)

-- one page has the version of this update with this number, and each other version was in the flash before, in that page or in another
pub record AddsVersion (f t : Flash) (number : ℕ) (update : Update) : Type 0 where
  pub block : ℕ
  pub page : ℕ
  pub put : t block page ≡ Version update.extent number update.value
  pub others : (b p : ℕ) (e : Extent) (m : ℕ) (v : Sector) → t b p ≡ Version e m v → ((b ≡ block) × (p ≡ page)) ⊎ HasSomewhere f e m v

-- for each of so many attempts at most one erase was counted, and as many copies as a block has pages but one, modulo 2^64
pub record TalliesMoves (before now : Tally) (attempts pages : ℕ) : Type 0 where
  pub copies : ℕ
  pub erases : ℕ
  pub copied : now.copies % 2 ^ 64 ≡ (before.copies + copies) % 2 ^ 64
  pub erased : now.erases % 2 ^ 64 ≡ (before.erases + erases) % 2 ^ 64
  pub few : copies ≤ attempts * (pages - 1)
  pub one : erases ≤ attempts

-- one program was counted beside those
abbrev pub TalliesOnce : Tally → Tally → ℕ → ℕ → Type 0
TalliesOnce before now attempts pages = (now.programs ≡ (before.programs + 1) % 2 ^ 64) × TalliesMoves before now attempts pages

-- the call has programmed one page: where no block was marked, so that no command has failed, the update's, with the layer's next number. Beside
-- that program it has done at most one erase, and at most as many copies as a block has pages but one, and as many again for each block that was marked
abbrev pub ProgramsOnce : {N : Type 0} → (N → Flash) → (N → Shape) → (N → List Bool) → (N → Tally) → Durable N → Durable N → Update → Type 0
ProgramsOnce {N} flash shape bad tally old new update =
    (bad new.nand ≡ bad old.nand → AddsVersion (flash old.nand) (flash new.nand) (number_of old) update)
    × TalliesOnce (tally old.nand) (tally new.nand) (marked_blocks shape bad old new + 1) (shape old.nand).pages
