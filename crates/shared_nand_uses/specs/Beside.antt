-- What a read beside a write has read.
use Rattle.std.specs.Prelude.{ℕ, List, Option}
use Rattle.version_map.specs.History.{Continues}
use Rattle.shared_nand.specs.Reads.{ReadsValue}
use Rattle.shared_nand.specs.Shown.{sector_shown}

-- what the sector holds after a beginning of all that was written, which goes on from what its reader had seen
pub record ReadsWithin {T : Type 0} (bytes : ℕ → List ℕ) (written seen : List (ℕ × ℕ)) (s : ℕ) (found : Option T) (out : List ℕ) : Type 0 where
  pub history : List (ℕ × ℕ)
  pub part : Continues written history
  pub later : Continues history seen
  pub reads : ReadsValue (sector_shown bytes history s) found out
