-- What an owner has published, told as the changes that updates are to readers.
use Rattle.std.specs.Prelude.{◌≡◌, ℕ, List, [], ◌∷◌, ◌++◌}
use Rattle.geometry.specs.Sectors.{Sector}
use Rattle.durable.specs.Updates.{Update, array_after}
use Rattle.shared_nand.specs.Shown.{ShowsArray, value_numbered}
use Rattle.kept_reads.specs.Sessions.{changes_in}

-- the changes of a history, where each number has these bytes
abbrev pub changes_shown : (ℕ → List ℕ) → List (ℕ × ℕ) → List (ℕ × Sector)
changes_shown bytes [] = []
changes_shown bytes (change ∷ earlier) = (change.0, value_numbered bytes change.1) ∷ changes_shown bytes earlier

-- the owner has published what is made: at the open the array, and since then each change, in order
pub record Publishes (sectors : ℕ) (bytes : ℕ → List ℕ) (loaded history : List (ℕ × ℕ)) (made : List Update) : Type 0 where
  pub opened : List Update
  pub array : ShowsArray sectors bytes loaded (array_after opened)
  pub since : List (ℕ × ℕ)
  pub both : history ≡ since ++ loaded
  pub all : changes_in made ≡ changes_shown bytes since ++ changes_in opened
