use Rattle.std.proofs.Common.{◌≡◌, ◌≤◌, ℕ, List}
use Rattle.geometry.specs.Sectors.{Sector}
use Rattle.version_map.specs.History.{version_after}
use Rattle.version_map.specs.Map.{history_published, IsPublisherOf}
use Rattle.shared_nand.specs.Shown.{ShowsArray}
use Rattle.shared_nand.proofs.owner.Owner.load.Given as goal

abbrev pub invariant-loop-sector : goal.invariant-loop-sector
invariant-loop-sector g l =
    IsPublisherOf l.map l.self.publisher
    × ((array : ℕ → Sector) → g.L.Layer.holds l.initial.self.layer array → g.L.Layer.holds l.self.layer array)
    × ((array : ℕ → Sector) → g.L.Layer.holds l.initial.self.layer array
    → ShowsArray l.sector (g.L.Layer.bytes_of l.self.layer) (history_published l.self.publisher) array)
    × ((s : ℕ) → l.sector ≤ s → version_after (history_published l.self.publisher) s ≡ 0)
    × (g.L.Layer.bytes_of l.self.layer ≡ g.L.Layer.bytes_of l.initial.self.layer)
    × (g.L.Layer.next_number l.self.layer ≡ g.L.Layer.next_number l.initial.self.layer)
    × (g.L.Layer.pages l.self.layer ≡ g.L.Layer.pages l.initial.self.layer)
    × (g.L.Layer.page_bytes l.self.layer ≡ g.L.Layer.page_bytes l.initial.self.layer)
    × ((token : g.row.L-Token.Denot) (n : ℕ) (bytes : List ℕ) → g.L.Layer.tells l.initial.self.layer token n bytes
    → g.L.Layer.tells l.self.layer token n bytes)
