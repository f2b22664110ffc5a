-- What the steps ask for, from what a map is.
use Rattle.std.proofs.Common.{◌≡◌, ℕ, ◌<◌, ◌∙◌, sym, ap, subst}
use Rattle.version_map.specs.Map.{map_sectors, map_pages}
use Rattle.version_map.specs.declared.map.VersionMap.{VersionMap}
use Rattle.version_map.specs.declared.shape.MapShape.{MapShape}

pub pages_of_key : (m : VersionMap) (p : ℕ) → p ≡ map_pages m → p ≡ m.table.shared.key.pages
pages_of_key m p is = is ∙ ap (λ (shape : MapShape). shape.pages) (sym m.key)

pub sector_of_key : (m : VersionMap) (s : ℕ) → s < map_sectors m → s < m.table.shared.key.sectors
sector_of_key m s low = subst (λ (shape : MapShape). s < shape.sectors) (sym m.key) low

pub has_word : (m : VersionMap) (s : ℕ) → s < map_sectors m → s < m.table.shared.table_id.words
has_word m s low = subst (λ n. s < n) (sym m.size) low
