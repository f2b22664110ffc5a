-- What a map, its readers and its publisher are.
use Rattle.std.specs.Prelude.{◌≡◌, ◌/◌, ℕ, List}
use Rattle.version_map.specs.declared.map.VersionMap.{VersionMap}
use Rattle.version_map.specs.declared.reader.{Publisher.Publisher, Reader.Reader}

-- how many sectors it has
abbrev pub map_sectors : VersionMap → ℕ
map_sectors m = m.shape.sectors

-- how many pages a word can name
abbrev pub map_pages : VersionMap → ℕ
map_pages m = m.shape.pages

-- each number that it can hold is below this
abbrev pub numbers_below : VersionMap → ℕ
numbers_below m = 18446744073709551615 / map_pages m

-- the changes that a reader has seen, the newest first
abbrev pub history_seen : Reader → List (ℕ × ℕ)
history_seen r = r.seat.me.0.seen

-- how many words it has loaded
abbrev pub looks_made : Reader → ℕ
looks_made r = r.seat.me.0.looks

-- the changes that were published, the newest first
abbrev pub history_published : Publisher → List (ℕ × ℕ)
history_published p = p.seat.me.0.seen

-- the reader is of this map
abbrev pub IsReaderOf : VersionMap → Reader → Type 0
IsReaderOf m r = (r.seat.table_id ≡ m.table.shared.table_id) × (r.seat.me.0.pages ≡ map_pages m)

-- the publisher is of this map
abbrev pub IsPublisherOf : VersionMap → Publisher → Type 0
IsPublisherOf m p = (p.seat.table_id ≡ m.table.shared.table_id) × (p.seat.me.0.pages ≡ map_pages m)
