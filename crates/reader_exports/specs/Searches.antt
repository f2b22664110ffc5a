-- What a search has found.
use Rattle.std.specs.Prelude.{◌<◌, IfSome}
use Rattle.shared_nand.specs.Search.{NamesVersion}
use Rattle.shared_nand.specs.declared.search.Search.{Search}
use Rattle.version_map.specs.Map.{map_sectors, history_seen}
use Rattle.version_map.specs.declared.map.VersionMap.{VersionMap}
use Rattle.version_map.specs.declared.reader.Reader.{Reader}

-- what a search has found last is the version that its sector has after what the reader has seen
abbrev pub IsSoughtIn : VersionMap → Reader → Search → Type 0
IsSoughtIn m r search = IfSome search.found (λ place. (search.sector < map_sectors m) × NamesVersion place (history_seen r) search.sector)
