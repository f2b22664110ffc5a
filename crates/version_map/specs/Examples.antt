-- Two seats of a map with ten pages to a number, for its laws.
use Rattle.std.specs.Prelude.{ℕ, List, [], true, false}
use Rattle.version_map.specs.declared.sighting.Sighting.{Sighting}

-- one that publishes, and has published these changes
abbrev pub publisher : List (ℕ × ℕ) → Sighting
publisher history = record { seen = history; told = []; looks = 0; publishes = true; pages = 10 }

-- one that has seen these changes
abbrev pub onlooker : List (ℕ × ℕ) → Sighting
onlooker history = record { seen = history; told = []; looks = 0; publishes = false; pages = 10 }
