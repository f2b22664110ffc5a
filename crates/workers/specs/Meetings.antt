-- The passes of workers, by their numbers, and what a meeting of all leaves unchanged.
use Rattle.std.specs.Prelude.{◌≡◌, ℕ, ◌<◌, List, map, length, slice_index_or}
use Rattle.std.specs.Arc.{arc_value}
use Rattle.geometry.specs.History.{Call}
use Rattle.flash_rule.specs.declared.facts.Name.TheVariants.{Pass as APass}
use Rattle.flash_rule.specs.declared.facts.Role.TheVariants.{Player}
use Rattle.flash_rule.specs.declared.view.View.{View}
use Rattle.flash_table.specs.declared.pass.Pass.{Pass}
use Rattle.flash_table.specs.Flash.{view_of, device, first_view}
use Rattle.trace.specs.declared.commands.Command.{Command}
use Rattle.rounds.specs.declared.answer_list.Answers.{Answers}
use Rattle.volume.specs.Closing.{HasLooked}
use Rattle.volume.specs.declared.volume.Volume.{Volume}
use Rattle.volume.specs.Volume.{flash_of}
use Rattle.rounds.specs.Rounds.{HaveMet}
use Rattle.workers.specs.declared.worker.Worker.{Worker}

-- the worker is one of this volume
abbrev pub IsAt : Volume → Worker → Type 0
IsAt volume p = arc_value p.volume ≡ volume

-- the passes of workers
abbrev pub passes_of : List Worker → List Pass
passes_of workers = map (λ p. p.pass) workers

-- what a worker has besides its pass
abbrev pub Rest : Type 0
Rest = Volume × List Command × List ℕ × Answers × List ℕ

-- a worker without its pass
abbrev pub rest_of : Worker → Rest
rest_of p = (arc_value p.volume, arc_value p.commands, p.places.items, p.answers, p.buffer.items)

-- what the passes know, by their numbers
abbrev pub views_of : Volume → List Pass → ℕ → View
views_of volume passes t = slice_index_or (map view_of passes) t (first_view (device (flash_of volume)) t)

-- each pass is at the index of its number
abbrev pub AreSeated : List Pass → Type 0
AreSeated passes = (t : ℕ) (p : Pass) → t < length passes → (view_of (slice_index_or passes t p)).role ≡ Player (APass t)

-- the passes have met: one history begins with all that each had seen, and each has now seen it. They have looked, and nothing else
pub record PassesMet (volume : Volume) (before after : List Pass) : Type 0 where
  pub long : length after ≡ length before
  pub history : List Call
  pub have_met : HaveMet (length before) history (views_of volume before) (views_of volume after)
  pub looked : (t : ℕ) → t < length before → HasLooked (views_of volume before t) (views_of volume after t)
