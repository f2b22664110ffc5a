use Rattle.std.proofs.Common.{◌≡◌, ◌-◌}
use Rattle.flash_rule.specs.Views.{sum_of}
use Rattle.flash_table.specs.Flash.{IsPassOf, device, view_of, opened_of}
use Rattle.host.proofs.ReadingSearch.{IsSearching, most_known}
use Rattle.host.proofs.searching.search.Given as goal

abbrev pub invariant-loop-page : goal.invariant-loop-page
invariant-loop-page g l = record {
  search : IsSearching (view_of l.initial.pass) l.tries (view_of l.pass);
  pass : IsPassOf l.flash l.pass;
  opened : opened_of l.pass ≡ opened_of l.initial.pass;
}

-- how much older the blocks may still be found
abbrev pub decreases-loop-page : goal.decreases-loop-page
decreases-loop-page g l = most_known (device l.flash) - sum_of (view_of l.pass).known
