use Rattle.std.proofs.Common.{◌≡◌, ℕ, ◌<◌, ◌^◌, List, Some, get_or}
use Rattle.geometry.specs.Words.{word_of}
use Rattle.flash_rule.specs.{declared.carried.Carried.Carried, Plays.Spared, World.data_word}
use Rattle.flash_table.specs.Flash.{IsPassOf, view_of, opened_of}
use Rattle.host.specs.Ready.{IsPinned}
use Rattle.host.proofs.searching.read_page.Given as goal

-- the words below i are the value's
abbrev pub invariant-loop-i : goal.invariant-loop-i
invariant-loop-i l = record {
  pass : IsPassOf l.flash l.pass;
  same : view_of l.pass ≡ view_of l.initial.pass;
  opened : opened_of l.pass ≡ opened_of l.initial.pass;
  bytes : (k : ℕ) → get_or l.out k 0 < 2 ^ 8;
  words : (value : List ℕ) → IsPinned l.flash l.initial.pass l.page value → (k : ℕ) → k < l.i → word_of l.out k ≡ data_word value k;
  spared : 0 < l.i → (value : List ℕ) (c : Carried) → IsPinned l.flash l.initial.pass l.page value → (view_of l.initial.pass).copy ≡ Some c
      → Spared (view_of l.initial.pass) l.page c;
}
