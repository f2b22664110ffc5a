use Rattle.std.proofs.Common.{◌≡◌, ℕ, ◌+◌, ◌<◌, ◌≤◌, length, get_or}
use Rattle.victims.proofs.victims.Victims.new.Given as goal

abbrev pub invariant-loop-block : goal.invariant-loop-block
invariant-loop-block l = record {
  same : length l.queue.keys.items ≡ length l.kept.items;
  buckets : length l.queue.starts.items ≡ l.pages + 2;
  done : (b : ℕ) → b < l.block → get_or l.queue.keys.items b 0 ≡ get_or l.kept.items b 0 + 1;
  ahead : (b : ℕ) → l.block ≤ b → get_or l.queue.keys.items b 0 ≡ 0;
}
