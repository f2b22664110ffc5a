use Rattle.durable.proofs.Begun.{nothing_found, nothing_counted, nothing_own, nothing_preferred}
use Rattle.durable.proofs.Kept.{none_told}
use Rattle.std.proofs.Common.{rules, ◌≡◌, ◌+◌, ◌/◌, ℕ, List, length, replicate, sym, subst}
use Rattle.durable.specs.Mounting.{TellsValues}
use Rattle.durable.proofs.mount.Mount.begin_over.Goals as goal

pub returns-clause-notes : goal.returns-clause-notes
returns-clause-notes c f =
    let found = c.in-Ok.found.items in
    let words : c.in-Ok-vec.valued.items ≡ replicate (c.args.sectors / 64 + 1) 0 = search rules in
    let gaps : c.in-Ok-vec-2.gaps.items ≡ replicate c.args.read_blocks 0 = search rules in
    record {
      finds = nothing_found f c.args.pages found _ c.in-Ok.ensures;
      own = nothing_own f c.args.pages (length found);
      values = subst (λ (v : List ℕ). TellsValues f c.args.pages 0 0 (length found) v) (sym words)
          (none_told f c.args.pages (length found) _);
      counts = nothing_counted f c.args.pages c.in-Ok-vec-2.gaps.items _ gaps;
      prefers = nothing_preferred f c.args.pages c.in-Ok-vec-2.gaps.items found _ c.in-Ok.ensures;
    }
