use Rattle.std.proofs.Common.{sym, subst}
use Rattle.durable.specs.Collecting.{IsNotOpen}
use Rattle.durable.proofs.memory.Core.spare_copy.Goals as goal

pub returns : goal.returns
returns c =
    let core = c.args.self.now in
    let found = c.in_ok-sector.ensures.found in (
      (
        c.requires.copies,
        found.0,
        found.1,
        (λ full. absurd (full c.requires.free)),
        (λ free. (
          subst (IsNotOpen core.next_pages) (sym found.2) c.in_ok-victim.ensures.0,
          c.in_ok-victim.ensures.1,
          c.in_ok-victim.ensures.2,
          c.in_ok-victim.ensures.3,
          c.requires.room,
        )),
      ),
      (λ e. cc e),
    )
