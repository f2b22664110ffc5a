use Rattle.std.proofs.Common.{◌≡◌, sym, subst, arith}
use Rattle.std.specs.Prelude.{slice_index, slice_index_or}
use Rattle.broom.specs.Told.{counts_kept}
use Rattle.broom.proofs.DeadBlocks.{dead_told}
use Rattle.broom.proofs.dead.drain_dead.Goals as goal

pub returns-clause-drained_dead : goal.returns-clause-drained_dead
returns-clause-drained_dead g c =
    let least : c.index.result.now ≡ 0 = omega arith in
    let none : slice_index (counts_kept c.choose.new.broom) c.in-Some.block ≡ 0 =
    sym (subst (λ d. d ≡ slice_index_or (counts_kept c.choose.new.broom) c.in-Some.block d) least c.index.ensures) in
    dead_told c.args.broom.now c.choose.new.broom c.drain_inspected.new.broom c.in-Some.block c.drain_inspected.result
    (record { chosen = c.in-Some.ensures.chosen; blocks = c.choose.ensures.blocks }) none c.drain_inspected.ensures.inspected c.drain_inspected.ensures.marks
