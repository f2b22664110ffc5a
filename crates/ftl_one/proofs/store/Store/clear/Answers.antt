use Rattle.std.proofs.Common.{◌∙◌, ◌<◌, length, sym, arith}
use Rattle.ftl_one.{specs.Store.entries_of, proofs.Stores.length-entries_of}
use Rattle.ftl_one.proofs.Clearing.{ClearedTo-dead, ClearedTo-live, ClearedTo-room, ClearedTo-all}
use Rattle.ftl_one.proofs.store.Store.clear.Goals as goal
use Rattle.ftl_one.proofs.store.Store.clear.Goals.{then-is_live, else-is_live}

pub is_live-requires-clause-page : goal.is_live-requires-clause-page
is_live-requires-clause-page c = omega (arith, c.loop-page.invariant.size, c.next-page-end.ensures.value, length-entries_of c.args.self.now c.args.victim)

pub relocate-requires-clause-room : goal.relocate-requires-clause-room
relocate-requires-clause-room c =
    ClearedTo-room c.args.self.now c.loop-page.self c.args.victim c.args.spare c.loop-page.page c.loop-page.copies c.loop-page.invariant
    (omega (arith, c.next-page-end.ensures.value, length-entries_of c.args.self.now c.args.victim))
    (sym c.is_live.ensures ∙ c.if-is_live.true) c.requires.room

pub loop-page-preserved : goal.loop-page-preserved
loop-page-preserved c =
    let low : c.loop-page.page < length (entries_of c.args.self.now c.args.victim) =
    omega (arith, c.next-page-end.ensures.value, length-entries_of c.args.self.now c.args.victim) in
    elim c.if-is_live.branch [
      | then-is_live w ↦
          rw (w.self-is, w.copies-is)
          (ClearedTo-live c.args.self.now c.loop-page.self w.relocate.new.self c.args.victim c.args.spare c.loop-page.page c.loop-page.copies
          c.loop-page.invariant low c.requires.victim (sym c.is_live.ensures ∙ w.if-is_live.true) w.relocate.ensures)
      | else-is_live w ↦
          rw (w.self-is, w.copies-is)
          (ClearedTo-dead c.args.self.now c.loop-page.self c.args.victim c.args.spare c.loop-page.page c.loop-page.copies c.loop-page.invariant low
          (sym c.is_live.ensures ∙ w.if-is_live.false))
    ]

pub returns-clause-copies : goal.returns-clause-copies
returns-clause-copies c =
    (ClearedTo-all c.args.self.now c.loop-page.self c.args.victim c.args.spare c.loop-page.page c.loop-page.copies c.loop-page.invariant
    (omega (arith, c.next-page-end.ensures.value, length-entries_of c.args.self.now c.args.victim))).0

pub returns-clause-clears : goal.returns-clause-clears
returns-clause-clears c =
    (ClearedTo-all c.args.self.now c.loop-page.self c.args.victim c.args.spare c.loop-page.page c.loop-page.copies c.loop-page.invariant
    (omega (arith, c.next-page-end.ensures.value, length-entries_of c.args.self.now c.args.victim))).1
