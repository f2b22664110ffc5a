use Rattle.std.proofs.Common.{sym, ap, ◌∙◌}
use Rattle.flash_table.specs.{Flash.broom_view, Flash.own_blocks, declared.broom_seat.BroomBlocks.BroomBlocks}
use Rattle.broom.proofs.Sparing.{stays_idle, no_block}
use Rattle.broom.proofs.folding.close_if_open.Goals as goal

pub returns-else-is_some-clause-closed : goal.returns-else-is_some-clause-closed
returns-else-is_some-clause-closed c =
    let s = c.args.seat.now in
    let none = no_block c.blocks-2.result.destination (sym c.is_some.ensures ∙ c.if-is_some.false) in
    stays_idle (broom_view s) (own_blocks s) c.requires.filed (sym (ap (λ (x : BroomBlocks). x.destination) c.blocks-2.ensures) ∙ none)
