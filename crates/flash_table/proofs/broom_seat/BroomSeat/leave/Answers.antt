use Rattle.flash_table.specs.Flash.{broom_view, own_blocks}
use Rattle.flash_table.proofs.Blocks.{owns_nothing}
use Rattle.flash_table.proofs.broom_seat.BroomSeat.leave.Goals as goal

pub returns-clause-nothing : goal.returns-clause-nothing
returns-clause-nothing c =
    owns_nothing (own_blocks c.args.self) (broom_view c.args.self).owns c.args.self.owns c.requires.destination c.requires.spare c.requires.reclaiming
