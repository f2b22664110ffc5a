use Rattle.std.proofs.Common.{◌≡◌, ℕ, Some, List}
use Rattle.flash_table.specs.{Flash.broom_view, Flash.own_blocks, declared.pass.OpenBlock.OpenBlock}
use Rattle.broom.proofs.Copying.{Filling}
use Rattle.broom.proofs.relocation.copy_page.Given as goal

-- whichever value the source has, its words so far stand in the copy
abbrev pub invariant-loop-i : goal.invariant-loop-i
invariant-loop-i l =
    (o : OpenBlock) → (own_blocks l.fn.seat).destination ≡ Some o → (value : List ℕ)
    → (broom_view l.fn.seat).source ≡ Some (record { page = l.page; stamp = l.sector; value = Some value })
    → Filling l.flash (broom_view l.fn.seat) (own_blocks l.fn.seat) o value l.i l.seat
