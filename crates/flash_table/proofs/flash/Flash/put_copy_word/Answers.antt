use Rattle.flash_table.proofs.{Permissions.of_broom}
use Rattle.std.proofs.Common.{arith}
use Rattle.flash_table.specs.{Owning.owned_of}
use Rattle.flash_table.proofs.{PassSteps.put_here, PassSteps.put_fits, PassSteps.put_place}
use Rattle.flash_table.proofs.flash.Flash.put_copy_word.Goals as goal

pub overflow_add-place : goal.overflow_add-place
overflow_add-place c =
    let t = c.requires.next in
    let fits = put_fits (of_broom c.requires.broom) (owned_of t.0) (c.requires.start t.0 t.1) t.3 t.2 t.4 in omega arith

pub store-requires : goal.store-requires
store-requires c =
    let t = c.requires.next in
    let seat = of_broom c.requires.broom in
    put_here seat (owned_of t.0) c.args.word t.4 (put_place seat (owned_of t.0) (c.requires.start t.0 t.1) t.3) t.2
