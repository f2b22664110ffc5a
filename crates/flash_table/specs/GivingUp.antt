-- What the view of a seat becomes when it gives up a block, or all of its blocks.
use Rattle.std.specs.Prelude.{[], ◌∷◌, ◌++◌, Option, None}
use Rattle.geometry.specs.declared.words.Phase.TheVariants.{Drained, Erasing, Retired}
use Rattle.flash_rule.specs.declared.view.View.{View}
use Rattle.flash_rule.specs.Views.{without}
use Rattle.flash_rule.specs.Ceded.{freed_as}
use Rattle.flash_table.specs.declared.pass.OpenBlock.{OpenBlock}
use Rattle.flash_table.specs.declared.broom_seat.ReclaimedBlock.{ReclaimedBlock}
use Rattle.flash_table.specs.declared.broom_seat.BroomBlocks.{BroomBlocks}
use Rattle.flash_table.specs.Owning.{closed_as, closed_list, reclaimed_as}

-- a broom closed this open block
abbrev pub left_closed : View → OpenBlock → View
left_closed v o = record v { owns = without o.block v.owns; work = None; ceded = v.ceded ++ closed_as o ∷ [] }

-- it drained this victim
abbrev pub left_drained : View → ReclaimedBlock → View
left_drained v o =
    record v {
      owns = without o.block v.owns;
      drains = v.drains ++ record { block = o.block; generation = o.generation } ∷ [];
      ceded = v.ceded ++ reclaimed_as Drained o ∷ [];
    }

-- the block that it erased is free in its next generation
abbrev pub left_free : View → ReclaimedBlock → View
left_free v o = record v { owns = without o.block v.owns; ceded = v.ceded ++ freed_as (reclaimed_as Erasing o) ∷ [] }

-- the block that it erased for the last time is retired
abbrev pub left_retired : View → ReclaimedBlock → View
left_retired v o = record v { owns = without o.block v.owns; ceded = v.ceded ++ reclaimed_as Retired o ∷ [] }

-- a pass closed the block that it had open, if there was one
abbrev pub closed_pass : View → Option OpenBlock → View
closed_pass v opened = record v { owns = []; work = None; ceded = v.ceded ++ closed_list opened }

-- a broom closed its destination and then its spare, if it had them
abbrev pub closed_broom : View → BroomBlocks → View
closed_broom v x = record v { owns = []; work = None; ceded = (v.ceded ++ closed_list x.destination) ++ closed_list x.spare }
