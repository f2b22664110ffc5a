use Rattle.flash_rule.specs.declared.view.View.{View}
use Rattle.broom.specs.Ready.{view_of_broom, folded_view}
use Rattle.volume.proofs.ArrayLeft.{given_up}
use Rattle.std.proofs.Common.{ap}
use Rattle.volume.proofs.volume.Volume.fold.Goals as goal

pub returns-clause-array : goal.returns-clause-array
returns-clause-array g c =
    let is = c.fold.ensures.view in
    given_up (view_of_broom c.args.broom) (folded_view c.fold.result) (ap (λ (x : View). x.seen) is) (ap (λ (x : View). x.mine) is)
    (ap (λ (x : View). x.numbers) is) c.requires.ready.rested.callers
