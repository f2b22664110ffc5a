use Rattle.std.proofs.{Common.◌≡◌, Common.None, Common.Some, lemmas.List.Elements.All-pop}
use Rattle.broom.specs.{declared.broom.Broom.Broom, Handing.aside_of, Ready.IsReady}
use Rattle.volume.proofs.opening.fold_all.Goals as goal

pub fold_new-requires-clause-ready : goal.fold_new-requires-clause-ready
fold_new-requires-clause-ready c =
    let Ends : Broom → Type 0 = λ b. IsReady c.args.flash.now b × (aside_of b ≡ None) in
    (All-pop Ends c.loop-broom.brooms.items c.pop.new.self.items (Some c.in-Some.broom) c.in-Some.ensures.items c.loop-broom.invariant).1.0

pub fold_new-requires-clause-aside : goal.fold_new-requires-clause-aside
fold_new-requires-clause-aside c =
    let Ends : Broom → Type 0 = λ b. IsReady c.args.flash.now b × (aside_of b ≡ None) in
    (All-pop Ends c.loop-broom.brooms.items c.pop.new.self.items (Some c.in-Some.broom) c.in-Some.ensures.items c.loop-broom.invariant).1.1

pub loop-broom-preserved : goal.loop-broom-preserved
loop-broom-preserved c =
    let Ends : Broom → Type 0 = λ b. IsReady c.args.flash.now b × (aside_of b ≡ None) in
    (All-pop Ends c.loop-broom.brooms.items c.pop.new.self.items (Some c.in-Some.broom) c.in-Some.ensures.items c.loop-broom.invariant).0
