use Rattle.std.proofs.Common.{All, List, ◌∷◌, sym, refl, subst}
use Rattle.std.proofs.lemmas.List.Elements.{All-rest}
use Rattle.geometry.specs.Geometry.{sectors_of, hosts_of}
use Rattle.flash_rule.proofs.Owning.{some_same}
use Rattle.flash_table.specs.{declared.pass.Pass.Pass, Flash.geometry_of, Flash.device, Flash.view_of}
use Rattle.host.specs.Ready.{IsReady}
use Rattle.volume.specs.Closing.{array_of, AreAll, AreRead, AreFinal, HaveLooked}
use Rattle.volume.proofs.Ends.{looked_between, looked_after, are_read, are_final}
use Rattle.volume.proofs.closing.gather.Goals as goal
use Rattle.volume.proofs.closing.gather.Goals.{After-meet_each-2}

pub returns-in_err-sectors-clause-looked : goal.returns-in_err-sectors-clause-looked
returns-in_err-sectors-clause-looked c =
    let h = looked_between c.args.flash.now c.in-Some.first.now c.meet_each.new.first c.read_all.new.pass c.in-Some.others.now c.meet_each.new.others
    c.meet_each.ensures.met_each c.read_all.ensures.looked in
    subst (λ (l : List Pass). HaveLooked l (c.read_all.new.pass ∷ c.meet_each.new.others)) (sym c.in-Some.ensures.cases.0) h

-- the other passes, ready before and after
others_ready : (c : After-meet_each-2) → All (IsReady c.args.flash.now) c.in-Some.others.now
others_ready c = All-rest (IsReady c.args.flash.now) c.in-Some.first.now c.in-Some.others.now c.args.passes.now c.in-Some.ensures.cases.0 c.requires.passes

pub returns-clause-read : goal.returns-clause-read
returns-clause-read c q is =
    let f = c.args.flash.now in
    let told = c.in_ok-sectors.ensures in
    let values = array_of c.in_ok-sectors.sectors.items in
    let others = others_ready (goal.at.returns-clause-read c).After-meet_each-2 in
    let h = are_read f c.in-Some.first.now c.meet_each.new.first c.read_all.new.pass c.in-Some.others.now c.meet_each.new.others
    c.meet_each.ensures.met_each told.looked (sectors_of (geometry_of f)) values told.read c.meet_each-2.new.first c.meet_each-2.new.others
    c.meet_each-2.ensures.met_each c.meet_each-2.ensures.first others c.meet_each-2.ensures.others refl told.long in
    subst (λ (x : List Pass × Pass). AreRead (device f) x.0 (view_of x.1).seen values)
    (λ i. (sym c.in-Some.ensures.cases.0 i, some_same c.meet_each-2.new.first q is i)) h

pub returns-clause-one_history : goal.returns-clause-one_history
returns-clause-one_history c q is =
    let f = c.args.flash.now in
    let told = c.in_ok-sectors.ensures in
    let values = array_of c.in_ok-sectors.sectors.items in
    let others = others_ready (goal.at.returns-clause-one_history c).After-meet_each-2 in
    let h = are_final f c.in-Some.first.now c.meet_each.new.first c.read_all.new.pass c.in-Some.others.now c.meet_each.new.others
    c.meet_each.ensures.met_each told.looked (sectors_of (geometry_of f)) values told.read c.meet_each-2.new.first c.meet_each-2.new.others
    c.meet_each-2.ensures.met_each c.meet_each-2.ensures.first others c.meet_each-2.ensures.others refl told.long in
    subst (λ (x : List Pass × Pass). AreAll (hosts_of (geometry_of f)) x.0 → AreFinal (device f) x.0 (view_of x.1).seen values)
    (λ i. (sym c.in-Some.ensures.cases.0 i, some_same c.meet_each-2.new.first q is i)) h

pub returns-clause-looked : goal.returns-clause-looked
returns-clause-looked c =
    let h = looked_after c.in-Some.first.now c.meet_each.new.first c.read_all.new.pass c.meet_each-2.new.first c.in-Some.others.now
    c.meet_each.new.others c.meet_each-2.new.others c.meet_each.ensures.met_each c.in_ok-sectors.ensures.looked c.meet_each-2.ensures.met_each in
    subst (λ (l : List Pass). HaveLooked l (c.meet_each-2.new.first ∷ c.meet_each-2.new.others)) (sym c.in-Some.ensures.cases.0) h
