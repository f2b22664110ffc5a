use Rattle.std.proofs.Common.{◌≡◌, ℕ, List, ◌∷◌, ◌++◌, Some, length, take, drop, sym, ap, ◌∙◌, subst, slice_get, arith}
use Rattle.std.{proofs.Math.Seq.take-append_seam, specs.Vec.Iter.into_iter_items}
use Rattle.geometry.specs.{Geometry.hosts_of, History.Call}
use Rattle.flash_rule.specs.declared.view.View.{View}
use Rattle.flash_table.specs.{declared.pass.Pass.Pass, Flash.geometry_of, Flash.device, Flash.view_of, Flash.retired_view}
use Rattle.host.specs.Ready.{IsReady}
use Rattle.volume.specs.Closing.{array_of, AreAll, AreRead, AreFinal, HaveLooked}
use Rattle.volume.{specs.Volume.flash_of, proofs.Ends.has_left, proofs.FreshBrooms.taken}
use Rattle.volume.proofs.volume.Volume.close.Goals as goal
use Rattle.volume.proofs.volume.Volume.close.Goals.{After-gather, In-Some, After-retire-first}

-- the first of the passes as gathered
row : (c : In-Some) → c.gather.new.passes ≡ c.in-Some.first ∷ into_iter_items c.next.new.self
row c =
    let as_long = c.args.passes.ok.0 in
    let same : length c.deref_mut.result.now ≡ length c.args.passes.items = ap (length {A = Pass}) c.deref_mut.ensures.value in
    let kept = c.in-Ok.ensures.looked.long in
    let whole : c.args.passes.len ≡ length c.gather.new.passes = omega arith in
    sym (ap (λ n. take n (c.gather.new.passes ++ drop (length c.gather.new.passes) c.args.passes.items)) whole
    ∙ take-append_seam c.gather.new.passes (drop (length c.gather.new.passes) c.args.passes.items))
    ∙ (sym c.into_iter-passes.ensures.rest ∙ c.in-Some.ensures.cases.0)

-- what a write of all of a list leaves of it
back_is : (l back : List Pass) (n : ℕ) → n ≡ length back → take n (back ++ drop (length back) l) ≡ back
back_is l back n whole = ap (λ k. take k (back ++ drop (length back) l)) whole ∙ take-append_seam back (drop (length back) l)

-- the passes that are handed back
handed : (c : After-gather) → take c.args.passes.len (c.gather.new.passes ++ drop (length c.gather.new.passes) c.args.passes.items) ≡ c.gather.new.passes
handed c =
    let same = ap (length {A = Pass}) c.deref_mut.ensures.value in
    back_is c.args.passes.items c.gather.new.passes c.args.passes.len (c.args.passes.ok.0 ∙ (sym same ∙ sym c.gather.ensures.looked.long))

pub returns-in_default-clause-looked : goal.returns-in_default-clause-looked
returns-in_default-clause-looked c =
    let back = handed (goal.at.returns-in_default-clause-looked c).After-gather in
    subst (λ (x : List Pass × List Pass). HaveLooked x.0 x.1) (λ i. (c.deref_mut.ensures.value i, sym back i)) c.gather.ensures.looked

pub retire-first-requires : goal.retire-first-requires
retire-first-requires c =
    (taken (IsReady (flash_of c.args.self)) c.in-Some.first (into_iter_items c.next.new.self) c.gather.new.passes
    (row (goal.at.retire-first-requires c).In-Some) c.gather.ensures.passes).0

pub retire_all-requires : goal.retire_all-requires
retire_all-requires c = (taken (IsReady (flash_of c.args.self)) c.in-Some.first (into_iter_items c.next.new.self) c.gather.new.passes
    (row (goal.at.retire_all-requires c).In-Some) c.gather.ensures.passes).1

-- what it has seen stays as it is given up
seen_is : (c : After-retire-first) → (view_of c.in-Some.first).seen ≡ (retired_view c.retire-first.result).seen
seen_is c = ap (λ (v : View). v.seen) (sym c.retire-first.ensures)

first_is : (c : In-Some) → slice_get c.gather.new.passes 0 ≡ Some c.in-Some.first
first_is c = ap (λ (l : List Pass). slice_get l 0) (row c)

pub returns-clause-read : goal.returns-clause-read
returns-clause-read c =
    let f = flash_of c.args.self in
    let at = (goal.at.returns-clause-read c).After-retire-first in
    let told = c.in-Ok.ensures.read c.in-Some.first (first_is (goal.at.After-retire-first at).In-Some) in
    subst (λ (x : List Pass × List Call). AreRead (device f) x.0 x.1 (array_of c.in-Ok.sectors.items)) (λ i. (c.deref_mut.ensures.value i, seen_is at i)) told

pub returns-clause-one_history : goal.returns-clause-one_history
returns-clause-one_history c =
    let f = flash_of c.args.self in
    let at = (goal.at.returns-clause-one_history c).After-retire-first in
    let told = c.in-Ok.ensures.one_history c.in-Some.first (first_is (goal.at.After-retire-first at).In-Some) in
    subst (λ (x : List Pass × List Call). AreAll (hosts_of (geometry_of f)) x.0 → AreFinal (device f) x.0 x.1 (array_of c.in-Ok.sectors.items))
    (λ i. (c.deref_mut.ensures.value i, seen_is at i)) told

pub returns-clause-first : goal.returns-clause-first
returns-clause-first c p is =
    let at = (goal.at.returns-clause-first c).After-retire-first in
    let now = first_is (goal.at.After-retire-first at).In-Some in
    let old = ap (λ (l : List Pass). slice_get l 0) c.deref_mut.ensures.value ∙ is in
    has_left (view_of p) (view_of c.in-Some.first) (retired_view c.retire-first.result) c.in-Some.first.opened c.in-Some.first.owns
    (c.in-Ok.ensures.looked.each 0 p c.in-Some.first old now) c.retire-first.ensures
