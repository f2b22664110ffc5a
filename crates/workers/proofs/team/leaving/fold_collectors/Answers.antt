use Rattle.std.proofs.Common.{◌≡◌, List, [], ◌∷◌, length, sym, ap, ◌∙◌, subst, append-nil, append_assoc, arith}
use Rattle.std.proofs.lemmas.List.{nil_from_length}
use Rattle.workers.specs.{declared.collector.Collector.Collector, declared.collector.collector_end.CollectorEnd.CollectorEnd, Served.HasFolded}
use Rattle.workers.specs.Served.{HaveFolded}
use Rattle.workers.proofs.team.leaving.fold_collectors.Goals as goal

pub loop-collector-preserved : goal.loop-collector-preserved
loop-collector-preserved g c = record {
  folded = λ rest folded.
      let back : List CollectorEnd = c.fold.result ∷ rest in
      let one : HasFolded c.in-Some.collector c.fold.result =
      record { tally = c.fold.ensures.tally; view = c.fold.ensures.view; place = c.fold.ensures.place } in
      let more : HaveFolded c.loop-collector.collectors.items back =
      subst (λ (xs : List Collector). HaveFolded xs back) (sym c.in-Some.ensures.items) (one, folded) in
      rw (c.push_reserved.ensures.items, append_assoc) (c.loop-collector.invariant.folded back more);
  room =
      (let fewer = ap (length {A = Collector}) c.in-Some.ensures.items in
      let room = c.loop-collector.invariant.room in
      let long = c.push_reserved.ensures.len in
      let kept = c.push_reserved.ensures.capacity in omega arith);
}

pub returns : goal.returns
returns g c =
    let none : c.loop-collector.collectors.items ≡ [] =
    nil_from_length c.loop-collector.collectors.items (sym c.loop-collector.collectors.ok.0 ∙ c.in_default.ensures.cases.0) in
    let rest : HaveFolded c.loop-collector.collectors.items [] = subst (λ (xs : List Collector). HaveFolded xs []) (sym none) tt in
    subst (HaveFolded c.args.collectors.items) (append-nil c.loop-collector.ends.items) (c.loop-collector.invariant.folded [] rest)
