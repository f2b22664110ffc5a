use Rattle.std.proofs.Common.{List, Option, Some, set, ◌∙◌, ap, arith}
use Rattle.durable.specs.declared.found.Candidate.{Candidate}
use Rattle.durable.specs.Candidates.{Candidates, candidates_of}
use Rattle.durable.proofs.Founds.{found_length, candidates_set}
use Rattle.durable.proofs.found.Found.set.Goals as goal

pub set-requires-clause-sector : goal.set-requires-clause-sector
set-requires-clause-sector c =
    let f = c.self.inside in
    let view = ap (λ (v : Candidates). v.items) c.self.view_is in
    let size = found_length f.pages.items f.numbers f.twins.items c.args.self.now.items view c.self.invariant.numbered c.self.invariant.twinned in
    omega (arith, c.requires.sector, size)

pub set-requires-2 : goal.set-requires-2
set-requires-2 c =
    let f = c.self.inside in
    let view = ap (λ (v : Candidates). v.items) c.self.view_is in
    let size = found_length f.pages.items f.numbers f.twins.items c.args.self.now.items view c.self.invariant.numbered c.self.invariant.twinned in
    omega (arith, c.requires.sector, size, c.self.invariant.numbered)

pub set-requires-3-clause-sector : goal.set-requires-3-clause-sector
set-requires-3-clause-sector c =
    let f = c.self.inside in
    let view = ap (λ (v : Candidates). v.items) c.self.view_is in
    let size = found_length f.pages.items f.numbers f.twins.items c.args.self.now.items view c.self.invariant.numbered c.self.invariant.twinned in
    omega (arith, c.requires.sector, size, c.self.invariant.twinned)

pub returns : goal.returns
returns c =
    let f = c.self.inside in
    let view = ap (λ (v : Candidates). v.items) c.self.view_is in
    (λ i. candidates_of (c.set.ensures i) (c.set-2.ensures i) (c.set-3.ensures i))
    ∙ candidates_set f.pages.items f.numbers f.twins.items c.args.sector c.args.version c.self.invariant.numbered c.self.invariant.twinned
    ∙ ap (λ (xs : List (Option Candidate)). set xs c.args.sector (Some c.args.version)) view
