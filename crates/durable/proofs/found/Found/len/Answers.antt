use Rattle.std.proofs.Common.{sym, ◌∙◌, ap}
use Rattle.durable.specs.Candidates.{Candidates}
use Rattle.durable.proofs.Founds.{found_length}
use Rattle.durable.proofs.found.Found.len.Goals as goal

pub returns : goal.returns
returns c =
    let f = c.self.inside in
    let view = ap (λ (v : Candidates). v.items) c.self.view_is in
    c.len.ensures ∙ sym (found_length f.pages.items f.numbers f.twins.items c.args.self.now.items view c.self.invariant.numbered c.self.invariant.twinned)
