use Rattle.std.proofs.Common.{ap, arith}
use Rattle.durable.specs.Candidates.{Candidates}
use Rattle.durable.proofs.Founds.{found_length, forgets}
use Rattle.durable.proofs.found.Found.forget_trims.Goals as goal

pub keep_valued-requires : goal.keep_valued-requires
keep_valued-requires c =
    let f = c.self.inside in
    let view = ap (λ (v : Candidates). v.items) c.self.view_is in
    let size = found_length f.pages.items f.numbers f.twins.items c.args.self.now.items view c.self.invariant.numbered c.self.invariant.twinned in
    omega (arith, c.requires, size)

pub returns : goal.returns
returns c =
    let f = c.self.inside in
    let view = ap (λ (v : Candidates). v.items) c.self.view_is in
    forgets c.args.valued.now f.pages.items c.keep_valued.new.map.items f.numbers f.twins.items c.args.self.now.items view c.self.invariant.numbered
    c.self.invariant.twinned c.keep_valued.ensures.size c.keep_valued.ensures.entries
