use Rattle.std.proofs.Common.{ℕ, Option, None, Some, get_or, sym, ◌∙◌, ap, ap₂, arith}
use Rattle.geometry.specs.declared.page_addr.PageAddr.{PageAddr}
use Rattle.durable.specs.Candidates.{Candidates, candidate_of}
use Rattle.durable.proofs.Founds.{found_length, found_get}
use Rattle.durable.proofs.found.Found.get.Goals as goal

pub get-requires : goal.get-requires
get-requires c =
    let f = c.self.inside in
    let view = ap (λ (v : Candidates). v.items) c.self.view_is in
    omega (
      arith,
      c.requires,
      found_length f.pages.items f.numbers f.twins.items c.args.self.now.items view c.self.invariant.numbered c.self.invariant.twinned,
    )

pub returns-in-None-clause-version : goal.returns-in-None-clause-version
returns-in-None-clause-version c =
    let f = c.self.inside in
    let view = ap (λ (v : Candidates). v.items) c.self.view_is in
    let s = c.args.sector in
    sym (found_get f.pages.items f.numbers f.twins.items c.args.self.now.items view c.self.invariant.numbered c.self.invariant.twinned s c.requires
    ∙ ap (λ (p : Option PageAddr). candidate_of p (get_or f.numbers s 0) (get_or f.twins.items s None)) (sym c.get.ensures.entry ∙ c.in-None.is))

pub returns-in-Some-clause-version : goal.returns-in-Some-clause-version
returns-in-Some-clause-version c =
    let f = c.self.inside in
    let view = ap (λ (v : Candidates). v.items) c.self.view_is in
    let s = c.args.sector in
    let at = c.in-Some.at in
    sym (found_get f.pages.items f.numbers f.twins.items c.args.self.now.items view c.self.invariant.numbered c.self.invariant.twinned s c.requires
    ∙ ap (λ (p : Option PageAddr). candidate_of p (get_or f.numbers s 0) (get_or f.twins.items s None)) (sym c.get.ensures.entry ∙ c.in-Some.is)
    ∙ ap₂ (λ (n : ℕ) (t : Option PageAddr). candidate_of (Some at) n t) (sym c.get-in-Some.ensures) (sym c.get-in-Some-2.ensures.entry))
