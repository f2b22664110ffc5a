use Rattle.std.proofs.Common.{Option, None, get_or, sym, ◌∙◌, ap, subst, arith}
use Rattle.durable.specs.declared.found.Candidate.{Candidate}
use Rattle.durable.specs.Candidates.{Candidates, candidate_of, IsEntryOf}
use Rattle.durable.proofs.Founds.{found_length, found_get, outside_entry, outside_away, outside_stays}
use Rattle.durable.proofs.Frees.{avoided_free}
use Rattle.durable.proofs.found.Found.into_map.Goals as goal

pub returns-clause-size : goal.returns-clause-size
returns-clause-size c =
    let f = c.self.inside in
    let view = ap (λ (v : Candidates). v.items) c.self.view_is in
    c.move_out.ensures.size
    ∙ sym (found_length f.pages.items f.numbers f.twins.items c.args.self.items view c.self.invariant.numbered c.self.invariant.twinned)

pub returns-clause-entries : goal.returns-clause-entries
returns-clause-entries c s lt =
    let f = c.self.inside in
    let view = ap (λ (v : Candidates). v.items) c.self.view_is in
    let size = found_length f.pages.items f.numbers f.twins.items c.args.self.items view c.self.invariant.numbered c.self.invariant.twinned in
    let is = found_get f.pages.items f.numbers f.twins.items c.args.self.items view c.self.invariant.numbered c.self.invariant.twinned s lt in
    let page = get_or f.pages.items s None in
    let twin = get_or f.twins.items s None in
    subst (λ (x : Option Candidate). IsEntryOf x (get_or c.move_out.new.map.items s None)) (sym is)
    (subst (IsEntryOf (candidate_of page (get_or f.numbers s 0) twin)) (sym (c.move_out.ensures.entries s (omega (arith, lt, size))))
    (outside_entry c.args.avoided page (get_or f.numbers s 0) twin))

pub returns-clause-stays : goal.returns-clause-stays
returns-clause-stays c s x at lt is to other =
    let f = c.self.inside in
    let view = ap (λ (v : Candidates). v.items) c.self.view_is in
    let size = found_length f.pages.items f.numbers f.twins.items c.args.self.items view c.self.invariant.numbered c.self.invariant.twinned in
    let found = found_get f.pages.items f.numbers f.twins.items c.args.self.items view c.self.invariant.numbered c.self.invariant.twinned s lt in
    outside_stays c.args.avoided (get_or f.pages.items s None) (get_or f.numbers s 0) (get_or f.twins.items s None) x at (sym found ∙ is)
    (sym (c.move_out.ensures.entries s (omega (arith, lt, size))) ∙ to) other

pub returns-clause-free : goal.returns-clause-free
returns-clause-free c freeable =
    let f = c.self.inside in
    let view = ap (λ (v : Candidates). v.items) c.self.view_is in
    let size = found_length f.pages.items f.numbers f.twins.items c.args.self.items view c.self.invariant.numbered c.self.invariant.twinned in
    avoided_free c.args.self.items c.move_out.new.map.items c.args.avoided (c.move_out.ensures.size ∙ sym size) (returns-clause-entries c)
    (λ s x at lt is to doubled.
    let found = found_get f.pages.items f.numbers f.twins.items c.args.self.items view c.self.invariant.numbered c.self.invariant.twinned s lt in
    outside_away c.args.avoided (get_or f.pages.items s None) (get_or f.numbers s 0) (get_or f.twins.items s None) x at (sym found ∙ is)
    (sym (c.move_out.ensures.entries s (omega (arith, lt, size))) ∙ to) doubled) freeable
