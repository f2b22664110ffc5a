use Rattle.std.proofs.Common.{◌≡◌, ℕ, List, Bool, length, sym, ap, ◌∙◌, subst, arith}
use Rattle.std.specs.Vec.{with_items}
use Rattle.std.proofs.lemmas.List.{with_items_is}
use Rattle.geometry.specs.{Geometry.blocks_of, declared.words.PinWord.PinWord}
use Rattle.flash_rule.specs.declared.view.View.{View}
use Rattle.flash_table.specs.Flash.{broom_view, geometry_of, device}
use Rattle.broom.specs.{declared.broom.Broom.Broom, Surveying.PagesCounted, Ready.IsReady, Ready.AreMarked, Ready.view_of_broom}
use Rattle.broom.proofs.{Choosing.chooses, Choosing.rested_surveyed, Marking.marks_surveyed, Marking.marks_kept}
use Rattle.broom.proofs.{Ranks.forgotten, survey.choose.Goals.After-forget}
use Rattle.broom.proofs.survey.choose.Goals as goal

-- the broom with what the survey found
abbrev after : After-forget → Broom
after c = record c.args.broom.now {
  seat = c.count_pages.new.seat;
  states = with_items c.args.broom.now.states c.load_states.new.states;
  counts = with_items c.args.broom.now.counts c.count_pages.new.counts;
  closed =
      with_items c.args.broom.now.closed c.load_states.new.closed;
  ranking = c.forget.new.self;
}

states_kept : (c : After-forget) → (with_items c.args.broom.now.states c.load_states.new.states).items ≡ c.load_states.new.states
states_kept c = let long = c.load_states.auto.states in let before = c.deref_mut.ensures.len in
    with_items_is c.args.broom.now.states c.load_states.new.states (omega arith)

counts_kept : (c : After-forget) → (with_items c.args.broom.now.counts c.count_pages.new.counts).items ≡ c.count_pages.new.counts
counts_kept c = let long = c.count_pages.auto.counts in let before = c.deref_mut-3.ensures.len in
    with_items_is c.args.broom.now.counts c.count_pages.new.counts (omega arith)

closed_kept : (c : After-forget) → (with_items c.args.broom.now.closed c.load_states.new.closed).items ≡ c.load_states.new.closed
closed_kept c = let long = c.load_states.auto.closed in let before = c.deref_mut-2.ensures.len in
    with_items_is c.args.broom.now.closed c.load_states.new.closed (omega arith)

long : (c : After-forget) → length c.load_states.new.states ≡ blocks_of (geometry_of c.args.flash.now)
long c = c.load_states.auto.states ∙ (ap (length {A = _}) c.deref_mut.ensures.value ∙ c.requires.states)

counted : (c : After-forget) → PagesCounted (broom_view c.load_states.new.seat) c.load_states.new.states c.count_pages.new.counts (view_of_broom (after c))
counted c = subst (λ l. PagesCounted (broom_view c.load_states.new.seat) l c.count_pages.new.counts (broom_view c.count_pages.new.seat))
    (c.deref.ensures.value ∙ states_kept c) c.count_pages.ensures.counted

-- the broom rests, and has its room, after the survey
ready : (c : After-forget) → IsReady c.args.flash.now (after c)
ready c =
    let f = c.args.flash.now in
    let a = c.args.broom.now in
    record {
      rested = rested_surveyed f a (after c) c.load_states.new.seat c.load_states.new.states c.count_pages.new.counts c.load_states.new.closed
          c.requires.rested.seat c.load_states.ensures.loaded (counted c) (long c)
          c.requires.rested c.count_pages.ensures.seat (c.count_pages.ensures.blocks ∙ c.load_states.ensures.blocks);
      states = ap (length {A = _}) (states_kept c) ∙ long c;
      counts = ap (length {A = ℕ}) (counts_kept c) ∙ (c.count_pages.auto.counts ∙ (ap (length {A = ℕ}) c.deref_mut-3.ensures.value ∙ c.requires.counts));
      closed = ap (length {A = Bool}) (closed_kept c) ∙ (c.load_states.auto.closed ∙ (ap (length {A = Bool}) c.deref_mut-2.ensures.value ∙ c.requires.closed));
      marks =
          let z = device f in
          let marks = marks_surveyed z c.load_states.new.states (broom_view a.seat)
          (broom_view c.load_states.new.seat) c.load_states.new.closed c.load_states.ensures.loaded in
          let all = marks_kept z c.load_states.new.states (broom_view c.load_states.new.seat)
          (view_of_broom (after c)) c.load_states.new.closed c.load_states.new.closed (ap (λ (v : View). v.loaded) (counted c).changed)
          (λ k is. is) marks in
          let P : List PinWord × List Bool → Type 0 = λ y. AreMarked z (view_of_broom (after c)) y.0 y.1 in
          subst P (λ i. (sym (states_kept c) i, sym (closed_kept c) i)) all;
      ranking = forgotten (after c).counts.items a.closed.items (after c).closed.items a.ranking c.forget.new.self
          (ap (length {A = Bool}) (closed_kept c) ∙ (c.load_states.auto.closed ∙ ap (length {A = Bool}) c.deref_mut-2.ensures.value)) c.forget.ensures
          a.counts.items c.requires.ranking;
    }

pub gains-requires-clause-ready : goal.gains-requires-clause-ready
gains-requires-clause-ready c = ready (goal.at.gains-requires-clause-ready c).After-forget

pub returns-clause-chosen : goal.returns-clause-chosen
returns-clause-chosen c =
    let at = (goal.at.returns-clause-chosen c).After-forget in
    let h = ready at in
    chooses c.args.flash.now c.args.broom.now (after at) c.load_states.new.seat c.load_states.new.states c.count_pages.new.counts
    c.load_states.new.closed c.requires.rested.seat c.load_states.ensures.loaded (counted at) (long at)
    (states_kept at) (counts_kept at) (closed_kept at) (h.counts ∙ sym h.closed) c.gains.result c.gains.ensures.next

pub returns-clause-ready : goal.returns-clause-ready
returns-clause-ready c = ready (goal.at.returns-clause-ready c).After-forget
