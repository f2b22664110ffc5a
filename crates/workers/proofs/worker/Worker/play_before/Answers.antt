use Rattle.std.proofs.Common.{◌≡◌, ℕ, All, List, length, refl, sym, ap, ◌∙◌, subst}
use Rattle.std.proofs.lemmas.List.{with_items_is}
use Rattle.std.specs.{Arc.arc_value, Vec.with_items, List.slice_range}
use Rattle.flash_table.specs.Flash.{view_of, geometry_of}
use Rattle.host.specs.Ready.{IsReady}
use Rattle.trace.specs.declared.commands.Command.{Command}
use Rattle.rounds.specs.{Answers.HasSpaceFor, Playing.Played}
use Rattle.workers.specs.{Playable.IsLine, Playable.HasAnswered, Playable.added, Playable.lines_at, Workers.answered, Workers.round_lines, Workers.round_places}
use Rattle.volume.specs.{declared.volume.Volume.Volume, Volume.flash_of}
use Rattle.workers.proofs.{ReadyWorkers.able_again, ReadyWorkers.range_is, ReadyWorkers.round_all, ReadyWorkers.round_room}
use Rattle.workers.proofs.worker.Worker.play_before.{Given.Over, Goals.After-deref-4}
use Rattle.workers.proofs.worker.Worker.play_before.Goals as goal

-- the places that are played are those of the round
places_are : (g : Over) (c : After-deref-4 g)
    → slice_range c.deref-4.result.now c.len-answered.result c.past-to.result ≡ round_places c.args.limits.end c.args.self
places_are g c =
    let past = c.past-to.ensures in
    range_is c.args.limits.end c.args.self c.deref.result.now c.deref-4.result.now c.len-answered.result c.past-to.result c.deref.ensures.value
    c.deref-4.ensures.value c.len-answered.ensures past.later past.within past.before past.behind

pub play_at-requires-clause-lines : goal.play_at-requires-clause-lines
play_at-requires-clause-lines g c =
    let worker = c.args.self in
    let P : Volume × List Command × List ℕ → Type 0 = λ x. All (IsLine (geometry_of (flash_of x.0))) (lines_at x.1 x.2) in
    subst P (λ i. (sym c.deref-2.ensures i, sym c.deref-3.ensures i, sym (places_are g (goal.at.play_at-requires-clause-lines g c).After-deref-4) i))
    (round_all c.args.limits.end worker (IsLine (geometry_of (flash_of (arc_value worker.volume)))) worker.able.doable)

pub play_at-requires-clause-space : goal.play_at-requires-clause-space
play_at-requires-clause-space g c =
    let worker = c.args.self in
    let same = places_are g (goal.at.play_at-requires-clause-space g c).After-deref-4 in
    let P : List Command × List ℕ → Type 0 = λ x. HasSpaceFor worker.answers (lines_at x.0 x.1) in
    subst P (λ i. (sym c.deref-3.ensures i, sym same i)) (round_room c.args.limits.end worker)

pub invariant_of-p : goal.invariant_of-p
invariant_of-p g c =
    let worker = c.args.self in
    let new = c.play_at.new in
    let P : List Command × List ℕ → Type 0 = λ x. HasAnswered (lines_at x.0 x.1) worker.answers new.answers in
    let told : HasAnswered (round_lines c.args.limits.end worker) worker.answers new.answers =
    subst P (λ i. (c.deref-3.ensures i, (places_are g (goal.at.invariant_of-p g c).After-deref-4) i)) c.play_at.ensures.answered in
    let ready : IsReady (flash_of (arc_value worker.volume)) new.pass =
    subst (λ (v : Volume). IsReady (flash_of v) new.pass) c.deref-2.ensures c.play_at.ensures.pass in
    let lent = c.play_at.auto.buffer ∙ ap (λ (l : List ℕ). length l) c.deref_mut.ensures.value in
    let long = ap (λ (l : List ℕ). length l) (with_items_is worker.buffer new.buffer (lent ∙ sym worker.buffer.ok.0)) ∙ lent in
    record { able = able_again c.args.limits.end worker new.pass new.answers (with_items worker.buffer new.buffer).items ready told long }

pub returns : goal.returns
returns g c =
    let worker = c.args.self in
    let new = c.play_at.new in
    let same = places_are g (goal.at.returns g c).After-deref-4 in
    let P : List Command × List ℕ → Type 0 = λ x. HasAnswered (lines_at x.0 x.1) worker.answers new.answers in
    let Q : ℕ → List Command × List ℕ → Type 0 =
    λ t x. Played t c.args.limits.patience (view_of worker.pass) (lines_at x.0 x.1) (added worker.answers new.answers) (view_of new.pass) in
    record {
      volume = refl {A = Volume};
      commands = refl {A = List Command};
      places = refl {A = List ℕ};
      answers = subst P (λ i. (c.deref-3.ensures i, same i)) c.play_at.ensures.answered;
      played = λ t role. subst (Q t) (λ i. (c.deref-3.ensures i, same i)) (c.play_at.ensures.played t role);
    }
