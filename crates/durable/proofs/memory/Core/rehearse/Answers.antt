use Rattle.std.proofs.Common.{inl, inr, ⊎_elim, ◌∙◌, ap, subst, arith}
use Rattle.durable.specs.Choice.{IsNextCommand, Spends, number_after}
use Rattle.durable.specs.Collecting.{most_copies}
use Rattle.durable.specs.Commands.{is_program}
use Rattle.durable.specs.Device.{Device}
use Rattle.durable.specs.declared.command.Command.{Command}
use Rattle.durable.proofs.memory.Core.rehearse.Goals as goal

pub loop-cost-preserved-in-Copy : goal.loop-cost-preserved-in-Copy
loop-cost-preserved-in-Copy c =
    let was = c.loop-cost.self in
    let now = c.done.new.self in
    let kept = c.loop-cost.invariant in
    let pages = ap (λ (d : Device). d.pages) c.done.ensures.device in
    let spent = subst (λ (m : Command). Spends m was.pages was.left now.left) c.in-Copy.is c.done.ensures.spends in record {
      device = c.done.ensures.device ∙ kept.device;
      number = c.done.ensures.number ∙ ap (λ (m : Command). number_after m was.next_number) c.in-Copy.is ∙ kept.number;
      erases = ⊎_elim (λ none. inl none) (λ one. inr (one.0, omega (arith, one.1, spent.0, pages))) kept.erases;
      few = λ roomy.
          let before = kept.few roomy in
          let next = subst (IsNextCommand was) c.in-Copy.is c.next-command.ensures.next in
          let room = (next.4 before.0.1).3 in
          let same = ap (λ (d : Device). most_copies d.sectors d.blocks d.pages) kept.device in (
            c.done.ensures.roomy (ap is_program c.in-Copy.is) before.0,
            ⊎_elim (λ none. omega (arith, none)) (λ some. omega (arith, some, room, same)) kept.copies,
          );
      copies = ⊎_elim (λ none. inr (omega (arith, none, spent.0, pages))) (λ some. inr (omega (arith, some, spent.1, pages))) kept.copies;
    }

pub loop-cost-preserved-in-Erase : goal.loop-cost-preserved-in-Erase
loop-cost-preserved-in-Erase c =
    let was = c.loop-cost.self in
    let now = c.done.new.self in
    let kept = c.loop-cost.invariant in
    let pages = ap (λ (d : Device). d.pages) c.done.ensures.device in
    let spent = subst (λ (m : Command). Spends m was.pages was.left now.left) c.in-Erase.is c.done.ensures.spends in record {
      device = c.done.ensures.device ∙ kept.device;
      number = c.done.ensures.number ∙ ap (λ (m : Command). number_after m was.next_number) c.in-Erase.is ∙ kept.number;
      erases = ⊎_elim
          (λ none. inr (omega (arith, none), omega (arith, spent.1, pages)))
          (λ one. absurd (omega (arith, one.1, spent.0)))
          kept.erases;
      few = λ roomy. let before = kept.few roomy in (c.done.ensures.roomy (ap is_program c.in-Erase.is) before.0, before.1);
      copies = ⊎_elim (λ none. inl none) (λ some. absurd (omega (arith, some, spent.0))) kept.copies;
    }
