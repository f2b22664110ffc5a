use Rattle.std.proofs.{Common.◌-◌, Common.take, Common.ap, Common.◌∙◌, Common.rules, lemmas.List.with_items_is, lemmas.List.places}
use Rattle.std.specs.List.{copy_within}
use Rattle.answers.proofs.Deliveries.{moved_front}
use Rattle.answers.proofs.lines.Lines.remove_front.Goals as goal

pub returns-clause-waiting : goal.returns-clause-waiting
returns-clause-waiting c =
    let self = c.args.self.now in
    let count = c.args.count in
    ap (take (self.used - count)) (with_items_is self.buffer c.copy_within.new.self (search (rules, places)) ∙ c.copy_within.ensures.after
    ∙ ap (λ xs. copy_within xs count self.used 0) c.as_mut_slice.ensures.value) ∙ moved_front self.buffer.items self.used count (search rules) (search rules)
