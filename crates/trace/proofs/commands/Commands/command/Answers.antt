use Rattle.std.proofs.{Common.◌<◌, Common.length, Common.ap, Common.add-one, Common.arith, lemmas.List.length-map}
use Rattle.trace.{specs.Stored.command_at, specs.Stored.lent_as, specs.Stored.stored_in, proofs.Meanings.map_at}
use Rattle.trace.proofs.commands.Commands.command.Goals as goal

pub returns : goal.returns
returns c =
    let self = c.self.inside in
    let shown = command_at self.text.items self.odd.items self.page_bytes in
    let all = stored_in self.stored in
    let here : c.args.i < length all = omega (arith, length-map all shown, ap length c.self.view_is) in
    let place = map_at shown all c.args.i (lent_as c.at-stored.result) here c.at-stored.ensures in
    rw (
      c.new.ensures,
      c.from.ensures,
      c.page_len.ensures,
      c.digits_at-digits.ensures,
      c.deref.ensures.value,
      c.deref-2.ensures.value,
      c.head-head.ensures,
      add-one,
      ← c.self.view_is,
    ) (record { at = place.0; rest = place.1 })
