use Rattle.std.proofs.Common.{◌≡◌, ◌+◌, ◌-◌, ◌≤◌, length, ap, take, drop, sym, ◌∙◌, arith}
use Rattle.trace.{specs.Stored.lent_as, proofs.Meanings.digits-text}
use Rattle.trace.proofs.commands.digits_at.Goals as goal

pub returns-then-start-text : goal.returns-then-start-text
returns-then-start-text c =
    let s = lent_as c.args.stored.now in
    let count : s.start + c.from-count.result - s.start ≡ s.brief.digits = omega (arith, c.from-count.ensures) in
    let within : s.start + s.brief.digits ≤ length c.args.text.now = omega (arith, c.from-count.ensures) in
    ap (λ n. take n (drop s.start c.args.text.now)) count ∙ sym (digits-text c.args.text.now c.args.odd.now s within)
