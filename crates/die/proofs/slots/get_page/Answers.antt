use Rattle.std.proofs.Common.{◌≡◌, ◌∙◌, ℕ, ◌+◌, ◌-◌, ◌*◌, length, take, drop, ap, arith}
use Rattle.die.specs.Storage.{slot}
use Rattle.die.proofs.slots.get_page.Goals as goal

pub returns : goal.returns
unfolding slot
returns c =
    let size : c.args.place * length c.args.out.now + length c.args.out.now - c.args.place * length c.args.out.now ≡ length c.args.out.now = omega arith in
    c.copy_from_slice.ensures.after ∙ ap (λ (n : ℕ). take n (drop (c.args.place * length c.args.out.now) c.args.bytes.now)) size
