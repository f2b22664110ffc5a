use Rattle.std.proofs.Common.{◌≡◌, ℕ, ◌+◌, ◌-◌, ◌*◌, take, drop, ap, arith}
use Rattle.die.specs.Storage.{slot}
use Rattle.die.proofs.slots.lend_page.Goals as goal

pub returns-clause-value : goal.returns-clause-value
unfolding slot
returns-clause-value c =
    let size : c.args.place * c.args.page_bytes + c.args.page_bytes - c.args.place * c.args.page_bytes ≡ c.args.page_bytes = omega arith in
    ap (λ (n : ℕ). take n (drop (c.args.place * c.args.page_bytes) c.args.bytes.now)) size
