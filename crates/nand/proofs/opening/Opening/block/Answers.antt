use Rattle.std.proofs.Common.{◌≡◌, ◌∙◌, ◌+◌, ◌<◌, ℕ, length, insert, min, refl, sym, ap, arith}
use Rattle.std.proofs.lemmas.List.Edits.{length-insert}
use Rattle.nand.specs.Opened.{most_used}
use Rattle.nand.specs.Opening.{questions_by}
use Rattle.nand.proofs.Openings.{asked_below, asks_mark, good_after, inserted, left_after, noted_after, order_after, told_mark}
use Rattle.nand.proofs.opening.Opening.block.Goals as goal

pub returns-then-is_err-clause-other : goal.returns-then-is_err-clause-other
returns-then-is_err-clause-other c other =
    absurd (other (asks_mark c.args.self.now.numbers.items c.args.self.now.mount (sym c.is_some.ensures ∙ c.if-is_some.false)))

pub returns-clause-other : goal.returns-clause-other
returns-clause-other c other = absurd (other (asks_mark c.args.self.now.numbers.items c.args.self.now.mount (sym c.is_some.ensures ∙ c.if-is_some.false)))

pub invariant_of-self-2 : goal.invariant_of-self-2
invariant_of-self-2 c =
    let old = c.args.self.now in
    let block : c.len-block.result ≡ length old.numbers.items = c.len-block.ensures ∙ old.numbers.ok.0 in
    let made = insert old.numbers.items c.number_for-number.result c.len-block.result in
    let is = inserted old.numbers.items c.insert.new.self.items made _ c.is_err.result c.insert.ensures.items c.is_err.ensures.negation c.if-is_err.false in
    let more : length c.insert.new.self.items ≡ length old.numbers.items + 1 =
    ap length is ∙ length-insert old.numbers.items c.number_for-number.result c.len-block.result c.number_for-number.ensures.within in
    record { few = grind (arith, more, c.good_with-good.ensures, old.few); asks = λ none. omega (arith, more, block, c.in_ok-mount.ensures.asks none) }

pub returns-clause-reads : goal.returns-clause-reads
returns-clause-reads c f bad read tells =
    let old = c.args.self.now in
    let none = sym c.is_some.ensures ∙ c.if-is_some.false in
    let next = c.insert.new.self.items in
    let block : c.len-block.result ≡ length old.numbers.items = c.len-block.ensures ∙ old.numbers.ok.0 in
    let made = insert old.numbers.items c.number_for-number.result c.len-block.result in
    let here = inserted old.numbers.items next made _ c.is_err.result c.insert.ensures.items c.is_err.ensures.negation c.if-is_err.false in
    let is : next ≡ insert old.numbers.items c.number_for-number.result (length old.numbers.items) =
    here ∙ ap (λ (b : ℕ). insert old.numbers.items c.number_for-number.result b) block in
    let more : length next ≡ length old.numbers.items + 1 =
    ap length here ∙ length-insert old.numbers.items c.number_for-number.result c.len-block.result c.number_for-number.ensures.within in
    let told : length next ≡ c.len-block.result + 1 = more ∙ ap (λ (n : ℕ). n + 1) (sym block) in
    let marked = told_mark bad old.numbers.items old.mount c.args.is_bad none tells in
    let good = c.good_with-good.ensures ∙ good_after bad old.numbers.items next old.good c.args.is_bad read.good marked more in
    record {
      order = order_after old.numbers.items next bad (most_used old.shape old.sectors) old.good c.number_for-number.result c.args.is_bad read.order read.good
          marked c.number_for-number.ensures.number is;
      good = good;
      noted = noted_after f bad old.shape old.sectors next c.good_with-good.result (c.len-block.result + 1) c.in_ok-mount.mount told good
          c.in_ok-mount.ensures.all c.in_ok-mount.ensures.device c.in_ok-mount.ensures.number c.in_ok-mount.ensures.notes c.in_ok-mount.ensures.capacity;
    }

pub returns-clause-takes : goal.returns-clause-takes
returns-clause-takes c =
    let old = c.args.self.now in
    let none = sym c.is_some.ensures ∙ c.if-is_some.false in
    let next = c.insert.new.self.items in
    let block : c.len-block.result ≡ length old.numbers.items = c.len-block.ensures ∙ old.numbers.ok.0 in
    let made = insert old.numbers.items c.number_for-number.result c.len-block.result in
    let here = inserted old.numbers.items next made _ c.is_err.result c.insert.ensures.items c.is_err.ensures.negation c.if-is_err.false in
    let more : length next ≡ length old.numbers.items + 1 =
    ap length here ∙ length-insert old.numbers.items c.number_for-number.result c.len-block.result c.number_for-number.ensures.within in
    let told : length next ≡ c.len-block.result + 1 = more ∙ ap (λ (n : ℕ). n + 1) (sym block) in
    let lt : c.len-block.result < old.shape.blocks = omega (arith, block, asked_below old.shape old.numbers.items old.mount none old.asks) in
    record {
      shape = refl;
      sectors = refl;
      left = ap (λ (n : ℕ). questions_by old.shape n c.in_ok-mount.mount + 1) told
          ∙ (left_after old.shape old.sectors (min c.good_with-good.result (most_used old.shape old.sectors)) c.len-block.result old.mount
          c.in_ok-mount.mount none lt c.in_ok-mount.ensures.all c.in_ok-mount.ensures.device c.in_ok-mount.ensures.first
          ∙ ap (λ (n : ℕ). questions_by old.shape n old.mount) block);
    }
