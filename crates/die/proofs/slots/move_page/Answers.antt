use Rattle.std.proofs.Common.{◌≡◌, ℕ, ◌+◌, ◌*◌, ◌<◌, ◌≤◌, List, ◌++◌, length, take, drop, sym, ap, ◌∙◌, subst, arith, length-drop}
use Rattle.std.proofs.{Math.Nat.mul-le-mul_right, Math.Seq.paste, lemmas.List.length-take-le, lemmas.List.take_all}
use Rattle.die.proofs.Blocks.{PutsSlot-paste, PutsSlot-below, paste-above, slot-front}
use Rattle.die.specs.Storage.{PutsSlot, slot}
use Rattle.die.proofs.slots.move_page.Goals as goal

pub returns-then-from-to : goal.returns-then-from-to
unfolding slot
returns-then-from-to c =
    let bytes = c.args.bytes.now in
    let n = c.args.page_bytes in
    let at = c.args.to * n in
    let cut = c.split_at_mut-below.ensures in
    let below = c.split_at_mut-below.result.0.now in
    let above = c.split_at_mut-below.result.1.now in
    let s = c.get_page.new.out in
    let before : (c.args.from + 1) * n ≤ at = mul-le-mul_right n (omega (arith, c.if-from-to.true)) in
    let whole : length (take n above) ≡ n = length-take-le n above (omega (arith, cut.back_len, c.requires.to_within)) in
    let page : s ≡ slot n bytes c.args.from =
    c.get_page.ensures
    ∙ (ap (λ (k : ℕ). slot k below c.args.from) whole
    ∙ (sym (slot-front n below above c.args.from (omega (arith, before, cut.front_len)))
    ∙ ap (λ (xs : List ℕ). slot n xs c.args.from) (sym cut.value))) in
    let size : length s ≡ n =
    ap (λ (xs : List ℕ). length xs) page
    ∙ length-take-le n (drop (c.args.from * n) bytes) (omega (arith, c.requires.from_within, length-drop (c.args.from * n) bytes)) in
    let written : below ++ (s ++ drop n above) ≡ paste bytes at s n =
    ap (λ (xs : List ℕ). xs ++ (s ++ drop n above)) cut.front
    ∙ (ap (λ (xs : List ℕ). take at bytes ++ (s ++ drop n xs)) cut.back ∙ paste-above bytes at n s size) in
    let puts = PutsSlot-paste n bytes c.args.to s c.requires.to_within (omega (arith, size)) in
    subst (λ (new : List ℕ). PutsSlot n bytes new c.args.to (slot n bytes c.args.from)) (sym written)
    (subst (λ (p : List ℕ). PutsSlot n bytes (paste bytes at s n) c.args.to p) (take_all n s (omega (arith, size)) ∙ page) puts)

pub returns-else-from-to : goal.returns-else-from-to
unfolding slot
returns-else-from-to c =
    let bytes = c.args.bytes.now in
    let n = c.args.page_bytes in
    let cut = c.split_at_mut-below-else-from-to.ensures in
    let below = c.split_at_mut-below-else-from-to.result.0.now in
    let above = c.split_at_mut-below-else-from-to.result.1.now in
    let new = c.put_page.new.bytes in
    let apart = c.requires.apart in
    let low : c.args.to < c.args.from = omega (arith, c.if-from-to.false, apart) in
    let whole : length (take n above) ≡ n = length-take-le n above (omega (arith, cut.back_len, c.requires.from_within)) in
    let puts = subst (λ (k : ℕ). PutsSlot k below new c.args.to (take n above)) whole c.put_page.ensures in
    let all = PutsSlot-below n below new above c.args.from c.args.to (take n above) cut.front_len low puts in
    subst (λ (xs : List ℕ). PutsSlot n xs (new ++ above) c.args.to (slot n bytes c.args.from)) (sym cut.value)
    (subst (λ (p : List ℕ). PutsSlot n (below ++ above) (new ++ above) c.args.to p) (ap (take n) cut.back) all)
