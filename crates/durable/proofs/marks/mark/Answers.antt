use Rattle.std.proofs.Common.{◌≡◌, ◌≢◌, ◌<◌, ◌/◌, ◌%◌, ◌==◌, ⊎_elim, ℕ, true, List, length, get_or, set, sym, ◌∙◌, ap, arith, w64}
use Rattle.std.specs.Int.{bit_at}
use Rattle.std.proofs.lemmas.Bool.{cases_eq}
use Rattle.std.proofs.lemmas.List.{get_or_default, get_or-set_same, get_or-set_other}
use Rattle.std.proofs.lemmas.Nat.Bits.{bit_at_set_same, bit_at_set_other}
use Rattle.durable.specs.Marks.{is_valued}
use Rattle.durable.proofs.marks.mark.Goals as goal

set_here : (marks : List ℕ) (s word : ℕ) → s / 64 < length marks → bit_at word (s % 64) ≡ 1 → is_valued (set marks (s / 64) word) s ≡ true
unfolding is_valued
set_here marks s word lt is =
    ap (λ (n : ℕ). n == 1) (ap (λ (w : ℕ). bit_at w (s % 64)) (get_or-set_same marks (s / 64) word 0 lt) ∙ is)

set_other : (marks : List ℕ) (t word n s : ℕ) → t / 64 < length marks → get_or marks (t / 64) 0 ≡ n → s ≢ t
    → ((i : ℕ) → i ≢ t % 64 → bit_at word i ≡ bit_at n i) → is_valued (set marks (t / 64) word) s ≡ is_valued marks s
unfolding is_valued
set_other marks t word n s lt was apart others = ⊎_elim
    (λ same.
    let differs : s % 64 ≢ t % 64 = λ e. apart (omega (arith, same, e)) in
    ap (λ (w : ℕ). bit_at w (s % 64) == 1) (ap (λ (i : ℕ). get_or (set marks (t / 64) word) i 0) same ∙ get_or-set_same marks (t / 64) word 0 lt)
    ∙ (ap (λ (k : ℕ). k == 1) (others (s % 64) differs)
    ∙ ap (λ (w : ℕ). bit_at w (s % 64) == 1) (sym was ∙ ap (λ (i : ℕ). get_or marks i 0) (sym same))))
    (λ differs. ap (λ (w : ℕ). bit_at w (s % 64) == 1) (get_or-set_other marks (t / 64) (s / 64) word 0 differs))
    (cases_eq (s / 64) (t / 64))

pub returns-clause-here : goal.returns-clause-here
returns-clause-here c =
    let sector = c.args.sector in
    set_here c.args.marks.now.items sector _ (omega (arith, c.requires)) (bit_at_set_same w64 c.index_mut.result.now (sector % 64) (omega arith))

pub returns-clause-others : goal.returns-clause-others
returns-clause-others c s apart =
    let sector = c.args.sector in
    let inside : sector / 64 < length c.args.marks.now.items = omega (arith, c.requires) in
    let was : get_or c.args.marks.now.items (sector / 64) 0 ≡ c.index_mut.result.now =
    get_or_default c.args.marks.now.items (sector / 64) 0 c.index_mut.result.now inside ∙ sym c.index_mut.ensures.value in
    set_other c.args.marks.now.items sector _ c.index_mut.result.now s inside was apart
    (λ i differs. bit_at_set_other w64 c.index_mut.result.now (sector % 64) (omega arith) i differs)
