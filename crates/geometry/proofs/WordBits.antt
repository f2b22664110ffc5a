-- What a write of one word makes of a page's others, and what the owners' additions, the readers' additions and the taking bit make of a block's word.
use Rattle.std.proofs.Common.{◌≡◌, ℕ, ◌≢◌, ◌+◌, ◌*◌, ◌≤◌, ◌<◌, List, length, take, drop, ap, sym, ◌∙◌, arith, inl, inr, ◌-◌, ◌%◌, ◌^◌, ◌==◌, refl}
use Rattle.std.proofs.lemmas.List.{drop-take}
use Rattle.std.proofs.lemmas.Slice.{take-put_mid_below, drop-put_mid}
use Rattle.std.proofs.lemmas.Bool.{cases_lt}
use Rattle.std.specs.Int.{from_le_bytes, w64}
use borrow.Rule.Slice.PartMut.{put_mid}
use Rattle.geometry.specs.Words.{word_of, FitsMap, map_word, FitsPin, phase_bits, pin_word, freed_added, kept_added}
use Rattle.std.specs.Prelude.{if◌then◌else◌}
use Rattle.std.specs.Int.Bits.{bit_or, or_block, or_zero_r}
use Rattle.geometry.specs.declared.words.MapWord.{MapWord}
use Rattle.geometry.specs.declared.words.PinWord.{PinWord}
use Rattle.geometry.specs.declared.words.Phase.{Phase}
use Rattle.geometry.specs.declared.words.Phase.TheVariants.{Free, Open, Closed, Victim, Drained, Erasing, Retired}
use Rattle.geometry.specs.declared.words.TheConstants.{TAKEN, NEXT_PHASE, PAGE_WRITTEN, PHASES, PAGES_WRITTEN}

part_below : (xs ys : List ℕ) (i k n : ℕ) → k < i → 8 * i + 8 ≤ length xs → take 8 (drop (8 * k) (put_mid (8 * i) n xs ys)) ≡ take 8 (drop (8 * k) xs)
part_below xs ys i k n below room =
    let kept : take (8 * k + 8) (put_mid (8 * i) n xs ys) ≡ take (8 * k + 8) xs =
    take-put_mid_below (8 * i) n xs ys (8 * k + 8) (omega arith) (omega arith) in
    sym (drop-take (8 * k) 8 (put_mid (8 * i) n xs ys)) ∙ (ap (drop (8 * k)) kept ∙ drop-take (8 * k) 8 xs)

part_above : (xs ys : List ℕ) (i k n : ℕ) → n ≡ 8 → length ys ≡ n → i < k → 8 * i + 8 ≤ length xs
    → take 8 (drop (8 * k) (put_mid (8 * i) n xs ys)) ≡ take 8 (drop (8 * k) xs)
part_above xs ys i k n is_8 len above room = ap (take 8) (drop-put_mid (8 * i) n xs ys (8 * k) (omega arith) (omega arith) len)

pub word_kept : (xs ys : List ℕ) (i k n : ℕ) → n ≡ 8 → length ys ≡ n → k ≢ i → 8 * i + 8 ≤ length xs → word_of (put_mid (8 * i) n xs ys) k ≡ word_of xs k
word_kept xs ys i k n is_8 len other room =
    ap (from_le_bytes w64) (elim (cases_lt k i) [
      | inl below ↦ part_below xs ys i k n below room
      | inr not_below ↦ part_above xs ys i k n is_8 len (omega arith) room
    ])

-- a phase's bits as a number of sixteen
phase_number : Phase → ℕ
phase_number Free = 0
phase_number Open = 1
phase_number Closed = 3
phase_number Victim = 5
phase_number Drained = 7
phase_number Erasing = 9
phase_number Retired = 11

phase_numbered : (p : Phase) → (phase_bits p ≡ phase_number p * TAKEN) × (phase_number p < 16)
unfolding phase_number
phase_numbered Free = (refl, omega arith)
phase_numbered Open = (refl, omega arith)
phase_numbered Closed = (refl, omega arith)
phase_numbered Victim = (refl, omega arith)
phase_numbered Drained = (refl, omega arith)
phase_numbered Erasing = (refl, omega arith)
phase_numbered Retired = (refl, omega arith)

phase_of : ℕ → Phase
phase_of n = if n == 0 then Free else if n == 1 then Open else if n == 3 then Closed else if n == 5 then Victim else if n == 7 then Drained
    else if n == 9 then Erasing else Retired

phase_again : (p : Phase) → phase_of (phase_number p) ≡ p
unfolding phase_of phase_number
phase_again Free = refl
phase_again Open = refl
phase_again Closed = refl
phase_again Victim = refl
phase_again Drained = refl
phase_again Erasing = refl
phase_again Retired = refl

-- a word tells the state that it was packed from
pub pin_same : (p q : PinWord) → FitsPin p → FitsPin q → pin_word p ≡ pin_word q → p ≡ q
pin_same p q a b e =
    let m = phase_numbered p.phase in
    let n = phase_numbered q.phase in
    let m_is = m.0 in
    let m_low = m.1 in
    let n_is = n.0 in
    let n_low = n.1 in
    let a_readers = a.readers in
    let b_readers = b.readers in
    let a_written = a.written in
    let b_written = b.written in
    let readers : p.readers ≡ q.readers = omega arith in
    let number : phase_number p.phase ≡ phase_number q.phase = omega arith in
    let written : p.written ≡ q.written = omega arith in
    let generation : p.generation ≡ q.generation = omega arith in
    let phase : p.phase ≡ q.phase = sym (phase_again p.phase) ∙ (ap phase_of number ∙ phase_again q.phase) in
    λ i. record { readers = readers i; phase = phase i; written = written i; generation = generation i }

-- a word of a state is a word of 64 bits
pub pin_fits : (p : PinWord) → FitsPin p → pin_word p < 2 ^ 64
pin_fits p a = let m = phase_numbered p.phase in let m_is = m.0 in let m_low = m.1 in let r = a.readers in let w = a.written in
    let g = a.generation in omega arith

-- an addition that makes one state of another doesn't wrap
pub adds : (p q : PinWord) (k : ℕ) → FitsPin q → pin_word p + k ≡ pin_word q → (pin_word p + k) % 2 ^ 64 ≡ pin_word q
adds p q k fits is = let low = pin_fits q fits in omega arith

-- and neither does taking off
pub takes_off : (p q : PinWord) (k : ℕ) → FitsPin p → pin_word q + k ≡ pin_word p → k ≤ 2 ^ 64 → (pin_word p + (2 ^ 64 - k)) % 2 ^ 64 ≡ pin_word q
takes_off p q k fits is small = let low = pin_fits p fits in omega arith

pub next_phase : (p : PinWord) (from to : Phase) → p.phase ≡ from → phase_bits from + NEXT_PHASE ≡ phase_bits to
    → pin_word p + NEXT_PHASE ≡ pin_word (record p { phase = to })
next_phase p from to is next = let e : phase_bits p.phase ≡ phase_bits from = ap phase_bits is in omega arith

pub counts : (p : PinWord) → pin_word p + PAGE_WRITTEN ≡ pin_word (record p { written = p.written + 1 })
counts p = omega arith

pub reads : (p : PinWord) → pin_word p + 1 ≡ pin_word (record p { readers = p.readers + 1 })
reads p = omega arith

-- an erased block gets free in its next generation
pub frees : (p : PinWord) → FitsPin p → p.phase ≡ Erasing
    → pin_word p + freed_added p.written ≡ pin_word (record p { phase = Free; written = 0; generation = p.generation + 1 })
frees p fits is = let e : phase_bits p.phase ≡ phase_bits Erasing = ap phase_bits is in let w = fits.written in omega arith

-- or stays open in it
pub keeps : (p : PinWord) → FitsPin p → p.phase ≡ Erasing
    → pin_word p + kept_added p.written ≡ pin_word (record p { phase = Open; written = 0; generation = p.generation + 1 })
keeps p fits is = let e : phase_bits p.phase ≡ phase_bits Erasing = ap phase_bits is in let w = fits.written in omega arith

-- setting the lowest bit
or_one_even : (a : ℕ) → bit_or (a * 2) 1 ≡ a * 2 + 1
or_one_even a = let h : bit_or (a * 2 ^ 1 + 0) (0 * 2 ^ 1 + 1) ≡ bit_or a 0 * 2 ^ 1 + bit_or 0 1 = or_block 1 a 0 0 1 (omega arith) (omega arith) in
    let e : a * 2 ^ 1 + 0 ≡ a * 2 = omega arith in let f : bit_or a 0 ≡ a = or_zero_r a in
    sym (ap (λ x. bit_or x 1) e) ∙ (h ∙ (ap (λ x. x * 2 + 1) f))

or_one_odd : (a : ℕ) → bit_or (a * 2 + 1) 1 ≡ a * 2 + 1
or_one_odd a = or_block 1 a 0 1 1 (omega arith) (omega arith) ∙ ap (λ x. x * 2 + 1) (or_zero_r a)

or_taken : (a r : ℕ) → r < TAKEN → bit_or (a * TAKEN + r) TAKEN ≡ bit_or a 1 * TAKEN + r
or_taken a r low = or_block 12 a 1 r 0 low (omega arith) ∙ ap (λ x. bit_or a 1 * TAKEN + x) (or_zero_r r)

-- the taking bit makes a free block open
pub takes_free : (p : PinWord) → FitsPin p → p.phase ≡ Free → bit_or (pin_word p) TAKEN ≡ pin_word (record p { phase = Open })
takes_free p fits free =
    let bits : phase_bits p.phase ≡ 0 = ap phase_bits free in
    let low = fits.readers in
    let a : ℕ = p.written * PHASES + p.generation * (PHASES * PAGES_WRITTEN) in
    let e : pin_word p ≡ (a * 2) * TAKEN + p.readers = omega arith in
    let o = or_one_even a in
    let f = or_taken (a * 2) p.readers low in
    let goal : bit_or (a * 2) 1 * TAKEN + p.readers ≡ pin_word (record p { phase = Open }) = omega arith in ap (λ x. bit_or x TAKEN) e ∙ (f ∙ goal)

-- a taken phase has the lowest bit
odd : (f : Phase) → ¬ (f ≡ Free) → (n : ℕ) × (phase_number f ≡ n * 2 + 1)
unfolding phase_number
odd Free not = absurd (not refl)
odd Open not = (0, refl)
odd Closed not = (1, refl)
odd Victim not = (2, refl)
odd Drained not = (3, refl)
odd Erasing not = (4, refl)
odd Retired not = (5, refl)

-- and leaves every other block as it is
pub takes_taken : (p : PinWord) → FitsPin p → ¬ (p.phase ≡ Free) → bit_or (pin_word p) TAKEN ≡ pin_word p
takes_taken p fits taken =
    let n = odd p.phase taken in
    let n_is = n.1 in
    let bits = phase_numbered p.phase in
    let bits_is = bits.0 in
    let low = fits.readers in
    let a : ℕ = n.0 + p.written * PHASES + p.generation * (PHASES * PAGES_WRITTEN) in
    let e : pin_word p ≡ (a * 2 + 1) * TAKEN + p.readers = omega arith in
    let o = or_one_odd a in
    let f = or_taken (a * 2 + 1) p.readers low in
    let goal : bit_or (a * 2 + 1) 1 * TAKEN + p.readers ≡ pin_word p = omega arith in ap (λ x. bit_or x TAKEN) e ∙ (f ∙ goal)

-- a map word tells the page that it names
pub map_same : (m n : MapWord) → FitsMap m → FitsMap n → map_word m ≡ map_word n → m ≡ n
map_same m n a b e =
    let a1 = a.generation in
    let a2 = a.block in
    let a3 = a.page in
    let b1 = b.generation in
    let b2 = b.block in
    let b3 = b.page in
    let generation : m.generation ≡ n.generation = omega arith in
    let block : m.block ≡ n.block = omega arith in
    let page : m.page ≡ n.page = omega arith in λ i. record { generation = generation i; block = block i; page = page i }
