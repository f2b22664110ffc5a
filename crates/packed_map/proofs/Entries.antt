-- The bits of entries.
use Rattle.std.proofs.Common.{zero, suc, ◌∷◌, map, replicate, ◌≡◌, ◌≢◌, ℕ, ◌+◌, ◌-◌, ◌*◌, ◌<◌}
use Rattle.std.proofs.Common.{◌/◌, ◌%◌, ◌==◌, None, Some, false, refl, sym, ◌∙◌, ap, ap₂, arith}
use Rattle.std.proofs.lemmas.Bool.Decides.{nat_tests}
use Rattle.std.proofs.lemmas.Option.{none-some, same_Some}
use Rattle.geometry.specs.declared.page_addr.PageAddr.{PageAddr}
use Rattle.packed_map.specs.Entries.{entry_of, page_at}

-- 0 stands for none
pub entry_of_zero : entry_of 0 ≡ None
unfolding entry_of
entry_of_zero = refl

-- others stand for a page
pub entry_of_some : (bits : ℕ) → bits ≢ 0 → entry_of bits ≡ Some (page_at (bits - 1))
unfolding entry_of
entry_of_some bits h = let test : (bits == 0) ≡ false = grind (arith, nat_tests) in rw test

-- the bits of a page stand for that page
pub entry_of_page : (bits : ℕ) (at : PageAddr) → bits ≡ at.page / 16384 * 70368744177664 + at.block * 16384 + at.page % 16384 + 1
    → at.block < 4294967296 → entry_of bits ≡ Some at
entry_of_page bits at is block =
    let high : bits ≢ 0 = λ e. omega (arith, e, is) in
    let b : (bits - 1) / 16384 % 4294967296 ≡ at.block = omega arith in
    let p : (bits - 1) / 70368744177664 * 16384 + (bits - 1) % 16384 ≡ at.page = omega arith in
    entry_of_some bits high ∙ ap₂ (λ b p. Some (record { block = b; page = p })) b p

-- no entry, if all bits are 0
pub map_entry_of-zeros : (n : ℕ) → map entry_of (replicate n 0) ≡ replicate n None
map_entry_of-zeros zero = refl
map_entry_of-zeros (suc n) = ap₂ (λ entry rest. entry ∷ rest) entry_of_zero (map_entry_of-zeros n)

abbrev pub place_of : PageAddr → ℕ
place_of at = at.page / 16384 * 70368744177664 + at.block * 16384 + at.page % 16384

place_of_page : (place : ℕ) → place_of (page_at place) ≡ place
place_of_page place = omega arith

-- a page has the bits that are packed for it alone
pub bits_of_page : (bits : ℕ) (at : PageAddr) → entry_of bits ≡ Some at → bits ≡ place_of at + 1
bits_of_page zero at is = absurd (none-some at (sym entry_of_zero ∙ is))
bits_of_page (suc place) at is =
    let same = same_Some (page_at (suc place - 1)) at (sym (entry_of_some (suc place) (λ e. omega (arith, e))) ∙ is) in
    omega (arith, place_of_page (suc place - 1), ap place_of same)
