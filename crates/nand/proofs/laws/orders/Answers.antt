use Rattle.std.proofs.Common.{⊎_elim, ◌≡◌, ◌<◌, ◌≤◌, ℕ, zero, suc, true, false, [], ◌∷◌, refl, arith}
use Rattle.std.proofs.lemmas.Bool.{cases_lt}
use Rattle.nand.specs.Numbers.{chip_block, good_before, is_marked}
use Rattle.nand.proofs.Orders.{lies, past, used_rank}
use Rattle.nand.proofs.laws.orders.Goals as goal

all_good : (n : ℕ) → good_before [] n ≡ n
all_good zero = refl
all_good (suc n) = omega (arith, all_good n)

pub returns-clause-every : goal.returns-clause-every
returns-clause-every c numbers bad is =
    let few = ⊎_elim (λ lt. lt) (λ le. absurd (omega (arith, past numbers (is.to 1) (omega (arith, le, is.all)), is.put 1, le))) (cases_lt (is.to 1) 2) in
    (is.to 1, few, is.put 1)

pub returns-clause-lies : goal.returns-clause-lies
returns-clause-lies c numbers bad is = lies numbers bad 2 2 is 1 (omega arith)

pub returns-clause-rest : goal.returns-clause-rest
returns-clause-rest c numbers is = past numbers 5 (omega (arith, is.all))

pub returns-clause-in_use_first : goal.returns-clause-in_use_first
returns-clause-in_use_first c numbers is =
    omega (arith, used_rank numbers [] 2 1 is 0 (omega arith) (omega arith), all_good (chip_block numbers 0))

pub returns-clause-reserve_backwards : goal.returns-clause-reserve_backwards
returns-clause-reserve_backwards c numbers is = (
  omega (arith, is.reserved 1 (omega arith) (omega arith), all_good (chip_block numbers 1)),
  omega (arith, is.reserved 2 (omega arith) (omega arith), all_good (chip_block numbers 2)),
)

same : (b : ℕ) → chip_block (0 ∷ 1 ∷ []) b ≡ b
same zero = refl
same (suc zero) = refl
same (suc (suc b)) = refl

pub returns-clause-in_order : goal.returns-clause-in_order
returns-clause-in_order c = record {
  all = refl;
  to = λ b. b;
  found = same;
  put = same;
  good = λ c lt. refl;
  reserved = λ c le lt. absurd (omega (arith, le, lt));
  others = λ c le lt. absurd (omega (arith, le, lt));
}

-- two blocks that have each other's number
exchanged : (b : ℕ) → chip_block (1 ∷ 0 ∷ []) (chip_block (1 ∷ 0 ∷ []) b) ≡ b
exchanged zero = refl
exchanged (suc zero) = refl
exchanged (suc (suc b)) = refl

pub returns-clause-any_order : goal.returns-clause-any_order
returns-clause-any_order c = record {
  all = refl;
  to = chip_block (1 ∷ 0 ∷ []);
  found = exchanged;
  put = exchanged;
  good = λ c lt. refl;
  reserved = λ c le lt. absurd (omega (arith, le, lt));
  others = λ c le lt. absurd (omega (arith, le, lt));
}

good_first : (c : ℕ) → c < 1 → is_marked (true ∷ false ∷ []) (chip_block (1 ∷ 0 ∷ []) c) ≡ false
good_first zero lt = refl
good_first (suc c) lt = absurd (omega (arith, lt))

bad_second : (c : ℕ) → 1 ≤ c → c < 2 → is_marked (true ∷ false ∷ []) (chip_block (1 ∷ 0 ∷ []) c) ≡ true
bad_second zero le lt = absurd (omega (arith, le))
bad_second (suc zero) le lt = refl
bad_second (suc (suc c)) le lt = absurd (omega (arith, lt))

pub returns-clause-bad_last : goal.returns-clause-bad_last
returns-clause-bad_last c = record {
  all = refl;
  to = chip_block (1 ∷ 0 ∷ []);
  found = exchanged;
  put = exchanged;
  good = good_first;
  reserved = λ c le lt. absurd (omega (arith, le, lt));
  others = bad_second;
}
