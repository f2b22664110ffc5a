-- The stock in worked examples, computed: small devices with blocks of two pages.
use Rattle.std.proofs.Common.{◌≡◌, ℕ, List, [], ◌∷◌, ◌++◌, map, Option, None, Some, refl, fold}
use Rattle.std.specs.Option.{option_and_then, option_map}
use Rattle.geometry.specs.{Greedy.greedy_of, History.Call, History.Write, History.Trim}
use Rattle.ftl_one.specs.Stock.{Stock, opening_of, next_of, live_of}

-- the stock of a device after a list of calls, or none where one is refused
abbrev played : ℕ → ℕ → List Call → Option Stock
played blocks endurance calls = fold (λ stock call. option_and_then (λ k. next_of 2 endurance k call) stock) (Some (opening_of blocks)) calls

abbrev write : ℕ → Call
write s = Write 0 s []

abbrev trim : ℕ → Call
trim s = Trim 0 s

-- pages programmed, pages relocated, erase commands
abbrev totals : Option Stock → Option (ℕ × ℕ × ℕ)
totals k = option_map (λ stock. (stock.programs, stock.copies, stock.erases)) k

-- the live pages of each block
abbrev lives : Option Stock → Option (List ℕ)
lives k = option_map (λ stock. map live_of stock.blocks) k

-- a victim with no live page
pub no_live_page : totals (played 3 10 (map write (0 ∷ (1 ∷ (0 ∷ (1 ∷ (2 ∷ []))))))) ≡ Some (5, 0, 1)
unfolding greedy_of
no_live_page = refl

-- one page is relocated
pub one_relocated : totals (played 3 10 (map write (0 ∷ (1 ∷ (2 ∷ (0 ∷ (2 ∷ []))))))) ≡ Some (5, 1, 1)
unfolding greedy_of
one_relocated = refl

-- trims use up nothing
pub trims_are_free : totals (played 3 10 (write 0 ∷ (trim 0 ∷ (trim 0 ∷ [])))) ≡ Some (1, 0, 0)
trims_are_free = refl

-- with an endurance of one the only erase fails, and the seventh write is refused
pub worn_by_one_erase : totals (played 3 1 (map write (0 ∷ (1 ∷ (0 ∷ (1 ∷ (2 ∷ (0 ∷ [])))))))) ≡ Some (6, 0, 1)
unfolding greedy_of
worn_by_one_erase = refl

pub then_refused : totals (played 3 1 (map write (0 ∷ (1 ∷ (0 ∷ (1 ∷ (2 ∷ (0 ∷ (1 ∷ []))))))))) ≡ None
unfolding greedy_of
then_refused = refl

-- the greedy choice is the second block
pub second_is_greedy : lives (played 4 10 (map write (0 ∷ (1 ∷ (2 ∷ (2 ∷ (2 ∷ (2 ∷ [])))))))) ≡ Some (2 ∷ (0 ∷ (1 ∷ (0 ∷ []))))
second_is_greedy = refl

pub second_is_collected : totals (played 4 10 (map write (0 ∷ (1 ∷ (2 ∷ (2 ∷ (2 ∷ (2 ∷ (0 ∷ []))))))))) ≡ Some (7, 0, 1)
unfolding greedy_of
second_is_collected = refl

-- on a tie the lowest is taken
pub tie : lives (played 4 10 (map write (0 ∷ (1 ∷ (1 ∷ (2 ∷ (2 ∷ (2 ∷ [])))))))) ≡ Some (1 ∷ (1 ∷ (1 ∷ (0 ∷ []))))
tie = refl

pub lowest_is_collected : totals (played 4 10 (map write (0 ∷ (1 ∷ (1 ∷ (2 ∷ (2 ∷ (2 ∷ (1 ∷ []))))))))) ≡ Some (7, 1, 1)
unfolding greedy_of
lowest_is_collected = refl

-- with an endurance of two twelve writes succeed over four erases, and the thirteenth is refused
abbrev in_turn : List ℕ
in_turn = 0 ∷ (1 ∷ (0 ∷ (1 ∷ (0 ∷ (1 ∷ (0 ∷ (1 ∷ (0 ∷ (1 ∷ (0 ∷ (1 ∷ [])))))))))))

pub twelve_writes : totals (played 3 2 (map write in_turn)) ≡ Some (12, 0, 4)
unfolding greedy_of
twelve_writes = refl

pub thirteenth_refused : totals (played 3 2 (map write (in_turn ++ 0 ∷ []))) ≡ None
unfolding greedy_of
thirteenth_refused = refl
