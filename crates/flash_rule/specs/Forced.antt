-- What a step on a pin word has to make of it. A play records for its seat the word found, and not what was done to it; but the rule ties
-- each block's state to what the seats know, so only one operation is possible for each play.
use Rattle.std.specs.Prelude.{◌≡◌, ℕ, ◌+◌, ◌-◌, ◌%◌, ◌^◌, ◌<◌, ◌==◌, bit_or, true, List, length, slice_index}
use prog.Atomic.{either}
use mathlib.Core.Option.{some, none}
use lib.ListN.{get_elem?}
use Rattle.atomic_table.specs.Table.{State, step, Allows}
use Rattle.geometry.specs.Limits.{Numbers}
use Rattle.geometry.specs.Words.{pin_word, freed_added, kept_added, pin_index}
use Rattle.geometry.specs.declared.words.MapWord.{MapWord}
use Rattle.geometry.specs.declared.words.PinWord.{PinWord}
use Rattle.geometry.specs.declared.words.TheConstants.{READER, PAGE_WRITTEN, NEXT_PHASE, TAKEN}
use Rattle.flash_rule.specs.declared.facts.Owned.{Owned}
use Rattle.flash_rule.specs.declared.facts.Pin.TheVariants.{Candidate}
use Rattle.flash_rule.specs.declared.facts.Work.{Work}
use Rattle.flash_rule.specs.declared.view.View.{View}
use Rattle.flash_rule.specs.Views.{is_pass, is_player, is_broom}
use Rattle.flash_rule.specs.Seats.{Ruled}
use Rattle.flash_rule.specs.Plays.{Sitter, IsOn, CanCount, CanClose, test_told, take_told, pin_told, unpin_told, count_told, close_told}
use Rattle.flash_rule.specs.BroomPlays.{CanClaim, CanDrain, CanCondemn, CanRenew, CanRetire, claim_told, drain_told}
use Rattle.flash_rule.specs.BroomPlays.{condemn_told, freed_told, kept_told, retired_told}

-- The table meets the rule and has this many slots; this is the seat that makes the step; and word k fits into 64 bits
pub record SitsAt (z : Numbers) (slots id : ℕ) (me : Sitter) (k : ℕ) (t : State (Unit {0}) View) : Type 0 where
  pub ruled : Ruled z t
  pub homes : length t.homes ≡ slots
  pub seat : get_elem? t.views id ≡ some me.0
  pub low : slice_index t.words k < 2 ^ 64

-- Each operation on word k that the rule allows this seat and that records this much for it makes of the word found exactly what f makes of
-- it
abbrev pub Forces : Numbers → ℕ → ℕ → Sitter → ℕ → (ℕ → ℕ) → (ℕ → Sitter → Type 0) → Type 0
Forces z slots id me k f told =
    (other : ℕ → ℕ) → Allows (Ruled z) slots id me k other told → (t : State (Unit {0}) View) → SitsAt z slots id me k t
    → other (slice_index t.words k) ≡ f (slice_index t.words k)

-- the law, for the numbers of each device, each number of slots, each seat and each pair of operands
abbrev pub AtEach : (Numbers → ℕ → ℕ → Sitter → ℕ → ℕ → Type 0) → Type 0
AtEach law = (z : Numbers) (slots id : ℕ) (me : Sitter) (first second : ℕ) → law z slots id me first second

-- the sum of a word and a number, modulo 2^64
abbrev pub plus : ℕ → ℕ → ℕ
plus x n = (n + x) % 2 ^ 64

-- an exchange: the word of a block in this state becomes that of the next phase, and any other word stays
abbrev pub to_next_phase : PinWord → ℕ → ℕ
to_next_phase p n = either (n == pin_word p) (pin_word p + NEXT_PHASE) n

-- A load before a take leaves the word
abbrev pub TestLeaves : Type 0
TestLeaves = AtEach (λ z slots id me x y. (b : ℕ) → is_player me.0.role ≡ true → b < z.blocks
    → Forces z slots id me (pin_index z b) (λ n. n) (test_told (step slots (pin_index z b) x y none) me))

-- A take sets the taking bit
abbrev pub TakeSets : Type 0
TakeSets = AtEach (λ z slots id me x y. (b : ℕ) → is_player me.0.role ≡ true → b < z.blocks
    → Forces z slots id me (pin_index z b) (λ n. bit_or n TAKEN) (take_told (step slots (pin_index z b) x y none) me))

-- A pin adds one reader
abbrev pub PinAdds : Type 0
PinAdds = AtEach (λ z slots id me x y. (m : MapWord) (value : List ℕ) → is_pass me.0.role ≡ true → me.0.pin ≡ Candidate m value → m.block < z.blocks
    → Forces z slots id me (pin_index z m.block) (plus READER) (pin_told (step slots (pin_index z m.block) x y none) me))

-- An unpin subtracts one reader
abbrev pub UnpinTakesOff : Type 0
UnpinTakesOff = AtEach (λ z slots id me x y. (b : ℕ) → is_pass me.0.role ≡ true → IsOn me.0.pin b → b < z.blocks
    → Forces z slots id me (pin_index z b) (plus (2 ^ 64 - READER)) (unpin_told (step slots (pin_index z b) x y none) me))

-- A count adds one page written
abbrev pub CountAdds : Type 0
CountAdds = AtEach (λ z slots id me x y. (o : Owned) (work : Work) → CanCount me.0 o work
    → Forces z slots id me (pin_index z o.block) (plus PAGE_WRITTEN) (count_told (step slots (pin_index z o.block) x y none) me))

-- A close adds one phase, and nothing to the pages written or to the generation
abbrev pub CloseAdds : Type 0
CloseAdds = AtEach (λ z slots id me x y. (o : Owned) → CanClose me.0 o
    → Forces z slots id me (pin_index z o.block) (plus NEXT_PHASE) (close_told (step slots (pin_index z o.block) x y none) me))

-- A drain adds one phase
abbrev pub DrainAdds : Type 0
DrainAdds = AtEach (λ z slots id me x y. (o : Owned) → CanDrain me.0 o
    → Forces z slots id me (pin_index z o.block) (plus NEXT_PHASE) (drain_told (step slots (pin_index z o.block) x y none) me))

-- A retirement adds one phase
abbrev pub RetireAdds : Type 0
RetireAdds = AtEach (λ z slots id me x y. (o : Owned) → CanRetire me.0 o
    → Forces z slots id me (pin_index z o.block) (plus NEXT_PHASE) (retired_told (step slots (pin_index z o.block) x y none) me))

-- A claim exchanges the expected state for the next phase, and leaves any other word, whatever new word is passed
abbrev pub ClaimExchanges : Type 0
ClaimExchanges = AtEach (λ z slots id me _ y. (b : ℕ) (p : PinWord) → is_broom me.0.role ≡ true → CanClaim me.0 b p
    → Forces z slots id me (pin_index z b) (to_next_phase p) (claim_told (step slots (pin_index z b) (pin_word p) y none) me))

-- A condemn exchanges the expected state for the next phase, and leaves any other word, whatever new word is passed
abbrev pub CondemnExchanges : Type 0
CondemnExchanges = AtEach (λ z slots id me _ y. (b : ℕ) (p : PinWord) → is_broom me.0.role ≡ true → CanCondemn me.0 b p
    → Forces z slots id me (pin_index z b) (to_next_phase p) (condemn_told (step slots (pin_index z b) (pin_word p) y none) me))

-- A wiped block is freed by adding a generation, with no page written; its readers stay
abbrev pub FreeAdds : Type 0
FreeAdds = AtEach (λ z slots id me x y. (o : Owned) → CanRenew me.0 o
    → Forces z slots id me (pin_index z o.block) (plus (freed_added o.written)) (freed_told (step slots (pin_index z o.block) x y none) me))

-- A wiped block is kept by adding a generation and the phase of an open block, with no page written; its readers stay
abbrev pub KeepAdds : Type 0
KeepAdds = AtEach (λ z slots id me x y. (o : Owned) → CanRenew me.0 o
    → Forces z slots id me (pin_index z o.block) (plus (kept_added o.written)) (kept_told (step slots (pin_index z o.block) x y none) me))

-- If adding either of two numbers to some word gives the same word, and both are less than the bound of a word, they are equal: so if an
-- addition is forced, no other number may be added, and none may be subtracted
abbrev pub AdditionsDiffer : Type 0
AdditionsDiffer = (n a x : ℕ) → a < 2 ^ 64 → x < 2 ^ 64 → plus a n ≡ plus x n → a ≡ x
