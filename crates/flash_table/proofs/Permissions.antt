-- What the rule allows at the device's numbers and at a place of its own is what a step asks, at the table's numbers and at the place that the code
-- computes.
use Rattle.std.proofs.Common.{◌≡◌, ℕ, ◌<◌, true, [], sym, refl, ap, subst, arith}
use Rattle.atomic_table.specs.{Table.Allows, Table.Splits, Table.Joins, declared.shared.Seat.Seat}
use Rattle.geometry.specs.{Geometry.numbers_of, Words.pin_index, Limits.Numbers, Limits.table_words_of}
use Rattle.flash_rule.specs.{declared.facts.Role.Role, declared.view.View.View, Views.is_player, Plays.Sitter, Seats.Ruled, Seats.gone}
use Rattle.flash_rule.proofs.{Places.pin_within, Still.pass_of}
use Rattle.flash_table.specs.declared.{flash.Flash.Flash, pass.Pass.Pass, pass.Note.Note, broom_seat.BroomSeat.BroomSeat}
use Rattle.flash_table.specs.Flash.{IsPassOf, IsBroomOf, IsNoteOf, note_view, device}

-- A seat of this device, of a pass or of a broom
pub record IsSeatOf (f : Flash) (x : Seat (Unit {0}) View) : Type 0 where
  pub table : x.table_id ≡ f.table.shared.table_id
  pub player : is_player x.me.0.role ≡ true
  pub numbers : x.me.0.numbers ≡ device f

pub of_pass : {f : Flash} {p : Pass} → IsPassOf f p → IsSeatOf f p.seat
of_pass {f} {p} h = record { table = h.table; player = ap is_player (pass_of p.seat.me.0.role h.role).1; numbers = h.numbers }

pub of_broom : {f : Flash} {s : BroomSeat} → IsBroomOf f s → IsSeatOf f s.seat
of_broom h = record { table = h.table; player = ap is_player h.role.1; numbers = h.numbers }

-- which player a seat is, and of a device of which numbers
abbrev pub whose : View → Role × Numbers
whose v = (v.role, v.numbers)

-- how many slots the table has
abbrev pub slots_of : Flash → ℕ
slots_of f = f.table.shared.table_id.slots

-- the place is one of the table's words
abbrev pub IsPlace : Flash → ℕ → Type 0
IsPlace f place = place < table_words_of (device f).blocks (device f).pages (device f).words (device f).sectors

-- what a step of a seat asks: the word becomes what `change` makes of it, and the seat is told this
abbrev pub Asks : (f : Flash) (x : Seat (Unit {0}) View) (word : ℕ) (change : ℕ → ℕ) (told : ℕ → Sitter → Type 0) → Type 0
Asks f x word change told = (x.table_id ≡ f.table.shared.table_id) × (word < f.table.shared.table_id.words)
    × Allows (Ruled (numbers_of f.table.shared.key)) (slots_of f) x.id x.me word change told

-- what the cut of a seat in two asks, and the joining of a note to it
abbrev pub AsksSplit : (f : Flash) (x : Seat (Unit {0}) View) (left right : View) → Type 0
AsksSplit f x left right = (x.table_id ≡ f.table.shared.table_id) × (0 < f.table.shared.table_id.words)
    × Splits (Ruled (numbers_of f.table.shared.key)) x.id x.me.0 left right

abbrev pub AsksJoin : (f : Flash) (x : Seat (Unit {0}) View) (n : Note) (both : View) → Type 0
AsksJoin f x n both = (x.table_id ≡ f.table.shared.table_id) × (n.seat.table_id ≡ f.table.shared.table_id) × (n.seat.me.1 ≡ [])
    × (0 < f.table.shared.table_id.words) × Joins (Ruled (numbers_of f.table.shared.key)) x.id x.me.0 n.seat.id (note_view n) both gone

module _ {f : Flash} {x : Seat (Unit {0}) View} (h : IsSeatOf f x) where
  -- a step that brings numbers beside its place
  pub asks_with : {A : Type 0} (change : A → ℕ → ℕ) (told : ℕ → A → ℕ → Sitter → Type 0) {word place : ℕ} {a b : A} → IsPlace f place → word ≡ place
      → a ≡ b → Allows (Ruled (device f)) (slots_of f) x.id x.me place (change b) (told place b) → Asks f x word (change a) (told word a)
  asks_with {A} change told within is same law =
      let P : Numbers × ℕ × A → Type 0 = λ t. Allows (Ruled t.0) (slots_of f) x.id x.me t.1 (change t.2) (told t.1 t.2) in
      let size = f.size in (h.table, omega arith, subst P (λ i. (sym (ap numbers_of f.key) i, sym is i, sym same i)) law)

  pub asks : (change : ℕ → ℕ) (told : ℕ → ℕ → Sitter → Type 0) {word place : ℕ} → IsPlace f place → word ≡ place
      → Allows (Ruled (device f)) (slots_of f) x.id x.me place change (told place) → Asks f x word change (told word)
  asks change told within is law = asks_with (λ (_ : ℕ). change) (λ w _. told w) {b = 0} within is refl law

  -- a step on a pin word
  pub asks_pin : (change : ℕ → ℕ) (told : ℕ → ℕ → Sitter → Type 0) {word : ℕ} (b : ℕ) → b < (device f).blocks → word ≡ pin_index (device f) b
      → Allows (Ruled (device f)) (slots_of f) x.id x.me (pin_index (device f) b) change (told (pin_index (device f) b))
      → Asks f x word change (told word)
  asks_pin change told b low is law = asks change told (pin_within (device f) b low) is law

  -- a step on a map word
  pub asks_sector : (change : ℕ → ℕ) (told : ℕ → Sitter → Type 0) (s : ℕ) → s < (device f).sectors
      → Allows (Ruled (device f)) (slots_of f) x.id x.me s change told → Asks f x s change told
  asks_sector change told s low law = asks change (λ _. told) {place = s} (omega arith) refl law

  -- ---- notes
  some_word : 0 < f.table.shared.table_id.words
  some_word = let size = f.size in let some_sector = f.geometry.in_limits.sectors_low in omega arith

  pub asks_split : (left right : View) → Splits (Ruled (device f)) x.id x.me.0 left right → AsksSplit f x left right
  asks_split left right law =
      (h.table, some_word, subst (λ z. Splits (Ruled z) x.id x.me.0 left right) (sym (ap numbers_of f.key)) law)

  pub asks_join : (n : Note) (both : View) → IsNoteOf f n → Joins (Ruled (device f)) x.id x.me.0 n.seat.id (note_view n) both gone → AsksJoin f x n both
  asks_join n both note law =
      (h.table, note.table, n.bare, some_word, subst (λ z. Joins (Ruled z) x.id x.me.0 n.seat.id (note_view n) both gone) (sym (ap numbers_of f.key)) law)
