-- What each step asks of a seat, by what its call asks: the steps of passes, and those that passes and brooms share.
use Rattle.std.proofs.Common.{◌≡◌, ℕ, ◌+◌, ◌%◌, ◌^◌, ◌-◌, ◌<◌, ◌==◌, true, List, length, Some, None, arith, refl, ap}
use Rattle.std.specs.Int.Bits.{bit_or}
use mathlib.Core.Option.{none}
use prog.Atomic.{either}
use Rattle.atomic_table.specs.{Table.step, declared.shared.Seat.Seat}
use Rattle.geometry.specs.{Limits.Numbers, Limits.table_words_of, Words.FitsMap, Words.map_word, Words.pin_index, Words.page_index}
use Rattle.geometry.specs.declared.words.{MapWord.MapWord, TheConstants.UNMAPPED}
use Rattle.geometry.specs.declared.words.TheConstants.{TAKEN, NEXT_PHASE, PAGE_WRITTEN, READER}
use Rattle.flash_rule.specs.declared.facts.{Owned.Owned, Work.Work, Name.Name, Role.TheVariants.Player, Pin.TheVariants.Candidate, Pin.TheVariants.Accepted}
use Rattle.flash_rule.specs.{Views.is_pass, declared.carried.Carried.Carried, declared.view.View.View}
use Rattle.flash_rule.specs.Plays.{CanPlace, CanPut, CanCount, CanClose, words_in, is_unpinned, look_told, write_told, new_told, trim_told, test_told}
use Rattle.flash_rule.specs.Plays.{take_told, put_told, count_told, close_told, IsOn, pin_told, unpin_told, get_told}
use Rattle.flash_rule.specs.Seats.{lender, lent_note, host_of, giver, given_note, home}
use Rattle.flash_rule.proofs.{OwnSteps.player_of, Places.page_within, ReaderSteps.pin_allowed, ReaderSteps.unpin_allowed}
use Rattle.flash_rule.proofs.Notes.{lends, gives, takes_in, comes_home}
use Rattle.flash_rule.proofs.Steps.{look_allowed, trim_allowed, write_allowed, new_allowed, take_allowed, test_allowed, put_allowed, count_allowed}
use Rattle.flash_rule.proofs.Steps.{close_allowed, get_allowed}
use Rattle.flash_table.specs.{declared.flash.Flash.Flash, declared.pass.Note.Note, Flash.IsNoteOf, Flash.note_view, Flash.device, Steps.IsBack}
use Rattle.flash_table.proofs.Permissions.{IsSeatOf, Asks, AsksSplit, AsksJoin, slots_of, asks, asks_pin, asks_sector, asks_split, asks_join}

-- the next word of a page that is being filled is one of the table's
put_within : (z : Numbers) (v : View) (o : Owned) (i : ℕ) → v.numbers ≡ z → CanPut v o → i ≡ length (words_in v.work o) → o.block < z.blocks
    → page_index z o.block o.written + i < table_words_of z.blocks z.pages z.words z.sectors
put_within z v o i same can here low =
    let pages : v.numbers.pages ≡ z.pages = ap (λ (y : Numbers). y.pages) same in
    let words : v.numbers.words ≡ z.words = ap (λ (y : Numbers). y.words) same in
    let room = can.room in
    let short = can.short in page_within z o.block o.written i low (omega arith) (omega arith)

module _ {f : Flash} {x : Seat (Unit {0}) View} (h : IsSeatOf f x) where
  -- ---- the place of a page's next word
  module _ {start i : ℕ} (o : Owned) (begins : start ≡ page_index (device f) o.block o.written) (next : i ≡ length (words_in x.me.0.work o)) where
    pub put_place : start + i ≡ page_index (device f) o.block o.written + length (words_in x.me.0.work o)
    put_place = λ j. begins j + next j

    pub put_fits : CanPut x.me.0 o → o.block < (device f).blocks → start + i < 2 ^ 64
    put_fits can low =
        let within = put_within (device f) x.me.0 o i h.numbers can next low in
        let table = f.geometry.in_limits.table in omega arith

  -- ---- map words
  pub look_here : (s : ℕ) → is_pass x.me.0.role ≡ true → is_unpinned x.me.0.pin ≡ true → s < (device f).sectors
      → Asks f x s (λ n. n) (look_told (step (slots_of f) s 0 0 none) x.me)
  look_here s pass unpinned low =
      asks_sector h (λ n. n) (look_told (step (slots_of f) s 0 0 none) x.me) s low (look_allowed (device f) (slots_of f) x.id x.me s pass unpinned low)

  pub trim_here : (s : ℕ) → is_pass x.me.0.role ≡ true → s < (device f).sectors
      → Asks f x s (λ _. 0) (trim_told (step (slots_of f) s 0 0 none) x.me)
  trim_here s pass low =
      asks_sector h (λ _. 0) (trim_told (step (slots_of f) s 0 0 none) x.me) s low (trim_allowed (device f) (slots_of f) x.id x.me s pass low)

  pub write_here : (s word : ℕ) (m : MapWord) → is_pass x.me.0.role ≡ true → s < (device f).sectors → word ≡ map_word m → FitsMap m
      → (value : List ℕ) × CanPlace x.me.0 s m value
      → Asks f x s (λ _. word) (write_told (step (slots_of f) s word 0 none) x.me)
  write_here s word m pass low packed fits can =
      asks_sector h (λ _. word) (write_told (step (slots_of f) s word 0 none) x.me) s low
      (write_allowed (device f) (slots_of f) x.id x.me s word m can.0 pass low packed fits can.1)

  pub new_here : (s word : ℕ) (m : MapWord) → is_pass x.me.0.role ≡ true → s < (device f).sectors → word ≡ map_word m → FitsMap m
      → (value : List ℕ) × CanPlace x.me.0 s m value
      → Asks f x s (λ n. either (n == UNMAPPED) word n) (new_told (step (slots_of f) s UNMAPPED word none) x.me)
  new_here s word m pass low packed fits can =
      asks_sector h (λ n. either (n == UNMAPPED) word n) (new_told (step (slots_of f) s UNMAPPED word none) x.me) s low
      (new_allowed (device f) (slots_of f) x.id x.me s word m can.0 pass low packed fits can.1)

  -- ---- pin words
  pub test_here : {word : ℕ} (b : ℕ) → b < (device f).blocks → word ≡ pin_index (device f) b
      → Asks f x word (λ n. n) (test_told (step (slots_of f) word 0 0 none) x.me)
  test_here b low at =
      asks_pin h (λ n. n) (λ w. test_told (step (slots_of f) w 0 0 none) x.me) b low at (test_allowed (device f) (slots_of f) x.id x.me b h.player low)

  pub take_here : {word : ℕ} (b : ℕ) → b < (device f).blocks → word ≡ pin_index (device f) b
      → Asks f x word (λ n. bit_or n TAKEN) (take_told (step (slots_of f) word TAKEN 0 none) x.me)
  take_here b low at =
      asks_pin h (λ n. bit_or n TAKEN) (λ w. take_told (step (slots_of f) w TAKEN 0 none) x.me) b low at
      (take_allowed (device f) (slots_of f) x.id x.me b h.player low)

  pub count_here : {word : ℕ} (o : Owned) (w : Work) → o.block < (device f).blocks → word ≡ pin_index (device f) o.block → CanCount x.me.0 o w
      → Asks f x word (λ n. (n + PAGE_WRITTEN) % 2 ^ 64) (count_told (step (slots_of f) word PAGE_WRITTEN 0 none) x.me)
  count_here o w low at can =
      asks_pin h (λ n. (n + PAGE_WRITTEN) % 2 ^ 64) (λ i. count_told (step (slots_of f) i PAGE_WRITTEN 0 none) x.me) o.block low at
      (count_allowed (device f) (slots_of f) x.id x.me o w h.player h.numbers can)

  pub close_here : {word : ℕ} (o : Owned) → o.block < (device f).blocks → word ≡ pin_index (device f) o.block → CanClose x.me.0 o
      → Asks f x word (λ n. (n + NEXT_PHASE) % 2 ^ 64) (close_told (step (slots_of f) word NEXT_PHASE 0 none) x.me)
  close_here o low at can =
      asks_pin h (λ n. (n + NEXT_PHASE) % 2 ^ 64) (λ w. close_told (step (slots_of f) w NEXT_PHASE 0 none) x.me) o.block low at
      (close_allowed (device f) (slots_of f) x.id x.me o h.numbers can)

  pub pin_here : {word : ℕ} (m : MapWord) → m.block < (device f).blocks → word ≡ pin_index (device f) m.block → is_pass x.me.0.role ≡ true
      → (value : List ℕ) × (x.me.0.pin ≡ Candidate m value)
      → Asks f x word (λ n. (n + READER) % 2 ^ 64) (pin_told (step (slots_of f) word READER 0 none) x.me)
  pin_here m low at pass can =
      asks_pin h (λ n. (n + READER) % 2 ^ 64) (λ w. pin_told (step (slots_of f) w READER 0 none) x.me) m.block low at
      (pin_allowed (device f) (slots_of f) x.id x.me m can.0 pass can.1 low)

  pub unpin_here : {word : ℕ} (b : ℕ) → b < (device f).blocks → word ≡ pin_index (device f) b → is_pass x.me.0.role ≡ true → IsOn x.me.0.pin b
      → Asks f x word (λ n. (n + (2 ^ 64 - READER)) % 2 ^ 64) (unpin_told (step (slots_of f) word READER 0 none) x.me)
  unpin_here b low at pass on =
      asks_pin h (λ n. (n + (2 ^ 64 - READER)) % 2 ^ 64) (λ w. unpin_told (step (slots_of f) w READER 0 none) x.me) b low at
      (unpin_allowed (device f) (slots_of f) x.id x.me b pass on low h.numbers)

  -- ---- page words
  pub put_here : {word : ℕ} (o : Owned) (w : ℕ) → o.block < (device f).blocks
      → word ≡ page_index (device f) o.block o.written + length (words_in x.me.0.work o) → CanPut x.me.0 o
      → Asks f x word (λ _. w) (λ _. put_told (step (slots_of f) word w 0 none) x.me w)
  put_here o w low at can =
      asks h (λ _. w) (λ i _. put_told (step (slots_of f) i w 0 none) x.me w)
      (put_within (device f) x.me.0 o (length (words_in x.me.0.work o)) h.numbers can refl low) at
      (put_allowed (device f) (slots_of f) x.id x.me o w h.player h.numbers can)

  pub get_here : {word : ℕ} (m : MapWord) (i : ℕ) → m.block < (device f).blocks → m.page < (device f).pages → i < (device f).words
      → word ≡ page_index (device f) m.block m.page + i → (value : List ℕ) × (x.me.0.pin ≡ Accepted m value)
      → Asks f x word (λ n. n) (get_told (step (slots_of f) word 0 0 none) x.me)
  get_here m i block page low at can =
      asks h (λ n. n) (λ w. get_told (step (slots_of f) w 0 0 none) x.me) (page_within (device f) m.block m.page i block page (omega arith)) at
      (get_allowed (device f) (slots_of f) x.id x.me m can.0 i h.numbers can.1 block page low)

  -- ---- notes
  pub lend_here : x.me.0.whole ≡ true → x.me.0.guest ≡ None → AsksSplit f x (lender x.me.0) (lent_note x.me.0)
  lend_here whole alone = let t = player_of x.me.0.role h.player in
      asks_split h (lender x.me.0) (lent_note x.me.0) (lends (device f) x.id x.me.0 t.0 t.1 whole alone)

  pub give_here : (m : Name) × (x.me.0.guest ≡ Some m) × (¬ (x.me.0.role ≡ Player m)) → AsksSplit f x (giver x.me.0) (given_note x.me.0)
  give_here g = let t = player_of x.me.0.role h.player in
      asks_split h (giver x.me.0) (given_note x.me.0) (gives (device f) x.id x.me.0 t.0 t.1 g.0 g.1 g.2)

  pub take_in_here : (n : Note) → IsNoteOf f n → (c : Carried) × ((note_view n).copy ≡ Some c) × ((note_view n).guest ≡ Some c.of) → x.me.0.whole ≡ true
      → AsksJoin f x n (host_of x.me.0 (note_view n))
  take_in_here n note lent whole = let t = player_of x.me.0.role h.player in
      asks_join h n (host_of x.me.0 (note_view n)) note
      (takes_in (device f) x.id n.seat.id x.me.0 (note_view n) t.0 lent.0.of lent.0 t.1 note.role lent.2 lent.1 whole refl)

  pub home_here : (n : Note) → IsNoteOf f n → IsBack x.me.0 (note_view n) → AsksJoin f x n (home x.me.0 (note_view n))
  home_here n note t =
      asks_join h n (home x.me.0 (note_view n)) note (comes_home (device f) x.id n.seat.id x.me.0 (note_view n) t.0 t.0 t.1 t.2 note.role t.3 t.4 refl t.5)
