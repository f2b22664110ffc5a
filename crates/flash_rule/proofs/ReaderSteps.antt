-- The readers' steps on a pin word: pin and unpin.
use Rattle.flash_rule.proofs.Words.{◌≡◌, ◌≢◌, ℕ, ◌*◌, ◌+◌, ◌-◌, ◌%◌, ◌^◌, ◌<◌, ◌≤◌, ⊎_elim, ne_eqb, true, false, List, length, set, sym, refl, ap, ◌∙◌, subst}
use Rattle.flash_rule.proofs.Words.{arith, length-set, get_or, get_or-set_same, get_or-set_other, none, step, keeps, Allows, Numbers, pin_word, pin_index}
use Rattle.flash_rule.proofs.Words.{MapWord, PinWord, READER, Owned, Pin, Clear, Candidate, Accepted, Stray, View, one_if, is_pass, pin_is_on, pins_on, sum_of}
use Rattle.flash_rule.proofs.Words.{World, put, age_of, Intact, IsCandidate, LawfulPin, LawfulOwned, LawfulView, Lawful, Onward, Ruled, Sitter, Pinned, IsOn}
use Rattle.flash_rule.proofs.Words.{pin_told, unpin_told, ◌==◌, owned_at, Some, Work, Source, LawfulWork, LawfulSource, ◌⊎◌}
use Rattle.flash_rule.proofs.{Ceding.ceded_read, Points.clash, Points.eq_self, Points.put_all, Points.put_here}
use Rattle.flash_rule.proofs.Ruling.{Found, ruled_as, ruled_plus}
use Rattle.flash_rule.proofs.Still.{stays_onward, sum_set, ages_bounded, pass_numbers}
use Rattle.flash_rule.proofs.Frames.{counted, knowledge_kept, owner_kept, state_fits}
use Rattle.flash_rule.proofs.OwnSteps.{deeds, moved, pin_moves, block_turned, pin_turned_nameable}
use Rattle.flash_rule.proofs.Owning.{source_with, work_with, Seated, view_of}
use Rattle.geometry.proofs.WordBits.{takes_off, reads}

module _ {z : Numbers} {g : World} {vs : List View} {id : ℕ} {v : View} (sat : Seated z g vs id v) (b readers : ℕ)
    (pin : Pin) (known : List ℕ) (pass : is_pass v.role ≡ true) (low : b < z.blocks) where
  abbrev pub read_state : PinWord
  read_state = record (g.pins b) { readers = readers }

  abbrev pub reader : View
  reader = record v { pin = pin; known = known }

  abbrev pub read_world : World
  read_world = moved g b read_state (g.owner b)

  pub read_onward : Onward z g read_world id id
  read_onward =
      pin_moves z g id b read_state (g.owner b)
      (stays_onward (g.pins b) read_state refl refl (omega arith))
      (λ _ _. (refl, refl, refl, refl))

  -- an owned block, whoever reads it
  owned_read : (c : ℕ) (o : Owned) → LawfulOwned z g id v.work v.cleared v.wiped c o → LawfulOwned z read_world id v.work v.cleared v.wiped c o
  owned_read c o h =
      let owner = put_all g.owner b (g.owner b) (λ j x. x ≡ g.owner j) refl (λ j _. refl) c in
      let P : ℕ → PinWord → Type 0 = λ j p. (p.phase ≡ (g.pins j).phase) × (p.generation ≡ (g.pins j).generation) × (p.written ≡ (g.pins j).written) in
      let same = put_all g.pins b read_state P (refl, refl, refl) (λ j _. (refl, refl, refl)) c in
      record {
        block = h.block;
        low = h.low;
        owner = owner ∙ h.owner;
        owned = h.owned;
        phase = same.0 ∙ h.phase;
        generation = same.1 ∙ h.generation;
        written = same.2 ∙ h.written;
        rest = h.rest;
        dead = h.dead;
        clean = h.clean;
      }

  -- a pass's pin changes, and with it one block's readers
  pub reader_moves : length known ≡ z.blocks → LawfulPin z read_world known pin → ((c : ℕ) → c < z.blocks → get_or known c 0 ≤ age_of (g.pins c))
      → readers + pins_on b v ≡ (g.pins b).readers + pins_on b reader
      → ((c : ℕ) → c ≢ b → pins_on c reader ≡ pins_on c v) → Lawful z read_world (set vs id reader)
  reader_moves long lawful ages here there =
      let h = view_of sat in
      let block = sat.law.blocks b low in
      let g' = read_world in
      let q = read_state in
      let on = read_onward in
      let knows = knowledge_kept on sat in
      let length_is : is_pass v.role ≡ true → length known ≡ z.blocks = λ _. long in
      let no_pin : is_pass v.role ≡ false → pin ≡ Clear = clash pass in
      let known_low : (c : ℕ) → c < z.blocks → get_or known c 0 ≤ age_of (g'.pins c) = grind arith in
      let owned : (c : ℕ) (o : Owned) → owned_at c v.owns ≡ Some o → LawfulOwned z g' id v.work v.cleared v.wiped c o = λ c o own.
      owned_read c o (h.holding.owned c o own) in
      let work : (w : Work) → v.work ≡ Some w → LawfulWork z g' v.owns w = λ w is. let k = h.holding.work w is in work_with k k.own (λ _. refl) in
      let source : (x : Source) → v.source ≡ Some x → LawfulSource z g' v.owns v.cleared x = λ x is.
      let k = h.holding.source x is in source_with k k.own refl (λ _. refl) in
      let own : LawfulView z g' id reader = assumption (length_is, no_pin, known_low, lawful, owned, work, source, knows, h) in
      pin_turned_nameable sat reader b q (g.owner b) (deeds g) on own
      (λ named. (refl, named, omega arith))
      (block_turned sat reader b q (g.owner b) (deeds g) low here block.written block.generation block.free block.rest
      (λ owned. owner_kept sat reader block owned refl (λ o is. (o, is))))
      there (λ c _ o is. (o, is)) refl (ceded_read sat reader refl b q refl refl refl)

-- ---- what a pin finds
intact_or_not : (p : PinWord) (n : ℕ) → Intact p n ⊎ (¬ Intact p n)
intact_or_not p n = grind arith

on_here : (pin : Pin) (b : ℕ) → IsOn pin b → pin_is_on b pin ≡ true
on_here pin b on = grind arith

on_else : (pin : Pin) (b j : ℕ) → IsOn pin b → j ≢ b → pin_is_on j pin ≡ false
on_else pin b j on unlike = grind arith

-- one of them is set
known_set : (g : World) (known : List ℕ) (b n : ℕ) → b < length known → ((j : ℕ) → j < n → get_or known j 0 ≤ age_of (g.pins j)) → (j : ℕ) → j < n
    → get_or (set known b (age_of (g.pins b))) j 0 ≤ age_of (g.pins j)
known_set g known b n in_range ages j below = grind (arith, get_or-set_same, get_or-set_other)

-- ---- pin
module _ {z : Numbers} {g : World} {vs : List View} {id : ℕ} {v : View} {m : MapWord} {value : List ℕ}
    (sat : Seated z g vs id v) (pass : is_pass v.role ≡ true) (pin : v.pin ≡ Candidate m value)
    (low : m.block < z.blocks) where
  abbrev pub pinned_state : PinWord
  pinned_state = record (g.pins m.block) { readers = (g.pins m.block).readers + 1 }

  -- what a pin makes of the pass, if it found this word
  abbrev pub Pins : ℕ → Type 0
  Pins n = (w : View) × Lawful z (moved g m.block pinned_state (g.owner m.block)) (set vs id w) × Pinned v m value n w

  candidate : IsCandidate z g v.known m value
  candidate = subst (λ (x : Pin). LawfulPin z g v.known x) pin (view_of sat).knowledge.pin

  none_yet : (j : ℕ) → pins_on j v ≡ 0
  none_yet j = ap (λ (x : Pin). one_if (pin_is_on j x)) pin

  only_here : (j : ℕ) → j ≢ m.block → one_if (m.block == j) ≡ pins_on j v
  only_here j unlike = ap one_if (ne_eqb m.block j (λ e. unlike (sym e))) ∙ sym (none_yet j)

  bound : (known : List ℕ) → length known ≡ z.blocks → ((c : ℕ) → c < z.blocks → get_or known c 0 ≤ age_of (g.pins c))
      → sum_of known ≤ v.numbers.blocks * (2 * v.numbers.endurance)
  bound known long ages =
      let P : Numbers → Type 0 = λ y. sum_of known ≤ y.blocks * (2 * y.endurance) in
      subst P (sym (pass_numbers (view_of sat).kind pass)) (ages_bounded sat.law known long ages)

  pins_intact : (n : ℕ) → n ≡ pin_word (g.pins m.block) → Intact (g.pins m.block) m.generation → Pins n
  pins_intact n found intact =
      let h = view_of sat in
      let q = pinned_state in
      let long = h.kind.known pass in
      let ages = h.knowledge.known in
      let c = candidate in
      let page = c.page intact in
      let here : put g.pins m.block q m.block ≡ q = put_here g.pins m.block q in
      let one : one_if (m.block == m.block) ≡ 1 = ap one_if (eq_self m.block) in
      let none = none_yet m.block in (
        reader sat m.block q.readers (Accepted m value) v.known pass low,
        reader_moves sat m.block q.readers (Accepted m value) v.known pass low long
            (grind arith) ages (omega arith) only_here,
        record {
          state = g.pins m.block;
          fits = state_fits sat.law m.block low;
          found = found;
          changed = refl;
          accepted = λ _. (refl, refl);
          stray = λ not. absurd (not intact);
          rises = omega arith;
          bounded = bound v.known long ages;
        },
      )

  pins_stray : (n : ℕ) → n ≡ pin_word (g.pins m.block) → ¬ Intact (g.pins m.block) m.generation → Pins n
  pins_stray n found not =
      let h = view_of sat in
      let p : PinWord = g.pins m.block in
      let long : length v.known ≡ z.blocks = h.kind.known pass in
      let in_range : m.block < length v.known = omega arith in
      let known : List ℕ = set v.known m.block (age_of p) in
      let long' : length known ≡ z.blocks = length-set v.known m.block (age_of p) ∙ long in
      let ages = known_set g v.known m.block z.blocks in_range h.knowledge.known in
      let c = candidate in
      let reached = c.reached in
      let older : 2 * m.generation < age_of p = grind arith in
      let was = c.age in
      let sums = sum_set v.known m.block (age_of p) in_range in
      let more : sum_of v.known < sum_of known = omega arith in
      let one : one_if (m.block == m.block) ≡ 1 = ap one_if (eq_self m.block) in
      let none = none_yet m.block in (
        reader sat m.block (p.readers + 1) (Stray m.block) known pass low,
        reader_moves sat m.block (p.readers + 1) (Stray m.block) known pass low long' low ages (omega arith) only_here,
        record {
          state = p;
          fits = state_fits sat.law m.block low;
          found = found;
          changed = refl;
          accepted = λ intact. absurd (not intact);
          stray = λ _. (refl, more);
          rises = omega arith;
          bounded = bound known long' ages;
        },
      )

module _ (z : Numbers) (slots id : ℕ) (me : Sitter) where
  -- a pass adds a reader to its candidate's block
  pub pin_allowed : (m : MapWord) (value : List ℕ) → is_pass me.0.role ≡ true → me.0.pin ≡ Candidate m value → m.block < z.blocks
      → Allows (Ruled z) slots id me (pin_index z m.block) (λ n. (n + READER) % 2 ^ 64) (pin_told (step slots (pin_index z m.block) READER 0 none) me)
  pin_allowed m value pass is low t (g, fits, law) _ at _ =
      let on : Found z id me t g = record { fits = fits; sat = record { law = law; at = at } } in
      let b : ℕ = m.block in
      let v : View = me.0 in
      let p : PinWord = g.pins b in
      let n : ℕ = get_or t.words (pin_index z b) 0 in
      let found : n ≡ pin_word p = fits.blocks b low in
      let its : Pins on.sat pass is low n =
      ⊎_elim (λ (intact : Intact p m.generation). pins_intact on.sat pass is low n found intact)
      (λ (not : ¬ Intact p m.generation). pins_stray on.sat pass is low n found not) (intact_or_not p m.generation) in
      let ruled = ruled_plus on b low (record p { readers = p.readers + 1 }) (g.owner b) (deeds g) its.0 READER (reads p) its.1 in (
        its.0,
        keeps,
        tt,
        ruled,
        (
          refl,
          λ m' value' is' _.
              let both : Candidate m value ≡ Candidate m' value' = sym is ∙ is' in
              let ms : m ≡ m' = grind (arith, both) in
              let values : value ≡ value' = grind (arith, both) in
              subst (λ (x : MapWord × List ℕ). Pinned v x.0 x.1 n its.0) (λ i. (ms i, values i)) its.2,
        ),
      )

  -- a pass takes its reader off a block
  pub unpin_allowed : (b : ℕ) → is_pass me.0.role ≡ true → IsOn me.0.pin b → b < z.blocks → me.0.numbers ≡ z
      → Allows (Ruled z) slots id me (pin_index z b) (λ n. (n + (2 ^ 64 - READER)) % 2 ^ 64) (unpin_told (step slots (pin_index z b) READER 0 none) me)
  unpin_allowed b pass pinned low numbers t (g, fits, law) _ at _ =
      let on : Found z id me t g = record { fits = fits; sat = record { law = law; at = at } } in
      let v : View = me.0 in
      let p : PinWord = g.pins b in
      let k : ℕ = pin_index z b in
      let n : ℕ = get_or t.words k 0 in
      let h = view_of on.sat in
      let here = on_here v.pin b pinned in
      let readers = counted on.sat b here low in
      let q : PinWord = record p { readers = p.readers - 1 } in
      let lawful = reader_moves on.sat b q.readers Clear v.known pass low (h.kind.known pass) tt h.knowledge.known
      (let one : pins_on b v ≡ 1 = ap one_if here in omega arith) (λ j unlike. sym (ap one_if (on_else v.pin b j pinned unlike))) in
      let back : pin_word q + READER ≡ pin_word p = omega arith in
      let now : (n + (2 ^ 64 - READER)) % 2 ^ 64 ≡ pin_word q =
      ap (λ (y : ℕ). (y + (2 ^ 64 - READER)) % 2 ^ 64) (fits.blocks b low) ∙ takes_off p q READER (state_fits law b low) back (omega arith) in
      let w : View = record v { pin = Clear } in
      (w, keeps, tt, ruled_as on b low q (g.owner b) (deeds g) w ((n + (2 ^ 64 - READER)) % 2 ^ 64) now lawful, (refl, λ c _ _. refl))
