-- A word after a step on it that keeps the rule, and the block that a step's place is of.
use Rattle.flash_rule.proofs.Words.{◌≡◌, ℕ, ◌+◌, ◌%◌, ◌^◌, ◌<◌, List, Option, Some, set, sym, refl, ap, ◌∙◌, subst, arith, get_or, State, Act}
use Rattle.flash_rule.proofs.Words.{Valid, keeps, stepped, carried_after, Allows, Call, Numbers, pin_word, FitsPin, pin_index, MapWord, PinWord, Owned, View}
use Rattle.flash_rule.proofs.Words.{owned_at, World, Fits, sector_word, put, LawfulKind, Lawful, Ruled, Sitter, adds}
use Rattle.flash_rule.proofs.{Points.owner_live, Points.put_here, Frames.state_fits, Places.fits_load, Places.fits_map, Places.fits_pin, Places.pin_within}
use Rattle.flash_rule.proofs.{Owning.one_entry, Owning.owns_none_else, Owning.Seated, Owning.view_of, OwnSteps.Deeds, OwnSteps.deeds, OwnSteps.turned}
use Rattle.geometry.specs.Limits.{table_words_of}

-- What a step finds: the words represent this state, which meets the rule, and the seat has its view
pub record Found (z : Numbers) (id : ℕ) (me : Sitter) (t : State (Unit {0}) View) (g : World) : Type 0 where
  pub fits : Fits z g.map g.pins g.pages t.words
  pub sat : Seated z g t.views id me.0

-- what the table asks for a step that holds no slot
abbrev pub Does : Numbers → ℕ → Sitter → State (Unit {0}) View → ℕ → ℕ → (Sitter → Type 0) → Type 0
Does z id me t k new Tells =
    (w : View) × (a : Act (Unit {0})) × Valid t.homes me.1 a × Ruled z (stepped t k new id me.1 w a) × Tells (w, carried_after me.1 a)

module _ {z : Numbers} {id : ℕ} {me : Sitter} {t : State (Unit {0}) View} {g : World} (on : Found z id me t g) where
  -- a word that stays
  pub ruled_kept : (k : ℕ) (w : View) (new : ℕ) → k < table_words_of z.blocks z.pages z.words z.sectors → new ≡ get_or t.words k 0
      → Lawful z g (set t.views id w) → Ruled z (stepped t k new id me.1 w keeps)
  ruled_kept k w new within is lawful = (
    g,
    subst (λ y. Fits z g.map g.pins g.pages (set t.words k y)) (sym is) (fits_load z g.map g.pins g.pages t.words on.fits k within),
    lawful,
  )

  -- a map word that names another page, or none, with the history that there is then
  pub ruled_map : (s : ℕ) (m : Option MapWord) (history : List Call) (w : View) (new : ℕ) → s < z.sectors → new ≡ sector_word m
      → Lawful z (record g { history = history; map = put g.map s m }) (set t.views id w) → Ruled z (stepped t s new id me.1 w keeps)
  ruled_map s m history w new low is lawful = (
    record g { history = history; map = put g.map s m },
    subst (λ y. Fits z (put g.map s m) g.pins g.pages (set t.words s y)) (sym is) (fits_map z g.map g.pins g.pages t.words on.fits s m low),
    lawful,
  )

  -- a pin word that becomes that of another state
  module _ (b : ℕ) (low : b < z.blocks) where
    abbrev word_of : ℕ
    word_of = get_or t.words (pin_index z b) 0

    pub ruled_as : (q : PinWord) (owner : ℕ) (d : Deeds) (w : View) (new : ℕ) → new ≡ pin_word q → Lawful z (turned g b q owner d) (set t.views id w)
        → Ruled z (stepped t (pin_index z b) new id me.1 w keeps)
    ruled_as q owner d w new is lawful = (
      turned g b q owner d,
      subst (λ y. Fits z g.map (put g.pins b q) g.pages (set t.words (pin_index z b) y)) (sym is) (fits_pin z g.map g.pins g.pages t.words on.fits b q low),
      lawful,
    )

    -- an addition doesn't wrap
    pub ruled_plus : (q : PinWord) (owner : ℕ) (d : Deeds) (w : View) (added : ℕ) → pin_word (g.pins b) + added ≡ pin_word q
        → Lawful z (turned g b q owner d) (set t.views id w) → Ruled z (stepped t (pin_index z b) ((word_of + added) % 2 ^ 64) id me.1 w keeps)
    ruled_plus q owner d w added sum lawful =
        let fitting : FitsPin q = subst FitsPin (put_here g.pins b q) (state_fits lawful b low) in
        ruled_as q owner d w ((word_of + added) % 2 ^ 64)
        (ap (λ (y : ℕ). (y + added) % 2 ^ 64) (on.fits.blocks b low) ∙ adds (g.pins b) q added fitting sum) lawful

    -- it stays
    pub ruled_still : (w : View) (new : ℕ) → new ≡ word_of → Lawful z g (set t.views id w) → Ruled z (stepped t (pin_index z b) new id me.1 w keeps)
    ruled_still w new is lawful = ruled_kept (pin_index z b) w new (pin_within z b low) is lawful

-- who owns a block has the table's numbers
pub owner_numbers : {z : Numbers} {v : View} {o : Owned} → LawfulKind z v → owned_at o.block v.owns ≡ Some o → v.numbers ≡ z
owner_numbers {v = v} {o} kind own = kind.numbers (owner_live v.role (λ is. owns_none_else v.owns o own (kind.owns_none is)))

module _ (z : Numbers) (me : Sitter) (numbers : me.0.numbers ≡ z) where
  pub same_block : (b c : ℕ) → pin_index z b ≡ pin_index me.0.numbers c → b ≡ c
  same_block b c is = let e : me.0.numbers.sectors ≡ z.sectors = ap (λ (y : Numbers). y.sectors) numbers in omega arith

  pub same_owned : (o e : Owned) → owned_at o.block me.0.owns ≡ Some o → owned_at e.block me.0.owns ≡ Some e
      → pin_index z o.block ≡ pin_index me.0.numbers e.block → o ≡ e
  same_owned o e here there is = one_entry me.0.owns here there (same_block o.block e.block is)

-- a step by which an owner adds to its block's word, where its view after the step is told of each block of which it may be
pub owner_adds : (z : Numbers) (slots id : ℕ) (me : Sitter) (o : Owned) (added : ℕ) (May : Owned → Type 0) (after : Owned → View)
    → ((e : Owned) → May e → owned_at e.block me.0.owns ≡ Some e) → May o
    → ((g : World) (vs : List View) → Seated z g vs id me.0
    → (q : PinWord) × (pin_word (g.pins o.block) + added ≡ pin_word q) × Lawful z (turned g o.block q id (deeds g)) (set vs id (after o)))
    → Allows (Ruled z) slots id me (pin_index z o.block) (λ n. (n + added) % 2 ^ 64)
    (λ n w. (w.1 ≡ me.1) × ((e : Owned) → May e → pin_index z o.block ≡ pin_index me.0.numbers e.block → w.0 ≡ after e))
owner_adds z slots id me o added May after own may steps t (g, fits, law) _ at _ =
    let on : Found z id me t g = record { fits = fits; sat = record { law = law; at = at } } in
    let h = view_of on.sat in
    let numbers = owner_numbers h.kind (own o may) in
    let s = steps g t.views on.sat in (
      after o,
      keeps,
      tt,
      ruled_plus on o.block (h.holding.owned o.block o (own o may)).low s.0 id (deeds g) (after o) added s.1 s.2,
      (refl, λ e may' is. ap after (same_owned z me numbers o e (own o may) (own e may') is)),
    )
