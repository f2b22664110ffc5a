-- The states of all blocks follow from what the seats own, gave up and have pinned; so each step on a pin word can leave one word alone.
use Rattle.flash_rule.proofs.Words.{◌≡◌, ◌≢◌, ℕ, ◌<◌, ⊎_elim, Bool, true, false, List, length, set, sym, refl, ap, ◌∙◌, arith, get_or, get_or-set_same, some}
use Rattle.flash_rule.proofs.Words.{get_elem?, Allows, at_set, set_else, Numbers, pin_word, pin_index, PinWord, Owned, Pin, View, one_if, pin_is_on, pins_on}
use Rattle.flash_rule.proofs.Words.{owned_at, World, is_owned, entry_of, IsReached, IsUnused, IsCededBy, IsCeded, Lawful, Ruled, Sitter, Forces, ◌^◌, ◌-◌, Some}
use Rattle.flash_rule.proofs.Words.{subst, none, step, freed_added, kept_added, READER, PAGE_WRITTEN, NEXT_PHASE, TAKEN, is_broom, is_player, LawfulKind}
use Rattle.flash_rule.proofs.Words.{Tested, test_told, take_told, pin_told, unpin_told, count_told, close_told, claim_told, drain_told, condemn_told}
use Rattle.flash_rule.proofs.{Words.freed_told, Words.kept_told, Words.retired_told, Points.total_set, Points.player_live, Points.broom_live, Points.seat_set}
use Rattle.flash_rule.proofs.{Places.pin_within, OwnSteps.worker, Ruling.owner_numbers, Still.pass_numbers, ReaderSteps.pin_allowed, ReaderSteps.unpin_allowed}
use Rattle.flash_rule.proofs.Steps.{test_allowed, take_allowed, count_allowed, close_allowed}
use Rattle.flash_rule.proofs.ReclaimAllowed.{claim_allowed, condemn_allowed, drain_allowed, freed_allowed, kept_allowed, retired_allowed}
use Rattle.std.proofs.Common.{bit_or}
use Rattle.flash_rule.specs.Forced.{plus, to_next_phase, TestLeaves, TakeSets, PinAdds, UnpinTakesOff, CountAdds, CloseAdds, ClaimExchanges, DrainAdds}
use Rattle.flash_rule.specs.Forced.{CondemnExchanges, FreeAdds, KeepAdds, RetireAdds}

-- Two views of one seat own and gave up the same blocks, and have the same pinned
pub record Alike (w u : View) : Type 0 where
  pub owns : w.owns ≡ u.owns
  pub ceded : w.ceded ≡ u.ceded
  pub pin : w.pin ≡ u.pin

pub alike_same : (w u : View) → w ≡ u → Alike w u
alike_same w u e = record { owns = ap (λ (x : View). x.owns) e; ceded = ap (λ (x : View). x.ceded) e; pin = ap (λ (x : View). x.pin) e }

-- but for its readers, a block is in the one state as in the other
pub record SameBlock (p q : PinWord) : Type 0 where
  pub phase : p.phase ≡ q.phase
  pub generation : p.generation ≡ q.generation
  pub written : p.written ≡ q.written

-- two states that have each got as far as the other are one
each_reached : (b : ℕ) (p q : PinWord) → IsReached (entry_of b p) q → IsReached (entry_of b q) p → SameBlock p q
each_reached b p q there here = grind arith

-- ---- two ruled tables whose seats own and gave up the same blocks
abbrev Tied : List View → List View → Type 0
Tied vs us = (j : ℕ) (w : View) → get_elem? vs j ≡ some w → (u : View) × (get_elem? us j ≡ some u) × (w.owns ≡ u.owns) × (w.ceded ≡ u.ceded)

module _ (z : Numbers) (g h : World) (vs us : List View) (one : Lawful z g vs) (two : Lawful z h us) (tied : Tied vs us) (b : ℕ) (low : b < z.blocks) where
  owned_same : is_owned (g.pins b).phase ≡ true → SameBlock (g.pins b) (h.pins b)
  owned_same owned =
      let k = (one.blocks b low).owner owned in
      let t = tied (g.owner b) k.0 k.2 in
      let here = (one.views (g.owner b) k.0 k.2).holding.owned b k.1 k.3 in
      let there = (two.views (g.owner b) t.0 t.1).holding.owned b k.1 (sym (ap (λ (l : List Owned). owned_at b l) t.2) ∙ k.3) in
      record { phase = here.phase ∙ sym there.phase; generation = here.generation ∙ sym there.generation; written = here.written ∙ sym there.written }

  left_reached : is_owned (g.pins b).phase ≡ false → IsReached (entry_of b (g.pins b)) (h.pins b)
  left_reached nobodys =
      ⊎_elim (λ (unused : IsUnused (g.pins b)). grind (arith, unused))
      (λ (left : IsCeded vs (entry_of b (g.pins b))).
      let by = left.2 in
      let t = tied left.0 by.view by.seat in
      let there : IsCededBy us left.0 left.1 (entry_of b (g.pins b)) = grind arith in
      (two.ceded.reached left.0 left.1 (entry_of b (g.pins b)) there).1)
      (one.ceded.left b low nobodys)

pub block_same : (z : Numbers) (g h : World) (vs us : List View) → Lawful z g vs → Lawful z h us → Tied vs us → Tied us vs → (b : ℕ) → b < z.blocks
    → SameBlock (g.pins b) (h.pins b)
block_same z g h vs us one two there back b low = by_owners (is_owned (g.pins b).phase) (is_owned (h.pins b).phase) refl refl where
  by_owners : (s t : Bool) → is_owned (g.pins b).phase ≡ s → is_owned (h.pins b).phase ≡ t → SameBlock (g.pins b) (h.pins b)
  by_owners true t mine its = owned_same z g h vs us one two there b low mine
  by_owners false true mine its = let e = owned_same z h g us vs two one back b low its in
      record { phase = sym e.phase; generation = sym e.generation; written = sym e.written }
  by_owners false false mine its =
      each_reached b (g.pins b) (h.pins b) (left_reached z g h vs us one two there b low mine) (left_reached z h g us vs two one back b low its)

tied_sets : (vs : List View) (id : ℕ) (v w u : View) → get_elem? vs id ≡ some v → w.owns ≡ u.owns → w.ceded ≡ u.ceded → Tied (set vs id w) (set vs id u)
tied_sets vs id v w u at owns ceded j x is =
    ⊎_elim
    (λ (t : (j ≡ id) × (w ≡ x)). (
      u,
      ap (λ i. get_elem? (set vs id u) i) t.0 ∙ seat_set vs id v u at,
      sym (ap (λ (y : View). y.owns) t.1) ∙ owns,
      sym (ap (λ (y : View). y.ceded) t.1) ∙ ceded,
    ))
    (λ (t : (j ≢ id) × (get_elem? vs j ≡ some x)). (x, set_else vs id j u t.0 ∙ t.1, refl, refl))
    (at_set vs id j w x is)

-- one seat changes, to views that are alike: each block is in one state, with its readers
pub state_same : (z : Numbers) (g h : World) (vs : List View) (id : ℕ) (v w u : View) → get_elem? vs id ≡ some v → Lawful z g (set vs id w)
    → Lawful z h (set vs id u) → Alike w u → (b : ℕ) → b < z.blocks → g.pins b ≡ h.pins b
state_same z g h vs id v w u at one two alike b low =
    let same = block_same z g h (set vs id w) (set vs id u) one two (tied_sets vs id v w u at alike.owns alike.ceded)
    (tied_sets vs id v u w at (sym alike.owns) (sym alike.ceded)) b low in
    let a = (one.blocks b low).readers in
    let c = (two.blocks b low).readers in
    let s = total_set (pins_on b) vs id v w at in
    let t = total_set (pins_on b) vs id v u at in
    let counts : pins_on b w ≡ pins_on b u = ap (λ (p : Pin). one_if (pin_is_on b p)) alike.pin in
    let readers : (g.pins b).readers ≡ (h.pins b).readers = omega arith in
    λ i. record { readers = readers i; phase = same.phase i; written = same.written i; generation = same.generation i }

-- where a play fixes what its seat owns, gave up and has pinned, one operation that is allowed is the only one
pub forced : (z : Numbers) (slots id : ℕ) (me : Sitter) (b : ℕ) (f : ℕ → ℕ) (told : ℕ → Sitter → Type 0) → b < z.blocks
    → ((n : ℕ) (w u : Sitter) → told n w → told n u → Alike w.0 u.0) → Allows (Ruled z) slots id me (pin_index z b) f told
    → Forces z slots id me (pin_index z b) f told
forced z slots id me b f told low fixes allowed other also t sits =
    let k : ℕ = pin_index z b in
    let n : ℕ = get_or t.words k 0 in
    let one = allowed t sits.ruled sits.homes sits.seat sits.low in
    let two = also t sits.ruled sits.homes sits.seat sits.low in
    let alike = fixes n (one.0, _) (two.0, _) one.4 two.4 in
    let within : k < length t.words = let r = pin_within z b low in let e = sits.ruled.1.size in omega arith in
    let mine : f n ≡ pin_word (one.3.0.pins b) = sym (get_or-set_same t.words k (f n) 0 within) ∙ one.3.1.blocks b low in
    let its : other n ≡ pin_word (two.3.0.pins b) = sym (get_or-set_same t.words k (other n) 0 within) ∙ two.3.1.blocks b low in
    let same = state_same z one.3.0 two.3.0 t.views id me.0 one.0 two.0 sits.seat one.3.2 two.3.2 alike b low in
    its ∙ (ap pin_word (sym same) ∙ sym mine)

-- what a load before a take fixes: the seat owns, gave up and has pinned what it did before, whatever it found
tested_alike : (v : View) (b n : ℕ) (w : View) → Tested v b n w → Alike w v
tested_alike v b n w h = grind arith

-- and what an exchange fixes, by the word that it found
exchanged_alike : (n old : ℕ) (won lost w u : View) → (n ≡ old → (w ≡ won) × (u ≡ won)) → (¬ (n ≡ old) → (w ≡ lost) × (u ≡ lost)) → Alike w u
exchanged_alike n old won lost w u wins loses = grind arith

-- a step of a seat that has the table's numbers, on the word of a block of the table
module _ (z : Numbers) (slots id : ℕ) (me : Sitter) (b : ℕ) (f : ℕ → ℕ) (told : ℕ → Sitter → Type 0) where
  forced_at : ((g : World) (vs : List View) → Lawful z g vs → get_elem? vs id ≡ some me.0 → (me.0.numbers ≡ z) × (b < z.blocks))
      → (me.0.numbers ≡ z → pin_index z b ≡ pin_index me.0.numbers b → (n : ℕ) (w u : Sitter) → told n w → told n u → Alike w.0 u.0)
      → (LawfulKind z me.0 → Allows (Ruled z) slots id me (pin_index z b) f told) → Forces z slots id me (pin_index z b) f told
  forced_at here fixes allowed other also t sits =
      let law = sits.ruled.2 in
      let h = here sits.ruled.0 t.views law sits.seat in
      forced z slots id me b f told h.1 (fixes h.0 (ap (λ (y : Numbers). pin_index y b) (sym h.0)))
      (allowed (law.views id me.0 sits.seat).kind) other also t sits

  -- the view after an owner's step is one
  forced_of : (o : Owned) → o.block ≡ b → owned_at o.block me.0.owns ≡ Some o
      → (pin_index z b ≡ pin_index me.0.numbers b → (n : ℕ) (w u : Sitter) → told n w → told n u → w.0 ≡ u.0)
      → (LawfulKind z me.0 → Allows (Ruled z) slots id me (pin_index z b) f told) → Forces z slots id me (pin_index z b) f told
  forced_of o same own fixes allowed =
      forced_at
      (λ g vs law at.
      let h = law.views id me.0 at in
      (owner_numbers h.kind own, subst (λ c. c < z.blocks) same (h.holding.owned o.block o own).low))
      (λ _ at n w u one two. alike_same w.0 u.0 (fixes at n w u one two)) allowed

-- ---- the laws
pub tests_forced : TestLeaves
tests_forced z slots id me x y b player low =
    forced_at z slots id me b (λ n. n) (test_told (step slots (pin_index z b) x y none) me)
    (λ g vs law at. ((law.views id me.0 at).kind.numbers (player_live me.0.role player), low))
    (λ numbers at n w u one two.
    let below : b < me.0.numbers.blocks = subst (λ (n : Numbers). b < n.blocks) (sym numbers) low in
    let h = tested_alike me.0 b n w.0 (one.1 b below at) in
    let k = tested_alike me.0 b n u.0 (two.1 b below at) in
    record { owns = h.owns ∙ sym k.owns; ceded = h.ceded ∙ sym k.ceded; pin = h.pin ∙ sym k.pin })
    (λ _. test_allowed z slots id me b player low)

pub takes_forced : TakeSets
takes_forced z slots id me x y b player low =
    forced_at z slots id me b (λ n. bit_or n TAKEN) (take_told (step slots (pin_index z b) x y none) me)
    (λ g vs law at. ((law.views id me.0 at).kind.numbers (player_live me.0.role player), low))
    (λ numbers at n w u one two.
    let below : b < me.0.numbers.blocks = subst (λ (n : Numbers). b < n.blocks) (sym numbers) low in
    (grind (arith, one.1 b below at, two.1 b below at)))
    (λ _. take_allowed z slots id me b player low)

pub pins_forced : PinAdds
pins_forced z slots id me x y m value pass is low =
    forced_at z slots id me m.block (plus READER) (pin_told (step slots (pin_index z m.block) x y none) me)
    (λ g vs law at. (pass_numbers (law.views id me.0 at).kind pass, low))
    (λ _ at n w u one two. grind (arith, one.1 m value is at, two.1 m value is at))
    (λ _. pin_allowed z slots id me m value pass is low)

pub unpins_forced : UnpinTakesOff
unpins_forced z slots id me x y b pass on low =
    forced_at z slots id me b (plus (2 ^ 64 - READER)) (unpin_told (step slots (pin_index z b) x y none) me)
    (λ g vs law at. (pass_numbers (law.views id me.0 at).kind pass, low))
    (λ _ at n w u one two. alike_same w.0 u.0 (one.1 b on at ∙ sym (two.1 b on at)))
    (λ kind. unpin_allowed z slots id me b pass on low (pass_numbers kind pass))

pub counts_forced : CountAdds
counts_forced z slots id me x y o work can =
    forced_of z slots id me o.block (plus PAGE_WRITTEN) (count_told (step slots (pin_index z o.block) x y none) me) o refl can.own
    (λ at n w u one two. one.1 o work can at ∙ sym (two.1 o work can at))
    (λ kind. count_allowed z slots id me o work (ap is_player (worker kind can.is).1) (owner_numbers kind can.own) can)

pub closes_forced : CloseAdds
closes_forced z slots id me x y o can =
    forced_of z slots id me o.block (plus NEXT_PHASE) (close_told (step slots (pin_index z o.block) x y none) me) o refl can.own
    (λ at n w u one two. one.1 o can at ∙ sym (two.1 o can at)) (λ kind. close_allowed z slots id me o (owner_numbers kind can.own) can)

pub drains_forced : DrainAdds
drains_forced z slots id me x y o can =
    forced_of z slots id me o.block (plus NEXT_PHASE) (drain_told (step slots (pin_index z o.block) x y none) me) o refl can.own
    (λ at n w u one two. one.1 o can at ∙ sym (two.1 o can at)) (λ _. drain_allowed z slots id me o can)

pub retires_forced : RetireAdds
retires_forced z slots id me x y o can =
    forced_of z slots id me o.block (plus NEXT_PHASE) (retired_told (step slots (pin_index z o.block) x y none) me) o refl can.erasing.own
    (λ at n w u one two. one.1 o can at ∙ sym (two.1 o can at)) (λ _. retired_allowed z slots id me o can)

pub frees_forced : FreeAdds
frees_forced z slots id me x y o can =
    forced_of z slots id me o.block (plus (freed_added o.written)) (freed_told (step slots (pin_index z o.block) x y none) me) o refl can.erasing.own
    (λ at n w u one two. one.1 o can at ∙ sym (two.1 o can at)) (λ _. freed_allowed z slots id me o can)

pub keeps_forced : KeepAdds
keeps_forced z slots id me x y o can =
    forced_of z slots id me o.block (plus (kept_added o.written)) (kept_told (step slots (pin_index z o.block) x y none) me) o refl can.erasing.own
    (λ at n w u one two. one.1 o can at ∙ sym (two.1 o can at)) (λ _. kept_allowed z slots id me o can)

-- a broom's numbers are the table's, and so the block is the table's
broom_at : (z : Numbers) (id : ℕ) (me : Sitter) (b : ℕ) → is_broom me.0.role ≡ true → b < me.0.numbers.blocks → (g : World) (vs : List View) → Lawful z g vs
    → get_elem? vs id ≡ some me.0 → (me.0.numbers ≡ z) × (b < z.blocks)
broom_at z id me b broom low g vs law at =
    let numbers = (law.views id me.0 at).kind.numbers (broom_live me.0.role broom) in (numbers, subst (λ (n : Numbers). b < n.blocks) numbers low)

pub claims_forced : ClaimExchanges
claims_forced z slots id me x y b p broom can =
    forced_at z slots id me b (to_next_phase p) (claim_told (step slots (pin_index z b) (pin_word p) y none) me) (broom_at z id me b broom can.low)
    (λ _ at n w u one two.
    let k = one.1 b p can at refl in
    let l = two.1 b p can at refl in
    exchanged_alike n (pin_word p) _ _ w.0 u.0 (λ is. (k.won is, l.won is)) (λ not. (k.lost not, l.lost not)))
    (λ _. claim_allowed z slots id me b p broom can)

pub condemns_forced : CondemnExchanges
condemns_forced z slots id me x y b p broom can =
    forced_at z slots id me b (to_next_phase p) (condemn_told (step slots (pin_index z b) (pin_word p) y none) me) (broom_at z id me b broom can.low)
    (λ _ at n w u one two.
    let k = one.1 b p can at refl in
    let l = two.1 b p can at refl in
    exchanged_alike n (pin_word p) _ _ w.0 u.0 (λ is. (k.won is, l.won is)) (λ not. (k.busy not, l.busy not)))
    (λ _. condemn_allowed z slots id me b p broom can)
