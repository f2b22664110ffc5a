-- What a step's play makes of a broom's seat, and what a broom that erases may do by what its calls ask.
use Rattle.flash_rule.proofs.Points.{phase_or_not}
use Rattle.flash_rule.proofs.Owning.{some_same}
use Rattle.flash_table.proofs.Permissions.{whose, slots_of}
use Rattle.flash_table.proofs.Blocks.{all_open, draining_at, erasing_at}
use Rattle.std.specs.Prelude.{◌&&◌, Bool, false}
use Rattle.std.specs.Bool.{MatchBool}
use Rattle.flash_rule.specs.BroomPlays.{Inspected, is_page_of, GotStamp, CanGetStamp, CanMove, Moved, stamp_told, source_told, move_told, Loaded, IsLastLoaded}
use Rattle.flash_rule.specs.BroomPlays.{IsInspected, CanClaim, Claimed, CanDrain, state_told, claim_told, drain_told, CanCondemn, Condemned, IsErasing, CanWipe}
use Rattle.flash_rule.specs.BroomPlays.{CanRenew, CanRetire, condemn_told, wipe_told, freed_told, kept_told, retired_told}
use Rattle.flash_table.specs.Steps.{InspectTold, HasInspected, IsCleared}
use Rattle.flash_table.specs.declared.flash.Flash.{Flash}
use Rattle.std.proofs.Common.{◌≡◌, ℕ, ◌+◌, ◌<◌, ◌≤◌, ◌⊎◌, inl, inr, ⊎_elim, ◌==◌, eq-eqb, ne_eqb, true, [], ◌∷◌, ◌++◌, List, Option, None, Some, IfSome, IfNone}
use Rattle.std.proofs.Common.{sym, refl, ap, ◌∙◌, subst, arith, ◌*◌}
use mathlib.Core.Option.{none}
use mathlib.Core.Logic.{dite}
use native.Mathlib.Decide.{ℕ_discrete, dec_lt}
use Rattle.atomic_table.specs.Table.{step}
use Rattle.geometry.specs.Limits.{Numbers, table_words_of}
use Rattle.geometry.specs.Words.{map_word, FitsMap, pin_word, FitsPin, pin_index, page_index}
use Rattle.geometry.specs.declared.words.MapWord.{MapWord}
use Rattle.geometry.specs.declared.words.TheConstants.{MAPPED, NEXT_PHASE}
use Rattle.geometry.specs.declared.words.PinWord.{PinWord}
use Rattle.geometry.specs.declared.words.Phase.TheVariants.{Closed, Victim, Drained, Erasing}
use Rattle.flash_rule.specs.declared.facts.Owned.{Owned}
use Rattle.flash_rule.specs.declared.facts.Source.{Source}
use Rattle.flash_rule.specs.declared.view.View.{View}
use Rattle.flash_rule.specs.Views.{is_broom, with_owned}
use Rattle.flash_rule.specs.Plays.{Sitter}
use Rattle.flash_rule.specs.World.{data_word, sector_word, blank_word}
use Rattle.flash_table.specs.declared.broom_seat.BroomSeat.{BroomSeat}
use Rattle.flash_table.specs.declared.broom_seat.Reclaiming.TheVariants as reclaiming
use Rattle.flash_table.specs.declared.broom_seat.Reclaiming.{Reclaiming}
use Rattle.flash_table.specs.declared.broom_seat.ReclaimedBlock.{ReclaimedBlock}
use Rattle.flash_table.specs.Owning.{reclaimed_as, owned_of}
use Rattle.flash_table.specs.GivingUp.{left_drained, left_free, left_retired}
use Rattle.flash_table.specs.Flash.{IsBroomOf, broom_view, own_blocks, device, geometry_of}
use Rattle.flash_rule.proofs.Places.{page_within}
use Rattle.flash_rule.proofs.Wiping.{row_of, wiped_index}
use Rattle.flash_table.specs.Erasing.{IsUnread, CanLiveOn, IsLastErase, words_in_block}

-- a map word that was found is that of what it was unpacked to
pub unpacked : (r : Option MapWord) (n : ℕ) → IfSome r (λ p. FitsMap p × (map_word p ≡ n)) → IfNone r (n < MAPPED)
    → (¬ (n ≡ 0) → (m : MapWord) × (n ≡ map_word m)) → n ≡ sector_word r
unpacked (Some p) n has nothing named = sym has.1
unpacked None n has nothing named = dite (ℕ_discrete n 0) (λ zero. zero) (λ other. let t = named other in let e = t.1 in absurd (omega arith))

-- a map word that is in a block is that of a page in it
in_page : (b generation : ℕ) (x : Option MapWord) → is_page_of b generation x ≡ true
    → (m : MapWord) × (x ≡ Some m) × (m.block ≡ b) × (m.generation ≡ generation)
in_page b generation None is = absurd (cc)
in_page b generation (Some m) is =
    dite (ℕ_discrete m.block b)
    (λ block. dite (ℕ_discrete m.generation generation)
    (λ same. (m, refl, block, same))
    (λ apart. let no : true ≡ false = sym is ∙ (λ i. (eq-eqb m.block b block i) && (ne_eqb m.generation generation apart i)) in absurd (cc)))
    (λ apart. let no : true ≡ false = sym is ∙ (λ i. (ne_eqb m.block b apart i) && (m.generation == generation)) in absurd (cc))

-- what a look at the next sector of an inspection records, by what it finds
pub inspected_by : (v w : View) (b generation s n : ℕ) (h : Inspected v b generation s n w) (t : Bool) → t ≡ is_page_of b generation h.found
    → InspectTold v b generation s t w
inspected_by v w b generation s n h true is =
    let k = in_page b generation h.found (sym is) in
    record {
      page = k.0;
      fits = h.fits k.0 k.1;
      block = k.2;
      same = k.3;
      changed = h.stopped (sym is) ∙ ap (λ (m : ℕ). record v { named = v.named ++ (s, m) ∷ [] }) (h.word ∙ ap sector_word k.1);
    }
inspected_by v w b generation s n h false is = h.passed (sym is)

pub inspected_changed : (v w : View) (b generation s n : ℕ) → Inspected v b generation s n w → w ≡ record v { named = w.named; inspection = w.inspection }
inspected_changed v w b generation s n h = by_test (is_page_of b generation h.found) refl where
  by_test : (t : Bool) → is_page_of b generation h.found ≡ t → w ≡ record v { named = w.named; inspection = w.inspection }
  by_test true is = let e = h.stopped is in e ∙ (λ i. record v { named = (sym e i).named; inspection = (sym e i).inspection })
  by_test false is = let e = h.passed is in e ∙ (λ i. record v { named = (sym e i).named; inspection = (sym e i).inspection })

pub stays_broom : {f : Flash} {s t : BroomSeat} → IsBroomOf f s → t.seat.table_id ≡ s.seat.table_id → whose (broom_view t) ≡ whose (broom_view s)
    → IsBroomOf f t
stays_broom h table same = record { table = table ∙ h.table; role = (h.role.0, ap (λ w. w.0) same ∙ h.role.1); numbers = ap (λ w. w.1) same ∙ h.numbers }

-- ---- the block that a broom drains or erases is one
pub draining_same : {a b : ReclaimedBlock} {x : Reclaiming} → x ≡ reclaiming.Draining a → x ≡ reclaiming.Draining b → a ≡ b
draining_same p q = cc

-- what is asked of it holds of the block that is found there
pub of_draining : (P : ReclaimedBlock → Type 0) (x : Reclaiming) (o : ReclaimedBlock) → x ≡ reclaiming.Draining o
    → (a : ReclaimedBlock) × (x ≡ reclaiming.Draining a) × P a → P o
of_draining P x o is t = subst P (draining_same t.1 is) t.2

-- a state step changes the broom's notes alone
pub loaded_changed : (v w : View) (b n : ℕ) → Loaded v b n w → w ≡ record v { loaded = w.loaded; busy = w.busy; stale = w.stale }
loaded_changed v w b n h =
    ⊎_elim
    (λ (drained : h.state.phase ≡ Drained). dite (ℕ_discrete h.state.readers 0)
    (λ none. let e = h.ready drained none in e ∙ (λ i. record v { loaded = (sym e i).loaded; busy = (sym e i).busy; stale = (sym e i).stale }))
    (λ some. let e = h.busy drained (omega arith) in e ∙ (λ i. record v { loaded = (sym e i).loaded; busy = (sym e i).busy; stale = (sym e i).stale })))
    (λ (other : ¬ (h.state.phase ≡ Drained)). let e = h.stale other in
    e ∙ (λ i. record v { loaded = (sym e i).loaded; busy = (sym e i).busy; stale = (sym e i).stale }))
    (phase_or_not h.state.phase Drained)

-- ---- what each step on a state asks for
module _ {f : Flash} {s : BroomSeat} (h : IsBroomOf f s) where
  pub is_a_broom : is_broom (broom_view s).role ≡ true
  is_a_broom = ap is_broom h.role.1

  low_here : (b : ℕ) → b < (device f).blocks → b < (broom_view s).numbers.blocks
  low_here b low = subst (λ (y : Numbers). b < y.blocks) (sym h.numbers) low

  pub claim_can : (b : ℕ) (p : PinWord) → b < (device f).blocks → FitsPin p × (p.phase ≡ Closed) → IsLastLoaded (broom_view s) b (pin_word p)
      → (own_blocks s).reclaiming ≡ reclaiming.Nothing → CanClaim (broom_view s) b p
  claim_can b p low state loaded rest =
      record { low = low_here b low; fits = state.0; closed = state.1; loaded = loaded; rested = all_open (own_blocks s) s.owns rest }

  -- a victim whose pages are all cleared, or that was inspected, can be drained
  pub drain_can : (o : ReclaimedBlock) → (own_blocks s).reclaiming ≡ reclaiming.Draining o
      → IsCleared (geometry_of f) (broom_view s) (own_blocks s) ⊎ HasInspected (geometry_of f) (broom_view s) (own_blocks s)
      → (o.block < (device f).blocks) × CanDrain (broom_view s) (reclaimed_as Victim o)
  drain_can o is asked =
      let Emptied : ReclaimedBlock → Type 0 = λ y. (y.written ≤ (broom_view s).cleared) ⊎ IsInspected (broom_view s) (reclaimed_as Victim y) in
      let some : (y : ReclaimedBlock) × ((own_blocks s).reclaiming ≡ reclaiming.Draining y) × ((y.block < (device f).blocks) × Emptied y) =
      ⊎_elim (λ (c : IsCleared (geometry_of f) (broom_view s) (own_blocks s)). (c.0, c.1, (c.2.0, inl c.2.1)))
      (λ (c : HasInspected (geometry_of f) (broom_view s) (own_blocks s)). (c.0, c.1, (c.2.0, inr c.2.1))) asked in
      let its = of_draining (λ (y : ReclaimedBlock). (y.block < (device f).blocks) × Emptied y) (own_blocks s).reclaiming o is some in
      (its.0, record { own = draining_at (own_blocks s) s.owns is; victim = refl; emptied = its.1 })

  pin_there : {word : ℕ} (b : ℕ) → word ≡ pin_index (device f) b → word ≡ pin_index (broom_view s).numbers b
  pin_there b at = at ∙ ap (λ y. pin_index y b) (sym h.numbers)

  pub drained_view : {after : Sitter} {word : ℕ} (o : ReclaimedBlock) → CanDrain (broom_view s) (reclaimed_as Victim o) → word ≡ pin_index (device f) o.block
      → drain_told (step (slots_of f) word NEXT_PHASE 0 none) s.seat.me 0 after
      → after.0 ≡ left_drained (broom_view s) o
  drained_view o can at told = told.1 (reclaimed_as Victim o) can (pin_there o.block at)

-- ---- and what it makes of the seat
module _ {f : Flash} {s : BroomSeat} (h : IsBroomOf f s) {n : ℕ} {after : Sitter} {word : ℕ} where
  pub loaded_view : (b : ℕ) → b < (device f).blocks → word ≡ pin_index (device f) b → state_told (step (slots_of f) word 0 0 none) s.seat.me n after
      → Loaded (broom_view s) b n after.0
  loaded_view b low at told = told.1 b (low_here h b low) (pin_there h b at)

  pub claimed_view : (b old : ℕ) (p : PinWord) → CanClaim (broom_view s) b p → word ≡ pin_index (device f) b → old ≡ pin_word p
      → claim_told (step (slots_of f) word old (old + NEXT_PHASE) none) s.seat.me n after
      → Claimed (broom_view s) b p n after.0
  claimed_view b old p can at packed told = told.1 b p can (pin_there h b at) packed

-- ---- sectors and pages
pub source_same : {x y : Source} {a : Option Source} → a ≡ Some x → a ≡ Some y → x ≡ y
source_same {x} {y} p q = some_same x y (sym p ∙ q)

-- a stamp changes the source and the count of cleared pages alone
pub stamp_changed : (v w : View) (o : Owned) (n : ℕ) → GotStamp v o n w → w ≡ record v { source = w.source; cleared = w.cleared }
stamp_changed v w o n h =
    dite (dec_lt n v.numbers.sectors)
    (λ below. let e = h.sector below in e ∙ (λ i. record v { source = (sym e i).source; cleared = (sym e i).cleared }))
    (λ above. let e = h.dead (omega arith) in e ∙ (λ i. record v { source = (sym e i).source; cleared = (sym e i).cleared }))

module _ {f : Flash} {s : BroomSeat} (h : IsBroomOf f s) where
  pub stamp_can : (o : ReclaimedBlock) (page : ℕ) → (own_blocks s).reclaiming ≡ reclaiming.Draining o → page < o.written
      → page ≡ (broom_view s).cleared → CanGetStamp (broom_view s) (reclaimed_as Victim o)
  stamp_can o page is below cleared =
      record { own = draining_at (own_blocks s) s.owns is; victim = refl; written = subst (λ k. k < o.written) cleared below }

module _ {f : Flash} {s : BroomSeat} (h : IsBroomOf f s) {n : ℕ} {after : Sitter} {word : ℕ} where
  pub stamp_view : (page : ℕ) (o : ReclaimedBlock) → CanGetStamp (broom_view s) (reclaimed_as Victim o) → page ≡ (broom_view s).cleared
      → word ≡ page_index (device f) o.block page + (device f).words
      → stamp_told (step (slots_of f) word 0 0 none) s.seat.me n after → GotStamp (broom_view s) (reclaimed_as Victim o) n after.0
  stamp_view page o can cleared at told =
      told.1 (reclaimed_as Victim o) can
      (at ∙ (ap (λ k. page_index (device f) o.block k + (device f).words) cleared
      ∙ ap (λ (y : Numbers). page_index y o.block (broom_view s).cleared + y.words) (sym h.numbers)))

  pub source_value : (i : ℕ) (page : MapWord) (x : Source) (value : List ℕ) → (broom_view s).source ≡ Some x → x.page ≡ page
      → x.value ≡ Some value → i < (device f).words → word ≡ page_index (device f) page.block page.page + i
      → source_told (step (slots_of f) word 0 0 none) s.seat.me n after → n ≡ data_word value i
  source_value i page x value is same live low at told =
      told.1 x value i is live (subst (λ (y : Numbers). i < y.words) (sym h.numbers) low)
      (at ∙ (λ j. page_index (sym h.numbers j) (sym same j).block (sym same j).page + i))

  pub moved_view : (old new : ℕ) (x : Source) (from to : MapWord) → CanMove (broom_view s) x to → FitsMap from × FitsMap to → x.page ≡ from
      → x.stamp ≡ word → old ≡ map_word from → new ≡ map_word to
      → move_told (step (slots_of f) word old new none) s.seat.me n after → Moved (broom_view s) x n after.0
  moved_view old new x from to can fits same stamp packed copy told =
      told.1 x to can (subst FitsMap (sym same) fits.0) fits.1 (sym stamp) (packed ∙ ap map_word (sym same)) copy

-- whether the word found is the one expected
pub found_or_not : (n old k : ℕ) → old ≡ k → MatchBool (n == old) (n ≡ k) (¬ (n ≡ k))
found_or_not n old k is = dite (ℕ_discrete n old) (λ same. rw (eq-eqb n old same) (same ∙ is)) (λ other. rw (ne_eqb n old other) (λ e. other (e ∙ sym is)))

-- a broom erases one block
pub same_erased : {r : Reclaiming} {o x : ReclaimedBlock} → r ≡ reclaiming.Erasing o → r ≡ reclaiming.Erasing x → o ≡ x
same_erased first second = cc

-- the place of a word of the block, counted from its first page's first word, lies in the table
pub wiped_within : (z : Numbers) (b i : ℕ) → b < z.blocks → i < words_in_block z → page_index z b 0 + i < table_words_of z.blocks z.pages z.words z.sectors
wiped_within z b i low below =
    let r = row_of z.pages (z.words + 1) i below in
    let word = r.3 in
    let within = page_within z b r.0 r.1 low r.2 (omega arith) in
    let here = wiped_index z b r.0 r.1 i r.4 in omega arith

module _ {f : Flash} {s : BroomSeat} (h : IsBroomOf f s) where
  -- ---- what the calls ask is what the rule asks
  pub can_condemn : (b : ℕ) (p : PinWord) → (own_blocks s).reclaiming ≡ reclaiming.Nothing → b < (device f).blocks → IsUnread (broom_view s) b p
      → CanCondemn (broom_view s) b p
  can_condemn b p rested low t =
      record {
        low = (let blocks : (broom_view s).numbers.blocks ≡ (device f).blocks = ap (λ (y : Numbers). y.blocks) h.numbers in omega arith);
        fits = t.fits;
        drained = t.drained;
        unread = t.unread;
        loaded = t.loaded;
        rested = all_open (own_blocks s) s.owns rested;
      }

  is_erasing : (o : ReclaimedBlock) → (own_blocks s).reclaiming ≡ reclaiming.Erasing o → IsErasing (broom_view s) (reclaimed_as Erasing o)
  is_erasing o its = record { own = erasing_at (own_blocks s) s.owns its; erasing = refl }

  all_words : (broom_view s).numbers.pages * ((broom_view s).numbers.words + 1) ≡ words_in_block (device f)
  all_words = ap words_in_block h.numbers

  endures : (broom_view s).numbers.endurance ≡ (device f).endurance
  endures = ap (λ (y : Numbers). y.endurance) h.numbers

  pub can_wipe : (o : ReclaimedBlock) (i : ℕ) → (own_blocks s).reclaiming ≡ reclaiming.Erasing o → i ≡ (broom_view s).wiped
      → i < words_in_block (device f) → CanWipe (broom_view s) (reclaimed_as Erasing o)
  can_wipe o i its next below = record { erasing = is_erasing o its; room = (let e = all_words in omega arith) }

  pub can_renew : (o : ReclaimedBlock) → CanLiveOn f s o → CanRenew (broom_view s) (reclaimed_as Erasing o)
  can_renew o t =
      record {
        erasing = is_erasing o t.erases.its;
        clean = (let e = all_words in let w = t.wiped in omega arith);
        another = (let e = endures in let a = t.another in omega arith);
      }

  pub can_retire : (o : ReclaimedBlock) → IsLastErase f s o → CanRetire (broom_view s) (reclaimed_as Erasing o)
  can_retire o t = record { erasing = is_erasing o t.erases.its; last = t.last ∙ sym endures }

  -- ---- what is asked of the block that the broom erases, of the block that is found there
  pub of_erased : (P : ReclaimedBlock → Type 0) (o : ReclaimedBlock) → (own_blocks s).reclaiming ≡ reclaiming.Erasing o → (x : ReclaimedBlock)
      → (own_blocks s).reclaiming ≡ reclaiming.Erasing x → P x → P o
  of_erased P o is x its can = subst P (same_erased its is) can

  pub live_on : (o : ReclaimedBlock) → (own_blocks s).reclaiming ≡ reclaiming.Erasing o → (x : ReclaimedBlock) × CanLiveOn f s x → CanLiveOn f s o
  live_on o is some = of_erased (λ x. CanLiveOn f s x) o is some.0 some.1.erases.its some.1

  pub last_erase : (o : ReclaimedBlock) → (own_blocks s).reclaiming ≡ reclaiming.Erasing o → (x : ReclaimedBlock) × IsLastErase f s x → IsLastErase f s o
  last_erase o is some = of_erased (λ x. IsLastErase f s x) o is some.0 some.1.erases.its some.1

module _ {f : Flash} {s : BroomSeat} (h : IsBroomOf f s) {n : ℕ} {after : Sitter} {word : ℕ} where
  -- ---- what a step's play makes of the seat
  pub condemned : (b old : ℕ) (p : PinWord) → word ≡ pin_index (device f) b → old ≡ pin_word p → CanCondemn (broom_view s) b p
      → condemn_told (step (slots_of f) word old (old + NEXT_PHASE) none) s.seat.me n after → Condemned (broom_view s) b p n after.0
  condemned b old p at packed can told = told.1 b p can (at ∙ ap (λ y. pin_index y b) (sym h.numbers)) packed

module _ {f : Flash} {s : BroomSeat} (h : IsBroomOf f s) {after : Sitter} {word : ℕ} where
  pub wipe_view : (i : ℕ) (o : ReclaimedBlock) → CanWipe (broom_view s) (reclaimed_as Erasing o) → i ≡ (broom_view s).wiped
      → word ≡ page_index (device f) o.block 0 + i
      → wipe_told (step (slots_of f) word blank_word 0 none) s.seat.me 0 after → after.0 ≡ record (broom_view s) { wiped = i + 1 }
  wipe_view i o can next at told =
      told.1 (reclaimed_as Erasing o) can (at ∙ λ j. page_index (sym h.numbers j) o.block 0 + next j) refl
      ∙ ap (λ k. record (broom_view s) { wiped = k + 1 }) (sym next)

  pub freed_view : (added : ℕ) (o : ReclaimedBlock) → CanLiveOn f s o → word ≡ pin_index (device f) o.block
      → freed_told (step (slots_of f) word added 0 none) s.seat.me 0 after → after.0 ≡ left_free (broom_view s) o
  freed_view added o lives at told = told.1 (reclaimed_as Erasing o) (can_renew h o lives) (at ∙ ap (λ y. pin_index y o.block) (sym h.numbers))

  pub kept_view : (added : ℕ) (o : ReclaimedBlock) → CanLiveOn f s o → word ≡ pin_index (device f) o.block
      → kept_told (step (slots_of f) word added 0 none) s.seat.me 0 after
      → after.0 ≡ record (broom_view s) {
        owns = with_owned (owned_of (record { block = o.block; generation = o.generation + 1; written = 0 })) (broom_view s).owns;
      }
  kept_view added o lives at told = told.1 (reclaimed_as Erasing o) (can_renew h o lives) (at ∙ ap (λ y. pin_index y o.block) (sym h.numbers))

  pub retired_view : (o : ReclaimedBlock) → IsLastErase f s o → word ≡ pin_index (device f) o.block
      → retired_told (step (slots_of f) word NEXT_PHASE 0 none) s.seat.me 0 after → after.0 ≡ left_retired (broom_view s) o
  retired_view o last at told = told.1 (reclaimed_as Erasing o) (can_retire h o last) (at ∙ ap (λ y. pin_index y o.block) (sym h.numbers))
