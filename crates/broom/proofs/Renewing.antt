-- A block that was condemned and wiped, and what the broom owns and tells once its generation is over.
use Rattle.std.proofs.Common.{◌≡◌, ℕ, ◌+◌, ◌<◌, eq-eqb, ne_eqb, Bool, true, false, MatchBool, List, [], ◌∷◌, ◌++◌, None, Some, sym, refl, ap, ◌∙◌, subst}
use Rattle.std.proofs.Common.{append-nil, arith}
use Rattle.std.proofs.lemmas.List.{append-nil}
use mathlib.Core.Logic.{dite}
use native.Mathlib.Decide.{ℕ_discrete}
use Rattle.geometry.specs.{Geometry.endurance_of, Limits.Numbers, Words.FitsPin, Words.pin_word}
use Rattle.geometry.specs.declared.words.{Phase.TheVariants.Drained, Phase.TheVariants.Erasing, Phase.TheVariants.Retired, PinWord.PinWord}
use Rattle.geometry.proofs.WordBits.{pin_same}
use Rattle.flash_rule.specs.{declared.facts.Owned.Owned, declared.view.View.View, Ceded.freed_as}
use Rattle.flash_rule.specs.{Views.owned_at, Views.without, Views.with_owned, Views.AreOfHosts, BroomPlays.Loaded, BroomPlays.owned_as, BroomPlays.cycle_of}
use Rattle.flash_rule.proofs.Owning.{none_some, some_same}
use Rattle.flash_table.specs.{declared.flash.Flash.Flash, declared.pass.OpenBlock.OpenBlock, Erasing.NowErases, Erasing.words_in_block, GivingUp.left_retired}
use Rattle.flash_table.specs.declared.broom_seat.{BroomBlocks.BroomBlocks, ReclaimedBlock.ReclaimedBlock, BroomSeat.BroomSeat, Reclaiming.Reclaiming}
use Rattle.flash_table.specs.Flash.{IsBroomOf, broom_view, own_blocks, geometry_of, device}
use Rattle.flash_table.specs.Owning.{AreApart, blocks_list, owned_of, owned_list, reclaimed_list, reclaimed_as}
use Rattle.flash_table.proofs.Blocks.{at_first, past_first, just_at}
use Rattle.broom.specs.{declared.broom.Broom.Broom, Erasing.Kept, Erasing.Freed, Ready.IsRested, Ready.HasRoom, Ready.view_of_broom, Ready.blocks_of_broom}
use Rattle.broom.specs.Erasing.{DidErase, DidKeep, DidFree, DidRetire, EraseTold, renewed}
use Rattle.broom.proofs.Choosing.{rest_of, rested_again}
use Rattle.flash_table.specs.declared.broom_seat.Reclaiming.TheVariants as reclaiming
use Rattle.broom.specs.declared.answer.Erase.TheVariants as erase

-- ---- what the broom owns
-- the last block of a row isn't among the others
absent_last : (xs : List Owned) (o : Owned) → AreApart (xs ++ o ∷ []) → owned_at o.block xs ≡ None
absent_last [] o h = refl
absent_last (x ∷ xs) o (fresh, h) =
    let here : owned_at o.block (xs ++ o ∷ []) ≡ Some o = just_at xs [] (xs ++ o ∷ []) o (record { same = λ b. refl; apart = h }) in
    dite (ℕ_discrete o.block x.block)
    (λ same. absurd (none_some o (sym fresh ∙ (ap (λ b. owned_at b (xs ++ o ∷ [])) (sym same) ∙ here))))
    (λ unlike. past_first x xs o.block unlike ∙ absent_last xs o h)

-- a block that a broom has just condemned wasn't its own
pub was_not_own : (s t : BroomSeat) (o : ReclaimedBlock) → (own_blocks s).reclaiming ≡ reclaiming.Nothing
    → own_blocks t ≡ record (own_blocks s) { reclaiming = reclaiming.Erasing o } → owned_at o.block (broom_view s).owns ≡ None
was_not_own s t o rested blocks =
    let open_ones : List Owned = owned_list (own_blocks s).destination ++ owned_list (own_blocks s).spare in
    let apart : AreApart (open_ones ++ reclaimed_as _ o ∷ []) = subst (λ (x : BroomBlocks). AreApart (blocks_list x)) blocks t.owns.apart in
    let row : blocks_list (own_blocks s) ≡ open_ones = ap (λ (r : Reclaiming). open_ones ++ reclaimed_list r) rested ∙ append-nil open_ones in
    s.owns.same o.block ∙ (ap (owned_at o.block) row ∙ absent_last open_ones (reclaimed_as _ o) apart)

-- taking a block away that isn't there changes nothing
without_absent : (b : ℕ) (os : List Owned) → owned_at b os ≡ None → without b os ≡ os
without_absent b [] none = refl
without_absent b (o ∷ os) none =
    dite (ℕ_discrete o.block b)
    (λ same. absurd (none_some o (sym none ∙ at_first o os b (sym same))))
    (λ unlike.
    let behind : owned_at b os ≡ None = sym (past_first o os b (λ e. unlike (sym e))) ∙ none in
    rw (ne_eqb o.block b unlike) (ap (λ (l : List Owned). o ∷ l) (without_absent b os behind)))

-- nor does taking it away once it was added
pub without_again : (o : Owned) (os : List Owned) → owned_at o.block os ≡ None → without o.block (with_owned o os) ≡ os
without_again o os fresh =
    let same : without o.block os ≡ os = without_absent o.block os fresh in
    rw (eq-eqb o.block o.block refl) (ap (without o.block) same ∙ same)

-- ---- from the load to the last word
-- a block as the broom erases it
abbrev condemned : ℕ → PinWord → ReclaimedBlock
condemned b p = record { block = b; generation = p.generation; written = p.written }

-- The block was loaded in this state, condemned in it and wiped, and nothing else has changed
pub record WasWiped (s : BroomSeat) (b : ℕ) (p : PinWord) (t : BroomSeat) : Type 0 where
  pub fits : FitsPin p
  pub drained : p.phase ≡ Drained
  pub unread : p.readers ≡ 0
  pub changed : broom_view t ≡ record (broom_view s) {
    loaded = (broom_view s).loaded ++ (b, pin_word p) ∷ [];
    erases = (broom_view s).erases ++ cycle_of (owned_as b p Erasing) ∷ [];
    wiped = words_in_block (broom_view s).numbers;
    owns = with_owned (owned_as b p Erasing) (broom_view s).owns;
  }
  pub blocks : own_blocks t ≡ record (own_blocks s) { reclaiming = reclaiming.Erasing (condemned b p) }
  pub rested : (own_blocks s).reclaiming ≡ reclaiming.Nothing
  pub fresh : owned_at b (broom_view s).owns ≡ None

-- a drained block without readers was loaded
loaded_unread : (v w : View) (b : ℕ) (p : PinWord) → FitsPin p → p.phase ≡ Drained → p.readers ≡ 0 → Loaded v b (pin_word p) w
    → w ≡ record v { loaded = v.loaded ++ (b, pin_word p) ∷ [] }
loaded_unread v w b p fits drained unread h =
    let same : h.state ≡ p = pin_same h.state p h.fits fits (sym h.found) in
    h.ready (ap (λ (x : PinWord). x.phase) same ∙ drained) (ap (λ (x : PinWord). x.readers) same ∙ unread)

-- a block that isn't drained was loaded
pub loaded_stale : (v w : View) (b : ℕ) (p : PinWord) → FitsPin p → ¬ (p.phase ≡ Drained) → Loaded v b (pin_word p) w
    → w ≡ record v { loaded = v.loaded ++ (b, pin_word p) ∷ []; stale = v.stale ++ b ∷ [] }
loaded_stale v w b p fits other h = let same : h.state ≡ p = pin_same h.state p h.fits fits (sym h.found) in
    h.stale (λ is. other (ap (λ (x : PinWord). x.phase) (sym same) ∙ is))

-- a drained block with readers was loaded
pub loaded_busy : (v w : View) (b : ℕ) (p : PinWord) → FitsPin p → p.phase ≡ Drained → 0 < p.readers → Loaded v b (pin_word p) w
    → w ≡ record v { loaded = v.loaded ++ (b, pin_word p) ∷ []; busy = v.busy ++ b ∷ [] }
loaded_busy v w b p fits drained read h =
    let same : h.state ≡ p = pin_same h.state p h.fits fits (sym h.found) in
    h.busy (ap (λ (x : PinWord). x.phase) same ∙ drained) (subst (λ (x : PinWord). 0 < x.readers) (sym same) read)

-- one without readers was loaded, and its word had changed before it could be condemned
pub loaded_changed : (v m w : View) (b : ℕ) (p : PinWord) → FitsPin p → p.phase ≡ Drained → p.readers ≡ 0 → Loaded v b (pin_word p) m
    → w ≡ record m { busy = m.busy ++ b ∷ [] }
    → w ≡ record v { loaded = v.loaded ++ (b, pin_word p) ∷ []; busy = v.busy ++ b ∷ [] }
loaded_changed v m w b p fits drained unread load is = let first = loaded_unread v m b p fits drained unread load in
    is ∙ (λ i. record (first i) { busy = (first i).busy ++ b ∷ [] })

-- a broom that has only loaded a state rests as before
pub rested_loaded : (f : Flash) (s t : BroomSeat) → IsRested f s → IsBroomOf f t → own_blocks t ≡ own_blocks s
    → (loaded : List (ℕ × ℕ)) (busy stale : List ℕ) → broom_view t ≡ record (broom_view s) { loaded = loaded; busy = busy; stale = stale } → IsRested f t
rested_loaded f s t h seat blocks loaded busy stale is =
    rested_again f s t h seat blocks (ap rest_of is) (subst (λ (x : View). AreOfHosts x.numbers x.seen) (sym is) h.callers)

-- a load, a condemn and the wiping of all words, one after the other
pub was_wiped : (f : Flash) (s l m t : BroomSeat) (b : ℕ) (p : PinWord) → IsRested f s → FitsPin p → p.phase ≡ Drained → p.readers ≡ 0
    → Loaded (broom_view s) b (pin_word p) (broom_view l) → own_blocks l ≡ own_blocks s
    → NowErases (broom_view l) (own_blocks l) b p (broom_view m) (own_blocks m)
    → broom_view t ≡ record (broom_view m) { wiped = words_in_block (device f) } → own_blocks t ≡ own_blocks m → WasWiped s b p t
was_wiped f s l m t b p h fits drained unread load same erases wiped blocks =
    let v : View = broom_view s in
    let e : Owned = owned_as b p Erasing in
    let all : ℕ = words_in_block (device f) in
    let load_is : broom_view l ≡ record v { loaded = v.loaded ++ (b, pin_word p) ∷ [] } = loaded_unread v (broom_view l) b p fits drained unread load in
    let rested : (own_blocks l).reclaiming ≡ reclaiming.Nothing = ap (λ (x : BroomBlocks). x.reclaiming) same ∙ h.reclaiming in
    record {
      fits = fits;
      drained = drained;
      unread = unread;
      changed = wiped
          ∙ ((λ j. record (erases.changed j) { wiped = all })
          ∙ ((λ j. record (load_is j) { owns = with_owned e (load_is j).owns; erases = (load_is j).erases ++ cycle_of e ∷ []; wiped = all })
          ∙ (λ j. record v {
            loaded = v.loaded ++ (b, pin_word p) ∷ [];
            erases = v.erases ++ cycle_of e ∷ [];
            wiped = words_in_block (sym h.seat.numbers j);
            owns = with_owned e v.owns;
          })));
      blocks = blocks ∙ (erases.blocks ∙ (λ j. record (same j) { reclaiming = reclaiming.Erasing (condemned b p) }));
      rested = h.reclaiming;
      fresh = ap (λ (w : View). owned_at b w.owns) (sym load_is) ∙ was_not_own l m (condemned b p) rested erases.blocks;
    }

-- the broom erases it
pub its : (s t : BroomSeat) (b : ℕ) (p : PinWord) → WasWiped s b p t → (own_blocks t).reclaiming ≡ reclaiming.Erasing (condemned b p)
its s t b p h = ap (λ (x : BroomBlocks). x.reclaiming) h.blocks

-- ---- what the end of its generation tells
module _ (s t u : BroomSeat) (b : ℕ) (p : PinWord) (h : WasWiped s b p t) where
  abbrev v : View
  v = broom_view s

  abbrev e : Owned
  e = owned_as b p Erasing

  did_erase : (owns more : List Owned) (of_owns : List Owned → List Owned)
      → broom_view u ≡ record (broom_view t) { owns = of_owns (broom_view t).owns; ceded = (broom_view t).ceded ++ more } → of_owns (with_owned e v.owns) ≡ owns
      → DidErase v b p owns (v.ceded ++ more) (broom_view u)
  did_erase owns more of_owns told is =
      record {
        fits = h.fits;
        drained = h.drained;
        unread = h.unread;
        changed = told
            ∙ ((λ j. record (h.changed j) { owns = of_owns (h.changed j).owns; ceded = (h.changed j).ceded ++ more })
            ∙ (λ j. record v {
              loaded = v.loaded ++ (b, pin_word p) ∷ [];
              erases = v.erases ++ cycle_of e ∷ [];
              wiped = words_in_block v.numbers;
              owns = is j;
              ceded = v.ceded ++ more;
            }));
      }

  given_up : own_blocks u ≡ record (own_blocks t) { reclaiming = reclaiming.Nothing } → own_blocks u ≡ own_blocks s
  given_up blocks = blocks ∙ ((λ j. record (h.blocks j) { reclaiming = reclaiming.Nothing }) ∙ (λ j. record (own_blocks s) { reclaiming = sym h.rested j }))

  pub did_retire : p.generation + 1 ≡ v.numbers.endurance → broom_view u ≡ left_retired (broom_view t) (condemned b p)
      → own_blocks u ≡ record (own_blocks t) { reclaiming = reclaiming.Nothing }
      → DidRetire v (own_blocks s) b (broom_view u) (own_blocks u)
  did_retire last told blocks =
      record {
        state = p;
        erased = did_erase v.owns (owned_as b p Retired ∷ []) (without b) told (without_again e v.owns h.fresh);
        last = last;
        blocks = given_up blocks;
      }

  did_free : p.generation + 1 < v.numbers.endurance → Freed (broom_view t) (own_blocks t) (condemned b p) (broom_view u) (own_blocks u)
      → DidFree v (own_blocks s) b (broom_view u) (own_blocks u)
  did_free another told =
      record {
        state = p;
        erased = did_erase v.owns (freed_as (owned_as b p Erasing) ∷ []) (without b) told.changed (without_again e v.owns h.fresh);
        another = another;
        spare = (told.spare.0, ap (λ (x : BroomBlocks). x.spare) (sym h.blocks) ∙ told.spare.1);
        blocks = given_up told.blocks;
      }

  did_keep : p.generation + 1 < v.numbers.endurance → Kept (broom_view t) (own_blocks t) (condemned b p) (broom_view u) (own_blocks u)
      → DidKeep v (own_blocks s) b (broom_view u) (own_blocks u)
  did_keep another told =
      record {
        state = p;
        erased = subst (λ (l : List Owned). DidErase v b p (owned_of (renewed b p) ∷ v.owns) l (broom_view u)) (append-nil v.ceded)
            (did_erase (owned_of (renewed b p) ∷ v.owns) [] (with_owned (owned_of (renewed b p)))
            (told.changed ∙ (λ j. record (broom_view t) {
              owns = with_owned (owned_of (renewed b p)) (broom_view t).owns;
              ceded = sym (append-nil (broom_view t).ceded) j;
            }))
            (ap (λ (l : List Owned). owned_of (renewed b p) ∷ l) (without_again e v.owns h.fresh)));
        another = another;
        none = ap (λ (x : BroomBlocks). x.spare) (sym h.blocks) ∙ told.none;
        blocks = told.blocks
            ∙ ((λ j. record (h.blocks j) { spare = Some (renewed b p); reclaiming = reclaiming.Nothing })
            ∙ (λ j. record (own_blocks s) { spare = Some (renewed b p); reclaiming = sym h.rested j }));
      }

  pub did_renew : (kept : Bool) → p.generation + 1 < v.numbers.endurance
      → MatchBool kept (Kept (broom_view t) (own_blocks t) (condemned b p) (broom_view u) (own_blocks u))
      (Freed (broom_view t) (own_blocks t) (condemned b p) (broom_view u) (own_blocks u))
      → MatchBool kept (DidKeep v (own_blocks s) b (broom_view u) (own_blocks u)) (DidFree v (own_blocks s) b (broom_view u) (own_blocks u))
  did_renew true another told = did_keep another told
  did_renew false another told = did_free another told

-- what an answer of a block that was erased and lives on tells
pub told_erased : (before after : Broom) (b : ℕ) (kept : Bool)
    → MatchBool kept (DidKeep (view_of_broom before) (blocks_of_broom before) b (view_of_broom after) (blocks_of_broom after))
    (DidFree (view_of_broom before) (blocks_of_broom before) b (view_of_broom after) (blocks_of_broom after))
    → EraseTold before b (erase.Erased b kept) after
told_erased before after b true told = (refl, told)
told_erased before after b false told = (refl, told)

-- ---- the broom rests again
-- where its destination is as before, and its spare is as before or a renewed block
rested_erased : (f : Flash) (s u : BroomSeat) {owns ceded : List Owned} (b : ℕ) (p : PinWord) → IsRested f s → IsBroomOf f u
    → DidErase (broom_view s) b p owns ceded (broom_view u)
    → (own_blocks u).destination ≡ (own_blocks s).destination → ((o : OpenBlock) → (own_blocks u).spare ≡ Some o → HasRoom (geometry_of f) 1 o)
    → (own_blocks u).reclaiming ≡ reclaiming.Nothing → IsRested f u
rested_erased f s u b p h seat did destination spare reclaims =
    let changed = did.changed in
    record {
      seat = seat;
      destination = λ o is. h.destination o (sym destination ∙ is);
      spare = spare;
      filed = λ w is. let t = h.filed w (ap (λ (x : View). x.work) (sym changed) ∙ is) in (t.0, destination ∙ t.1, t.2, t.3);
      reclaiming = reclaims;
      source = ap (λ (x : View). x.source) changed ∙ h.source;
      callers = subst (λ (x : View). AreOfHosts x.numbers x.seen) (sym changed) h.callers;
      whole = ap (λ (x : View). x.whole) changed ∙ h.whole;
      alone = ap (λ (x : View). x.guest) changed ∙ h.alone;
    }

-- with the blocks as before
same_blocks : (f : Flash) (s u : BroomSeat) {owns ceded : List Owned} (b : ℕ) (p : PinWord) → IsRested f s → IsBroomOf f u
    → DidErase (broom_view s) b p owns ceded (broom_view u) → own_blocks u ≡ own_blocks s → IsRested f u
same_blocks f s u b p h seat did blocks =
    rested_erased f s u b p h seat did (ap (λ (x : BroomBlocks). x.destination) blocks)
    (λ o is. h.spare o (ap (λ (x : BroomBlocks). x.spare) (sym blocks) ∙ is)) (ap (λ (x : BroomBlocks). x.reclaiming) blocks ∙ h.reclaiming)

module _ (f : Flash) (s u : BroomSeat) (b : ℕ) (h : IsRested f s) (seat : IsBroomOf f u) where
  pub rested_retired : DidRetire (broom_view s) (own_blocks s) b (broom_view u) (own_blocks u) → IsRested f u
  rested_retired did = same_blocks f s u b did.state h seat did.erased did.blocks

  rested_freed : DidFree (broom_view s) (own_blocks s) b (broom_view u) (own_blocks u) → IsRested f u
  rested_freed did = same_blocks f s u b did.state h seat did.erased did.blocks

  rested_kept : b < (device f).blocks → DidKeep (broom_view s) (own_blocks s) b (broom_view u) (own_blocks u) → IsRested f u
  rested_kept low did =
      let n : OpenBlock = renewed b did.state in
      let young : did.state.generation + 1 < endurance_of (geometry_of f) =
      subst (λ (z : Numbers). did.state.generation + 1 < z.endurance) h.seat.numbers did.another in
      let room : HasRoom (geometry_of f) 1 n = record { low = low; room = omega arith; young = young } in
      rested_erased f s u b did.state h seat did.erased (ap (λ (x : BroomBlocks). x.destination) did.blocks)
      (λ o is. subst (HasRoom (geometry_of f) 1) (some_same n o (sym (ap (λ (x : BroomBlocks). x.spare) did.blocks) ∙ is)) room)
      (ap (λ (x : BroomBlocks). x.reclaiming) did.blocks ∙ h.reclaiming)

  pub rested_renewed : (kept : Bool) → b < (device f).blocks
      → MatchBool kept (DidKeep (broom_view s) (own_blocks s) b (broom_view u) (own_blocks u))
      (DidFree (broom_view s) (own_blocks s) b (broom_view u) (own_blocks u)) → IsRested f u
  rested_renewed true low did = rested_kept low did
  rested_renewed false low did = rested_freed did
