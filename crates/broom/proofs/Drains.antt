-- A drain as a whole: the survey, the claim, the relocation and the last step.
use Rattle.std.proofs.Common.{◌≡◌, ℕ, ◌+◌, ◌<◌, false, List, [], ◌∷◌, ◌++◌, length, Option, None, sym, refl, ap, ◌∙◌, subst, arith}
use Rattle.std.proofs.Common.{append-nil, append_assoc, get_or, set}
use Rattle.std.proofs.lemmas.List.{get_or-map}
use Rattle.geometry.specs.{Geometry.blocks_of, Geometry.pages_of, Words.pin_word}
use Rattle.geometry.specs.{Greedy.IsClosed, Limits.Numbers, History.Begins, History.Call}
use Rattle.geometry.specs.declared.words.{Phase.TheVariants.Drained, PinWord.PinWord}
use Rattle.geometry.proofs.Histories.{Begins-trans}
use Rattle.flash_rule.specs.declared.{facts.Cycle.Cycle, facts.Owned.Owned, facts.Source.Source, view.View.View}
use Rattle.flash_rule.specs.{Views.AreOfHosts, BroomPlays.IsLastLoaded}
use Rattle.flash_table.specs.{declared.flash.Flash.Flash, declared.pass.OpenBlock.OpenBlock, Owning.reclaimed_as}
use Rattle.flash_table.specs.declared.broom_seat.{BroomBlocks.BroomBlocks, BroomSeat.BroomSeat, ReclaimedBlock.ReclaimedBlock}
use Rattle.flash_table.specs.declared.broom_seat.Reclaiming.TheVariants.{Nothing, Draining}
use Rattle.flash_table.specs.Flash.{IsBroomOf, broom_view, own_blocks, geometry_of, device}
use Rattle.broom.specs.declared.{broom.Broom.Broom, answer.Drain.Drain}
use Rattle.broom.specs.{Surveying.Chosen, Survey.generation_in, Survey.written_in, Survey.looks_of}
use Rattle.broom.specs.Emptying.{Emptied, HasEmptied, filled_by, given_up, looks_in}
use Rattle.broom.specs.Ready.{IsRested, IsReady, IsMarked, view_of_broom, blocks_of_broom}
use Rattle.broom.specs.Told.{Surveyed, DidDrain, DrainTold, LostClaim, DidDrainAgain, LostAgain, MarkedTold, Unmarks, SurveyLeft, victim_in, block_in}
use Rattle.broom.specs.Relocating.{Sweeps, Relocated}
use Rattle.broom.proofs.{Marking.last_of-loaded, Counting.generation_at, Choosing.closed_low, Emptying.emptied_same}
use Rattle.broom.specs.declared.answer.Drain.TheVariants as drain

module _ (f : Flash) (r : Broom) (b : ℕ) (ready : IsReady f r) (marked : IsClosed r.closed.items b) where
  -- ---- the claim
  pub low_mark : b < length r.closed.items
  low_mark = closed_low r.closed.items b marked

  pub low_block : b < blocks_of (geometry_of f)
  low_block = let low = low_mark in let long = ready.closed in omega arith

  pub low_states : b < length r.states.items
  low_states = let low = low_block in let long = ready.states in omega arith

  module _ (q : PinWord) (is : q ≡ get_or r.states.items b q) where
    -- the state of the victim as loaded last
    mark : IsMarked (device f) (view_of_broom r) b q
    mark = subst (IsMarked (device f) (view_of_broom r) b) (sym is) (ready.marks b q marked)

    pub last_loaded : IsLastLoaded (view_of_broom r) b (pin_word q)
    last_loaded = last_of-loaded b (pin_word q) (view_of_broom r) mark.last

    generation_is : q.generation ≡ generation_in r.states.items b
    generation_is = ap (λ (p : PinWord). p.generation) is ∙ sym (generation_at r.states.items b q low_states)

    written_is : q.written ≡ written_in r.states.items b
    written_is = ap (λ (p : PinWord). p.written) is ∙ sym (get_or-map (λ (p : PinWord). p.written) r.states.items b q 0 low_states)

    -- the block as the broom's victim
    abbrev pub victim_of_state : ReclaimedBlock
    victim_of_state = record { block = b; generation = q.generation; written = q.written }

    -- ---- the relocation begins
    module _ (t : BroomSeat) (seat : IsBroomOf f t) (owns : List Owned)
        (claimed : broom_view t ≡ record (view_of_broom r) { owns = owns; cleared = 0 })
        (blocks : own_blocks t ≡ record (own_blocks r.seat) { reclaiming = Draining victim_of_state }) where
      pub claimed_sweeps : Sweeps f t victim_of_state
      claimed_sweeps =
          let h = ready.rested in
          let range = mark.range in
          record {
            seat = seat;
            draining = ap (λ (y : BroomBlocks). y.reclaiming) blocks;
            low = low_block;
            short = range.within;
            young = range.young;
            destination = λ o is. h.destination o (sym (ap (λ (y : BroomBlocks). y.destination) blocks) ∙ is);
            spare = λ o is. h.spare o (sym (ap (λ (y : BroomBlocks). y.spare) blocks) ∙ is);
            filed = λ w is.
                let k = h.filed w (sym (ap (λ (y : View). y.work) claimed) ∙ is) in (k.0, ap (λ (y : BroomBlocks). y.destination) blocks ∙ k.1, k.2, k.3);
            callers = subst (λ (y : View). AreOfHosts y.numbers y.seen) (sym claimed) h.callers;
          }

      -- ---- the drain ends
      module _ (u w : BroomSeat) (copied : ℕ) (went : Relocated (broom_view t) copied (broom_view u)) (bare : (broom_view u).source ≡ None)
          (sweeps : Sweeps f u victim_of_state) (owned : List Owned)
          (drained : broom_view w ≡ record (broom_view u) {
            owns = owned;
            drains = (broom_view u).drains ++ record { block = b; generation = q.generation } ∷ [];
            ceded =
                (broom_view u).ceded ++ reclaimed_as Drained victim_of_state ∷ [];
          })
          (free : own_blocks w ≡ record (own_blocks u) { reclaiming = Nothing }) (none : (view_of_broom r).source ≡ None)
          (cleared : (broom_view u).cleared ≡ q.written) (emptied : HasEmptied (pages_of (geometry_of f)) victim_of_state t copied u) where
        abbrev v : View
        v = view_of_broom r

        abbrev ceded : List Owned
        ceded = (broom_view u).ceded ++ reclaimed_as Drained victim_of_state ∷ []

        all : broom_view w ≡ record v {
          seen = (broom_view u).seen;
          named = (broom_view u).named;
          owns = owned;
          work = (broom_view u).work;
          programs = (broom_view u).programs;
          cleared = written_in r.states.items b;
          moves = v.moves + copied;
          drains = v.drains ++ record { block = b; generation = generation_in r.states.items b } ∷ [];
          ceded = ceded;
        }
        all =
            let x : View = broom_view u in
            let c : Cycle = record { block = b; generation = q.generation } in
            let ended : View → ℕ → Option Source → Cycle → View = λ y clear source cycle.
            record y {
              seen = x.seen;
              named = x.named;
              owns = owned;
              work = x.work;
              programs = x.programs;
              cleared = clear;
              source = source;
              moves = y.moves + copied;
              drains = y.drains ++ cycle ∷ [];
              ceded = ceded;
            } in
            let relocated : broom_view w ≡ ended (broom_view t) x.cleared x.source c =
            drained ∙ (λ i. record (went.changed i) { owns = owned; drains = (went.changed i).drains ++ c ∷ []; ceded = ceded }) in
            relocated
            ∙ ((λ i. ended (claimed i) x.cleared x.source c)
            ∙ (λ i. ended v ((cleared ∙ written_is) i) ((bare ∙ sym none) i) (record { block = b; generation = generation_is i })))

        -- no state was loaded
        drained_loaded : (broom_view w).loaded ≡ v.loaded
        drained_loaded = ap (λ (x : View). x.loaded) all

        -- its pages, with the claim behind and the drain ahead, and what was given up
        whole_emptied : (e : Emptied v.numbers.pages (block_in r.states.items b) v (own_blocks r.seat) copied (broom_view w) (own_blocks w))
            × (ceded ≡ v.ceded ++ given_up v.numbers.pages e.copies (block_in r.states.items b))
        whole_emptied =
            let pages : pages_of (geometry_of f) ≡ v.numbers.pages = ap (λ (z : Numbers). z.pages) (sym ready.rested.seat.numbers) in
            let victim : victim_of_state ≡ block_in r.states.items b = λ i. record { block = b; generation = generation_is i; written = written_is i } in
            let open_ones : BroomBlocks → Option OpenBlock × Option OpenBlock = λ z. (z.destination, z.spare) in
            let before = ap open_ones blocks in
            let after = ap open_ones free in
            let copies = emptied.0.copies in
            let filled : List Owned = filled_by (pages_of (geometry_of f)) copies in
            let last : List Owned = reclaimed_as Drained victim_of_state ∷ [] in
            let gave : ceded ≡ v.ceded ++ (filled ++ last) =
            ap (λ (l : List Owned). l ++ last) (emptied.1 ∙ ap (λ (z : View). z.ceded ++ filled) claimed) ∙ append_assoc v.ceded filled last in
            let P : ℕ × ReclaimedBlock → Type 0 = λ k. (e : Emptied k.0 k.1 v (own_blocks r.seat) copied (broom_view w) (own_blocks w))
            × (ceded ≡ v.ceded ++ given_up k.0 e.copies k.1) in
            subst P (λ i. (pages i, victim i)) (
              emptied_same (pages_of (geometry_of f)) copied victim_of_state (broom_view t) v (broom_view u) (broom_view w) (own_blocks t)
                  (own_blocks r.seat) (own_blocks u) (own_blocks w) (ap (λ (z : View). z.named) claimed) (ap (λ (z : View). z.programs) claimed)
                  (ap (λ (z : View). z.work) claimed) (ap (λ (z : View). z.named) drained) (ap (λ (z : View). z.programs) drained)
                  (ap (λ (z : View). z.work) drained) before after emptied.0,
              gave,
            )

        did_drain : DidDrainAgain v (own_blocks r.seat) r.states.items b copied (broom_view w) (own_blocks w)
        did_drain =
            let e = all in
            let seen : (broom_view t).seen ≡ v.seen = ap (λ (y : View). y.seen) claimed in
            let last : (broom_view w).seen ≡ (broom_view u).seen = ap (λ (y : View). y.seen) drained in
            record {
              later = let P : List Call × List Call → Type 0 = λ y. Begins y.0 y.1 in subst P (λ i. (seen i, sym last i)) went.later;
              emptied = whole_emptied.0;
              room = λ o is.
                  let left = (sweeps.destination o (sym (ap (λ (z : BroomBlocks). z.destination) free) ∙ is)).room in
                  subst (λ (z : Numbers). o.written < z.pages) (sym ready.rested.seat.numbers) left;
              reclaiming = ap (λ (z : BroomBlocks). z.reclaiming) free ∙ sym ready.rested.reclaiming;
              changed = e
                  ∙ (λ i. record v {
                    seen = (sym e i).seen;
                    named = (sym e i).named;
                    owns = (sym e i).owns;
                    work = (sym e i).work;
                    programs = (sym e i).programs;
                    cleared = written_in r.states.items b;
                    moves = v.moves + copied;
                    drains = v.drains ++ record { block = b; generation = generation_in r.states.items b } ∷ [];
                    ceded = whole_emptied.1 i;
                  });
            }

        drained_rested : IsBroomOf f w → IsRested f w
        drained_rested now =
            let h = ready.rested in
            record {
              seat = now;
              destination = λ o is. sweeps.destination o (sym (ap (λ (y : BroomBlocks). y.destination) free) ∙ is);
              spare = λ o is. sweeps.spare o (sym (ap (λ (y : BroomBlocks). y.spare) free) ∙ is);
              filed = λ x is.
                  let k = sweeps.filed x (sym (ap (λ (y : View). y.work) drained) ∙ is) in (k.0, ap (λ (y : BroomBlocks). y.destination) free ∙ k.1, k.2, k.3);
              reclaiming = ap (λ (y : BroomBlocks). y.reclaiming) free;
              source = ap (λ (y : View). y.source) drained ∙ bare;
              callers = subst (λ (y : View). AreOfHosts y.numbers y.seen) (sym drained) sweeps.callers;
              whole = ap (λ (y : View). y.whole) drained ∙ (ap (λ (y : View). y.whole) went.changed ∙ (ap (λ (y : View). y.whole) claimed ∙ h.whole));
              alone = ap (λ (y : View). y.guest) drained ∙ (ap (λ (y : View). y.guest) went.changed ∙ (ap (λ (y : View). y.guest) claimed ∙ h.alone));
            }

        pub drained_so : DidDrainAgain v (own_blocks r.seat) r.states.items b copied (broom_view w) (own_blocks w) × ((broom_view w).loaded ≡ v.loaded)
            × (IsBroomOf f w → IsRested f w)
        drained_so = (did_drain, drained_loaded, drained_rested)

-- ---- a drain of a survey's victim is a drain
module _ (v : View) (b : ℕ) (r after : Broom) (chosen : Chosen v b r) (x : BroomBlocks) (same : blocks_of_broom r ≡ x) where
  abbrev u : View
  u = view_of_broom r

  abbrev w : View
  w = view_of_broom after

  numbers : u.numbers ≡ v.numbers
  numbers = ap (λ (z : View). z.numbers) chosen.changed

  -- a survey is a survey still where nothing is loaded, and what is looked at comes behind
  surveyed_still : w.loaded ≡ u.loaded → Begins u.named w.named → Begins u.seen w.seen → Surveyed v chosen.survey w
  surveyed_still loaded named later =
      let behind : u.named ≡ v.named ++ looks_of chosen.survey.pages = ap (λ (z : View). z.named) chosen.changed in
      record {
        whole = chosen.made.whole;
        loaded = loaded ∙ chosen.made.loaded;
        named = let P : List (ℕ × ℕ) → Type 0 = λ l. Begins l w.named in subst P behind named;
        later = Begins-trans v.seen u.seen w.seen chosen.made.later later;
      }

  made_drained : (copied : ℕ) → DidDrainAgain u (blocks_of_broom r) r.states.items b copied w (blocks_of_broom after) → Surveyed v chosen.survey w
  made_drained copied h = surveyed_still (ap (λ (z : View). z.loaded) h.changed) (looks_in h.emptied.finds, sym h.emptied.named) h.later

  made_lost : LostAgain u b w → Surveyed v chosen.survey w
  made_lost lost =
      let named : w.named ≡ u.named = ap (λ (z : View). z.named) lost in
      let seen : w.seen ≡ u.seen = ap (λ (z : View). z.seen) lost in
      surveyed_still (ap (λ (z : View). z.loaded) lost) ([], append-nil u.named ∙ sym named) ([], append-nil u.seen ∙ sym seen)

  -- the victim as the drain has it is the survey's
  same_victim : block_in r.states.items b ≡ victim_in chosen.survey b
  same_victim i = block_in (sym chosen.kept i) b

  -- its pages were emptied behind the survey's looks, and what was given up is listed behind what was given up before
  drained_emptied : (copied : ℕ) → DidDrainAgain u (blocks_of_broom r) r.states.items b copied w (blocks_of_broom after)
      → (e : Emptied v.numbers.pages (victim_in chosen.survey b) (record v { named = v.named ++ looks_of chosen.survey.pages }) x copied w
      (blocks_of_broom after)) × (w.ceded ≡ v.ceded ++ given_up v.numbers.pages e.copies (victim_in chosen.survey b))
  drained_emptied copied h =
      let k = chosen.changed in
      let begun : View = record v { named = v.named ++ looks_of chosen.survey.pages } in
      let P : Numbers × ReclaimedBlock × BroomBlocks → Type 0 =
      λ y. (e : Emptied y.0.pages y.1 u y.2 copied w (blocks_of_broom after)) × (w.ceded ≡ u.ceded ++ given_up y.0.pages e.copies y.1) in
      let emptied : P (v.numbers, victim_in chosen.survey b, x) =
      subst P (λ i. (numbers i, same_victim i, same i)) (h.emptied, ap (λ (z : View). z.ceded) h.changed) in
      let named : u.named ≡ v.named ++ looks_of chosen.survey.pages = ap (λ (z : View). z.named) k in (
        emptied_same v.numbers.pages copied (victim_in chosen.survey b) u begun w w x x (blocks_of_broom after)
            (blocks_of_broom after) named (ap (λ (z : View). z.programs) k) (ap (λ (z : View). z.work) k) refl refl refl refl refl emptied.0,
        emptied.1 ∙ ap (λ (z : View). z.ceded ++ given_up v.numbers.pages emptied.0.copies (victim_in chosen.survey b)) k,
      )

  -- what the survey and the drain have changed together
  drained_changed : (copied : ℕ) → DidDrainAgain u (blocks_of_broom r) r.states.items b copied w (blocks_of_broom after)
      → w ≡ record v {
        seen = w.seen;
        loaded = u.loaded;
        named = w.named;
        busy = u.busy;
        stale = u.stale;
        owns = w.owns;
        work = w.work;
        programs = w.programs;
        cleared = (block_in r.states.items b).written;
        moves = v.moves + copied;
        drains = v.drains ++ record { block = b; generation = (block_in r.states.items b).generation } ∷ [];
        ceded = w.ceded;
      }
  drained_changed copied h =
      let c = h.changed in
      let k = chosen.changed in
      c
      ∙ ((λ i. record u {
        seen = w.seen;
        named = w.named;
        owns = w.owns;
        work = w.work;
        programs = w.programs;
        cleared = (block_in r.states.items b).written;
        moves = u.moves + copied;
        drains = u.drains ++ record { block = b; generation = (block_in r.states.items b).generation } ∷ [];
        ceded = (sym c i).ceded;
      })
      ∙ (λ i. record (k i) {
        seen = w.seen;
        named = w.named;
        owns = w.owns;
        work = w.work;
        programs = w.programs;
        cleared = (block_in r.states.items b).written;
        moves = (k i).moves + copied;
        drains = (k i).drains ++ record { block = b; generation = (block_in r.states.items b).generation } ∷ [];
        ceded = w.ceded;
      }))

  surveyed_drained : (copied : ℕ) → DidDrainAgain u (blocks_of_broom r) r.states.items b copied w (blocks_of_broom after)
      → DidDrain v x b copied w (blocks_of_broom after)
  surveyed_drained copied h =
      let all = drained_changed copied h in
      let emptied = drained_emptied copied h in
      record {
        survey = chosen.survey;
        made = made_drained copied h;
        victim = chosen.victim;
        emptied = emptied.0;
        room = λ o is. subst (λ (z : Numbers). o.written < z.pages) numbers (h.room o is);
        reclaiming = h.reclaiming ∙ ap (λ (z : BroomBlocks). z.reclaiming) same;
        changed = all
            ∙ (λ i. record v {
              seen = w.seen;
              loaded = (sym all i).loaded;
              named = w.named;
              busy = (sym all i).busy;
              stale = (sym all i).stale;
              owns = w.owns;
              work = w.work;
              programs = w.programs;
              cleared = (same_victim i).written;
              moves = v.moves + copied;
              drains = v.drains ++ record { block = b; generation = (same_victim i).generation } ∷ [];
              ceded = emptied.1 i;
            });
      }

  surveyed_lost : LostAgain u b w → LostClaim v w
  surveyed_lost lost =
      let k = chosen.changed in
      let all = lost ∙ (λ i. record (k i) { lost = (k i).lost ++ b ∷ [] }) in
      record {
        survey = chosen.survey;
        made = made_lost lost;
        block = b;
        victim = chosen.victim;
        changed = all ∙ (λ i. record v {
          seen = (sym all i).seen;
          loaded = (sym all i).loaded;
          named = v.named ++ looks_of chosen.survey.pages;
          busy = (sym all i).busy;
          stale = (sym all i).stale;
          lost = v.lost ++ b ∷ [];
        });
      }

-- what a drain of a survey's victim tells
pub drain_told : (before r after : Broom) (b : ℕ) (answer : Drain) → Chosen (view_of_broom before) b r → blocks_of_broom r ≡ blocks_of_broom before
    → MarkedTold r b answer after → DrainTold before answer after
drain_told before r after b (drain.Drained block copied) chosen same told =
    let did = surveyed_drained (view_of_broom before) b r after chosen (blocks_of_broom before) same copied told.1 in
    subst (λ k. DidDrain (view_of_broom before) (blocks_of_broom before) k copied (view_of_broom after) (blocks_of_broom after)) (sym told.0) did
drain_told before r after b drain.NothingToGain chosen same told = absurd told
drain_told before r after b drain.NoSpare chosen same told = absurd told
drain_told before r after b drain.Lost chosen same told =
    (surveyed_lost (view_of_broom before) b r after chosen (blocks_of_broom before) same told.0, told.1 ∙ same)
drain_told before r after b drain.QueueFull chosen same told = absurd told

-- what a drain of a survey's victim leaves
pub drain_left : (before r after : Broom) (b : ℕ) (answer : Drain) → Chosen (view_of_broom before) b r → blocks_of_broom r ≡ blocks_of_broom before
    → MarkedTold r b answer after → Unmarks r b after → SurveyLeft before answer after
drain_left before r after b (drain.Drained block copied) chosen same told marks = (
  chosen.survey,
  record {
    made = made_drained (view_of_broom before) b r after chosen (blocks_of_broom before) same copied told.1;
    states = marks.states ∙ sym chosen.kept;
    counts = marks.counts ∙ chosen.counts;
    marks = marks.marks ∙ (λ i. set (chosen.marks i) (sym told.0 i) false);
  },
)
drain_left before r after b drain.NothingToGain chosen same told marks = absurd told
drain_left before r after b drain.NoSpare chosen same told marks = absurd told
drain_left before r after b drain.Lost chosen same told marks = (
  chosen.survey,
  b,
  chosen.victim,
  record {
    made = made_lost (view_of_broom before) b r after chosen (blocks_of_broom before) same told.0;
    states = marks.states ∙ sym chosen.kept;
    counts = marks.counts ∙ chosen.counts;
    marks = marks.marks ∙ (λ i. set (chosen.marks i) b false);
  },
)
drain_left before r after b drain.QueueFull chosen same told marks = absurd told
