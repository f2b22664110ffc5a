-- A survey as a whole, and the choice by it.
use Rattle.std.proofs.Common.{◌≡◌, ℕ, ◌<◌, Bool, false, true, All, List, [], ◌∷◌, ◌++◌, length, Option, None, Some, IfSome, MatchOption, refl, sym, ap, ◌∙◌}
use Rattle.std.proofs.Common.{subst, arith, get_or}
use Rattle.std.proofs.lemmas.List.{get_or_past, length-map, FromFn.get_or-map-range_with_len}
use Rattle.geometry.proofs.{Choosing.greedy_of-closed, Histories.Begins-refl}
use mathlib.Core.Logic.{dite}
use native.Mathlib.Decide.{dec_lt}
use Rattle.geometry.specs.{Geometry.blocks_of, Limits.Numbers, declared.words.PinWord.PinWord}
use Rattle.geometry.specs.{Greedy.greedy_of, Greedy.IsClosed, History.Call, History.Begins}
use Rattle.flash_rule.specs.{declared.facts.Name.Name, declared.facts.Work.Work, declared.facts.Source.Source, declared.view.View.View, Views.AreOfHosts}
use Rattle.flash_table.specs.declared.{flash.Flash.Flash, broom_seat.BroomBlocks.BroomBlocks, broom_seat.BroomSeat.BroomSeat}
use Rattle.flash_table.specs.Flash.{IsBroomOf, broom_view, own_blocks, geometry_of, device}
use Rattle.broom.specs.{declared.broom.Broom.Broom, Ready.IsInRange, Ready.IsRested, Ready.IsReady, Ready.view_of_broom}
use Rattle.broom.specs.Survey.{Survey, GainsNothing, live_pages, victim_of, loads_of, looks_of, is_closed, closed_of}
use Rattle.broom.specs.Told.{Surveyed, GainedNothing, LeftSurvey, GainsNothingNext, IsDrainedNext, next_of}
use Rattle.broom.specs.Surveying.{StatesLoaded, PagesCounted, Chosen, ChoseNone, Chooses}

-- what being at rest says of a view, but for what was seen
abbrev pub rest_of : View → Option Work × (Option Source × (Bool × Option Name))
rest_of v = (v.work, (v.source, (v.whole, v.guest)))

-- a broom rests again where nothing of that has changed
pub rested_again : (f : Flash) (s t : BroomSeat) → IsRested f s → IsBroomOf f t → own_blocks t ≡ own_blocks s
    → rest_of (broom_view t) ≡ rest_of (broom_view s) → AreOfHosts (broom_view t).numbers (broom_view t).seen → IsRested f t
rested_again f s t h seat blocks same callers =
    record {
      seat = seat;
      destination = λ o is. h.destination o (ap (λ (x : BroomBlocks). x.destination) (sym blocks) ∙ is);
      spare = λ o is. h.spare o (ap (λ (x : BroomBlocks). x.spare) (sym blocks) ∙ is);
      filed = λ w is.
          let t = h.filed w (sym (λ i. (same i).0) ∙ is) in (t.0, ap (λ (x : BroomBlocks). x.destination) blocks ∙ t.1, t.2, t.3);
      reclaiming = ap (λ (x : BroomBlocks). x.reclaiming) blocks ∙ h.reclaiming;
      source = (λ i. (same i).1.0) ∙ h.source;
      callers = callers;
      whole = (λ i. (same i).1.1.0) ∙ h.whole;
      alone = (λ i. (same i).1.1.1) ∙ h.alone;
    }

-- a marked place is within the list of marks
pub closed_low : (closed : List Bool) (i : ℕ) → IsClosed closed i → i < length closed
closed_low closed i is = dite (dec_lt i (length closed)) (λ below. below) (λ past. absurd (marked_past (get_or_past closed i false (omega arith)))) where
  marked_past : get_or closed i false ≡ false → ⊥
  marked_past e = let both : false ≡ true = sym e ∙ is in absurd (cc)

module _ (f : Flash) (before after : Broom) (s : BroomSeat) (states : List PinWord) (counts : List ℕ) (closed : List Bool) (seat : IsBroomOf f before.seat)
    (loaded : StatesLoaded (device f) (view_of_broom before) states closed (broom_view s))
    (counted : PagesCounted (broom_view s) states counts (view_of_broom after)) (long : length states ≡ blocks_of (geometry_of f)) where
  abbrev v : View
  v = view_of_broom before

  abbrev w : View
  w = view_of_broom after

  abbrev pub the_survey : Survey
  the_survey = record { states = states; pages = counted.pages }

  numbers : (broom_view s).numbers ≡ v.numbers
  numbers = ap (λ (x : View). x.numbers) loaded.changed

  pub changed : w ≡ record v { seen = w.seen; loaded = w.loaded; named = v.named ++ looks_of counted.pages; busy = w.busy; stale = w.stale }
  changed =
      let all : w ≡ record v {
        seen = w.seen;
        loaded = v.loaded ++ loads_of states;
        named = (broom_view s).named ++ looks_of counted.pages;
        busy = (broom_view s).busy;
        stale = (broom_view s).stale;
      } =
      counted.changed ∙ (λ i. record (loaded.changed i) { seen = w.seen; named = (broom_view s).named ++ looks_of counted.pages }) in
      let named : (broom_view s).named ≡ v.named = ap (λ (x : View). x.named) loaded.changed in
      all ∙ (λ i. record v {
        seen = w.seen;
        loaded = (sym all i).loaded;
        named = named i ++ looks_of counted.pages;
        busy = (sym all i).busy;
        stale = (sym all i).stale;
      })

  pub made : Surveyed v the_survey w
  made =
      let same = numbers in
      let blocks : v.numbers.blocks ≡ (device f).blocks = ap (λ (z : Numbers). z.blocks) seat.numbers in
      let sectors : (broom_view s).numbers.sectors ≡ v.numbers.sectors = ap (λ (z : Numbers). z.sectors) same in
      let seen : (broom_view s).seen ≡ v.seen = ap (λ (x : View). x.seen) loaded.changed in
      record {
        whole = record {
          blocks = long ∙ sym blocks;
          sectors = counted.long ∙ sectors;
          states = λ k d low. (loaded.ranges k d low).fits;
          pages = counted.fits;
        };
        loaded = ap (λ (x : View). x.loaded) counted.changed ∙ ap (λ (x : View). x.loaded) loaded.changed;
        named = let P : List (ℕ × ℕ) → Type 0 = λ l. Begins (v.named ++ looks_of counted.pages) l in
            subst P (sym (ap (λ (x : View). x.named) changed)) (Begins-refl (v.named ++ looks_of counted.pages));
        later = let P : List Call → Type 0 = λ l. Begins l w.seen in subst P seen counted.later;
      }

  pub callers : AreOfHosts w.numbers w.seen
  callers = let P : Numbers → Type 0 = λ z. AreOfHosts z w.seen in subst P (sym (ap (λ (x : View). x.numbers) counted.changed)) counted.callers

  pub choice : (o : Option ℕ) → o ≡ greedy_of counts closed → victim_of the_survey ≡ o
  choice o is = (λ i. greedy_of (sym counted.counted i) (sym loaded.marked i)) ∙ sym is

  pub live_is : (b : ℕ) → b < length states → get_or counts b 0 ≡ live_pages the_survey b
  live_is b low = ap (λ (l : List ℕ). get_or l b 0) counted.counted
      ∙ get_or-map-range_with_len (live_pages the_survey) 0 (length states) b b 0 low (omega arith)

  pub gained_nothing : GainsNothing the_survey v.numbers.pages → GainedNothing v w
  gained_nothing nothing = record { survey = the_survey; made = made; nothing = nothing; changed = changed }

  -- the broom keeps what the survey found
  module _ (keeps : after.states.items ≡ states) (counts_are : after.counts.items ≡ counts) (marks_are : after.closed.items ≡ closed)
      (many : length after.counts.items ≡ length after.closed.items) where
    next : next_of after ≡ greedy_of counts closed
    next = λ i. greedy_of (counts_are i) (marks_are i)

    numbers_after : w.numbers ≡ v.numbers
    numbers_after = ap (λ (x : View). x.numbers) changed

    low : (b : ℕ) → IsClosed after.closed.items b → b < length states
    low b shut =
        let below = closed_low after.closed.items b shut in
        let marks = ap (length {A = Bool}) (marks_are ∙ loaded.marked) in
        let all = length-map states (λ (p : PinWord). is_closed p.phase) in omega arith

    count_is : (b : ℕ) → IsClosed after.closed.items b → get_or after.counts.items b 0 ≡ live_pages the_survey b
    count_is b shut = ap (λ (l : List ℕ). get_or l b 0) counts_are ∙ live_is b (low b shut)

    left : LeftSurvey v the_survey (closed_of states) after
    left = record { made = made; states = keeps; counts = counts_are ∙ counted.counted; marks = marks_are ∙ loaded.marked }

    none : (o : Option ℕ) → next_of after ≡ o → IfSome o (λ b. get_or after.counts.items b 0 ≡ w.numbers.pages)
        → IfSome o (λ b. live_pages the_survey b ≡ v.numbers.pages)
    none None is full = tt
    none (Some b) is full = sym (count_is b (greedy_of-closed after.counts.items after.closed.items many b is))
        ∙ (full ∙ ap (λ (z : Numbers). z.pages) numbers_after)

    pub chose_none : GainsNothingNext after → ChoseNone v after
    chose_none full =
        let P : Option ℕ → Type 0 = λ o. IfSome o (λ b. live_pages the_survey b ≡ v.numbers.pages) in
        record { gained = gained_nothing (subst P (sym (choice (next_of after) next)) (none (next_of after) refl full)); left = (the_survey, left) }

    pub chosen : (b : ℕ) → IsDrainedNext after b → Chosen v b after
    chosen b h =
        let shut = greedy_of-closed after.counts.items after.closed.items many b h.chosen in
        record {
          survey = the_survey;
          made = made;
          victim = record {
            chosen = choice (Some b) (sym h.chosen ∙ next);
            gains = λ e. h.gains (count_is b shut ∙ (e ∙ ap (λ (z : Numbers). z.pages) (sym numbers_after)));
          };
          kept = sym keeps;
          counts = left.counts;
          marks = left.marks;
          low = low b shut;
          closed = subst (λ l. IsClosed l b) (marks_are ∙ loaded.marked) shut;
          ranges = subst (λ (z : Numbers). All (IsInRange z) states) (sym seat.numbers) loaded.ranges;
          changed = changed;
        }

    pub chooses : (result : Option ℕ) → MatchOption result (GainsNothingNext after) (λ b. IsDrainedNext after b) → Chooses v result after
    chooses None told = chose_none told
    chooses (Some b) told = chosen b told

  pub rested_surveyed : IsRested f before.seat → IsBroomOf f after.seat → own_blocks after.seat ≡ own_blocks before.seat → IsRested f after.seat
  rested_surveyed h now blocks =
      rested_again f before.seat after.seat h now blocks (ap rest_of changed) callers

-- the block to be drained next is one of the device
pub next_low : (f : Flash) (b : Broom) (victim : ℕ) → IsReady f b → Some victim ≡ next_of b → victim < blocks_of (geometry_of f)
next_low f b victim h is = let low =
    closed_low b.closed.items victim (greedy_of-closed b.counts.items b.closed.items (h.counts ∙ sym h.closed) victim (sym is)) in
    let long = h.closed in omega arith

-- and where a claim was lost
pub rested_lost : (f : Flash) (s t : BroomSeat) (b : ℕ) → IsRested f s → IsBroomOf f t → own_blocks t ≡ own_blocks s
    → broom_view t ≡ record (broom_view s) { lost = (broom_view s).lost ++ b ∷ [] } → IsRested f t
rested_lost f s t b h seat blocks lost =
    rested_again f s t h seat blocks (ap rest_of lost) (subst (λ (v : View). AreOfHosts v.numbers v.seen) (sym lost) h.callers)
