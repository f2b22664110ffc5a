-- A page is copied: its words are put in order into the next page of the destination, with the stamp behind them, and the page is counted.
use Rattle.broom.proofs.Sweeping.{relocated_as}
use Rattle.std.proofs.Common.{◌≡◌, ◌≢◌, ℕ, ◌+◌, ◌-◌, ◌<◌, ◌≤◌, eq-eqb, ne_eqb, List, [], ◌∷◌, ◌++◌, length, Option, None, Some, sym, refl, ap, ◌∙◌, subst}
use Rattle.std.proofs.Common.{arith, length-append}
use Rattle.std.proofs.{Math.ListN.get_or, Math.ListN.get_or-append, lemmas.List.get_or-append_right}
use mathlib.Core.Logic.{dite}
use native.Mathlib.Decide.{ℕ_discrete}
use Rattle.geometry.specs.{Geometry.pages_of, Geometry.words_of, declared.words.MapWord.MapWord, Limits.Numbers}
use Rattle.geometry.proofs.Histories.{Begins-refl, Begins-push}
use Rattle.flash_rule.specs.declared.{facts.Owned.Owned, facts.Work.Work, facts.Source.Source, view.View.View}
use Rattle.flash_rule.specs.{Views.AreOfHosts, Views.owned_at, Views.with_owned, World.data_word, Rule.IsValue}
use Rattle.flash_rule.specs.Plays.{CanPut, CanCount, words_in, next_page}
use Rattle.flash_rule.proofs.{Owning.some_same, Owning.with_here, Points.eq_self}
use Rattle.flash_table.specs.{declared.flash.Flash.Flash, declared.pass.OpenBlock.OpenBlock, Owning.owned_of}
use Rattle.flash_table.specs.declared.broom_seat.{BroomBlocks.BroomBlocks, BroomSeat.BroomSeat, ReclaimedBlock.ReclaimedBlock}
use Rattle.flash_table.specs.Flash.{IsBroomOf, broom_view, own_blocks, geometry_of, device}
use Rattle.flash_table.proofs.Blocks.{destination_at}
use Rattle.broom.specs.{Ready.HasRoom, Ready.IsFiled, Relocating.IsSweeping, Relocating.Sweeps, Relocating.Relocated, Relocating.Copied}

-- ---- the words of a page
words_none : (d : Option Work) (o : Owned) → ((x : Work) → d ≡ Some x → x.page.block ≡ o.block → x.page.page < o.written) → words_in d o ≡ []
words_none None o counted = refl
words_none (Some x) o counted =
    dite (ℕ_discrete x.page.block o.block)
    (λ here. let low = counted x refl here in
    let other : x.page.page ≢ o.written = omega arith in rw (eq-eqb x.page.block o.block here) (rw (ne_eqb x.page.page o.written other) refl))
    (λ else. rw (ne_eqb x.page.block o.block else) refl)

words_here : (o : Owned) (words : List ℕ) → words_in (Some (record { page = next_page o; words = words })) o ≡ words
words_here o words = rw (eq_self o.block) (rw (eq_self o.written) refl)

-- so many words of the value stand in the next page of the destination, and nothing else has changed
pub record Filling (f : Flash) (v : View) (y : BroomBlocks) (o : OpenBlock) (value : List ℕ) (k : ℕ) (s : BroomSeat) : Type 0 where
  pub seat : IsBroomOf f s
  pub kept : own_blocks s ≡ y
  pub opened : y.destination ≡ Some o
  pub changed : broom_view s ≡ record v { work = (broom_view s).work }
  pub inside : (w : Work) → (broom_view s).work ≡ Some w → w.page.block ≡ o.block
  pub long : length (words_in (broom_view s).work (owned_of o)) ≡ k
  pub words : (i : ℕ) → i < k → get_or (words_in (broom_view s).work (owned_of o)) i 0 ≡ data_word value i

pub filling_none : (f : Flash) (s : BroomSeat) (o : OpenBlock) (value : List ℕ) → IsBroomOf f s → (own_blocks s).destination ≡ Some o
    → IsFiled (broom_view s) (own_blocks s)
    → Filling f (broom_view s) (own_blocks s) o value 0 s
filling_none f s o value seat is filed =
    let none : words_in (broom_view s).work (owned_of o) ≡ [] =
    words_none (broom_view s).work (owned_of o)
    (λ x work here. let t = filed x work in
    let same : t.0.written ≡ o.written = ap (λ (y : OpenBlock). y.written) (some_same t.0 o (sym t.1 ∙ is)) in let low = t.3 in omega arith) in
    record {
      seat = seat;
      kept = refl;
      opened = is;
      changed = refl;
      inside = λ w work. let t = filed w work in t.2 ∙ ap (λ (y : OpenBlock). y.block) (some_same t.0 o (sym t.1 ∙ is));
      long = ap (length {A = ℕ}) none;
      words = λ i below. absurd (omega arith);
    }

-- a step that leaves the view and the blocks as they were
pub filling_same : (f : Flash) (v : View) (y : BroomBlocks) (o : OpenBlock) (value : List ℕ) (k : ℕ) (s t : BroomSeat) → Filling f v y o value k s
    → IsBroomOf f t → broom_view t ≡ broom_view s → own_blocks t ≡ own_blocks s → Filling f v y o value k t
filling_same f v y o value k s t h seat same blocks =
    let work : (broom_view t).work ≡ (broom_view s).work = ap (λ (w : View). w.work) same in
    record {
      seat = seat;
      kept = blocks ∙ h.kept;
      opened = h.opened;
      changed = same ∙ (h.changed ∙ (λ i. record v { work = sym work i }));
      inside = λ w is. h.inside w (sym work ∙ is);
      long = ap (λ (d : Option Work). length (words_in d (owned_of o))) work ∙ h.long;
      words = λ i below. ap (λ (d : Option Work). get_or (words_in d (owned_of o)) i 0) work ∙ h.words i below;
    }

pub filling_can : (f : Flash) (v : View) (y : BroomBlocks) (o : OpenBlock) (value : List ℕ) (k : ℕ) (s : BroomSeat) → Filling f v y o value k s
    → o.written < pages_of (geometry_of f) → k ≤ words_of (geometry_of f) → CanPut (broom_view s) (owned_of o)
filling_can f v y o value k s h room low =
    let pages : (broom_view s).numbers.pages ≡ (device f).pages = ap (λ (z : Numbers). z.pages) h.seat.numbers in
    let words : (broom_view s).numbers.words ≡ (device f).words = ap (λ (z : Numbers). z.words) h.seat.numbers in
    let long = h.long in
    record {
      own = destination_at (own_blocks s) s.owns (ap (λ (x : BroomBlocks). x.destination) h.kept ∙ h.opened);
      opened = refl;
      room = omega arith;
      short = omega arith;
      settled = λ w e work own else. absurd (else (h.inside w work));
    }

-- the work after one more word
abbrev pub put_work : OpenBlock → BroomSeat → ℕ → Work
put_work o s word = record { page = next_page (owned_of o); words = words_in (broom_view s).work (owned_of o) ++ word ∷ [] }

pub filling_more : (f : Flash) (v : View) (y : BroomBlocks) (o : OpenBlock) (value : List ℕ) (k word : ℕ) (s t : BroomSeat)
    → Filling f v y o value k s → IsBroomOf f t → own_blocks t ≡ own_blocks s
    → broom_view t ≡ record (broom_view s) { work = Some (put_work o s word) } → word ≡ data_word value k → Filling f v y o value (k + 1) t
filling_more f v y o value k word s t h seat blocks told is =
    let before : List ℕ = words_in (broom_view s).work (owned_of o) in
    let work : (broom_view t).work ≡ Some (put_work o s word) = ap (λ (w : View). w.work) told in
    let now : words_in (broom_view t).work (owned_of o) ≡ before ++ word ∷ [] =
    ap (λ d. words_in d (owned_of o)) work ∙ words_here (owned_of o) (before ++ word ∷ []) in
    let long = h.long in
    let longer : length (words_in (broom_view t).work (owned_of o)) ≡ k + 1 = ap (length {A = ℕ}) now ∙ (length-append before (word ∷ []) ∙ (omega arith)) in
    record {
      seat = seat;
      kept = blocks ∙ h.kept;
      opened = h.opened;
      changed = told ∙ (λ i. record (h.changed i) { work = sym work i });
      inside = λ w is. ap (λ (x : Work). x.page.block) (some_same w (put_work o s word) (sym is ∙ work));
      long = longer;
      words = λ i below.
          ap (λ l. get_or l i 0) now
          ∙ dite (ℕ_discrete i k)
          (λ last. get_or-append_right before (word ∷ []) k i 0 h.long (omega arith)
          ∙ ((let e : i - k ≡ 0 = omega arith in ap (λ j. get_or (word ∷ []) j 0) e) ∙ (is ∙ ap (λ j. data_word value j) (sym last))))
          (λ earlier. get_or-append before (word ∷ []) 0 i (omega arith) ∙ h.words i (omega arith));
    }

-- ---- the page is counted
module _ (f : Flash) (v : View) (y : BroomBlocks) (o : OpenBlock) (value : List ℕ) (stamp : ℕ) (s t : BroomSeat)
    (h : Filling f v y o value (words_of (geometry_of f)) s)
    (told : broom_view t ≡ record (broom_view s) { work = Some (put_work o s stamp) }) (seat : IsBroomOf f t) (blocks : own_blocks t ≡ own_blocks s) where
  abbrev before : List ℕ
  before = words_in (broom_view s).work (owned_of o)

  words_same : v.numbers.words ≡ words_of (geometry_of f)
  words_same = ap (λ (w : View). w.numbers.words) (sym h.changed) ∙ ap (λ (z : Numbers). z.words) h.seat.numbers

  pub filled_can : CanCount (broom_view t) (owned_of o) (put_work o s stamp)
  filled_can =
      let same = words_same in
      let theirs : (broom_view t).numbers.words ≡ v.numbers.words = ap (λ (w : View). w.numbers.words) told ∙ ap (λ (w : View). w.numbers.words) h.changed in
      let long = h.long in
      record {
        own = destination_at (own_blocks t) t.owns (ap (λ (x : BroomBlocks). x.destination) (blocks ∙ h.kept) ∙ h.opened);
        opened = refl;
        is = ap (λ (w : View). w.work) told;
        page = refl;
        full = length-append before (stamp ∷ []) ∙ (omega arith);
      }

  module _ (r : BroomSeat) (counted : broom_view r
      ≡ record (broom_view t) {
        programs = (broom_view t).programs ++ next_page (owned_of o) ∷ [];
        owns = with_owned (owned_of (record o { written = o.written + 1 })) (broom_view t).owns;
      }) where
    abbrev work : Work
    work = put_work o s stamp

    all : broom_view r ≡ record v {
      work = Some work;
      programs = v.programs ++ next_page (owned_of o) ∷ [];
      owns = with_owned (owned_of (record o { written = o.written + 1 })) v.owns;
    }
    all =
        let programs : View → List MapWord = λ x. x.programs ++ next_page (owned_of o) ∷ [] in
        let owns : View → List Owned = λ x. with_owned (owned_of (record o { written = o.written + 1 })) x.owns in
        counted ∙ ((λ i. record (told i) { programs = programs (told i); owns = owns (told i) })
        ∙ (λ i. record (h.changed i) { work = Some work; programs = programs (h.changed i); owns = owns (h.changed i) }))

    went : Relocated v 0 (broom_view r)
    went =
        let page = next_page (owned_of o) in
        let owned : Owned = owned_of (record o { written = o.written + 1 }) in
        let x : View = record v { work = Some work; programs = v.programs ++ page ∷ []; owns = with_owned owned v.owns } in
        relocated_as v x (broom_view r) 0 v.moves (omega arith) all (Begins-refl v.seen) (Begins-refl v.named) (Begins-push v.programs page)

    pub copied : (x : Source) → v.source ≡ Some x → x.value ≡ Some value → x.stamp ≡ stamp → IsValue v.numbers value
        → Copied v o x (next_page (owned_of o)) (broom_view r)
    copied x source live stamped whole =
        let w = broom_view r in
        let e = all in
        let same = words_same in
        let theirs : w.numbers.words ≡ v.numbers.words = ap (λ (y : View). y.numbers.words) e in
        record {
          went = went;
          cleared = ap (λ (y : View). y.cleared) e;
          is = refl;
          programs = ap (λ (y : View). y.programs) e;
          ceded = ap (λ (y : View). y.ceded) e;
          named = ap (λ (y : View). y.named) e;
          can = record {
            is = ap (λ (y : View). y.source) e ∙ source;
            value = value;
            live = live;
            copied = record {
              work = work;
              entry = owned_of (record o { written = o.written + 1 });
              is = ap (λ (y : View). y.work) e;
              page = refl;
              own = ap (λ (y : View). owned_at o.block y.owns) e ∙ with_here (owned_of (record o { written = o.written + 1 })) v.owns;
              counted = omega arith;
              whole = subst (λ (z : Numbers). IsValue z value) (sym (ap (λ (y : View). y.numbers) e)) whole;
              words = λ i below. get_or-append before (stamp ∷ []) 0 i (let long = h.long in omega arith) ∙ h.words i (omega arith);
              stamp = get_or-append_right before (stamp ∷ []) w.numbers.words w.numbers.words 0 (h.long ∙ (omega arith)) (omega arith)
                  ∙ ((let e : w.numbers.words - w.numbers.words ≡ 0 = omega arith in ap (λ j. get_or (stamp ∷ []) j 0) e) ∙ sym stamped);
            };
          };
        }

    pub copied_sweeps : (x : ReclaimedBlock) (s' : BroomSeat) → Sweeps f s' x → broom_view s' ≡ v → own_blocks s' ≡ y → IsBroomOf f r
        → own_blocks r ≡ record (own_blocks t) { destination = Some (record o { written = o.written + 1 }) } → IsSweeping f (pages_of (geometry_of f) + 1) r x
    copied_sweeps x s' g here there seat' now =
        let e = all in
        let kept : own_blocks r ≡ record y { destination = Some (record o { written = o.written + 1 }) } =
        now ∙ (λ i. record ((blocks ∙ h.kept) i) { destination = Some (record o { written = o.written + 1 }) }) in
        let room = g.destination o (ap (λ (z : BroomBlocks). z.destination) there ∙ h.opened) in
        record {
          seat = seat';
          draining = ap (λ (z : BroomBlocks). z.reclaiming) kept ∙ (sym (ap (λ (z : BroomBlocks). z.reclaiming) there) ∙ g.draining);
          low = g.low;
          short = g.short;
          young = g.young;
          destination = λ p is.
              let same : record o { written = o.written + 1 } ≡ p =
              some_same (record o { written = o.written + 1 }) p (sym (ap (λ (z : BroomBlocks). z.destination) kept) ∙ is) in
              subst (HasRoom (geometry_of f) (pages_of (geometry_of f) + 1)) same
              (record { low = room.low; room = (let left = room.room in omega arith); young = room.young });
          spare = λ p is. g.spare p (ap (λ (z : BroomBlocks). z.spare) there ∙ (sym (ap (λ (z : BroomBlocks). z.spare) kept) ∙ is));
          filed = λ w is.
              let same = some_same w work (sym is ∙ ap (λ (z : View). z.work) e) in (
                record o { written = o.written + 1 },
                ap (λ (z : BroomBlocks). z.destination) kept,
                ap (λ (z : Work). z.page.block) same,
                (let at : w.page.page ≡ o.written = ap (λ (z : Work). z.page.page) same in omega arith),
              );
          callers = subst (λ (z : View). AreOfHosts z.numbers z.seen)
              (sym (e ∙ (λ i. record v {
                work = Some work;
                programs = v.programs ++ next_page (owned_of o) ∷ [];
                owns = with_owned (owned_of (record o { written = o.written + 1 })) v.owns;
              })))
              (subst (λ (z : View). AreOfHosts z.numbers z.seen) here g.callers);
        }
