-- The steps around a copy: the spare becomes the destination, the map word is moved, and a full destination is closed.
use Rattle.std.proofs.Common.{◌≡◌, ℕ, ◌+◌, ◌-◌, ◌<◌, ◌≤◌, Bool, true, false, MatchBool, ◌⊎◌, inl, inr, ⊎_elim, List, [], ◌∷◌, ◌++◌, length, append-nil}
use Rattle.std.proofs.Common.{append_assoc, Option, None, Some, sym, refl, ap, ◌∙◌, subst, arith}
use Rattle.geometry.specs.{Geometry.pages_of, Limits.Numbers}
use Rattle.geometry.specs.{Words.FitsMap, Words.map_word, declared.words.MapWord.MapWord}
use Rattle.geometry.proofs.Histories.{Begins-refl}
use Rattle.flash_rule.specs.declared.{facts.Owned.Owned, facts.Work.Work, facts.Source.Source, view.View.View}
use Rattle.flash_rule.specs.{Views.AreOfHosts, Plays.next_page, BroomPlays.Moved}
use Rattle.flash_rule.proofs.{Owning.some_same, Owning.none_some, Points.eq_self}
use Rattle.flash_table.specs.{declared.flash.Flash.Flash, declared.pass.OpenBlock.OpenBlock, Owning.owned_of, Owning.closed_as}
use Rattle.flash_table.specs.declared.broom_seat.{BroomBlocks.BroomBlocks, BroomSeat.BroomSeat, ReclaimedBlock.ReclaimedBlock, Reclaiming.TheVariants.Draining}
use Rattle.flash_table.specs.Flash.{IsBroomOf, broom_view, own_blocks, geometry_of}
use Rattle.broom.specs.Ready.{HasRoom}
use Rattle.broom.specs.Relocating.{IsSweeping, Sweeps, Relocated, FoundDead, FoundLive, Opened, Copied, Tidied, Cleared, room_in, room_left}
use Rattle.broom.specs.Emptying.{Programmed, Emptied, victim_page, page_at, pages_left, pages_to_fill, filled_by, count_if}
use Rattle.broom.proofs.Emptying.{pages_more, pages_full, filled_then, filled_last, filled_none, programmed_none, programmed_one, emptied_none, emptied_more}
use Rattle.broom.proofs.Sweeping.{relocated_as, relocated_none, relocated_then, sweeps_on}

-- ---- the destination is opened
some_or_none : (o : Option OpenBlock) → ((p : OpenBlock) × (o ≡ Some p)) ⊎ (o ≡ None)
some_or_none None = inr refl
some_or_none (Some p) = inl (p, refl)

module _ (f : Flash) (s t : BroomSeat) (h : Opened s t) where
  pub opened_room : (pages : ℕ) → room_left pages (own_blocks t) ≡ room_left pages (own_blocks s)
  opened_room pages =
      ⊎_elim
      (λ (some : (p : OpenBlock) × ((own_blocks s).destination ≡ Some p)). ap (room_left pages) (h.kept some.0 some.1))
      (λ (none : (own_blocks s).destination ≡ None).
      let before : room_in pages (own_blocks s).destination ≡ 0 = ap (room_in pages) none in ap (room_left pages) (h.opened none) ∙ (omega arith))
      (some_or_none (own_blocks s).destination)

  pub opened_left : (pages : ℕ) → pages_to_fill pages (own_blocks t) ≡ pages_to_fill pages (own_blocks s)
  opened_left pages =
      ⊎_elim
      (λ (some : (p : OpenBlock) × ((own_blocks s).destination ≡ Some p)). ap (pages_to_fill pages) (h.kept some.0 some.1))
      (λ (none : (own_blocks s).destination ≡ None).
      ap (pages_to_fill pages) (h.opened none)
      ∙ (append-nil (pages_left pages (own_blocks s).spare)
      ∙ ap (λ (o : Option OpenBlock). pages_left pages o ++ pages_left pages (own_blocks s).spare) (sym none)))
      (some_or_none (own_blocks s).destination)

  pub opened_kept : (pages : ℕ) → 1 ≤ length (pages_left pages (own_blocks s).destination) → (own_blocks t).spare ≡ (own_blocks s).spare
  opened_kept pages room =
      ⊎_elim
      (λ (some : (p : OpenBlock) × ((own_blocks s).destination ≡ Some p)). ap (λ (x : BroomBlocks). x.spare) (h.kept some.0 some.1))
      (λ (none : (own_blocks s).destination ≡ None).
      let empty : length (pages_left pages (own_blocks s).destination) ≡ 0 = ap (λ (o : Option OpenBlock). length (pages_left pages o)) none in
      absurd (omega arith))
      (some_or_none (own_blocks s).destination)

  pub opened_used : (pages : ℕ) (o : OpenBlock) → (own_blocks t).destination ≡ Some o → o.written < pages
      → length (pages_left pages (own_blocks s).destination) < 1 → (own_blocks t).spare ≡ None
  opened_used pages o is room empty =
      ⊎_elim
      (λ (some : (p : OpenBlock) × ((own_blocks s).destination ≡ Some p)).
      let same : (own_blocks s).destination ≡ Some o = ap (λ (x : BroomBlocks). x.destination) (sym (h.kept some.0 some.1)) ∙ is in
      let long : length (pages_left pages (own_blocks s).destination) ≡ length (pages_left pages (Some (record o { written = o.written + 1 }))) + 1 =
      ap (λ (d : Option OpenBlock). length (pages_left pages d)) same ∙ (ap (length {A = MapWord}) (pages_more pages o room) ∙ (omega arith)) in
      absurd (omega arith))
      (λ (none : (own_blocks s).destination ≡ None). ap (λ (x : BroomBlocks). x.spare) (h.opened none))
      (some_or_none (own_blocks s).destination)

  pub opened_some : (pages : ℕ) → 0 < room_left pages (own_blocks s) → (o : OpenBlock) × ((own_blocks t).destination ≡ Some o)
  opened_some pages room =
      ⊎_elim
      (λ (some : (p : OpenBlock) × ((own_blocks s).destination ≡ Some p)). (some.0, ap (λ (x : BroomBlocks). x.destination) (h.kept some.0 some.1) ∙ some.1))
      (λ (none : (own_blocks s).destination ≡ None).
      ⊎_elim
      (λ (some : (p : OpenBlock) × ((own_blocks s).spare ≡ Some p)). (some.0, ap (λ (x : BroomBlocks). x.destination) (h.opened none) ∙ some.1))
      (λ (bare : (own_blocks s).spare ≡ None).
      let first : room_in pages (own_blocks s).destination ≡ 0 = ap (room_in pages) none in
      let second : room_in pages (own_blocks s).spare ≡ 0 = ap (room_in pages) bare in absurd (omega arith))
      (some_or_none (own_blocks s).spare))
      (some_or_none (own_blocks s).destination)

  pub opened_sweeps : (x : ReclaimedBlock) → IsBroomOf f t → Sweeps f s x → Sweeps f t x
  opened_sweeps x seat g =
      let low = (geometry_of f).in_limits.pages_low in
      let callers = subst (λ (v : View). AreOfHosts v.numbers v.seen) (sym h.view) g.callers in
      let work = ap (λ (v : View). v.work) h.view in
      ⊎_elim
      (λ (some : (p : OpenBlock) × ((own_blocks s).destination ≡ Some p)).
      sweeps_on f (pages_of (geometry_of f)) s t x g seat (h.kept some.0 some.1) work callers)
      (λ (none : (own_blocks s).destination ≡ None).
      let now = h.opened none in
      record {
        seat = seat;
        draining = ap (λ (y : BroomBlocks). y.reclaiming) now ∙ g.draining;
        low = g.low;
        short = g.short;
        young = g.young;
        destination = λ o is.
            let r = g.spare o (sym (ap (λ (y : BroomBlocks). y.destination) now) ∙ is) in
            let room = r.room in record { low = r.low; room = omega arith; young = r.young };
        spare = λ o is. absurd (none_some o (sym (ap (λ (y : BroomBlocks). y.spare) now) ∙ is));
        filed = λ w is. let r = g.filed w (sym work ∙ is) in absurd (none_some r.0 (sym none ∙ r.1));
        callers = callers;
      })
      (some_or_none (own_blocks s).destination)

-- ---- the copy can be named
pub copy_fits : (f : Flash) (o : OpenBlock) → HasRoom (geometry_of f) (pages_of (geometry_of f)) o → FitsMap (next_page (owned_of o))
copy_fits f o h =
    let limits = (geometry_of f).in_limits in
    let most_blocks = limits.blocks_high in
    let most_pages = limits.pages_high in
    let most_cycles = limits.endurance_high in
    let low = h.low in
    let room = h.room in
    let young = h.young in
    record { generation = omega arith; block = omega arith; page = omega arith }

-- ---- the map word is moved
module _ (v w : View) (x : Source) (n : ℕ) (moved : Bool) (told : Moved v x n w) (is : MatchBool moved (n ≡ map_word x.page) (¬ (n ≡ map_word x.page))) where
  moves_are : w.moves ≡ v.moves + count_if moved
  moves_are = by_outcome moved is where
    by_outcome : (b : Bool) → MatchBool b (n ≡ map_word x.page) (¬ (n ≡ map_word x.page)) → w.moves ≡ v.moves + count_if b
    by_outcome true same = (told.succeeded same).0
    by_outcome false other = told.failed other ∙ (omega arith)

  pub moved_went : Relocated v (count_if moved) w
  moved_went = relocated_as v (record v { seen = w.seen; source = None; cleared = v.cleared + 1 }) w (count_if moved) w.moves moves_are told.changed
      told.later (Begins-refl v.named) (Begins-refl v.programs)

  pub moved_callers : AreOfHosts w.numbers w.seen
  moved_callers = subst (λ (z : Numbers). AreOfHosts z w.seen) (sym (ap (λ (y : View). y.numbers) told.changed)) told.callers

-- ---- a full destination is closed
module _ (f : Flash) (s : BroomSeat) (o : OpenBlock) (is : (own_blocks s).destination ≡ Some o) where
  module _ (t : BroomSeat) (owns : List Owned)
      (told : broom_view t ≡ record (broom_view s) { owns = owns; work = None; ceded = (broom_view s).ceded ++ closed_as o ∷ [] })
      (blocks : own_blocks t ≡ record (own_blocks s) { destination = None }) (full : o.written ≡ pages_of (geometry_of f)) where
    pub closed_tidied : Tidied (pages_of (geometry_of f)) (broom_view s) (own_blocks s) (broom_view t) (own_blocks t)
    closed_tidied =
        let v = broom_view s in
        let e = told in
        let used : room_in (pages_of (geometry_of f)) (own_blocks s).destination ≡ pages_of (geometry_of f) - o.written =
        ap (room_in (pages_of (geometry_of f))) is in
        record {
          went = relocated_as v (record v { owns = owns; work = None; ceded = v.ceded ++ closed_as o ∷ [] }) (broom_view t) 0 v.moves (omega arith) e
              (Begins-refl v.seen) (Begins-refl v.named) (Begins-refl v.programs);
          cleared = ap (λ (x : View). x.cleared) e;
          source = ap (λ (x : View). x.source) e;
          room = ap (room_left (pages_of (geometry_of f))) blocks ∙ (omega arith);
          programs = ap (λ (x : View). x.programs) e;
          ceded = λ p there.
              let same : o ≡ record p { written = p.written + 1 } = some_same o (record p { written = p.written + 1 }) (sym is ∙ there) in
              let last : p.written + 1 ≡ pages_of (geometry_of f) = sym (ap (λ (y : OpenBlock). y.written) same) ∙ full in
              ap (λ (x : View). x.ceded) e
              ∙ (ap (λ (y : OpenBlock). v.ceded ++ closed_as y ∷ []) same
              ∙ ap (λ (l : List Owned). v.ceded ++ l) (sym (filled_last (pages_of (geometry_of f)) p last)));
          named = ap (λ (x : View). x.named) e;
          left = let p : ℕ = pages_of (geometry_of f) in
              ap (pages_to_fill p) blocks
              ∙ ap (λ (l : List MapWord). l ++ pages_left p (own_blocks s).spare) (sym (ap (pages_left p) is ∙ pages_full p o full));
          spare = ap (λ (x : BroomBlocks). x.spare) blocks;
          work = inr (ap (λ (x : View). x.work) e, ap (λ (x : BroomBlocks). x.destination) blocks);
        }

    pub closed_sweeps : (x : ReclaimedBlock) → IsBroomOf f t → IsSweeping f (pages_of (geometry_of f) + 1) s x → Sweeps f t x
    closed_sweeps x seat g =
        record {
          seat = seat;
          draining = ap (λ (y : BroomBlocks). y.reclaiming) blocks ∙ g.draining;
          low = g.low;
          short = g.short;
          young = g.young;
          destination = λ p is. absurd (none_some p (sym (ap (λ (y : BroomBlocks). y.destination) blocks) ∙ is));
          spare = λ p is. g.spare p (sym (ap (λ (y : BroomBlocks). y.spare) blocks) ∙ is);
          filed = λ w is. absurd (none_some w (sym (ap (λ (x : View). x.work) told) ∙ is));
          callers = subst (λ (v : View). AreOfHosts v.numbers v.seen) (sym told) g.callers;
        }

  pub left_tidied : ¬ (o.written ≡ pages_of (geometry_of f)) → Tidied (pages_of (geometry_of f)) (broom_view s) (own_blocks s) (broom_view s) (own_blocks s)
  left_tidied more =
      let v = broom_view s in
      record {
        went = relocated_none v;
        cleared = refl;
        source = refl;
        room = refl;
        programs = refl;
        ceded = λ p there.
            let same : o ≡ record p { written = p.written + 1 } = some_same o (record p { written = p.written + 1 }) (sym is ∙ there) in
            let none = filled_none (pages_of (geometry_of f)) p (λ last. more (ap (λ (y : OpenBlock). y.written) same ∙ last)) in
            sym (append-nil v.ceded) ∙ ap (λ (l : List Owned). v.ceded ++ l) (sym none);
        named = refl;
        left = refl;
        spare = refl;
        work = inl refl;
      }

-- ---- one page of the victim
pub dead_cleared : (pages : ℕ) (v w : View) (x y : BroomBlocks) (page : MapWord) → FoundDead v page w → y ≡ x → Cleared pages v x page 0 w y
dead_cleared pages v w x y page dead same =
    record {
      went = dead.went;
      cleared = dead.cleared;
      source = dead.source;
      room = (let e = ap (room_left pages) same in omega arith);
      find = dead.find;
      named = dead.named;
      copies = [];
      each = ap count_if (sym dead.dead);
      moved = omega arith;
      ceded = dead.ceded ∙ sym (append-nil v.ceded);
      programmed = programmed_none pages v w x y dead.programs dead.work same;
    }

module _ (f : Flash) (a b c d e g : BroomSeat) (page : MapWord) (sector : ℕ) (live : FoundLive (broom_view a) page sector (broom_view b))
    (same : own_blocks b ≡ own_blocks a) (opens : Opened b c) (o : OpenBlock)
    (left : o.written < pages_of (geometry_of f)) (is : (own_blocks c).destination ≡ Some o) (copy : MapWord) where
  -- the source of the copy
  abbrev pub source_of : Source
  source_of = record { page = page; stamp = sector; value = Some live.value }

  module _ (copied : Copied (broom_view c) o source_of copy (broom_view d))
      (filled : own_blocks d ≡ record (own_blocks c) { destination = Some (record o { written = o.written + 1 }) })
      (n : ℕ) (moved : Bool) (told : Moved (broom_view d) source_of n (broom_view e))
      (outcome : MatchBool moved (n ≡ map_word page) (¬ (n ≡ map_word page))) (stay : own_blocks e ≡ own_blocks d)
      (tidy : Tidied (pages_of (geometry_of f)) (broom_view e) (own_blocks e) (broom_view g) (own_blocks g)) where
    -- the pages to be filled, but for the one that was filled
    left_of : pages_to_fill (pages_of (geometry_of f)) (own_blocks a) ≡ copy ∷ pages_to_fill (pages_of (geometry_of f)) (own_blocks g)
    left_of =
        let p : ℕ = pages_of (geometry_of f) in
        let spare : List MapWord = pages_left p (own_blocks c).spare in
        let begun : pages_to_fill p (own_blocks a) ≡ pages_left p (own_blocks c).destination ++ spare =
        ap (pages_to_fill p) (sym same) ∙ sym (opened_left f b c opens p) in
        let first : pages_left p (own_blocks c).destination ++ spare ≡ copy ∷ (pages_left p (Some (record o { written = o.written + 1 })) ++ spare) =
        ap (λ (l : List MapWord). l ++ spare) (ap (pages_left p) is ∙ pages_more p o left)
        ∙ ap (λ (m : MapWord). m ∷ (pages_left p (Some (record o { written = o.written + 1 })) ++ spare)) (sym copied.is) in
        let rest : pages_left p (Some (record o { written = o.written + 1 })) ++ spare ≡ pages_to_fill p (own_blocks g) =
        ap (pages_to_fill p) (sym (stay ∙ filled)) ∙ sym tidy.left in
        begun ∙ (first ∙ ap (λ (l : List MapWord). copy ∷ l) rest)

    -- what was given up: the destination, if this page was its last one
    given : (broom_view g).ceded ≡ (broom_view a).ceded ++ filled_by (pages_of (geometry_of f)) (copy ∷ [])
    given =
        let p : ℕ = pages_of (geometry_of f) in
        let before : (broom_view e).ceded ≡ (broom_view a).ceded =
        ap (λ (v : View). v.ceded) told.changed ∙ (copied.ceded ∙ (ap (λ (v : View). v.ceded) opens.view ∙ live.ceded)) in
        let last : page_at o o.written ≡ copy = sym copied.is in
        tidy.ceded o (ap (λ (y : BroomBlocks). y.destination) (stay ∙ filled)) ∙ (λ i. before i ++ filled_by p (last i ∷ []))

    spare_is : (own_blocks g).spare ≡ (own_blocks c).spare
    spare_is = tidy.spare ∙ ap (λ (y : BroomBlocks). y.spare) (stay ∙ filled)

    -- the page filled last, as long as the destination isn't closed
    work_is : (broom_view e).work ≡ Some copied.can.copied.work
    work_is = ap (λ (v : View). v.work) told.changed ∙ copied.can.copied.is

    programmed : Programmed (pages_of (geometry_of f)) (broom_view a) (own_blocks a) (copy ∷ []) (broom_view g) (own_blocks g)
    programmed =
        let p : ℕ = pages_of (geometry_of f) in
        let lengths : length (pages_left p (own_blocks b).destination) ≡ length (pages_left p (own_blocks a).destination) =
        ap (λ (y : BroomBlocks). length (pages_left p y.destination)) same in
        programmed_one p (broom_view a) (broom_view g) (own_blocks a) (own_blocks g) copy
        (tidy.programs ∙ (ap (λ (v : View). v.programs) told.changed
        ∙ (copied.programs ∙ ap (λ (l : List MapWord). l ++ copy ∷ []) (ap (λ (v : View). v.programs) opens.view ∙ live.programs)))) left_of
        (λ some. spare_is ∙ (opened_kept f b c opens p (omega arith) ∙ ap (λ (y : BroomBlocks). y.spare) same))
        (λ none. spare_is ∙ opened_used f b c opens p o is left (omega arith))
        (λ k there.
        ⊎_elim
        (λ (stays : (broom_view g).work ≡ (broom_view e).work).
        let one = some_same k copied.can.copied.work (sym there ∙ (stays ∙ work_is)) in ap (λ (x : Work). x.page) one ∙ copied.can.copied.page)
        (λ (closed : ((broom_view g).work ≡ None) × ((own_blocks g).destination ≡ None)). absurd (none_some k (sym closed.0 ∙ there))) tidy.work)
        (λ d there.
        ⊎_elim
        (λ (stays : (broom_view g).work ≡ (broom_view e).work). (copied.can.copied.work, stays ∙ work_is))
        (λ (closed : ((broom_view g).work ≡ None) × ((own_blocks g).destination ≡ None)). absurd (none_some d (sym closed.1 ∙ there))) tidy.work)

    pub live_cleared : Cleared (pages_of (geometry_of f)) (broom_view a) (own_blocks a) page (count_if moved) (broom_view g) (own_blocks g)
    live_cleared =
        let p : ℕ = pages_of (geometry_of f) in
        let first : Relocated (broom_view a) 0 (broom_view c) = subst (λ (v : View). Relocated (broom_view a) 0 v) (sym opens.view) live.went in
        let second : Relocated (broom_view a) 0 (broom_view d) = relocated_then (broom_view a) (broom_view c) (broom_view d) 0 0 0 refl first copied.went in
        let third : Relocated (broom_view a) (count_if moved) (broom_view e) =
        relocated_then (broom_view a) (broom_view d) (broom_view e) 0 (count_if moved) (count_if moved) (omega arith) second
        (moved_went (broom_view d) (broom_view e) source_of n moved told outcome) in
        let begun : room_left p (own_blocks c) ≡ room_left p (own_blocks a) = opened_room f b c opens p ∙ ap (room_left p) same in
        let used : room_left p (own_blocks d) ≡ (p - (o.written + 1)) + room_in p (own_blocks c).spare = ap (room_left p) filled in
        let whole : room_in p (own_blocks c).destination ≡ p - o.written = ap (room_in p) is in
        let kept : room_left p (own_blocks e) ≡ room_left p (own_blocks d) = ap (room_left p) stay in
        let ends = tidy.room in
        let at : (broom_view e).cleared ≡ (broom_view d).cleared + 1 = ap (λ (v : View). v.cleared) told.changed in
        let views : (broom_view c).cleared ≡ (broom_view b).cleared = ap (λ (v : View). v.cleared) opens.view in
        let c1 = live.cleared in
        let c2 = copied.cleared in
        let c3 = tidy.cleared in
        record {
          went = relocated_then (broom_view a) (broom_view e) (broom_view g) (count_if moved) 0 (count_if moved) (omega arith) third tidy.went;
          cleared = omega arith;
          source = tidy.source ∙ ap (λ (v : View). v.source) told.changed;
          room = omega arith;
          find = Some (sector, map_word page);
          named = tidy.named ∙ (ap (λ (v : View). v.named) told.changed ∙ (copied.named ∙ (ap (λ (v : View). v.named) opens.view ∙ live.named)));
          copies = copy ∷ [];
          each = ap count_if (sym (eq_self (map_word page)));
          moved = most moved;
          ceded = given;
          programmed = programmed;
        } where
          most : (b : Bool) → count_if b ≤ 1
          most true = omega arith
          most false = omega arith

-- ---- page after page
-- The pages of the victim below this one are cleared, so many of them were moved, and there is room for the others
pub record Clearing (f : Flash) (v : View) (y : BroomBlocks) (x : ReclaimedBlock) (page copied : ℕ) (s : BroomSeat) : Type 0 where
  pub sweeps : Sweeps f s x
  pub went : Relocated v copied (broom_view s)
  pub cleared : (broom_view s).cleared ≡ page
  pub source : (broom_view s).source ≡ None
  pub room : x.written ≤ page + room_left (pages_of (geometry_of f)) (own_blocks s)
  pub few : copied ≤ page
  pub emptied : Emptied (pages_of (geometry_of f)) (record x { written = page }) v y copied (broom_view s) (own_blocks s)
  pub ceded : (broom_view s).ceded ≡ v.ceded ++ filled_by (pages_of (geometry_of f)) emptied.copies

pub clearing_none : (f : Flash) (s : BroomSeat) (x : ReclaimedBlock) → Sweeps f s x → (broom_view s).cleared ≡ 0 → (broom_view s).source ≡ None
    → x.written ≤ room_left (pages_of (geometry_of f)) (own_blocks s) → Clearing f (broom_view s) (own_blocks s) x 0 0 s
clearing_none f s x sweeps cleared source room =
    record {
      sweeps = sweeps;
      went = relocated_none (broom_view s);
      cleared = cleared;
      source = source;
      room = omega arith;
      few = omega arith;
      emptied = emptied_none (pages_of (geometry_of f)) x (broom_view s) (own_blocks s);
      ceded = sym (append-nil (broom_view s).ceded);
    }

pub clearing_more : (f : Flash) (v : View) (y : BroomBlocks) (x : ReclaimedBlock) (page copied now : ℕ) (moved : Bool) (s t : BroomSeat)
    → Clearing f v y x page copied s → Sweeps f t x
    → Cleared (pages_of (geometry_of f)) (broom_view s) (own_blocks s) (victim_page x page) (count_if moved) (broom_view t) (own_blocks t)
    → now ≡ copied + count_if moved → Clearing f v y x (page + 1) now t
clearing_more f v y x page copied now moved s t h sweeps told sum =
    let c1 = h.cleared in
    let c2 = told.cleared in
    let r1 = h.room in
    let r2 = told.room in
    let few = h.few in
    let one : count_if moved ≤ 1 = most moved in
    record {
      sweeps = sweeps;
      went = relocated_then v (broom_view s) (broom_view t) copied (count_if moved) now (sym sum) h.went told.went;
      cleared = omega arith;
      source = told.source;
      room = omega arith;
      few = omega arith;
      emptied = emptied_more (pages_of (geometry_of f)) x page copied (count_if moved) now v (broom_view s) (broom_view t) y (own_blocks s)
          (own_blocks t) h.emptied told.find told.named told.copies told.each told.moved sum told.programmed;
      ceded = told.ceded
          ∙ (ap (λ (l : List Owned). l ++ filled_by (pages_of (geometry_of f)) told.copies) h.ceded
          ∙ (append_assoc v.ceded (filled_by (pages_of (geometry_of f)) h.emptied.copies) (filled_by (pages_of (geometry_of f)) told.copies)
          ∙ ap (λ (l : List Owned). v.ceded ++ l) (sym (filled_then (pages_of (geometry_of f)) h.emptied.copies told.copies))));
    } where
      most : (b : Bool) → count_if b ≤ 1
      most true = omega arith
      most false = omega arith

pub same_victim : (x y : ReclaimedBlock) → Draining x ≡ Draining y → x ≡ y
same_victim x y e = cc
