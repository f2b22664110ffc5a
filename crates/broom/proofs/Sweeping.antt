-- The steps of a broom that drains its victim, put together.
use Rattle.std.proofs.Common.{◌≡◌, ℕ, ◌+◌, ◌<◌, ◌≤◌, List, ◌++◌, ◌∷◌, [], Option, None, Some, IfSome, ne_eqb, append-nil, sym, refl, ap, ◌∙◌, subst, arith}
use Rattle.geometry.specs.{History.Begins, History.Call, Limits.Numbers, Words.FitsMap, Words.map_word}
use Rattle.geometry.specs.declared.words.{MapWord.MapWord, Phase.TheVariants.Victim}
use Rattle.geometry.proofs.{Histories.Begins-refl, Histories.Begins-push, Histories.Begins-trans, WordBits.map_same}
use Rattle.flash_rule.specs.declared.{facts.Source.Source, view.View.View}
use Rattle.flash_rule.specs.{Views.AreOfHosts, Rule.IsValue, World.sector_word, BroomPlays.GotStamp, BroomPlays.Named}
use Rattle.flash_table.specs.{declared.flash.Flash.Flash, Owning.reclaimed_as, Flash.IsBroomOf, Flash.broom_view, Flash.own_blocks, Flash.geometry_of}
use Rattle.flash_table.specs.declared.broom_seat.{BroomBlocks.BroomBlocks, BroomSeat.BroomSeat, ReclaimedBlock.ReclaimedBlock}
use Rattle.broom.specs.{Emptying.victim_page, Emptying.looks_in, Relocating.IsSweeping, Relocating.Relocated, Relocating.FoundDead, Relocating.FoundLive}

-- ---- one part after another
-- a part that leaves these fields, and sees, looks and programs what it did before and more
pub relocated_as : (v x w : View) (n moves : ℕ) → moves ≡ v.moves + n
    → w ≡ record v {
      seen = x.seen;
      named = x.named;
      owns = x.owns;
      work = x.work;
      programs = x.programs;
      cleared = x.cleared;
      source = x.source;
      moves = moves;
      ceded = x.ceded;
    }
    → Begins v.seen x.seen → Begins v.named x.named → Begins v.programs x.programs → Relocated v n w
relocated_as v x w n moves sum e later named programmed =
    record {
      changed = e
          ∙ (λ i. record v {
            seen = (sym e i).seen;
            named = (sym e i).named;
            owns = (sym e i).owns;
            work = (sym e i).work;
            programs = (sym e i).programs;
            cleared = (sym e i).cleared;
            source = (sym e i).source;
            moves = sum i;
            ceded = (sym e i).ceded;
          });
      later = subst (λ (l : List Call). Begins v.seen l) (sym (ap (λ (y : View). y.seen) e)) later;
      named = subst (λ (l : List (ℕ × ℕ)). Begins v.named l) (sym (ap (λ (y : View). y.named) e)) named;
      programmed = subst (λ (l : List MapWord). Begins v.programs l) (sym (ap (λ (y : View). y.programs) e)) programmed;
    }

pub relocated_none : (v : View) → Relocated v 0 v
relocated_none v = relocated_as v v v 0 v.moves (omega arith) refl (Begins-refl v.seen) (Begins-refl v.named) (Begins-refl v.programs)

pub relocated_then : (u v w : View) (a b n : ℕ) → a + b ≡ n → Relocated u a v → Relocated v b w → Relocated u n w
relocated_then u v w a b n sum first second =
    let moves : v.moves + b ≡ u.moves + n = let m : v.moves ≡ u.moves + a = ap (λ (x : View). x.moves) first.changed in omega arith in
    record {
      changed = second.changed
          ∙ (λ i. record (first.changed i) {
            seen = w.seen;
            named = w.named;
            owns = w.owns;
            work = w.work;
            programs = w.programs;
            cleared = w.cleared;
            source = w.source;
            moves = moves i;
            ceded = w.ceded;
          });
      later = Begins-trans u.seen v.seen w.seen first.later second.later;
      named = Begins-trans u.named v.named w.named first.named second.named;
      programmed = Begins-trans u.programs v.programs w.programs first.programmed second.programmed;
    }

-- a part that sets only the source, and how many pages are cleared
pub relocated_source : (v w : View) (source : Option Source) (cleared : ℕ) → w ≡ record v { source = source; cleared = cleared } → Relocated v 0 w
relocated_source v w source cleared e = relocated_as v (record v { source = source; cleared = cleared }) w 0 v.moves (omega arith) e (Begins-refl v.seen)
    (Begins-refl v.named) (Begins-refl v.programs)

-- the broom still sweeps where its blocks and its work are the same
pub sweeps_on : (f : Flash) (most : ℕ) (s t : BroomSeat) (x : ReclaimedBlock) → IsSweeping f most s x → IsBroomOf f t → own_blocks t ≡ own_blocks s
    → (broom_view t).work ≡ (broom_view s).work
    → AreOfHosts (broom_view t).numbers (broom_view t).seen → IsSweeping f most t x
sweeps_on f most s t x h seat blocks work callers =
    record {
      seat = seat;
      draining = ap (λ (y : BroomBlocks). y.reclaiming) blocks ∙ h.draining;
      low = h.low;
      short = h.short;
      young = h.young;
      destination = λ o is. h.destination o (ap (λ (y : BroomBlocks). y.destination) (sym blocks) ∙ is);
      spare = λ o is. h.spare o (ap (λ (y : BroomBlocks). y.spare) (sym blocks) ∙ is);
      filed = λ w is.
          let r = h.filed w (sym work ∙ is) in (r.0, ap (λ (y : BroomBlocks). y.destination) blocks ∙ r.1, r.2, r.3);
      callers = callers;
    }

-- ---- the victim's pages
pub page_fits : (f : Flash) (most : ℕ) (s : BroomSeat) (x : ReclaimedBlock) (p : ℕ) → IsSweeping f most s x → p < x.written → FitsMap (victim_page x p)
page_fits f most s x p h below =
    let limits = (geometry_of f).in_limits in
    let most_blocks = limits.blocks_high in
    let most_pages = limits.pages_high in
    let most_cycles = limits.endurance_high in
    let low = h.low in
    let short = h.short in
    let young = h.young in
    record { generation = omega arith; block = omega arith; page = omega arith }

-- ---- the stamp of the next page
module _ (v w : View) (x : ReclaimedBlock) (n : ℕ) (told : GotStamp v (reclaimed_as Victim x) n w) where
  pub stamp_dead : (page : MapWord) → v.numbers.sectors ≤ n → FoundDead v page w
  stamp_dead page none =
      let e = told.dead none in
      record {
        went = relocated_source v w None (v.cleared + 1) e;
        cleared = ap (λ (y : View). y.cleared) e;
        source = ap (λ (y : View). y.source) e;
        programs = ap (λ (y : View). y.programs) e;
        work = ap (λ (y : View). y.work) e;
        ceded = ap (λ (y : View). y.ceded) e;
        find = None;
        named = ap (λ (y : View). y.named) e ∙ sym (append-nil v.named);
        dead = refl;
      }

-- what a step that sets the source and what is cleared leaves as it was
pub callers_same : (v w : View) (source : Option Source) (cleared : ℕ) → w ≡ record v { source = source; cleared = cleared }
    → AreOfHosts v.numbers v.seen → AreOfHosts w.numbers w.seen
callers_same v w source cleared e callers = subst (λ (y : View). AreOfHosts y.numbers y.seen) (sym e) callers

-- ---- the look at its sector
module _ (v w : View) (s : ℕ) (named : Option MapWord) (told : Named v s (sector_word named) w) where
  pub look_went : Relocated v 0 w
  look_went =
      let x : View = record v { seen = w.seen; named = v.named ++ (s, sector_word named) ∷ []; source = w.source; cleared = w.cleared } in
      relocated_as v x w 0 v.moves (omega arith) told.changed told.later (Begins-push v.named (s, sector_word named)) (Begins-refl v.programs)

  pub look_callers : AreOfHosts w.numbers w.seen
  look_callers = subst (λ (z : Numbers). AreOfHosts z w.seen) (sym (ap (λ (y : View). y.numbers) told.changed)) told.callers

  module _ (page : MapWord) (is : v.source ≡ Some (record { page = page; stamp = s; value = None })) where
    pub look_live : s < v.numbers.sectors → named ≡ Some page → FoundLive v page s w
    look_live low here =
        let word : sector_word named ≡ map_word page = ap sector_word here in
        let t = told.page (λ e. absurd (let m : map_word page ≡ 0 = sym word ∙ e in omega arith)) in
        let live = told.live (record { page = page; stamp = s; value = None }) t.1 is refl word t.4 in
        record {
          went = look_went;
          cleared = live.1;
          programs = ap (λ (y : View). y.programs) told.changed;
          ceded = ap (λ (y : View). y.ceded) told.changed;
          named = ap (λ (y : View). y.named) told.changed ∙ ap (λ n. v.named ++ (s, n) ∷ []) word;
          low = low;
          value = t.1;
          whole = t.5;
          source = live.0;
        }

    pub look_dead : IfSome named FitsMap → FitsMap page → ¬ (named ≡ Some page) → FoundDead v page w
    look_dead fits fits' else =
        let dead = told.dead (record { page = page; stamp = s; value = None }) is refl (unlike named fits else) in
        record {
          went = look_went;
          cleared = dead.1;
          source = dead.0;
          programs = ap (λ (y : View). y.programs) told.changed;
          work = ap (λ (y : View). y.work) told.changed;
          ceded = ap (λ (y : View). y.ceded) told.changed;
          find = Some (s, sector_word named);
          named = ap (λ (y : View). y.named) told.changed;
          dead = ne_eqb (sector_word named) (map_word page) (unlike named fits else);
        } where
          unlike : (o : Option MapWord) → IfSome o FitsMap → ¬ (o ≡ Some page) → ¬ (sector_word o ≡ map_word page)
          unlike None _ _ e = absurd (omega arith)
          unlike (Some m) fits else e = else (ap (λ k. Some k) (map_same m page fits fits' e))

-- ---- both
-- a part that looks nowhere, programs nothing and gives nothing up
pub record Untouched (v w : View) : Type 0 where
  pub programs : w.programs ≡ v.programs
  pub work : w.work ≡ v.work
  pub ceded : w.ceded ≡ v.ceded
  pub named : w.named ≡ v.named

pub untouched_source : (v w : View) (source : Option Source) (cleared : ℕ) → w ≡ record v { source = source; cleared = cleared } → Untouched v w
untouched_source v w source cleared e =
    record {
      programs = ap (λ (y : View). y.programs) e;
      work = ap (λ (y : View). y.work) e;
      ceded = ap (λ (y : View). y.ceded) e;
      named = ap (λ (y : View). y.named) e;
    }

pub found_dead_then : (u v w : View) (page : MapWord) → Relocated u 0 v → v.cleared ≡ u.cleared → Untouched u v → FoundDead v page w → FoundDead u page w
found_dead_then u v w page first same none h =
    record {
      went = relocated_then u v w 0 0 0 refl first h.went;
      cleared = h.cleared ∙ ap (λ n. n + 1) same;
      source = h.source;
      programs = h.programs ∙ none.programs;
      work = h.work ∙ none.work;
      ceded = h.ceded ∙ none.ceded;
      find = h.find;
      named = h.named ∙ ap (λ (l : List (ℕ × ℕ)). l ++ looks_in (h.find ∷ [])) none.named;
      dead = h.dead;
    }

pub found_live_then : (u v w : View) (page : MapWord) (s : ℕ) → Relocated u 0 v → v.cleared ≡ u.cleared → Untouched u v → FoundLive v page s w
    → FoundLive u page s w
found_live_then u v w page s first same none h =
    let numbers : v.numbers ≡ u.numbers = ap (λ (x : View). x.numbers) first.changed in
    record {
      went = relocated_then u v w 0 0 0 refl first h.went;
      cleared = h.cleared ∙ same;
      programs = h.programs ∙ none.programs;
      ceded = h.ceded ∙ none.ceded;
      named = h.named ∙ ap (λ (l : List (ℕ × ℕ)). l ++ (s, map_word page) ∷ []) none.named;
      low = subst (λ (z : Numbers). s < z.sectors) numbers h.low;
      value = h.value;
      whole = subst (λ (z : Numbers). IsValue z h.value) numbers h.whole;
      source = h.source;
    }
