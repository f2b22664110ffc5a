-- What the brooms of a run have done, from its start to its end.
use Rattle.std.proofs.Common.{◌≡◌, ℕ, suc, ◌+◌, All, List, [], ◌∷◌, Some, length, map, refl, sym, ap, ◌∙◌, subst, arith}
use Rattle.std.specs.Prelude.{◌%◌, ◌^◌, slice_get}
use Rattle.std.proofs.lemmas.List.Elements.{All-head, All-tail}
use Rattle.geometry.specs.{Geometry.brooms_of, declared.geometry.Geometry.Geometry}
use Rattle.flash_rule.specs.declared.view.View.{View}
use Rattle.flash_table.specs.Flash.{device, first_broom, geometry_of}
use Rattle.broom.specs.{declared.broom.Broom.Broom, Ready.folded_view, Ready.view_of_broom}
use Rattle.volume.specs.{declared.volume.Volume.Volume, Volume.IsUnused, Volume.flash_of}
use Rattle.workers.specs.declared.collector.{Collector.Collector, tally.Tally.Tally, collector_end.CollectorEnd.CollectorEnd}
use Rattle.workers.specs.{Collecting.HasCollected, Collecting.HaveCollected, Tallies.added, Tallies.total_of, Tallies.wrapped}
use Rattle.workers.specs.{Served.HasFolded, Served.HaveFolded, Tallies.GrowsBy, Tallies.HasGrown}
use Rattle.workers.specs.Served.{AllHaveServed, AreAtRunStart, HasCountedNone, HasDone, HasListed, HaveServed, IsAtRunStart, broom_of}
use Rattle.workers.proofs.TallySums.{nothing_added}

-- the collectors of unused brooms
pub all_first : (volume : Volume) (drains k : ℕ) (ss : List Collector)
    → ((i : ℕ) (b : Broom) → slice_get (map broom_of ss) i ≡ Some b → IsUnused (flash_of volume) (k + i) b) → All (HasCountedNone volume drains) ss
    → AreAtRunStart volume drains k ss
all_first volume drains k [] unused idle = tt
all_first volume drains k (s ∷ ss) unused idle =
    let here = All-head (HasCountedNone volume drains) s ss idle in
    let none : k + 0 ≡ k = omega arith in (
      record {
        volume_is = here.0;
        unused = subst (λ (n : ℕ). IsUnused (flash_of volume) n s.broom) none (unused 0 s.broom refl);
        limit = here.1;
        tally = here.2;
      },
      all_first volume drains (k + 1) ss
          (λ i b at. let on : k + suc i ≡ (k + 1) + i = omega arith in subst (λ (n : ℕ). IsUnused (flash_of volume) n b) on (unused (suc i) b at))
          (All-tail (HasCountedNone volume drains) s ss idle),
    )

-- a list that was empty
from_none : {X : Type 0} (n : ℕ) (ys : List X) → GrowsBy n [] ys → n ≡ length ys
from_none {X} n ys grows = sym (ap (length {A = X}) grows.1 ∙ grows.2)

-- the tally that is kept of a broom that began with nothing counted
kept : (volume : Volume) (drains k : ℕ) (first last : Collector) (end : CollectorEnd) → IsAtRunStart volume drains k first
    → (collected : HasCollected first last) → HasFolded last end → end.tally ≡ wrapped (total_of collected.answers)
kept volume drains k first last end begun collected folded =
    let t = total_of collected.answers in
    folded.tally
    ∙ (collected.collected.exact (subst (λ (x : Tally). x ≡ wrapped x) (sym begun.tally) refl)
    ∙ ap wrapped (ap (λ (x : Tally). added x t) begun.tally ∙ sym (nothing_added t)))

-- what a broom's view lists at its end
done : (volume : Volume) (drains k : ℕ) (first last : Collector) (end : CollectorEnd) → IsAtRunStart volume drains k first → HasCollected first last
    → HasFolded last end → HasDone k end.tally (folded_view end.folded)
done volume drains k first last end begun collected folded =
    let v = first_broom (device (flash_of volume)) k in
    let w = view_of_broom last.broom in
    let t = total_of collected.answers in
    let grown : HasGrown v t w = subst (λ (x : View). HasGrown x t w) begun.unused.0 collected.collected.grown in
    let tally = kept volume drains k first last end begun collected folded in
    let m : ℕ = 2 ^ 64 in
    record {
      role = ap (λ (x : View). x.role) folded.view ∙ grown.role;
      drained = ap (λ (x : Tally). x.drained) tally
          ∙ ap (λ (n : ℕ). n % m) (from_none t.drained w.drains grown.drains ∙ sym (ap (λ (x : View). length x.drains) folded.view));
      moved =
          ap (λ (x : Tally). x.moved) tally
          ∙ ap (λ (n : ℕ). n % m) ((let is = grown.moves in
          let plain : t.moved ≡ w.moves = omega arith in plain) ∙ sym (ap (λ (x : View). x.moves) folded.view));
      programmed = ap (λ (x : Tally). x.programmed) tally
          ∙ ap (λ (n : ℕ). n % m) (from_none t.programmed w.programs grown.programs ∙ sym (ap (λ (x : View). length x.programs) folded.view));
      erased = ap (λ (x : Tally). x.erased) tally
          ∙ ap (λ (n : ℕ). n % m) (from_none t.erased w.erases grown.erases ∙ sym (ap (λ (x : View). length x.erases) folded.view));
      lost = ap (λ (x : Tally). x.lost) tally ∙ ap (λ (n : ℕ). n % m) (from_none t.lost w.lost grown.lost ∙ sym (ap (λ (x : View). length x.lost) folded.view));
    }

-- what its erases found
found : (volume : Volume) (drains k : ℕ) (first last : Collector) (end : CollectorEnd) → IsAtRunStart volume drains k first
    → (collected : HasCollected first last) → HasFolded last end → HasListed end.tally first last collected
found volume drains k first last end begun collected folded =
    let tally = kept volume drains k first last end begun collected folded in
    let m : ℕ = 2 ^ 64 in
    record {
      pinned = ap (λ (x : Tally). x.pinned) tally ∙ ap (λ (n : ℕ). n % m) collected.collected.pinned;
      stale = ap (λ (x : Tally). x.stale) tally ∙ ap (λ (n : ℕ). n % m) collected.collected.stale;
    }

served : (volume : Volume) (geo : Geometry) (drains k : ℕ) (before after : List Collector) (ends : List CollectorEnd)
    → geometry_of (flash_of volume) ≡ geo
    → AreAtRunStart volume drains k before → HaveCollected before after
    → HaveFolded after ends → HaveServed geo drains k ends
served volume geo drains k [] [] [] same begun collected folded = tt
served volume geo drains k [] [] (end ∷ ends) same begun collected folded = absurd folded
served volume geo drains k [] (t ∷ after) ends same begun collected folded = absurd collected
served volume geo drains k (s ∷ before) [] ends same begun collected folded = absurd collected
served volume geo drains k (s ∷ before) (t ∷ after) [] same begun collected folded = absurd folded
served volume geo drains k (s ∷ before) (t ∷ after) (end ∷ ends) same begun collected folded = (
  record {
    volume = volume;
    geometry = same;
    first = s;
    begun = begun.0;
    last = t;
    collected = collected.0;
    folded = folded.0;
    done = done volume drains k s t end begun.0 collected.0 folded.0;
    found = found volume drains k s t end begun.0 collected.0 folded.0;
  },
  served volume geo drains (k + 1) before after ends same begun.1 collected.1 folded.1,
)

folded_long : (after : List Collector) (ends : List CollectorEnd) → HaveFolded after ends → length ends ≡ length after
folded_long [] [] folded = refl
folded_long [] (end ∷ ends) folded = absurd folded
folded_long (s ∷ after) [] folded = absurd folded
folded_long (s ∷ after) (end ∷ ends) folded = ap suc (folded_long after ends folded.1)

pub all_served : (volume : Volume) (geo : Geometry) (drains : ℕ) (before after : List Collector) (ends : List CollectorEnd)
    → geometry_of (flash_of volume) ≡ geo
    → length after ≡ brooms_of geo → AreAtRunStart volume drains 0 before
    → HaveCollected before after → HaveFolded after ends → AllHaveServed geo drains ends
all_served volume geo drains before after ends same count begun collected folded =
    record { count = folded_long after ends folded ∙ count; each = served volume geo drains 0 before after ends same begun collected folded }
