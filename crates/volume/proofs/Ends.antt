-- What the meetings of one pass with all others, before and after it reads, tell of the sectors that it has read.
use Rattle.std.proofs.Common.{◌≡◌, ℕ, zero, suc, ◌<◌, All, List, [], ◌∷◌, ◌++◌, Option, None, Some, length, slice_get, get_or, sym, refl, ap, ◌∙◌, subst, arith}
use Rattle.std.proofs.lemmas.Option.{slice_get_within, get_or_from_slice_get}
use Rattle.geometry.specs.{Geometry.sectors_of, Geometry.hosts_of, History.Call, History.after, History.held, History.Begins, Sectors.Sector, Sectors.sector_at}
use Rattle.geometry.{specs.Limits.Numbers, proofs.Histories.Begins-trans}
use Rattle.flash_rule.specs.declared.{facts.Name.TheVariants.Pass as APass, facts.Role.TheVariants.Player, view.View.View}
use Rattle.flash_rule.{specs.Views.AreOfHosts, specs.Views.calls_of, proofs.Histories.callers_before, proofs.Histories.squeezed, proofs.Owning.some_same}
use Rattle.flash_table.specs.declared.{flash.Flash.Flash, pass.Pass.Pass, pass.OpenBlock.OpenBlock}
use Rattle.flash_table.specs.{Flash.view_of, Flash.geometry_of, Flash.device, Owning.owned_list, Owning.closed_list, GivingUp.closed_pass}
use Rattle.host.specs.Ready.{IsReady}
use Rattle.volume.specs.Closing.{AreAll, AreRead, AreFinal, HasLooked, HaveLooked, HasLeft, closed_blocks}
use Rattle.volume.{specs.Closing.MetEach, specs.Closing.HasRead, proofs.Looks.looked-trans, proofs.Still.at_one}

-- a pass of the rest of a row, where it stands
there : (ps : List Pass) (j : ℕ) (p d : Pass) → slice_get ps j ≡ Some p → get_or ps j d ≡ p
there ps j p d is = get_or_from_slice_get ps j p d is

-- a pass has looked, and the others have met it
pub have_looked : (ps qs : List Pass) (first now : Pass) (v : View) → HasLooked (view_of first) (view_of now) → MetEach v ps (view_of now) qs
    → HaveLooked (first ∷ ps) (now ∷ qs)
have_looked ps qs first now v looked m = record { long = ap (λ k. suc k) m.long; each = λ k. each k } where
  each : (k : ℕ) (p q : Pass) → slice_get (first ∷ ps) k ≡ Some p → slice_get (now ∷ qs) k ≡ Some q → HasLooked (view_of p) (view_of q)
  each zero p q is was = subst (λ (x : Pass × Pass). HasLooked (view_of x.0) (view_of x.1)) (λ i. (some_same first p is i, some_same now q was i)) looked
  each (suc j) p q is was =
      let tied = m.each j p q (slice_get_within ps j p is) in
      subst (λ (x : Pass × Pass). HasLooked (view_of x.0) (view_of x.1)) (λ i. (there ps j p p is i, there qs j q q was i)) tied.looked

-- the others of one row, with the first pass before and after it reads
module _ (f : Flash) (first now read : Pass) (ps qs : List Pass) (met : MetEach (view_of first) ps (view_of now) qs)
    (looked : HasLooked (view_of now) (view_of read)) where
  -- the reader may look on
  pub looked_between : HaveLooked (first ∷ ps) (read ∷ qs)
  looked_between = have_looked ps qs first read (view_of first) (looked-trans (view_of first) (view_of now) (view_of read) met.first looked)
      (record {
        first = looked-trans (view_of first) (view_of now) (view_of read) met.first looked;
        long = met.long;
        each = λ k p q low. let t = met.each k p q low in
            record { looked = t.looked; brought = Begins-trans _ (view_of now).seen (view_of read).seen t.brought looked.later; given = t.given };
      })

  module _ (n : ℕ) (sectors : List Sector) (h : HasRead n (view_of now) sectors (view_of read)) where
    same_role : (view_of now).role ≡ (view_of first).role
    same_role = ap (λ (v : View). v.role) met.first.changed

    same_mine : (view_of now).mine ≡ (view_of first).mine
    same_mine = ap (λ (v : View). v.mine) met.first.changed

    later : (s k : ℕ) (p : Pass) → slice_get (first ∷ ps) k ≡ Some p → Begins (view_of p).seen (h.history s)
    later s zero p is = subst (λ (x : Pass). Begins (view_of x).seen (h.history s)) (some_same first p is)
        (Begins-trans (view_of first).seen (view_of now).seen (h.history s) met.first.later (h.later s))
    later s (suc j) p is =
        let tied = met.each j p p (slice_get_within ps j p is) in
        Begins-trans (view_of p).seen (view_of now).seen (h.history s)
        (subst (λ (x : Pass). Begins (view_of x).seen (view_of now).seen) (there ps j p p is) tied.brought) (h.later s)

    own_first : (s t : ℕ) → (view_of first).role ≡ Player (APass t) → calls_of t (h.history s) ≡ (view_of first).mine
    own_first s t role = h.own s t (same_role ∙ role) ∙ same_mine

    -- and after it
    module _ (last : Pass) (rs : List Pass) (again : MetEach (view_of read) qs (view_of last) rs) (ready_first : IsReady f last)
        (ready_before : All (IsReady f) ps) (ready_after : All (IsReady f) rs) where
      own : (s t k : ℕ) (p : Pass) → slice_get (first ∷ ps) k ≡ Some p → (view_of p).role ≡ Player (APass t) → calls_of t (h.history s) ≡ (view_of p).mine
      own s t zero p is role = let same = some_same first p is in
          subst (λ (x : Pass). calls_of t (h.history s) ≡ (view_of x).mine) same (own_first s t (ap (λ (x : Pass). (view_of x).role) same ∙ role))
      own s t (suc j) p is role =
          let low : j < length ps = slice_get_within ps j p is in
          let here = there ps j p p is in
          let q = get_or qs j p in
          let r = get_or rs j p in
          let to : HasLooked (view_of p) (view_of q) = subst (λ (x : Pass). HasLooked (view_of x) (view_of q)) here (met.each j p p low).looked in
          let tied = again.each j p p (omega (arith, met.long)) in
          let all : HasLooked (view_of p) (view_of r) = looked-trans (view_of p) (view_of q) (view_of r) to tied.looked in
          let before : IsReady f p = subst (IsReady f) here (ready_before j p low) in
          let after_all : IsReady f r = ready_after j p (omega (arith, met.long, again.long)) in
          squeezed t (view_of p).seen (h.history s) (view_of r).seen (view_of p).mine
          (later s (suc j) p is)
          (Begins-trans (h.history s) (view_of read).seen (view_of r).seen (h.last s) tied.given)
          (before.rested.own t role)
          (after_all.rested.own t (ap (λ (v : View). v.role) all.changed ∙ role) ∙ ap (λ (v : View). v.mine) all.changed)

      callers : (s : ℕ) → AreOfHosts (device f) (h.history s)
      callers s =
          let whole : AreOfHosts (device f) (view_of last).seen =
          subst (λ (z : Numbers). AreOfHosts z (view_of last).seen) ready_first.rested.pass.numbers ready_first.rested.callers in
          callers_before (device f).hosts (h.history s) (view_of last).seen
          (Begins-trans (h.history s) (view_of read).seen (view_of last).seen (h.last s) again.first.later) whole

      seen : (s : ℕ) → Begins (h.history s) (view_of last).seen
      seen s = Begins-trans (h.history s) (view_of read).seen (view_of last).seen (h.last s) again.first.later

      pub are_read : n ≡ sectors_of (geometry_of f) → length sectors ≡ n → AreRead (device f) (first ∷ ps) (view_of last).seen sectors
      are_read size long =
          record {
            long = long ∙ size;
            history = h.history;
            later = λ s p in_row. later s in_row.0 p in_row.1;
            grows = h.grows;
            seen = seen;
            callers = callers;
            own = λ s t p is role. own s t 0 p is role;
            each = λ s low. subst (λ k. sector_at sectors s ≡ held k (h.history s) s) size (h.each s (omega (arith, long, size)));
          }

      pub are_final : n ≡ sectors_of (geometry_of f) → length sectors ≡ n → AreAll (hosts_of (geometry_of f)) (first ∷ ps)
          → AreFinal (device f) (first ∷ ps) (view_of last).seen sectors
      are_final size long given =
          record {
            history = h.history 0;
            later = λ p in_row. later 0 in_row.0 p in_row.1;
            seen = seen 0;
            callers = callers 0;
            own = λ t p in_row role. own 0 t in_row.0 p in_row.1 role;
            array =
                at_one (device f).hosts n sectors h.history h.grows long (λ s low. h.each s (omega (arith, long))) callers
                (λ t low. let p = given t low in ((view_of p.0).mine, λ s. own s t p.1.0 p.0 p.1.1 p.2))
                ∙ ap (λ k. after k (h.history 0)) size;
          }

-- what a pass closes is the block that it owns, if there is one
closed_owned : (x : Option OpenBlock) → closed_list x ≡ closed_blocks (owned_list x)
closed_owned None = refl
closed_owned (Some o) = refl

-- a pass that has looked, given up
pub has_left : (v w u : View) (opened : Option OpenBlock) → w.owns ≡ owned_list opened → HasLooked v w → u ≡ closed_pass w opened → HasLeft v u
has_left v w u opened owns looked left =
    let before : w.owns ≡ v.owns = ap (λ (x : View). x.owns) looked.changed in
    let ceded : w.ceded ≡ v.ceded = ap (λ (x : View). x.ceded) looked.changed in
    let closed : closed_list opened ≡ closed_blocks v.owns = closed_owned opened ∙ ap closed_blocks (sym owns ∙ before) in
    record {
      changed = left
          ∙ (λ i. record (looked.changed i) {
            seen = (sym left i).seen;
            looks = (sym left i).looks;
            pin = (sym left i).pin;
            known = (sym left i).known;
            copy = (sym left i).copy;
            older = (sym left i).older;
            owns = [];
            work = None;
            ceded = ceded i ++ closed i;
          });
      later = subst (λ (l : List Call). Begins v.seen l) (sym (ap (λ (x : View). x.seen) left)) looked.later;
    }

-- the pass that has met all others, has read and has met them again, and these
pub looked_after : (first now read last : Pass) (ps qs rs : List Pass) → MetEach (view_of first) ps (view_of now) qs
    → HasLooked (view_of now) (view_of read) → MetEach (view_of read) qs (view_of last) rs → HaveLooked (first ∷ ps) (last ∷ rs)
looked_after first now read last ps qs rs met looked again =
    let v = view_of first in
    let up = looked-trans v (view_of now) (view_of read) met.first looked in
    let all = looked-trans v (view_of read) (view_of last) up again.first in
    let whole : MetEach v ps (view_of last) rs = record {
      first = all;
      long = again.long ∙ met.long;
      each = λ k p q low.
          let a = met.each k p q low in
          let b = again.each k q q (omega (arith, met.long)) in
          record {
            looked = looked-trans (view_of (get_or ps k p)) (view_of (get_or qs k q)) (view_of (get_or rs k q)) a.looked b.looked;
            brought = Begins-trans _ (view_of now).seen (view_of last).seen a.brought
                (Begins-trans (view_of now).seen (view_of read).seen (view_of last).seen looked.later again.first.later);
            given = Begins-trans v.seen (view_of read).seen _ up.later b.given;
          };
    } in
    have_looked ps rs first last v all whole
