-- What two rounds of meetings make of the passes.
use Rattle.std.proofs.Common.{◌≡◌, ℕ, zero, suc, ◌+◌, ◌<◌, All, List, ◌∷◌, map, length, get_or, sym, ap, ◌∙◌, subst, arith}
use Rattle.std.specs.Prelude.{slice_set}
use Rattle.std.proofs.lemmas.List.{get_or-map, get_or_default, map-set, length-map, set-get_or}
use Rattle.std.proofs.lemmas.List.Elements.{All-cons, All-head, All-tail, All-map, All-weaker}
use Rattle.geometry.specs.{Geometry.hosts_of, History.Begins}
use Rattle.flash_rule.specs.{declared.view.View.View, Views.caller, Views.calls_of}
use Rattle.flash_table.specs.{declared.pass.Pass.Pass, Flash.view_of, Flash.device, Flash.geometry_of, Flash.first_view}
use Rattle.host.specs.{Ready.IsReady, Told.MetTold}
use Rattle.volume.specs.{declared.volume.Volume.Volume, Closing.MetEach, Closing.HasLooked, Volume.flash_of}
use Rattle.volume.proofs.Looks.{Meets, meets_next, looked-trans}
use Rattle.workers.specs.declared.worker.Worker.{Worker}
use Rattle.workers.specs.Meetings.{AreSeated, IsAt, PassesMet, Rest, passes_of, rest_of, views_of}

-- a look leaves the role and the pass's own calls
role_kept : (v w : View) → HasLooked v w → w.role ≡ v.role
role_kept v w l = ap (λ (x : View). x.role) l.changed

mine_kept : (v w : View) → HasLooked v w → w.mine ≡ v.mine
mine_kept v w l = ap (λ (x : View). x.mine) l.changed

module _ (volume : Volume) (first now last : Pass) (ps qs rs : List Pass) (one : MetEach (view_of first) ps (view_of now) qs)
    (two : MetEach (view_of now) qs (view_of last) rs) where
  -- the view of a pass behind the first
  behind : (xs : List Pass) (x d : Pass) (k : ℕ) → k < length xs → views_of volume (x ∷ xs) (suc k) ≡ view_of (get_or xs k d)
  behind xs x d k low = get_or-map view_of xs k d (first_view (device (flash_of volume)) (suc k)) low

  looked_twice : (k : ℕ) → k < length ps → ((view_of (get_or rs k first)).mine ≡ (view_of (get_or ps k first)).mine)
      × ((view_of (get_or rs k first)).role ≡ (view_of (get_or ps k first)).role)
  looked_twice k low =
      let a = one.each k first first low in
      let b = two.each k first first (omega (arith, one.long)) in (
        mine_kept (view_of (get_or qs k first)) (view_of (get_or rs k first)) b.looked
            ∙ mine_kept (view_of (get_or ps k first)) (view_of (get_or qs k first)) a.looked,
        role_kept (view_of (get_or qs k first)) (view_of (get_or rs k first)) b.looked
            ∙ role_kept (view_of (get_or ps k first)) (view_of (get_or qs k first)) a.looked,
      )

  -- each pass still stands at its number
  pub seated_after : AreSeated (first ∷ ps) → AreSeated (last ∷ rs)
  seated_after seated zero p low =
      role_kept (view_of now) (view_of last) two.first ∙ (role_kept (view_of first) (view_of now) one.first ∙ seated 0 first (omega arith))
  seated_after seated (suc k) p low =
      let inside : k < length ps = omega (arith, one.long, two.long) in
      ap (λ (x : Pass). (view_of x).role) (get_or_default rs k p first (omega arith)) ∙ ((looked_twice k inside).1 ∙ seated (suc k) first (omega arith))

  module _ (ready : All (IsReady (flash_of volume)) (first ∷ ps)) (ready_now : IsReady (flash_of volume) now)
      (ready_after : All (IsReady (flash_of volume)) (last ∷ rs))
      (seated : AreSeated (first ∷ ps)) (count : suc (length ps) ≡ hosts_of (geometry_of (flash_of volume))) where
    brought : (t : ℕ) → t < suc (length ps) → Begins (views_of volume (first ∷ ps) t).seen (view_of now).seen
    brought zero low = one.first.later
    brought (suc k) low =
        let inside : k < length ps = omega arith in
        subst (λ (v : View). Begins v.seen (view_of now).seen) (sym (behind ps first first k inside)) (one.each k first first inside).brought

    given : (t : ℕ) → t < suc (length ps) → Begins (view_of now).seen (views_of volume (last ∷ rs) t).seen
    given zero low = two.first.later
    given (suc k) low =
        let inside : k < length qs = omega (arith, one.long) in
        let there : k < length rs = omega (arith, one.long, two.long) in
        subst (λ (v : View). Begins (view_of now).seen v.seen) (sym (behind rs last first k there)) (two.each k first first inside).given

    same : (t : ℕ) → t < suc (length ps) → (views_of volume (last ∷ rs) t).mine ≡ (views_of volume (first ∷ ps) t).mine
    same zero low = mine_kept (view_of now) (view_of last) two.first ∙ mine_kept (view_of first) (view_of now) one.first
    same (suc k) low =
        let inside : k < length ps = omega arith in
        let there : k < length rs = omega (arith, one.long, two.long) in
        ap (λ (v : View). v.mine) (behind rs last first k there)
        ∙ ((looked_twice k inside).0 ∙ ap (λ (v : View). v.mine) (sym (behind ps first first k inside)))

    -- of all that a pass has seen, its own calls are those that it has made
    own_of : (x : Pass) (xs : List Pass) → All (IsReady (flash_of volume)) (x ∷ xs) → AreSeated (x ∷ xs) → (t : ℕ) → t < suc (length xs)
        → calls_of t (views_of volume (x ∷ xs) t).seen ≡ (views_of volume (x ∷ xs) t).mine
    own_of x xs all at t low =
        let is : views_of volume (x ∷ xs) t ≡ view_of (get_or (x ∷ xs) t first) =
        get_or-map view_of (x ∷ xs) t first (first_view (device (flash_of volume)) t) low in
        subst (λ (v : View). calls_of t v.seen ≡ v.mine) (sym is) ((all t first low).rested.own t (at t first low))

    looked : (t : ℕ) → t < suc (length ps) → HasLooked (views_of volume (first ∷ ps) t) (views_of volume (last ∷ rs) t)
    looked zero low = looked-trans (view_of first) (view_of now) (view_of last) one.first two.first
    looked (suc k) low =
        let inside : k < length ps = omega arith in
        let there : k < length rs = omega (arith, one.long, two.long) in
        let a = one.each k first first inside in
        let b = two.each k first first (omega (arith, one.long)) in
        let both = looked-trans (view_of (get_or ps k first)) (view_of (get_or qs k first)) (view_of (get_or rs k first)) a.looked b.looked in
        subst (λ (x : View × View). HasLooked x.0 x.1) (λ i. (sym (behind ps first first k inside) i, sym (behind rs last first k there) i)) both

    pub all_met : PassesMet volume (first ∷ ps) (last ∷ rs)
    all_met = record {
      long = ap suc (two.long ∙ one.long);
      history = (view_of now).seen;
      have_met = record {
        callers = subst (λ n. All (λ c. caller c < n) (view_of now).seen)
            (ap (λ z. z.hosts) ready_now.rested.pass.numbers ∙ sym count) ready_now.rested.callers;
        brought = brought;
        given = given;
        same = same;
        own_before = own_of first ps ready seated;
        own_after = λ t low. own_of last rs ready_after (seated_after seated) t (omega (arith, one.long, two.long));
      };
      looked = looked;
    }

-- the pass of a worker of this volume is ready
pub ready_at : (volume : Volume) (p : Worker) → IsAt volume p → IsReady (flash_of volume) p.pass
ready_at volume p at = subst (λ (v : Volume). IsReady (flash_of v) p.pass) at p.able.ready

pub all_ready : (volume : Volume) (workers : List Worker) → All (IsAt volume) workers → All (IsReady (flash_of volume)) (passes_of workers)
all_ready volume workers at =
    All-map (IsReady (flash_of volume)) (λ (p : Worker). p.pass) workers
    (All-weaker (IsAt volume) (λ p. IsReady (flash_of volume) p.pass) (λ p here. ready_at volume p here) workers at)

-- a worker whose rest is that of another one is of the same volume
pub same_at : (volume : Volume) (p q : Worker) → rest_of q ≡ rest_of p → IsAt volume p → IsAt volume q
same_at volume p q same at = ap (λ (r : Rest). r.0) same ∙ at

pub all_same_at : (volume : Volume) (workers others : List Worker) → map rest_of others ≡ map rest_of workers → All (IsAt volume) workers
    → All (IsAt volume) others
all_same_at volume workers others same at =
    λ k d low.
    let long = ap (length {A = Rest}) same in
    let inside : k < length workers = omega (arith, long, length-map others rest_of, length-map workers rest_of) in
    let e : rest_of (get_or others k d) ≡ rest_of (get_or workers k d) =
    sym (get_or-map rest_of others k d (rest_of d) low) ∙ (ap (λ l. get_or l k (rest_of d)) same ∙ get_or-map rest_of workers k d (rest_of d) inside) in
    same_at volume (get_or workers k d) (get_or others k d) e (at k d inside)

-- one meeting more
pub meets_more : (volume : Volume) (first : Pass) (ps : List Pass) (i : ℕ) (now now' : Pass) (others : List Worker) (x x' : Worker)
    → Meets (flash_of volume) first ps i now (passes_of others)
    → x ≡ get_or others i x → i < length others → MetTold (view_of now) (view_of x.pass) (view_of now') (view_of x'.pass)
    → IsReady (flash_of volume) now' → IsReady (flash_of volume) x'.pass
    → Meets (flash_of volume) first ps (i + 1) now' (passes_of (slice_set others i x'))
meets_more volume first ps i now now' others x x' m there low told ready ready' =
    let is : get_or (passes_of others) i x.pass ≡ x.pass =
    get_or-map (λ (p : Worker). p.pass) others i x x.pass low ∙ ap (λ (p : Worker). p.pass) (sym there) in
    let inside : i < length ps = omega (arith, m.long, length-map others (λ (p : Worker). p.pass)) in
    subst (λ qs. Meets (flash_of volume) first ps (i + 1) now' qs) (sym (map-set (λ (p : Worker). p.pass) others i x'))
    (meets_next (flash_of volume) first ps i now now' x.pass x'.pass (passes_of others) m inside
    (subst (λ (p : Pass). MetTold (view_of now) (view_of p) (view_of now') (view_of x'.pass)) (sym is) told) ready ready')

pub rests_kept : (others : List Worker) (i : ℕ) (x x' : Worker) → x ≡ get_or others i x → i < length others → rest_of x' ≡ rest_of x
    → map rest_of (slice_set others i x') ≡ map rest_of others
rests_kept others i x x' there low same =
    let is : get_or (map rest_of others) i (rest_of x) ≡ rest_of x = get_or-map rest_of others i x (rest_of x) low ∙ ap rest_of (sym there) in
    map-set rest_of others i x' ∙ (ap (slice_set (map rest_of others) i) (same ∙ sym is) ∙ set-get_or (map rest_of others) i (rest_of x))

-- what the meetings of a row of workers make of it
module _ (volume : Volume) (workers : List Worker) (first now last : Worker) (others qs rs : List Worker) (row : workers ≡ first ∷ others)
    (at : All (IsAt volume) workers) (seated : AreSeated (passes_of workers))
    (one : MetEach (view_of first.pass) (passes_of others) (view_of now.pass) (passes_of qs))
    (two : MetEach (view_of now.pass) (passes_of qs) (view_of last.pass) (passes_of rs)) where
  pub workers_seated : AreSeated (passes_of (last ∷ rs))
  workers_seated = seated_after volume first.pass now.pass last.pass (passes_of others) (passes_of qs) (passes_of rs) one two
      (subst (λ l. AreSeated (passes_of l)) row seated)

  pub workers_met : length workers ≡ hosts_of (geometry_of (flash_of volume)) → rest_of now ≡ rest_of first → rest_of last ≡ rest_of now
      → map rest_of qs ≡ map rest_of others → map rest_of rs ≡ map rest_of qs
      → PassesMet volume (passes_of workers) (passes_of (last ∷ rs))
  workers_met all same_now same_last same_qs same_rs =
      let here : All (IsAt volume) (first ∷ others) = subst (All (IsAt volume)) row at in
      let at_first : IsAt volume first = All-head (IsAt volume) first others here in
      let at_others : All (IsAt volume) others = All-tail (IsAt volume) first others here in
      let at_now : IsAt volume now = same_at volume first now same_now at_first in
      let at_last : IsAt volume last = same_at volume now last same_last at_now in
      let at_rs : All (IsAt volume) rs = all_same_at volume others rs (same_rs ∙ same_qs) at_others in
      let long = ap (length {A = Worker}) row in
      let count : suc (length (passes_of others)) ≡ hosts_of (geometry_of (flash_of volume)) =
      omega (arith, long, length-map others (λ (p : Worker). p.pass)) in
      subst (λ l. PassesMet volume (passes_of l) (passes_of (last ∷ rs))) (sym row)
      (all_met volume first.pass now.pass last.pass (passes_of others) (passes_of qs) (passes_of rs) one two (all_ready volume (first ∷ others) here)
      (ready_at volume now at_now)
      (all_ready volume (last ∷ rs) (All-cons (IsAt volume) last rs at_last at_rs)) (subst (λ l. AreSeated (passes_of l)) row seated) count)
