-- How a run begins: each worker has its lines, and has played none.
use Rattle.std.proofs.Common.{◌≡◌, ℕ, ◌<◌, All, true, false, List, [], map, length, get_or, refl, sym, ap, ◌∙◌, subst, arith, append-nil, zero-add, ne_eqb}
use Rattle.std.specs.Prelude.{Vec, ◌==◌, ◌&&◌, not, if◌then◌else◌, slice_get, Some}
use Rattle.std.specs.{Global.Global, List.range_with_len}
use Rattle.std.proofs.lemmas.List.{get_or-map, length-map, Elements.All-filter, Elements.All-weaker, Elements.filter_passes}
use Rattle.std.proofs.lemmas.{List.FromFn.get_or-map-range_with_len, List.FromFn.length-map-range_with_len, Option.slice_get-get_or, Simd.map-map}
use Rattle.geometry.specs.{Geometry.hosts_of, Geometry.sectors_of, declared.geometry.Geometry.Geometry}
use Rattle.flash_rule.specs.declared.view.View.{View}
use Rattle.flash_table.specs.{declared.pass.Pass.Pass, Flash.view_of, Flash.device, Flash.geometry_of, Flash.first_view}
use Rattle.trace.specs.{Trace.workers_of, declared.commands.Command.Command, declared.commands.Op.Op}
use Rattle.answers.specs.Answers.{IsPlayable}
use Rattle.workers.specs.{Playable.IsLine, Playable.lines_at, Runs.AreManned, Runs.HasBegun}
use Rattle.volume.specs.{declared.volume.Volume.Volume, Volume.flash_of}
use Rattle.rounds.specs.{Merging.is_meet, Merging.is_line_of, Merging.lines_for, Plans.ends_of, Plans.items_of, Plans.places_for}
use Rattle.workers.specs.{declared.worker.Worker.Worker, Dealing.AreDoable, Meetings.IsAt, Meetings.passes_of, Meetings.views_of}
use Rattle.workers.specs.Dealing.{HasPlayedNone, rows_for, with_commands, work_of}
use Rattle.workers.proofs.{RunStates.some_worker, RoundLines.lines_there, RoundLines.places_low}
use Rattle.trace.specs.declared.commands.Op.TheVariants as op

-- there is a host, so each worker of a command is one of the hosts
pub workers_low : (geo : Geometry) (cs : List Command) → 0 < hosts_of geo → All (IsPlayable geo) cs → All (λ c. c.worker < hosts_of geo) cs
workers_low geo cs some playable =
    let hosts : workers_of geo ≡ hosts_of geo = ap (λ b. if b then 500 else hosts_of geo) (ne_eqb (hosts_of geo) 0 (λ none. omega arith)) in
    All-weaker (IsPlayable geo) (λ c. c.worker < hosts_of geo) (λ c p. subst (λ n. c.worker < n) hosts p.worker) cs playable

-- the lines at a worker's places are its lines
pub lines_all : (t : ℕ) (cs : List Command) → lines_at cs (places_for t cs) ≡ lines_for t cs
lines_all t cs = subst (λ l. lines_at l (places_for t cs) ≡ lines_for t cs) (append-nil cs) (lines_there t [] cs [])

not_meet : (t : ℕ) (c : Command) → is_line_of t c ≡ true → ¬ (c.op ≡ op.Meet)
not_meet t c mine meet =
    let e : false ≡ true = ap (λ (o : Op). not (is_meet o) && (c.worker == t)) (sym meet) ∙ mine in
    absurd (cc)

-- a worker's lines can be done
pub places_doable : (geo : Geometry) (t : ℕ) (cs : List Command) → All (IsPlayable geo) cs → AreDoable geo cs (places_for t cs)
places_doable geo t cs playable = record {
  there = places_low 0 t cs (length cs) (sym (zero-add (length cs)));
  doable =
      let P = IsPlayable geo in
      let lines : All (IsLine geo) (lines_for t cs) = λ k d low.
      let c = get_or (lines_for t cs) k d in
      let can = All-filter (is_line_of t) P cs playable k d low in
      record { sector = can.sector; page = can.page; new_page = can.new_page; alone = not_meet t c (filter_passes (is_line_of t) cs k d low) } in
      subst (All (IsLine geo)) (sym (lines_all t cs)) lines;
}

-- and so can those of each row
pub rows_doable : (geo : Geometry) (hosts : ℕ) (cs : List Command) (rows : List (Vec ℕ Global)) → All (IsPlayable geo) cs
    → map items_of rows ≡ rows_for hosts cs → All (λ row. AreDoable geo cs (items_of row)) rows
rows_doable geo hosts cs rows playable are k d low =
    let size = ap (length {A = List ℕ}) are in
    let within : k < hosts = omega (arith, size, length-map rows items_of, length-map-range_with_len (λ t. places_for t cs) 0 hosts) in
    let row : items_of (get_or rows k d) ≡ places_for k cs =
    sym (get_or-map items_of rows k d (items_of d) low)
    ∙ (ap (λ l. get_or l k (items_of d)) are ∙ get_or-map-range_with_len (λ t. places_for t cs) 0 hosts k k (items_of d) within (zero-add k)) in
    subst (AreDoable geo cs) (sym row) (places_doable geo k cs playable)

pub row_count : (hosts : ℕ) (cs : List Command) (rows : List (Vec ℕ Global)) → map items_of rows ≡ rows_for hosts cs → length rows ≡ hosts
row_count hosts cs rows are =
    let size = ap (length {A = List ℕ}) are in omega (arith, size, length-map rows items_of, length-map-range_with_len (λ t. places_for t cs) 0 hosts)

-- a new device with workers that have their own lines
module _ (volume : Volume) (geo : Geometry) (cs : List Command) (rows : List (Vec ℕ Global)) (passes : List Pass) (workers : List Worker)
    (geometry : geometry_of (flash_of volume) ≡ geo) (some : 0 < hosts_of geo)
    (playable : All (IsPlayable geo) cs) (rows_are : map items_of rows ≡ rows_for (hosts_of geo) cs) (count : length passes ≡ hosts_of geo)
    (first : (t : ℕ) (p : Pass) → slice_get passes t ≡ Some p → view_of p ≡ first_view (device (flash_of volume)) t) (passes_are : passes_of workers ≡ passes)
    (work : map work_of workers ≡ map (with_commands cs) rows) (at : All (IsAt volume) workers) (none : All HasPlayedNone workers) where
  long : length workers ≡ hosts_of geo
  long = (let size = ap (length {A = Pass}) passes_are in omega (arith, size, length-map workers (λ (p : Worker). p.pass), count))

  view_here : (t : ℕ) (p : Pass) → t < length (passes_of workers) → view_of (get_or (passes_of workers) t p) ≡ first_view (device (flash_of volume)) t
  view_here t p low =
      first t (get_or (passes_of workers) t p)
      (subst (λ l. slice_get l t ≡ Some (get_or (passes_of workers) t p)) passes_are (slice_get-get_or (passes_of workers) t p low))

  views_here : (t : ℕ) → t < length workers → views_of volume (passes_of workers) t ≡ first_view (device (flash_of volume)) t
  views_here t low =
      let p = (some_worker workers (omega (arith, long))).pass in
      let there : t < length (passes_of workers) = omega (arith, length-map workers (λ (p : Worker). p.pass)) in
      get_or-map view_of (passes_of workers) t p (first_view (device (flash_of volume)) t) there ∙ view_here t p there

  work_here : (t : ℕ) (p : Worker) → t < length workers → work_of (get_or workers t p) ≡ (cs, places_for t cs)
  work_here t p low =
      let each : List ℕ → List Command × List ℕ = λ l. (cs, l) in
      let row : map (with_commands cs) rows ≡ map (λ k. each (places_for k cs)) (range_with_len 0 (hosts_of geo)) =
      sym (map-map each items_of rows) ∙ (ap (map each) rows_are ∙ map-map each (λ k. places_for k cs) (range_with_len 0 (hosts_of geo))) in
      sym (get_or-map work_of workers t p (cs, []) low)
      ∙ (ap (λ l. get_or l t (cs, [])) (work ∙ row)
      ∙ get_or-map-range_with_len (λ k. each (places_for k cs)) 0 (hosts_of geo) t t (cs, []) (omega (arith, long)) (zero-add t))

  begun : HasBegun volume cs (ends_of cs) workers
  begun = record {
    rounds = refl;
    known = subst (λ n. All (λ c. c.worker < n) cs) (sym long) (workers_low geo cs some playable);
    sectors = subst (λ (g : Geometry). All (λ c. c.sector < sectors_of g) cs) (sym geometry)
        (All-weaker (IsPlayable geo) (λ c. c.sector < sectors_of geo) (λ c p. p.sector) cs playable);
    dealt = λ t p low. record { commands = ap (λ w. w.0) (work_here t p low); places = ap (λ w. w.1) (work_here t p low) };
    none = none;
    new = λ t low.
        let is = views_here t low in
        (ap (λ (v : View). v.seen) is, ap (λ (v : View). v.mine) is, ap (λ (v : View). v.programs) is);
  }

  manned : AreManned volume workers
  manned = record {
    some = omega (arith, long);
    all = long ∙ ap hosts_of (sym geometry);
    at = at;
    seated = λ t p low. ap (λ (v : View). v.role) (view_here t p low);
  }

  pub at_first : HasBegun volume cs (ends_of cs) workers × AreManned volume workers
  at_first = (begun, manned)
