-- What is kept of a run on flash that buffers.
use Rattle.std.proofs.Common.{◌≡◌, ◌⊎◌, ◌∙◌, inl, inr, ⊎_elim, ◌≤◌, ◌+◌, ℕ, suc, Bool, true, false, List, [], ◌∷◌, ◌++◌, take, drop, length, refl, sym, ap}
use Rattle.std.proofs.Common.{subst, arith, if◌then◌else◌}
use Rattle.std.proofs.lemmas.List.{drop-append-le, length-append, take-append-drop}
use Rattle.durable.specs.Commands.{is_program}
use Rattle.durable.specs.Device.{device_of}
use Rattle.durable.specs.Flash.{Recovers}
use Rattle.durable.specs.Promise.{IsRecoverable}
use Rattle.durable.specs.Runs.{Event, Completed, Failed, Retired, CutInside, CutBetween, Runs, acknowledged_in, begun_in, outcomes_in}
use Rattle.durable.specs.Updates.{AreMade, Update, array_after}
use Rattle.durable.proofs.Exact.{runs_each}
use Rattle.durable.proofs.Promises.{runs_consistent, survives_idle_cut}
use Rattle.buffered.specs.Buffered.{LiesBack, IsCutOfFirst, Moment, RunsThrough, Step, Does, Syncs, Undoes, kept_in}

-- the present moment, or one of those before it
here_or_back : (now : Moment) (rest : List Moment) (undone : ℕ) (was : Moment) → LiesBack undone (now ∷ rest) was
    → ((undone ≡ 0) × (was ≡ now)) ⊎ ((less : ℕ) × (undone ≡ suc less) × LiesBack less rest was)
here_or_back now rest undone was back = by back.0 back.1 back.2 back.3
  where
    by : (later earlier : List Moment) → now ∷ rest ≡ later ++ was ∷ earlier → length later ≡ undone
        → ((undone ≡ 0) × (was ≡ now)) ⊎ ((less : ℕ) × (undone ≡ suc less) × LiesBack less rest was)
    by [] earlier same long = inl (sym long, cc same)
    by (first ∷ later) earlier same long = inr (length later, sym long, (later, earlier, cc same, refl))

-- there is no moment before the only one
none_back : (less : ℕ) (was : Moment) → LiesBack less [] was → ⊥
none_back less was back = omega (arith, ap length back.2, length-append back.0 (was ∷ back.1))

now_back : (now : Moment) (earlier : List Moment) → LiesBack 0 (now ∷ earlier) now
now_back now earlier = ([], earlier, refl, refl)

-- of a moment to which nothing is undone, what is said of the present one
moved : (events : List Event) (undone : ℕ) (now was : Moment) → undone ≡ 0 → was ≡ now → Runs events now.flash now.layer
    → Runs (drop undone events) was.flash was.layer
moved events undone now was none same runs = subst (λ (n : ℕ). Runs (drop n events) was.flash was.layer) (sym none)
    (subst (λ (m : Moment). Runs events m.flash m.layer) (sym same) runs)

-- where a cut may go back to the present moment alone
alone : (events : List Event) (undone : ℕ) (now was : Moment) → LiesBack undone (now ∷ []) was → Runs events now.flash now.layer
    → Runs (drop undone events) was.flash was.layer
alone events undone now was back runs = ⊎_elim
    (λ here. moved events undone now was here.0 here.1 runs)
    (λ there. absurd (none_back there.0 was there.2))
    (here_or_back now [] undone was back)

-- so a cut undoes nothing there
pub none_undone : (undone : ℕ) (moments : List Moment) (now was : Moment) (events : List Event) (cut : Event) → moments ≡ now ∷ []
    → LiesBack undone moments was → IsCutOfFirst undone events cut → ⊥
none_undone undone moments now was events cut only back is = omega (
  arith,
  ap length only,
  ap length back.2,
  back.3,
  is.4,
  length-append back.0 (was ∷ back.1),
)

of_these : (undone : ℕ) (these moments : List Moment) (was : Moment) → moments ≡ these → LiesBack undone moments was → LiesBack undone these was
of_these undone these moments was same back = subst (λ (its : List Moment). LiesBack undone its was) same back

pub kept_run : (steps : List Step) (moments : List Moment) (was : Moment) (undone : ℕ) → RunsThrough steps moments → LiesBack undone moments was
    → Runs (drop undone (kept_in steps)) was.flash was.layer
kept_run [] moments was undone run back = alone [] undone run.0 was (of_these undone (run.0 ∷ []) moments was run.1 back) run.2
kept_run (Does event ∷ steps) moments was undone run back = ⊎_elim
    (λ here. moved (event ∷ kept_in steps) undone run.0 was here.0 here.1
    (run.1.flash, run.1.layer, kept_run steps (run.1 ∷ run.2) run.1 0 run.4 (now_back run.1 run.2), run.5))
    (λ there. subst (λ (n : ℕ). Runs (drop n (event ∷ kept_in steps)) was.flash was.layer) (sym there.1)
    (kept_run steps (run.1 ∷ run.2) was there.0 run.4 there.2))
    (here_or_back run.0 (run.1 ∷ run.2) undone was (of_these undone (run.0 ∷ run.1 ∷ run.2) moments was run.3 back))
kept_run (Syncs ∷ steps) moments was undone run back = alone (kept_in steps) undone run.0 was (of_these undone (run.0 ∷ []) moments was run.2 back)
    (kept_run steps (run.0 ∷ run.1) run.0 0 run.3 (now_back run.0 run.1))
kept_run (Undoes n cut ∷ steps) moments was undone run back = alone (cut ∷ drop n (kept_in steps)) undone run.0 was
    (of_these undone (run.0 ∷ []) moments was run.3 back)
    (run.1.flash, run.1.layer, kept_run steps run.2 run.1 n run.4 run.5, run.7)

pub kept_mounts : (steps : List Step) (moments : List Moment) (was : Moment) (undone : ℕ) → RunsThrough steps moments → LiesBack undone moments was
    → IsRecoverable was.flash (device_of was.layer) (acknowledged_in (drop undone (kept_in steps))) (begun_in (drop undone (kept_in steps)))
kept_mounts steps moments was undone run back = let kept = drop undone (kept_in steps) in
    survives_idle_cut was.layer was.flash (acknowledged_in kept) (begun_in kept)
    (runs_consistent kept was.flash was.layer (kept_run steps moments was undone run back))

-- so many events lie behind a moment at the least
back_within : (undone : ℕ) (moments : List Moment) (was : Moment) → LiesBack undone moments was → undone + 1 ≤ length moments
back_within undone moments was back = omega (arith, ap length back.2, length-append back.0 (was ∷ back.1), back.3)

-- what was kept at a sync stays, and a cut goes back no further
abbrev Stays : List Event → List Event → List Moment → Type 0
Stays all synced moments = (newer : List Event) × (all ≡ newer ++ synced) × (length moments ≤ length newer + 1)

pub kept_since : (later steps : List Step) (moments : List Moment) → RunsThrough (later ++ Syncs ∷ steps) moments
    → Stays (kept_in (later ++ Syncs ∷ steps)) (kept_in steps) moments
kept_since [] steps moments run = ([], refl, omega (arith, ap length run.2))
kept_since (Does event ∷ later) steps moments run = let before = kept_since later steps (run.1 ∷ run.2) run.4 in
    (event ∷ before.0, ap (λ (its : List Event). event ∷ its) before.1, omega (arith, ap length run.3, before.2))
kept_since (Syncs ∷ later) steps moments run = let before = kept_since later steps (run.0 ∷ run.1) run.3 in
    (before.0, before.1, omega (arith, ap length run.2))
kept_since (Undoes n cut ∷ later) steps moments run = let before = kept_since later steps run.2 run.4 in (
  cut ∷ drop n before.0,
  ap (λ (its : List Event). cut ∷ its) (ap (drop n) before.1
      ∙ drop-append-le n before.0 (kept_in steps) (omega (arith, before.2, back_within n run.2 run.1 run.5))),
  omega (arith, ap length run.3),
)

-- the calls of two lists of events
calls_append : (newer older : List Event) → outcomes_in (newer ++ older) ≡ outcomes_in newer ++ outcomes_in older
calls_append [] older = refl
calls_append (Completed update command ∷ newer) older = if_program (is_program command) (update, true) (calls_append newer older)
  where
    if_program : (is : Bool) (call : Update × Bool) → outcomes_in (newer ++ older) ≡ outcomes_in newer ++ outcomes_in older
        → (if is then call ∷ outcomes_in (newer ++ older) else outcomes_in (newer ++ older))
        ≡ (if is then call ∷ outcomes_in newer else outcomes_in newer) ++ outcomes_in older
    if_program true call same = ap (λ (its : List (Update × Bool)). call ∷ its) same
    if_program false call same = same
calls_append (Failed update command ∷ newer) older = ap (λ (its : List (Update × Bool)). (update, false) ∷ its) (calls_append newer older)
calls_append (Retired update command ∷ newer) older = ap (λ (its : List (Update × Bool)). (update, false) ∷ its) (calls_append newer older)
calls_append (CutInside update command ∷ newer) older = ap (λ (its : List (Update × Bool)). (update, false) ∷ its) (calls_append newer older)
calls_append (CutBetween ∷ newer) older = calls_append newer older

pub flushed : (later steps : List Step) (moments : List Moment) (was : Moment) (undone : ℕ) → RunsThrough (later ++ Syncs ∷ steps) moments
    → LiesBack undone moments was
    → (lost kept : List (Update × Bool)) × (updates : List Update)
    × (outcomes_in (kept_in (later ++ Syncs ∷ steps)) ≡ lost ++ kept ++ outcomes_in (kept_in steps))
    × AreMade (kept ++ outcomes_in (kept_in steps)) updates × Recovers was.flash (device_of was.layer).sectors (array_after updates)
flushed later steps moments was undone run back =
    let all = kept_in (later ++ Syncs ∷ steps) in
    let synced = kept_in steps in
    let since = kept_since later steps moments run in
    let newer = since.0 in
    let left : drop undone all ≡ drop undone newer ++ synced
    = ap (drop undone) since.1 ∙ drop-append-le undone newer synced (omega (arith, since.2, back_within undone moments was back)) in
    let made = runs_each (drop undone all) was.flash was.layer (kept_run (later ++ Syncs ∷ steps) moments was undone run back) in (
      outcomes_in (take undone newer),
      outcomes_in (drop undone newer),
      made.0,
      ap outcomes_in since.1 ∙ calls_append newer synced
          ∙ ap (λ (its : List Event). outcomes_in its ++ outcomes_in synced) (sym (take-append-drop undone newer))
          ∙ ap (λ (its : List (Update × Bool)). its ++ outcomes_in synced) (calls_append (take undone newer) (drop undone newer)),
      subst (λ (calls : List (Update × Bool)). AreMade calls made.0) (ap outcomes_in left ∙ calls_append (drop undone newer) synced) made.1,
      made.2,
    )
