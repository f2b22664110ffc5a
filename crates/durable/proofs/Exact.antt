-- Runs told call by call: the array is that of one list of updates.
use Rattle.std.proofs.Common.{◌≡◌, ◌⊎◌, inl, inr, ⊎_elim, ℕ, Bool, true, false, List, [], ◌∷◌, refl, sym, subst, if◌then◌else◌}
use Rattle.durable.specs.declared.command.Command.{Command}
use Rattle.durable.specs.declared.command.Command.TheVariants.{Program, Copy, Erase, Refused}
use Rattle.durable.specs.declared.memory.Core.{Core}
use Rattle.durable.specs.Commands.{is_program, updates_with}
use Rattle.durable.specs.Device.{Device, device_of}
use Rattle.durable.specs.Flash.{Flash, Recovers}
use Rattle.durable.specs.Promise.{IsConsistent, IsReadable, IsRecoverable, KeepsAcknowledged}
use Rattle.durable.specs.Updates.{AreMade, Update, array_after}
use Rattle.durable.specs.Retiring.{updates_left}
use Rattle.durable.specs.Runs.{Event, Completed, CutBetween, CutInside, Failed, Retired, Runs, outcomes_in}
use Rattle.durable.proofs.Promises.{readable, readable_renumbered, remounts, runs_consistent, survives_idle_cut}
use Rattle.durable.proofs.Subsequences.{all_of, between_next, between_same, made_or_not}

-- the updates that a flash keeps, told exactly
exact : (f : Flash) (sectors : ℕ) (updates found : List Update) → found ≡ updates → Recovers f sectors (array_after found)
    → KeepsAcknowledged f sectors updates updates
exact f sectors updates found is recovers = subst (λ (us : List Update). KeepsAcknowledged f sectors us us) is
    (record { updates = found; includes = all_of found; included = all_of found; recovers = recovers })

-- what a power cut inside an update leaves has the array from before it, or the one from after it
pub before_or_after : (f : Flash) (device : Device) (update : Update) (updates : List Update) → IsRecoverable f device updates (update ∷ updates)
    → IsRecoverable f device updates updates ⊎ IsRecoverable f device (update ∷ updates) (update ∷ updates)
before_or_after f device update updates is = ⊎_elim
    (λ before. inl (record {
      keeps = exact f device.sectors updates is.keeps.updates before is.keeps.recovers;
      written = is.written;
      spare = is.spare;
    }))
    (λ after. inr (record {
      keeps = exact f device.sectors (update ∷ updates) is.keeps.updates after is.keeps.recovers;
      written = is.written;
      spare = is.spare;
    }))
    (between_next update updates is.keeps.updates is.keeps.includes is.keeps.included)

-- the one list of updates of a run, and the calls that made it
abbrev IsMade : List (Update × Bool) → Flash → Core → Type 0
IsMade calls f core = (updates : List Update) × AreMade calls updates × IsConsistent f core updates updates

completed : (t : Flash) (new : Core) (update : Update) (m : Command) (calls : List (Update × Bool)) (updates : List Update) → AreMade calls updates
    → IsConsistent t new (updates_with m update updates) (updates_with m update updates)
    → IsMade (if is_program m then (update, true) ∷ calls else calls) t new
completed t new update (Program at n) calls updates made is = (update ∷ updates, (updates, made, refl), is)
completed t new update (Copy k from to) calls updates made is = (updates, made, is)
completed t new update (Erase b) calls updates made is = (updates, made, is)
completed t new update Refused calls updates made is = (updates, made, is)

-- what a command leaves that failed or was cut, once it is mounted
not_done : (left t : Flash) (old : Device) (new : Core) (update : Update) (calls : List (Update × Bool)) (updates : List Update) → AreMade calls updates
    → IsRecoverable left old updates (update ∷ updates)
    → ((all : List Update) → IsReadable left old all all → IsConsistent t new all all) → IsMade ((update, false) ∷ calls) t new
not_done left t old new update calls updates made is mounts = ⊎_elim
    (λ before. (updates, (updates, made, inl refl), mounts updates (readable left old updates updates before)))
    (λ after. (update ∷ updates, (updates, made, inr refl), mounts (update ∷ updates) (readable left old (update ∷ updates) (update ∷ updates) after)))
    (before_or_after left old update updates is)

runs_made : (events : List Event) (f : Flash) (core : Core) → Runs events f core → IsMade (outcomes_in events) f core
runs_made [] f core runs = ([], refl, runs_consistent [] f core runs)
runs_made (Completed update m ∷ events) t new runs =
    let was = runs_made events runs.0 runs.1 runs.2 in
    completed t new update m (outcomes_in events) was.0 was.1 (runs.3.1 runs.0 t update.value was.0 was.0 was.2 runs.3.0)
runs_made (Failed update m ∷ events) t new runs =
    let was = runs_made events runs.0 runs.1 runs.2 in
    not_done runs.3.0 t (device_of runs.1) new update (outcomes_in events) was.0 was.1
    (runs.3.1 runs.0 runs.3.0 update.value was.0 was.0 was.2 runs.3.2)
    (λ all is. remounts t (device_of new) new all all runs.3.4 refl
    (readable_renumbered runs.3.0 t (device_of runs.1) (device_of new) all all runs.3.3 runs.3.5 is))
runs_made (Retired update m ∷ events) t new runs =
    let was = runs_made events runs.0 runs.1 runs.2 in
    let left = runs.3.0 in
    let is = runs.3.3 runs.0 t update.value was.0 was.0 was.2 runs.3.2 in
    (updates_left left m update was.0, (was.0, was.1, made_or_not left m update was.0), is)
runs_made (CutInside update m ∷ events) t new runs =
    let was = runs_made events runs.0 runs.1 runs.2 in
    not_done t t (device_of runs.1) new update (outcomes_in events) was.0 was.1 (runs.3.0 runs.0 t update.value was.0 was.0 was.2 runs.3.1)
    (λ all is. remounts t (device_of runs.1) new all all runs.3.2 runs.3.3 is)
runs_made (CutBetween ∷ events) t new runs =
    let was = runs_made events runs.0 runs.1 runs.2 in (
      was.0,
      was.1,
      remounts t (device_of runs.1) new was.0 was.0 runs.3.1 runs.3.2 (readable t (device_of runs.1) was.0 was.0
          (subst (λ (g : Flash). IsRecoverable g (device_of runs.1) was.0 was.0) (sym runs.3.0) (survives_idle_cut runs.1 runs.0 was.0 was.0 was.2))),
    )

pub runs_each : (events : List Event) (f : Flash) (core : Core) → Runs events f core
    → (updates : List Update) × AreMade (outcomes_in events) updates × Recovers f (device_of core).sectors (array_after updates)
runs_each events f core runs =
    let is = runs_made events f core runs in
    let keeps = (survives_idle_cut core f is.0 is.0 is.2).keeps in
    let same = between_same is.0 keeps.updates keeps.includes keeps.included in
    (is.0, is.1, subst (λ (us : List Update). Recovers f (device_of core).sectors (array_after us)) same keeps.recovers)
