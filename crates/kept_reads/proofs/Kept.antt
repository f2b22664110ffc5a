-- What is kept of a run with reads.
use Rattle.std.proofs.Common.{◌≡◌, ◌≢◌, ◌⊎◌, ◌∙◌, inl, inr, ⊎_elim, ◌<◌, ◌≤◌, ◌+◌, ℕ, zero, suc, false, List, [], ◌∷◌, ◌++◌, None, Some}
use Rattle.std.proofs.Common.{All, refl, sym, ap, subst, arith, if◌then◌else◌, eq-eqb, ne_eqb}
use mathlib.Core.Logic.{dite}
use native.Mathlib.Decide.{ℕ_discrete}
use Rattle.std.specs.List.{AllByRecursion}
use Rattle.std.proofs.lemmas.List.{append_assoc}
use Rattle.std.proofs.lemmas.List.Elements.{recursion_from_All}
use Rattle.geometry.specs.Sectors.{Sector}
use Rattle.durable.specs.declared.command.Command.{Command}
use Rattle.durable.specs.declared.command.Command.TheVariants.{Program, Copy, Erase, Refused}
use Rattle.durable.specs.declared.memory.Core.{Core}
use Rattle.durable.specs.Commands.{updates_with}
use Rattle.durable.specs.Device.{Device, device_of}
use Rattle.durable.specs.Flash.{Flash, Recovers, RecoversSector}
use Rattle.durable.specs.Memory.{IsMappedTo, Represents, map_entry}
use Rattle.durable.specs.Promise.{IsConsistent, IsReadable, IsRecoverable, KeepsAcknowledged}
use Rattle.durable.specs.Retiring.{updates_left}
use Rattle.durable.specs.Runs.{Event, Completed, CutBetween, CutInside, Failed, Retired, Happens, IsMountedFrom, Runs, acknowledged_in, begun_in}
use Rattle.durable.specs.Updates.{IsSubsequence, Makes, Update, array_after}
use Rattle.durable.proofs.Exact.{before_or_after}
use Rattle.durable.proofs.Extents.{cases_covered, changed_elsewhere, changed_here}
use Rattle.durable.proofs.Promises.{readable, readable_on, readable_renumbered, remounts, runs_consistent, survives_idle_cut}
use Rattle.durable.proofs.Subsequences.{all_of, between_same, made_or_not}
use Rattle.kept_reads.specs.Sessions.{Does, Extends, HasAllSeen, MakesBy, Reads, RunsBeside, SessionStep, changes_in, events_in, value_after, with_changes}

-- a mount reads one value of a sector
one_value : (f : Flash) (s : ℕ) (v w : Sector) → RecoversSector f s v → RecoversSector f s w → v ≡ w
one_value f s v w (inl a) (inl b) = ⊎_elim
    (λ less. ⊎_elim (λ more. absurd (omega (arith, less, more))) (λ same. same.1) (b.2.newest a.0 a.1 a.2.number v a.2.held))
    (λ same. sym same.1)
    (a.2.newest b.0 b.1 b.2.number w b.2.held)
one_value f s None w (inl a) (inr none) = sym none.0
one_value f s (Some bytes) w (inl a) (inr none) = absurd (none.1 a.0 a.1 a.2.number bytes a.2.held)
one_value f s v None (inr none) (inl b) = none.0
one_value f s v (Some bytes) (inr none) (inl b) = absurd (none.1 b.0 b.1 b.2.number bytes b.2.held)
one_value f s v w (inr a) (inr b) = a.0 ∙ sym b.0

-- the list of a flash that keeps just these updates
recovers_all : (f : Flash) (sectors : ℕ) (all : List Update) → KeepsAcknowledged f sectors all all → Recovers f sectors (array_after all)
recovers_all f sectors all keeps =
    subst (λ (us : List Update). Recovers f sectors (array_after us)) (between_same all keeps.updates keeps.includes keeps.included) keeps.recovers

keeps_all : (f : Flash) (sectors : ℕ) (all : List Update) → Recovers f sectors (array_after all) → KeepsAcknowledged f sectors all all
keeps_all f sectors all recovers = record { updates = all; includes = all_of all; included = all_of all; recovers = recovers }

-- a layer holds the array that a mount of its flash would read
holds_read : (t : Flash) (new : Core) (some made : List Update) → IsConsistent t new some some → Recovers t (device_of new).sectors (array_after made)
    → IsConsistent t new made made
holds_read t new some made is recovers =
    let read = recovers_all t (device_of new).sectors some (survives_idle_cut new t some some is).keeps in
    let represents = subst (λ (us : List Update). Represents t new (array_after us)) (between_same some is.updates is.includes is.included) is.represents in
    record {
      updates = made;
      includes = all_of made;
      included = all_of made;
      represents = record {
        mapped = λ s lt. subst (λ (v : Sector). IsMappedTo t s v (map_entry new s))
            (one_value t s (array_after some s) (array_after made s) (read s lt) (recovers s lt))
            (represents.mapped s lt);
        numbers = represents.numbers;
        erased = represents.erased;
      };
      written = is.written;
      spare = is.spare;
    }

-- and so does one that was mounted
mounted : (t : Flash) (new : Core) (acked begun made : List Update) → IsMountedFrom t new → IsReadable t (device_of new) acked begun
    → Recovers t (device_of new).sectors (array_after made) → IsConsistent t new made made
mounted t new acked begun made from is recovers = remounts t (device_of new) new made made from refl
    (record { keeps = keeps_all t (device_of new).sectors made recovers; written = is.written })

-- what a failed command leaves that was mounted, and one that was cut
failed_reads : (f t : Flash) (old new : Core) (update : Update) (m : Command) (before : List Update) → IsConsistent f old before before
    → Happens (Failed update m) f old t new → IsReadable t (device_of new) before (update ∷ before)
failed_reads f t old new update m before is does = readable_renumbered does.0 t (device_of old) (device_of new) before (update ∷ before) does.3 does.5
    (readable does.0 (device_of old) before (update ∷ before) (does.1 f does.0 update.value before before is does.2))

cut_reads : (f t : Flash) (old new : Core) (update : Update) (m : Command) (before : List Update) → IsConsistent f old before before
    → Happens (CutInside update m) f old t new → IsReadable t (device_of new) before (update ∷ before)
cut_reads f t old new update m before is does = readable_on t (device_of old) (device_of new) before (update ∷ before) does.3
    (readable t (device_of old) before (update ∷ before) (does.0 f t update.value before before is does.1))

-- at each moment the layer holds the array after what is made
consistent : (steps : List SessionStep) (f : Flash) (core : Core) (made : List Update) → RunsBeside steps f core made → IsConsistent f core made made
consistent [] f core made run = subst (λ (us : List Update). IsConsistent f core us us) (sym run.1) (runs_consistent [] f core run.0)
consistent (Does (Completed update m) ∷ steps) t new made run =
    subst (λ (us : List Update). IsConsistent t new us us) (sym run.5)
    (run.4.1 run.0 t update.value run.2 run.2 (consistent steps run.0 run.1 run.2 run.3) run.4.0)
consistent (Does (Failed update m) ∷ steps) t new made run = mounted t new run.2 (update ∷ run.2) made run.4.4
    (failed_reads run.0 t run.1 new update m run.2 (consistent steps run.0 run.1 run.2 run.3) run.4) run.5.1
consistent (Does (Retired update m) ∷ steps) t new made run = holds_read t new (updates_left run.4.0 m update run.2) made
    (run.4.3 run.0 t update.value run.2 run.2 (consistent steps run.0 run.1 run.2 run.3) run.4.2) run.5.1
consistent (Does (CutInside update m) ∷ steps) t new made run = mounted t new run.2 (update ∷ run.2) made run.4.2
    (cut_reads run.0 t run.1 new update m run.2 (consistent steps run.0 run.1 run.2 run.3) run.4) run.5.1
consistent (Does CutBetween ∷ steps) t new made run = subst (λ (us : List Update). IsConsistent t new us us) (sym run.5)
    (remounts t (device_of run.1) new run.2 run.2 run.4.1 run.4.2 (readable t (device_of run.1) run.2 run.2
    (subst (λ (g : Flash). IsRecoverable g (device_of run.1) run.2 run.2) (sym run.4.0)
    (survives_idle_cut run.1 run.0 run.2 run.2 (consistent steps run.0 run.1 run.2 run.3)))))
consistent (Reads seen sector value ∷ steps) f core made run = consistent steps f core made run.0

pub runs_beside : (steps : List SessionStep) (f : Flash) (core : Core) (made : List Update) → RunsBeside steps f core made → Runs (events_in steps) f core
runs_beside [] f core made run = run.0
runs_beside (Does event ∷ steps) t new made run = (run.0, run.1, runs_beside steps run.0 run.1 run.2 run.3, run.4)
runs_beside (Reads seen sector value ∷ steps) f core made run = runs_beside steps f core made run.0

-- one of two lists
either : (P : List Update → Type 0) (update : Update) (before made : List Update) → (made ≡ before) ⊎ (made ≡ update ∷ before) → P before
    → P (update ∷ before) → P made
either P update before made is one other = ⊎_elim (λ same. subst P (sym same) one) (λ more. subst P (sym more) other) is

taken_with : (m : Command) (update : Update) (some all : List Update) → IsSubsequence some all
    → IsSubsequence (updates_with m update some) (updates_with m update all)
taken_with (Program at n) update some all is = inr (some, refl, is)
taken_with (Copy k from to) update some all is = is
taken_with (Erase b) update some all is = is
taken_with Refused update some all is = is

includes : (steps : List SessionStep) (f : Flash) (core : Core) (made : List Update) → RunsBeside steps f core made
    → IsSubsequence (acknowledged_in (events_in steps)) made
includes [] f core made run = subst (IsSubsequence []) (sym run.1) refl
includes (Does (Completed update m) ∷ steps) t new made run = subst (IsSubsequence (updates_with m update (acknowledged_in (events_in steps))))
    (sym run.5) (taken_with m update (acknowledged_in (events_in steps)) run.2 (includes steps run.0 run.1 run.2 run.3))
includes (Does (Failed update m) ∷ steps) t new made run = let was = includes steps run.0 run.1 run.2 run.3 in
    either (IsSubsequence (acknowledged_in (events_in steps))) update run.2 made run.5.0 was (inl was)
includes (Does (Retired update m) ∷ steps) t new made run = let was = includes steps run.0 run.1 run.2 run.3 in
    either (IsSubsequence (acknowledged_in (events_in steps))) update run.2 made run.5.0 was (inl was)
includes (Does (CutInside update m) ∷ steps) t new made run = let was = includes steps run.0 run.1 run.2 run.3 in
    either (IsSubsequence (acknowledged_in (events_in steps))) update run.2 made run.5.0 was (inl was)
includes (Does CutBetween ∷ steps) t new made run = subst (IsSubsequence (acknowledged_in (events_in steps))) (sym run.5)
    (includes steps run.0 run.1 run.2 run.3)
includes (Reads seen sector value ∷ steps) f core made run = includes steps f core made run.0

included : (steps : List SessionStep) (f : Flash) (core : Core) (made : List Update) → RunsBeside steps f core made
    → IsSubsequence made (begun_in (events_in steps))
included [] f core made run = run.1
included (Does (Completed update m) ∷ steps) t new made run =
    let begun = begun_in (events_in steps) in
    subst (λ (us : List Update). IsSubsequence us (updates_with m update begun)) (sym run.5)
    (taken_with m update run.2 begun (included steps run.0 run.1 run.2 run.3))
included (Does (Failed update m) ∷ steps) t new made run = let was = included steps run.0 run.1 run.2 run.3 in
    either (λ us. IsSubsequence us (update ∷ begun_in (events_in steps))) update run.2 made run.5.0 (inl was) (inr (run.2, refl, was))
included (Does (Retired update m) ∷ steps) t new made run = let was = included steps run.0 run.1 run.2 run.3 in
    either (λ us. IsSubsequence us (update ∷ begun_in (events_in steps))) update run.2 made run.5.0 (inl was) (inr (run.2, refl, was))
included (Does (CutInside update m) ∷ steps) t new made run = let was = included steps run.0 run.1 run.2 run.3 in
    either (λ us. IsSubsequence us (update ∷ begun_in (events_in steps))) update run.2 made run.5.0 (inl was) (inr (run.2, refl, was))
included (Does CutBetween ∷ steps) t new made run = subst (λ (us : List Update). IsSubsequence us (begun_in (events_in steps))) (sym run.5)
    (included steps run.0 run.1 run.2 run.3)
included (Reads seen sector value ∷ steps) f core made run = included steps f core made run.0

-- changes go on from those before
pub further : (all some first : List (ℕ × Sector)) → Extends all some → Extends some first → Extends all first
further all some first more is = (more.0 ++ is.0, more.1 ∙ ap (λ (rest : List (ℕ × Sector)). more.0 ++ rest) is.1 ∙ sym (append_assoc more.0 is.0 first))

pub changes_extend : (first count : ℕ) (value : Sector) (earlier : List (ℕ × Sector)) → Extends (with_changes first count value earlier) earlier
changes_extend first zero value earlier = ([], refl)
changes_extend first (suc count) value earlier =
    let rest = changes_extend first count value earlier in
    ((first + count, value) ∷ rest.0, ap (λ (changes : List (ℕ × Sector)). (first + count, value) ∷ changes) rest.1)

update_extends : (update : Update) (before : List Update) → Extends (changes_in (update ∷ before)) (changes_in before)
update_extends update before = changes_extend update.extent.first update.extent.count update.value (changes_in before)

same_changes : (changes : List (ℕ × Sector)) → Extends changes changes
same_changes changes = ([], refl)

event_extends : (event : Event) (before : List Update) (t : Flash) (new : Core) (made : List Update) → MakesBy event before t new made
    → Extends (changes_in made) (changes_in before)
event_extends (Completed update m) before t new made is =
    subst (λ (us : List Update). Extends (changes_in us) (changes_in before)) (sym is) (by m)
  where
    by : (m : Command) → Extends (changes_in (updates_with m update before)) (changes_in before)
    by (Program at n) = update_extends update before
    by (Copy k from to) = same_changes (changes_in before)
    by (Erase b) = same_changes (changes_in before)
    by Refused = same_changes (changes_in before)
event_extends (Failed update m) before t new made is =
    either (λ us. Extends (changes_in us) (changes_in before)) update before made is.0 (same_changes (changes_in before)) (update_extends update before)
event_extends (Retired update m) before t new made is =
    either (λ us. Extends (changes_in us) (changes_in before)) update before made is.0 (same_changes (changes_in before)) (update_extends update before)
event_extends (CutInside update m) before t new made is =
    either (λ us. Extends (changes_in us) (changes_in before)) update before made is.0 (same_changes (changes_in before)) (update_extends update before)
event_extends CutBetween before t new made is =
    subst (λ (us : List Update). Extends (changes_in us) (changes_in before)) (sym is) (same_changes (changes_in before))

seen_further : (steps : List SessionStep) (all some : List (ℕ × Sector)) → Extends all some → HasAllSeen steps some → HasAllSeen steps all
seen_further [] all some more seen = tt
seen_further (Does event ∷ steps) all some more seen = seen_further steps all some more seen
seen_further (Reads changes sector value ∷ steps) all some more seen =
    (further all some changes more seen.0, seen.1, seen_further steps all some more seen.2)

all_seen : (steps : List SessionStep) (f : Flash) (core : Core) (made : List Update) → RunsBeside steps f core made → HasAllSeen steps (changes_in made)
all_seen [] f core made run = tt
all_seen (Does event ∷ steps) t new made run = seen_further steps (changes_in made) (changes_in run.2) (event_extends event run.2 t new made run.5)
    (all_seen steps run.0 run.1 run.2 run.3)
all_seen (Reads changes sector value ∷ steps) f core made run = (run.1, run.2, all_seen steps f core made run.0)

pub keeps : (steps : List SessionStep) (f : Flash) (core : Core) (made : List Update) → RunsBeside steps f core made
    → (its : KeepsAcknowledged f (device_of core).sectors (acknowledged_in (events_in steps)) (begun_in (events_in steps)))
    × HasAllSeen steps (changes_in its.updates)
keeps steps f core made run = (
  record {
    updates = made;
    includes = includes steps f core made run;
    included = included steps f core made run;
    recovers = recovers_all f (device_of core).sectors made (survives_idle_cut core f made made (consistent steps f core made run)).keeps;
  },
  all_seen steps f core made run,
)

-- whatever a command leaves that has failed or was cut, its update is made or not
found_either : (left t : Flash) (old : Device) (new : Core) (update : Update) (before : List Update) → IsRecoverable left old before (update ∷ before)
    → ((all : List Update) → IsReadable left old all all → IsReadable t (device_of new) all all)
    → (made : List Update) × (Makes false update before made × Recovers t (device_of new).sectors (array_after made))
found_either left t old new update before is reads = ⊎_elim
    (λ same. (before, (inl refl, recovers_all t (device_of new).sectors before (reads before (readable left old before before same)).keeps)))
    (λ more. (
      update ∷ before,
      (
        inr refl,
        recovers_all t (device_of new).sectors (update ∷ before)
            (reads (update ∷ before) (readable left old (update ∷ before) (update ∷ before) more)).keeps,
      ),
    ))
    (before_or_after left old update before is)

found : (event : Event) (f t : Flash) (old new : Core) (before : List Update) → IsConsistent f old before before → Happens event f old t new
    → (made : List Update) × MakesBy event before t new made
found (Completed update m) f t old new before is does = (updates_with m update before, refl)
found (Failed update m) f t old new before is does = found_either does.0 t (device_of old) new update before
    (does.1 f does.0 update.value before before is does.2)
    (λ all reads. readable_renumbered does.0 t (device_of old) (device_of new) all all does.3 does.5 reads)
found (Retired update m) f t old new before is does =
    let made = updates_left does.0 m update before in (
      made,
      (
        made_or_not does.0 m update before,
        recovers_all t (device_of new).sectors made (survives_idle_cut new t made made (does.3 f t update.value before before is does.2)).keeps,
      ),
    )
found (CutInside update m) f t old new before is does = found_either t t (device_of old) new update before
    (does.0 f t update.value before before is does.1)
    (λ all reads. readable_on t (device_of old) (device_of new) all all does.3 reads)
found CutBetween f t old new before is does = (before, refl)

pub goes_on : (steps : List SessionStep) (f t : Flash) (old new : Core) (before : List Update) (event : Event) → RunsBeside steps f old before
    → Happens event f old t new → (made : List Update) × RunsBeside (Does event ∷ steps) t new made
goes_on steps f t old new before event run does =
    let next = found event f t old new before (consistent steps f old before run) does in (next.0, (f, old, before, run, does, next.1))

-- the changes of an update are in its sectors
with_within : (first count : ℕ) (value : Sector) (earlier : List (ℕ × Sector)) (s : ℕ) → first ≤ s → s < first + count
    → value_after (with_changes first count value earlier) s ≡ value
with_within first zero value earlier s from below = absurd (omega (arith, from, below))
with_within first (suc count) value earlier s from below = dite (ℕ_discrete s (first + count))
    (λ (e : s ≡ first + count). ap (λ b. if b then value else value_after (with_changes first count value earlier) s) (eq-eqb s (first + count) e))
    (λ (e : s ≢ first + count).
    ap (λ b. if b then value else value_after (with_changes first count value earlier) s) (ne_eqb s (first + count) e)
    ∙ with_within first count value earlier s from (omega (arith, below, e)))

with_outside : (first count : ℕ) (value : Sector) (earlier : List (ℕ × Sector)) (s : ℕ) → ((first ≤ s) × (s < first + count) → ⊥)
    → value_after (with_changes first count value earlier) s ≡ value_after earlier s
with_outside first zero value earlier s out = refl
with_outside first (suc count) value earlier s out =
    ap (λ b. if b then value else value_after (with_changes first count value earlier) s)
    (ne_eqb s (first + count) (λ e. out (omega (arith, e), omega (arith, e))))
    ∙ with_outside first count value earlier s (λ has. out (has.0, omega (arith, has.1)))

pub sector_array : (updates : List Update) (s : ℕ) → value_after (changes_in updates) s ≡ array_after updates s
sector_array [] s = refl
sector_array (update ∷ earlier) s = ⊎_elim
    (λ has. with_within update.extent.first update.extent.count update.value (changes_in earlier) s has.0 has.1
    ∙ sym (changed_here (array_after earlier) update.extent update.value s has))
    (λ out. with_outside update.extent.first update.extent.count update.value (changes_in earlier) s out
    ∙ sector_array earlier s ∙ sym (changed_elsewhere (array_after earlier) update.extent update.value s out))
    (cases_covered update.extent s)

-- the changes of a list go on from those of the updates before
pub updates_extend : (newer made : List Update) → Extends (changes_in (newer ++ made)) (changes_in made)
updates_extend [] made = same_changes (changes_in made)
updates_extend (update ∷ newer) made = further (changes_in (update ∷ newer ++ made)) (changes_in (newer ++ made)) (changes_in made)
    (update_extends update (newer ++ made)) (updates_extend newer made)

-- newer changes of other sectors change nothing of a sector
others_change : (newer seen : List (ℕ × Sector)) (s : ℕ) → AllByRecursion (λ (change : ℕ × Sector). change.0 ≢ s) newer
    → value_after (newer ++ seen) s ≡ value_after seen s
others_change [] seen s others = refl
others_change (change ∷ newer) seen s others =
    ap (λ b. if b then change.1 else value_after (newer ++ seen) s) (ne_eqb s change.0 (λ e. others.0 (sym e))) ∙ others_change newer seen s others.1

pub reads_again : (updates : List Update) (newer seen : List (ℕ × Sector)) (s : ℕ) → changes_in updates ≡ newer ++ seen
    → All (λ (change : ℕ × Sector). change.0 ≢ s) newer → array_after updates s ≡ value_after seen s
reads_again updates newer seen s same others = sym (sector_array updates s) ∙ ap (λ (changes : List (ℕ × Sector)). value_after changes s) same
    ∙ others_change newer seen s (recursion_from_All (λ (change : ℕ × Sector). change.0 ≢ s) newer others)
