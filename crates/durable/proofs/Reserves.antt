-- A reserve of blocks, of which each failed command takes one.
use Rattle.std.proofs.Common.{◌≡◌, ◌≢◌, inl, ⊎_elim, ◌+◌, ◌<◌, ◌≤◌, ℕ, List, [], ◌∷◌, refl, sym, ◌∙◌, ap, arith}
use Rattle.std.proofs.lemmas.Bool.Decides.{nat_tests}
use Rattle.geometry.specs.Sectors.{Sector}
use Rattle.durable.specs.declared.extent.Extent.{Extent}
use Rattle.durable.specs.declared.command.Command.{Command}
use Rattle.durable.specs.declared.command.Command.TheVariants.{Program, Copy, Erase, Refused}
use Rattle.durable.specs.declared.memory.Core.{Core}
use Rattle.durable.specs.Calls.{IsSafe, SurvivesCut}
use Rattle.durable.specs.Commands.{CutLeaves}
use Rattle.durable.specs.Device.{Device, NamesOn, device_of}
use Rattle.durable.specs.Failures.{Changes, HoldsNoVersion, IsRenumbered, IsSwapped, swapped}
use Rattle.durable.specs.Flash.{Flash}
use Rattle.durable.specs.Promise.{IsRecoverable}
use Rattle.durable.specs.Updates.{Update}
use Rattle.durable.specs.Runs.{Event, Completed, CutBetween, CutInside, Failed, Retired, Runs, RunsOnReserve, acknowledged_in, begun_in, failures_in}
use Rattle.durable.proofs.Cells.{erased_holds_none}
use Rattle.durable.proofs.Promises.{blank_recoverable, completes_cut, readable, readable_renumbered, runs_consistent}

-- no command changes a block that isn't in use
other_block : (c b blocks : ℕ) → c < blocks → blocks ≤ b → b ≢ c
other_block c b blocks lt le e = omega (arith, lt, le, e)

pub untouched : (f t : Flash) (device : Device) (m : Command) (s : Extent) (value : Sector) → NamesOn device m → CutLeaves m s value f t → (b p : ℕ)
    → device.blocks ≤ b → t b p ≡ f b p
untouched f t device (Program at n) s value names cut b p le = ⊎_elim (λ same. same b p) (λ more. ⊎_elim
    (λ torn. torn.others b p (inl (other_block at.block b device.blocks names.0 le)))
    (λ put. put.others b p (inl (other_block at.block b device.blocks names.0 le))) more) cut
untouched f t device (Copy k from to) s value names cut b p le = ⊎_elim (λ same. same b p) (λ more. ⊎_elim
    (λ torn. torn.others b p (inl (other_block to.block b device.blocks names.1.0 le)))
    (λ put. put.others b p (inl (other_block to.block b device.blocks names.1.0 le))) more) cut
untouched f t device (Erase d) s value names cut b p le = cut.outside b p (other_block d b device.blocks names le)
untouched f t device Refused s value names cut b p le = cut b p

pub changed_in_use : (device : Device) (m : Command) (b : ℕ) → NamesOn device m → Changes m b → b < device.blocks
changed_in_use device (Program at n) b names is = omega (arith, names.0, is)
changed_in_use device (Copy k from to) b names is = omega (arith, names.1.0, is)
changed_in_use device (Erase c) b names is = omega (arith, names, is)
changed_in_use device Refused b names is = absurd is

-- two numbers that are changed twice are the same again
pub swapped_first : (a b : ℕ) → swapped a b a ≡ b
swapped_first a b = grind (arith, nat_tests)

pub swapped_second : (a b : ℕ) → swapped a b b ≡ a
swapped_second a b = grind (arith, nat_tests)

pub swapped_other : (a b c : ℕ) → c ≢ a → c ≢ b → swapped a b c ≡ c
swapped_other a b c not_a not_b = grind (arith, nat_tests)

pub swapped_twice : (a b c : ℕ) → swapped a b (swapped a b c) ≡ c
swapped_twice a b c = grind (arith, nat_tests)

pub swapped_within : (a b blocks c : ℕ) → a < blocks → b < blocks → c < blocks → swapped a b c < blocks
swapped_within a b blocks c a_within b_within within = grind (arith, nat_tests)

pub renumbered : (f t : Flash) (a b blocks : ℕ) → a < blocks → b < blocks → IsSwapped f t a b → IsRenumbered f t blocks
renumbered f t a b blocks a_within b_within is = record {
  to = swapped a b;
  from = swapped a b;
  inverse = swapped_twice a b;
  moved = is;
  within = λ c lt. swapped_within a b blocks c a_within b_within lt;
}

-- the device is the same after an event
blocks_are : (a b : Device) → a ≡ b → (a.blocks ≡ b.blocks) × (a.read_blocks ≡ b.read_blocks)
blocks_are a b same = (ap (λ (d : Device). d.blocks) same, ap (λ (d : Device). d.read_blocks) same)

abbrev HasSpares : Device → ℕ → Type 0
HasSpares device spent = device.blocks + spent ≤ device.read_blocks

spares_before : (old new : Device) (spent : ℕ) → new ≡ old → HasSpares new spent → HasSpares old spent
spares_before old new spent same has = let is = blocks_are new old same in omega (arith, has, is.0, is.1)

names_of : (core : Core) (m : Command) (f : Flash) (events : List Event) → Runs events f core → IsSafe core m → NamesOn (device_of core) m
names_of core m f events runs safe = (safe f (acknowledged_in events) (begun_in events) (runs_consistent events f core runs)).0

-- a run on a reserve is a run
pub whole : (events : List Event) (t : Flash) (new : Core) → RunsOnReserve events t new → HasSpares (device_of new) (failures_in events) → Runs events t new
whole [] t new runs has = runs
whole (Completed update m ∷ events) t new runs has =
    (runs.0, runs.1, whole events runs.0 runs.1 runs.2 (spares_before (device_of runs.1) (device_of new) (failures_in events) runs.3.1.2 has), runs.3.1)
whole (Failed update m ∷ events) t new runs has =
    let old = device_of runs.1 in
    let now = spares_before old (device_of new) (failures_in events + 1) runs.3.8 has in
    let before = whole events runs.0 runs.1 runs.2 (omega (arith, now)) in
    let within = changed_in_use old m runs.3.2 (names_of runs.1 m runs.0 events before runs.3.0) runs.3.5 in
    let is = blocks_are (device_of new) old runs.3.8 in (
      runs.0,
      runs.1,
      before,
      (
        runs.3.1,
        runs.3.3,
        runs.3.4,
        renumbered runs.3.1 t runs.3.2 (old.blocks + failures_in events) old.read_blocks (omega (arith, within, now)) (omega (arith, now)) runs.3.6,
        runs.3.7,
        (is.1, ap (λ (d : Device). d.pages) runs.3.8, ap (λ (d : Device). d.sectors) runs.3.8),
      ),
    )
whole (Retired update m ∷ events) t new runs has =
    let old = device_of runs.1 in
    let now = spares_before old (device_of new) (failures_in events + 1) runs.3.4 has in
    (runs.0, runs.1, whole events runs.0 runs.1 runs.2 (omega (arith, now)), (runs.3.1, old.blocks + failures_in events, runs.3.2, runs.3.3, runs.3.4))
whole (CutInside update m ∷ events) t new runs has =
    (runs.0, runs.1, whole events runs.0 runs.1 runs.2 (spares_before (device_of runs.1) (device_of new) (failures_in events) runs.3.1.3 has), runs.3.1)
whole (CutBetween ∷ events) t new runs has =
    (runs.0, runs.1, whole events runs.0 runs.1 runs.2 (spares_before (device_of runs.1) (device_of new) (failures_in events) runs.3.2 has), runs.3)

-- the rest of the reserve has no versions
pub blank : (events : List Event) (t : Flash) (new : Core) → RunsOnReserve events t new → HasSpares (device_of new) (failures_in events) → (c : ℕ)
    → (device_of new).blocks + failures_in events ≤ c → HoldsNoVersion t c
blank [] t new runs has c le p s n v held = erased_holds_none s n v (sym (runs.0 c p) ∙ held)
blank (Completed update m ∷ events) t new runs has c le p s n v held =
    let old = device_of runs.1 in
    let now = spares_before old (device_of new) (failures_in events) runs.3.1.2 has in
    let before = whole events runs.0 runs.1 runs.2 now in
    let is = blocks_are (device_of new) old runs.3.1.2 in
    let same = untouched runs.0 t old m update.extent update.value (names_of runs.1 m runs.0 events before runs.3.0)
    (completes_cut runs.0 t m update.extent update.value runs.3.1.0) c p (omega (arith, le, is.0)) in
    blank events runs.0 runs.1 runs.2 now c (omega (arith, le, is.0)) p s n v (sym same ∙ held)
blank (Failed update m ∷ events) t new runs has c le p s n v held =
    let old = device_of runs.1 in
    let now = spares_before old (device_of new) (failures_in events + 1) runs.3.8 has in
    let before = whole events runs.0 runs.1 runs.2 (omega (arith, now)) in
    let is = blocks_are (device_of new) old runs.3.8 in
    let names = names_of runs.1 m runs.0 events before runs.3.0 in
    let within = changed_in_use old m runs.3.2 names runs.3.5 in
    let stays = swapped_other runs.3.2 (old.blocks + failures_in events) c (λ e. omega (arith, e, within, le, is.0)) (λ e. omega (arith, e, le, is.0)) in
    let same = untouched runs.0 runs.3.1 old m update.extent update.value names runs.3.4 c p (omega (arith, le, is.0)) in
    let left = sym (runs.3.6 c p) ∙ ((λ i. t (stays i) p) ∙ held) in
    blank events runs.0 runs.1 runs.2 (omega (arith, now)) c (omega (arith, le, is.0)) p s n v (sym same ∙ left)
blank (Retired update m ∷ events) t new runs has c le p s n v held =
    let old = device_of runs.1 in
    let now = spares_before old (device_of new) (failures_in events + 1) runs.3.4 has in
    let before = whole events runs.0 runs.1 runs.2 (omega (arith, now)) in
    let is = blocks_are (device_of new) old runs.3.4 in
    let names = names_of runs.1 m runs.0 events before runs.3.0 in
    let gone = runs.3.2 in
    let within = changed_in_use old m gone.block names gone.changes in
    let stays = swapped_other gone.block (old.blocks + failures_in events) c (λ e. omega (arith, e, within, le, is.0)) (λ e. omega (arith, e, le, is.0)) in
    let same = untouched runs.0 gone.failed old m update.extent update.value names gone.cut c p (omega (arith, le, is.0)) in
    let left = sym (gone.swap c p) ∙ ((λ i. t (stays i) p) ∙ held) in
    blank events runs.0 runs.1 runs.2 (omega (arith, now)) c (omega (arith, le, is.0)) p s n v (sym same ∙ left)
blank (CutInside update m ∷ events) t new runs has c le p s n v held =
    let old = device_of runs.1 in
    let now = spares_before old (device_of new) (failures_in events) runs.3.1.3 has in
    let before = whole events runs.0 runs.1 runs.2 now in
    let is = blocks_are (device_of new) old runs.3.1.3 in
    let same = untouched runs.0 t old m update.extent update.value (names_of runs.1 m runs.0 events before runs.3.0) runs.3.1.1 c p
    (omega (arith, le, is.0)) in
    blank events runs.0 runs.1 runs.2 now c (omega (arith, le, is.0)) p s n v (sym same ∙ held)
blank (CutBetween ∷ events) t new runs has c le p s n v held =
    let old = device_of runs.1 in
    let now = spares_before old (device_of new) (failures_in events) runs.3.2 has in
    let is = blocks_are (device_of new) old runs.3.2 in
    blank events runs.0 runs.1 runs.2 now c (omega (arith, le, is.0)) p s n v ((λ i. sym runs.3.0 i c p) ∙ held)

-- one more failure can be mounted
pub one_more : (events : List Event) (f left t : Flash) (core : Core) (update : Update) (m : Command) (b : ℕ) → RunsOnReserve events f core
    → HasSpares (device_of core) (failures_in events + 1) → IsSafe core m → SurvivesCut core update.extent m
    → CutLeaves m update.extent update.value f left → Changes m b → IsSwapped left t b ((device_of core).blocks + failures_in events)
    → IsRecoverable t (device_of core) (acknowledged_in events) (update ∷ begun_in events)
one_more events f left t core update m b runs has safe survives cut changes swap =
    let device = device_of core in
    let acked = acknowledged_in events in
    let begun = update ∷ begun_in events in
    let spare = device.blocks + failures_in events in
    let before = whole events f core runs (omega (arith, has)) in
    let names = names_of core m f events before safe in
    let within = changed_in_use device m b names changes in
    let consistent = runs_consistent events f core before in
    let is = readable left device acked begun (survives f left update.value acked (begun_in events) consistent cut) in
    let anew = renumbered left t b spare device.read_blocks (omega (arith, within, has)) (omega (arith, has)) swap in
    blank_recoverable t device acked begun (readable_renumbered left t device device acked begun anew (refl, refl, refl) is) (
      b,
      within,
      λ p s n v held. blank events f core runs (omega (arith, has)) spare (omega arith) p s n v
          (sym (untouched f left device m update.extent update.value names cut spare p (omega arith))
          ∙ (sym (swap spare p) ∙ ((λ i. t (swapped_second b spare i) p) ∙ held))),
    )
