-- What each call keeps of the promise.
use Rattle.std.proofs.Common.{◌≡◌, ◌⊎◌, inl, inr, ⊎_elim, ◌+◌, ◌-◌, ◌*◌, ◌<◌, ◌≤◌, ◌^◌, ℕ, Bool, List, [], ◌∷◌, length, Option, None, Some, get_or}
use Rattle.std.proofs.Common.{refl, sym, ◌∙◌, ap, subst, arith}
use Rattle.std.proofs.lemmas.Bool.{cases_eq}
use Rattle.std.proofs.lemmas.List.{length-set}
use Rattle.geometry.specs.Sectors.{Sector}
use Rattle.geometry.specs.declared.page_addr.PageAddr.{PageAddr}
use Rattle.durable.specs.declared.extent.Extent.{Extent}
use Rattle.durable.specs.declared.command.Command.{Command}
use Rattle.durable.specs.declared.command.Command.TheVariants.{Program, Copy, Erase, Refused}
use Rattle.durable.specs.declared.memory.Core.{Core}
use Rattle.durable.specs.declared.mount.Mount.{Mount}
use Rattle.durable.specs.Updates.{IsSubsequence, LiesWithin, Update, array_after, changed}
use Rattle.durable.specs.Flash.{PageContents, Torn, Version, Flash, HasVersion, RecoversSector, Recovers, SetsPage, IsErased}
use Rattle.durable.specs.Commands.{Completes, CutLeaves, IsAllowed, IsSameFlash, updates_with}
use Rattle.durable.specs.Device.{Device, device_of, device_in, NamesOn, IsWrittenOn}
use Rattle.durable.specs.Memory.{Represents}
use Rattle.durable.specs.Choice.{IsNextCommand}
use Rattle.durable.specs.Candidates.{AreNeeded, IsEntryOf, IsFreeable}
use Rattle.durable.specs.declared.next_pages.NextPages.{NextPages}
use Rattle.durable.specs.Collecting.{IsFree, IsOpenAt}
use Rattle.durable.specs.Mounting.{IsRead}
use Rattle.durable.specs.Spare.{CanFree, IsDuplicated, LeavesSpare}
use Rattle.durable.specs.Failures.{IsRenumbered, HasVersionlessBlock, IsSameFlashOf}
use Rattle.durable.specs.Promise.{KeepsAcknowledged, IsReadable, IsRecoverable, IsConsistent}
use Rattle.durable.specs.Calls.{IsSafe, SurvivesCut, SurvivesIdleCut, Acknowledges, HasNoted}
use Rattle.durable.specs.Retiring.{updates_left}
use Rattle.durable.specs.Runs.{Event, Completed, Failed, Retired, CutInside, CutBetween, IsMountedFrom, Runs, acknowledged_in, begun_in}
use Rattle.durable.proofs.Cells.{same_held, torn_holds_none, erased_holds_none, erased_has_none, erased_loses}
use Rattle.durable.proofs.Moments.{erased_next, source_shows, same_mounts, lost_mounts, torn_mounts, programmed_mounts, copied_mounts}
use Rattle.durable.proofs.Opened.{NoneOpen, is_open}
use Rattle.durable.proofs.Done.{Becomes, BecomesCore, array_with, represents_after}
use Rattle.durable.proofs.Spares.{cut_spare, spare_after, same_spare}
use Rattle.durable.specs.declared.found.Candidate.{Candidate}
use Rattle.durable.proofs.Kept.{Keeps, keeps, finished}
use Rattle.durable.proofs.Subsequences.{made_or_not, without_first}
use Rattle.durable.proofs.Frees.{duplicated_freeable, spares}

-- what success leaves is one of the things that a power cut may leave
pub completes_cut : (f t : Flash) (m : Command) (s : Extent) (x : Sector) → Completes m s x f t → CutLeaves m s x f t
completes_cut f t (Program at n) s x does = inr (inr does)
completes_cut f t (Copy k from to) s x does = inr (inr does)
completes_cut f t (Erase b) s x does = erased_loses f t b does.0 does.1
completes_cut f t Refused s x does = does

module _ (f t : Flash) (core : Core) (array : ℕ → Sector) (stands : Represents f core array) (written : IsWrittenOn (device_of core) f) where
  same_written : IsSameFlash f t → IsWrittenOn (device_of core) t
  same_written same = λ d q s m v e. written d q s m v (sym (same d q) ∙ e)

  set_written : (at : PageAddr) (x : PageContents) → IsOpenAt core.next_pages at
      → ((s : Extent) (m : ℕ) (v : Sector) → x ≡ Version s m v → LiesWithin (length core.map.items) s × (m + 1 < 2 ^ 64)) → SetsPage f t at.block at.page x
      → IsWrittenOn (device_of core) t
  set_written at x is good puts = λ d q s m v e. ⊎_elim
      (λ h. let on = core.on_device at is in let place = place_of d q s m v e h in (
        omega (arith, on.0, place.0, core.all_read),
        omega (arith, on.1, place.1),
        (good s m v h.0).0,
        (good s m v h.0).1,
      ))
      (λ h. written d q s m v h)
      (here_or_before d q s m v e)
    where
      here_or_before : (d q : ℕ) (s : Extent) (m : ℕ) (v : Sector) → t d q ≡ Version s m v
          → ((x ≡ Version s m v) × (d ≡ at.block) × (q ≡ at.page)) ⊎ (f d q ≡ Version s m v)
      here_or_before d q s m v e = ⊎_elim
          (λ b. ⊎_elim
          (λ p. inl (sym puts.put ∙ ((λ i. t (sym b i) (sym p i)) ∙ e), b, p))
          (λ differs. inr (sym (puts.others d q (inr differs)) ∙ e))
          (cases_eq q at.page))
          (λ differs. inr (sym (puts.others d q (inl differs)) ∙ e))
          (cases_eq d at.block)

      place_of : (d q : ℕ) (s : Extent) (m : ℕ) (v : Sector) → t d q ≡ Version s m v → (x ≡ Version s m v) × (d ≡ at.block) × (q ≡ at.page)
          → (d ≡ at.block) × (q ≡ at.page)
      place_of d q s m v e h = (h.1, h.2)

  pub cut_written : (s : Extent) (x : Sector) (m : Command) → LiesWithin (length core.map.items) s → IsNextCommand core m → CutLeaves m s x f t
      → IsWrittenOn (device_of core) t
  cut_written s x (Program at n) lt next cut = ⊎_elim same_written (λ more. ⊎_elim
      (set_written at Torn (is_open core.next_pages at next.0) (λ r m v e. absurd (torn_holds_none r m v e)))
      (set_written at (Version s n x) (is_open core.next_pages at next.0) (λ r m v e. let is = same_held s n x r m v e in
      (subst (LiesWithin (length core.map.items)) is.0 lt, omega (arith, is.1, next.2)))) more) cut
  cut_written s x (Copy k from to) lt next cut = ⊎_elim same_written (λ more. ⊎_elim
      (set_written to Torn (inr next.0) (λ r m v e. absurd (torn_holds_none r m v e)))
      (set_written to (f from.block from.page) (inr next.0) (λ r m v e. let w = written from.block from.page r m v e in (w.2, w.3))) more) cut
  cut_written s x (Erase b) lt next cut = λ d q r m v e. written d q r m v (cut.within d q r m v e)
  cut_written s x Refused lt next cut = same_written cut

  -- a power cut leaves the array from before the call, or from after it
  cut_recovers : (s : Extent) (x : Sector) (m : Command) → IsNextCommand core m → CutLeaves m s x f t
      → Recovers t (length core.map.items) array ⊎ Recovers t (length core.map.items) (changed array s x)
  cut_recovers s x (Program at n) next cut = ⊎_elim (λ same. inl (same_mounts f t core array stands same)) (λ more. ⊎_elim
      (λ torn. inl (torn_mounts f t core array stands at (is_open core.next_pages at next.0) torn))
      (λ put. inr (programmed_mounts f t core array stands at (is_open core.next_pages at next.0) s n x next.1 put)) more) cut
  cut_recovers s x (Copy k from to) next cut = ⊎_elim (λ same. inl (same_mounts f t core array stands same)) (λ more. ⊎_elim
      (λ torn. inl (torn_mounts f t core array stands to (inr next.0) torn))
      (λ put. inl (copied_mounts f t core array stands to from (inr next.0) put)) more) cut
  cut_recovers s x (Erase b) next cut = inl (lost_mounts f t core array stands b next.2 cut)
  cut_recovers s x Refused next cut = inl (same_mounts f t core array stands cut)

  -- the commands name what lies on the device, and program erased pages
  pub names : (m : Command) → IsNextCommand core m → NamesOn (device_of core) m × IsAllowed f m
  names (Program at n) next =
      let opened = is_open core.next_pages at next.0 in (core.on_device at opened, erased_next f t core array stands at opened)
  names (Copy k from to) next =
      let source = source_shows f t core array stands k from next.1 next.2 in
      let w = written from.block from.page source.held.0 source.number (array k) source.held.1 in
      (((w.0, w.1), core.on_device to (inr next.0)), erased_next f t core array stands to (inr next.0))
  names (Erase b) next = (next.1, tt)
  names Refused next = (tt, tt)

pub is_safe : (core : Core) (m : Command) → IsNextCommand core m → IsSafe core m
is_safe core m next f acked begun consistent = names f f core (array_after consistent.updates) consistent.represents consistent.written m next

pub survives_cut : (core : Core) (s : Extent) (m : Command) → LiesWithin (length core.map.items) s → IsNextCommand core m → SurvivesCut core s m
survives_cut core s m lt next f t x acked begun is cut =
    let array = array_after is.updates in
    let update : Update = record { extent = s; value = x } in
    record {
      keeps = ⊎_elim
          (λ before. record { updates = is.updates; includes = is.includes; included = inl is.included; recovers = before })
          (λ after. record { updates = update ∷ is.updates; includes = inl is.includes; included = inr (is.updates, refl, is.included); recovers = after })
          (cut_recovers f t core array is.represents is.written s x m next cut);
      written = cut_written f t core array is.represents is.written s x m lt next cut;
      spare = cut_spare f t core array is.represents is.spare s x m next cut;
    }

pub survives_idle_cut : (core : Core) → SurvivesIdleCut core
survives_idle_cut core f acked begun is = record {
  keeps = record {
    updates = is.updates;
    includes = is.includes;
    included = is.included;
    recovers = same_mounts f f core (array_after is.updates) is.represents (λ b p. refl);
  };
  written = is.written;
  spare = same_spare f f core (array_after is.updates) is.represents is.spare (λ b p. refl);
}

-- the device has the same sizes
written_on : (t : Flash) (old new : Device) → new ≡ old → IsWrittenOn old t → IsWrittenOn new t
written_on t old new same = subst (λ (d : Device). IsWrittenOn d t) (sym same)

size_after : (core : Core) (s : Extent) (m : Command) (map : List (Option PageAddr)) (number : ℕ) (next : NextPages) → Becomes core s m map number next
    → length map ≡ length core.map.items
size_after core s (Program at n) map number next becomes = becomes.0.size
size_after core s (Copy k from to) map number next becomes = ap length becomes.0 ∙ length-set core.map.items k (Some to)
size_after core s (Erase b) map number next becomes = ap length becomes.0
size_after core s Refused map number next becomes = ap length becomes.0

same_device : (old new : Core) → new.blocks ≡ old.blocks → new.read_blocks ≡ old.read_blocks → new.pages ≡ old.pages
    → length new.map.items ≡ length old.map.items → device_of new ≡ device_of old
same_device old new blocks read pages sectors = λ i. record { blocks = blocks i; read_blocks = read i; pages = pages i; sectors = sectors i }

pub acknowledges : (core new : Core) (s : Extent) (m : Command) → LiesWithin (length core.map.items) s → IsNextCommand core m → BecomesCore core s m new
    → new.blocks ≡ core.blocks
    → new.read_blocks ≡ core.read_blocks → new.pages ≡ core.pages → Acknowledges core s m new
acknowledges core new s m lt next becomes blocks read pages f t x acked begun is does =
    let size = size_after core s m new.map.items new.next_number new.next_pages becomes in
    acknowledged m next becomes does
    (represents_after f t core new (array_after is.updates) is.represents s x m next does becomes)
    (written_on t (device_of core) (device_of new) (same_device core new blocks read pages size)
    (cut_written f t core (array_after is.updates) is.represents is.written s x m lt next (completes_cut f t m s x does)))
    (spare_after f t core new (array_after is.updates) is.represents is.spare blocks s x m next does becomes)
  where
    update : Update
    update = record { extent = s; value = x }

    acknowledged : (m : Command) → IsNextCommand core m → BecomesCore core s m new → Completes m s x f t
        → Represents t new (array_with m (array_after is.updates) s x)
        → IsWrittenOn (device_of new) t → LeavesSpare t new → IsConsistent t new (updates_with m update acked) (updates_with m update begun)
    acknowledged (Program at n) next becomes does represents written spare = record {
      updates = update ∷ is.updates;
      includes = inr (acked, refl, is.includes);
      included = inr (is.updates, refl, is.included);
      represents = represents;
      written = written;
      spare = spare;
    }
    acknowledged (Copy k from to) next becomes does represents written spare =
        record { updates = is.updates; includes = is.includes; included = is.included; represents = represents; written = written; spare = spare }
    acknowledged (Erase b) next becomes does represents written spare =
        record { updates = is.updates; includes = is.includes; included = is.included; represents = represents; written = written; spare = spare }
    acknowledged Refused next becomes does represents written spare =
        record { updates = is.updates; includes = is.includes; included = is.included; represents = represents; written = written; spare = spare }

pub readable : (f : Flash) (device : Device) (acked begun : List Update) → IsRecoverable f device acked begun → IsReadable f device acked begun
readable f device acked begun is = record { keeps = is.keeps; written = is.written }

module _ (mount : Mount) (at_end : mount.read_blocks ≤ mount.block) (f : Flash) (acked begun : List Update) (noted : HasNoted f mount)
    (is : IsReadable f (device_in mount) acked begun) (kept : List (Option Candidate))
    (needed : AreNeeded mount.valued.items mount.found.items kept) where
  all_read : (d q : ℕ) (s : Extent) (m : ℕ) (v : Sector) → f d q ≡ Version s m v → IsRead mount.pages mount.block mount.page d q
  all_read d q s m v e = let w = is.written d q s m v e in (w.1, inl (omega (arith, w.0, at_end)))

  are : Keeps f mount.pages mount.block mount.page kept
  are = keeps f mount.pages mount.block mount.page mount.valued.items mount.found.items kept noted.values needed mount.next_number
      noted.finds all_read

  recovered : Recovers f (length kept) (array_after is.keeps.updates)
  recovered = subst (λ (n : ℕ). Recovers f n (array_after is.keeps.updates)) (sym needed.0) is.keeps.recovers

  pub some_freeable : CanFree f mount.blocks (length mount.found.items) → ((b : ℕ) → b < mount.blocks → IsFreeable [] kept b → ⊥) → ⊥
  some_freeable spare none = none spare.0 spare.1 (duplicated_freeable f (array_after is.keeps.updates) mount.pages mount.block mount.page kept are all_read
      recovered spare.0 (subst (λ (n : ℕ). IsDuplicated f n spare.0) (sym needed.0) spare.2))

  pub remounted : (core : Core) (avoided : ℕ) → core.blocks ≡ mount.blocks → core.read_blocks ≡ mount.read_blocks
      → core.pages ≡ mount.pages → length core.map.items ≡ length kept
      → ((s : ℕ) → s < length kept → IsEntryOf (get_or kept s None) (get_or core.map.items s None))
      → NoneOpen core.next_pages → core.next_number ≡ mount.next_number → avoided < core.blocks → IsFree core.map.items avoided
      → IsConsistent f core acked begun
  remounted core avoided blocks read pages size entries closed number lt free =
      let same : device_of core ≡ device_in mount =
      λ i. record { blocks = blocks i; read_blocks = read i; pages = pages i; sectors = (size ∙ needed.0) i } in
      record {
        updates = is.keeps.updates;
        includes = is.keeps.includes;
        included = is.keeps.included;
        represents = finished f mount.pages mount.block mount.page kept are (array_after is.keeps.updates) mount.next_number core noted.finds.numbers all_read
            recovered size entries closed number;
        written = written_on f (device_in mount) (device_of core) same is.written;
        spare = spares f core avoided closed lt free;
      }

-- an erased flash can be mounted
pub erased_recoverable : (f : Flash) (device : Device) → IsErased f → 0 < device.blocks → IsRecoverable f device [] []
erased_recoverable f device erased some =
    record {
      keeps = record {
        updates = [];
        includes = refl;
        included = refl;
        recovers = λ s lt. inr (
          refl,
          λ b p m v. erased_has_none f b p s m (Some v)
              (erased b p),
        );
      };
      written = λ b p s m v e. absurd (erased_holds_none s m v (sym (erased b p) ∙ e));
      spare = (0, some, λ s p v lt shows. absurd (erased_has_none f 0 p s shows.newest.number v (erased 0 p) shows.newest.held));
    }

-- a device with room has blocks
pub some_blocks : (blocks pages sectors : ℕ) → sectors < (blocks - 1) * pages → 0 < blocks
some_blocks blocks pages sectors few = ⊎_elim
    (λ is. absurd (omega (arith, subst (λ (b : ℕ). sectors < (b - 1) * pages) is few)))
    (λ differs. omega (arith, differs))
    (cases_eq blocks 0)

-- a flash that can be read, and has a block without versions in use, can be mounted
pub blank_recoverable : (f : Flash) (device : Device) (acked begun : List Update) → IsReadable f device acked begun → HasVersionlessBlock f device
    → IsRecoverable f device acked begun
blank_recoverable f device acked begun is blank = record {
  keeps = is.keeps;
  written = is.written;
  spare = (blank.0, blank.1, λ s p v lt shows. absurd (blank.2 p shows.newest.held.0 shows.newest.number v shows.newest.held.1));
}

-- blocks that are numbered anew hold what they held
module _ (f t : Flash) (blocks : ℕ) (renumbered : IsRenumbered f t blocks) where
  pub held_before : (c q : ℕ) (s : Extent) (m : ℕ) (v : Sector) → t c q ≡ Version s m v → f (renumbered.from c) q ≡ Version s m v
  held_before c q s m v e = sym (renumbered.moved (renumbered.from c) q) ∙ ((λ i. t (renumbered.inverse c i) q) ∙ e)

  pub version_before : (c q s m : ℕ) (v : Sector) → HasVersion t c q s m v → HasVersion f (renumbered.from c) q s m v
  version_before c q s m v held = (held.0, held_before c q held.0 m v held.1, held.2)

  sector_renumbered : (s : ℕ) (value : Sector) → RecoversSector f s value → RecoversSector t s value
  sector_renumbered s value (inl shown) = inl (
    renumbered.to shown.0,
    shown.1,
    record {
      number = shown.2.number;
      held = (shown.2.held.0, renumbered.moved shown.0 shown.1 ∙ shown.2.held.1, shown.2.held.2);
      newest = λ c q m v e. shown.2.newest (renumbered.from c) q m v (version_before c q s m v e);
    },
  )
  sector_renumbered s value (inr none) = inr (none.0, λ c q m bytes e. none.1 (renumbered.from c) q m bytes (version_before c q s m (Some bytes) e))

  pub written_renumbered : (old new : Device) → IsSameFlashOf old new → old.read_blocks ≡ blocks → IsWrittenOn old f → IsWrittenOn new t
  written_renumbered old new same all written = λ c q s m v e.
      let w = written (renumbered.from c) q s m v (held_before c q s m v e) in
      let within = renumbered.within (renumbered.from c) (omega (arith, w.0, all)) in (
        omega (arith, within, renumbered.inverse c, all, same.0),
        omega (arith, w.1, same.1),
        subst (λ (n : ℕ). LiesWithin n s) (sym same.2) w.2,
        w.3,
      )

  pub keeps_renumbered : (sectors now : ℕ) (acked begun : List Update) → now ≡ sectors → KeepsAcknowledged f sectors acked begun
      → KeepsAcknowledged t now acked begun
  keeps_renumbered sectors now acked begun same keeps = record {
    updates = keeps.updates;
    includes = keeps.includes;
    included = keeps.included;
    recovers = λ s lt. sector_renumbered s (array_after keeps.updates s) (keeps.recovers s (omega (arith, lt, same)));
  }

pub readable_renumbered : (f t : Flash) (old new : Device) (acked begun : List Update) → IsRenumbered f t old.read_blocks → IsSameFlashOf old new
    → IsReadable f old acked begun → IsReadable t new acked begun
readable_renumbered f t old new acked begun renumbered same is = record {
  keeps = keeps_renumbered f t old.read_blocks renumbered old.sectors new.sectors acked begun same.2 is.keeps;
  written = written_renumbered f t old.read_blocks renumbered old new same refl is.written;
}

-- whole runs
pub readable_on : (f : Flash) (old new : Device) (acked begun : List Update) → new ≡ old → IsReadable f old acked begun → IsReadable f new acked begun
readable_on f old new acked begun same = subst (λ (d : Device). IsReadable f d acked begun) (sym same)

pub remounts : (f : Flash) (device : Device) (new : Core) (acked begun : List Update) → IsMountedFrom f new → device_of new ≡ device
    → IsReadable f device acked begun
    → IsConsistent f new acked begun
remounts f device new acked begun from same is =
    from.3 f acked begun from.1 (readable_on f device (device_in from.0) acked begun (sym from.2 ∙ same) is)

-- an update whose command has failed is begun, whether it was made or not
begun_only : (left : Bool) (m : Command) (update : Update) (t : Flash) (new : Core) (acked begun : List Update)
    → IsConsistent t new (updates_left left m update acked) (updates_left left m update begun) → IsConsistent t new acked (update ∷ begun)
begun_only left m update t new acked begun is = record {
  updates = is.updates;
  includes = ⊎_elim
      (λ same. subst (λ (us : List Update). IsSubsequence us is.updates) same is.includes)
      (λ made. without_first update acked is.updates (subst (λ (us : List Update). IsSubsequence us is.updates) made is.includes))
      (made_or_not left m update acked);
  included = ⊎_elim
      (λ same. inl (subst (λ (us : List Update). IsSubsequence is.updates us) same is.included))
      (λ made. subst (λ (us : List Update). IsSubsequence is.updates us) made is.included)
      (made_or_not left m update begun);
  represents = is.represents;
  written = is.written;
  spare = is.spare;
}

pub runs_consistent : (events : List Event) (f : Flash) (core : Core) → Runs events f core → IsConsistent f core (acknowledged_in events) (begun_in events)
runs_consistent [] f core runs = runs.1.3 f [] [] runs.1.1 (readable f (device_in runs.1.0) [] [] (erased_recoverable f (device_in runs.1.0) runs.0
    (some_blocks runs.1.0.blocks runs.1.0.pages (length runs.1.0.found.items) runs.1.0.has_capacity)))
runs_consistent (Completed update m ∷ events) t new runs =
    let is = runs_consistent events runs.0 runs.1 runs.2 in
    runs.3.1 runs.0 t update.value (acknowledged_in events) (begun_in events) is runs.3.0
runs_consistent (Failed update m ∷ events) t new runs =
    let is = runs_consistent events runs.0 runs.1 runs.2 in
    let begun = update ∷ begun_in events in
    let left = runs.3.1 runs.0 runs.3.0 update.value (acknowledged_in events) (begun_in events) is runs.3.2 in
    remounts t (device_of new) new (acknowledged_in events) begun runs.3.4 refl
    (readable_renumbered runs.3.0 t (device_of runs.1) (device_of new) (acknowledged_in events) begun runs.3.3 runs.3.5
    (readable runs.3.0 (device_of runs.1) (acknowledged_in events) begun left))
runs_consistent (Retired update m ∷ events) t new runs =
    let is = runs_consistent events runs.0 runs.1 runs.2 in
    begun_only runs.3.0 m update t new (acknowledged_in events) (begun_in events)
    (runs.3.3 runs.0 t update.value (acknowledged_in events) (begun_in events) is runs.3.2)
runs_consistent (CutInside update m ∷ events) t new runs =
    let is = runs_consistent events runs.0 runs.1 runs.2 in
    let begun = update ∷ begun_in events in
    remounts t (device_of runs.1) new (acknowledged_in events) begun runs.3.2 runs.3.3
    (readable t (device_of runs.1) (acknowledged_in events) begun
    (runs.3.0 runs.0 t update.value (acknowledged_in events) (begun_in events) is runs.3.1))
runs_consistent (CutBetween ∷ events) t new runs =
    let is = runs_consistent events runs.0 runs.1 runs.2 in
    remounts t (device_of runs.1) new (acknowledged_in events) (begun_in events) runs.3.1 runs.3.2
    (readable t (device_of runs.1) (acknowledged_in events) (begun_in events)
    (subst (λ (g : Flash). IsRecoverable g (device_of runs.1) (acknowledged_in events) (begun_in events)) (sym runs.3.0)
    (survives_idle_cut runs.1 runs.0 (acknowledged_in events) (begun_in events) is)))

pub runs_keep : (events : List Event) (f : Flash) (core : Core) → Runs events f core
    → KeepsAcknowledged f (device_of core).sectors (acknowledged_in events) (begun_in events)
runs_keep events f core runs = (survives_idle_cut core f (acknowledged_in events) (begun_in events) (runs_consistent events f core runs)).keeps
