-- In a run that loses no page, each mount tells no loss.
use Rattle.std.proofs.Common.{◌≡◌, ◌<◌, ◌∙◌, ℕ, List, [], ◌∷◌, length, Some, refl, sym, ap, subst, arith}
use Rattle.geometry.specs.Sectors.{Sector}
use Rattle.durable.specs.declared.memory.Core.{Core}
use Rattle.durable.specs.Updates.{Update}
use Rattle.durable.specs.Flash.{Flash, HoldsNeeded, HoldsNewest, IsErased}
use Rattle.durable.specs.Device.{Device, device_of, device_in, losses_of}
use Rattle.durable.specs.Failures.{HasVersionlessBlock, IsRenumbered}
use Rattle.durable.specs.Losses.{IsGapless, version_count}
use Rattle.durable.specs.Promise.{IsReadable, IsRecoverable}
use Rattle.durable.specs.Runs.{Event, Completed, Failed, Retired, CutInside, CutBetween, Runs, acknowledged_in, begun_in}
use Rattle.durable.specs.Whole.{IsUnharmed, KeepsWhole, IsMountedWhole, RunsWhole}
use Rattle.durable.proofs.Cells.{erased_has_none}
use Rattle.durable.proofs.Promises.{readable, readable_on, readable_renumbered, erased_recoverable, some_blocks, survives_idle_cut, runs_consistent}
use Rattle.durable.proofs.Promises.{version_before}

-- an erased flash has lost no page
pub erased_unharmed : (f : Flash) (device : Device) → IsErased f → 0 < device.blocks → IsUnharmed f device
erased_unharmed f device erased some = record {
  no_loss = λ s b p v lt shows. absurd (erased_has_none f b p s shows.newest.number v (erased b p) shows.newest.held);
  spare = (0, some, λ s p v lt shows. absurd (erased_has_none f 0 p s shows.newest.number v (erased 0 p) shows.newest.held));
}

-- nor has one whose blocks are numbered anew, with one in use that has no version
module _ (f t : Flash) (blocks : ℕ) (renumbered : IsRenumbered f t blocks) where
  renumbered_whole : (b : ℕ) → IsGapless f b → IsGapless t (renumbered.to b)
  renumbered_whole b whole = λ p q s m v lt e. ap version_count (renumbered.moved b p) ∙ whole p q s m v lt (sym (renumbered.moved b q) ∙ e)

  renumbered_newest : (s : ℕ) (v : Sector) (b p : ℕ) → HoldsNewest f s v b p → HoldsNewest t s v (renumbered.to b) p
  renumbered_newest s v b p shows = record {
    number = shows.number;
    held = (shows.held.0, renumbered.moved b p ∙ shows.held.1, shows.held.2);
    newest = λ c q m w e. shows.newest (renumbered.from c) q m w (version_before f t blocks renumbered c q s m w e);
  }

  newest_before : (s : ℕ) (v : Sector) (c p : ℕ) → HoldsNewest t s v c p → HoldsNewest f s v (renumbered.from c) p
  newest_before s v c p shows = record {
    number = shows.number;
    held = version_before f t blocks renumbered c p s shows.number v shows.held;
    newest = λ b q m w e. shows.newest (renumbered.to b) q m w (e.0, renumbered.moved b q ∙ e.1, e.2);
  }

  needed_before : (s : ℕ) (v : Sector) (c p : ℕ) → HoldsNeeded t s v c p → HoldsNeeded f s v (renumbered.from c) p
  needed_before s v c p shows = record {
    newest = newest_before s v c p shows.newest;
    valued = let has = shows.valued in
        (renumbered.from has.0, has.1, has.2, has.3, version_before f t blocks renumbered has.0 has.1 s has.2 (Some has.3) has.4);
  }

  pub renumbered_unharmed : (old new : Device) → new.sectors ≡ old.sectors → HasVersionlessBlock t new → IsUnharmed f old → IsUnharmed t new
  renumbered_unharmed old new sectors blank unharmed = record {
    no_loss = λ s b p v lt shows.
        let there = unharmed.no_loss s (renumbered.from b) p v (omega (arith, lt, sectors)) (needed_before s v b p shows) in
        (renumbered.to there.0, there.1, there.2, renumbered_whole there.0 there.3, renumbered_newest s there.2 there.0 there.1 there.4);
    spare = (blank.0, blank.1, λ s p v lt shows. absurd (blank.2 p shows.newest.held.0 shows.newest.number v shows.newest.held.1));
  }

-- such a run is one of those that keep what was acknowledged
pub runs_of : (events : List Event) (f : Flash) (core : Core) → RunsWhole events f core → Runs events f core
runs_of [] f core runs = (runs.0, (runs.1.0, runs.1.1, runs.1.2, runs.1.3))
runs_of (Completed update m ∷ events) t new runs =
    (runs.0, runs.1, runs_of events runs.0 runs.1 runs.2, (runs.3.0, runs.3.1, runs.3.2))
runs_of (Failed update m ∷ events) t new runs =
    let mounted = runs.3.4 in (
      runs.0,
      runs.1,
      runs_of events runs.0 runs.1 runs.2,
      (runs.3.0, runs.3.1, runs.3.2, runs.3.3, (mounted.0, mounted.1, mounted.2, mounted.3), runs.3.5),
    )
runs_of (Retired update m ∷ events) t new runs =
    (runs.0, runs.1, runs_of events runs.0 runs.1 runs.2, (runs.3.0, runs.3.1, runs.3.2, runs.3.3, runs.3.4))
runs_of (CutInside update m ∷ events) t new runs =
    let mounted = runs.3.2 in
    (runs.0, runs.1, runs_of events runs.0 runs.1 runs.2, (runs.3.0, runs.3.1, (mounted.0, mounted.1, mounted.2, mounted.3), runs.3.3))
runs_of (CutBetween ∷ events) t new runs =
    let mounted = runs.3.1 in
    (runs.0, runs.1, runs_of events runs.0 runs.1 runs.2, (runs.3.0, (mounted.0, mounted.1, mounted.2, mounted.3), runs.3.2))

-- a mount of a flash that has lost no page
mounted : (f : Flash) (device : Device) (new : Core) (acked begun : List Update) → IsMountedWhole f new → device_of new ≡ device
    → IsReadable f device acked begun → IsUnharmed f device → KeepsWhole f new × (losses_of new ≡ 0)
mounted f device new acked begun from same is unharmed =
    let there : device_in from.0 ≡ device = sym from.2 ∙ same in
    from.4 f acked begun from.1 (readable_on f device (device_in from.0) acked begun there is)
    (subst (λ (d : Device). IsUnharmed f d) (sym there) unharmed)

pub runs_whole : (events : List Event) (f : Flash) (core : Core) → RunsWhole events f core → KeepsWhole f core × (losses_of core ≡ 0)
runs_whole [] f core runs =
    let mount = runs.1.0 in
    let some = some_blocks mount.blocks mount.pages (length mount.found.items) mount.has_capacity in
    mounted f (device_in mount) core [] [] runs.1 runs.1.2
    (readable f (device_in mount) [] [] (erased_recoverable f (device_in mount) runs.0 some))
    (erased_unharmed f (device_in mount) runs.0 some)
runs_whole (Completed update m ∷ events) t new runs =
    let before = runs_whole events runs.0 runs.1 runs.2 in
    let is = runs_consistent events runs.0 runs.1 (runs_of events runs.0 runs.1 runs.2) in
    (runs.3.3 runs.0 t update.value (acknowledged_in events) (begun_in events) is before.0 runs.3.0, runs.3.4 ∙ before.1)
runs_whole (Failed update m ∷ events) t new runs =
    let before = runs_whole events runs.0 runs.1 runs.2 in
    let is = runs_consistent events runs.0 runs.1 (runs_of events runs.0 runs.1 runs.2) in
    let begun = update ∷ begun_in events in
    let left = runs.3.1 runs.0 runs.3.0 update.value (acknowledged_in events) (begun_in events) is runs.3.2 in
    mounted t (device_of new) new (acknowledged_in events) begun runs.3.4 refl
    (readable_renumbered runs.3.0 t (device_of runs.1) (device_of new) (acknowledged_in events) begun runs.3.3 runs.3.5
    (readable runs.3.0 (device_of runs.1) (acknowledged_in events) begun left))
    (renumbered_unharmed runs.3.0 t (device_of runs.1).read_blocks runs.3.3 (device_of runs.1) (device_of new) runs.3.5.2 runs.3.7
    (runs.3.6 runs.0 runs.3.0 update.value (acknowledged_in events) (begun_in events) is before.0 runs.3.2))
runs_whole (Retired update m ∷ events) t new runs =
    let before = runs_whole events runs.0 runs.1 runs.2 in
    let is = runs_consistent events runs.0 runs.1 (runs_of events runs.0 runs.1 runs.2) in
    (runs.3.5 runs.0 t update.value (acknowledged_in events) (begun_in events) is before.0 runs.3.2, runs.3.6 ∙ before.1)
runs_whole (CutInside update m ∷ events) t new runs =
    let before = runs_whole events runs.0 runs.1 runs.2 in
    let is = runs_consistent events runs.0 runs.1 (runs_of events runs.0 runs.1 runs.2) in
    let begun = update ∷ begun_in events in
    mounted t (device_of runs.1) new (acknowledged_in events) begun runs.3.2 runs.3.3
    (readable t (device_of runs.1) (acknowledged_in events) begun
    (runs.3.0 runs.0 t update.value (acknowledged_in events) (begun_in events) is runs.3.1))
    (runs.3.4 runs.0 t update.value (acknowledged_in events) (begun_in events) is before.0 runs.3.1)
runs_whole (CutBetween ∷ events) t new runs =
    let before = runs_whole events runs.0 runs.1 runs.2 in
    let is = runs_consistent events runs.0 runs.1 (runs_of events runs.0 runs.1 runs.2) in
    mounted t (device_of runs.1) new (acknowledged_in events) (begun_in events) runs.3.1 runs.3.2
    (readable t (device_of runs.1) (acknowledged_in events) (begun_in events)
    (subst (λ (g : Flash). IsRecoverable g (device_of runs.1) (acknowledged_in events) (begun_in events)) (sym runs.3.0)
    (survives_idle_cut runs.1 runs.0 (acknowledged_in events) (begun_in events) is)))
    (subst (λ (g : Flash). IsUnharmed g (device_of runs.1)) (sym runs.3.0)
    (runs.3.3 runs.0 (acknowledged_in events) (begun_in events) is before.0))
