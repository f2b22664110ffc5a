-- What the steps of a driver leave.
use Rattle.std.proofs.Common.{◌≡◌, ◌≢◌, ◌⊎◌, inl, inr, ⊎_elim, ◌<◌, ◌≤◌, ◌+◌, ℕ, Bool, true, false, List, ◌∷◌, length, None, Some}
use Rattle.std.proofs.Common.{Result, if◌then◌else◌, refl, sym, ◌∙◌, ap, subst, arith}
use Rattle.std.proofs.lemmas.Bool.{cases_eq, false≢true}
use Rattle.geometry.specs.Sectors.{Sector}
use Rattle.geometry.specs.declared.page_addr.PageAddr.{PageAddr}
use Rattle.durable.specs.declared.command.Command.{Command}
use Rattle.durable.specs.declared.command.Command.TheVariants.{Program, Copy, Erase, Refused}
use Rattle.durable.specs.declared.extent.Extent.{Extent}
use Rattle.durable.specs.declared.memory.Core.{Core}
use Rattle.durable.specs.Calls.{Acknowledges}
use Rattle.durable.specs.Choice.{IsNextCommand}
use Rattle.durable.specs.Collecting.{IsFree, live_in}
use Rattle.durable.specs.Commands.{Completes, CutLeaves, IsSameFlash, is_program, updates_with}
use Rattle.durable.specs.Device.{Device, device_of, losses_of}
use Rattle.durable.specs.Failures.{Changes, HoldsNoVersion, swapped}
use Rattle.durable.specs.Flash.{Flash, HoldsNewest, HoldsNoValue, LosesPages, Erased, PageContents, RecoversSector, SetsPage, Torn, Version, is_trim}
use Rattle.durable.specs.Memory.{IsMappedTo, Represents, map_entry}
use Rattle.durable.specs.Next.{HasFree}
use Rattle.durable.specs.Promise.{IsConsistent, IsRecoverable}
use Rattle.durable.specs.Retiring.{HasLeftVersion, Retires, updates_left}
use Rattle.durable.specs.Updates.{Covers, LiesWithin, Update, array_after, changed, is_covered}
use Rattle.durable.proofs.Cells.{erased_holds_none, kept_in_loss, reads_kept, same_held, torn_holds_none}
use Rattle.durable.proofs.Extents.{cases_covered, changed_elsewhere, changed_here}
use Rattle.durable.proofs.Moments.{copied_kept, erased_next, torn_kept}
use Rattle.durable.proofs.Opened.{is_open, none_or_some, none_some, some_free, some_not_none, some_same}
use Rattle.durable.proofs.Promises.{completes_cut, is_safe, survives_cut, survives_idle_cut}
use Rattle.durable.proofs.Reserves.{swapped_first, swapped_other, swapped_twice, untouched}
use Rattle.durable.proofs.Retired.{block_in_use}
use Rattle.durable.proofs.Subsequences.{all_of, between_next}
use Rattle.nand.specs.declared.driver.Driver.{Driver}
use Rattle.nand.specs.declared.driver.Job.{Job}
use Rattle.nand.specs.declared.driver.Refusal.{Refusal}
use Rattle.nand.specs.declared.driver.Main.{Main}
use Rattle.nand.specs.declared.driver.Main.TheVariants as main
use Rattle.nand.specs.Driving.{CanMount, HasSector, HoldsIn, IsOneToOne, can_read, IsJob, IsJobBy, IsStillGood, IsMain}
use Rattle.nand.specs.Driving.{IsMoving, IsMovingOf, Knows}
use Rattle.nand.specs.Driving.{StaysDriver, StepChanges, StepCompletes, StepCutLeaves, array_now, is_made, step_for, value_unless}
use Rattle.std.proofs.Math.Logic.{∥∥₁_elim}
use Rattle.std.proofs.Props.{props}
use Rattle.std.proofs.lemmas.Grind.{merely}
use Rattle.durable.proofs.Known.{known}
use Rattle.nand.specs.Phases.{IsPhaseOf}
use Rattle.nand.specs.declared.driver.Phase.{Phase}
use Rattle.nand.specs.declared.driver.Phase.TheVariants as phase
use Rattle.nand.specs.Nand.{IsNoVersion, ReadsStamp}
use Rattle.nand.specs.Numbers.{chip_block, chip_page, numbered}
use Rattle.nand.specs.declared.flash.Reading.{Reading}
use Rattle.nand.specs.declared.flash.Reading.TheVariants as outcome
use Rattle.nand.specs.declared.flash.Stamp.{Stamp}
use Rattle.nand.proofs.Readings.{has_version}
use Rattle.nand.proofs.Steps.{adds, array_is, keeps}

-- a page or block of the chip, by the driver's numbers
module _ (numbers : List ℕ) (apart : IsOneToOne numbers) (f t : Flash) where
  same_numbered : IsSameFlash f t → IsSameFlash (numbered numbers f) (numbered numbers t)
  same_numbered same = λ b p. same (chip_block numbers b) p

  set_numbered : (b p : ℕ) (x : PageContents) → SetsPage f t (chip_block numbers b) p x → SetsPage (numbered numbers f) (numbered numbers t) b p x
  set_numbered b p x puts = record {
    put = puts.put;
    others = λ c q differs. puts.others (chip_block numbers c) q (⊎_elim (λ other. inl (λ e. other (apart c b e))) (λ other. inr other) differs);
  }

  pub loses_numbered : (b : ℕ) → LosesPages f t (chip_block numbers b) → LosesPages (numbered numbers f) (numbered numbers t) b
  loses_numbered b loses = record {
    within = λ c p e m v is. loses.within (chip_block numbers c) p e m v is;
    outside = λ c p differs. loses.outside (chip_block numbers c) p (λ e. differs (apart c b e));
  }

  pub program_cut : (at : PageAddr) (n : ℕ) (s : Extent) (v : Sector) → CutLeaves (Program (chip_page numbers at) n) s v f t
      → CutLeaves (Program at n) s v (numbered numbers f) (numbered numbers t)
  program_cut at n s v cut = ⊎_elim
      (λ same. inl (same_numbered same))
      (λ more. inr (⊎_elim
      (λ torn. inl (set_numbered at.block at.page Torn torn))
      (λ puts. inr (set_numbered at.block at.page (Version s n v) puts))
      more))
      cut

  copy_cut : (from to : PageAddr) (x : PageContents)
      → IsSameFlash f t ⊎ SetsPage f t (chip_block numbers to.block) to.page Torn ⊎ SetsPage f t (chip_block numbers to.block) to.page x
      → IsSameFlash (numbered numbers f) (numbered numbers t) ⊎ SetsPage (numbered numbers f) (numbered numbers t) to.block to.page Torn
      ⊎ SetsPage (numbered numbers f) (numbered numbers t) to.block to.page x
  copy_cut from to x cut = ⊎_elim
      (λ same. inl (same_numbered same))
      (λ more. inr (⊎_elim (λ torn. inl (set_numbered to.block to.page Torn torn)) (λ puts. inr (set_numbered to.block to.page x puts)) more))
      cut

  -- what a step for a command leaves, for the layer
  pub numbered_cut : (m : Command) (job : Job) (value v : Sector) → ((x : Sector) → IsMain f job.main value x → value_unless job.trimmed x ≡ v)
      → StepCutLeaves (step_for numbers m job) value f t → CutLeaves m job.extent v (numbered numbers f) (numbered numbers t)
  numbered_cut (Program at n) job value v is cut = program_cut at n job.extent v
      (subst (λ (x : Sector). CutLeaves (Program (chip_page numbers at) n) job.extent x f t) (is cut.0 cut.1) cut.2)
  numbered_cut (Copy k from to) job value v is cut = copy_cut from to (numbered numbers f from.block from.page) cut
  numbered_cut (Erase b) job value v is cut = loses_numbered b cut
  numbered_cut Refused job value v is cut = same_numbered cut

  pub numbered_done : (m : Command) (job : Job) (value v : Sector) → ((x : Sector) → IsMain f job.main value x → value_unless job.trimmed x ≡ v)
      → StepCompletes (step_for numbers m job) value f t → Completes m job.extent v (numbered numbers f) (numbered numbers t)
  numbered_done (Program at n) job value v is done = subst (λ (x : Sector). SetsPage (numbered numbers f) (numbered numbers t) at.block at.page
      (Version job.extent n x)) (is done.0 done.1) (set_numbered at.block at.page (Version job.extent n (value_unless job.trimmed done.0)) done.2)
  numbered_done (Copy k from to) job value v is done = set_numbered to.block to.page (f (chip_block numbers from.block) from.page) done
  numbered_done (Erase b) job value v is done = (
    λ p. done.0 p,
    λ d p differs. done.1 (chip_block numbers d) p (λ e. differs (apart d b e)),
  )
  numbered_done Refused job value v is done = same_numbered done

pub done_cut : (numbers : List ℕ) (f t : Flash) (m : Command) (job : Job) (value : Sector)
    → StepCompletes (step_for numbers m job) value f t → StepCutLeaves (step_for numbers m job) value f t
done_cut numbers f t (Program at n) job value done = (done.0, done.1, inr (inr done.2))
done_cut numbers f t (Copy k from to) job value done = inr (inr done)
done_cut numbers f t (Erase b) job value done =
    completes_cut f t (Erase (chip_block numbers b)) (record { first = 0; count = 1 }) None done
done_cut numbers f t Refused job value done = done

-- a page in a block that was given up stays as it is
pub page_stays : (numbers : List ℕ) (core : Core) (spare good : ℕ) (f t : Flash) (m : Command) (job : Job) (value : Sector) (b p : ℕ)
    → IsNextCommand core m → StepCutLeaves (step_for numbers m job) value f t
    → ((c : ℕ) → IsStillGood core.blocks spare good c → chip_block numbers c ≢ b) → t b p ≡ f b p
page_stays numbers core spare good f t (Program at n) job value b p next cut out =
    let other : b ≢ chip_block numbers at.block = λ e. out at.block (inl (block_in_use core (Program at n) at.block next refl)) (sym e) in
    ⊎_elim (λ same. same b p) (λ more. ⊎_elim (λ torn. torn.others b p (inl other)) (λ puts. puts.others b p (inl other)) more) cut.2
page_stays numbers core spare good f t (Copy k from to) job value b p next cut out =
    let other : b ≢ chip_block numbers to.block = λ e. out to.block (inl (block_in_use core (Copy k from to) to.block next refl)) (sym e) in
    ⊎_elim (λ same. same b p) (λ more. ⊎_elim (λ torn. torn.others b p (inl other)) (λ puts. puts.others b p (inl other)) more) cut
page_stays numbers core spare good f t (Erase d) job value b p next cut out =
    cut.outside b p (λ e. out d (inl (block_in_use core (Erase d) d next refl)) (sym e))
page_stays numbers core spare good f t Refused job value b p next cut out = cut b p

-- the value of a job
unless_trim : (v : Sector) → value_unless (is_trim v) v ≡ v
unless_trim None = refl
unless_trim (Some bytes) = refl

abbrev JobBy : Main → Flash → Driver → Job → Sector → (ℕ → Sector) → Sector → Type 0
JobBy by f driver job value was v = IsJobBy by ((is_made driver.outcome ≡ false) × (job.extent ≡ driver.call) × (v ≡ value))
    (λ from. IsMovingOf f driver from job.extent (array_now driver value was) v)

main_is : (by : Main) (f : Flash) (driver : Driver) (job : Job) (value : Sector) (was : ℕ → Sector) (v x : Sector) → JobBy by f driver job value was v
    → IsMain f by value x → x ≡ v
main_is main.Caller f driver job value was v x is here = here ∙ sym is.2
main_is (main.Page from) f driver job value was v x is here = (same_held here.0 here.1 x is.extent_there is.number v (sym here.2 ∙ is.held)).2
main_is main.Lost f driver job value was v x is here = absurd is

pub job_value : (f : Flash) (driver : Driver) (job : Job) (value : Sector) (was : ℕ → Sector) (v : Sector) → IsJob f driver job value was v
    → (x : Sector) → IsMain f job.main value x → value_unless job.trimmed x ≡ v
job_value f driver job value was v is x here =
    ap (λ (trimmed : Bool). value_unless trimmed x) is.0
    ∙ (ap (value_unless (is_trim v)) (main_is job.main f driver job value was v x is.1 here) ∙ unless_trim v)

-- an update over arrays that agree
pub changed_alike : (a b : ℕ → Sector) (s : Extent) (v : Sector) (k : ℕ) → a k ≡ b k → changed a s v k ≡ changed b s v k
changed_alike a b s v k same = ap (λ (x : Sector). if is_covered s k then v else x) same

pub now_made : (driver : Driver) (value : Sector) (was : ℕ → Sector) (k : ℕ) → is_made driver.outcome ≡ true
    → array_now driver value was k ≡ changed was driver.call value k
now_made driver value was k made = ap (λ (b : Bool). if b then changed was driver.call value k else was k) made

pub now_unmade : (driver : Driver) (value : Sector) (was : ℕ → Sector) (k : ℕ) → is_made driver.outcome ≡ false → array_now driver value was k ≡ was k
now_unmade driver value was k made = ap (λ (b : Bool). if b then changed was driver.call value k else was k) made

-- a job's version gives the array after the call
job_makes_by : (by : Main) (f : Flash) (driver : Driver) (job : Job) (value : Sector) (was : ℕ → Sector) (v : Sector)
    → JobBy by f driver job value was v → (k : ℕ) → changed (array_now driver value was) job.extent v k ≡ changed was driver.call value k
job_makes_by main.Caller f driver job value was v is k =
    changed_alike (array_now driver value was) was job.extent v k (now_unmade driver value was k is.0)
    ∙ (ap (λ (s : Extent). changed was s v k) is.1 ∙ ap (λ (x : Sector). changed was driver.call x k) is.2)
job_makes_by (main.Page from) f driver job value was v is k = ⊎_elim
    (λ has. changed_here (array_now driver value was) job.extent v k has ∙ (sym (is.same k has) ∙ now_made driver value was k is.is))
    (λ out. changed_elsewhere (array_now driver value was) job.extent v k out ∙ now_made driver value was k is.is)
    (cases_covered job.extent k)
job_makes_by main.Lost f driver job value was v is k = absurd is

pub job_makes : (f : Flash) (driver : Driver) (job : Job) (value : Sector) (was : ℕ → Sector) (v : Sector)
    → IsJob f driver job value was v → (k : ℕ) → changed (array_now driver value was) job.extent v k ≡ changed was driver.call value k
job_makes f driver job value was v is k = job_makes_by job.main f driver job value was v is.1 k

pub made_now : (old new : Driver) (value : Sector) (was : ℕ → Sector) (k : ℕ) → new.call ≡ old.call → is_made new.outcome ≡ true
    → changed was old.call value k ≡ array_now new value was k
made_now old new value was k call made = ap (λ (s : Extent). changed was s value k) (sym call) ∙ sym (now_made new value was k made)

-- the layer knows the same array
pub knows_alike : (f : Flash) (numbers : List ℕ) (core : Core) (spare good : ℕ) (a b : ℕ → Sector) → Knows f numbers core spare good a
    → ((k : ℕ) → a k ≡ b k) → Knows f numbers core spare good b
knows_alike f numbers core spare good a b is same = record {
  apart = is.apart;
  fits = is.fits;
  blank = is.blank;
  updates = is.updates;
  consistent = is.consistent;
  has = λ s lt. is.has s lt ∙ same s;
}

-- the flash can be mounted between two steps
pub can_mount : (f : Flash) (numbers : List ℕ) (core : Core) (spare good : ℕ) (array : ℕ → Sector) → Knows f numbers core spare good array
    → CanMount f numbers core array
can_mount f numbers core spare good array is = record {
  updates = is.updates;
  recovers = survives_idle_cut core (numbered numbers f) is.updates is.updates is.consistent;
  has = is.has;
}

recovers_these : (f : Flash) (device : Device) (update : Update) (updates : List Update) (is : IsRecoverable f device updates (update ∷ updates))
    → IsRecoverable f device is.keeps.updates is.keeps.updates
recovers_these f device update updates is = record {
  keeps = record {
    updates = is.keeps.updates;
    includes = all_of is.keeps.updates;
    included = all_of is.keeps.updates;
    recovers = is.keeps.recovers;
  };
  written = is.written;
  spare = is.spare;
}

-- what a cut inside a command leaves
module _ (f t : Flash) (numbers : List ℕ) (core : Core) (spare good : ℕ) (array : ℕ → Sector) (is : Knows f numbers core spare good array)
    (m : Command) (s : Extent) (v : Sector) (within : LiesWithin (device_of core).sectors s) (next : IsNextCommand core m)
    (cut : CutLeaves m s v (numbered numbers f) (numbered numbers t)) where
  left_mounts : IsRecoverable (numbered numbers t) (device_of core) is.updates (record { extent = s; value = v } ∷ is.updates)
  left_mounts = survives_cut core s m within next (numbered numbers f) (numbered numbers t) v is.updates is.updates is.consistent cut

  pub mounts_either : CanMount t numbers core array ⊎ CanMount t numbers core (changed array s v)
  mounts_either =
      let update : Update = record { extent = s; value = v } in
      let left = left_mounts in
      let these = recovers_these (numbered numbers t) (device_of core) update is.updates left in
      ⊎_elim
      (λ before. inl (record {
        updates = left.keeps.updates;
        recovers = these;
        has = λ k lt. ap (λ (us : List Update). array_after us k) before ∙ is.has k lt;
      }))
      (λ after. inr (record {
        updates = left.keeps.updates;
        recovers = these;
        has = λ k lt. ap (λ (us : List Update). array_after us k) after ∙ changed_alike (array_after is.updates) array s v k (is.has k lt);
      }))
      (between_next update is.updates left.keeps.updates left.keeps.includes left.keeps.included)

  -- no block of the reserve has a version
  pub blank_left : core.blocks ≤ spare → (c : ℕ) → spare ≤ c → c < good → HoldsNoVersion (numbered numbers t) c
  blank_left past c from to p e n x held =
      let names = (is_safe core m next (numbered numbers f) is.updates is.updates is.consistent).0 in
      let same = untouched (numbered numbers f) (numbered numbers t) (device_of core) m s v names cut c p (omega (arith, past, from)) in
      is.blank c from to p e n x (sym same ∙ held)

-- a command was done
module _ (f t : Flash) (numbers : List ℕ) (old new : Core) (spare good : ℕ) (array : ℕ → Sector) (is : Knows f numbers old spare good array)
    (m : Command) (s : Extent) (v : Sector) (within : LiesWithin (device_of old).sectors s) (next : IsNextCommand old m)
    (done : Completes m s v (numbered numbers f) (numbered numbers t)) (acknowledges : Acknowledges old s m new)
    (device : device_of new ≡ device_of old) (past : old.blocks ≤ spare) where
  after : List Update
  after = updates_with m (record { extent = s; value = v }) is.updates

  consistent_now : IsConsistent (numbered numbers t) new (updates_with m (record { extent = s; value = v }) is.updates)
      (updates_with m (record { extent = s; value = v }) is.updates)
  consistent_now = acknowledges (numbered numbers f) (numbered numbers t) v is.updates is.updates is.consistent done

  blank_now : (c : ℕ) → spare ≤ c → c < good → HoldsNoVersion (numbered numbers t) c
  blank_now = blank_left f t numbers old spare good array is m s v within next (completes_cut (numbered numbers f) (numbered numbers t) m s v done) past

  pub knows_program : is_program m ≡ true → Knows t numbers new spare good (changed array s v)
  knows_program last =
      let update : Update = record { extent = s; value = v } in
      let made = adds m update is.updates last in
      record {
        apart = is.apart;
        fits = omega (arith, is.fits, ap (λ (d : Device). d.read_blocks) device);
        blank = blank_now;
        updates = update ∷ is.updates;
        consistent = subst (λ (us : List Update). IsConsistent (numbered numbers t) new us us) made consistent_now;
        has = λ k lt. changed_alike (array_after is.updates) array s v k (is.has k (omega (arith, lt, ap (λ (d : Device). d.sectors) device)));
      }

  pub knows_other : is_program m ≡ false → Knows t numbers new spare good array
  knows_other other =
      let update : Update = record { extent = s; value = v } in
      let kept = keeps m update is.updates other in
      record {
        apart = is.apart;
        fits = omega (arith, is.fits, ap (λ (d : Device). d.read_blocks) device);
        blank = blank_now;
        updates = is.updates;
        consistent = subst (λ (us : List Update). IsConsistent (numbered numbers t) new us us) kept consistent_now;
        has = λ k lt. is.has k (omega (arith, lt, ap (λ (d : Device). d.sectors) device));
      }

-- a block was marked, and may have lost its pages
pub knows_marked : (f t : Flash) (numbers : List ℕ) (core : Core) (spare good : ℕ) (array : ℕ → Sector) (c : ℕ) → Knows f numbers core spare good array
    → core.blocks ≤ c → IsFree core.map.items c → HasFree core.blocks core.map.items core.next_pages
    → LosesPages f t (chip_block numbers c) → Knows t numbers core spare good array
knows_marked f t numbers core spare good array c is past free has loses =
    let lost = loses_numbered numbers is.apart f t c loses in
    let before = is.consistent in
    let stands = before.represents in
    record {
      apart = is.apart;
      fits = is.fits;
      blank = λ d from to p e n x held. is.blank d from to p e n x (lost.within d p e n x held);
      updates = is.updates;
      consistent = record {
        updates = before.updates;
        includes = before.includes;
        included = before.included;
        represents = record {
          mapped = λ s lt. kept_in_loss (numbered numbers f) (numbered numbers t) c s (array_after before.updates s) (map_entry core s) (stands.mapped s lt)
              (λ at entry. free s at lt entry) lost;
          numbers = λ b p e n x held. stands.numbers b p e n x (lost.within b p e n x held);
          erased = λ at opened p le. let on = core.on_device at opened in
              lost.outside at.block p (λ e. omega (arith, e, on.0, past)) ∙ stands.erased at opened p le;
        };
        written = λ b p e n x held. before.written b p e n x (lost.within b p e n x held);
        spare = inl has;
      };
      has = is.has;
    }

-- no two numbers are of one block, as two blocks change their numbers
pub one_swapped : (numbers now : List ℕ) (number spare : ℕ) → IsOneToOne numbers
    → ((c : ℕ) → chip_block now c ≡ chip_block numbers (swapped number spare c)) → IsOneToOne now
one_swapped numbers now number spare one swap c d e =
    sym (swapped_twice number spare c)
    ∙ (ap (swapped number spare) (one (swapped number spare c) (swapped number spare d) (sym (swap c) ∙ (e ∙ swap d))) ∙ swapped_twice number spare d)

-- a command has failed, and its block and the first one in reserve have changed their numbers
module _ (f t : Flash) (numbers now : List ℕ) (old new : Core) (spare good : ℕ) (array : ℕ → Sector) (is : Knows f numbers old spare good array)
    (m : Command) (s : Extent) (v : Sector) (left : Bool) (number : ℕ) (changes : Changes m number) (within : LiesWithin (device_of old).sectors s)
    (next : IsNextCommand old m) (cut : CutLeaves m s v (numbered numbers f) (numbered numbers t)) (has : HasLeftVersion (numbered numbers t) m left)
    (retires : Retires old s m left spare new) (device : device_of new ≡ device_of old) (past : old.blocks ≤ spare)
    (swap : (c : ℕ) → chip_block now c ≡ chip_block numbers (swapped number spare c)) where
  apart_now : IsOneToOne now
  apart_now = one_swapped numbers now number spare is.apart swap

  blank_retired : (c : ℕ) → spare + 1 ≤ c → c < good → HoldsNoVersion (numbered now t) c
  blank_retired c from to p e n x held =
      let used = block_in_use old m number next changes in
      let same : chip_block now c ≡ chip_block numbers c = swap c ∙ ap (chip_block numbers)
      (swapped_other number spare c (λ here. omega (arith, here, used, past, from)) (λ here. omega (arith, here, from))) in
      blank_left f t numbers old spare good array is m s v within next cut past c (omega (arith, from)) to p e n x
      (subst (λ (b : ℕ). t b p ≡ Version e n x) same held)

  consistent_retired : IsConsistent (numbered now t) new (updates_left left m (record { extent = s; value = v }) is.updates)
      (updates_left left m (record { extent = s; value = v }) is.updates)
  consistent_retired = retires (numbered numbers f) (numbered now t) v is.updates is.updates is.consistent (record {
    failed = numbered numbers t;
    block = number;
    changes = changes;
    cut = cut;
    has = has;
    swap = λ c p i. t ((swap (swapped number spare c) ∙ ap (chip_block numbers) (swapped_twice number spare c)) i) p;
  })

  fits_now : good ≤ (device_of new).read_blocks
  fits_now = omega (arith, is.fits, ap (λ (d : Device). d.read_blocks) device)

  pub knows_left : left ≡ true → is_program m ≡ true → Knows t now new (spare + 1) good (changed array s v)
  knows_left here last =
      let update : Update = record { extent = s; value = v } in
      let made : updates_left left m update is.updates ≡ update ∷ is.updates =
      ap (λ (b : Bool). updates_left b m update is.updates) here ∙ adds m update is.updates last in
      record {
        apart = apart_now;
        fits = fits_now;
        blank = blank_retired;
        updates = update ∷ is.updates;
        consistent = subst (λ (us : List Update). IsConsistent (numbered now t) new us us) made consistent_retired;
        has = λ k lt. changed_alike (array_after is.updates) array s v k (is.has k (omega (arith, lt, ap (λ (d : Device). d.sectors) device)));
      }

  pub knows_without : left ≡ false → Knows t now new (spare + 1) good array
  knows_without here =
      let update : Update = record { extent = s; value = v } in
      let kept : updates_left left m update is.updates ≡ is.updates = ap (λ (b : Bool). updates_left b m update is.updates) here in
      record {
        apart = apart_now;
        fits = fits_now;
        blank = blank_retired;
        updates = is.updates;
        consistent = subst (λ (us : List Update). IsConsistent (numbered now t) new us us) kept consistent_retired;
        has = λ k lt. is.has k (omega (arith, lt, ap (λ (d : Device). d.sectors) device));
      }

-- a block that was given up stays so, as two blocks change their numbers
pub given_up_swapped : (numbers now : List ℕ) (blocks spare good number b : ℕ) → number < blocks → blocks ≤ spare → spare < good
    → ((c : ℕ) → chip_block now c ≡ chip_block numbers (swapped number spare c))
    → ((c : ℕ) → IsStillGood blocks spare good c → chip_block numbers c ≢ b) → (c : ℕ) → IsStillGood blocks (spare + 1) good c → chip_block now c ≢ b
given_up_swapped numbers now blocks spare good number b used past some swap out c kept e = ⊎_elim
    (λ here. out spare (inr (omega arith, some))
    (sym (ap (chip_block numbers) (ap (swapped number spare) here ∙ swapped_first number spare)) ∙ (sym (swap c) ∙ e)))
    (λ other.
    let there : c ≢ spare = λ h. ⊎_elim (λ low. omega (arith, h, low, past)) (λ high. omega (arith, h, high.0)) kept in
    let before : IsStillGood blocks spare good c = ⊎_elim (λ low. inl low) (λ high. inr (omega (arith, high.0), high.1)) kept in
    out c before (sym (ap (chip_block numbers) (swapped_other number spare c other there)) ∙ (sym (swap c) ∙ e)))
    (cases_eq c number)

-- the block of a command that failed is given up
pub failed_given_up : (numbers now : List ℕ) (blocks spare good number : ℕ) → IsOneToOne numbers → number < blocks → blocks ≤ spare
    → ((c : ℕ) → chip_block now c ≡ chip_block numbers (swapped number spare c))
    → (c : ℕ) → IsStillGood blocks (spare + 1) good c → chip_block now c ≢ chip_block numbers number
failed_given_up numbers now blocks spare good number apart used past swap c kept e =
    let same : swapped number spare c ≡ number = apart (swapped number spare c) number (sym (swap c) ∙ e) in
    let here : c ≡ spare = sym (swapped_twice number spare c) ∙ (ap (swapped number spare) same ∙ swapped_first number spare) in
    ⊎_elim (λ low. omega (arith, here, low, past)) (λ high. omega (arith, here, high.0)) kept

-- what a mount reads of a sector is one value
newest_none : (f : Flash) (s : ℕ) (x : Sector) (b p : ℕ) → HoldsNewest f s x b p → HoldsNoValue f s → x ≡ None
newest_none f s None b p shows none = refl
newest_none f s (Some bytes) b p shows none = absurd (none b p shows.number bytes shows.held)

one_newest : (f : Flash) (s : ℕ) (x y : Sector) (b p c q : ℕ) → HoldsNewest f s x b p → HoldsNewest f s y c q → x ≡ y
one_newest f s x y b p c q first second = ⊎_elim
    (λ less. ⊎_elim (λ more. absurd (omega (arith, less, more))) (λ same. same.1) (second.newest b p first.number x first.held))
    (λ same. sym same.1)
    (first.newest c q second.number y second.held)

one_read : (f : Flash) (s : ℕ) (x y : Sector) → RecoversSector f s x → RecoversSector f s y → x ≡ y
one_read f s x y (inl first) (inl second) = one_newest f s x y first.0 first.1 second.0 second.1 first.2 second.2
one_read f s x y (inl first) (inr second) = newest_none f s x first.0 first.1 first.2 second.1 ∙ sym second.0
one_read f s x y (inr first) (inl second) = first.0 ∙ sym (newest_none f s y second.0 second.1 second.2 first.1)
one_read f s x y (inr first) (inr second) = first.0 ∙ sym second.0

-- without a version in a program's page, each sector is kept as before
module _ (f t : Flash) (core : Core) (array : ℕ → Sector) (stands : Represents f core array) (s : Extent) (x : Sector) where
  same_kept : IsSameFlash f t → (k : ℕ) → k < length core.map.items → IsMappedTo t k (array k) (map_entry core k)
  same_kept same k lt = subst (λ (g : Flash). IsMappedTo g k (array k) (map_entry core k)) (λ i b p. sym (same b p) i) (stands.mapped k lt)

  failed_kept : (m : Command) → IsNextCommand core m → CutLeaves m s x f t → HasLeftVersion t m false → (k : ℕ) → k < length core.map.items
      → IsMappedTo t k (array k) (map_entry core k)
  failed_kept (Program at n) next cut none = ⊎_elim same_kept (λ more. ⊎_elim
      (torn_kept f t core array stands at (is_open core.next_pages at next.0))
      (λ puts. absurd (none s n x puts.put))
      more) cut
  failed_kept (Copy k from to) next cut none = ⊎_elim same_kept (λ more. ⊎_elim
      (torn_kept f t core array stands to (inr next.0))
      (copied_kept f t core array stands to from (inr next.0))
      more) cut
  failed_kept (Erase b) next cut none =
      λ k lt. kept_in_loss f t b k (array k) (map_entry core k) (stands.mapped k lt) (λ at is. next.2 k at lt is) cut
  failed_kept Refused next cut none = same_kept cut

  -- a program that has left a version is one that was done
  puts_of : (at : PageAddr) (n : ℕ) → IsNextCommand core (Program at n) → CutLeaves (Program at n) s x f t → HasLeftVersion t (Program at n) true
      → Completes (Program at n) s x f t
  puts_of at n next cut has = ⊎_elim
      (λ same. absurd (erased_holds_none has.0 has.1 has.2
      (sym (erased_next f t core array stands at (is_open core.next_pages at next.0)) ∙ (sym (same at.block at.page) ∙ has.3))))
      (λ more. ⊎_elim (λ torn. absurd (torn_holds_none has.0 has.1 has.2 (sym torn.put ∙ has.3))) (λ puts. puts) more)
      cut

  pub left_is_done : (m : Command) → is_program m ≡ true → IsNextCommand core m → CutLeaves m s x f t → HasLeftVersion t m true → Completes m s x f t
  left_is_done (Program at n) last next cut has = puts_of at n next cut has
  left_is_done (Copy k from to) last next cut has = absurd (false≢true last)
  left_is_done (Erase b) last next cut has = absurd (false≢true last)
  left_is_done Refused last next cut has = absurd (false≢true last)

-- the device is only read
pub readable_left : (f t : Flash) (numbers : List ℕ) (core : Core) (spare good : ℕ) (array : ℕ → Sector) → Knows f numbers core spare good array
    → (m : Command) (s : Extent) (v : Sector) → LiesWithin (device_of core).sectors s → IsNextCommand core m
    → CutLeaves m s v (numbered numbers f) (numbered numbers t) → HasLeftVersion (numbered numbers t) m false
    → ((k : ℕ) → k < (device_of core).sectors → IsMappedTo (numbered numbers t) k (array k) (map_entry core k)) × CanMount t numbers core array
readable_left f t numbers core spare good array is m s v within next cut none =
    let update : Update = record { extent = s; value = v } in
    let here = numbered numbers t in
    let left = left_mounts f t numbers core spare good array is m s v within next cut in
    let kept : (k : ℕ) → k < (device_of core).sectors → IsMappedTo here k (array k) (map_entry core k) =
    λ k lt. subst (λ (x : Sector). IsMappedTo here k x (map_entry core k)) (array_is (numbered numbers f) core is.updates is.consistent k ∙ is.has k lt)
    (failed_kept (numbered numbers f) here core (array_after is.consistent.updates) is.consistent.represents s v m next cut none k lt) in (
      kept,
      record {
        updates = left.keeps.updates;
        recovers = recovers_these here (device_of core) update is.updates left;
        has = λ k lt. one_read here k (array_after left.keeps.updates k) (array k) (left.keeps.recovers k lt)
            (reads_kept here k (array k) (map_entry core k) (kept k lt));
      },
    )

pub readable_known : (f : Flash) (numbers : List ℕ) (core : Core) (spare good : ℕ) (array : ℕ → Sector) → Knows f numbers core spare good array
    → ((k : ℕ) → k < (device_of core).sectors → IsMappedTo (numbered numbers f) k (array k) (map_entry core k)) × CanMount f numbers core array
readable_known f numbers core spare good array is = (
  λ k lt. subst (λ (x : Sector). IsMappedTo (numbered numbers f) k x (map_entry core k))
      (array_is (numbered numbers f) core is.updates is.consistent k ∙ is.has k lt) (is.consistent.represents.mapped k lt),
  can_mount f numbers core spare good array is,
)

-- a job stays one while its page does
module _ (f t : Flash) (outcome : Result (Unit {0}) Refusal) (call : Extent) (numbers now : List ℕ) (blocks next spare last good : ℕ) (job : Job)
    (value : Sector) (was : ℕ → Sector) (v : Sector)
    (out : (b : ℕ) → ((c : ℕ) → IsStillGood blocks spare good c → chip_block numbers c ≢ b) → (c : ℕ) → IsStillGood next last good c → chip_block now c ≢ b)
    (page : (b p : ℕ) → ((c : ℕ) → IsStillGood blocks spare good c → chip_block numbers c ≢ b) → t b p ≡ f b p) where
  abbrev array : ℕ → Sector
  array k = if is_made outcome then changed was call value k else was k

  pub job_stays : (by : Main)
      → IsJobBy by ((is_made outcome ≡ false) × (job.extent ≡ call) × (v ≡ value))
      (λ from. IsMoving f (is_made outcome) numbers blocks spare good from job.extent array v)
      → IsJobBy by ((is_made outcome ≡ false) × (job.extent ≡ call) × (v ≡ value))
      (λ from. IsMoving t (is_made outcome) now next last good from job.extent array v)
  job_stays main.Caller is = is
  job_stays (main.Page from) is = record {
    is = is.is;
    left = out from.block is.left;
    extent_there = is.extent_there;
    number = is.number;
    held = page from.block from.page is.left ∙ is.held;
    same = is.same;
  }
  job_stays main.Lost is = absurd is

-- a job's value is what its program has
job_main_by : (by : Main) (f : Flash) (driver : Driver) (job : Job) (value : Sector) (was : ℕ → Sector) (v : Sector) → JobBy by f driver job value was v
    → IsMain f by value v
job_main_by main.Caller f driver job value was v is = is.2
job_main_by (main.Page from) f driver job value was v is = (is.extent_there, is.number, is.held)
job_main_by main.Lost f driver job value was v is = absurd is

pub job_main : (f : Flash) (driver : Driver) (job : Job) (value : Sector) (was : ℕ → Sector) (v : Sector) → IsJob f driver job value was v
    → IsMain f job.main value v
job_main f driver job value was v is = job_main_by job.main f driver job value was v is.1

-- whether a program that failed has left its version, by what its page was read as
no_version : (page : PageContents) (reading : Reading) → ReadsStamp page reading → IsNoVersion reading → (e : Extent) (m : ℕ) (v : Sector)
    → page ≢ Version e m v
no_version Erased reading reads none e m v is = cc is
no_version Torn reading reads none e m v is = cc is
no_version (Version s n x) reading reads none e m v is = absurd (subst IsNoVersion reads none)

pub left_by : (numbers : List ℕ) (t : Flash) (at : PageAddr) (n : ℕ) (reading : Reading) (left : Bool)
    → (left ≡ true → (stamp : Stamp) × (reading ≡ outcome.Version stamp)) → (left ≡ false → IsNoVersion reading)
    → ReadsStamp (t (chip_block numbers at.block) at.page) reading → HasLeftVersion (numbered numbers t) (Program at n) left
left_by numbers t at n reading true some none reads =
    let found = some refl in
    has_version t (chip_block numbers at.block) at.page (t (chip_block numbers at.block) at.page) found.0 refl
    (subst (ReadsStamp (t (chip_block numbers at.block) at.page)) found.1 reads)
left_by numbers t at n reading false some none reads =
    λ e m v. no_version (t (chip_block numbers at.block) at.page) reading reads (none refl) e m v

-- one step after another
pub stays_over : (old mid new : Driver) → StaysDriver old mid → StaysDriver mid new → StaysDriver old new
stays_over old mid new first second = record {
  call = second.call ∙ first.call;
  device = second.device ∙ first.device;
  losses = second.losses ∙ first.losses;
  given_up = λ b out. second.given_up b (first.given_up b out);
  apart = λ one. second.apart (first.apart one);
  made = λ before. second.made (first.made before);
}

-- a driver that differs in what no one asks for
pub stays_same : (old mid : Driver) → mid.call ≡ old.call → device_of mid.core ≡ device_of old.core → losses_of mid.core ≡ losses_of old.core
    → mid.numbers.items ≡ old.numbers.items → mid.spare ≡ old.spare → mid.good ≡ old.good → is_made mid.outcome ≡ is_made old.outcome → StaysDriver old mid
stays_same old mid call device losses numbers spare good outcome = record {
  call = call;
  device = device;
  losses = losses;
  given_up = λ b out c kept e. out c
      (subst (λ (n : ℕ). IsStillGood n old.spare old.good c) (ap (λ (d : Device). d.blocks) device)
      (subst (λ (n : ℕ). IsStillGood mid.core.blocks n old.good c) spare (subst (λ (n : ℕ). IsStillGood mid.core.blocks mid.spare n c) good kept)))
      (sym (ap (λ (ns : List ℕ). chip_block ns c) numbers) ∙ e);
  apart = λ one. subst IsOneToOne (sym numbers) one;
  made = λ before. outcome ∙ before;
}

-- the driver after a block of the reserve has come in use
pub stays_retired : (old mid : Driver) (number : ℕ) → mid.call ≡ old.call → device_of mid.core ≡ device_of old.core
    → losses_of mid.core ≡ losses_of old.core → number < old.core.blocks → old.core.blocks ≤ old.spare → old.spare < old.good
    → mid.spare ≡ old.spare + 1 → mid.good ≡ old.good → mid.outcome ≡ old.outcome
    → ((c : ℕ) → chip_block mid.numbers.items c ≡ chip_block old.numbers.items (swapped number old.spare c)) → StaysDriver old mid
stays_retired old mid number call device losses used past some spare good outcome swap = record {
  call = call;
  device = device;
  losses = losses;
  given_up = λ b out c kept. given_up_swapped old.numbers.items mid.numbers.items old.core.blocks old.spare old.good number b used past some swap out c
      (subst (λ (n : ℕ). IsStillGood n (old.spare + 1) old.good c) (ap (λ (d : Device). d.blocks) device)
      (subst (λ (n : ℕ). IsStillGood mid.core.blocks n old.good c) spare (subst (λ (n : ℕ). IsStillGood mid.core.blocks mid.spare n c) good kept)));
  apart = λ one. one_swapped old.numbers.items mid.numbers.items number old.spare one swap;
  made = λ before. ap is_made outcome ∙ before;
}

-- the page from which sectors move that have it
pub moves_from : (f : Flash) (driver : Driver) (array : ℕ → Sector) (extent : Extent) (at : PageAddr) → is_made driver.outcome ≡ true
    → Knows f driver.numbers.items driver.core driver.spare driver.good array → driver.core.blocks ≤ at.block → at.block < driver.spare
    → Covers extent extent.first → extent.first < (device_of driver.core).sectors
    → ((s : ℕ) → Covers extent s → (s < (device_of driver.core).sectors) × (map_entry driver.core s ≡ Some at))
    → IsMovingOf f driver (chip_page driver.numbers.items at) extent array (array extent.first)
moves_from f driver array extent at made is past below first lt all =
    let here = numbered driver.numbers.items f in
    let stands = is.consistent.represents in
    let now : (s : ℕ) → s < (device_of driver.core).sectors → array_after is.consistent.updates s ≡ array s =
    λ s less. array_is here driver.core is.updates is.consistent s ∙ is.has s less in
    let shown : (s : ℕ) → Covers extent s → HoldsNewest here s (array s) at.block at.page =
    λ s has. let there = all s has in
    subst (λ (v : Sector). HoldsNewest here s v at.block at.page) (now s there.0)
    (subst (IsMappedTo here s (array_after is.consistent.updates s)) there.1 (stands.mapped s there.0)) in
    let held = shown extent.first first in
    record {
      is = made;
      left = λ c kept e. let same = is.apart c at.block e in
          ⊎_elim (λ low. omega (arith, same, low, past)) (λ high. omega (arith, same, high.0, below)) kept;
      extent_there = held.held.0;
      number = held.number;
      held = held.held.1;
      same = λ s has. let other = shown s has in
          (same_held other.held.0 other.number (array s) held.held.0 held.number (array extent.first) (sym other.held.1 ∙ held.held.1)).2;
    }

-- a page that has a version isn't read as one without
pub reads_version : (page : PageContents) (e : Extent) (m : ℕ) (v : Sector) (reading : Reading) → page ≡ Version e m v → ReadsStamp page reading
    → reading ≡ outcome.Version (record { extent = e; number = m; trimmed = is_trim v })
reads_version page e m v reading is reads = subst (λ (x : PageContents). ReadsStamp x reading) is reads

-- what is read with the flash is the same on one that holds the same
pub same_flash : (P : Flash → Type 0) (f t : Flash) → IsSameFlash f t → P f → P t
same_flash P f t same is = subst P (λ i b p. sym (same b p) i) is

-- a block without sectors beside that of copies: a closed one is free
pub free_by_copy : (core : Core) (k : ℕ) (from to : PageAddr) (b : ℕ) → IsNextCommand core (Copy k from to) → b < core.blocks → b ≢ to.block
    → live_in b core.map.items ≡ 0 → HasFree core.blocks core.map.items core.next_pages
free_by_copy core k from to b next lt other none = some_free core.blocks core.map.items core.next_pages (λ live. ⊎_elim
    (λ closed. absurd (omega (
      arith,
      none,
      live b lt (λ at opened here. ⊎_elim
          (λ hosts. none_some at (sym closed ∙ hosts))
          (λ copies. other (here ∙ ap (λ (x : PageAddr). x.block) (some_same at to (sym copies ∙ next.0))))
          opened),
    )))
    (λ opened. core.can_collect.0 (some_not_none core.next_pages.hosts opened.0 opened.1) live)
    (none_or_some core.next_pages.hosts))

-- the stamp of a version says whether it is a trim
pub trimmed_is : (stamp : Stamp) (e : Extent) (m : ℕ) (v : Sector)
    → outcome.Version stamp ≡ outcome.Version (record { extent = e; number = m; trimmed = is_trim v }) → stamp.trimmed ≡ is_trim v
trimmed_is stamp e m v is = let same : stamp ≡ record { extent = e; number = m; trimmed = is_trim v } = cc is in ap (λ (s : Stamp). s.trimmed) same

-- what can be read of the same array
pub can_alike : (f : Flash) (numbers : List ℕ) (core : Core) (a b : ℕ → Sector) → CanMount f numbers core a → ((k : ℕ) → a k ≡ b k)
    → CanMount f numbers core b
can_alike f numbers core a b is same = record { updates = is.updates; recovers = is.recovers; has = λ s lt. is.has s lt ∙ same s }

pub reads_alike : (f : Flash) (numbers : List ℕ) (core : Core) (a b : ℕ → Sector) → ((k : ℕ) → a k ≡ b k)
    → ((s : ℕ) → s < (device_of core).sectors → IsMappedTo (numbered numbers f) s (a s) (map_entry core s)) × CanMount f numbers core a
    → ((s : ℕ) → s < (device_of core).sectors → IsMappedTo (numbered numbers f) s (b s) (map_entry core s)) × CanMount f numbers core b
reads_alike f numbers core a b same is = (
  λ s lt. subst (λ (v : Sector). IsMappedTo (numbered numbers f) s v (map_entry core s)) (same s) (is.0 s lt),
  can_alike f numbers core a b is.1 same,
)

-- a command that isn't a program leaves no version by itself
pub has_none_left : (f : Flash) (m : Command) → ((at : PageAddr) (n : ℕ) → m ≢ Program at n) → HasLeftVersion f m false
has_none_left f (Program at n) other = absurd (other at n refl)
has_none_left f (Copy k from to) other = tt
has_none_left f (Erase b) other = tt
has_none_left f Refused other = tt

-- what is known of the command under way
pub way_perform : (core : Core) (m : Command) (job : Job) → ∥ IsPhaseOf core (phase.Perform m job) ∥₁
    → LiesWithin (device_of core).sectors job.extent × IsNextCommand core m
way_perform core m job is = (
  ∥∥₁_elim is (Prim.hlevel props) (λ x. x.0),
  known core.blocks core.pages core.map.items core.next_pages core.left core.next_number m (∥∥₁_elim is (Prim.hlevel props) (λ x. merely x.1)),
)

pub way_look : (core : Core) (at : PageAddr) (n : ℕ) (job : Job) → ∥ IsPhaseOf core (phase.Look at n job) ∥₁
    → LiesWithin (device_of core).sectors job.extent × IsNextCommand core (Program at n)
way_look core at n job is = (
  ∥∥₁_elim is (Prim.hlevel props) (λ x. x.0),
  known core.blocks core.pages core.map.items core.next_pages core.left core.next_number (Program at n)
      (∥∥₁_elim is (Prim.hlevel props) (λ x. merely x.1)),
)

pub way_some : (core : Core) (m : Command) (job : Job) → ∥ IsPhaseOf core (phase.Perform m job) ∥₁ → m ≢ Refused
way_some core m job is = ∥∥₁_elim is (Prim.hlevel props) (λ x. x.2)

pub way_extent : (core : Core) (s : Extent) → ∥ LiesWithin (device_of core).sectors s ∥₁ → LiesWithin (device_of core).sectors s
way_extent core s is = ∥∥₁_elim is (Prim.hlevel props) (λ x. x)

-- a step changes a block that is in use
pub changes_in_use : (numbers : List ℕ) (core : Core) (m : Command) (job : Job) (b : ℕ) → IsNextCommand core m → StepChanges (step_for numbers m job) b
    → (c : ℕ) × (c < core.blocks) × (chip_block numbers c ≡ b)
changes_in_use numbers core (Program at n) job b next is = (at.block, block_in_use core (Program at n) at.block next refl, sym is)
changes_in_use numbers core (Copy k from to) job b next is = (to.block, block_in_use core (Copy k from to) to.block next refl, sym is)
changes_in_use numbers core (Erase d) job b next is = (d, block_in_use core (Erase d) d next refl, sym is)
changes_in_use numbers core Refused job b next is = absurd is

one_number : (m : Command) (a b : ℕ) → Changes m a → Changes m b → a ≡ b
one_number (Program at n) a b first second = first ∙ sym second
one_number (Copy k from to) a b first second = first ∙ sym second
one_number (Erase c) a b first second = first ∙ sym second
one_number Refused a b first second = absurd first

-- the block of a command that failed, whose number is taken by another, is given up
pub failed_out : (numbers now : List ℕ) (m : Command) (old new : Core) (spare good number b : ℕ) → IsNextCommand old m → Changes m number → Changes m b
    → IsOneToOne numbers → old.blocks ≤ spare → device_of new ≡ device_of old
    → ((c : ℕ) → chip_block now c ≡ chip_block numbers (swapped number spare c))
    → (c : ℕ) → IsStillGood new.blocks (spare + 1) good c → chip_block now c ≢ chip_block numbers b
failed_out numbers now m old new spare good number b next changes its one past device swap c kept e =
    failed_given_up numbers now old.blocks spare good number one (block_in_use old m number next changes) past swap c
    (subst (λ (d : Device). IsStillGood d.blocks (spare + 1) good c) device kept)
    (e ∙ ap (chip_block numbers) (one_number m b number its changes))

-- the number of the block that a step changes
pub changed_number : (numbers : List ℕ) (m : Command) (job : Job) (b : ℕ) → StepChanges (step_for numbers m job) b
    → (c : ℕ) × Changes m c × (chip_block numbers c ≡ b)
changed_number numbers (Program at n) job b is = (at.block, refl, sym is)
changed_number numbers (Copy k from to) job b is = (to.block, refl, sym is)
changed_number numbers (Erase d) job b is = (d, refl, sym is)
changed_number numbers Refused job b is = absurd is

-- a device at rest can be read
pub reads_at_rest : (p : Phase) (f : Flash) (driver : Driver) (value : Sector) (was : ℕ → Sector) → HoldsIn p f driver value was → can_read p ≡ true
    → (s : ℕ) → s < (device_of driver.core).sectors
    → IsMappedTo (numbered driver.numbers.items f) s (array_now driver value was s) (map_entry driver.core s)
reads_at_rest phase.Idle f driver value was is rests =
    (readable_known f driver.numbers.items driver.core driver.spare driver.good (array_now driver value was) is).0
reads_at_rest (phase.Perform m job) f driver value was is rests = absurd (false≢true rests)
reads_at_rest (phase.Look at n job) f driver value was is rests = absurd (false≢true rests)
reads_at_rest (phase.Fetch from extent) f driver value was is rests = absurd (false≢true rests)
reads_at_rest (phase.Mark extent) f driver value was is rests = absurd (false≢true rests)
reads_at_rest phase.ReadOnly f driver value was is rests = is.0
reads_at_rest phase.Closed f driver value was is rests = absurd (false≢true rests)

-- the page that the map has for a sector
pub has_sector : (f : Flash) (numbers : List ℕ) (s : ℕ) (v : Sector) (at : PageAddr) → HoldsNewest (numbered numbers f) s v at.block at.page
    → HasSector f s v (Some (chip_page numbers at))
has_sector f numbers s v at is = (is.held.0, is.number, is.held.2, is.held.1)
