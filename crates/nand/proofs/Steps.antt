-- The commands of one call.
use Rattle.std.proofs.Common.{◌≡◌, ◌≢◌, ◌⊎◌, ◌∙◌, inl, ⊎_elim, ◌+◌, ◌-◌, ◌%◌, ◌^◌, ℕ, Bool, true, false}
use Rattle.std.proofs.Common.{List, Vec, ◌∷◌, None, Some, Result, Ok, Err, OnOk, OnErr, IfErr, sym, refl}
use Rattle.std.proofs.Common.{ap, subst, arith}
use Rattle.std.proofs.lemmas.Bool.{false≢true}
use Rattle.geometry.specs.Sectors.{Sector, was_of}
use Rattle.geometry.specs.declared.answer.Was.{Was}
use Rattle.geometry.specs.declared.answer.Was.TheVariants as was
use Rattle.durable.specs.declared.command.Command.{Command}
use Rattle.durable.specs.declared.command.Command.TheVariants.{Program, Copy, Erase, Refused}
use Rattle.durable.specs.declared.memory.Core.{Core}
use Rattle.durable.specs.Choice.{number_after}
use Rattle.durable.specs.Commands.{is_program, updates_with}
use Rattle.durable.specs.Device.{Device, device_of}
use Rattle.durable.specs.Flash.{Flash}
use Rattle.durable.specs.Promise.{IsConsistent, IsRecoverable}
use Rattle.durable.specs.Memory.{Represents, map_entry}
use Rattle.std.specs.declared.alloc.Global.{Global}
use Rattle.durable.specs.declared.extent.Extent.{Extent}
use Rattle.durable.specs.Updates.{Covers, Update, array_after, changed}
use Rattle.durable.proofs.Extents.{cases_covered, changed_here, changed_elsewhere}
use Rattle.durable.proofs.Promises.{survives_idle_cut}
use Rattle.nand.specs.declared.failure.Failure.{Failure}
use Rattle.nand.specs.declared.failure.Failure.TheVariants as failure
use Rattle.nand.specs.declared.flash.Fault.{Fault}
use Rattle.nand.specs.declared.flash.Fault.TheVariants as fault
use Rattle.nand.specs.declared.flash.Shape.{Shape}
use Rattle.nand.specs.declared.flash.Tally.{Tally}
use Rattle.nand.specs.declared.layer.Durable.{Durable}
use Rattle.nand.specs.Numbers.{IsOrder, good_before, numbered}
use Rattle.nand.specs.Opened.{CanOpen, Fails, HasMarkedFailed, IsOpenLayer, IsRefusal, IsSpent, IsTrueCause, device_on}
use Rattle.nand.specs.Opened.{layer_sectors, most_used, number_of, update_of}
use Rattle.nand.specs.Stored.{stored_value, value_at}
use Rattle.nand.specs.Looks.{Looks}
use Rattle.nand.specs.Programs.{ProgramsOnce, TalliesOnce}
use Rattle.nand.proofs.Orders.{openable}
use Rattle.nand.proofs.Programs.{adds_there}
use Rattle.durable.proofs.Subsequences.{all_of, between_same}

-- the program adds its update, and no other command does
pub adds : (m : Command) (update : Update) (was : List Update) → is_program m ≡ true → updates_with m update was ≡ update ∷ was
adds (Program at n) update was is = refl
adds (Copy k from to) update was is = absurd (false≢true is)
adds (Erase b) update was is = absurd (false≢true is)
adds Refused update was is = absurd (false≢true is)

pub keeps : (m : Command) (update : Update) (was : List Update) → is_program m ≡ false → updates_with m update was ≡ was
keeps (Program at n) update was is = absurd (false≢true (sym is))
keeps (Copy k from to) update was is = refl
keeps (Erase b) update was is = refl
keeps Refused update was is = refl

-- a command that is not the program takes no number, and the call is nearer to its end
pub same_number : (m : Command) (n : ℕ) → is_program m ≡ false → number_after m n ≡ n
same_number (Program at k) n is = absurd (false≢true (sym is))
same_number (Copy k from to) n is = refl
same_number (Erase b) n is = refl
same_number Refused n is = refl

-- an open layer's map is that of the array after its updates
pub array_is : (f : Flash) (core : Core) (updates : List Update) (is : IsConsistent f core updates updates) (s : ℕ)
    → array_after is.updates s ≡ array_after updates s
array_is f core updates is s = ap (λ (us : List Update). array_after us s) (between_same updates is.updates is.includes is.included)

-- the device is the chip's as before
pub moved : (old new : Core) (a b : Shape) (x y : List Bool) → device_of new ≡ device_of old → device_of old ≡ device_on a x (device_of old).sectors
    → b ≡ a → y ≡ x → device_of new ≡ device_on b y (device_of new).sectors
moved old new a b x y same is chip marks = same ∙ (is ∙ (ap (λ (s : Shape). device_on s x (device_of old).sectors) (sym chip)
    ∙ (ap (λ (m : List Bool). device_on b m (device_of old).sectors) (sym marks) ∙ ap (λ (d : Device). device_on b y d.sectors) (sym same))))

pub device_there : (core : Core) (a b : Shape) (x y : List Bool) (sectors : ℕ) → device_of core ≡ device_on a x sectors → b ≡ a → y ≡ x
    → device_of core ≡ device_on b y (device_of core).sectors
device_there core a b x y sectors is chip marks = is ∙ (ap (λ (s : Shape). device_on s x sectors) (sym chip)
    ∙ (ap (λ (m : List Bool). device_on b m sectors) (sym marks) ∙ ap (λ (d : Device). device_on b y d.sectors) (sym is)))

-- the order is that of the chip as before
pub same_order : (numbers : List ℕ) (a b : Shape) (x y : List Bool) (s t : ℕ) → b ≡ a → y ≡ x → t ≡ s
    → IsOrder numbers x a.blocks (most_used a s) → IsOrder numbers y b.blocks (most_used b t)
same_order numbers a b x y s t chip marks sectors is = subst (λ (n : ℕ). IsOrder numbers y b.blocks (most_used b n)) (sym sectors)
    (subst (λ (m : List Bool). IsOrder numbers m b.blocks (most_used b s)) (sym marks)
    (subst (λ (c : Shape). IsOrder numbers x c.blocks (most_used c s)) (sym chip) is))

-- a power cut between two calls
pub left_open : {N : Type 0} (flash : N → Flash) (shape : N → Shape) (bad : N → List Bool) (layer : Durable N) (updates : List Update)
    → IsOpenLayer flash shape bad layer updates → CanOpen flash shape bad layer.nand (layer_sectors layer) updates
left_open {N} flash shape bad layer updates is =
    let numbers = layer.numbers.items in
    let f = numbered numbers (flash layer.nand) in
    openable (flash layer.nand) (shape layer.nand) (bad layer.nand) numbers (layer_sectors layer) is.order updates
    (subst (λ (d : Device). IsRecoverable f d updates updates) is.device (survives_idle_cut layer.core f updates updates is.consistent)) is.blank

-- an update that failed before its first command
pub fails_open : {N : Type 0} (flash : N → Flash) (shape : N → Shape) (bad : N → List Bool) (old new : Durable N) (update : Update)
    (updates : List Update) (cause : Failure) → IsOpenLayer flash shape bad new updates → layer_sectors new ≡ layer_sectors old → cause ≢ failure.Lost
    → cause ≢ failure.Failed → Fails flash shape bad old new update updates cause
fails_open {N} flash shape bad old new update updates cause is sectors readable other = record {
  reopens = inl (subst (λ (n : ℕ). CanOpen flash shape bad new.nand n updates) sectors (left_open flash shape bad new updates is));
  refused = λ _. is;
  stays = inl is;
  readable = readable;
  spent = λ failed. absurd (other failed);
}

pub if_err : {T : Type 0} {P Q : Failure → Type 0} (result : Result T Failure) → ((cause : Failure) → P cause → Q cause) → IfErr result P → IfErr result Q
if_err {T} {P} {Q} (Ok v) to is = tt
if_err {T} {P} {Q} (Err cause) to is = to cause is

pub if_ok : {T P Q : Type 0} (result : Result T Failure) → (P → Q) → OnOk result P → OnOk result Q
if_ok {T} {P} {Q} (Ok v) to is = to is
if_ok {T} {P} {Q} (Err cause) to is = tt

-- after a look that found something
module _ {N : Type 0} {flash : N → Flash} {shape : N → Shape} {bad : N → List Bool} {faults : N → Fault → ℕ} {tally : N → Tally}
    {old mid : Durable N} {had : Was} (looks : Looks flash shape bad faults tally old mid (Ok had)) where
  -- an update that failed
  pub fails_after : {new : Durable N} {update : Update} {updates : List Update} {cause : Failure} → Fails flash shape bad mid new update updates cause
      → Fails flash shape bad old new update updates cause
  fails_after {new} {update} {updates} {cause} fails =
      let sectors = looks.device.sectors in
      record {
        reopens = subst (λ (n : ℕ). CanOpen flash shape bad new.nand n updates ⊎ CanOpen flash shape bad new.nand n (update ∷ updates)) sectors
            fails.reopens;
        refused = fails.refused;
        stays = fails.stays;
        readable = fails.readable;
        spent = λ failed. subst (λ (n : ℕ). IsSpent (shape new.nand) (bad new.nand) n (number_of new)) sectors (fails.spent failed);
      }

  -- a cause that is true of the layer
  pub true_after : (new : Durable N) (cause : Failure) → IsTrueCause faults mid new cause → IsTrueCause faults old new cause
  true_after new failure.PowerGone is = λ e. is (e ∙ sym (looks.counts fault.PowerGone))
  true_after new failure.Failed is = λ e. is (e ∙ sym (looks.counts fault.Failed))
  true_after new failure.Closed is = sym looks.mounted ∙ is
  true_after new failure.NoNumber is = omega (arith, looks.number, is)
  true_after new failure.Written is = tt
  true_after new failure.Lost is = tt

  -- what was marked
  pub marked_after : (new : Durable N) → HasMarkedFailed shape bad faults mid new → HasMarkedFailed shape bad faults old new
  marked_after new is =
      let marked = λ (s : Shape) (m : List Bool) (n : ℕ). faults new.nand fault.Failed % 2 ^ 64
      ≡ (n + (good_before m s.blocks - good_before (bad new.nand) s.blocks)) % 2 ^ 64 in
      subst (λ (s : Shape). marked s (bad old.nand) (faults old.nand fault.Failed)) looks.device.chip
      (subst (λ (m : List Bool). marked (shape mid.nand) m (faults old.nand fault.Failed)) looks.device.marks
      (subst (λ (n : ℕ). marked (shape mid.nand) (bad mid.nand) n) (looks.counts fault.Failed) is))

  -- what the call programs
  pub once_after : (new : Durable N) (update : Update) → ProgramsOnce flash shape bad tally mid new update
      → ProgramsOnce flash shape bad tally old new update
  once_after new update once =
      let last = tally new.nand in
      let attempts = λ (m : List Bool) (s : Shape). good_before m s.blocks - good_before (bad new.nand) s.blocks + 1 in (
        λ none. adds_there (flash old.nand) (flash mid.nand) (flash new.nand) (number_of old) (number_of mid) update looks.same looks.number
            (once.0 (none ∙ sym looks.device.marks)),
        subst (λ (t : Tally). TalliesOnce t last (attempts (bad old.nand) (shape old.nand)) (shape old.nand).pages) looks.tallied
            (subst (λ (s : Shape). TalliesOnce (tally mid.nand) last (attempts (bad old.nand) s) s.pages) looks.device.chip
            (subst (λ (m : List Bool). TalliesOnce (tally mid.nand) last (attempts m (shape mid.nand)) (shape mid.nand).pages) looks.device.marks
            once.1)),
      )

  -- what the layer has of the sectors
  pub stored_after : (s : ℕ) → stored_value flash mid s ≡ stored_value flash old s
  stored_after s =
      let has = λ (ns : List ℕ) (core : Core) (f : Flash). value_at (numbered ns f) (map_entry core s) s in
      ap (λ (ns : Vec ℕ Global). has ns.items mid.core (flash mid.nand)) looks.numbers
      ∙ (ap (λ (core : Core). has old.numbers.items core (flash mid.nand)) looks.core
      ∙ ap (λ (f : Flash). has old.numbers.items old.core f) looks.same)

  -- another look
  pub looks_after : {new : Durable N} (result : Result Was Failure) → Looks flash shape bad faults tally mid new result
      → Looks flash shape bad faults tally old new result
  looks_after {new} result more = record {
    opens = λ updates is. more.opens updates (looks.opens updates is);
    cause = if_err result (λ cause. true_after new cause) more.cause;
    overwrites = more.overwrites;
    mounted = more.mounted ∙ looks.mounted;
    counts = if_ok result (λ same cause. same cause ∙ looks.counts cause) more.counts;
    tallied = more.tallied ∙ looks.tallied;
    number = more.number ∙ looks.number;
    same = more.same ∙ looks.same;
    core = more.core ∙ looks.core;
    numbers = more.numbers ∙ looks.numbers;
    device = record {
      sectors = more.device.sectors ∙ looks.device.sectors;
      number = more.number ∙ looks.number;
      chip = more.device.chip ∙ looks.device.chip;
      marks = more.device.marks ∙ looks.device.marks;
    };
  }

pub not_failed : {T : Type 0} (cause : Failure) → ◌≡◌ {A = Result T Failure} (Err cause) (Err failure.PowerGone) → cause ≢ failure.Failed
not_failed {T} cause is failed = cc (is, failed)

pub not_lost : {T : Type 0} (cause : Failure) → ◌≡◌ {A = Result T Failure} (Err cause) (Err failure.PowerGone) → cause ≢ failure.Lost
not_lost {T} cause is lost = cc (is, lost)

pub not_refused : {T : Type 0} (cause : Failure) → ◌≡◌ {A = Result T Failure} (Err cause) (Err failure.PowerGone) → IsRefusal cause → ⊥
not_refused {T} cause is refused =
    let e : cause ≡ failure.PowerGone = cc is in
    subst IsRefusal e refused

pub on_ok : {T P : Type 0} (result : Result T Failure) → P → OnOk result P
on_ok (Ok v) is = is
on_ok (Err cause) is = tt

-- a look that fails without a fault has found the sector lost
pub lost_is_true : {N T : Type 0} (faults : N → Fault → ℕ) (old new : Durable N) (result : Result T Failure) → OnErr result (result ≡ Err failure.Lost)
    → IfErr result (IsTrueCause faults old new)
lost_is_true faults old new (Ok found) is = tt
lost_is_true faults old new (Err cause) is = let e : cause ≡ failure.Lost = cc is in subst (IsTrueCause faults old new) (sym e) tt

pub lost_not_written : {T : Type 0} (result : Result T Failure) → OnErr result (result ≡ Err failure.Lost) → result ≢ Err failure.Written
lost_not_written (Ok found) is e = cc e
lost_not_written (Err cause) is e = cc (is, e)

pub power_gone : (failure.PowerGone ≢ failure.Lost) × (failure.PowerGone ≢ failure.Failed)
power_gone = (λ e. cc e, λ e. cc e)

-- a trim of an empty sector changes nothing
no_value : (value : Sector) → was_of value ≡ was.Empty → value ≡ None
no_value None is = refl
no_value (Some bytes) is = absurd (cc is)

trimmed_at : (array : ℕ → Sector) (e : Extent) → ((k : ℕ) → Covers e k → array k ≡ None) → (k : ℕ) → changed array e None k ≡ array k
trimmed_at array e empty k = ⊎_elim
    (λ has. changed_here array e None k has ∙ sym (empty k has))
    (λ out. changed_elsewhere array e None k out)
    (cases_covered e k)

pub trims_nothing : {N : Type 0} (flash : N → Flash) (shape : N → Shape) (bad : N → List Bool) (layer : Durable N) (e : Extent) (updates : List Update)
    → IsOpenLayer flash shape bad layer updates → ((k : ℕ) → Covers e k → was_of (array_after updates k) ≡ was.Empty)
    → IsOpenLayer flash shape bad layer (update_of e None ∷ updates)
trims_nothing {N} flash shape bad layer e updates is empty =
    let more = update_of e None ∷ updates in
    let f = numbered layer.numbers.items (flash layer.nand) in
    let same : array_after is.consistent.updates ≡ array_after more = λ i k.
    (array_is f layer.core updates is.consistent k
    ∙ sym (trimmed_at (array_after updates) e (λ j has. no_value (array_after updates j) (empty j has)) k)) i in
    record {
      mounted = is.mounted;
      order = is.order;
      device = is.device;
      good = is.good;
      blank = is.blank;
      consistent = record {
        updates = more;
        includes = all_of more;
        included = all_of more;
        represents = subst (λ (array : ℕ → Sector). Represents f layer.core array) same is.consistent.represents;
        written = is.consistent.written;
        spare = is.consistent.spare;
      };
    }
