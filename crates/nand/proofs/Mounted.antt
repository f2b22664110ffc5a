-- What a mount reads, and that it comes to its end.
use Rattle.std.proofs.Common.{◌≡◌, ◌≢◌, ◌⊎◌, inl, inr, ⊎_elim, ◌+◌, ◌-◌, ◌*◌, ◌<◌, ◌≤◌, ◌∙◌, ℕ, zero, suc, Option}
use Rattle.std.proofs.Common.{Some, None, IfSome, refl, sym, ap, subst, arith}
use Rattle.std.proofs.lemmas.Bool.{cases_lt}
use Rattle.std.proofs.lemmas.Bool.Decides.{nat_tests}
use Rattle.geometry.specs.Sectors.{Sector}
use Rattle.geometry.specs.declared.page_addr.PageAddr.{PageAddr}
use Rattle.durable.specs.declared.extent.Extent.{Extent}
use Rattle.durable.specs.Flash.{Flash, PageContents, Erased, Torn, Version}
use Rattle.durable.specs.Mounting.{IsStampOf, next_in}
use Rattle.durable.specs.Collecting.{HasCapacity}
use Rattle.durable.specs.declared.fault.MountFault.TheVariants as mount_fault
use Rattle.durable.specs.declared.found.Stamp.{Stamp as Noted}
use Rattle.durable.specs.declared.mount.Mount.{Mount}
use Rattle.durable.proofs.Cells.{erased_holds_none, torn_holds_none}
use Rattle.nand.specs.declared.failure.OpenFailure.{OpenFailure}
use Rattle.nand.specs.declared.failure.OpenFailure.TheVariants as why
use Rattle.nand.specs.declared.flash.Reading.{Reading}
use Rattle.nand.specs.declared.flash.Reading.TheVariants as outcome
use Rattle.nand.specs.Nand.{ReadsStamp, IsNoVersion, noted_of}
use Rattle.nand.specs.Opened.{NumbersBelow}
use Rattle.durable.specs.Candidates.{number_above}

-- a page that is read as no version is none
none_noted : (f : Flash) (b p : ℕ) (reading : Reading) → IsNoVersion reading → ((s : Extent) (m : ℕ) (v : Sector) → f b p ≡ Version s m v → ⊥)
    → IsStampOf f b p (noted_of reading)
none_noted f b p (outcome.Version stamp) none holds = absurd none
none_noted f b p outcome.Erased none holds = holds
none_noted f b p outcome.Unreadable none holds = holds

noted_at : (f : Flash) (b p : ℕ) (page : PageContents) → f b p ≡ page → (reading : Reading) → ReadsStamp page reading → IsStampOf f b p (noted_of reading)
noted_at f b p (Version s n v) is reading reads = subst (λ (x : Reading). IsStampOf f b p (noted_of x)) (sym reads) (v, is, refl)
noted_at f b p Erased is reading reads = none_noted f b p reading reads (λ s m v e. erased_holds_none s m v (sym is ∙ e))
noted_at f b p Torn is reading reads = none_noted f b p reading reads (λ s m v e. torn_holds_none s m v (sym is ∙ e))

-- the stamp that is noted is the page's
pub noted : (f : Flash) (b p : ℕ) (reading : Reading) → ReadsStamp (f b p) reading → IsStampOf f b p (noted_of reading)
noted f b p reading reads = noted_at f b p (f b p) refl reading reads

bounded : (f : Flash) (n next b p : ℕ) (told : Option Noted) → NumbersBelow f n → next ≤ n → IsStampOf f b p told → number_above next told ≤ n
bounded f n next b p None below le is = le
bounded f n next b p (Some stamp) below le is = omega (arith, le, below b p stamp.extent stamp.number is.0 is.1)

-- a bound of all numbers is one of the next number too, once the page that comes next is noted
pub next_bounded : (f : Flash) (n next new : ℕ) (here : Option PageAddr) (at : PageAddr) (told : Option Noted) → here ≡ Some at
    → IfSome here (λ a. IsStampOf f a.block a.page told) → new ≡ number_above next told → NumbersBelow f n → next ≤ n → new ≤ n
next_bounded f n next new here at told is known number below le =
    let stamp : IsStampOf f at.block at.page told = subst (λ (x : Option PageAddr). IfSome x (λ a. IsStampOf f a.block a.page told)) is known in
    omega (arith, number, bounded f n next at.block at.page told below le stamp)

pub one_block : (blocks block pages : ℕ) → block < blocks → (blocks - block) * pages ≡ (blocks - (block + 1)) * pages + pages
one_block blocks block pages lt = ap (λ (k : ℕ). k * pages) {x = blocks - block} {y = (blocks - (block + 1)) + 1} (omega arith) ∙ grind arith

-- the page that comes next is the mount's, and lies on the device
some_same : (a b : PageAddr) → Some a ≡ Some b → a ≡ b
some_same a b e = cc e

none_some : (a : PageAddr) → None ≢ Some a
none_some a e = cc e

pub next_is : (mount : Mount) (at : PageAddr) → next_in mount ≡ Some at
    → (mount.block < mount.read_blocks) × (at ≡ record { block = mount.block; page = mount.page })
next_is mount at is = ⊎_elim
    (λ under.
    let here : PageAddr = record { block = mount.block; page = mount.page } in
    let there : next_in mount ≡ Some here = grind (arith, nat_tests) in
    (under, some_same at here (sym is ∙ there)))
    (λ past. let none : next_in mount ≡ None = grind (arith, nat_tests) in absurd (none_some at (sym none ∙ is)))
    (cases_lt mount.block mount.read_blocks)

-- a device with room has blocks
pub has_blocks : (sectors blocks pages : ℕ) → HasCapacity sectors blocks pages → 0 < blocks
has_blocks sectors zero pages capacity = absurd (omega (arith, capacity))
has_blocks sectors (suc blocks) pages capacity = omega arith

-- what is left where the chip's flash is no cause
pub remaining_causes : (cause : OpenFailure) → cause ≢ why.Refused mount_fault.TooManySectors → cause ≢ why.Refused mount_fault.ForeignStamp
    → cause ≢ why.Refused mount_fault.NoFreeBlock → (cause ≡ why.PowerGone) ⊎ (cause ≡ why.Refused mount_fault.OutOfMemory)
remaining_causes why.PowerGone room foreign free = inl refl
remaining_causes (why.Refused mount_fault.TooManySectors) room foreign free = absurd (room refl)
remaining_causes (why.Refused mount_fault.ForeignStamp) room foreign free = absurd (foreign refl)
remaining_causes (why.Refused mount_fault.NoFreeBlock) room foreign free = absurd (free refl)
remaining_causes (why.Refused mount_fault.OutOfMemory) room foreign free = inr refl
