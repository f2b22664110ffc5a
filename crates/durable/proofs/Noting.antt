-- Which page's stamp comes next.
use Rattle.std.proofs.Common.{◌≡◌, ◌≢◌, ⊎_elim, ◌+◌, ◌<◌, ◌≤◌, ◌^◌, ℕ, Option, None, Some, IfSome, sym, ◌∙◌, subst, arith}
use Rattle.std.proofs.lemmas.Bool.{cases_lt}
use Rattle.std.proofs.lemmas.Bool.Decides.{nat_tests}
use Rattle.geometry.specs.declared.page_addr.PageAddr.{PageAddr}
use Rattle.geometry.specs.Sectors.{Sector}
use Rattle.durable.specs.declared.extent.Extent.{Extent}
use Rattle.durable.specs.declared.found.Stamp.{Stamp}
use Rattle.durable.specs.Flash.{Flash, Version}
use Rattle.durable.specs.Mounting.{AreOfDevice, IsStampOf, page_on}
use Rattle.durable.specs.Updates.{LiesWithin}
use Rattle.durable.proofs.Cells.{same_held}
use Rattle.durable.proofs.Scans.{seen_next, seen_wrap}

lies : (blocks : ℕ) (at : PageAddr) → at.block < blocks → page_on blocks at ≡ Some at
lies blocks at lt = grind (arith, nat_tests)

lies_not : (blocks : ℕ) (at : PageAddr) → blocks ≤ at.block → page_on blocks at ≡ None
lies_not blocks at ge = grind (arith, nat_tests)

some_none : (at : PageAddr) → Some at ≢ None
some_none at e = cc e

-- no page is left
pub all_noted : (blocks : ℕ) (at : PageAddr) → page_on blocks at ≡ None → blocks ≤ at.block
all_noted blocks at is = ⊎_elim (λ lt. absurd (some_none at (sym (lies blocks at lt) ∙ is))) (λ ge. ge) (cases_lt at.block blocks)

-- a version of the page has the stamp that is noted of it
own_here : (f : Flash) (b p sectors : ℕ) (told : Option Stamp) → IsStampOf f b p told
    → IfSome told (λ s. LiesWithin sectors s.extent × (s.number + 1 < 2 ^ 64))
    → (e : Extent) (m : ℕ) (v : Sector) → f b p ≡ Version e m v → LiesWithin sectors e × (m + 1 < 2 ^ 64)
own_here f b p sectors None none fits e m v is = absurd (none e m v is)
own_here f b p sectors (Some stamp) known fits e m v is =
    let same = same_held stamp.extent stamp.number known.0 e m v (sym known.1 ∙ is) in
    (subst (λ (x : Extent). LiesWithin sectors x) same.0 fits.0, subst (λ (n : ℕ). n + 1 < 2 ^ 64) same.1 fits.1)

pub own_next : (f : Flash) (pages b p sectors : ℕ) (told : Option Stamp) → AreOfDevice f pages b p sectors → IsStampOf f b p told
    → IfSome told (λ s. LiesWithin sectors s.extent × (s.number + 1 < 2 ^ 64)) → AreOfDevice f pages b (p + 1) sectors
own_next f pages b p sectors told own known fits c q e m v seen is = ⊎_elim
    (λ before. own c q e m v before is)
    (λ here. own_here f b p sectors told known fits e m v (rw (here.0, here.1) at is))
    (seen_next pages b p c q seen)

pub own_wrap : (f : Flash) (pages b p sectors : ℕ) → p + 1 ≡ pages → AreOfDevice f pages b (p + 1) sectors → AreOfDevice f pages (b + 1) 0 sectors
own_wrap f pages b p sectors full own c q e m v seen is = own c q e m v (seen_wrap pages b p c q full seen) is

-- a page is left
pub some_left : (blocks : ℕ) (at : PageAddr) → page_on blocks at ≢ None → at.block < blocks
some_left blocks at some = ⊎_elim (λ lt. lt) (λ ge. absurd (some (lies_not blocks at ge))) (cases_lt at.block blocks)

-- what is said of the next page
pub of_next : (blocks : ℕ) (at : PageAddr) (P : PageAddr → Type 0) → page_on blocks at ≢ None → IfSome (page_on blocks at) P → P at
of_next blocks at P some holds = subst (λ (k : Option PageAddr). IfSome k P) (lies blocks at (some_left blocks at some)) holds
