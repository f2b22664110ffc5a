-- What a look says of a sector.
use Rattle.std.proofs.Common.{◌≡◌, ◌∙◌, ◌<◌, ℕ, Bool, true, false, List, Option, Some, None, Result, Ok}
use Rattle.std.proofs.Common.{refl, sym, ap, subst, arith, if◌then◌else◌}
use Rattle.geometry.specs.declared.answer.Was.{Was}
use Rattle.geometry.specs.declared.answer.Was.TheVariants as was
use Rattle.geometry.specs.declared.answer.Got.{Got}
use Rattle.geometry.specs.declared.page_addr.PageAddr.{PageAddr}
use Rattle.geometry.specs.Sectors.{Sector, was_of}
use Rattle.durable.specs.Flash.{Flash, PageContents, Erased, Torn, Version, HoldsNewest}
use Rattle.durable.specs.Memory.{IsMappedTo, map_entry}
use Rattle.durable.specs.Updates.{Covers, Update, array_after, is_covered, sole}
use Rattle.durable.specs.declared.extent.Extent.{Extent}
use Rattle.durable.proofs.Extents.{covered}
use Rattle.nand.specs.declared.failure.Failure.{Failure}
use Rattle.nand.specs.Stored.{AreEmptyBefore, ReadsStored, TellsStored, WereStored, stored_value, told_of, value_at, value_for}
use Rattle.nand.specs.Nand.{ReadsMain, ReadsStamp}
use Rattle.nand.specs.Numbers.{chip_page, numbered}
use Rattle.nand.specs.declared.flash.Reading.TheVariants as outcome
use Rattle.nand.specs.declared.flash.Shape.{Shape}
use Rattle.nand.specs.declared.flash.Stamp.{Stamp}
use Rattle.nand.specs.declared.layer.Durable.{Durable}
use Rattle.nand.specs.Opened.{IsOpenLayer, ReadsSector, layer_sectors}
use Rattle.nand.proofs.Steps.{array_is}

-- a version that a page has of a sector
has_value : (f : Flash) (s : ℕ) (value : Sector) (b p : ℕ) → HoldsNewest f s value b p → value_for (f b p) s ≡ Some value
has_value f s value b p newest =
    ap (λ (page : PageContents). value_for page s) newest.held.1
    ∙ ap (λ (has : Bool). if has then Some value else None) (covered newest.held.0 s newest.held.2.0 newest.held.2.1)

entry_has : (f : Flash) (s : ℕ) (value : Sector) (entry : Option PageAddr) → IsMappedTo f s value entry → value_at f entry s ≡ Some value
entry_has f s value None is = ap Some (sym is.0)
entry_has f s value (Some at) is = has_value f s value at.block at.page is

is_data : (s : ℕ) (bytes : Option Sector) (out : List ℕ) → told_of bytes ≡ Ok was.Written
    → ((value : List ℕ) → bytes ≡ Some (Some value) → out ≡ value) → bytes ≡ Some (Some out)
is_data s None out told main = absurd (cc told)
is_data s (Some None) out told main = absurd (cc told)
is_data s (Some (Some bytes)) out told main = ap (λ (x : List ℕ). Some (Some x)) (sym (main bytes refl))

main_of : (e : Extent) (n s : ℕ) (value : Sector) (has : Bool) (bytes out : List ℕ) → ReadsMain (Version e n value) out
    → (if has then Some value else None) ≡ Some (Some bytes) → out ≡ bytes
main_of e n s (Some there) true bytes out main is = main ∙ cc is
main_of e n s None true bytes out main is = absurd (cc is)
main_of e n s value false bytes out main is = absurd (cc is)

reads_main : (page : PageContents) (s : ℕ) (bytes out : List ℕ) → ReadsMain page out → value_for page s ≡ Some (Some bytes) → out ≡ bytes
reads_main (Version e n value) s bytes out main is = main_of e n s value (is_covered e s) bytes out main is
reads_main Erased s bytes out main is = absurd (cc is)
reads_main Torn s bytes out main is = absurd (cc is)

-- the bytes that were read from a page that has a value of the sector
pub data_in : (page : PageContents) (s : ℕ) (out : List ℕ) → told_of (value_for page s) ≡ Ok was.Written → ReadsMain page out
    → value_for page s ≡ Some (Some out)
data_in page s out told main = is_data s (value_for page s) out told (λ bytes is. reads_main page s bytes out main is)

-- a sector that was told to be empty
pub empty_there : (has : Option Sector) → told_of has ≡ Ok was.Empty → has ≡ Some None
empty_there None told = absurd (cc told)
empty_there (Some None) told = refl
empty_there (Some (Some bytes)) told = absurd (cc told)

-- what is told of one sector
none_before : (has : ℕ → Option Sector) (s : ℕ) → AreEmptyBefore has (sole s) s
none_before has s j le lt = absurd (omega (arith, le, lt))

tells_as : (has : ℕ → Option Sector) (s : ℕ) (value : Option Sector) → has s ≡ value → TellsStored has (sole s) (told_of value)
tells_as has s None is = (s, (omega arith, omega arith), none_before has s, is)
tells_as has s (Some None) is = λ k on. subst (λ (j : ℕ). has j ≡ Some None) (omega (arith, on.0, on.1)) is
tells_as has s (Some (Some bytes)) is = (s, (omega arith, omega arith), none_before has s, bytes, is)

pub tells : (has : ℕ → Option Sector) (s : ℕ) (result : Result Was Failure) → result ≡ told_of (has s) → TellsStored has (sole s) result
tells has s result is = subst (TellsStored has (sole s)) (sym is) (tells_as has s (has s) refl)

-- one sector of an extent
module _ (has before : ℕ → Option Sector) (e : Extent) (s : ℕ) (on : Covers e s) (same : (k : ℕ) → has k ≡ before k)
    (first : AreEmptyBefore before e s) where
  there : (value : Option Sector) (k : ℕ) → Covers (sole s) k → has k ≡ value → before s ≡ value
  there value k at is = sym (same s) ∙ subst (λ (j : ℕ). has j ≡ value) (omega (arith, at.0, at.1)) is

  pub empty_within : WereStored has (sole s) was.Empty → before s ≡ Some None
  empty_within empty = sym (same s) ∙ empty s (omega arith, omega arith)

-- what a layer has of a sector
module _ {N : Type 0} (flash : N → Flash) (layer : Durable N) (s : ℕ) where
  pub no_page : (entry : Option PageAddr) → entry ≡ map_entry layer.core s → entry ≡ None → stored_value flash layer s ≡ Some None
  no_page entry is none =
      ap (λ (at : Option PageAddr). value_at (numbered layer.numbers.items (flash layer.nand)) at s) (sym is ∙ none)

  pub in_page : (entry : Option PageAddr) → entry ≡ map_entry layer.core s → (at : PageAddr) → entry ≡ Some at → (ns : List ℕ)
      → ns ≡ layer.numbers.items → (place : PageAddr) → place ≡ chip_page ns at
      → stored_value flash layer s ≡ value_for (flash layer.nand place.block place.page) s
  in_page entry is at some ns same place placed =
      ap (λ (x : Option PageAddr). value_at (numbered layer.numbers.items (flash layer.nand)) x s) (sym is ∙ some)
      ∙ ap (λ (x : PageAddr). value_for (flash layer.nand x.block x.page) s) (sym (placed ∙ ap (λ (order : List ℕ). chip_page order at) same))

  -- an open layer has the array
  module _ (shape : N → Shape) (bad : N → List Bool) (updates : List Update) (is : IsOpenLayer flash shape bad layer updates)
      (lt : s < layer_sectors layer) where
    pub in_array : stored_value flash layer s ≡ Some (array_after updates s)
    in_array =
        let f = numbered layer.numbers.items (flash layer.nand) in
        let whole = is.consistent in
        entry_has f s (array_after whole.updates s) (map_entry layer.core s) (whole.represents.mapped s lt)
        ∙ ap Some (array_is f layer.core updates whole s)

    pub gives : (got : Got) (out : List ℕ) → ReadsStored (stored_value flash layer s) got out → ReadsSector (array_after updates s) got out
    gives got out reads = subst (λ (has : Option Sector). ReadsStored has got out) in_array reads

    pub told_there : (result : Result Was Failure) → result ≡ told_of (stored_value flash layer s) → result ≡ Ok (was_of (array_after updates s))
    told_there result told = told ∙ ap told_of in_array

-- a page that is read as a version has one
pub has_version : (f : Flash) (b p : ℕ) (page : PageContents) (stamp : Stamp) → f b p ≡ page → ReadsStamp page (outcome.Version stamp)
    → (e : Extent) × (m : ℕ) × (v : Sector) × (f b p ≡ Version e m v)
has_version f b p (Version e m v) stamp is reads = (e, m, v, is)
has_version f b p Erased stamp is reads = absurd reads
has_version f b p Torn stamp is reads = absurd reads
