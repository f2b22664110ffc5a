-- Which sectors an extent has.
use Rattle.std.proofs.Common.{◌≡◌, ◌≢◌, ◌⊎◌, inl, inr, ⊎_elim, ◌+◌, ◌<◌, ◌≤◌, ℕ, true, false, List, Option, Some, sym, ◌∙◌, arith}
use Rattle.std.proofs.Common.{if◌then◌else◌, ◌-◌, refl}
use Rattle.std.proofs.lemmas.Bool.{cases_lt}
use Rattle.std.proofs.lemmas.Bool.Decides.{nat_tests}
use Rattle.geometry.specs.Sectors.{Sector}
use Rattle.geometry.specs.declared.page_addr.PageAddr.{PageAddr}
use Rattle.durable.specs.declared.extent.Extent.{Extent}
use Rattle.durable.specs.Updates.{Covers, is_covered, changed}
use Rattle.durable.specs.Collecting.{IsFree, MapsAll}

-- a sector is one of the extent's, or not
pub cases_covered : (extent : Extent) (k : ℕ) → Covers extent k ⊎ (¬ Covers extent k)
cases_covered extent k = ⊎_elim
    (λ before. inr (λ has. omega (arith, before, has.0)))
    (λ from. ⊎_elim
    (λ below. inl (from, below))
    (λ past. inr (λ has. omega (arith, past, has.1)))
    (cases_lt k (extent.first + extent.count)))
    (cases_lt k extent.first)

pub covered : (extent : Extent) (k : ℕ) → extent.first ≤ k → k < extent.first + extent.count → is_covered extent k ≡ true
covered extent k from below = grind (arith, nat_tests)

before_it : (extent : Extent) (k : ℕ) → k < extent.first → is_covered extent k ≡ false
before_it extent k lt = grind (arith, nat_tests)

past_it : (extent : Extent) (k : ℕ) → extent.first ≤ k → extent.first + extent.count ≤ k → is_covered extent k ≡ false
past_it extent k from past = grind (arith, nat_tests)

pub not_covered : (extent : Extent) (k : ℕ) → ¬ Covers extent k → is_covered extent k ≡ false
not_covered extent k out = ⊎_elim
    (λ before. before_it extent k before)
    (λ from. ⊎_elim
    (λ below. absurd (out (from, below)))
    (λ past. past_it extent k from past)
    (cases_lt k (extent.first + extent.count)))
    (cases_lt k extent.first)

pub changed_here : (array : ℕ → Sector) (extent : Extent) (c : Sector) (k : ℕ) → Covers extent k → changed array extent c k ≡ c
changed_here array extent c k has = λ i. if covered extent k has.0 has.1 i then c else array k

pub changed_elsewhere : (array : ℕ → Sector) (extent : Extent) (c : Sector) (k : ℕ) → ¬ Covers extent k → changed array extent c k ≡ array k
changed_elsewhere array extent c k out = λ i. if not_covered extent k out i then c else array k

some_same : (x y : PageAddr) → Some x ≡ Some y → x ≡ y
some_same x y e = cc e

-- a free block stays free as the sectors of an extent are mapped to another
pub none_all : (old new : List (Option PageAddr)) (extent : Extent) (to : PageAddr) (b : ℕ) → MapsAll old new extent to → IsFree old b → b ≢ to.block
    → IsFree new b
none_all old new extent to b maps none apart = λ s at lt is here. ⊎_elim
    (λ has. apart (sym here ∙ (λ i. (some_same at to (sym is ∙ maps.covered s has) i).block)))
    (λ out. none s at (omega (arith, lt, maps.size)) (sym (maps.others s out) ∙ is) here)
    (cases_covered extent s)

-- the sectors from one to another
abbrev pub until : ℕ → ℕ → Extent
until first end = record { first = first; count = end - first }

-- before the first sector nothing is mapped
pub maps_none : (map : List (Option PageAddr)) (first : ℕ) (to : PageAddr) → MapsAll map map (until first first) to
maps_none map first to = record {
  size = refl;
  covered = λ s has. absurd (omega (arith, has.0, has.1));
  others = λ s out. refl;
}
