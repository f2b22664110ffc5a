-- The open blocks and their next pages, before a command and after it.
use Rattle.std.proofs.Common.{◌≡◌, ◌≢◌, ◌⊎◌, inl, inr, ⊎_elim, true, ◌+◌, ◌<◌, ℕ, zero, suc, List, length, Option, None, Some, IfSome, set}
use Rattle.std.proofs.Common.{refl, sym, ◌∙◌, ap, subst, arith}
use Rattle.std.proofs.lemmas.Bool.{cases_eq, cases_lt, eqb-true, false≢true}
use Rattle.geometry.specs.declared.page_addr.PageAddr.{PageAddr}
use Rattle.durable.specs.declared.extent.Extent.{Extent}
use Rattle.durable.specs.declared.next_pages.NextPages.{NextPages}
use Rattle.durable.specs.Collecting.{AreInTwoBlocks, ArePagesOn, IsNotOpen, IsCopied, IsFree, IsOpenAt, IsPageAfter, IsProgrammed, MapsAll, first_page, is_in}
use Rattle.durable.specs.Collecting.{live_in, page_for_hosts}
use Rattle.durable.specs.Next.{HasFree, HasFreeBeside, Opens}
use Rattle.durable.proofs.Counts.{counted_none, kept_in_set, none_counted, weight_elsewhere}
use Rattle.durable.proofs.Extents.{none_all}

pub none_some : (at : PageAddr) → None ≢ Some at
none_some at e = cc e

pub some_same : (at to : PageAddr) → Some at ≡ Some to → at ≡ to
some_same at to e = cc e

pub none_or_some : (k : Option PageAddr) → (k ≡ None) ⊎ ((at : PageAddr) × (k ≡ Some at))
none_or_some None = inl refl
none_or_some (Some at) = inr (at, refl)

pub some_not_none : (k : Option PageAddr) (at : PageAddr) → k ≡ Some at → k ≢ None
some_not_none k at is none = none_some at (sym none ∙ is)

-- an entry that names the block
pub in_block : (b : ℕ) (k : Option PageAddr) → is_in b k ≡ true → (at : PageAddr) × (k ≡ Some at) × (b ≡ at.block)
in_block b None is = absurd (false≢true is)
in_block b (Some at) is = (at, refl, sym (eqb-true at.block b is))

-- no block is open
abbrev pub NoneOpen : NextPages → Type 0
NoneOpen next = (at : PageAddr) → IsOpenAt next at → ⊥

pub none_open : (next : NextPages) → next.hosts ≡ None → next.copies ≡ None → NoneOpen next
none_open next hosts copies at opened = ⊎_elim (λ is. some_not_none next.hosts at is hosts) (λ is. some_not_none next.copies at is copies) opened

pub nothing_open : NoneOpen (record { hosts = None; copies = None })
nothing_open at opened = ⊎_elim (λ is. none_some at is) (λ is. none_some at is) opened

-- the page after one, where there is one
pub page_after_is : (at to : PageAddr) (pages : ℕ) (next : Option PageAddr) → IsPageAfter at pages next → next ≡ Some to → (to.block ≡ at.block) ×
    (to.page ≡ at.page + 1) × (to.page < pages)
page_after_is at to pages next after is = subst (λ (k : Option PageAddr). IfSome k (λ to. (to.block ≡ at.block) × (to.page ≡ at.page + 1) ×
    (to.page < pages))) is after.0

pub page_after_exact : (at : PageAddr) (pages : ℕ) (next : Option PageAddr) → IsPageAfter at pages next → at.page + 1 < pages
    → next ≡ Some (record { block = at.block; page = at.page + 1 })
page_after_exact at pages None after more = absurd (omega (arith, after.1 refl, more))
page_after_exact at pages (Some to) after more = λ i. Some (record { block = after.0.0 i; page = after.0.1 i })

-- what is open after a page was used: the page after it, and what was open in the other block
abbrev pub IsAfter : NextPages → PageAddr → ℕ → NextPages → Type 0
IsAfter old at pages new = (to : PageAddr) → IsOpenAt new to
    → ((to.block ≡ at.block) × (to.page ≡ at.page + 1) × (to.page < pages)) ⊎ (IsOpenAt old to × (to.block ≢ at.block))

which_page : (hosts copies : Option PageAddr) (at : PageAddr) → page_for_hosts hosts copies ≡ Some at
    → (hosts ≡ Some at) ⊎ ((hosts ≡ None) × (copies ≡ Some at))
which_page (Some on) copies at is = inl is
which_page None copies at is = inr (refl, is)

pub is_open : (next : NextPages) (at : PageAddr) → page_for_hosts next.hosts next.copies ≡ Some at → IsOpenAt next at
is_open next at is = ⊎_elim (λ hosts. inl hosts) (λ copies. inr copies.1) (which_page next.hosts next.copies at is)

pub programmed_stays : (old new : NextPages) (at : PageAddr) (pages : ℕ) → page_for_hosts old.hosts old.copies ≡ Some at → IsProgrammed old at pages new
    → at.page + 1 < pages → IsOpenAt new (record { block = at.block; page = at.page + 1 })
programmed_stays old new at pages is used more = ⊎_elim
    (λ hosts. inl (page_after_exact at pages new.hosts (used.0 at hosts).0 more))
    (λ none. inr (page_after_exact at pages new.copies (used.1 none.0).1 more))
    (which_page old.hosts old.copies at is)

-- with only the block of copies open the others are closed
pub only_copies_open : (next : NextPages) (to : PageAddr) (b : ℕ) → next.hosts ≡ None → next.copies ≡ Some to → b ≢ to.block → IsNotOpen next b
only_copies_open next to b hosts copies differs at opened here = ⊎_elim
    (λ is. some_not_none next.hosts at is hosts)
    (λ is. differs (here ∙ sym (ap (λ (x : PageAddr). x.block) (some_same to at (sym copies ∙ is)))))
    opened

module _ (old new : NextPages) (at : PageAddr) (pages : ℕ) (apart : AreInTwoBlocks old) where
  pub after_programmed : page_for_hosts old.hosts old.copies ≡ Some at → IsProgrammed old at pages new → IsAfter old at pages new
  after_programmed is used to opened = ⊎_elim
      (λ hosts. let after = used.0 at hosts in ⊎_elim
      (λ here. inl (page_after_is at to pages new.hosts after.0 here))
      (λ there. let was : old.copies ≡ Some to = sym after.1 ∙ there in inr (inr was, (λ e. apart at to hosts was (sym e))))
      opened)
      (λ none. let after = used.1 none.0 in ⊎_elim
      (λ here. absurd (none_some to (sym after.0 ∙ here)))
      (λ there. inl (page_after_is at to pages new.copies after.1 there))
      opened)
      (which_page old.hosts old.copies at is)

  pub after_copied : old.copies ≡ Some at → IsCopied old at pages new → IsAfter old at pages new
  after_copied is copied to opened = ⊎_elim
      (λ here. let was : old.hosts ≡ Some to = sym copied.0 ∙ here in inr (inl was, apart to at was is))
      (λ there. inl (page_after_is at to pages new.copies copied.1 there))
      opened

  pub apart_programmed : page_for_hosts old.hosts old.copies ≡ Some at → IsProgrammed old at pages new → AreInTwoBlocks new
  apart_programmed is used on to hosts copies = ⊎_elim
      (λ here.
      let after = used.0 at here in
      let e = page_after_is at on pages new.hosts after.0 hosts in
      λ same. apart at to here (sym after.1 ∙ copies) (sym e.0 ∙ same))
      (λ none. absurd (none_some on (sym (used.1 none.0).0 ∙ hosts)))
      (which_page old.hosts old.copies at is)

  pub apart_copied : old.copies ≡ Some at → IsCopied old at pages new → AreInTwoBlocks new
  apart_copied is copied on to hosts copies same =
      let e = page_after_is at to pages new.copies copied.1 copies in
      apart on at (sym copied.0 ∙ hosts) is (same ∙ e.0)

module _ (old new : NextPages) (at : PageAddr) (pages : ℕ) (is : IsOpenAt old at) (after : IsAfter old at pages new) where
  pub stays_closed : (b : ℕ) → IsNotOpen old b → IsNotOpen new b
  stays_closed b closed to opened = ⊎_elim (λ here. λ same. closed at is (same ∙ here.0)) (λ there. closed to there.0) (after to opened)

  pub stays_on : (blocks : ℕ) → ArePagesOn blocks pages old → ArePagesOn blocks pages new
  stays_on blocks on to opened = ⊎_elim
      (λ here. let within = on at is in (omega (arith, within.0, here.0), here.2))
      (λ there. on to there.0)
      (after to opened)

  -- a free block is free still, after a program or a copy
  pub free_programmed : (blocks : ℕ) (map now : List (Option PageAddr)) (e : Extent) → MapsAll map now e at → HasFree blocks map old → HasFree blocks now new
  free_programmed blocks map now e maps free =
      (free.0, free.1, stays_closed free.0 free.2, none_all map now e at free.0 maps free.3 (free.2 at is))

  pub free_copied : (blocks : ℕ) (map : List (Option PageAddr)) (k : ℕ) → k < length map → HasFree blocks map old → HasFree blocks (set map k (Some at)) new
  free_copied blocks map k lt free =
      (free.0, free.1, stays_closed free.0 free.2, counted_none free.0 (set map k (Some at)) (stays_free map k at free.0 lt free.3 (free.2 at is)))
    where
      stays_free : (map : List (Option PageAddr)) (s : ℕ) (at : PageAddr) (b : ℕ) → s < length map → IsFree map b → b ≢ at.block
          → live_in b (set map s (Some at)) ≡ 0
      stays_free map s at b lt free differs =
          omega (arith, kept_in_set b map s (Some at) lt, weight_elsewhere b at (λ e. differs (sym e)), none_counted b map free)

-- after an erase its block is open, beside what was open
module _ (blocks : ℕ) (map : List (Option PageAddr)) (old new : NextPages) (b : ℕ) (opens : Opens blocks map old b new) where
  pub opened_or_first : (to : PageAddr) → IsOpenAt new to → (to ≡ first_page b) ⊎ IsOpenAt old to
  opened_or_first to opened = ⊎_elim
      (λ hosts. ⊎_elim (λ here. inl (some_same to (first_page b) (sym here ∙ hosts.0))) (λ there. inr (inr (sym hosts.1 ∙ there))) opened)
      (λ copies. ⊎_elim (λ here. inr (inl (sym copies.0 ∙ here))) (λ there. inl (some_same to (first_page b) (sym there ∙ copies.1))) opened)
      opens

  pub free_beside : HasFreeBeside blocks map old b → HasFree blocks map new
  free_beside free = (
    free.0,
    free.1,
    λ to opened. ⊎_elim
        (λ first. λ here. free.2 (here ∙ ap (λ (at : PageAddr). at.block) first))
        (λ was. free.3 to was)
        (opened_or_first to opened),
    free.4,
  )

  -- either another block is free still, or only the block of copies is open, and was erased
  pub free_or_copies : ((at : PageAddr) → IsOpenAt old at → HasFreeBeside blocks map old b)
      → HasFree blocks map new ⊎ ((new.hosts ≡ None) × (new.copies ≡ Some (first_page b)))
  free_or_copies other = ⊎_elim
      (λ hosts. inl (free_beside hosts.2))
      (λ copies. ⊎_elim
      (λ none. inr (copies.0 ∙ none, copies.1))
      (λ some. inl (free_beside (other some.0 (inl some.1))))
      (none_or_some old.hosts))
      opens

  pub opens_on : (pages : ℕ) → 0 < pages → b < blocks → ArePagesOn blocks pages old → ArePagesOn blocks pages new
  opens_on pages some lt on to opened = ⊎_elim
      (λ first. (
        omega (arith, lt, ap (λ (at : PageAddr). at.block) first),
        omega (arith, some, ap (λ (at : PageAddr). at.page) first),
      ))
      (λ was. on to was)
      (opened_or_first to opened)

  pub opens_apart : IsNotOpen old b → AreInTwoBlocks new
  opens_apart closed on to hosts copies = ⊎_elim
      (λ mine. λ same. closed to (inr (sym mine.1 ∙ copies)) (ap (λ (at : PageAddr). at.block) (some_same (first_page b) on (sym mine.0 ∙ hosts)) ∙ same))
      (λ mine. λ same. closed on (inl (sym mine.0 ∙ hosts)) (ap (λ (at : PageAddr). at.block) (some_same (first_page b) to (sym mine.1 ∙ copies)) ∙ sym same))
      opens

-- a block with a property that can be tested is free, or each has live pages
module _ (map : List (Option PageAddr)) (P : ℕ → Type 0) (decide : (b : ℕ) → P b ⊎ (P b → ⊥)) where
  free_or_live : (n : ℕ) → ((b : ℕ) × (b < n) × P b × IsFree map b) ⊎ ((b : ℕ) → b < n → P b → 0 < live_in b map)
  free_or_live zero = inr (λ b lt has. absurd (omega (arith, lt)))
  free_or_live (suc n) = ⊎_elim
      (λ found. inl (found.0, omega (arith, found.1), found.2, found.3))
      (λ live. ⊎_elim
      (λ has. ⊎_elim
      (λ none. inl (n, omega arith, has, counted_none n map (omega (arith, none))))
      (λ some. inr (λ b lt its. ⊎_elim
      (λ here. subst (λ (d : ℕ). 0 < live_in d map) (sym here) (omega (arith, some)))
      (λ below. live b (omega (arith, lt, below)) its)
      (cases_eq b n)))
      (cases_lt (live_in n map) 1))
      (λ not. inr (λ b lt its. ⊎_elim
      (λ here. absurd (not (subst P here its)))
      (λ below. live b (omega (arith, lt, below)) its)
      (cases_eq b n)))
      (decide n))
      (free_or_live n)

  pub found : (n : ℕ) → (((b : ℕ) → b < n → P b → 0 < live_in b map) → ⊥) → (b : ℕ) × (b < n) × P b × IsFree map b
  found n some = ⊎_elim (λ free. free) (λ live. absurd (some live)) (free_or_live n)

apart_or_in : (k : Option PageAddr) (b : ℕ) → ((at : PageAddr) → k ≡ Some at → b ≢ at.block) ⊎ (((at : PageAddr) → k ≡ Some at → b ≢ at.block) → ⊥)
apart_or_in None b = inl (λ at is. absurd (none_some at is))
apart_or_in (Some on) b = ⊎_elim
    (λ here. inr (λ all. all on refl here))
    (λ differs. inl (λ at is. λ here. differs (here ∙ sym (ap (λ (x : PageAddr). x.block) (some_same on at is)))))
    (cases_eq b on.block)

pub closed_or_open : (next : NextPages) (b : ℕ) → IsNotOpen next b ⊎ (IsNotOpen next b → ⊥)
closed_or_open next b = ⊎_elim
    (λ hosts. ⊎_elim
    (λ copies. inl (λ at opened. ⊎_elim (hosts at) (copies at) opened))
    (λ not. inr (λ closed. not (λ at is. closed at (inr is))))
    (apart_or_in next.copies b))
    (λ not. inr (λ closed. not (λ at is. closed at (inl is))))
    (apart_or_in next.hosts b)

-- a closed block is free if not all have live pages
pub some_free : (blocks : ℕ) (map : List (Option PageAddr)) (next : NextPages)
    → (((b : ℕ) → b < blocks → IsNotOpen next b → 0 < live_in b map) → ⊥) → HasFree blocks map next
some_free blocks map next = found map (IsNotOpen next) (closed_or_open next) blocks

pub free_or_not : (blocks : ℕ) (map : List (Option PageAddr)) (next : NextPages) → HasFree blocks map next ⊎ (HasFree blocks map next → ⊥)
free_or_not blocks map next = ⊎_elim
    (λ free. inl free)
    (λ live. inr (λ free. omega (arith, live free.0 free.1 free.2, none_counted free.0 map free.3)))
    (free_or_live map (IsNotOpen next) (closed_or_open next) blocks)

pub some_free_beside : (blocks : ℕ) (map : List (Option PageAddr)) (next : NextPages) (avoided : ℕ)
    → (((b : ℕ) → b < blocks → b ≢ avoided → IsNotOpen next b → 0 < live_in b map) → ⊥) → HasFreeBeside blocks map next avoided
some_free_beside blocks map next avoided some =
    let free = found map (λ b. (b ≢ avoided) × IsNotOpen next b) beside blocks (λ live. some (λ b lt differs closed. live b lt (differs, closed))) in
    (free.0, free.1, free.2.0, free.2.1, free.3)
  where
    beside : (b : ℕ) → ((b ≢ avoided) × IsNotOpen next b) ⊎ (((b ≢ avoided) × IsNotOpen next b) → ⊥)
    beside b = ⊎_elim
        (λ here. inr (λ both. both.0 here))
        (λ differs. ⊎_elim (λ closed. inl (differs, closed)) (λ not. inr (λ both. not both.1)) (closed_or_open next b))
        (cases_eq b avoided)
