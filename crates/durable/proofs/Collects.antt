-- There is room to collect after each command, and what is left of a call is enough for it.
use Rattle.std.proofs.Common.{get_or, ◌≡◌, ◌≢◌, ◌⊎◌, inl, inr, ⊎_elim, ◌+◌, ◌-◌, ◌*◌, ◌<◌, ◌≤◌, ℕ, zero, suc, List, length, Option, None, Some, set, refl, sym}
use Rattle.std.proofs.Common.{◌∙◌, ap, subst, arith}
use Rattle.std.proofs.lemmas.Bool.{cases_eq}
use Rattle.geometry.specs.declared.page_addr.PageAddr.{PageAddr}
use Rattle.durable.specs.declared.extent.Extent.{Extent}
use Rattle.durable.specs.declared.command.Command.{Command}
use Rattle.durable.specs.declared.command.Command.TheVariants.{Program, Copy, Erase, Refused}
use Rattle.durable.specs.declared.memory.Core.{Core}
use Rattle.durable.specs.declared.next_pages.NextPages.{NextPages}
use Rattle.durable.specs.Collecting.{AreInTwoBlocks, ArePagesOn, CanCollect, IsCopied, IsEnough, IsFree, IsProgrammed, MapsAll, first_page, live_in, weight}
use Rattle.durable.specs.Next.{HasFree, IsFewestBeside, IsRoomy, Opens}
use Rattle.durable.specs.Choice.{IsNextCommand}
use Rattle.durable.proofs.Counts.{weight_here, weight_elsewhere, kept_in_set, kept_there, none_counted, other_has_room}
use Rattle.durable.proofs.Done.{Becomes}
use Rattle.durable.proofs.Opened.{after_copied, after_programmed, apart_copied, apart_programmed, free_copied, free_or_copies, free_or_not, free_programmed}
use Rattle.durable.proofs.Opened.{free_beside, is_open}
use Rattle.durable.proofs.Opened.{none_or_some, none_some, opens_apart, opens_on, page_after_is, some_free, some_not_none, some_same, stays_on}

-- with a free block there is room to collect
pub free_collects : (map : List (Option PageAddr)) (blocks pages : ℕ) (next : NextPages) → HasFree blocks map next → ArePagesOn blocks pages next
    → CanCollect map blocks pages next
free_collects map blocks pages next free on =
    let none = none_counted free.0 map free.3 in (
      (λ hosts live. omega (arith, live free.0 free.1 free.2, none)),
      (λ hosts copies live. omega (arith, live free.0 free.1 free.2, none)),
      (λ to hosts copies full. omega (arith, full free.0 free.1 (free.2 to (inr copies)), none, (on to (inr copies)).1)),
    )

-- a block of a device with room has pages
pub some_pages : (blocks pages sectors : ℕ) → sectors < (blocks - 1) * pages → 0 < pages
some_pages blocks zero sectors few = absurd (omega (arith, few))
some_pages blocks (suc pages) sectors few = omega arith

-- while a block is open for hosts, another one is free
pub free_beside_hosts : (core : Core) → core.next_pages.hosts ≢ None → HasFree core.blocks core.map.items core.next_pages
free_beside_hosts core some = some_free core.blocks core.map.items core.next_pages (core.can_collect.0 some)

-- so with none free there is none
none_beside_full : (core : Core) → (HasFree core.blocks core.map.items core.next_pages → ⊥) → core.next_pages.hosts ≡ None
none_beside_full core full = ⊎_elim
    (λ none. none)
    (λ some. absurd (full (free_beside_hosts core (some_not_none core.next_pages.hosts some.0 some.1))))
    (none_or_some core.next_pages.hosts)

module _ (core : Core) (s : Extent) where
  pub program_collects : (at : PageAddr) (n : ℕ) (map : List (Option PageAddr)) (next : NextPages) → IsNextCommand core (Program at n)
      → MapsAll core.map.items map s at → IsProgrammed core.next_pages at core.pages next → CanCollect map core.blocks core.pages next
  program_collects at n map next is maps used =
      let opened = is_open core.next_pages at is.0 in
      let after = after_programmed core.next_pages next at core.pages core.apart is.0 used in
      free_collects map core.blocks core.pages next
      (free_programmed core.next_pages next at core.pages opened after core.blocks core.map.items map s maps is.3)
      (stays_on core.next_pages next at core.pages opened after core.blocks core.on_device)

  module _ (k : ℕ) (from to : PageAddr) (is : IsNextCommand core (Copy k from to)) where
    either : HasFree core.blocks core.map.items core.next_pages ⊎ (HasFree core.blocks core.map.items core.next_pages → ⊥)
    either = free_or_not core.blocks core.map.items core.next_pages

    -- where none is free the victim has a live page, so the block of copies is not full after it
    pub not_last : core.next_pages.hosts ≡ None → to.page + 1 ≡ core.pages → ⊥
    not_last none e = ⊎_elim
        (λ free. omega (arith, e, (is.4 free).4 none))
        (λ full. core.can_collect.2 to none is.0 (λ b lt differs.
        omega (arith, e, (is.3 full b lt differs).2, kept_there from.block core.map.items k from is.1 is.2 refl)))
        either

    pub copy_apart : from.block ≢ to.block
    copy_apart = ⊎_elim
        (λ free. (is.4 free).0 to (inr is.0))
        (λ full. λ e. core.can_collect.2 to (none_beside_full core full) is.0 (λ b lt differs. absurd ((is.3 full b lt differs).1 e)))
        either

    copied_out : live_in from.block (set core.map.items k (Some to)) + 1 ≡ live_in from.block core.map.items
    copied_out = omega (
      arith,
      kept_in_set from.block core.map.items k (Some to) is.1,
      ap (weight from.block) is.2,
      weight_here from.block from refl,
      weight_elsewhere from.block to (λ e. copy_apart (sym e)),
    )

    pub copy_collects : (next : NextPages) → IsCopied core.next_pages to core.pages next
        → CanCollect (set core.map.items k (Some to)) core.blocks core.pages next
    copy_collects next copied = ⊎_elim
        (λ free.
        let after = after_copied core.next_pages next to core.pages core.apart is.0 copied in
        free_collects (set core.map.items k (Some to)) core.blocks core.pages next
        (free_copied core.next_pages next to core.pages (inr is.0) after core.blocks core.map.items k is.1 free)
        (stays_on core.next_pages next to core.pages (inr is.0) after core.blocks core.on_device))
        (λ full. let none = none_beside_full core full in (
          (λ some. absurd (some (copied.0 ∙ none))),
          (λ hosts closed live. not_last none (copied.1.1 closed)),
          (λ on hosts opened all.
              let e = page_after_is to on core.pages next.copies copied.1 opened in
              core.can_collect.2 to none is.0 (λ b lt differs.
              let victim = is.3 full b lt differs in
              omega (arith, all from.block victim.0 (λ here. victim.1 (here ∙ e.0)), victim.2, copied_out, e.1))),
        ))
        either

    -- while a block is open and another one is free, this stays so
    pub roomy_copied : (next : NextPages) → IsCopied core.next_pages to core.pages next → IsRoomy core.blocks core.map.items core.next_pages
        → IsRoomy core.blocks (set core.map.items k (Some to)) next
    roomy_copied next copied roomy = (
      ⊎_elim
          (λ none. ⊎_elim
          (λ closed. absurd (not_last none (copied.1.1 closed)))
          (λ on. (on.0, inr on.1))
          (none_or_some next.copies))
          (λ some. (some.0, inl (copied.0 ∙ some.1)))
          (none_or_some core.next_pages.hosts),
      free_copied core.next_pages next to core.pages (inr is.0) (after_copied core.next_pages next to core.pages core.apart is.0 copied) core.blocks
          core.map.items k is.1 roomy.1,
    )

    -- what is left is enough still
    pub copy_enough : (next : NextPages) (left : ℕ) → IsCopied core.next_pages to core.pages next → left + 1 ≤ core.pages → left + 1 ≤ core.left
        → ((left + 1 ≡ core.pages) ⊎ (left + 1 ≡ core.left)) → IsEnough core.pages next left
    copy_enough next left copied most less as_many = ⊎_elim
        (λ none.
        let more = core.enough.3 to none is.0 in
        let on = core.on_device to (inr is.0) in
        let room : to.page + 1 < core.pages = ⊎_elim (λ e. absurd (not_last none e)) (λ differs. omega (arith, differs, on.1))
        (cases_eq (to.page + 1) core.pages) in (
          ⊎_elim (λ e. omega (arith, e, room)) (λ e. omega (arith, e, more, room)) as_many,
          omega (arith, most),
          (λ hosts closed. absurd (not_last none (copied.1.1 closed))),
          (λ on hosts opened.
              let e = page_after_is to on core.pages next.copies copied.1 opened in
              ⊎_elim (λ same. omega (arith, same, e.1)) (λ same. omega (arith, same, more, e.1)) either),
        ))
        (λ some.
        let some_hosts = some_not_none core.next_pages.hosts some.0 some.1 in
        let room = is.4 (free_beside_hosts core some_hosts) in (
          ⊎_elim (λ e. omega (arith, e, room.2)) (λ e. omega (arith, e, room.1)) as_many,
          omega (arith, most),
          (λ hosts closed. absurd (some_hosts (sym copied.0 ∙ hosts))),
          (λ on hosts opened. absurd (some_hosts (sym copied.0 ∙ hosts))),
        ))
        (none_or_some core.next_pages.hosts)

  module _ (b : ℕ) (next : NextPages) (is : IsNextCommand core (Erase b)) (opens : Opens core.blocks core.map.items core.next_pages b next) where
    on_after : ArePagesOn core.blocks core.pages next
    on_after = opens_on core.blocks core.map.items core.next_pages next b opens core.pages
        (some_pages core.blocks core.pages (length core.map.items) core.has_capacity) is.1 core.on_device

    pub erase_collects : CanCollect core.map.items core.blocks core.pages next
    erase_collects = ⊎_elim
        (λ free. free_collects core.map.items core.blocks core.pages next free on_after)
        (λ copies.
        let found = other_has_room core.blocks core.pages b core.map.items core.has_capacity in (
          (λ some. absurd (some copies.0)),
          (λ hosts closed. absurd (none_some (first_page b) (sym closed ∙ copies.1))),
          (λ to hosts opened full.
              let e : first_page b ≡ to = some_same (first_page b) to (sym copies.1 ∙ opened) in
              omega (
                arith,
                full found.0 found.1 (λ here. found.2 (here ∙ sym (ap (λ (at : PageAddr). at.block) e))),
                found.3,
                ap (λ (at : PageAddr). at.page) e,
              )),
        ))
        (free_or_copies core.blocks core.map.items core.next_pages next b opens is.5)

    pub erase_enough : IsEnough core.pages next core.pages
    erase_enough = (
      some_pages core.blocks core.pages (length core.map.items) core.has_capacity,
      omega arith,
      (λ hosts copies. ⊎_elim
          (λ mine. absurd (none_some (first_page b) (sym hosts ∙ mine.0)))
          (λ mine. absurd (none_some (first_page b) (sym copies ∙ mine.1)))
          opens),
      (λ to hosts copies. omega arith),
    )

    pub roomy_erased : IsRoomy core.blocks core.map.items core.next_pages → IsRoomy core.blocks core.map.items next
    roomy_erased roomy = (
      ⊎_elim (λ hosts. (first_page b, inl hosts.0)) (λ copies. (first_page b, inr copies.1)) opens,
      free_beside core.blocks core.map.items core.next_pages next b opens (is.5 roomy.0.0 roomy.0.1),
    )

  pub collects_after : (m : Command) (map : List (Option PageAddr)) (number : ℕ) (next : NextPages) → IsNextCommand core m
      → Becomes core s m map number next → CanCollect map core.blocks core.pages next
  collects_after (Program at n) map number next is becomes = program_collects at n map next is becomes.0 becomes.2
  collects_after (Copy k from to) map number next is becomes = subst (λ (m : List (Option PageAddr)). CanCollect m core.blocks core.pages next)
      (sym becomes.0)
      (copy_collects k from to is next becomes.2)
  collects_after (Erase b) map number next is becomes = subst (λ (m : List (Option PageAddr)). CanCollect m core.blocks core.pages next) (sym becomes.0)
      (erase_collects b next is becomes.2)
  collects_after Refused map number next is becomes = subst (λ (m : List (Option PageAddr)). CanCollect m core.blocks core.pages next) (sym becomes.0)
      (subst (CanCollect core.map.items core.blocks core.pages) (sym becomes.2) core.can_collect)

  -- the next pages are on the device, and in two blocks
  pub on_device_after : (m : Command) (map : List (Option PageAddr)) (number : ℕ) (next : NextPages) → IsNextCommand core m
      → Becomes core s m map number next → ArePagesOn core.blocks core.pages next
  on_device_after (Program at n) map number next is becomes =
      stays_on core.next_pages next at core.pages (is_open core.next_pages at is.0)
      (after_programmed core.next_pages next at core.pages core.apart is.0 becomes.2) core.blocks core.on_device
  on_device_after (Copy k from to) map number next is becomes =
      stays_on core.next_pages next to core.pages (inr is.0) (after_copied core.next_pages next to core.pages core.apart is.0 becomes.2) core.blocks
      core.on_device
  on_device_after (Erase b) map number next is becomes = on_after b next is becomes.2
  on_device_after Refused map number next is becomes = subst (ArePagesOn core.blocks core.pages) (sym becomes.2) core.on_device

  pub apart_after : (m : Command) (map : List (Option PageAddr)) (number : ℕ) (next : NextPages) → IsNextCommand core m
      → Becomes core s m map number next → AreInTwoBlocks next
  apart_after (Program at n) map number next is becomes = apart_programmed core.next_pages next at core.pages core.apart is.0 becomes.2
  apart_after (Copy k from to) map number next is becomes = apart_copied core.next_pages next to core.pages core.apart is.0 becomes.2
  apart_after (Erase b) map number next is becomes = opens_apart core.blocks core.map.items core.next_pages next b becomes.2 is.3
  apart_after Refused map number next is becomes = subst AreInTwoBlocks (sym becomes.2) core.apart

-- with only the block of copies open, the block with the fewest live pages beside it is not free if it has some
pub stuck : (core : Core) (to : PageAddr) (victim : ℕ) → core.next_pages.hosts ≡ None → core.next_pages.copies ≡ Some to
    → (victim < core.blocks → victim ≢ to.block → 0 < live_in victim core.map.items)
    → IsFewestBeside core.blocks core.map.items to.block victim → IsFree core.map.items victim → ⊥
stuck core to victim hosts copies live fewest free = core.can_collect.2 to hosts copies (λ b lt differs.
    let found = fewest b lt differs in
    absurd (omega (arith, live found.0 found.1, none_counted victim core.map.items free)))

-- the block with the least count has the fewest live pages
pub fewest_beside : (core : Core) (opened victim : ℕ) (counts : List ℕ) → counts ≡ core.counts
    → ((b : ℕ) → b < length counts → b ≢ opened → (victim < length counts) × (victim ≢ opened) × (get_or counts victim 0 ≤ get_or counts b 0))
    → IsFewestBeside core.blocks core.map.items opened victim
fewest_beside core opened victim counts is fewest b lt differs =
    let size : length counts ≡ core.blocks = ap length is ∙ core.counts_sized in
    let found = fewest b (omega (arith, lt, size)) differs in
    let victim_in : victim < length core.counts = omega (arith, found.0, ap length is) in
    let b_in : b < length core.counts = omega (arith, lt, core.counts_sized) in (
      omega (arith, found.0, size),
      found.1,
      omega (
        arith,
        found.2,
        core.counted victim victim_in,
        core.counted b b_in,
        ap (λ (xs : List ℕ). get_or xs victim 0) is,
        ap
            (λ (xs : List ℕ). get_or xs b 0) is,
      ),
    )
