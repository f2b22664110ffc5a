use Rattle.std.proofs.Common.{rules, ◌≡◌, ◌⊎◌, ◌<◌, ◌^◌, ◌+◌, ◌-◌, ℕ, min, inl, ⊎_elim, List, length, Option, Some, inr, refl, sym, ◌∙◌, ap, subst, arith}
use Rattle.std.proofs.lemmas.Bool.{cases_lt, false≢true}
use Rattle.std.proofs.lemmas.List.{length-set}
use Rattle.durable.specs.Collecting.{AreLiveCounts, HasCapacity, IsEnough}
use Rattle.geometry.specs.declared.page_addr.PageAddr.{PageAddr}
use Rattle.durable.specs.Choice.{IsNextCommand, StaysOpen}
use Rattle.durable.specs.Commands.{is_program}
use Rattle.durable.specs.Next.{IsRoomy}
use Rattle.durable.specs.declared.command.Command.{Command}
use Rattle.durable.proofs.Done.{Becomes}
use Rattle.durable.proofs.Collects.{apart_after, collects_after, copy_enough, erase_enough, on_device_after, roomy_copied, roomy_erased}
use Rattle.durable.proofs.Collects.{some_pages}
use Rattle.durable.proofs.Opened.{is_open, programmed_stays}
use Rattle.durable.proofs.Promises.{acknowledges}
use Rattle.durable.proofs.Whole.{remains_whole}
use Rattle.durable.proofs.memory.Core.done.Goals as goal

pub remap_all-requires-clause-packable : goal.remap_all-requires-clause-packable
remap_all-requires-clause-packable c =
    let core = c.args.self.now in
    let next = subst (IsNextCommand core) c.in-Program.is c.requires.next in
    let on = core.on_device c.in-Program.at (is_open core.next_pages c.in-Program.at next.0) in search (rules, on)

pub programmed-self-requires : goal.programmed-self-requires
programmed-self-requires c =
    let core = c.args.self.now in
    let next = subst (IsNextCommand core) c.in-Program.is c.requires.next in
    (core.on_device c.in-Program.at (is_open core.next_pages c.in-Program.at next.0)).1

pub remap-requires-clause-packable : goal.remap-requires-clause-packable
remap-requires-clause-packable c =
    let core = c.args.self.now in
    let next = subst (IsNextCommand core) c.in-Copy.is c.requires.next in
    let on = core.on_device c.in-Copy.to (inr next.0) in search (rules, on)

pub copied-self-requires : goal.copied-self-requires
copied-self-requires c =
    let core = c.args.self.now in
    let next = subst (IsNextCommand core) c.in-Copy.is c.requires.next in
    (core.on_device c.in-Copy.to (inr next.0)).1

pub invariant_of-self-in-Copy-clause-enough : goal.invariant_of-self-in-Copy-clause-enough
invariant_of-self-in-Copy-clause-enough c =
    let core = c.args.self.now in
    let next = subst (IsNextCommand core) c.in-Copy.is c.requires.next in
    let left : c.min.result ≡ min core.left core.pages = c.min.ensures ∙ ap (min core.left) c.from-in-Copy.ensures in
    let some = some_pages core.blocks core.pages (length core.map.items) core.has_capacity in
    copy_enough core c.args.extent c.in-Copy.sector c.in-Copy.from c.in-Copy.to next c.copied-self.result (c.min.result - 1) c.copied-self.ensures
    (omega (arith, left, core.enough.0, some)) (omega (arith, left, core.enough.0, some)) (least c.min.result core.left core.pages left core.enough.0 some)
  where
    least : (n left pages : ℕ) → n ≡ min left pages → 0 < left → 0 < pages → ((n - 1) + 1 ≡ pages) ⊎ ((n - 1) + 1 ≡ left)
    least n left pages is some more = ⊎_elim (λ less. inr (omega (arith, is, less, some))) (λ most. inl (omega (arith, is, most, more))) (cases_lt left pages)

pub invariant_of-self-clause-on_device : goal.invariant_of-self-clause-on_device
invariant_of-self-clause-on_device c =
    let core = c.args.self.now in
    let map = c.remap_all.new.map.items in
    let next = c.programmed-self.result in
    on_device_after core c.args.extent c.args.command map (c.in-Program.number + 1) next c.requires.next
    (subst (λ (m : Command). Becomes core c.args.extent m map (c.in-Program.number + 1) next) (sym c.in-Program.is)
    (c.remap_all.ensures.map, refl, c.programmed-self.ensures))

pub invariant_of-self-clause-apart : goal.invariant_of-self-clause-apart
invariant_of-self-clause-apart c =
    let core = c.args.self.now in
    let map = c.remap_all.new.map.items in
    let next = c.programmed-self.result in
    apart_after core c.args.extent c.args.command map (c.in-Program.number + 1) next c.requires.next
    (subst (λ (m : Command). Becomes core c.args.extent m map (c.in-Program.number + 1) next) (sym c.in-Program.is)
    (c.remap_all.ensures.map, refl, c.programmed-self.ensures))

pub invariant_of-self-clause-few_sectors : goal.invariant_of-self-clause-few_sectors
invariant_of-self-clause-few_sectors c =
    let core = c.args.self.now in subst (λ (n : ℕ). n < 2 ^ 32)
    (sym c.remap_all.ensures.map.size) core.few_sectors

pub invariant_of-self-clause-has_capacity : goal.invariant_of-self-clause-has_capacity
invariant_of-self-clause-has_capacity c =
    let core = c.args.self.now in
    subst (λ (n : ℕ). HasCapacity n core.blocks core.pages)
    (sym c.remap_all.ensures.map.size) core.has_capacity

pub invariant_of-self-clause-can_collect : goal.invariant_of-self-clause-can_collect
invariant_of-self-clause-can_collect c =
    let core = c.args.self.now in
    let map = c.remap_all.new.map.items in
    let next = c.programmed-self.result in
    collects_after core c.args.extent c.args.command map (c.in-Program.number + 1) next c.requires.next
    (subst (λ (m : Command). Becomes core c.args.extent m map (c.in-Program.number + 1) next) (sym c.in-Program.is)
    (c.remap_all.ensures.map, refl, c.programmed-self.ensures))

pub invariant_of-self-in-Copy-clause-on_device : goal.invariant_of-self-in-Copy-clause-on_device
invariant_of-self-in-Copy-clause-on_device c =
    let core = c.args.self.now in
    let map = c.remap.new.map.items in
    let next = c.copied-self.result in
    on_device_after core c.args.extent c.args.command map core.next_number next c.requires.next
    (subst (λ (m : Command). Becomes core c.args.extent m map core.next_number next) (sym c.in-Copy.is)
    (c.remap.ensures.map, refl, c.copied-self.ensures))

pub invariant_of-self-in-Copy-clause-apart : goal.invariant_of-self-in-Copy-clause-apart
invariant_of-self-in-Copy-clause-apart c =
    let core = c.args.self.now in
    let map = c.remap.new.map.items in
    let next = c.copied-self.result in
    apart_after core c.args.extent c.args.command map core.next_number next c.requires.next
    (subst (λ (m : Command). Becomes core c.args.extent m map core.next_number next) (sym c.in-Copy.is)
    (c.remap.ensures.map, refl, c.copied-self.ensures))

pub invariant_of-self-in-Copy-clause-few_sectors : goal.invariant_of-self-in-Copy-clause-few_sectors
invariant_of-self-in-Copy-clause-few_sectors c =
    let core = c.args.self.now in subst (λ (n : ℕ). n < 2 ^ 32) (sym (ap length c.remap.ensures.map ∙ length-set core.map.items c.in-Copy.sector
    (Some c.in-Copy.to))) core.few_sectors

pub invariant_of-self-in-Copy-clause-has_capacity : goal.invariant_of-self-in-Copy-clause-has_capacity
invariant_of-self-in-Copy-clause-has_capacity c =
    let core = c.args.self.now in
    subst (λ (n : ℕ). HasCapacity n core.blocks core.pages) (sym (ap length c.remap.ensures.map ∙ length-set core.map.items c.in-Copy.sector
    (Some c.in-Copy.to))) core.has_capacity

pub invariant_of-self-in-Copy-clause-can_collect : goal.invariant_of-self-in-Copy-clause-can_collect
invariant_of-self-in-Copy-clause-can_collect c =
    let core = c.args.self.now in
    let map = c.remap.new.map.items in
    let next = c.copied-self.result in
    collects_after core c.args.extent c.args.command map core.next_number next c.requires.next
    (subst (λ (m : Command). Becomes core c.args.extent m map core.next_number next) (sym c.in-Copy.is)
    (c.remap.ensures.map, refl, c.copied-self.ensures))

pub invariant_of-self-in-Erase-clause-counted : goal.invariant_of-self-in-Erase-clause-counted
invariant_of-self-in-Erase-clause-counted c =
    let core = c.args.self.now in subst (λ (counts : List ℕ). AreLiveCounts counts core.map.items) (sym c.erased.ensures) core.counted

pub invariant_of-self-in-Erase-clause-on_device : goal.invariant_of-self-in-Erase-clause-on_device
invariant_of-self-in-Erase-clause-on_device c =
    let core = c.args.self.now in
    let next = c.opened-next_pages.result in
    on_device_after core c.args.extent c.args.command core.map.items core.next_number next c.requires.next
    (subst (λ (m : Command). Becomes core c.args.extent m core.map.items core.next_number next) (sym c.in-Erase.is) (refl, refl, c.opened-next_pages.ensures))

pub invariant_of-self-in-Erase-clause-apart : goal.invariant_of-self-in-Erase-clause-apart
invariant_of-self-in-Erase-clause-apart c =
    let core = c.args.self.now in
    let next = c.opened-next_pages.result in
    apart_after core c.args.extent c.args.command core.map.items core.next_number next c.requires.next
    (subst (λ (m : Command). Becomes core c.args.extent m core.map.items core.next_number next) (sym c.in-Erase.is) (refl, refl, c.opened-next_pages.ensures))

pub invariant_of-self-in-Erase-clause-enough : goal.invariant_of-self-in-Erase-clause-enough
invariant_of-self-in-Erase-clause-enough c =
    let core = c.args.self.now in
    subst (IsEnough core.pages c.opened-next_pages.result) (sym c.from-self.ensures) (erase_enough core c.args.extent c.in-Erase.block
    c.opened-next_pages.result (subst (IsNextCommand core) c.in-Erase.is c.requires.next) c.opened-next_pages.ensures)

pub invariant_of-self-in-Erase-clause-can_collect : goal.invariant_of-self-in-Erase-clause-can_collect
invariant_of-self-in-Erase-clause-can_collect c =
    let core = c.args.self.now in
    let next = c.opened-next_pages.result in
    collects_after core c.args.extent c.args.command core.map.items core.next_number next c.requires.next
    (subst (λ (m : Command). Becomes core c.args.extent m core.map.items core.next_number next) (sym c.in-Erase.is) (refl, refl, c.opened-next_pages.ensures))

pub returns-in-Program-clause-acknowledges : goal.returns-in-Program-clause-acknowledges
returns-in-Program-clause-acknowledges c =
    let core = c.args.self.now in
    acknowledges core _ c.args.extent c.args.command c.requires.within c.requires.next
    (subst (λ (m : Command). Becomes core c.args.extent m c.remap_all.new.map.items (c.in-Program.number + 1) c.programmed-self.result)
    (sym c.in-Program.is) (c.remap_all.ensures.map, refl, c.programmed-self.ensures)) refl refl refl

pub returns-in-Copy-clause-acknowledges : goal.returns-in-Copy-clause-acknowledges
returns-in-Copy-clause-acknowledges c =
    let core = c.args.self.now in
    acknowledges core _ c.args.extent c.args.command c.requires.within c.requires.next
    (subst (λ (m : Command). Becomes core c.args.extent m c.remap.new.map.items core.next_number c.copied-self.result)
    (sym c.in-Copy.is) (c.remap.ensures.map, refl, c.copied-self.ensures)) refl refl refl

pub returns-in-Erase-clause-acknowledges : goal.returns-in-Erase-clause-acknowledges
returns-in-Erase-clause-acknowledges c =
    let core = c.args.self.now in
    acknowledges core _ c.args.extent c.args.command c.requires.within c.requires.next
    (subst (λ (m : Command). Becomes core c.args.extent m core.map.items core.next_number c.opened-next_pages.result)
    (sym c.in-Erase.is) (refl, refl, c.opened-next_pages.ensures)) refl refl refl

pub returns-in-Program-clause-whole : goal.returns-in-Program-clause-whole
returns-in-Program-clause-whole c =
    let core = c.args.self.now in
    remains_whole core _ c.args.extent c.args.command c.requires.next
    (subst (λ (m : Command). Becomes core c.args.extent m c.remap_all.new.map.items (c.in-Program.number + 1) c.programmed-self.result)
    (sym c.in-Program.is) (c.remap_all.ensures.map, refl, c.programmed-self.ensures)) refl

pub returns-in-Copy-clause-whole : goal.returns-in-Copy-clause-whole
returns-in-Copy-clause-whole c =
    let core = c.args.self.now in
    remains_whole core _ c.args.extent c.args.command c.requires.next
    (subst (λ (m : Command). Becomes core c.args.extent m c.remap.new.map.items core.next_number c.copied-self.result)
    (sym c.in-Copy.is) (c.remap.ensures.map, refl, c.copied-self.ensures)) refl

pub returns-in-Erase-clause-whole : goal.returns-in-Erase-clause-whole
returns-in-Erase-clause-whole c =
    let core = c.args.self.now in
    remains_whole core _ c.args.extent c.args.command c.requires.next
    (subst (λ (m : Command). Becomes core c.args.extent m core.map.items core.next_number c.opened-next_pages.result)
    (sym c.in-Erase.is) (refl, refl, c.opened-next_pages.ensures)) refl

pub returns-in-Refused-clause-whole : goal.returns-in-Refused-clause-whole
returns-in-Refused-clause-whole c =
    let core = c.args.self.now in
    remains_whole core _ c.args.extent c.args.command c.requires.next
    (subst (λ (m : Command). Becomes core c.args.extent m core.map.items core.next_number core.next_pages) (sym c.in-Refused.is) (refl, refl, refl)) refl

pub returns-in-Refused-clause-acknowledges : goal.returns-in-Refused-clause-acknowledges
returns-in-Refused-clause-acknowledges c =
    let core = c.args.self.now in
    acknowledges core _ c.args.extent c.args.command c.requires.within c.requires.next
    (subst (λ (m : Command). Becomes core c.args.extent m core.map.items core.next_number core.next_pages) (sym c.in-Refused.is) (refl, refl, refl)) refl refl
    refl

pub returns-in-Program-clause-roomy : goal.returns-in-Program-clause-roomy
returns-in-Program-clause-roomy c other = absurd (false≢true (sym other ∙ ap is_program c.in-Program.is))

pub returns-in-Copy-clause-roomy : goal.returns-in-Copy-clause-roomy
returns-in-Copy-clause-roomy c other roomy =
    let core = c.args.self.now in
    subst (λ (m : List (Option PageAddr)). IsRoomy core.blocks m c.copied-self.result) (sym c.remap.ensures.map)
    (roomy_copied core c.args.extent c.in-Copy.sector c.in-Copy.from c.in-Copy.to (subst (IsNextCommand core) c.in-Copy.is c.requires.next)
    c.copied-self.result c.copied-self.ensures roomy)

pub returns-in-Erase-clause-roomy : goal.returns-in-Erase-clause-roomy
returns-in-Erase-clause-roomy c other roomy =
    let core = c.args.self.now in
    roomy_erased core c.args.extent c.in-Erase.block c.opened-next_pages.result (subst (IsNextCommand core) c.in-Erase.is c.requires.next)
    c.opened-next_pages.ensures roomy

pub returns-in-Program-clause-open : goal.returns-in-Program-clause-open
returns-in-Program-clause-open c =
    let core = c.args.self.now in
    let next = subst (IsNextCommand core) c.in-Program.is c.requires.next in
    subst (λ (m : Command). StaysOpen m core.pages c.programmed-self.result) (sym c.in-Program.is)
    (programmed_stays core.next_pages c.programmed-self.result c.in-Program.at core.pages next.0 c.programmed-self.ensures)
