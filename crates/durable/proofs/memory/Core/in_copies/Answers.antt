use Rattle.std.proofs.Common.{inr, Option, refl, sym, ◌∙◌, ap, subst, arith}
use Rattle.geometry.specs.declared.page_addr.PageAddr.{PageAddr}
use Rattle.durable.specs.Collecting.{page_for_hosts}
use Rattle.durable.specs.Next.{IsFewestBeside}
use Rattle.durable.proofs.Collects.{stuck, fewest_beside}
use Rattle.durable.proofs.Counts.{none_counted}
use Rattle.durable.proofs.Opened.{only_copies_open}
use Rattle.durable.proofs.memory.Core.in_copies.Goals as goal

pub overflow_sub-self : goal.overflow_sub-self
overflow_sub-self c = let on = c.args.self.now.on_device c.args.to (inr c.requires.copies) in omega (arith, on.1)

pub returns-then-is_free_beside-clause-next : goal.returns-then-is_free_beside-clause-next
returns-then-is_free_beside-clause-next c =
    let core = c.args.self.now in
    let victim = c.fewest-victim.result in
    let free = c.if-is_free_beside.ensures.yes refl in (
      ap (λ (k : Option PageAddr). page_for_hosts k core.next_pages.copies) c.requires.hosts ∙ c.requires.copies,
      refl,
      omega (arith, c.if-self-ge18446744073709551615.false),
      (victim, free.1, only_copies_open core.next_pages c.args.to victim c.requires.hosts c.requires.copies free.2, free.0),
    )

pub returns-in-Some-source-clause-next : goal.returns-in-Some-source-clause-next
returns-in-Some-source-clause-next c =
    let core = c.args.self.now in
    let victim = c.fewest-victim.result in
    let found = c.in-Some-source.ensures.found in
    let fewest = fewest_beside core c.args.to.block victim core.counts refl c.fewest-victim.ensures in (
      c.requires.copies,
      found.0,
      found.1,
      (λ full. subst (IsFewestBeside core.blocks core.map.items c.args.to.block) (sym found.2) fewest),
      (λ free.
          let less = fewest free.0 free.1 (free.2 c.args.to (inr c.requires.copies)) in
          absurd (omega (arith, c.if-is_free_beside.ensures.no refl less.0 less.1, less.2, none_counted free.0 core.map.items free.3))),
    )

pub returns-in-None-clause-progress : goal.returns-in-None-clause-progress
returns-in-None-clause-progress c numbers refused =
    let core = c.args.self.now in
    let victim = c.fewest-victim.result in
    stuck core c.args.to victim c.requires.hosts c.requires.copies (c.if-is_free_beside.ensures.no refl)
    (fewest_beside core c.args.to.block victim core.counts refl c.fewest-victim.ensures) (c.source.ensures.none c.in-None.is)
