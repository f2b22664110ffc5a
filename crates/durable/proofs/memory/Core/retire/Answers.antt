use Rattle.std.proofs.Common.{inl, rules, ◌<◌, ◌^◌, ◌∙◌, ℕ, refl, sym, subst, arith}
use Rattle.std.proofs.lemmas.Bool.{false≢true}
use Rattle.durable.specs.Choice.{IsNextCommand}
use Rattle.durable.specs.Collecting.{HasCapacity, IsFree}
use Rattle.durable.specs.Failures.{Changes}
use Rattle.durable.proofs.Frees.{closed_collects}
use Rattle.durable.proofs.Opened.{is_open, nothing_open}
use Rattle.durable.proofs.Retired.{block_in_use, first_is_free, retires, size_renumbered, spare_is_free, whole_left}
use Rattle.durable.proofs.memory.Core.retire.Goals as goal
use Rattle.durable.proofs.memory.Core.retire.Goals.{in-Refused, in_default}

pub keep-self-requires-clause-program : goal.keep-self-requires-clause-program
keep-self-requires-clause-program c at n is =
    let core = c.args.self.now in
    let next = subst (IsNextCommand core) is c.requires.next in
    let on = core.on_device at (is_open core.next_pages at next.0) in (search (rules, on), omega (arith, next.2))

pub renumber-requires-clause-free : goal.renumber-requires-clause-free
renumber-requires-clause-free c =
    let core = c.args.self.now in
    let unused : IsFree core.map.items c.args.spare = search rules in
    spare_is_free core c.args.left c.args.command c.args.extent c.keep-self.new.map.items c.keep-self.result c.args.spare c.requires.next
    c.keep-self.ensures.keeps c.if-spare-self.false unused

pub invariant_of-self-clause-few_sectors : goal.invariant_of-self-clause-few_sectors
invariant_of-self-clause-few_sectors c =
    let core = c.args.self.now in
    subst (λ (n : ℕ). n < 2 ^ 32)
    (sym (size_renumbered core c.args.left c.args.command c.args.extent c.keep-self.new.map.items c.renumber.new.map.items c.keep-self.result
    c.changed_block.result c.args.spare c.keep-self.ensures.keeps c.renumber.ensures.map)) core.few_sectors

pub invariant_of-self-clause-has_capacity : goal.invariant_of-self-clause-has_capacity
invariant_of-self-clause-has_capacity c =
    let core = c.args.self.now in
    subst (λ (n : ℕ). HasCapacity n core.blocks core.pages)
    (sym (size_renumbered core c.args.left c.args.command c.args.extent c.keep-self.new.map.items c.renumber.new.map.items c.keep-self.result
    c.changed_block.result c.args.spare c.keep-self.ensures.keeps c.renumber.ensures.map)) core.has_capacity

pub invariant_of-self-clause-can_collect : goal.invariant_of-self-clause-can_collect
invariant_of-self-clause-can_collect c =
    let core = c.args.self.now in
    let map = c.keep-self.new.map.items in
    let unused : IsFree core.map.items c.args.spare = search rules in
    let free = spare_is_free core c.args.left c.args.command c.args.extent map c.keep-self.result c.args.spare c.requires.next c.keep-self.ensures.keeps
    c.if-spare-self.false unused in
    let changes : Changes c.args.command c.changed_block.result = c.changed_block.ensures (elim c.match-matches.branch [
      | in-Refused w ↦ absurd (false≢true (sym c.if-matches.false ∙ w.matches-is))
      | in_default w ↦ w.in_default.not-Refused
    ]) in
    closed_collects c.renumber.new.map.items core.blocks core.pages c.changed_block.result
    (block_in_use core c.args.command c.changed_block.result c.requires.next changes)
    (first_is_free map c.renumber.new.map.items c.changed_block.result c.args.spare c.renumber.ensures.map free)

pub returns-clause-retires : goal.returns-clause-retires
returns-clause-retires c done =
    let core = c.args.self.now in
    let map = c.keep-self.new.map.items in
    let unused : IsFree core.map.items c.args.spare = search rules in
    let free = spare_is_free core c.args.left c.args.command c.args.extent map c.keep-self.result c.args.spare c.requires.next c.keep-self.ensures.keeps
    c.if-spare-self.false unused in
    let changes : Changes c.args.command c.changed_block.result = c.changed_block.ensures (elim c.match-matches.branch [
      | in-Refused w ↦ absurd (false≢true (sym c.if-matches.false ∙ w.matches-is))
      | in_default w ↦ w.in_default.not-Refused
    ]) in
    retires core _ c.args.extent c.args.command c.args.left c.args.spare c.changed_block.result map c.requires.within c.requires.next
    c.keep-self.ensures.keeps c.renumber.ensures.map changes c.if-spare-self.false c.if-spare-self-2.false free nothing_open refl
    refl refl

pub returns-clause-whole : goal.returns-clause-whole
returns-clause-whole c done f t value acked begun is whole retired =
    let core = c.args.self.now in
    let map = c.keep-self.new.map.items in
    let unused : IsFree core.map.items c.args.spare = search rules in
    let free = spare_is_free core c.args.left c.args.command c.args.extent map c.keep-self.result c.args.spare c.requires.next c.keep-self.ensures.keeps
    c.if-spare-self.false unused in
    let changes : Changes c.args.command c.changed_block.result = c.changed_block.ensures (elim c.match-matches.branch [
      | in-Refused w ↦ absurd (false≢true (sym c.if-matches.false ∙ w.matches-is))
      | in_default w ↦ w.in_default.not-Refused
    ]) in
    let kept = whole_left core c.args.extent c.args.command c.args.left c.args.spare c.changed_block.result map c.renumber.new.map.items
    c.keep-self.result c.requires.next c.keep-self.ensures.keeps c.renumber.ensures.map changes free f t value acked begun is whole retired in
    record {
      mapped = kept.0;
      full = λ at opened. absurd (nothing_open at opened);
      spared = inl (kept.1.0, kept.1.1, (λ at opened. absurd (nothing_open at opened)), kept.1.2);
    }
