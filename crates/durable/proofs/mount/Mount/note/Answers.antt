use Rattle.std.proofs.Common.{rules, refl, arith, ◌≡◌, ◌+◌, ◌<◌, sym, subst, ℕ, List, length}
use Rattle.geometry.specs.declared.page_addr.PageAddr.{PageAddr}
use Rattle.durable.specs.Mounting.{AreOfDevice, IsStampOf, TellsValues}
use Rattle.durable.specs.Candidates.{IsFoundWith}
use Rattle.durable.proofs.Noting.{of_next, own_next, own_wrap, some_left}
use Rattle.durable.proofs.Kept.{found_size, values_next, values_wrap}
use Rattle.durable.proofs.Scans.{finds_wrap}
use Rattle.durable.proofs.Counted.{noted_all, counts_wrap, prefers_wrap}
use Rattle.durable.proofs.mount.Mount.note.Goals as goal

pub returns-then-self-clause-notes : goal.returns-then-self-clause-notes
returns-then-self-clause-notes c f was stamp =
    let mount = c.args.self.now in
    let at : PageAddr = record { block = mount.block; page = mount.page } in
    let size = found_size c.deref.result.now mount.found.items c.take.new.found.items at c.args.stamp c.take.ensures.found in
    let lt : mount.block < length mount.gaps.items = omega (arith, some_left mount.read_blocks at c.requires, mount.gaps_sized) in
    let now = noted_all f mount.pages mount.block mount.page mount.gaps.items mount.versions mount.found.items mount.next_number at c.args.stamp
    c.take.new.found.items c.take.new.next_number c.count_gaps.new.gaps.items c.count_gaps.new.versions refl refl lt
    (subst (λ (g : List ℕ). IsFoundWith g mount.found.items c.take.new.found.items at c.args.stamp) c.deref.ensures.value c.take.ensures.found)
    c.take.ensures.number
    c.count_gaps.ensures.gaps c.count_gaps.ensures.versions
    (of_next mount.read_blocks at (λ at. IsStampOf f at.block at.page c.args.stamp) c.requires stamp) (was.finds, was.counts, was.prefers) in
    record {
      finds = now.0;
      own = subst (λ (n : ℕ). AreOfDevice f mount.pages mount.block (mount.page + 1) n) (sym size)
          (own_next f mount.pages mount.block mount.page (length mount.found.items) c.args.stamp was.own
          (of_next mount.read_blocks at (λ at. IsStampOf f at.block at.page c.args.stamp) c.requires stamp) (search rules));
      values = subst (λ (n : ℕ). TellsValues f mount.pages mount.block (mount.page + 1) n c.mark_values.new.marks.items) (sym size)
          (values_next f mount.pages mount.block mount.page mount.page_within (length mount.found.items) mount.valued.items c.mark_values.new.marks.items
          was.values c.args.stamp c.mark_values.ensures.marks
          (of_next mount.read_blocks at (λ at. IsStampOf f at.block at.page c.args.stamp) c.requires stamp));
      counts = now.1;
      prefers = now.2;
    }

pub returns-else-self-clause-notes : goal.returns-else-self-clause-notes
returns-else-self-clause-notes c f was stamp =
    let mount = c.args.self.now in
    let at : PageAddr = record { block = mount.block; page = mount.page } in
    let full : mount.page + 1 ≡ mount.pages = omega (arith, c.if-self.false, mount.page_within) in
    let size = found_size c.deref.result.now mount.found.items c.take.new.found.items at c.args.stamp c.take.ensures.found in
    let lt : mount.block < length mount.gaps.items = omega (arith, some_left mount.read_blocks at c.requires, mount.gaps_sized) in
    let now = noted_all f mount.pages mount.block mount.page mount.gaps.items mount.versions mount.found.items mount.next_number at c.args.stamp
    c.take.new.found.items c.take.new.next_number c.count_gaps.new.gaps.items c.count_gaps.new.versions refl refl lt
    (subst (λ (g : List ℕ). IsFoundWith g mount.found.items c.take.new.found.items at c.args.stamp) c.deref.ensures.value c.take.ensures.found)
    c.take.ensures.number
    c.count_gaps.ensures.gaps c.count_gaps.ensures.versions
    (of_next mount.read_blocks at (λ at. IsStampOf f at.block at.page c.args.stamp) c.requires stamp) (was.finds, was.counts, was.prefers) in
    record {
      own = subst (λ (n : ℕ). AreOfDevice f mount.pages (mount.block + 1) 0 n) (sym size)
          (own_wrap f mount.pages mount.block mount.page (length mount.found.items) full
          (own_next f mount.pages mount.block mount.page (length mount.found.items) c.args.stamp was.own
          (of_next mount.read_blocks at (λ at. IsStampOf f at.block at.page c.args.stamp) c.requires stamp) (search rules)));
      finds = finds_wrap f mount.pages mount.block mount.page c.take.new.found.items c.take.new.next_number full now.0;
      values = subst (λ (n : ℕ). TellsValues f mount.pages (mount.block + 1) 0 n c.mark_values.new.marks.items) (sym size)
          (values_wrap f mount.pages mount.block mount.page (length mount.found.items) c.mark_values.new.marks.items full
          (values_next f mount.pages mount.block mount.page mount.page_within (length mount.found.items) mount.valued.items c.mark_values.new.marks.items
          was.values c.args.stamp c.mark_values.ensures.marks
          (of_next mount.read_blocks at (λ at. IsStampOf f at.block at.page c.args.stamp) c.requires stamp)));
      counts = counts_wrap f mount.pages mount.block (mount.page + 1) c.count_gaps.new.gaps.items c.count_gaps.new.versions full now.1;
      prefers = prefers_wrap f mount.pages mount.block (mount.page + 1) c.count_gaps.new.gaps.items c.take.new.found.items full now.2;
    }
