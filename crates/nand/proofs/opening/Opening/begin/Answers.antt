use Rattle.std.proofs.Common.{ℕ, List, length, sym, ap, subst}
use Rattle.nand.specs.Numbers.{IsOrder, good_before}
use Rattle.nand.specs.Opened.{most_used}
use Rattle.nand.proofs.Orders.{first_order}
use Rattle.nand.proofs.opening.Opening.begin.Goals as goal

pub returns-clause-reads : goal.returns-clause-reads
returns-clause-reads c f bad =
    let most = most_used c.args.shape c.args.sectors in
    record {
      order = subst (λ (ns : List ℕ). IsOrder ns bad (length ns) most) (sym c.new.ensures.items) (first_order bad most);
      good = ap (λ (ns : List ℕ). good_before bad (length ns)) (sym c.new.ensures.items);
      noted = tt;
    }
