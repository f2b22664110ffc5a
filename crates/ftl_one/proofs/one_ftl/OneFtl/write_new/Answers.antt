use Rattle.std.proofs.Common.{◌≡◌, ◌∙◌, ℕ, List, None, Some, is_some, refl, sym, ap}
use Rattle.geometry.specs.{History.Write, History.WriteNew, Sectors.sector_at}
use Rattle.ftl_one.specs.{OneFtl.geometry_of, OneFtl.array_of, OneFtl.stock_of, Stock.next}
use Rattle.ftl_one.proofs.Current.{has_page-stock, none_of, some_of, next_empty, next_written}
use Rattle.ftl_one.proofs.one_ftl.OneFtl.write_new.Goals as goal
use Rattle.ftl_one.proofs.one_ftl.OneFtl.write_new.Goals.{In-Empty, In-Written}

the_sector : (c : In-Empty) → sector_at (array_of c.args.self.now) c.args.sector ≡ None
unfolding array_of
the_sector c = none_of (sector_at (array_of c.args.self.now) c.args.sector) (sym c.was.ensures ∙ c.in-Empty.is)

its_value : (c : In-Written) → (v : List ℕ) × (sector_at (array_of c.args.self.now) c.args.sector ≡ Some v)
unfolding array_of
its_value c = some_of (sector_at (array_of c.args.self.now) c.args.sector) (sym c.was.ensures ∙ c.in-Written.is)

-- the call is a write where the sector is empty
by_write : (c : In-Empty)
    → next (geometry_of c.args.self.now) (stock_of c.args.self.now) (WriteNew 0 c.args.sector c.args.bytes.now)
    ≡ next (geometry_of c.args.self.now) (stock_of c.args.self.now) (Write 0 c.args.sector c.args.bytes.now)
by_write c =
    let f = c.args.self.now in
    next_empty (geometry_of f) (stock_of f) c.args.sector c.args.bytes.now (has_page-stock f c.args.sector c.requires.sector ∙ ap is_some (the_sector c))

pub returns-in-Written-clause-written : goal.returns-in-Written-clause-written
returns-in-Written-clause-written c = λ _.
    let f = c.args.self.now in
    let value = its_value (goal.at.returns-in-Written-clause-written c).In-Written in
    next_written (geometry_of f) (stock_of f) c.args.sector c.args.bytes.now (has_page-stock f c.args.sector c.requires.sector ∙ ap is_some value.1)

pub returns-in-Ok-clause-stock : goal.returns-in-Ok-clause-stock
returns-in-Ok-clause-stock c = by_write (goal.at.returns-in-Ok-clause-stock c).In-Empty ∙ c.in-Ok.ensures.stock

pub returns-in-Err-clause-worn : goal.returns-in-Err-clause-worn
returns-in-Err-clause-worn c = λ _. by_write (goal.at.returns-in-Err-clause-worn c).In-Empty ∙ c.in-Err.ensures.worn

pub returns-in-Written-clause-same_array : goal.returns-in-Written-clause-same_array
returns-in-Written-clause-same_array c = refl
