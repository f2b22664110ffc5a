use Rattle.std.proofs.Common.{◌≡◌, ◌∙◌, ℕ, Option, None, Some, sym, ap, refl}
use Rattle.std.specs.List.{position}
use Rattle.geometry.specs.Geometry.{endurance_of}
use Rattle.ftl_one.specs.{OneFtl.geometry_of, Stock.Stock, Stock.is_free, Stock.open_of, Stock.free_of, Stock.spare_of, Stock.ready, Stock.ready_by}
use Rattle.ftl_one.{specs.OneFtl.stock_of, proofs.Layers.open_of-stock, proofs.Layers.free_of-stock, proofs.Layers.spare_of-stock}
use Rattle.ftl_one.proofs.one_ftl.OneFtl.make_ready.Goals as goal

-- what the stock is ready for, by what is open, free and spare
ready_is : (E : ℕ) (k : Stock) (o f s : Option ℕ) → open_of k.blocks ≡ o → free_of k.blocks ≡ f → spare_of k.blocks ≡ s → ready E k ≡ ready_by E k o f s
ready_is E k o f s p q r =
    ap (λ (x : Option ℕ). ready_by E k x (free_of k.blocks) (spare_of k.blocks)) p
    ∙ (ap (λ (x : Option ℕ). ready_by E k o x (spare_of k.blocks)) q
    ∙ ap (λ (x : Option ℕ). ready_by E k o f x) r)

pub returns-in-Some-clause-ready : goal.returns-in-Some-clause-ready
returns-in-Some-clause-ready c =
    let k = stock_of c.args.self.now in
    ready_is (endurance_of (geometry_of c.args.self.now)) k (Some c.in-Some.block) (free_of k.blocks) (spare_of k.blocks)
    (open_of-stock c.args.self.now ∙ c.in-Some.is) refl refl

pub returns-in-Some-clause-opened : goal.returns-in-Some-clause-opened
returns-in-Some-clause-opened c = open_of-stock c.args.self.now ∙ c.in-Some.is

pub open-requires-clause-none : goal.open-requires-clause-none
open-requires-clause-none c = open_of-stock c.args.self.now ∙ c.in_default.is

pub open-requires-clause-free : goal.open-requires-clause-free
open-requires-clause-free c =
    free_of-stock c.args.self.now ∙ (ap (position is_free) (sym c.deref.ensures.value) ∙ (sym c.lowest_free.ensures ∙ c.in-Some-lowest_free.is))

pub returns-in-Some-lowest_free-clause-ready : goal.returns-in-Some-lowest_free-clause-ready
returns-in-Some-lowest_free-clause-ready c =
    let k = stock_of c.args.self.now in
    ready_is (endurance_of (geometry_of c.args.self.now)) k None (Some c.in-Some-lowest_free.block) (spare_of k.blocks)
    (open_of-stock c.args.self.now ∙ c.in_default.is)
    (free_of-stock c.args.self.now ∙ (ap (position is_free) (sym c.deref.ensures.value) ∙ (sym c.lowest_free.ensures ∙ c.in-Some-lowest_free.is)))
    refl
    ∙ ap Some (sym c.open.ensures.stock)

pub returns-in_err-spare-clause-none : goal.returns-in_err-spare-clause-none
returns-in_err-spare-clause-none c =
    let k = stock_of c.args.self.now in
    rw c.from_residual.ensures
    (ready_is (endurance_of (geometry_of c.args.self.now)) k None None None
    (open_of-stock c.args.self.now ∙ c.in_default.is)
    (free_of-stock c.args.self.now ∙ (ap (position is_free) (sym c.deref.ensures.value) ∙ (sym c.lowest_free.ensures ∙ c.in_default-lowest_free.is)))
    (spare_of-stock c.args.self.now ∙ c.in_err-spare.was))

pub collect-requires-clause-none : goal.collect-requires-clause-none
collect-requires-clause-none c = open_of-stock c.args.self.now ∙ c.in_default.is

pub collect-requires-clause-no_free : goal.collect-requires-clause-no_free
collect-requires-clause-no_free c =
    free_of-stock c.args.self.now ∙ (ap (position is_free) (sym c.deref.ensures.value) ∙ (sym c.lowest_free.ensures ∙ c.in_default-lowest_free.is))

pub collect-requires-clause-spare : goal.collect-requires-clause-spare
collect-requires-clause-spare c = spare_of-stock c.args.self.now ∙ c.in_ok-spare.was

pub returns-clause-ready : goal.returns-clause-ready
returns-clause-ready c =
    let k = stock_of c.args.self.now in
    ready_is (endurance_of (geometry_of c.args.self.now)) k None None (Some c.in_ok-spare.spare)
    (open_of-stock c.args.self.now ∙ c.in_default.is)
    (free_of-stock c.args.self.now ∙ (ap (position is_free) (sym c.deref.ensures.value) ∙ (sym c.lowest_free.ensures ∙ c.in_default-lowest_free.is)))
    (spare_of-stock c.args.self.now ∙ c.in_ok-spare.was)
    ∙ c.collect.ensures.stock

pub returns-in_err-spare-clause-no_page : goal.returns-in_err-spare-clause-no_page
returns-in_err-spare-clause-no_page c =
    rw c.from_residual.ensures
    (record {
      no_open = open_of-stock c.args.self.now ∙ c.in_default.is;
      no_free = free_of-stock c.args.self.now ∙ (ap (position is_free) (sym c.deref.ensures.value) ∙ (sym c.lowest_free.ensures ∙ c.in_default-lowest_free.is));
      no_spare = spare_of-stock c.args.self.now ∙ c.in_err-spare.was;
    })
