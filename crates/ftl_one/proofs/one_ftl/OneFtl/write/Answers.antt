use Rattle.std.proofs.Common.{◌≡◌, inl, inr, ◌∙◌, ℕ, List, Option, None, Some, sym, ap, subst}
use Rattle.std.specs.Option.{option_and_then}
use Rattle.geometry.specs.{declared.geometry.Geometry.Geometry, Geometry.pages_of, Geometry.endurance_of, History.Write}
use Rattle.ftl_one.specs.{Stock.Stock, Stock.next, Stock.ready, Stock.write_of, OneFtl.geometry_of, OneFtl.stock_of, Laws.ErasesNothing}
use Rattle.ftl_one.proofs.{Layers.no_spare, Collections.write-makes, Laws.nothing_same, Laws.write-does}
use Rattle.ftl_one.proofs.one_ftl.OneFtl.write.Goals as goal
use Rattle.ftl_one.proofs.one_ftl.OneFtl.write.Goals.{After-write_into}

-- a write that finds a block ready, and one that doesn't
next_is : (g : Geometry) (k : Stock) (s : ℕ) (v : List ℕ) (r : Option Stock) → ready (endurance_of g) k ≡ r
    → next g k (Write 0 s v) ≡ option_and_then (write_of (pages_of g) s) r
unfolding next
next_is g k s v r e = ap (option_and_then (write_of (pages_of g) s)) e

pub returns-in_default-clause-worn : goal.returns-in_default-clause-worn
returns-in_default-clause-worn c =
    next_is (geometry_of c.args.self.now) (stock_of c.args.self.now) c.args.sector c.args.bytes.now None c.in_default.ensures.none

pub returns-clause-stock : goal.returns-clause-stock
returns-clause-stock c =
    let g = geometry_of c.args.self.now in
    let mid = stock_of c.make_ready.new.self in
    next_is g (stock_of c.args.self.now) c.args.sector c.args.bytes.now (Some mid) c.in-Some.ensures.ready
    ∙ (ap (λ (h : Geometry). write_of (pages_of h) c.args.sector mid) (sym c.in-Some.ensures.geometry) ∙ c.write_into.ensures.stock)

pub returns-in_default-clause-after_failure : goal.returns-in_default-clause-after_failure
returns-in_default-clause-after_failure c =
    let k = stock_of c.args.self.now in
    λ _. subst (ErasesNothing k) (sym c.in_default.ensures.same) (nothing_same k)

-- what the definition of the stock says of the call
the_next : (c : After-write_into)
    → option_and_then (write_of (pages_of (geometry_of c.args.self.now)) c.args.sector)
    (ready (endurance_of (geometry_of c.args.self.now)) (stock_of c.args.self.now)) ≡ Some (stock_of c.write_into.new.self)
the_next c =
    let g = geometry_of c.args.self.now in
    let mid = stock_of c.make_ready.new.self in
    ap (option_and_then (write_of (pages_of g) c.args.sector)) c.in-Some.ensures.ready
    ∙ (ap (λ (h : Geometry). write_of (pages_of h) c.args.sector mid) (sym c.in-Some.ensures.geometry) ∙ c.write_into.ensures.stock)

pub returns-clause-collection : goal.returns-clause-collection
returns-clause-collection c =
    let g = geometry_of c.args.self.now in
    elim (write-does (pages_of g) (endurance_of g) c.args.sector (stock_of c.args.self.now) (stock_of c.write_into.new.self)
    (the_next (goal.at.returns-clause-collection c).After-write_into)) [ inl nothing ↦ inl nothing | inr one ↦ inr (one.0, one.3) ]

pub returns-clause-after_failure : goal.returns-clause-after_failure
returns-clause-after_failure c = λ retired.
    let g = geometry_of c.args.self.now in
    elim (write-does (pages_of g) (endurance_of g) c.args.sector (stock_of c.args.self.now) (stock_of c.write_into.new.self)
    (the_next (goal.at.returns-clause-after_failure c).After-write_into)) [
      | inl nothing ↦ nothing
      | inr one ↦ absurd (no_spare c.args.self.now retired one.1 one.2)
    ]

pub returns-clause-due : goal.returns-clause-due
returns-clause-due c =
    write-makes (geometry_of c.args.self.now) c.args.sector (stock_of c.args.self.now) (stock_of c.write_into.new.self)
    (the_next (goal.at.returns-clause-due c).After-write_into)
