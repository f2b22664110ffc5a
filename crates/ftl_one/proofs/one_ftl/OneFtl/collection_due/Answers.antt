use Rattle.std.proofs.Common.{◌∙◌, false, None, Some, sym, ap, refl}
use Rattle.std.specs.{Prelude.option_map, List.position}
use Rattle.ftl_one.specs.{Stock.free_of, Stock.is_free, Stock.spare_of, OneFtl.geometry_of, OneFtl.stock_of}
use Rattle.ftl_one.{specs.Collections.collection_into, proofs.Layers.open_of-stock, proofs.Layers.free_of-stock, proofs.Layers.spare_of-stock}
use Rattle.ftl_one.proofs.Collections.{due_free, due_is, due_open, none_of}
use Rattle.ftl_one.proofs.one_ftl.OneFtl.collection_due.Goals as goal

pub returns-then-is_some : goal.returns-then-is_some
returns-then-is_some c =
    let f = c.args.self.now in
    let k = stock_of f in
    sym (due_is (geometry_of f) k f.open_block (free_of k.blocks) (spare_of k.blocks) (open_of-stock f) refl refl
    ∙ due_open (geometry_of f) k f.open_block (free_of k.blocks) (spare_of k.blocks) (sym c.is_some.ensures ∙ c.if-is_some.true))

pub returns-then-is_some-2 : goal.returns-then-is_some-2
returns-then-is_some-2 c =
    let f = c.args.self.now in
    let k = stock_of f in
    sym (due_is (geometry_of f) k None c.lowest_free.result (spare_of k.blocks)
    (open_of-stock f ∙ none_of f.open_block (sym c.is_some.ensures ∙ c.if-is_some.false))
    (free_of-stock f ∙ (ap (position is_free) (sym c.deref.ensures.value) ∙ sym c.lowest_free.ensures))
    refl
    ∙ due_free (geometry_of f) k c.lowest_free.result (spare_of k.blocks) (sym c.is_some-2.ensures ∙ c.if-is_some-2.true))

pub returns-in_err-spare : goal.returns-in_err-spare
returns-in_err-spare c =
    let f = c.args.self.now in
    let k = stock_of f in
    c.from_residual.ensures
    ∙ sym (due_is (geometry_of f) k None None None
    (open_of-stock f ∙ none_of f.open_block (sym c.is_some.ensures ∙ c.if-is_some.false))
    (free_of-stock f ∙ (ap (position is_free) (sym c.deref.ensures.value)
    ∙ (sym c.lowest_free.ensures ∙ none_of c.lowest_free.result (sym c.is_some-2.ensures ∙ c.if-is_some-2.false))))
    (spare_of-stock f ∙ c.in_err-spare.was))

pub collection_into-requires-clause-none : goal.collection_into-requires-clause-none
collection_into-requires-clause-none c =
    let f = c.args.self.now in
    open_of-stock f ∙ none_of f.open_block (sym c.is_some.ensures ∙ c.if-is_some.false)

pub collection_into-requires-clause-no_free : goal.collection_into-requires-clause-no_free
collection_into-requires-clause-no_free c =
    free_of-stock c.args.self.now
    ∙ (ap (position is_free) (sym c.deref.ensures.value)
    ∙ (sym c.lowest_free.ensures ∙ none_of c.lowest_free.result (sym c.is_some-2.ensures ∙ c.if-is_some-2.false)))

pub collection_into-requires-clause-spare : goal.collection_into-requires-clause-spare
collection_into-requires-clause-spare c = spare_of-stock c.args.self.now ∙ c.in_ok-spare.was

pub returns : goal.returns
returns c =
    let f = c.args.self.now in
    let k = stock_of f in
    sym (due_is (geometry_of f) k None None (Some c.in_ok-spare.spare)
    (open_of-stock f ∙ none_of f.open_block (sym c.is_some.ensures ∙ c.if-is_some.false))
    (free_of-stock f ∙ (ap (position is_free) (sym c.deref.ensures.value)
    ∙ (sym c.lowest_free.ensures ∙ none_of c.lowest_free.result (sym c.is_some-2.ensures ∙ c.if-is_some-2.false))))
    (spare_of-stock f ∙ c.in_ok-spare.was)
    ∙ (ap (option_map (collection_into (geometry_of f) k c.in_ok-spare.spare)) c.collection_into.ensures.victim
    ∙ ap Some (sym c.collection_into.ensures.value)))
