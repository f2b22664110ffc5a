use Rattle.std.proofs.Common.{◌∙◌, ap, cond, ltb, sym, None}
use Rattle.ftl_one.specs.{Collections.collection_between, OneFtl.geometry_of, OneFtl.stock_of}
use Rattle.runs.{specs.Logs.log_part, proofs.DueCollections.made_is}
use Rattle.runs.proofs.logged.answer_logged.Goals as goal

pub returns-clause-logged : goal.returns-clause-logged
returns-clause-logged g c = λ before text logged.
    let geo = geometry_of c.args.ftl.now in
    let old = stock_of c.args.ftl.now in
    let new = stock_of c.answer-2.new.ftl in
    c.tell.ensures.logged before text (log_part c.args.line (collection_between geo old new))
    (λ takes. ap (log_part c.args.line)
    (made_is geo old new c.args.command.now c.due-due.result c.answer-2.ensures.stock (c.due-due.ensures takes)
    ∙ (ap (λ n. cond (ltb n new.programs) c.due-due.result None) (sym c.counts-programs.ensures.programs)
    ∙ (ap (λ n. cond (ltb c.counts-programs.result.programs n) c.due-due.result None) (sym c.counts.ensures.programs)
    ∙ sym c.made.ensures))))
    logged
