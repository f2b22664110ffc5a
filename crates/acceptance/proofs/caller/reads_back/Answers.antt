use Rattle.std.proofs.Common.{◌≡◌, ◌∙◌, [], ◌∷◌, Some, ap, subst, arith}
use Rattle.geometry.{specs.Geometry.sectors_of, proofs.Histories.held_written, proofs.Histories.held_by_write, proofs.Histories.held_by_trim}
use Rattle.geometry.specs.{History.Call, History.Write, History.Trim, History.step, History.after, History.held, Sectors.Answers, Sectors.sector_at}
use Rattle.ftl_one.specs.OneFtl as ftl
use Rattle.acceptance.proofs.caller.reads_back.Goals as goal

pub returns : goal.returns
returns c =
    let n = sectors_of c.args.geometry.now in
    let first : Call = Write 0 0 c.args.page.now in
    let second : Call = Write 0 1 c.args.buffer.now in
    let array : ftl.array_of c.trim.new.self ≡ after n (first ∷ second ∷ Trim 0 1 ∷ []) =
    c.trim.ensures.array ∙ ap (λ a. step a (Trim 0 1))
    (c.in-Ok-write-2.ensures.array ∙ ap (λ a. step a second) (c.in-Ok-write.ensures.array ∙ ap (λ a. step a first) c.in-Ok.ensures.empty)) in
    let kept : held n (first ∷ second ∷ Trim 0 1 ∷ []) 0 ≡ Some c.args.page.now =
    held_by_trim n (first ∷ second ∷ []) 0 1 0 (λ e. omega (arith, e))
    ∙ (held_by_write n (first ∷ []) 0 1 c.args.buffer.now 0 (λ e. omega (arith, e)) ∙ held_written n [] 0 0 c.args.page.now (omega arith)) in
    (subst (λ s. Answers s c.read.result c.args.buffer.now c.read.new.out) (ap (λ a. sector_at a 0) array ∙ kept) c.read.ensures).1
