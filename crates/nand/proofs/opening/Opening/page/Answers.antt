use Rattle.std.proofs.Common.{◌≡◌, ◌∙◌, ℕ, length, Option, Some, is_some, not, refl, sym, ap, subst}
use Rattle.geometry.specs.declared.page_addr.PageAddr.{PageAddr}
use Rattle.durable.specs.Device.{Device, IsWrittenOn}
use Rattle.durable.specs.Mounting.{next_in}
use Rattle.durable.specs.declared.mount.Mount.{Mount}
use Rattle.nand.specs.Numbers.{IsOrder, numbered}
use Rattle.nand.specs.Opened.{most_used}
use Rattle.nand.specs.Opening.{HasNotedIn, HasNotedPages, TellsStamp, question_at, question_by, questions_by}
use Rattle.nand.proofs.Openings.{page_left, page_noted, stamp_known}
use Rattle.nand.proofs.Orders.{written_in_order}
use Rattle.nand.proofs.opening.Opening.page.Goals as goal

pub returns-in-Ok-clause-reads : goal.returns-in-Ok-clause-reads
returns-in-Ok-clause-reads c f bad read tells =
    let old = c.args.self.now in
    let numbers = old.numbers.items in
    let is : old.mount ≡ Some c.in-Some.mount = c.in-Some.is in
    let has : HasNotedPages f bad old.shape old.sectors numbers c.in-Some.mount =
    subst (λ (m : Option Mount). HasNotedIn f bad old.shape old.sectors numbers m) is read.noted in
    let told : TellsStamp f (question_at numbers (next_in c.in-Some.mount)) c.args.reading =
    subst (λ (m : Option Mount). TellsStamp f (question_by numbers m) c.args.reading) is tells in
    record {
      order = read.order;
      good = read.good;
      noted = page_noted f bad old.shape old.sectors numbers c.in-Some.mount c.note.new.self c.args.reading c.noted.result has told c.noted.ensures
          c.note.ensures.device c.in-Ok.ensures.number c.in-Ok.ensures.notes;
    }

pub returns-in-Ok-clause-takes : goal.returns-in-Ok-clause-takes
returns-in-Ok-clause-takes c =
    let old = c.args.self.now in
    let is : old.mount ≡ Some c.in-Some.mount = c.in-Some.is in
    let some : is_some (next_in c.in-Some.mount) ≡ not c.is_none.result =
    ap (λ (o : Option PageAddr). is_some o) (sym c.next_page.ensures) ∙ c.is_none.ensures in
    record {
      shape = refl;
      sectors = refl;
      left = page_left c.in-Some.mount c.note.new.self (some ∙ ap not c.if-is_none.false) c.note.ensures.device c.in-Ok.ensures.next
          ∙ ap (λ (m : Option Mount). questions_by old.shape (length old.numbers.items) m) (sym is);
    }

pub returns-in-Err-clause-accepts : goal.returns-in-Err-clause-accepts
returns-in-Err-clause-accepts c f bad read written tells =
    let old = c.args.self.now in
    let numbers = old.numbers.items in
    let is : old.mount ≡ Some c.in-Some.mount = c.in-Some.is in
    let has : HasNotedPages f bad old.shape old.sectors numbers c.in-Some.mount =
    subst (λ (m : Option Mount). HasNotedIn f bad old.shape old.sectors numbers m) is read.noted in
    let told : TellsStamp f (question_at numbers (next_in c.in-Some.mount)) c.args.reading =
    subst (λ (m : Option Mount). TellsStamp f (question_by numbers m) c.args.reading) is tells in
    let order = subst (λ (n : ℕ). IsOrder numbers bad n (most_used old.shape old.sectors)) has.all read.order in
    let here = subst (λ (d : Device). IsWrittenOn d (numbered numbers f)) (sym has.device)
    (written_in_order f old.shape bad numbers old.sectors order written) in
    let known = stamp_known f numbers (next_in c.in-Some.mount) c.args.reading c.noted.result c.noted.ensures told in
    absurd (cc (sym (c.note.ensures.accepts (numbered numbers f) here known) ∙ c.in-Err.is))
