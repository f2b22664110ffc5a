use Rattle.std.proofs.Common.{arith}
use Rattle.trace.{proofs.Meanings.push-kept, specs.Stored.stored_in}
use Rattle.trace.proofs.draft.Draft.push.Goals as goal

pub returns-clause-draft : goal.returns-clause-draft
returns-clause-draft c =
    let self = c.args.self.now in
    rw c.in_ok-push.ensures
    (push-kept c.args.text.now self.odd.items self.page_bytes (stored_in self.stored) c.new.result c.args.head c.new.ensures.head
    (omega arith) c.requires.draft (rw (c.new.ensures.start, c.new.ensures.digits) c.requires.fits))
