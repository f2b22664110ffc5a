use Rattle.std.proofs.Common.{arith}
use Rattle.trace.{proofs.Meanings.push_odd-commands, proofs.Meanings.push_odd-kept, specs.Stored.stored_in}
use Rattle.trace.proofs.draft.Draft.push_odd.Goals as goal

pub returns-clause-draft : goal.returns-clause-draft
returns-clause-draft c =
    let self = c.args.self.now in
    rw (c.in_ok-push.ensures, c.in_ok-extend_from_slice.ensures.items)
    (push_odd-kept c.args.text.now self.odd.items c.args.digits.now self.page_bytes (stored_in self.stored) c.new.result c.args.head c.new.ensures.head
    (omega arith) (omega arith) c.requires.draft c.requires.fits)

pub returns-clause-pushed : goal.returns-clause-pushed
returns-clause-pushed c =
    let self = c.args.self.now in
    rw (c.in_ok-push.ensures, c.in_ok-extend_from_slice.ensures.items)
    (push_odd-commands c.args.text.now self.odd.items c.args.digits.now self.page_bytes (stored_in self.stored) c.new.result c.args.head c.new.ensures.head
    (omega arith) (omega arith) c.requires.draft)
