use Rattle.std.proofs.Common.{sym, ap, ◌∙◌}
use Rattle.flash_table.specs.Flash.{view_of}
use Rattle.host.proofs.{Meetings.nothing_left, Meetings.closed, meeting.retire.Goals.then-is_some, meeting.retire.Goals.else-is_some}
use Rattle.host.proofs.meeting.retire.Goals as goal

pub returns : goal.returns
returns c = elim c.if-is_some.branch [
  | then-is_some w ↦ c.leave.ensures ∙ (ap view_of w.pass-is ∙ w.close.ensures.closed)
  | else-is_some w ↦
      let none = closed c.opened.result (sym c.is_some.ensures ∙ w.if-is_some.false) in
      c.leave.ensures ∙ (ap view_of w.pass-is ∙ nothing_left c.args.flash.now c.args.pass c.requires.rested (sym c.opened.ensures ∙ none))
]
