use Rattle.std.proofs.Common.{sym, ◌∙◌}
use Rattle.rounds.proofs.Pages.{said_long}
use Rattle.rounds.proofs.answer_list.Answers.len.Goals as goal

pub returns : goal.returns
returns c =
    let answers = c.args.self.now in
    c.len.ensures ∙ (answers.kinds.ok.0 ∙ sym (said_long answers.page_bytes answers.kinds.items answers.pages.items))
