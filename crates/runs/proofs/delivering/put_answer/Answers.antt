use Rattle.std.proofs.Common.{ap, option_map}
use Rattle.runs.specs.Texts.{said_as}
use Rattle.runs.proofs.delivering.put_answer.Goals as goal

pub answer-requires-in-Some-clause-page : goal.answer-requires-in-Some-clause-page
answer-requires-in-Some-clause-page c =
    λ is. c.requires.pages (said_as (c.in-Some.kind, c.in-Some.page)) (ap (option_map said_as) c.in-Some.is) (c.reply.ensures.page is)
