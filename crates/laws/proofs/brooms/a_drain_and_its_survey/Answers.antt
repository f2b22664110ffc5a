use Rattle.geometry.proofs.Choosing.{greedy_of-closed, greedy_of-least}
use Rattle.broom.specs.Survey.{closed_of, counts_of}
use Rattle.laws.proofs.SurveyRows.{as_long}
use Rattle.laws.proofs.brooms.a_drain_and_its_survey.Goals as goal

pub returns-clause-fewest : goal.returns-clause-fewest
returns-clause-fewest c b d x y h =
    record {
      survey = h.survey;
      made = h.made;
      closed = greedy_of-closed (counts_of h.survey) (closed_of h.survey.states) (as_long h.survey) b h.victim.chosen;
      fewest = greedy_of-least (counts_of h.survey) (closed_of h.survey.states) (as_long h.survey) b h.victim.chosen;
    }
