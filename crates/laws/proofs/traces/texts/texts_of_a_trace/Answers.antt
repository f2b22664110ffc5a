use Rattle.std.proofs.Common.{◌≡◌, [], refl, ap, ◌∙◌}
use Rattle.geometry.specs.declared.geometry.Geometry.{Geometry}
use Rattle.answers.specs.Answers.{totals_text}
use Rattle.ftl_one.specs.Stock.{opening}
use Rattle.trace.specs.Trace.{commands_of}
use Rattle.runs.specs.Playing.{text_of_commands}
use Rattle.laws.proofs.Loads.{none_meant}
use Rattle.laws.proofs.traces.texts.texts_of_a_trace.Goals as goal

no_work : (geo : Geometry) → text_of_commands geo [] ≡ totals_text 0 0 0
unfolding opening
no_work geo = refl

pub returns-clause-empty : goal.returns-clause-empty
returns-clause-empty c geo bytes text none h =
    h.answers ∙ (ap (text_of_commands geo) (none_meant (commands_of bytes geo) h.commands none h.meaning) ∙ no_work geo)
