use Rattle.std.proofs.Common.{◌*◌, refl, ap, ◌∙◌}
use Rattle.geometry.specs.{Geometry.page_bytes_of, Geometry.words_of, Limits.Numbers, declared.limits.TheConstants.WORD_BYTES}
use Rattle.shared_acceptance.proofs.schedules.host_races.racing_hosts_get_the_expected_answers.Goals as goal

pub run_race-passes-requires-clause-home : goal.run_race-passes-requires-clause-home
run_race-passes-requires-clause-home g c lifetimes =
    let same = c.in_ok-volume.ensures.geometry in
    let given = c.in_ok-geometry.ensures.given in
    (refl, ap page_bytes_of same ∙ ap (λ (z : Numbers). WORD_BYTES * z.words) given, ap words_of same ∙ ap (λ (z : Numbers). z.words) given)
