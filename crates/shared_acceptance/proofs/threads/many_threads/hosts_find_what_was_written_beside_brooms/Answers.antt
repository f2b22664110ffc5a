use Rattle.std.proofs.Common.{◌*◌, refl, ap, ◌∙◌}
use Rattle.geometry.specs.{Geometry.page_bytes_of, Geometry.words_of, Limits.Numbers, declared.limits.TheConstants.WORD_BYTES}
use Rattle.shared_acceptance.proofs.threads.many_threads.hosts_find_what_was_written_beside_brooms.Goals as goal

pub play-passes-requires-clause-home : goal.play-passes-requires-clause-home
play-passes-requires-clause-home g c lifetimes =
    let same = c.in_ok-volume.ensures.geometry in
    let given = c.in_ok-geometry.ensures.given in
    (refl, ap page_bytes_of same ∙ ap (λ (z : Numbers). WORD_BYTES * z.words) given, ap words_of same ∙ ap (λ (z : Numbers). z.words) given)
