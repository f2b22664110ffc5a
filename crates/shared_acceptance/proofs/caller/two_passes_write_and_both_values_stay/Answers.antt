use Rattle.std.proofs.Common.{ap, ◌∙◌}
use Rattle.geometry.specs.{Geometry.hosts_of, Geometry.sectors_of, Limits.Numbers}
use Rattle.shared_acceptance.proofs.caller.two_passes_write_and_both_values_stay.Goals as goal

pub two_writers-requires-clause-hosts : goal.two_writers-requires-clause-hosts
two_writers-requires-clause-hosts g c = ap hosts_of c.in_ok-volume.ensures.geometry ∙ ap (λ (z : Numbers). z.hosts) c.in_ok-geometry.ensures.given

pub two_writers-requires-clause-sectors : goal.two_writers-requires-clause-sectors
two_writers-requires-clause-sectors g c = ap sectors_of c.in_ok-volume.ensures.geometry ∙ ap (λ (z : Numbers). z.sectors) c.in_ok-geometry.ensures.given

pub two_writers-requires-clause-count : goal.two_writers-requires-clause-count
two_writers-requires-clause-count g c = c.in_ok-volume.ensures.count.0 ∙ ap (λ (z : Numbers). z.hosts) c.in_ok-geometry.ensures.given
