use Rattle.std.proofs.{Common.◌≡◌, Common.◌<◌, Common.ℕ, Common.ap, Common.◌∙◌, Common.arith, lemmas.List.Elements.All-set}
use Rattle.geometry.specs.{Geometry.sectors_of, Limits.Numbers}
use Rattle.host.specs.Ready.{IsReady}
use Rattle.volume.specs.Volume.{flash_of}
use Rattle.shared_acceptance.proofs.rows.refusals.a_device_is_opened_and_closed_in_spite_of_a_refusal.Goals as goal

first : (n : ℕ) → n ≡ 3 → 0 < n
first n e = omega arith

last : (n : ℕ) → n ≡ 3 → 2 < n
last n e = omega arith

pub write-requires-clause-sector : goal.write-requires-clause-sector
write-requires-clause-sector g c = first _ (ap sectors_of c.in_ok-volume.ensures.geometry ∙ ap (λ (z : Numbers). z.sectors) c.in_ok-geometry.ensures.given)

pub write-requires-2-clause-sector : goal.write-requires-2-clause-sector
write-requires-2-clause-sector g c = last _ (ap sectors_of c.in_ok-volume.ensures.geometry ∙ ap (λ (z : Numbers). z.sectors) c.in_ok-geometry.ensures.given)

pub write-requires-2-clause-pass : goal.write-requires-2-clause-pass
write-requires-2-clause-pass g c = c.write.ensures.pass

pub close-closed-requires-clause-passes : goal.close-closed-requires-clause-passes
close-closed-requires-clause-passes g c =
    All-set (IsReady (flash_of c.in_ok-volume.volume)) c.in_ok-volume.passes.items 0 c.write-2.new.pass c.write-2.ensures.pass c.in_ok-volume.ensures.ready
