use Rattle.std.proofs.{Common.◌≡◌, Common.◌*◌, Common.◌<◌, Common.ℕ, Common.sym, Common.ap, Common.◌∙◌, Common.arith, lemmas.List.Elements.All-set}
use Rattle.geometry.specs.{Geometry.sectors_of, Geometry.page_bytes_of, Limits.Numbers, declared.limits.TheConstants.WORD_BYTES}
use Rattle.host.specs.Ready.{IsReady}
use Rattle.volume.specs.Volume.{flash_of}
use Rattle.shared_acceptance.proofs.schedules.sizes.the_largest_device_is_opened_and_closed.Goals as goal

below : (n : ℕ) → n ≡ 1048576 → 1048575 < n
below n e = omega arith

pub write-requires-clause-sector : goal.write-requires-clause-sector
write-requires-clause-sector g c = below _ (ap sectors_of c.in_ok-volume.ensures.geometry ∙ ap (λ (z : Numbers). z.sectors) c.in_ok-geometry.ensures.given)

pub write-requires-clause-page : goal.write-requires-clause-page
write-requires-clause-page g c =
    sym (ap page_bytes_of c.in_ok-volume.ensures.geometry ∙ ap (λ (z : Numbers). WORD_BYTES * z.words) c.in_ok-geometry.ensures.given)

pub close-sectors-requires-clause-ready : goal.close-sectors-requires-clause-ready
close-sectors-requires-clause-ready g c =
    All-set (IsReady (flash_of c.in_ok-volume.volume)) c.in_ok-volume.passes.items 0 c.write.new.pass c.write.ensures.pass c.in_ok-volume.ensures.ready
