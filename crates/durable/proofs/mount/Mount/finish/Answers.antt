use Rattle.std.proofs.Common.{inl, ◌≡◌, ◌∙◌, ◌<◌, ◌^◌, ℕ, List, length, Option, None, get_or, refl, sym, ap, arith, subst}
use Rattle.durable.specs.Collecting.{HasCapacity}
use Rattle.durable.specs.Device.{device_in}
use Rattle.durable.specs.Candidates.{AreNeeded, IsEntryOf, IsFreeable}
use Rattle.durable.specs.declared.found.Candidate.{Candidate}
use Rattle.durable.proofs.Noting.{all_noted}
use Rattle.durable.proofs.Frees.{closed_collects}
use Rattle.durable.proofs.Opened.{nothing_open}
use Rattle.durable.proofs.Kept.{dropped}
use Rattle.durable.specs.declared.mount.Mount.{Mount}
use Rattle.durable.specs.Losses.{losses_in}
use Rattle.durable.specs.Updates.{array_after}
use Rattle.durable.proofs.Telling.{tells, quiet, mounts_whole}
use Rattle.durable.proofs.Promises.{readable, some_freeable, remounted}
use Rattle.durable.proofs.mount.Mount.finish.Goals as goal

pub returns-then-avoided-self-clause-frees : goal.returns-then-avoided-self-clause-frees
returns-then-avoided-self-clause-frees c f acked begun noted is refused =
    let mount = c.args.self in
    let needed = subst (λ (v : List ℕ). AreNeeded v mount.found.items c.forget_trims.new.self.items) c.deref.ensures.value c.forget_trims.ensures in
    some_freeable mount (all_noted mount.read_blocks (record { block = mount.block; page = mount.page }) c.requires) f acked begun noted
    (readable f (device_in mount) acked begun is) c.forget_trims.new.self.items needed is.spare
    (c.in-Ok.ensures.none (omega (arith, c.if-avoided-self.true, c.in-Ok.ensures.most)))

pub invariant_of-result-clause-few_sectors : goal.invariant_of-result-clause-few_sectors
invariant_of-result-clause-few_sectors c =
    subst (λ (n : ℕ). n < 2 ^ 32) (sym (c.into_map-map.ensures.size ∙ c.forget_trims.ensures.0)) c.args.self.few_sectors

pub invariant_of-result-clause-has_capacity : goal.invariant_of-result-clause-has_capacity
invariant_of-result-clause-has_capacity c =
    let mount = c.args.self in
    subst (λ (n : ℕ). HasCapacity n mount.blocks mount.pages) (sym (c.into_map-map.ensures.size ∙ c.forget_trims.ensures.0)) mount.has_capacity

pub invariant_of-result-clause-can_collect : goal.invariant_of-result-clause-can_collect
invariant_of-result-clause-can_collect c =
    let mount = c.args.self in
    let avoided = c.in-Ok.avoided in
    let lt : avoided < mount.blocks = omega (arith, c.if-avoided-self.false) in
    closed_collects c.into_map-map.result.items mount.blocks mount.pages avoided lt (c.into_map-map.ensures.free (c.in-Ok.ensures.found lt))

pub returns-clause-device : goal.returns-clause-device
returns-clause-device c =
    let mount = c.args.self in
    let size : length c.into_map-map.result.items ≡ length mount.found.items = c.into_map-map.ensures.size ∙ c.forget_trims.ensures.0 in
    λ i. record { blocks = mount.blocks; read_blocks = mount.read_blocks; pages = mount.pages; sectors = size i }

pub returns-clause-remounts : goal.returns-clause-remounts
returns-clause-remounts c f acked begun noted is =
    let mount = c.args.self in
    let needed = subst (λ (v : List ℕ). AreNeeded v mount.found.items c.forget_trims.new.self.items) c.deref.ensures.value c.forget_trims.ensures in
    let avoided = c.in-Ok.avoided in
    let lt : avoided < mount.blocks = omega (arith, c.if-avoided-self.false) in
    remounted mount (all_noted mount.read_blocks (record { block = mount.block; page = mount.page }) c.requires) f acked begun noted is
    c.forget_trims.new.self.items needed _ avoided refl refl refl
    c.into_map-map.ensures.size c.into_map-map.ensures.entries nothing_open refl lt (c.into_map-map.ensures.free (c.in-Ok.ensures.found lt))

pub returns-clause-drops : goal.returns-clause-drops
returns-clause-drops c f noted s lt none =
    let mount = c.args.self in
    let kept = c.forget_trims.new.self.items in
    let needed = subst (λ (v : List ℕ). AreNeeded v mount.found.items kept) c.deref.ensures.value c.forget_trims.ensures in
    let nothing = dropped f mount.pages mount.block mount.page mount.valued.items mount.found.items kept noted.values needed s lt none in
    subst (λ (k : Option Candidate). IsEntryOf k (get_or c.into_map-map.result.items s None)) nothing
    (c.into_map-map.ensures.entries s (omega (arith, lt, c.forget_trims.ensures.0)))

counted_losses : (mount : Mount) (kept : List (Option Candidate)) (losses : ℕ) (gaps : List ℕ) → losses ≡ losses_in kept gaps (length gaps)
    → gaps ≡ mount.gaps.items
    → losses ≡ losses_in kept mount.gaps.items mount.read_blocks
counted_losses mount kept losses gaps is is_gaps =
    is ∙ ((λ i. losses_in kept (is_gaps i) (length (is_gaps i))) ∙ ap (losses_in kept mount.gaps.items) mount.gaps_sized)

pub returns-clause-losses : goal.returns-clause-losses
returns-clause-losses c =
    let mount = c.args.self in
    let kept = c.forget_trims.new.self.items in
    let needed = subst (λ (v : List ℕ). AreNeeded v mount.found.items kept) c.deref.ensures.value c.forget_trims.ensures in
    (kept, needed, counted_losses mount kept c.losses-losses.result c.deref-3.result.now c.losses-losses.ensures c.deref-3.ensures.value)

pub returns-clause-tells : goal.returns-clause-tells
returns-clause-tells c f noted written none =
    let mount = c.args.self in
    let kept = c.forget_trims.new.self.items in
    let needed = subst (λ (v : List ℕ). AreNeeded v mount.found.items kept) c.deref.ensures.value c.forget_trims.ensures in
    tells mount (all_noted mount.read_blocks (record { block = mount.block; page = mount.page }) c.requires) f noted written kept needed
    (sym (counted_losses mount kept c.losses-losses.result c.deref-3.result.now c.losses-losses.ensures c.deref-3.ensures.value) ∙ none)

pub returns-clause-quiet : goal.returns-clause-quiet
returns-clause-quiet c f acked begun noted is no_loss =
    let mount = c.args.self in
    let kept = c.forget_trims.new.self.items in
    let needed = subst (λ (v : List ℕ). AreNeeded v mount.found.items kept) c.deref.ensures.value c.forget_trims.ensures in
    let array = array_after is.keeps.updates in
    counted_losses mount kept c.losses-losses.result c.deref-3.result.now c.losses-losses.ensures c.deref-3.ensures.value
    ∙ quiet mount (all_noted mount.read_blocks (record { block = mount.block; page = mount.page }) c.requires) f noted is.written kept needed array
    is.keeps.recovers no_loss

pub returns-clause-whole : goal.returns-clause-whole
returns-clause-whole c f acked begun noted is unharmed =
    let mount = c.args.self in
    let kept = c.forget_trims.new.self.items in
    let needed = subst (λ (v : List ℕ). AreNeeded v mount.found.items kept) c.deref.ensures.value c.forget_trims.ensures in
    let avoided = c.in-Ok.avoided in
    let at_end = all_noted mount.read_blocks (record { block = mount.block; page = mount.page }) c.requires in
    let array = array_after is.keeps.updates in
    let lt : avoided < mount.blocks = omega (arith, c.if-avoided-self.false) in (
      mounts_whole mount at_end f noted is.written kept needed _ avoided unharmed array is.keeps.recovers c.into_map-map.ensures.size
          c.into_map-map.ensures.entries c.into_map-map.ensures.stays
          (subst (λ (gs : List ℕ). (b : ℕ) → b < mount.blocks → IsFreeable gs kept b → IsFreeable gs kept avoided)
          c.deref-2.ensures.value c.in-Ok.ensures.first)
          nothing_open lt (c.into_map-map.ensures.free (c.in-Ok.ensures.found lt)),
      counted_losses mount kept c.losses-losses.result c.deref-3.result.now c.losses-losses.ensures c.deref-3.ensures.value
          ∙ quiet mount at_end f noted is.written kept needed array is.keeps.recovers unharmed.no_loss,
    )

pub returns-clause-own : goal.returns-clause-own
returns-clause-own c f noted b p e m v read within is =
    let mount = c.args.self in
    let all = all_noted mount.read_blocks (record { block = mount.block; page = mount.page }) c.requires in
    noted.own b p e m v (within, inl (omega (arith, read, all))) is
