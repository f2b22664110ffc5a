use Rattle.std.proofs.Common.{Bool, ◌≡◌, ◌∙◌, false, true, Option, None, Some, Err, option_map, refl, sym, ap, subst}
use Rattle.durable.specs.Calls.{CountsLosses, DropsTrims, Remounts, TellsLosses, TellsNoFalseLoss}
use Rattle.durable.specs.Device.{device_of, next_number_of}
use Rattle.durable.specs.Whole.{MountsWhole}
use Rattle.durable_exports.specs.Calls.{OfMount, HasLayer, FreesBlock, IsMounted, code_of_mount, finish_code}
use Rattle.std.proofs.lemmas.Bool.{false≢true}
use Rattle.core.specs.Option.{is_some}
use Rattle.durable.specs.Mounting.{next_in}
use Rattle.durable.specs.declared.mount.Mount.{Mount}
use Rattle.geometry.specs.declared.page_addr.PageAddr.{PageAddr}
use Rattle.durable_exports.specs.declared.codes.TheConstants.{NO_BLOCK}
use Rattle.durable_exports.specs.Handles.{seat_of}
use Rattle.handles.specs.Kept.{boxed}
use Rattle.handles.specs.Calls.{value_of}
use Rattle.durable_exports.specs.declared.seat.Seat.{Seat}
use Rattle.durable_exports.specs.declared.seat.Seat.TheVariants.{Mounting}
use Rattle.durable_exports.proofs.calls.mintlintel_core_finish.Goals as goal

pub returns-in-Err-NoFreeBlock-clause-frees : goal.returns-in-Err-NoFreeBlock-clause-frees
returns-in-Err-NoFreeBlock-clause-frees c =
    let held : Some c.in-Some.seat.value ≡ Some (Mounting c.in-Mounting-into_inner.mount) =
    ap (λ (x : Seat). Some x) (sym c.into_inner.ensures ∙ c.in-Mounting-into_inner.is) in
    let has : seat_of c.args.handle.now ≡ Some (Mounting c.in-Mounting-into_inner.mount) =
    sym (ap value_of c.typed-handle.ensures.value) ∙ sym c.take.ensures.value ∙ ap (option_map boxed) c.in-Some.is ∙ held in
    subst (λ (x : Option Seat). OfMount x (FreesBlock NO_BLOCK)) (sym has) (λ f acked begun noted is _.
    absurd (c.finish.ensures.frees f acked begun noted is (c.in-Err-NoFreeBlock.is ∙ ap Err c.in-Err-NoFreeBlock.field-0-is)))

pub returns-then-fill-clause-mounted : goal.returns-then-fill-clause-mounted
returns-then-fill-clause-mounted c _ =
    let mount = c.in-Mounting-into_inner.mount in
    let held : Some c.in-Some.seat.value ≡ Some (Mounting mount) = ap (λ (x : Seat). Some x) (sym c.into_inner.ensures ∙ c.in-Mounting-into_inner.is) in
    let has : seat_of c.args.handle.now ≡ Some (Mounting mount) =
    sym (ap value_of c.typed-handle.ensures.value) ∙ sym c.take.ensures.value ∙ ap (option_map boxed) c.in-Some.is ∙ held in
    let core = c.new.ensures.core in
    let mounted : IsMounted mount c.new.result = (
      ap device_of core ∙ c.in-Ok.ensures.device,
      ap next_number_of core ∙ c.in-Ok.ensures.number,
      subst (Remounts mount) (sym core) c.in-Ok.ensures.remounts,
      c.new.ensures.totals,
      subst (CountsLosses mount) (sym core) c.in-Ok.ensures.losses,
      subst (DropsTrims mount) (sym core) c.in-Ok.ensures.drops,
      subst (TellsLosses mount) (sym core) c.in-Ok.ensures.tells,
      subst (TellsNoFalseLoss mount) (sym core) c.in-Ok.ensures.quiet,
      subst (MountsWhole mount) (sym core) c.in-Ok.ensures.whole,
    ) in
    subst (λ (x : Option Seat). OfMount x (λ m. HasLayer (value_of c.fill.new.self) (IsMounted m))) (sym has)
    (subst (λ (y : Option Seat). HasLayer y (IsMounted mount)) (sym (c.if-fill.ensures.filled refl)) mounted)

same_mount : (a b : Mount) → Mounting a ≡ Mounting b → a ≡ b
same_mount a b e = cc e

not_some : (k : Option PageAddr) → false ≡ is_some k → k ≡ None
not_some None e = refl
not_some (Some at) e = absurd (false≢true e)

-- a mount is closed with this code once no page is left
finishes : (no_block no_memory : Bool) (s : Option Seat) (mount other : Mount) (next : Option PageAddr) → s ≡ Some (Mounting mount) →
    Mounting other ≡ Mounting mount → next ≡ next_in other → false ≡ is_some next →
    finish_code None no_block no_memory ≡ code_of_mount s (λ m. finish_code (next_in m) no_block no_memory)
finishes no_block no_memory s mount other next has same reads ends =
    let none : next_in mount ≡ None = subst (λ (m : Mount). next_in m ≡ None) (same_mount other mount same) (sym reads ∙ not_some next ends) in
    subst (λ (x : Option Seat). finish_code None no_block no_memory ≡ code_of_mount x (λ m. finish_code (next_in m) no_block no_memory)) (sym has)
    (ap (λ (n : Option PageAddr). finish_code n no_block no_memory) (sym none))

pub returns-else-fill-clause-code : goal.returns-else-fill-clause-code
returns-else-fill-clause-code c =
    let held : Some c.in-Some.seat.value ≡ Some (Mounting c.in-Mounting-into_inner.mount) =
    ap (λ (x : Seat). Some x) (sym c.into_inner.ensures ∙ c.in-Mounting-into_inner.is) in
    finishes false true _ c.in-Mounting-into_inner.mount c.in-Mounting.mount c.next_page.result
    (sym (ap value_of c.typed-handle.ensures.value) ∙ sym c.take.ensures.value ∙ ap (option_map boxed) c.in-Some.is ∙ held)
    (sym c.in-Mounting.is ∙ c.deref.ensures ∙ sym c.into_inner.ensures ∙ c.in-Mounting-into_inner.is) c.next_page.ensures c.if-is_some.ensures
