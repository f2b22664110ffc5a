-- What an opening has been told, and how far it has come.
use Rattle.std.proofs.Common.{◌≡◌, ◌∙◌, ⊎_elim, ◌+◌, ◌-◌, ◌*◌, ◌<◌, ◌≤◌, ℕ, Bool, true, false, not, List, length, insert, min, refl, sym, ap, subst, arith}
use Rattle.std.proofs.Common.{Option, Some, None, IfSome, is_some, if◌then◌else◌}
use Rattle.std.proofs.lemmas.Bool.{cases_lt, true≢false}
use Rattle.std.proofs.lemmas.Bool.Decides.{nat_tests}
use Rattle.geometry.specs.declared.page_addr.PageAddr.{PageAddr}
use Rattle.durable.specs.Calls.{HasNoted, Remounts, TellsLosses, TellsNoFalseLoss}
use Rattle.durable.specs.Candidates.{number_above}
use Rattle.durable.specs.Collecting.{HasCapacity}
use Rattle.durable.specs.Device.{Device, HasOwnVersions, IsWrittenOn, device_in, device_of, next_number_in, next_number_of}
use Rattle.durable.specs.Flash.{Flash}
use Rattle.durable.specs.Losses.{HasNoLoss}
use Rattle.durable.specs.Mounting.{IsStampOf, after_in, next_in, page_on}
use Rattle.durable.specs.Promise.{IsReadable, IsRecoverable}
use Rattle.durable.specs.Updates.{Update}
use Rattle.durable.specs.declared.found.Stamp.{Stamp as Noted}
use Rattle.durable.specs.declared.mount.Mount.{Mount}
use Rattle.durable.proofs.Promises.{readable_renumbered}
use Rattle.nand.specs.Nand.{noted_of}
use Rattle.nand.specs.Numbers.{IsOrder, chip_block, chip_page, good_before, is_marked, numbered}
use Rattle.nand.specs.Opened.{CanFreeInUse, NumbersBelow, device_on, device_using, most_used}
use Rattle.nand.specs.Opening.{AsksMark, HasNotedIn, HasNotedPages, IsOnChip, IsOpenedFrom, TellsMark, TellsStamp, pages_from, question_at, question_by}
use Rattle.nand.specs.Opening.{questions_by}
use Rattle.nand.specs.declared.flash.Reading.{Reading}
use Rattle.nand.specs.declared.flash.Shape.{Shape}
use Rattle.nand.specs.declared.opening.Opened.{Opened}
use Rattle.nand.specs.declared.opening.Question.TheVariants as question
use Rattle.nand.proofs.Mounted.{next_bounded, next_is, noted, one_block}
use Rattle.nand.proofs.Orders.{anew, duplicated_there, in_use_first, lies, next_good, places_bad, places_good, within, written_in_order}

-- without a mount a block is asked for
pub asks_mark : (numbers : List ℕ) (mount : Option Mount) → is_some mount ≡ false → AsksMark (question_by numbers mount)
asks_mark numbers None is = tt
asks_mark numbers (Some mount) is = absurd (true≢false is)

pub told_mark : (bad : List Bool) (numbers : List ℕ) (mount : Option Mount) (is_bad : Bool) → is_some mount ≡ false
    → TellsMark bad (question_by numbers mount) is_bad → is_marked bad (length numbers) ≡ is_bad
told_mark bad numbers None is_bad is tells = tells
told_mark bad numbers (Some mount) is_bad is tells = absurd (true≢false is)

pub asked_below : (shape : Shape) (numbers : List ℕ) (mount : Option Mount) → is_some mount ≡ false → (mount ≡ None → length numbers < shape.blocks)
    → length numbers < shape.blocks
asked_below shape numbers None is asks = asks refl
asked_below shape numbers (Some mount) is asks = absurd (true≢false is)

-- what an insertion made that has not failed
pub inserted : (old new made : List ℕ) (done failed : Bool) → new ≡ (if done then made else old) → done ≡ not failed → failed ≡ false → new ≡ made
inserted old new made done failed is negation none = is ∙ ap (λ (b : Bool). if b then made else old) (negation ∙ ap not none)

placed : (numbers : List ℕ) (bad : List Bool) (most good number : ℕ) (is_bad : Bool) → IsOrder numbers bad (length numbers) most
    → good ≡ good_before bad (length numbers) → is_marked bad (length numbers) ≡ is_bad → number ≡ (if is_bad then length numbers else min good most)
    → IsOrder (insert numbers number (length numbers)) bad (length numbers + 1) most
placed numbers bad most good number true order counted marked is =
    subst (λ (p : ℕ). IsOrder (insert numbers p (length numbers)) bad (length numbers + 1) most) (sym is)
    (places_bad numbers bad (length numbers) most marked order)
placed numbers bad most good number false order counted marked is =
    places_good numbers bad (length numbers) most number (is ∙ ap (λ (n : ℕ). min n most) counted) marked order

-- the next block has its number
pub order_after : (numbers next : List ℕ) (bad : List Bool) (most good number : ℕ) (is_bad : Bool) → IsOrder numbers bad (length numbers) most
    → good ≡ good_before bad (length numbers) → is_marked bad (length numbers) ≡ is_bad → number ≡ (if is_bad then length numbers else min good most)
    → next ≡ insert numbers number (length numbers) → IsOrder next bad (length next) most
order_after numbers next bad most good number is_bad order counted marked place is =
    let made = insert numbers number (length numbers) in
    let there = placed numbers bad most good number is_bad order counted marked place in
    subst (λ (ns : List ℕ). IsOrder ns bad (length ns) most) (sym is) (subst (λ (n : ℕ). IsOrder made bad n most) (sym there.all) there)

pub good_after : (bad : List Bool) (numbers next : List ℕ) (good : ℕ) (is_bad : Bool) → good ≡ good_before bad (length numbers)
    → is_marked bad (length numbers) ≡ is_bad → length next ≡ length numbers + 1 → good + (if is_bad then 0 else 1) ≡ good_before bad (length next)
good_after bad numbers next good is_bad counted marked more =
    ap (λ (n : ℕ). n + (if is_bad then 0 else 1)) counted ∙ (sym (next_good bad (length numbers) is_bad marked) ∙ ap (good_before bad) (sym more))

-- a mount that begins has noted nothing
pub noted_after : (f : Flash) (bad : List Bool) (shape : Shape) (sectors : ℕ) (next : List ℕ) (good told : ℕ) (mount : Option Mount) → length next ≡ told
    → good ≡ good_before bad (length next) → IfSome mount (λ m. told ≡ shape.blocks)
    → IfSome mount (λ m. device_in m ≡ device_using (min good (most_used shape sectors)) shape sectors) → IfSome mount (λ m. next_number_in m ≡ 0)
    → IfSome mount (λ m. (g : Flash) → HasNoted g m) → IfSome mount (λ m. HasCapacity sectors good shape.pages)
    → HasNotedIn f bad shape sectors next mount
noted_after f bad shape sectors next good told None more counted all device number notes capacity = tt
noted_after f bad shape sectors next good told (Some mount) more counted all device number notes capacity =
    let whole : length next ≡ shape.blocks = more ∙ all in
    let is : good ≡ good_before bad shape.blocks = counted ∙ ap (good_before bad) whole in
    record {
      all = whole;
      device = device ∙ ap (λ (n : ℕ). device_using (min n (most_used shape sectors)) shape sectors) is;
      capacity = subst (λ (n : ℕ). HasCapacity sectors n shape.pages) is capacity;
      number = λ n below. omega (arith, number);
      noted = notes (numbered next f);
    }

all_pages : (blocks pages : ℕ) → (blocks - 0) * pages - 0 ≡ blocks * pages
all_pages blocks pages =
    let all : (blocks - 0) * pages ≡ blocks * pages = ap (λ (k : ℕ). k * pages) {x = blocks - 0} {y = blocks} (omega arith) in omega (arith, all)

-- one question fewer is left
pub left_after : (shape : Shape) (sectors used told : ℕ) (old new : Option Mount) → is_some old ≡ false → told < shape.blocks
    → IfSome new (λ m. told + 1 ≡ shape.blocks) → IfSome new (λ m. device_in m ≡ device_using used shape sectors)
    → IfSome new (λ m. next_in m ≡ Some (record { block = 0; page = 0 })) → questions_by shape (told + 1) new + 1 ≡ questions_by shape told old
left_after shape sectors used told (Some mount) new is lt all device first = absurd (true≢false is)
left_after shape sectors used told None None is lt all device first = omega (arith, lt)
left_after shape sectors used told None (Some mount) is lt all device first =
    let here : pages_from mount.read_blocks mount.pages (next_in mount) ≡ mount.read_blocks * mount.pages =
    ap (pages_from mount.read_blocks mount.pages) first ∙ all_pages mount.read_blocks mount.pages in
    let total : mount.read_blocks * mount.pages ≡ shape.blocks * shape.pages = ap (λ (d : Device). d.read_blocks * d.pages) device in
    omega (arith, here, total, all, lt)

left_there : (blocks pages : ℕ) (at : PageAddr) → pages_from blocks pages (page_on blocks at) ≡ (blocks - at.block) * pages - at.page
left_there blocks pages at = ⊎_elim
    (λ under. let is : page_on blocks at ≡ Some at = grind (arith, nat_tests) in ap (pages_from blocks pages) is)
    (λ past.
    let is : page_on blocks at ≡ None = grind (arith, nat_tests) in
    let none : (blocks - at.block) * pages ≡ 0 = ap (λ (k : ℕ). k * pages) {x = blocks - at.block} {y = 0} (omega (arith, past)) ∙ grind arith in
    omega (arith, ap (pages_from blocks pages) is, none))
    (cases_lt at.block blocks)

left_next : (mount : Mount) → mount.block < mount.read_blocks
    → pages_from mount.read_blocks mount.pages (after_in mount) + 1 ≡ (mount.read_blocks - mount.block) * mount.pages - mount.page
left_next mount lt = ⊎_elim
    (λ more.
    let next : PageAddr = record { block = mount.block; page = mount.page + 1 } in
    let is : after_in mount ≡ page_on mount.read_blocks next = grind (arith, nat_tests) in
    omega (
      arith,
      ap (pages_from mount.read_blocks mount.pages) is,
      left_there mount.read_blocks mount.pages next,
      more,
      one_block mount.read_blocks mount.block mount.pages lt,
    ))
    (λ last.
    let next : PageAddr = record { block = mount.block + 1; page = 0 } in
    let is : after_in mount ≡ page_on mount.read_blocks next = grind (arith, nat_tests) in
    omega (
      arith,
      ap (pages_from mount.read_blocks mount.pages) is,
      left_there mount.read_blocks mount.pages next,
      last,
      mount.page_within,
      one_block mount.read_blocks mount.block mount.pages lt,
    ))
    (cases_lt (mount.page + 1) mount.pages)

pub is_read : (mount : Mount) → is_some (next_in mount) ≡ true → mount.block < mount.read_blocks
is_read mount some = ⊎_elim
    (λ lt. lt)
    (λ past. let none : next_in mount ≡ None = grind (arith, nat_tests) in absurd (true≢false (sym some ∙ ap (λ (o : Option PageAddr). is_some o) none)))
    (cases_lt mount.block mount.read_blocks)

pub page_left : (old new : Mount) → is_some (next_in old) ≡ true → device_in new ≡ device_in old → next_in new ≡ after_in old
    → pages_from new.read_blocks new.pages (next_in new) + 1 ≡ pages_from old.read_blocks old.pages (next_in old)
page_left old new some device next =
    let now : pages_from new.read_blocks new.pages (next_in new) ≡ pages_from old.read_blocks old.pages (after_in old) =
    ap (λ (d : Device). pages_from d.read_blocks d.pages (next_in new)) device ∙ ap (pages_from old.read_blocks old.pages) next in
    let here : PageAddr = record { block = old.block; page = old.page } in
    omega (arith, now, left_there old.read_blocks old.pages here, left_next old (is_read old some))

-- a true answer is what the mount has to note
pub stamp_known : (f : Flash) (numbers : List ℕ) (next : Option PageAddr) (reading : Reading) (stamp : Option Noted) → stamp ≡ noted_of reading
    → TellsStamp f (question_at numbers next) reading → IfSome next (λ at. IsStampOf (numbered numbers f) at.block at.page stamp)
stamp_known f numbers None reading stamp is tells = absurd tells
stamp_known f numbers (Some at) reading stamp is tells =
    subst (λ (x : Option Noted). IsStampOf (numbered numbers f) at.block at.page x) (sym is) (noted (numbered numbers f) at.block at.page reading tells)

number_below : (f : Flash) (numbers : List ℕ) (n next new : ℕ) (here : Option PageAddr) (reading : Reading) (stamp : Option Noted) → stamp ≡ noted_of reading
    → TellsStamp f (question_at numbers here) reading → new ≡ number_above next stamp → NumbersBelow f n → next ≤ n → new ≤ n
number_below f numbers n next new None reading stamp is tells number below le = absurd tells
number_below f numbers n next new (Some at) reading stamp is tells number below le =
    next_bounded (numbered numbers f) n next new (Some at) at stamp refl (stamp_known f numbers (Some at) reading stamp is tells) number
    (λ b p e m v held. below (chip_block numbers b) p e m v held) le

-- the stamp of one page more is noted
pub page_noted : (f : Flash) (bad : List Bool) (shape : Shape) (sectors : ℕ) (numbers : List ℕ) (old new : Mount) (reading : Reading) (stamp : Option Noted)
    → HasNotedPages f bad shape sectors numbers old → TellsStamp f (question_at numbers (next_in old)) reading → stamp ≡ noted_of reading
    → device_in new ≡ device_in old → next_number_in new ≡ number_above (next_number_in old) stamp
    → ((g : Flash) → HasNoted g old → IfSome (next_in old) (λ at. IsStampOf g at.block at.page stamp) → HasNoted g new)
    → HasNotedPages f bad shape sectors numbers new
page_noted f bad shape sectors numbers old new reading stamp has tells is device number notes = record {
  all = has.all;
  device = device ∙ has.device;
  capacity = has.capacity;
  number = λ n below. number_below f numbers n (next_number_in old) (next_number_in new) (next_in old) reading stamp is tells number below (has.number n below);
  noted = notes (numbered numbers f) has.noted (stamp_known f numbers (next_in old) reading stamp is tells);
}

-- the chip that was told of, with all its blocks numbered
module _ (f : Flash) (bad : List Bool) (shape : Shape) (sectors : ℕ) (numbers : List ℕ)
    (order : IsOrder numbers bad shape.blocks (most_used shape sectors)) where
  readable_there : (acked begun : List Update) → IsReadable f (device_on shape bad sectors) acked begun
      → IsReadable (numbered numbers f) (device_on shape bad sectors) acked begun
  readable_there acked begun is = readable_renumbered f (numbered numbers f) (device_on shape bad sectors) (device_on shape bad sectors) acked begun
      (anew numbers bad shape.blocks (most_used shape sectors) order f) (refl, refl, refl) is

  own_here : HasOwnVersions (device_on shape bad sectors) (numbered numbers f) → HasOwnVersions (device_on shape bad sectors) f
  own_here own = λ b p e m v lt page is. own (order.to b) p e m v (within numbers bad shape.blocks (most_used shape sectors) order b lt) page
      (ap (λ (c : ℕ). f c p) (order.put b) ∙ is)

  pub recoverable_there : (acked begun : List Update) → IsReadable f (device_on shape bad sectors) acked begun → CanFreeInUse f shape bad sectors
      → IsRecoverable (numbered numbers f) (device_on shape bad sectors) acked begun
  recoverable_there acked begun is free =
      let renumbered = anew numbers bad shape.blocks (most_used shape sectors) order f in
      let there = readable_there acked begun is in
      record {
        keeps = there.keeps;
        written = there.written;
        spare = (
          order.to free.0,
          in_use_first numbers bad shape.blocks (most_used shape sectors) order free.0 free.1 free.2.0 free.2.1,
          duplicated_there f (numbered numbers f) shape.blocks sectors renumbered order.put free.0 free.3,
        );
      }

-- the core that a mount gives is the chip's
pub opens : (f : Flash) (bad : List Bool) (shape : Shape) (sectors : ℕ) (opened : Opened) (mount : Mount)
    → IsOrder opened.numbers.items bad (length opened.numbers.items) (most_used shape sectors)
    → opened.good ≡ good_before bad (length opened.numbers.items) → HasNotedPages f bad shape sectors opened.numbers.items mount
    → device_of opened.core ≡ device_in mount → next_number_of opened.core ≡ next_number_in mount
    → ((g : Flash) → HasNoted g mount → HasOwnVersions (device_in mount) g) → Remounts mount opened.core → TellsLosses mount opened.core
    → TellsNoFalseLoss mount opened.core → IsOpenedFrom f bad shape sectors opened
opens f bad shape sectors opened mount order good has device number own remounts tells quiet =
    let numbers = opened.numbers.items in
    let whole = subst (λ (n : ℕ). IsOrder numbers bad n (most_used shape sectors)) has.all order in
    let g = numbered numbers f in
    record {
      order = whole;
      good = good ∙ ap (good_before bad) has.all;
      device = device ∙ has.device;
      capacity = has.capacity;
      number = λ n below. omega (arith, number, has.number n below);
      own = own_here f bad shape sectors numbers whole (subst (λ (d : Device). HasOwnVersions d g) has.device (own g has.noted));
      consistent = λ acked begun is. remounts g acked begun has.noted
          (subst (λ (d : Device). IsReadable g d acked begun) (sym has.device) (readable_there f bad shape sectors numbers whole acked begun is));
      tells = λ written none. subst (λ (d : Device). HasNoLoss g d.sectors) has.device (tells g has.noted
          (subst (λ (d : Device). IsWrittenOn d g) (sym has.device) (written_in_order f shape bad numbers sectors whole written)) none);
      quiet = λ acked begun is no_loss. quiet g acked begun has.noted
          (subst (λ (d : Device). IsReadable g d acked begun) (sym has.device) (readable_there f bad shape sectors numbers whole acked begun is))
          (subst (λ (d : Device). HasNoLoss g d.sectors) (sym has.device) no_loss);
    }

-- each question is for what the chip has
page_on_chip : (f : Flash) (bad : List Bool) (shape : Shape) (sectors : ℕ) (numbers : List ℕ) (mount : Mount) (at : PageAddr)
    → IsOrder numbers bad (length numbers) (most_used shape sectors) → HasNotedPages f bad shape sectors numbers mount → next_in mount ≡ Some at
    → IsOnChip shape (question.Stamp (chip_page numbers at))
page_on_chip f bad shape sectors numbers mount at order has is =
    let here = next_is mount at is in
    let whole = subst (λ (n : ℕ). IsOrder numbers bad n (most_used shape sectors)) has.all order in (
      lies numbers bad shape.blocks (most_used shape sectors) whole at.block
          (omega (arith, here.0, ap (λ (a : PageAddr). a.block) here.1, ap (λ (d : Device). d.read_blocks) has.device)),
      omega (arith, mount.page_within, ap (λ (a : PageAddr). a.page) here.1, ap (λ (d : Device). d.pages) has.device),
    )

stamp_on_chip : (f : Flash) (bad : List Bool) (shape : Shape) (sectors : ℕ) (numbers : List ℕ) (mount : Mount) (next : Option PageAddr)
    → IsOrder numbers bad (length numbers) (most_used shape sectors) → HasNotedPages f bad shape sectors numbers mount → next_in mount ≡ next
    → IfSome (question_at numbers next) (IsOnChip shape)
stamp_on_chip f bad shape sectors numbers mount None order has is = tt
stamp_on_chip f bad shape sectors numbers mount (Some at) order has is = page_on_chip f bad shape sectors numbers mount at order has is

pub asks_on_chip : (f : Flash) (bad : List Bool) (shape : Shape) (sectors : ℕ) (numbers : List ℕ) (mount : Option Mount)
    → IsOrder numbers bad (length numbers) (most_used shape sectors) → HasNotedIn f bad shape sectors numbers mount
    → (mount ≡ None → length numbers < shape.blocks) → IfSome (question_by numbers mount) (IsOnChip shape)
asks_on_chip f bad shape sectors numbers None order has asks = asks refl
asks_on_chip f bad shape sectors numbers (Some mount) order has asks = stamp_on_chip f bad shape sectors numbers mount (next_in mount) order has refl
