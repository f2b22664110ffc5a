-- A block that is marked bad, and the block of the reserve that comes in use in its stead.
use Rattle.std.proofs.Common.{◌≡◌, ◌≢◌, ◌⊎◌, ◌∙◌, inl, inr, ⊎_elim, ◌+◌, ◌-◌, ◌<◌, ◌≤◌, ℕ, zero, suc, Bool, true, false, List, ◌∷◌}
use Rattle.std.proofs.Common.{length, min, if◌then◌else◌, refl, sym, ap, subst, arith}
use Rattle.std.proofs.lemmas.Bool.{cases_eq, cases_lt, false≢true}
use Rattle.geometry.specs.Sectors.{Sector}
use Rattle.durable.specs.declared.extent.Extent.{Extent}
use Rattle.durable.specs.declared.command.Command.{Command}
use Rattle.durable.specs.declared.command.Command.TheVariants.{Program, Copy, Erase, Refused}
use Rattle.durable.specs.declared.memory.Core.{Core}
use Rattle.durable.specs.Commands.{CutLeaves}
use Rattle.durable.specs.Device.{Device, NamesOn, device_of}
use Rattle.durable.specs.Failures.{Changes, HoldsNoVersion, IsSwapped, swapped}
use Rattle.durable.specs.Flash.{Flash, Recovers}
use Rattle.durable.specs.Memory.{Represents}
use Rattle.durable.specs.Promise.{IsConsistent, IsReadable, IsRecoverable}
use Rattle.durable.specs.Retiring.{HasLeftVersion, Retires, updates_left}
use Rattle.durable.specs.Updates.{Makes, Update, array_after, changed}
use Rattle.durable.proofs.Exact.{before_or_after}
use Rattle.durable.proofs.Extents.{cases_covered, changed_elsewhere, changed_here}
use Rattle.durable.proofs.Reserves.{swapped_first, swapped_other, swapped_second, swapped_twice, untouched}
use Rattle.durable.proofs.Retired.{block_in_use}
use Rattle.durable.proofs.Subsequences.{all_of, between_same}
use Rattle.nand.specs.declared.flash.Shape.{Shape}
use Rattle.nand.specs.declared.layer.Durable.{Durable}
use Rattle.nand.specs.Attempts.{IsOpenAgain, IsCutShort, Reopens}
use Rattle.nand.specs.Numbers.{IsInReserve, IsOrder, Marks, chip_block, good_before, is_marked, numbered}
use Rattle.nand.specs.Opened.{CanOpen, IsOpenLayer, IsOpenable, IsReserveBlank}
use Rattle.nand.specs.Opened.{device_on, device_using, layer_sectors, most_used, update_of, used_blocks}
use Rattle.nand.proofs.Orders.{few_good, good_grows, in_reserve_past, least_first, least_second, lies, no_greater, openable, other_chip_block, used_rank}
use Rattle.nand.proofs.Steps.{device_there, same_order}

-- a block counts if it is good
abbrev one_if_good : Bool → ℕ
one_if_good marked = if marked then 0 else 1

-- how many blocks are good, after one more was marked
module _ (bad marks : List Bool) (d : ℕ) (is : Marks bad marks d) where
  same_good : (n : ℕ) → n ≤ d → good_before marks n ≡ good_before bad n
  same_good zero le = refl
  same_good (suc n) le = omega (arith, same_good n (omega (arith, le)), ap one_if_good (is.1 n (λ e. omega (arith, e, le))))

  pub fewer_good : is_marked bad d ≡ false → (n : ℕ) → d < n → good_before marks n + 1 ≡ good_before bad n
  fewer_good was zero lt = absurd (omega (arith, lt))
  fewer_good was (suc n) lt = ⊎_elim
      (λ here. omega (
        arith,
        same_good n (omega (arith, here)),
        ap one_if_good (ap (is_marked marks) here ∙ is.0),
        ap one_if_good (ap (is_marked bad) here ∙ was),
      ))
      (λ differs. omega (arith, fewer_good was n (omega (arith, lt, differs)), ap one_if_good (is.1 n differs)))
      (cases_eq n d)

  no_more_good : (n : ℕ) → good_before marks n ≤ good_before bad n
  no_more_good zero = omega arith
  no_more_good (suc n) = ⊎_elim
      (λ here. omega (arith, no_more_good n, ap one_if_good (ap (is_marked marks) here ∙ is.0)))
      (λ differs. omega (arith, no_more_good n, ap one_if_good (is.1 n differs)))
      (cases_eq n d)

  still_good : (c : ℕ) → is_marked marks c ≡ false → is_marked bad c ≡ false
  still_good c good = sym (is.1 c (λ e. false≢true (sym good ∙ (ap (is_marked marks) e ∙ is.0)))) ∙ good

-- the block of a command that has failed, and the next one of the reserve, whose number is the last of the good ones
module _ (numbers : List ℕ) (bad marks : List Bool) (blocks most number spare : ℕ) (is : IsOrder numbers bad blocks most)
    (marked : Marks bad marks (chip_block numbers number)) (more : most < good_before bad blocks) (used : number < most)
    (last : spare + 1 ≡ good_before bad blocks) where
  failed_good : is_marked bad (chip_block numbers number) ≡ false
  failed_good = is.good number (omega (arith, more, used))

  failed_rank : good_before bad (chip_block numbers number) < most
  failed_rank = used_rank numbers bad blocks most is number used (omega (arith, more, used))

  next_lies : chip_block numbers spare < blocks
  next_lies = lies numbers bad blocks most is spare (omega (arith, last, few_good bad blocks))

  next_good : is_marked bad (chip_block numbers spare) ≡ false
  next_good = is.good spare (omega (arith, last))

  next_rank : good_before bad (chip_block numbers spare) ≡ most
  next_rank = omega (arith, is.reserved spare (omega (arith, more, last)) (omega (arith, last)), last)

  other_block : (c : ℕ) → c ≢ number → chip_block numbers c ≢ chip_block numbers number
  other_block c differs = other_chip_block numbers bad blocks most is number c differs

  -- the blocks of the reserve come behind those in use
  behind : (b : ℕ) → most ≤ good_before bad b → chip_block numbers number < b
  behind b many = ⊎_elim
      (λ under. under)
      (λ le. absurd (omega (arith, good_grows bad b (chip_block numbers number) le, failed_rank, many)))
      (cases_lt (chip_block numbers number) b)

  one_fewer : (b : ℕ) → most ≤ good_before bad b → good_before marks b + 1 ≡ good_before bad b
  one_fewer b many = fewer_good bad marks (chip_block numbers number) marked failed_good b (behind b many)

  one_fewer_good : good_before marks blocks + 1 ≡ good_before bad blocks
  one_fewer_good = one_fewer blocks (omega (arith, more))

  -- the next one is in use then
  next_used : (is_marked marks (chip_block numbers spare) ≡ false) × (good_before marks (chip_block numbers spare) < most)
  next_used = (
    marked.1 (chip_block numbers spare) (other_block spare (λ e. omega (arith, e, used, more, last))) ∙ next_good,
    omega (arith, one_fewer (chip_block numbers spare) (omega (arith, next_rank)), next_rank),
  )

  -- they change their numbers
  exchanged : (new : List ℕ) → length new ≡ length numbers → ((c : ℕ) → chip_block new c ≡ chip_block numbers (swapped number spare c))
      → IsOrder new marks blocks most
  exchanged new size swap =
      let d = chip_block numbers number in
      let good = one_fewer_good in
      let first : chip_block new number ≡ chip_block numbers spare = swap number ∙ ap (chip_block numbers) (swapped_first number spare) in
      let second : chip_block new spare ≡ d = swap spare ∙ ap (chip_block numbers) (swapped_second number spare) in
      let stays : (c : ℕ) → c ≢ number → c ≢ spare → chip_block new c ≡ chip_block numbers c =
      λ c a b. swap c ∙ ap (chip_block numbers) (swapped_other number spare c a b) in
      let as_before : (c : ℕ) → c ≢ number → is_marked marks (chip_block numbers c) ≡ is_marked bad (chip_block numbers c) =
      λ c differs. marked.1 (chip_block numbers c) (other_block c differs) in
      record {
        all = size ∙ is.all;
        to = λ b. swapped number spare (is.to b);
        found = λ c. ap (λ (b : ℕ). swapped number spare (is.to b)) (swap c)
            ∙ (ap (swapped number spare) (is.found (swapped number spare c)) ∙ swapped_twice number spare c);
        put = λ b. swap (swapped number spare (is.to b)) ∙ (ap (chip_block numbers) (swapped_twice number spare (is.to b)) ∙ is.put b);
        good = λ c lt. ⊎_elim
            (λ e. ap (is_marked marks) (ap (chip_block new) e ∙ first) ∙ next_used.0)
            (λ differs. ap (is_marked marks) (stays c differs (λ e. omega (arith, e, lt, good, last)))
            ∙ (as_before c differs ∙ is.good c (omega (arith, lt, good))))
            (cases_eq c number);
        reserved = λ c past lt.
            let here = is.reserved c past (omega (arith, lt, good)) in
            omega (
              arith,
              ap (good_before marks) (stays c (λ e. omega (arith, e, used, past)) (λ e. omega (arith, e, lt, good, last))),
              one_fewer (chip_block numbers c) (omega (arith, here, lt, good)),
              here,
              good,
            );
        others = λ c past lt. ⊎_elim
            (λ e. ap (is_marked marks) (ap (chip_block new) e ∙ second) ∙ marked.0)
            (λ differs.
            let other : c ≢ number = λ e. omega (arith, e, used, more, past, good) in
            ap (is_marked marks) (stays c other differs) ∙ (as_before c other ∙ is.others c (omega (arith, past, good, last, differs)) lt))
            (cases_eq c spare);
      }

  -- the rest of the reserve has no version still
  still_blank : (f : Flash) → ((b : ℕ) → b < blocks → IsInReserve bad most b → HoldsNoVersion f b)
      → (b : ℕ) → b < blocks → IsInReserve marks most b → HoldsNoVersion f b
  still_blank f blank b lt reserved = blank b lt (
    still_good bad marks (chip_block numbers number) marked b reserved.0,
    omega (arith, reserved.1, no_more_good bad marks (chip_block numbers number) marked b),
  )

-- a command leaves the reserve as it was
pub blank_after : (f t : Flash) (shape : Shape) (bad : List Bool) (numbers : List ℕ) (sectors : ℕ) (m : Command) (s : Extent) (value : Sector)
    → IsOrder numbers bad shape.blocks (most_used shape sectors) → NamesOn (device_on shape bad sectors) m
    → CutLeaves m s value (numbered numbers f) (numbered numbers t)
    → IsReserveBlank f shape bad sectors → IsReserveBlank t shape bad sectors
blank_after f t shape bad numbers sectors m s value order names cut blank b lt reserved p k n v held =
    let most = most_used shape sectors in
    let past : used_blocks shape bad sectors ≤ order.to b =
    omega (
      arith,
      in_reserve_past numbers bad shape.blocks most order b lt reserved.0 reserved.1,
      (no_greater (good_before bad shape.blocks) most).1,
    ) in
    let same = subst (λ (c : ℕ). t c p ≡ f c p) (order.put b)
    (untouched (numbered numbers f) (numbered numbers t) (device_on shape bad sectors) m s value names cut (order.to b) p past) in
    blank b lt reserved p k n v (sym same ∙ held)

pub blank_there : (f g : Flash) (a b : Shape) (x y : List Bool) (s t : ℕ) → g ≡ f → b ≡ a → y ≡ x → t ≡ s → IsReserveBlank f a x s
    → IsReserveBlank g b y t
blank_there f g a b x y s t flash chip marks sectors is = subst (λ (h : Flash). IsReserveBlank h b y t) (sym flash)
    (subst (λ (c : Shape). IsReserveBlank f c y t) (sym chip)
    (subst (λ (m : List Bool). IsReserveBlank f a m t) (sym marks) (subst (λ (n : ℕ). IsReserveBlank f a x n) (sym sectors) is)))

pub good_there : (r t : ℕ) (a b : Shape) (x y : List Bool) → t ≡ r → b ≡ a → y ≡ x → r ≡ good_before x a.blocks → t ≡ good_before y b.blocks
good_there r t a b x y same chip marks is =
    same ∙ (is ∙ (ap (λ (s : Shape). good_before x s.blocks) (sym chip) ∙ ap (λ (m : List Bool). good_before m b.blocks) (sym marks)))

-- a layer whose chip has answered, and holds the same
pub still_open : {N : Type 0} (flash : N → Flash) (shape : N → Shape) (bad : N → List Bool) (layer : Durable N) (nand : N) (updates : List Update)
    → flash nand ≡ flash layer.nand → shape nand ≡ shape layer.nand → bad nand ≡ bad layer.nand → IsOpenLayer flash shape bad layer updates
    → IsOpenLayer flash shape bad (record layer { nand = nand }) updates
still_open {N} flash shape bad layer nand updates same chip marks is =
    let sectors = layer_sectors layer in
    record {
      mounted = is.mounted;
      order = same_order layer.numbers.items (shape layer.nand) (shape nand) (bad layer.nand) (bad nand) sectors sectors chip marks refl is.order;
      device = device_there layer.core (shape layer.nand) (shape nand) (bad layer.nand) (bad nand) sectors is.device chip marks;
      good = good_there layer.good layer.good (shape layer.nand) (shape nand) (bad layer.nand) (bad nand) refl chip marks is.good;
      blank = blank_there (flash layer.nand) (flash nand) (shape layer.nand) (shape nand) (bad layer.nand) (bad nand) sectors sectors same chip marks refl
          is.blank;
      consistent = subst (λ (f : Flash). IsConsistent (numbered layer.numbers.items f) layer.core updates updates) (sym same) is.consistent;
    }

-- an update that is made twice is made once
twice_at : (array : ℕ → Sector) (s : Extent) (value : Sector) (k : ℕ) → changed (changed array s value) s value k ≡ changed array s value k
twice_at array s value k = ⊎_elim
    (λ has. changed_here (changed array s value) s value k has ∙ sym (changed_here array s value k has))
    (λ out. changed_elsewhere (changed array s value) s value k out)
    (cases_covered s k)

twice : (update : Update) (updates : List Update) → array_after (update ∷ update ∷ updates) ≡ array_after (update ∷ updates)
twice update updates = λ i k. twice_at (array_after updates) update.extent update.value k i

pub readable_once : (f : Flash) (device : Device) (update : Update) (updates : List Update)
    → IsReadable f device (update ∷ update ∷ updates) (update ∷ update ∷ updates) → IsReadable f device (update ∷ updates) (update ∷ updates)
readable_once f device update updates is =
    let more = update ∷ updates in
    let keeps = is.keeps in
    let same : array_after keeps.updates ≡ array_after more =
    ap array_after (between_same (update ∷ more) keeps.updates keeps.includes keeps.included) ∙ twice update updates in
    record {
      keeps = record {
        updates = more;
        includes = all_of more;
        included = all_of more;
        recovers = subst (λ (array : ℕ → Sector). Recovers f device.sectors array) same keeps.recovers;
      };
      written = is.written;
    }

consistent_once : (f : Flash) (core : Core) (update : Update) (updates : List Update)
    → IsConsistent f core (update ∷ update ∷ updates) (update ∷ update ∷ updates) → IsConsistent f core (update ∷ updates) (update ∷ updates)
consistent_once f core update updates is =
    let more = update ∷ updates in
    let same : array_after is.updates ≡ array_after more =
    ap array_after (between_same (update ∷ more) is.updates is.includes is.included) ∙ twice update updates in
    record {
      updates = more;
      includes = all_of more;
      included = all_of more;
      represents = subst (λ (array : ℕ → Sector). Represents f core array) same is.represents;
      written = is.written;
      spare = is.spare;
    }

pub open_once : {N : Type 0} (flash : N → Flash) (shape : N → Shape) (bad : N → List Bool) (layer : Durable N) (update : Update) (updates : List Update)
    → IsOpenLayer flash shape bad layer (update ∷ update ∷ updates) → IsOpenLayer flash shape bad layer (update ∷ updates)
open_once {N} flash shape bad layer update updates is = record {
  mounted = is.mounted;
  order = is.order;
  device = is.device;
  good = is.good;
  blank = is.blank;
  consistent = consistent_once (numbered layer.numbers.items (flash layer.nand)) layer.core update updates is.consistent;
}

pub opens_once : {N : Type 0} (flash : N → Flash) (shape : N → Shape) (bad : N → List Bool) (nand : N) (sectors : ℕ) (update : Update)
    (updates : List Update) → CanOpen flash shape bad nand sectors (update ∷ update ∷ updates) → CanOpen flash shape bad nand sectors (update ∷ updates)
opens_once {N} flash shape bad nand sectors update updates is = record {
  readable = readable_once (flash nand) (device_on (shape nand) (bad nand) sectors) update updates is.readable;
  frees = is.frees;
  blank = is.blank;
}

-- an update that was made or not
pub either : (P : List Update → Type 0) (update : Update) (before after : List Update) → Makes false update before after → P after
    → P before ⊎ P (update ∷ before)
either P update before after made is = ⊎_elim (λ same. inl (subst P same is)) (λ more. inr (subst P more is)) made

-- what holds after two attempts, of which each made the update or not
module _ (P : List Update → Type 0) (update : Update) (before middle : List Update) (once : P (update ∷ update ∷ before) → P (update ∷ before))
    (first : Makes false update before middle) where
  pub settles : (after : List Update) → Makes false update middle after → P after → (last : List Update) × Makes false update before last × P last
  settles after second is = ⊎_elim
      (λ same. (after, subst (λ (us : List Update). Makes false update us after) same second, is))
      (λ made. ⊎_elim
      (λ stays. (after, inr (stays ∙ made), is))
      (λ again. (update ∷ before, inr refl, once (subst P (again ∙ ap (λ (us : List Update). update ∷ us) made) is)))
      second)
      first

  pub settles_made : P (update ∷ middle) → P (update ∷ before)
  settles_made is = ⊎_elim
      (λ same. subst (λ (us : List Update). P (update ∷ us)) same is)
      (λ made. once (subst (λ (us : List Update). P (update ∷ us)) made is))
      first

-- with a reserve, as many blocks are in use as at most
spared : (good most : ℕ) → min good most < good → most < good
spared good most some = ⊎_elim
    (λ under. under)
    (λ le. absurd (omega (arith, some, least_first good most le)))
    (cases_lt most good)

-- the same of chips that hold the same
pub openable_there : (f g : Flash) (a b : Shape) (bad : List Bool) (s t : ℕ) (updates : List Update) → g ≡ f → b ≡ a → t ≡ s
    → IsOpenable f a bad s updates → IsOpenable g b bad t updates
openable_there f g a b bad s t updates flash chip sectors is = subst (λ (h : Flash). IsOpenable h b bad t updates) (sym flash)
    (subst (λ (c : Shape). IsOpenable f c bad t updates) (sym chip) (subst (λ (n : ℕ). IsOpenable f a bad n updates) (sym sectors) is))

-- a mount gives an open layer
pub mounted_open : {N : Type 0} (flash : N → Flash) (shape : N → Shape) (bad : N → List Bool) (was : N) (layer : Durable N) (sectors : ℕ)
    (updates : List Update) → layer.mounted ≡ true
    → (flash layer.nand ≡ flash was) × (shape layer.nand ≡ shape was) × (bad layer.nand ≡ bad was)
    → IsOrder layer.numbers.items (bad was) (shape was).blocks (most_used (shape was) sectors) → device_of layer.core ≡ device_on (shape was) (bad was) sectors
    → layer.good ≡ good_before (bad was) (shape was).blocks
    → IsReserveBlank (flash was) (shape was) (bad was) sectors → IsConsistent (numbered layer.numbers.items (flash was)) layer.core updates updates
    → IsOpenLayer flash shape bad layer updates
mounted_open {N} flash shape bad was layer sectors updates mounted same order device good blank consistent = record {
  mounted = mounted;
  order = same_order layer.numbers.items (shape was) (shape layer.nand) (bad was) (bad layer.nand) sectors (layer_sectors layer) same.1 same.2
      (ap (λ (d : Device). d.sectors) device) order;
  device = device_there layer.core (shape was) (shape layer.nand) (bad was) (bad layer.nand) sectors device same.1 same.2;
  good = good_there layer.good layer.good (shape was) (shape layer.nand) (bad was) (bad layer.nand) refl same.1 same.2 good;
  blank = blank_there (flash was) (flash layer.nand) (shape was) (shape layer.nand) (bad was) (bad layer.nand) sectors (layer_sectors layer) same.0
      same.1 same.2 (ap (λ (d : Device). d.sectors) device) blank;
  consistent = subst (λ (f : Flash). IsConsistent (numbered layer.numbers.items f) layer.core updates updates) (sym same.0) consistent;
}

-- as many blocks are in use as before
used_still : (good now most : ℕ) → now + 1 ≡ good → most < good → min now most ≡ most
used_still good now most one more = ⊎_elim
    (λ under. least_second now most under)
    (λ le. omega (arith, least_first now most le, le, one, more))
    (cases_lt most now)

-- a command that has failed made its update, or not
makes_left : (left : Bool) (m : Command) (update : Update) (updates : List Update) → Makes false update updates (updates_left left m update updates)
makes_left true (Program at n) update updates = inr refl
makes_left true (Copy k from to) update updates = inl refl
makes_left true (Erase b) update updates = inl refl
makes_left true Refused update updates = inl refl
makes_left false m update updates = inl refl

-- a command of the layer was cut short
module _ {N : Type 0} (flash : N → Flash) (shape : N → Shape) (bad : N → List Bool) (layer : Durable N) (extent : Extent) (value : Sector) (command : Command)
    (updates : List Update) (is : IsCutShort flash shape bad layer (update_of extent value) command updates) where
  blocks : (device_of layer.core).blocks ≡ used_blocks (shape layer.nand) (bad layer.nand) (layer_sectors layer)
  blocks = ap (λ (d : Device). d.blocks) is.device

  -- the chip can be opened
  pub stopped : Reopens flash shape bad layer.nand (layer_sectors layer) (update_of extent value) updates
  stopped =
      let opens = λ (after : List Update) (left : IsRecoverable (numbered layer.numbers.items (flash layer.nand))
      (device_on (shape layer.nand) (bad layer.nand) (layer_sectors layer)) after after).
      openable (flash layer.nand) (shape layer.nand) (bad layer.nand) layer.numbers.items (layer_sectors layer) is.order after left is.blank in
      ⊎_elim
      (λ before. (updates, inl refl, opens updates before))
      (λ after. (update_of extent value ∷ updates, inr refl, opens (update_of extent value ∷ updates) after))
      (before_or_after (numbered layer.numbers.items (flash layer.nand)) (device_on (shape layer.nand) (bad layer.nand) (layer_sectors layer))
      (update_of extent value) updates is.recovers)

  pub all_in_use : layer.good ≤ (device_of layer.core).blocks
      → good_before (bad layer.nand) (shape layer.nand).blocks ≤ most_used (shape layer.nand) (layer_sectors layer)
  all_in_use none = omega (
    arith,
    none,
    is.good,
    blocks,
    (no_greater (good_before (bad layer.nand) (shape layer.nand).blocks) (most_used (shape layer.nand) (layer_sectors layer))).1,
  )

  -- a block is in reserve
  module _ (some : (device_of layer.core).blocks < layer.good) (number : ℕ) (changes : Changes command number) where
    more : most_used (shape layer.nand) (layer_sectors layer) < good_before (bad layer.nand) (shape layer.nand).blocks
    more = spared (good_before (bad layer.nand) (shape layer.nand).blocks) (most_used (shape layer.nand) (layer_sectors layer))
        (omega (arith, some, is.good, blocks))

    full : (device_of layer.core).blocks ≡ most_used (shape layer.nand) (layer_sectors layer)
    full = blocks ∙ least_second (good_before (bad layer.nand) (shape layer.nand).blocks) (most_used (shape layer.nand) (layer_sectors layer)) more

    used : number < most_used (shape layer.nand) (layer_sectors layer)
    used = omega (arith, block_in_use layer.core command number is.next changes, full)

    pub block_lies : chip_block layer.numbers.items number < (shape layer.nand).blocks
    block_lies = lies layer.numbers.items (bad layer.nand) (shape layer.nand).blocks (most_used (shape layer.nand) (layer_sectors layer)) is.order number
        (omega (arith, more, used, few_good (bad layer.nand) (shape layer.nand).blocks))

    -- the block is marked
    module _ (marks : List Bool) (marked : Marks (bad layer.nand) marks (chip_block layer.numbers.items number)) where
      pub fewer_left : good_before marks (shape layer.nand).blocks + 1 ≡ good_before (bad layer.nand) (shape layer.nand).blocks
      fewer_left = fewer_good (bad layer.nand) marks (chip_block layer.numbers.items number) marked
          (is.order.good number (omega (arith, more, used))) (shape layer.nand).blocks block_lies

      -- the chip can be opened still
      pub marked_opens : (after : List Update) → CanOpen flash shape bad layer.nand (layer_sectors layer) after
          → IsOpenable (flash layer.nand) (shape layer.nand) marks (layer_sectors layer) after
      marked_opens after opens =
          let chip = shape layer.nand in
          let spare = good_before (bad layer.nand) chip.blocks - 1 in
          let last : spare + 1 ≡ good_before (bad layer.nand) chip.blocks = omega (arith, more) in
          let b = chip_block layer.numbers.items spare in
          let most = most_used chip (layer_sectors layer) in
          let within = next_lies layer.numbers.items (bad layer.nand) marks chip.blocks most number spare is.order marked more used last in
          let good = next_good layer.numbers.items (bad layer.nand) marks chip.blocks most number spare is.order marked more used last in
          let rank = next_rank layer.numbers.items (bad layer.nand) marks chip.blocks most number spare is.order marked more used last in
          record {
            readable = record { keeps = opens.readable.keeps; written = opens.readable.written };
            frees = (
              b,
              within,
              next_used layer.numbers.items (bad layer.nand) marks chip.blocks most number spare is.order marked more used last,
              λ s p v few needed. absurd (opens.blank b within (good, omega (arith, rank)) p needed.newest.held.0 needed.newest.number v
                  needed.newest.held.1),
            );
            blank = still_blank layer.numbers.items (bad layer.nand) marks chip.blocks most number spare is.order marked more used last (flash layer.nand)
                opens.blank;
          }

      -- the next block of the reserve will do
      module _ (spare : ℕ) (last : spare + 1 ≡ layer.good) where
        last_good : spare + 1 ≡ good_before (bad layer.nand) (shape layer.nand).blocks
        last_good = last ∙ is.good

        pub numbers_lie : (number < length layer.numbers.items) × (spare < length layer.numbers.items)
        numbers_lie =
            let few = few_good (bad layer.nand) (shape layer.nand).blocks in
            (omega (arith, used, more, few, is.order.all), omega (arith, last_good, few, is.order.all))

        pub accepted : HoldsNoVersion (numbered layer.numbers.items is.before) spare × ((device_of layer.core).blocks ≤ spare)
            × (spare < (device_of layer.core).read_blocks)
        accepted =
            let chip = shape layer.nand in
            let most = most_used chip (layer_sectors layer) in
            let ns = layer.numbers.items in
            let within = next_lies ns (bad layer.nand) marks chip.blocks most number spare is.order marked more used last_good in
            let good = next_good ns (bad layer.nand) marks chip.blocks most number spare is.order marked more used last_good in
            let rank = next_rank ns (bad layer.nand) marks chip.blocks most number spare is.order marked more used last_good in (
              is.blank_before (chip_block ns spare) within (good, omega (arith, rank)),
              omega (arith, last, some),
              omega (arith, last_good, few_good (bad layer.nand) chip.blocks, ap (λ (d : Device). d.read_blocks) is.device),
            )

        -- and the layer goes on with it
        pub goes_on : (new : Durable N) (left : Bool) → new.mounted ≡ true
            → (flash new.nand ≡ flash layer.nand) × (shape new.nand ≡ shape layer.nand) × (bad new.nand ≡ marks)
            → new.good + 1 ≡ layer.good → HasLeftVersion (numbered layer.numbers.items (flash layer.nand)) command left
            → Retires layer.core extent command left spare new.core → device_of new.core ≡ device_of layer.core
            → length new.numbers.items ≡ length layer.numbers.items
            → ((c : ℕ) → chip_block new.numbers.items c ≡ chip_block layer.numbers.items (swapped number spare c))
            → IsOpenAgain flash shape bad new (update_of extent value) updates
        goes_on new left mounted same good has retires device size swap =
            let chip = shape layer.nand in
            let most = most_used chip (layer_sectors layer) in
            let ns = layer.numbers.items in
            let after = updates_left left command (update_of extent value) updates in
            let order = exchanged ns (bad layer.nand) marks chip.blocks most number spare is.order marked more used last_good new.numbers.items size swap in
            let still : used_blocks chip marks (layer_sectors layer) ≡ (device_of layer.core).blocks =
            used_still (good_before (bad layer.nand) chip.blocks) (good_before marks chip.blocks) most fewer_left more ∙ sym full in
            let sizes : device_of new.core ≡ device_on chip marks (layer_sectors layer) =
            device ∙ (is.device ∙ ap (λ (n : ℕ). device_using n chip (layer_sectors layer)) (sym blocks ∙ sym still)) in
            let swapped_flash : IsSwapped (numbered ns (flash layer.nand)) (numbered new.numbers.items (flash layer.nand)) number spare =
            λ c p i. flash layer.nand ((swap (swapped number spare c) ∙ ap (chip_block ns) (swapped_twice number spare c)) i) p in
            let consistent = retires (numbered ns is.before) (numbered new.numbers.items (flash layer.nand)) value updates updates is.known (record {
              failed = numbered ns (flash layer.nand);
              block = number;
              changes = changes;
              cut = is.cut;
              has = has;
              swap = swapped_flash;
            }) in
            let sectors : layer_sectors new ≡ layer_sectors layer = ap (λ (d : Device). d.sectors) device in (
              after,
              makes_left left command (update_of extent value) updates,
              record {
                mounted = mounted;
                order = same_order new.numbers.items chip (shape new.nand) marks (bad new.nand) (layer_sectors layer) (layer_sectors new) same.1 same.2 sectors
                    order;
                device = device_there new.core chip (shape new.nand) marks (bad new.nand) (layer_sectors layer) sizes same.1 same.2;
                good = omega (
                  arith,
                  good,
                  is.good,
                  fewer_left,
                  ap (λ (s : Shape). good_before marks s.blocks) same.1,
                  ap (λ (m : List Bool). good_before m (shape new.nand).blocks) same.2,
                );
                blank = blank_there (flash layer.nand) (flash new.nand) chip (shape new.nand) marks (bad new.nand) (layer_sectors layer)
                    (layer_sectors new) same.0 same.1 same.2 sectors
                    (still_blank ns (bad layer.nand) marks chip.blocks most number spare is.order marked more used last_good (flash layer.nand) is.blank);
                consistent = subst (λ (f : Flash). IsConsistent (numbered new.numbers.items f) new.core after after) (sym same.0) consistent;
              },
            )

    -- the chip can be opened, whether the block was marked or not
    pub still_opens : (nand : N) → (flash nand ≡ flash layer.nand) × (shape nand ≡ shape layer.nand)
        → (bad nand ≡ bad layer.nand) ⊎ Marks (bad layer.nand) (bad nand) (chip_block layer.numbers.items number)
        → Reopens flash shape bad nand (layer_sectors layer) (update_of extent value) updates
    still_opens nand same only =
        let after = stopped.0 in
        let chip = shape layer.nand in
        let here : IsOpenable (flash layer.nand) chip (bad nand) (layer_sectors layer) after = ⊎_elim
        (λ kept. subst (λ (m : List Bool). IsOpenable (flash layer.nand) chip m (layer_sectors layer) after) (sym kept) stopped.2)
        (λ marked. marked_opens (bad nand) marked after stopped.2)
        only in (
          after,
          stopped.1,
          openable_there (flash layer.nand) (flash nand) chip (shape nand) (bad nand) (layer_sectors layer) (layer_sectors layer) after same.0 same.1 refl here,
        )
