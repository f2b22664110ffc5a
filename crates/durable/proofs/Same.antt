-- A layer whose counts are the same is the same: its other fields of facts are propositions.
use Rattle.std.proofs.Common.{◌≡◌, ◌<◌, ◌≤◌, ◌^◌, List, ℕ, length}
use Rattle.std.proofs.Math.Path.{to_path_p}
use Rattle.std.proofs.Props.{props}
use Rattle.durable.specs.Collecting.{AreInTwoBlocks, AreLiveCounts, ArePagesOn, CanCollect, HasCapacity, IsEnough}
use Rattle.durable.specs.Next.{IsNextFor}
use Rattle.durable.specs.declared.memory.Core.{Core}

-- two proofs of a proposition are one
abbrev Alone : Type 0 → Type 0
Alone A = (x y : A) → x ≡ y

pub same_counts : (core : Core) (counts : List ℕ) → (is : counts ≡ core.counts)
    → (on : ArePagesOn core.blocks core.pages core.next_pages) (apart : AreInTwoBlocks core.next_pages) (enough : IsEnough core.pages core.next_pages core.left)
    (read : core.blocks ≤ core.read_blocks) (sized : length counts ≡ core.blocks) (counted : AreLiveCounts counts core.map.items)
    (few : length core.map.items < 2 ^ 32) (capacity : HasCapacity (length core.map.items) core.blocks core.pages)
    (collects : CanCollect core.map.items core.blocks core.pages core.next_pages)
    (next : ∥ IsNextFor core.blocks core.pages core.map.items core.next_pages core.left core.next_number core.chosen ∥₁)
    → ◌≡◌ {A = Core} (record {
      blocks = core.blocks;
      read_blocks = core.read_blocks;
      pages = core.pages;
      map = core.map;
      counts = counts;
      owners = core.owners;
      turn = core.turn;
      next_pages = core.next_pages;
      victim = core.victim;
      left = core.left;
      next_number = core.next_number;
      chosen = core.chosen;
      losses = core.losses;
      on_device = on;
      apart = apart;
      enough = enough;
      all_read = read;
      counts_sized = sized;
      counted = counted;
      few_sectors = few;
      has_capacity = capacity;
      can_collect = collects;
      is_next = next;
    }) core
same_counts core counts is on apart enough read sized counted few capacity collects next =
    let one_on : Alone (ArePagesOn core.blocks core.pages core.next_pages) = Prim.hlevel props in
    let one_apart : Alone (AreInTwoBlocks core.next_pages) = Prim.hlevel props in
    let one_enough : Alone (IsEnough core.pages core.next_pages core.left) = Prim.hlevel props in
    let one_read : Alone (core.blocks ≤ core.read_blocks) = Prim.hlevel props in
    let one_sized : Alone (length core.counts ≡ core.blocks) = Prim.hlevel props in
    let one_counted : Alone (AreLiveCounts core.counts core.map.items) = Prim.hlevel props in
    let one_few : Alone (length core.map.items < 2 ^ 32) = Prim.hlevel props in
    let one_capacity : Alone (HasCapacity (length core.map.items) core.blocks core.pages) = Prim.hlevel props in
    let one_collects : Alone (CanCollect core.map.items core.blocks core.pages core.next_pages) = Prim.hlevel props in
    let one_next : Alone (∥ IsNextFor core.blocks core.pages core.map.items core.next_pages core.left core.next_number core.chosen ∥₁) =
    Prim.hlevel props in
    λ i. record {
      blocks = core.blocks;
      read_blocks = core.read_blocks;
      pages = core.pages;
      map = core.map;
      counts = is i;
      owners = core.owners;
      turn = core.turn;
      next_pages = core.next_pages;
      victim = core.victim;
      left = core.left;
      next_number = core.next_number;
      chosen = core.chosen;
      losses = core.losses;
      on_device = one_on on core.on_device i;
      apart = one_apart apart core.apart i;
      enough = one_enough enough core.enough i;
      all_read = one_read read core.all_read i;
      counts_sized = to_path_p (λ j. length (is j) ≡ core.blocks) {a = sized} {b = core.counts_sized}
          (one_sized (coe 0 1 (k. length (is k) ≡ core.blocks) sized) core.counts_sized) i;
      counted = to_path_p (λ j. AreLiveCounts (is j) core.map.items) {a = counted} {b = core.counted}
          (one_counted (coe 0 1 (k. AreLiveCounts (is k) core.map.items) counted) core.counted) i;
      few_sectors = one_few few core.few_sectors i;
      has_capacity = one_capacity capacity core.has_capacity i;
      can_collect = one_collects collects core.can_collect i;
      is_next = one_next next core.is_next i;
    }
