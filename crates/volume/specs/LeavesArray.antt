-- What holds of each call of a broom, whatever other threads do during it: it changes no sector.
use Rattle.std.specs.Prelude.{◌≡◌, ℕ, ◌<◌, All}
use Rattle.geometry.specs.History.{Call, Write, WriteNew, Trim, held, Begins}
use Rattle.flash_rule.specs.{Views.AreOfHosts, declared.view.View.View}

-- the sector that a call of a host names
abbrev pub sector_named : Call → ℕ
sector_named (Write t s value) = s
sector_named (WriteNew t s value) = s
sector_named (Trim t s) = s

-- A broom's call left the array of sectors to the hosts: the history that the broom has seen begins with what it had seen before, all calls
-- in it are of hosts, and the broom has made none; so each sector that no host's call has named since then holds what it held
pub record LeavesArray (v w : View) : Type 0 where
  pub later : Begins v.seen w.seen
  pub hosts : AreOfHosts w.numbers w.seen
  pub mine : w.mine ≡ v.mine
  pub sectors : (s : ℕ) → s < v.numbers.sectors → All (λ c. ¬ (sector_named c ≡ s)) later.0 → held v.numbers.sectors w.seen s ≡ held v.numbers.sectors v.seen s
