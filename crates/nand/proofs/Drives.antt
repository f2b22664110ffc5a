-- Whole calls of a driver.
use Rattle.std.proofs.Common.{◌≡◌, ⊎_elim, ◌+◌, ◌<◌, ◌≤◌, ◌∙◌, min, Bool, arith, ap, ℕ, List, [], ◌∷◌, true, false, refl, sym, subst}
use Rattle.geometry.specs.Sectors.{Sector}
use Rattle.std.proofs.lemmas.Bool.{cases_lt}
use Rattle.durable.specs.Device.{Device, device_of}
use Rattle.durable.specs.Flash.{Flash}
use Rattle.durable.specs.Promise.{IsConsistent}
use Rattle.durable.specs.declared.memory.Core.{Core}
use Rattle.durable.specs.Updates.{Update, array_after, changed}
use Rattle.nand.specs.declared.driver.Answer.{Answer}
use Rattle.nand.specs.declared.driver.Driver.{Driver}
use Rattle.nand.specs.declared.driver.Phase.{Phase}
use Rattle.nand.specs.declared.driver.Phase.TheVariants as phase
use Rattle.nand.specs.Driving.{Drives, HoldsIn, HoldsNow, Knows, KnowsArray, ReadsArray, StaysDriver, array_now, is_made}
use Rattle.nand.specs.Numbers.{IsOrder, chip_block, good_before, numbered}
use Rattle.nand.specs.Opened.{IsReserveBlank, device_on, most_used}
use Rattle.nand.specs.declared.flash.Shape.{Shape}
use Rattle.nand.proofs.Orders.{few_good, least_first, least_second, lies}
use Rattle.nand.proofs.Driven.{knows_alike, now_made, now_unmade, reads_alike, stays_over}

pub drives_hold : (answers : List Answer) (value : Sector) (f t : Flash) (old new : Driver) (was : ℕ → Sector) → HoldsNow f old value was
    → Drives answers value f old t new → HoldsNow t new value was
drives_hold [] value f t old new was is run = subst (λ (g : Flash). HoldsNow g new value was) (sym run.0)
    (subst (λ (d : Driver). HoldsNow f d value was) (sym run.1) is)
drives_hold (answer ∷ answers) value f t old new was is run =
    drives_hold answers value run.0 t run.1 new was (run.3.1 f run.0 value was is run.2) run.4

pub drives_stay : (answers : List Answer) (value : Sector) (f t : Flash) (old new : Driver) → Drives answers value f old t new → StaysDriver old new
drives_stay [] value f t old new run = subst (StaysDriver old) (sym run.1)
    (record { call = refl; device = refl; losses = refl; given_up = λ b out. out; apart = λ one. one; made = λ before. before })
drives_stay (answer ∷ answers) value f t old new run =
    stays_over old run.1 new run.3.0 (drives_stay answers value run.0 t run.1 new run.4)

pub idle_knows : (f : Flash) (value : Sector) (was : ℕ → Sector) (driver : Driver) → HoldsNow f driver value was → driver.phase ≡ phase.Idle
    → KnowsArray f driver (array_now driver value was)
idle_knows f value was driver is idle = subst (λ (p : Phase). HoldsIn p f driver value was) idle is

pub idle_made : (f : Flash) (value : Sector) (was : ℕ → Sector) (driver : Driver) → HoldsNow f driver value was → driver.phase ≡ phase.Idle
    → is_made driver.outcome ≡ true → KnowsArray f driver (changed was driver.call value)
idle_made f value was driver is idle made = knows_alike f driver.numbers.items driver.core driver.spare driver.good (array_now driver value was)
    (changed was driver.call value) (idle_knows f value was driver is idle) (λ k. now_made driver value was k made)

pub idle_unmade : (f : Flash) (value : Sector) (was : ℕ → Sector) (driver : Driver) → HoldsNow f driver value was → driver.phase ≡ phase.Idle
    → is_made driver.outcome ≡ false → KnowsArray f driver was
idle_unmade f value was driver is idle made = knows_alike f driver.numbers.items driver.core driver.spare driver.good (array_now driver value was)
    was (idle_knows f value was driver is idle) (λ k. now_unmade driver value was k made)

pub read_unmade : (f : Flash) (value : Sector) (was : ℕ → Sector) (driver : Driver) → HoldsNow f driver value was → driver.phase ≡ phase.ReadOnly
    → is_made driver.outcome ≡ false → ReadsArray f driver was
read_unmade f value was driver is only made = reads_alike f driver.numbers.items driver.core (array_now driver value was) was
    (λ k. now_unmade driver value was k made) (subst (λ (p : Phase). HoldsIn p f driver value was) only is)

-- what an open finds is what a driver begins with
pub knows_opened : (f : Flash) (numbers : List ℕ) (core : Core) (shape : Shape) (bad : List Bool) (sectors : ℕ) (updates : List Update)
    → IsOrder numbers bad shape.blocks (most_used shape sectors) → device_of core ≡ device_on shape bad sectors → IsReserveBlank f shape bad sectors
    → IsConsistent (numbered numbers f) core updates updates
    → Knows f numbers core (device_of core).blocks (good_before bad shape.blocks) (array_after updates)
knows_opened f numbers core shape bad sectors updates order device blank consistent =
    let good = good_before bad shape.blocks in
    let most = most_used shape sectors in
    let used : (device_of core).blocks ≡ min good most = ap (λ (d : Device). d.blocks) device in
    let few = few_good bad shape.blocks in
    record {
      apart = λ c d e. sym (order.found c) ∙ (ap order.to e ∙ order.found d);
      fits = omega (arith, few, ap (λ (d : Device). d.read_blocks) device);
      blank = λ c from to p e n x held.
          let past : most ≤ c = ⊎_elim
          (λ under. omega (arith, from, used, least_second good most under))
          (λ le. absurd (omega (arith, from, to, used, least_first good most le)))
          (cases_lt most good) in
          let rank = order.reserved c past to in
          blank (chip_block numbers c) (lies numbers bad shape.blocks most order c (omega (arith, to, few))) (order.good c to, omega (arith, rank, to))
          p e n x held;
      updates = updates;
      consistent = consistent;
      has = λ s lt. refl;
    }
