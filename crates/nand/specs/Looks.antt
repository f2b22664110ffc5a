-- What a look at sectors leaves, by which a call finds out whether they are written.
use Rattle.std.specs.Prelude.{◌≡◌, ◌≢◌, List, Bool, ℕ, Result, Err, OnOk, IfErr}
use Rattle.geometry.specs.declared.answer.Was.{Was}
use Rattle.durable.specs.Flash.{Flash}
use Rattle.durable.specs.Updates.{Update}
use Rattle.nand.specs.declared.failure.Failure.{Failure}
use Rattle.nand.specs.declared.failure.Failure.TheVariants as failure
use Rattle.nand.specs.declared.flash.Fault.{Fault}
use Rattle.nand.specs.declared.flash.Shape.{Shape}
use Rattle.nand.specs.declared.flash.Tally.{Tally}
use Rattle.nand.specs.declared.layer.Durable.{Durable}
use Rattle.nand.specs.Opened.{IsOpenLayer, IsSameDevice, IsTrueCause, number_of}

-- the layer and the flash are as before, and only a fault is counted, if there is one
pub record Looks {N : Type 0} (flash : N → Flash) (shape : N → Shape) (bad : N → List Bool) (faults : N → Fault → ℕ) (tally : N → Tally)
    (old new : Durable N) (result : Result Was Failure) : Type 0 where
  pub opens : (updates : List Update) → IsOpenLayer flash shape bad old updates → IsOpenLayer flash shape bad new updates
  pub cause : IfErr result (IsTrueCause faults old new)
  pub overwrites : result ≢ Err failure.Written
  pub mounted : new.mounted ≡ old.mounted
  pub counts : OnOk result ((cause : Fault) → faults new.nand cause ≡ faults old.nand cause)
  pub tallied : tally new.nand ≡ tally old.nand
  pub number : number_of new ≡ number_of old
  pub same : flash new.nand ≡ flash old.nand
  pub core : new.core ≡ old.core
  pub numbers : new.numbers ≡ old.numbers
  pub device : IsSameDevice shape bad old new
