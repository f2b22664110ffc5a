-- What the commands do to the flash: when they succeed, and when a power cut falls inside them.
use Rattle.std.specs.Prelude.{◌≡◌, ◌≢◌, ◌⊎◌, ℕ, List, ◌∷◌, Bool, true, false}
use Rattle.geometry.specs.Sectors.{Sector}
use Rattle.durable.specs.Flash.{Erased, Torn, Version, Flash, SetsPage, LosesPages}
use Rattle.durable.specs.Updates.{Update}
use Rattle.durable.specs.declared.extent.Extent.{Extent}
use Rattle.durable.specs.declared.command.Command.{Command}
use Rattle.durable.specs.declared.command.Command.TheVariants.{Program, Copy, Erase, Refused}

-- no page has changed
abbrev pub IsSameFlash : Flash → Flash → Type 0
IsSameFlash f t = (b p : ℕ) → t b p ≡ f b p

-- what a command leaves that succeeds
abbrev pub Completes : Command → Extent → Sector → Flash → Flash → Type 0
Completes (Program at n) extent value f t = SetsPage f t at.block at.page (Version extent n value)
Completes (Copy k from to) extent value f t = SetsPage f t to.block to.page (f from.block from.page)
Completes (Erase b) extent value f t = ((p : ℕ) → t b p ≡ Erased) × ((d p : ℕ) → d ≢ b → t d p ≡ f d p)
Completes Refused extent value f t = IsSameFlash f t

-- what a power cut inside a command may leave: nothing of it, a torn page, or all of it; of an erase, any part of the block's pages lost
abbrev pub CutLeaves : Command → Extent → Sector → Flash → Flash → Type 0
CutLeaves (Program at n) extent value f t =
    IsSameFlash f t ⊎ SetsPage f t at.block at.page Torn ⊎ SetsPage f t at.block at.page (Version extent n value)
CutLeaves (Copy k from to) extent value f t =
    IsSameFlash f t ⊎ SetsPage f t to.block to.page Torn ⊎ SetsPage f t to.block to.page (f from.block from.page)
CutLeaves (Erase b) extent value f t = LosesPages f t b
CutLeaves Refused extent value f t = IsSameFlash f t

-- only an erased page is programmed
abbrev pub IsAllowed : Flash → Command → Type 0
IsAllowed f (Program at n) = f at.block at.page ≡ Erased
IsAllowed f (Copy k from to) = f to.block to.page ≡ Erased
IsAllowed f (Erase b) = Unit {0}
IsAllowed f Refused = Unit {0}

-- whether it is the program that ends a call
abbrev pub is_program : Command → Bool
is_program (Program at n) = true
is_program (Copy k from to) = false
is_program (Erase b) = false
is_program Refused = false

-- the updates, the newest first, after a command for this one has succeeded: its program adds it
abbrev pub updates_with : Command → Update → List Update → List Update
updates_with (Program at n) update was = update ∷ was
updates_with (Copy k from to) update was = was
updates_with (Erase b) update was = was
updates_with Refused update was = was
