-- Which command comes next for a layer, and why a call comes to its end.
use Rattle.std.specs.Prelude.{◌≡◌, ◌<◌, ◌≤◌, ◌+◌, ℕ}
use Rattle.durable.specs.declared.command.Command.{Command}
use Rattle.durable.specs.declared.command.Command.TheVariants.{Program, Copy, Erase, Refused}
use Rattle.durable.specs.declared.memory.Core.{Core}
use Rattle.durable.specs.declared.next_pages.NextPages.{NextPages}
use Rattle.durable.specs.Collecting.{IsOpenAt, first_page}
use Rattle.durable.specs.Next.{IsNextFor}

-- the same, of the layer
abbrev pub IsNextCommand : Core → Command → Type 0
IsNextCommand core = IsNextFor core.blocks core.pages core.map.items core.next_pages core.left core.next_number

-- the most commands that a call still needs
abbrev pub left : Core → ℕ
left core = core.left

-- what a command takes of that: an erase is the first of a call, and copies come behind it, with the call's program still to come
abbrev pub Spends : Command → ℕ → ℕ → ℕ → Type 0
Spends (Program at n) pages old new = 0 < old
Spends (Copy k from to) pages old new = (new + 1 ≤ pages) × (new + 1 ≤ old)
Spends (Erase b) pages old new = (old ≡ pages + 1) × (new ≡ pages)
Spends Refused pages old new = new ≡ old

-- the number of the next version, after a command
abbrev pub number_after : Command → ℕ → ℕ
number_after (Program at n) number = n + 1
number_after (Copy k from to) number = number
number_after (Erase b) number = number
number_after Refused number = number

-- an open block stays open until its last page is used
abbrev pub StaysOpen : Command → ℕ → NextPages → Type 0
StaysOpen (Program at n) pages next = at.page + 1 < pages → IsOpenAt next (record { block = at.block; page = at.page + 1 })
StaysOpen (Copy k from to) pages next = to.page + 1 < pages → IsOpenAt next (record { block = to.block; page = to.page + 1 })
StaysOpen (Erase b) pages next = 0 < pages → IsOpenAt next (first_page b)
StaysOpen Refused pages next = Unit {0}
