-- Which command comes next, by what a layer's memory has.
use Rattle.std.specs.Prelude.{◌≡◌, ◌≢◌, ◌⊎◌, ◌<◌, ◌≤◌, ◌+◌, ◌^◌, ℕ, List, length, Option, None, Some, slice_index_or}
use Rattle.geometry.specs.declared.page_addr.PageAddr.{PageAddr}
use Rattle.durable.specs.declared.command.Command.{Command}
use Rattle.durable.specs.declared.command.Command.TheVariants.{Program, Copy, Erase, Refused}
use Rattle.durable.specs.declared.next_pages.NextPages.{NextPages}
use Rattle.durable.specs.Collecting.{IsNotOpen, IsFree, IsOpenAt, first_page, live_in, most_copies, page_for_hosts}

-- a closed block is free
abbrev pub HasFree : ℕ → List (Option PageAddr) → NextPages → Type 0
HasFree blocks map next = (b : ℕ) × (b < blocks) × IsNotOpen next b × IsFree map b

-- a closed block beside this one is free
abbrev pub HasFreeBeside : ℕ → List (Option PageAddr) → NextPages → ℕ → Type 0
HasFreeBeside blocks map next avoided = (b : ℕ) × (b < blocks) × (b ≢ avoided) × IsNotOpen next b × IsFree map b

-- a block is open, and another one is free
abbrev pub IsRoomy : ℕ → List (Option PageAddr) → NextPages → Type 0
IsRoomy blocks map next = ((at : PageAddr) × IsOpenAt next at) × HasFree blocks map next

-- the block has the fewest live pages of all beside the open one
abbrev pub IsFewestBeside : ℕ → List (Option PageAddr) → ℕ → ℕ → Type 0
IsFewestBeside blocks map opened victim = (b : ℕ) → b < blocks → b ≢ opened
    → (victim < blocks) × (victim ≢ opened) × (live_in victim map ≤ live_in b map)

-- the command comes next, on so many blocks of so many pages, with this map, next pages and next number, and at most so many commands left. A program
-- needs a free block. A copy beside a free block comes from any closed one, is one of few, and leaves an open page for the call's program. Where none is free
-- it comes from a block with the fewest live pages. An erase is the first command of a call, and opens a block: beside another free one, unless none is open
abbrev pub IsNextFor : ℕ → ℕ → List (Option PageAddr) → NextPages → ℕ → ℕ → Command → Type 0
IsNextFor blocks pages map next left number (Program at n) =
    (page_for_hosts next.hosts next.copies ≡ Some at) × (n ≡ number) × (n + 1 < 2 ^ 64) × HasFree blocks map next
IsNextFor blocks pages map next left number (Copy k from to) =
    (next.copies ≡ Some to) × (k < length map) × (slice_index_or map k None ≡ Some from)
    × (¬ HasFree blocks map next → IsFewestBeside blocks map to.block from.block)
    × (HasFree blocks map next → IsNotOpen next from.block × (1 < left) × (1 < pages)
    × (pages < left + most_copies (length map) blocks pages) × (next.hosts ≡ None → to.page + 1 < pages))
IsNextFor blocks pages map next left number (Erase b) =
    (left ≡ pages + 1) × (b < blocks) × IsFree map b × IsNotOpen next b
    × (next.hosts ≢ None → next.copies ≡ None)
    × ((at : PageAddr) → IsOpenAt next at → HasFreeBeside blocks map next b)
IsNextFor blocks pages map next left number Refused = Unit {0}

-- the next pages once a block was erased: it is open for hosts, beside another free one, or for copies
abbrev pub Opens : ℕ → List (Option PageAddr) → NextPages → ℕ → NextPages → Type 0
Opens blocks map old b new =
    ((new.hosts ≡ Some (first_page b)) × (new.copies ≡ old.copies) × HasFreeBeside blocks map old b)
    ⊎ ((new.hosts ≡ old.hosts) × (new.copies ≡ Some (first_page b)))
