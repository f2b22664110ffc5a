-- A pass that holds a page.
use Rattle.std.specs.Prelude.{◌≡◌, ℕ, List, None, Some}
use Rattle.geometry.specs.declared.words.MapWord.{MapWord}
use Rattle.geometry.specs.declared.page_addr.PageAddr.{PageAddr}
use Rattle.flash_rule.specs.declared.carried.Carried.{Carried}
use Rattle.flash_rule.specs.declared.view.View.{View}
use Rattle.flash_rule.specs.Plays.{Spared}
use Rattle.flash_table.specs.declared.flash.Flash.{Flash}
use Rattle.flash_table.specs.declared.pass.Pass.{Pass}
use Rattle.flash_table.specs.Flash.{view_of}
use Rattle.host.specs.declared.holding.Held.{Held}
use Rattle.host.specs.declared.holding.Holding.{Holding}
use Rattle.host.specs.declared.holding.Holding.TheVariants as holding
use Rattle.host.specs.Ready.{IsReady, IsPinned, seen_at}
use Rattle.host.specs.Told.{Searched}

-- the pass that pins
abbrev pub pass_of : Held → Pass
pass_of h = h.pass

-- the page that is pinned, in its block's generation
abbrev pub page_of : Held → MapWord
page_of h = h.page

-- the sector, block and page of a page, without its generation
abbrev pub addr_of : MapWord → PageAddr
addr_of m = record { block = m.block; page = m.page }

-- the page there in one generation of its block
abbrev pub page_in : PageAddr → ℕ → MapWord
page_in a generation = record { generation = generation; block = a.block; page = a.page }

-- The pass has an accepted pin on the page, which holds this value
abbrev pub Holds : Flash → Held → List ℕ → Type 0
Holds f h value = IsPinned f (pass_of h) (page_of h) value

-- The player of whom the pass has heard last is another one. By what was heard, it programmed no page that the pass did, and it erased only
-- earlier generations of the held page's block
abbrev pub IsSpared : Held → Type 0
IsSpared h = (c : Carried) → (view_of (pass_of h)).copy ≡ Some c → Spared (view_of (pass_of h)) (page_of h) c

-- A search for a sector's page ends with a hold of the value that the sector had at its last look, or with the pass if the sector was empty
-- then
abbrev pub Found : Flash → View → ℕ → Holding → Type 0
Found f v s (holding.Held h) =
    (value : List ℕ) × Holds f h value × (seen_at f (pass_of h) s ≡ Some value)
    × ((tries : ℕ) × Searched v tries (view_of (pass_of h)))
Found f v s (holding.Empty p) =
    IsReady f p × (seen_at f p s ≡ None) × ((tries : ℕ) × Searched v tries (view_of p))
