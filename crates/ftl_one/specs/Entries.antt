-- The sectors and the entries of pages, as a map over the blocks of a die gives them, and an entry of the map in four bytes.
use Rattle.std.specs.Prelude.{◌≡◌, ℕ, ◌+◌, ◌*◌, ◌/◌, ◌%◌, ◌==◌, if◌then◌else◌, Option, None, Some, ◌<◌, ◌&&◌, Bool, false, List, length, map, count_by, sum}
use Rattle.std.specs.Prelude.{is_some, option_map, slice_index, slice_index_or}
use Rattle.std.proofs.Common.{inl, inr, sym, arith}
use Rattle.std.proofs.lemmas.Bool.{cases_eq, eq-eqb, ne_eqb}
use Rattle.geometry.specs.declared.limits.TheConstants.{MAX_PAGES}
use Rattle.geometry.specs.declared.page_addr.PageAddr.{PageAddr}
use Rattle.ftl_one.specs.declared.map_entry.TheConstants.{NO_PAGE}
use Rattle.std.specs.List.{range_with_len}
use Rattle.geometry.specs.declared.answer.Was.TheVariants as was
use Rattle.geometry.specs.declared.answer.Was.{Was}
use Rattle.geometry.specs.Sectors.{Sector}
use Rattle.die.specs.Pages.{Block, Page, page_at}
use Rattle.ftl_one.specs.Stock.{Entry}

-- the page that these bits name, its block above its place in the block, or none
unfoldable pub named_by : ℕ → Option PageAddr
named_by bits = if bits == NO_PAGE then None else Some (record { block = bits / MAX_PAGES; page = bits % MAX_PAGES })

-- the bits of the entry that names a page, or none
abbrev pub bits_of : Option PageAddr → ℕ
bits_of None = NO_PAGE
bits_of (Some at) = at.block * MAX_PAGES + at.page

-- an entry's bits are those of the page that it names
pub bits_back : (bits : ℕ) → bits_of (named_by bits) ≡ bits
unfolding named_by
bits_back bits = elim (cases_eq bits NO_PAGE) [
  | inl none ↦ rw (eq-eqb bits NO_PAGE none) (sym none)
  | inr some ↦ rw (ne_eqb bits NO_PAGE some) (omega arith)
]

-- the map's entry of a sector names this page
abbrev pub is_page : Option PageAddr → ℕ → ℕ → Bool
is_page None b p = false
is_page (Some at) b p = at.block == b && at.page == p

-- the map names this page as the sector's current one
abbrev pub names : List (Option PageAddr) → ℕ → ℕ → ℕ → Bool
names current sector b p = is_page (slice_index_or current sector None) b p

-- the entry of a page: the sector in its stamp, and whether the map names it
abbrev pub entry_of : List (Option PageAddr) → ℕ → ℕ → Page → Entry
entry_of current b p page = record { sector = page.stamp; live = names current page.stamp b p }

-- the entries of a block's pages
unfoldable pub entries_in : ℕ → List (Option PageAddr) → ℕ → Block → List Entry
entries_in page_bytes current b block = map (λ p. entry_of current b p (page_at page_bytes block p)) (range_with_len 0 (length block.pages))

-- the value of a page
abbrev pub value_in : ℕ → (ℕ → Block) → PageAddr → List ℕ
value_in page_bytes blocks at = (page_at page_bytes (blocks at.block) at.page).value

-- the array of sectors: each holds what the page that the map names holds
unfoldable pub sectors_in : ℕ → (ℕ → Block) → List (Option PageAddr) → List Sector
sectors_in page_bytes blocks current = map (option_map (value_in page_bytes blocks)) current

-- how many live pages the entries have
abbrev pub live_count : List Entry → ℕ
live_count entries = count_by (λ entry. entry.live) entries

-- 1 for a page of the block, 0 for another page or none
abbrev pub lies : Option PageAddr → ℕ → ℕ
lies None b = 0
lies (Some at) b = if at.block == b then 1 else 0

-- the counts of live pages after one page is dead and another is live, if there are such pages
pub record Recounts (old new : List ℕ) (dead live : Option PageAddr) : Type 0 where
  pub size : length new ≡ length old
  pub each : (b : ℕ) → slice_index new b + lies dead b ≡ slice_index old b + lies live b
  pub total : sum new + (if is_some dead then 1 else 0) ≡ sum old + (if is_some live then 1 else 0)

-- a page that the map names for a sector is programmed with its stamp, in a block in use
pub record IsCurrent (page_bytes count : ℕ) (blocks : ℕ → Block) (sector : ℕ) (at : PageAddr) : Type 0 where
  pub block : at.block < count
  pub usable : (blocks at.block).retired ≡ false
  pub page : at.page < length (blocks at.block).pages
  pub stamp : (page_at page_bytes (blocks at.block) at.page).stamp ≡ sector

-- what the map keeps true: it names current pages, each stamp is a sector, and each block's live pages are counted
pub record IsMapped (page_bytes count sectors : ℕ) (blocks : ℕ → Block) (current : List (Option PageAddr)) (live : List ℕ) : Type 0 where
  pub current_size : length current ≡ sectors
  pub live_size : length live ≡ count
  pub named : (s : ℕ) (at : PageAddr) → slice_index_or current s None ≡ Some at → IsCurrent page_bytes count blocks s at
  pub stamps : (b p : ℕ) → b < count → p < length (blocks b).pages → (page_at page_bytes (blocks b) p).stamp < sectors
  pub counts : (b : ℕ) → b < count → slice_index live b ≡ live_count (entries_in page_bytes current b (blocks b))
  pub total : sum live ≡ count_by is_some current

-- what a sector was, by the page that the map named
abbrev pub was_by : Option PageAddr → Was
was_by None = was.Empty
was_by (Some at) = was.Written
