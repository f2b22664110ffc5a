-- Whether a sector is written, by the marks on the entries of pages: a live one of the sector is the page that the map names.
use Rattle.std.proofs.Common.{◌≡◌, ℕ, ◌<◌, Bool, true, false, ◌&&◌, eq-eqb, ne_eqb, List, length, get_or, Option, None, Some, is_some, option_map, sym, ap, ◌∙◌}
use Rattle.std.proofs.{Common.refl, Common.arith, lemmas.List.Folds.list_any_none, lemmas.List.Folds.list_any_at}
use Rattle.std.specs.{List.list_any, Option.option_and_then, Prelude.◌==◌, Prelude.if◌then◌else◌}
use mathlib.Core.Logic.{dite}
use native.Mathlib.Decide.{ℕ_discrete}
use Rattle.geometry.specs.{Geometry.pages_of, Geometry.endurance_of, Geometry.sectors_of, History.Write, History.WriteNew, declared.geometry.Geometry.Geometry}
use Rattle.geometry.specs.{Sectors.Sector, Sectors.sector_at, Sectors.was_of, declared.page_addr.PageAddr.PageAddr}
use Rattle.geometry.specs.declared.answer.Was.TheVariants as was
use Rattle.die.specs.{Die.block_of, Pages.Block, Pages.page_at}
use Rattle.ftl_one.specs.{declared.one_ftl.OneFtl.OneFtl, declared.role.Role.TheVariants.Retired, OneFtl.geometry_of, OneFtl.array_of, OneFtl.stock_of}
use Rattle.ftl_one.specs.Stock.{Entry, Stock, Block as StockBlock, unused, is_current, has_page, next, write_of, ready}
use Rattle.ftl_one.specs.{Entries.names, Entries.is_page, Entries.entries_in, Entries.value_in, Lawful.blocks_in}
use Rattle.ftl_one.proofs.{Entries.length-entries, Entries.get_or-entries, Entries.is_page-at, Maps.sector-at, Stores.size_of}
use Rattle.ftl_one.proofs.Layers.{length-blocks, get_or-blocks}
use Rattle.ftl_one.specs.Store as pages

dead_entry : Entry
dead_entry = record { sector = 0; live = false }

and_false : (b : Bool) → (b && false) ≡ false
and_false true = refl
and_false false = refl

module _ (n : ℕ) (current : List (Option PageAddr)) (s b : ℕ) (block : Block) where
  -- no entry is current where the map names no page
  pub none_current : get_or current s None ≡ None → list_any (is_current s) (entries_in n current b block) ≡ false
  none_current empty =
      list_any_none (is_current s) (entries_in n current b block)
      (λ p d low. ap (is_current s) (get_or-entries n current b block p d (omega (arith, length-entries n current b block))) ∙ dead p (page_at n block p).stamp)
    where
      dead : (p stamp : ℕ) → is_current s (record { sector = stamp; live = names current stamp b p }) ≡ false
      dead p stamp =
          dite (ℕ_discrete stamp s)
          (λ same. ap (λ t. is_page (get_or current t None) b p && (stamp == s)) same ∙ ap (λ o. is_page o b p && (stamp == s)) empty)
          (λ other. ap (λ t. names current stamp b p && t) (ne_eqb stamp s other) ∙ and_false (names current stamp b p))

  -- and one is where it names one of this block
  pub one_current : (at : PageAddr) → get_or current s None ≡ Some at → at.block ≡ b → at.page < length block.pages
      → (page_at n block at.page).stamp ≡ s → list_any (is_current s) (entries_in n current b block) ≡ true
  one_current at named here low stamp =
      list_any_at (is_current s) (entries_in n current b block) at.page dead_entry (omega (arith, length-entries n current b block))
      (ap (is_current s) (get_or-entries n current b block at.page dead_entry low)
      ∙ (ap (λ t. names current t b at.page && (t == s)) stamp
      ∙ (ap (λ o. is_page o b at.page && (s == s)) named
      ∙ (ap (λ c. is_page (Some at) c at.page && (s == s)) (sym here) ∙ (ap (λ t. t && (s == s)) (is_page-at at) ∙ eq-eqb s s refl)))))

-- whether a block of the stock has a current page of the sector
abbrev has_current : ℕ → StockBlock → Bool
has_current s block = list_any (is_current s) block.entries

module _ (f : OneFtl) (s : ℕ) where
  -- what the stock says, by what the map names
  by_map : (o : Option PageAddr) → get_or f.store.current.items s None ≡ o → has_page s (stock_of f) ≡ is_some o
  unfolding stock_of pages.entries_of
  by_map None empty =
      list_any_none (has_current s) (blocks_in f.store f.roles.items)
      (λ b d low. ap (has_current s) (get_or-blocks f.store f.roles.items b d (omega (arith, length-blocks f.store f.roles.items)))
      ∙ none_current (size_of f.store) f.store.current.items s b (block_of f.store.die b) empty)
  by_map (Some at) named =
      let is = f.store.mapped.named s at named in
      let low : at.block < length f.roles.items = omega (arith, f.roles_sized, is.block) in
      list_any_at (has_current s) (blocks_in f.store f.roles.items) at.block (unused Retired) (omega (arith, length-blocks f.store f.roles.items))
      (ap (has_current s) (get_or-blocks f.store f.roles.items at.block (unused Retired) low)
      ∙ one_current (size_of f.store) f.store.current.items s at.block (block_of f.store.die at.block) at named refl is.page is.stamp)

  -- what the stock says, by what the sector holds
  pub has_page-stock : s < sectors_of (geometry_of f) → has_page s (stock_of f) ≡ is_some (sector_at (array_of f) s)
  unfolding array_of geometry_of pages.array_of
  has_page-stock low =
      let o = get_or f.store.current.items s None in
      by_map o refl
      ∙ sym (ap is_some (sector-at (size_of f.store) (block_of f.store.die) f.store.current.items s o
      (omega (arith, low, f.store.mapped.current_size)) refl) ∙ named o)
    where
      named : (o : Option PageAddr) → is_some (option_map (value_in (size_of f.store) (block_of f.store.die)) o) ≡ is_some o
      named None = refl
      named (Some at) = refl

-- a sector that was told to be empty, or written
pub none_of : (x : Sector) → was_of x ≡ was.Empty → x ≡ None
none_of None e = refl
none_of (Some v) e = absurd (cc)

pub some_of : (x : Sector) → was_of x ≡ was.Written → (v : List ℕ) × (x ≡ Some v)
some_of None e = absurd (cc)
some_of (Some v) e = (v, refl)

-- a write of an empty sector is a write to the stock where the sector has no page, and nothing where it has one
pub next_empty : (g : Geometry) (k : Stock) (s : ℕ) (v : List ℕ) → has_page s k ≡ false → next g k (WriteNew 0 s v) ≡ next g k (Write 0 s v)
unfolding next
next_empty g k s v none = ap (λ b. if b then Some k else option_and_then (write_of (pages_of g) s) (ready (endurance_of g) k)) none

pub next_written : (g : Geometry) (k : Stock) (s : ℕ) (v : List ℕ) → has_page s k ≡ true → next g k (WriteNew 0 s v) ≡ Some k
unfolding next
next_written g k s v one = ap (λ b. if b then Some k else option_and_then (write_of (pages_of g) s) (ready (endurance_of g) k)) one
