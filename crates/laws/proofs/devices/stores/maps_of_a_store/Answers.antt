use Rattle.std.proofs.Common.{◌≡◌, ◌<◌, ℕ, List, [], ◌∷◌, None, refl, arith, zero, suc, Some}
use Rattle.std.specs.Prelude.{Option, slice_index, slice_index_or}
use Rattle.die.specs.Pages.{new_block}
use Rattle.ftl_one.specs.Entries.{IsCurrent, entries_in, live_count}
use Rattle.geometry.specs.declared.page_addr.PageAddr.{PageAddr}
use Rattle.laws.specs.Blocks.{at}
use Rattle.laws.proofs.devices.stores.maps_of_a_store.Goals as goal

abbrev no_page : List (Option PageAddr)
no_page = None ∷ []

names_none : (s : ℕ) (p : PageAddr) → slice_index_or no_page s None ≡ Some p → IsCurrent 1 1 (λ b. new_block) s p
names_none zero p e = absurd (cc)
names_none (suc s) p e = absurd (cc)

counts_none : (b : ℕ) → b < 1 → slice_index (0 ∷ []) b ≡ live_count (entries_in 1 no_page b new_block)
unfolding entries_in
counts_none zero low = refl
counts_none (suc b) low = absurd (omega (arith, low))

pub returns-clause-empty : goal.returns-clause-empty
unfolding entries_in
returns-clause-empty c =
    record {
      current_size = refl;
      live_size = refl;
      named = names_none;
      stamps = λ b p low few. absurd (omega (arith, few));
      counts = counts_none;
      total = refl;
    }

pub returns-clause-no_page : goal.returns-clause-no_page
returns-clause-no_page c h = let e : 0 < 0 = (h.named 0 (at 0 0) refl).page in omega (arith, e)
