-- One page of one block of a modelled chip has changed.
use Rattle.std.proofs.Common.{◌≡◌, ◌≢◌, ⊎_elim, ◌<◌, ◌≤◌, ℕ, zero, suc, List, [], ◌∷◌, length, Vec}
use Rattle.std.proofs.Common.{get_or, set, refl, sym, ◌∙◌, ap, subst, arith}
use Rattle.std.proofs.lemmas.Bool.{cases_eq, cases_lt}
use Rattle.std.proofs.lemmas.List.{get_or-set_same, get_or-set_other, get_or_past, with_items_is}
use Rattle.std.specs.Vec.{with_item, with_items}
use Rattle.std.specs.declared.alloc.Global.{Global}
use Rattle.geometry.specs.Sectors.{Sector}
use Rattle.durable.specs.declared.extent.Extent.{Extent}
use Rattle.durable.specs.Flash.{Version, SetsPage, LosesPages}
use Rattle.nand.specs.declared.cells.Page.{Page}
use Rattle.nand.specs.declared.cells.Page.TheVariants as page
use Rattle.nand.specs.Cells.{contents_of, pages_in, flash_in, IsWiped}

abbrev Pages : Type 0
Pages = Vec Page Global

pages_same : (bs : List Pages) (b : ℕ) (v : Pages) → b < length bs → pages_in (set bs b v) b ≡ v.items
pages_same [] b v lt = absurd (omega arith)
pages_same (x ∷ bs) zero v lt = refl
pages_same (x ∷ bs) (suc b) v lt = pages_same bs b v (omega arith)

pages_other : (bs : List Pages) (b : ℕ) (v : Pages) (d : ℕ) → d ≢ b → pages_in (set bs b v) d ≡ pages_in bs d
pages_other [] b v d differs = refl
pages_other (x ∷ bs) zero v zero differs = absurd (differs refl)
pages_other (x ∷ bs) zero v (suc d) differs = refl
pages_other (x ∷ bs) (suc b) v zero differs = refl
pages_other (x ∷ bs) (suc b) v (suc d) differs = pages_other bs b v d (λ e. differs (ap suc e))

pub pages_at : (bs : List Pages) (b : ℕ) (v : Pages) → b < length bs → v ≡ get_or bs b v → pages_in bs b ≡ v.items
pages_at [] b v lt is = absurd (omega arith)
pages_at (x ∷ bs) zero v lt is = ap (λ (w : Pages). w.items) (sym is)
pages_at (x ∷ bs) (suc b) v lt is = pages_at bs b v (omega arith) is

pub puts_page : (bs : List Pages) (b p : ℕ) (old new : Pages) (x : Page) → b < length bs → old ≡ get_or bs b old → p < length old.items
    → new.items ≡ set old.items p x
    → SetsPage (flash_in bs) (flash_in (set bs b new)) b p (contents_of x)
puts_page bs b p old new x lt is within items = record {
  put = ap (λ (l : List Page). contents_of (get_or l p page.Erased)) (pages_same bs b new lt ∙ items)
      ∙ ap contents_of (get_or-set_same old.items p x page.Erased within);
  others = λ c q differs. ap contents_of (⊎_elim
      (λ here. ⊎_elim
      (λ other. absurd (other here))
      (λ other. subst (λ (d : ℕ). get_or (pages_in (set bs b new) d) q page.Erased ≡ get_or (pages_in bs d) q page.Erased) (sym here)
      (ap (λ (l : List Page). get_or l q page.Erased) (pages_same bs b new lt ∙ items)
      ∙ (get_or-set_other old.items p q x page.Erased other ∙ ap (λ (l : List Page). get_or l q page.Erased) (sym (pages_at bs b old lt is)))))
      differs)
      (λ there. ap (λ (l : List Page). get_or l q page.Erased) (pages_other bs b new c there))
      (cases_eq c b));
}

pub wipes_block : (bs : List Pages) (b : ℕ) (new : Pages) → b < length bs → ((p : ℕ) → get_or new.items p page.Erased ≡ page.Erased)
    → IsWiped (flash_in bs) (flash_in (set bs b new)) b
wipes_block bs b new lt empty = (
  (λ p. ap (λ (l : List Page). contents_of (get_or l p page.Erased)) (pages_same bs b new lt) ∙ ap contents_of (empty p)),
  (λ d p differs. ap (λ (l : List Page). contents_of (get_or l p page.Erased)) (pages_other bs b new d differs)),
)

-- as a call leaves them
pub puts_item : (bs : List Pages) (b p : ℕ) (old : Pages) (x : Page) → b < length bs → old ≡ get_or bs b old → p < length old.items
    → SetsPage (flash_in bs) (flash_in (set bs b (with_item old p x))) b p (contents_of x)
puts_item bs b p old x lt is within = puts_page bs b p old (with_item old p x) x lt is within refl

pub wipes_items : (bs : List Pages) (b n : ℕ) (old : Pages) (pages : List Page) → b < length bs → length pages ≡ old.len → length pages ≤ n
    → ((p : ℕ) → p < n → get_or pages p page.Erased ≡ page.Erased) → IsWiped (flash_in bs) (flash_in (set bs b (with_items old pages))) b
wipes_items bs b n old pages lt size end empty = wipes_block bs b (with_items old pages) lt
    (λ p. ap (λ (l : List Page). get_or l p page.Erased) (with_items_is old pages size)
    ∙ ⊎_elim (λ under. empty p under) (λ past. get_or_past pages p page.Erased (omega (arith, past, end))) (cases_lt p n))

-- each version in the pages was there before
abbrev pub KeepsVersions : List Page → List Page → Type 0
KeepsVersions old new = (p : ℕ) (s : Extent) (n : ℕ) (v : Sector) → contents_of (get_or new p page.Erased) ≡ Version s n v
    → contents_of (get_or old p page.Erased) ≡ Version s n v

pub loses_items : (bs : List Pages) (b : ℕ) (old : Pages) (pages : List Page) → b < length bs → old ≡ get_or bs b old → length pages ≡ old.len
    → KeepsVersions old.items pages → LosesPages (flash_in bs) (flash_in (set bs b (with_items old pages))) b
loses_items bs b old pages lt is size keeps = record {
  within = λ c p s n v e. ⊎_elim
      (λ here. subst (λ (d : ℕ). flash_in bs d p ≡ Version s n v) (sym here)
      (ap (λ (l : List Page). contents_of (get_or l p page.Erased)) (pages_at bs b old lt is)
      ∙ keeps p s n v (ap (λ (l : List Page). contents_of (get_or l p page.Erased))
      (sym (pages_same bs b (with_items old pages) lt ∙ with_items_is old pages size))
      ∙ subst (λ (d : ℕ). flash_in (set bs b (with_items old pages)) d p ≡ Version s n v) here e)))
      (λ differs. sym (ap (λ (l : List Page). contents_of (get_or l p page.Erased)) (pages_other bs b (with_items old pages) c differs)) ∙ e)
      (cases_eq c b);
  outside = λ c p differs. ap (λ (l : List Page). contents_of (get_or l p page.Erased)) (pages_other bs b (with_items old pages) c differs);
}
