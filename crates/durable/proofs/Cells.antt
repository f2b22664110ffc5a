-- What a mount reads after one page has changed, or a block has lost pages.
use Rattle.std.proofs.Common.{◌≡◌, ◌≢◌, ◌⊎◌, inl, inr, ⊎_elim, ◌<◌, ℕ, Option, None, Some, refl, sym, ◌∙◌, subst, arith, List}
use Rattle.std.proofs.lemmas.Bool.{cases_eq}
use Rattle.geometry.specs.Sectors.{Sector}
use Rattle.geometry.specs.declared.page_addr.PageAddr.{PageAddr}
use Rattle.durable.specs.declared.extent.Extent.{Extent}
use Rattle.durable.specs.Updates.{Covers}
use Rattle.durable.specs.Flash.{PageContents, Erased, Torn, Version, Flash, IsVersionOf, HasVersion, HoldsNewest, RecoversSector, SetsPage, LosesPages}
use Rattle.durable.specs.Memory.{IsMappedTo}

-- two places are one, or they differ
same_place : (b p c q : ℕ) → ((c ≡ b) × (q ≡ p)) ⊎ ((c ≢ b) ⊎ (q ≢ p))
same_place b p c q = ⊎_elim (λ e. ⊎_elim (λ h. inl (e, h)) (λ n. inr (inr n)) (cases_eq q p)) (λ n. inr (inl n)) (cases_eq c b)

-- an erased page and a torn one hold no version
pub erased_holds_none : (e : Extent) (n : ℕ) (d : Sector) → Erased ≢ Version e n d
erased_holds_none e n d is = cc is

pub torn_holds_none : (e : Extent) (n : ℕ) (d : Sector) → Torn ≢ Version e n d
torn_holds_none e n d is = cc is

pub torn_has_none : (s n : ℕ) (d : Sector) → ¬ IsVersionOf Torn s n d
torn_has_none s n d held = torn_holds_none held.0 n d held.1

pub erased_has_none : (f : Flash) (b p s n : ℕ) (d : Sector) → f b p ≡ Erased → ¬ HasVersion f b p s n d
erased_has_none f b p s n d erased held = erased_holds_none held.0 n d (sym erased ∙ held.1)

pub same_held : (e : Extent) (n : ℕ) (c : Sector) (r : Extent) (m : ℕ) (d : Sector) → Version e n c ≡ Version r m d → (e ≡ r) × (n ≡ m) × (c ≡ d)
same_held e n c r m d is = (cc is, cc is, cc is)

-- a page has one version
pub same_version : (x : PageContents) (s n : ℕ) (c : Sector) (r m : ℕ) (d : Sector) → IsVersionOf x s n c → IsVersionOf x r m d → (n ≡ m) × (c ≡ d)
same_version x s n c r m d one other = let is = same_held one.0 n c other.0 m d (sym one.1 ∙ other.1) in (is.1, is.2)

-- which sectors a version is of
pub version_is : (e : Extent) (n : ℕ) (c : Sector) (s m : ℕ) (d : Sector) → IsVersionOf (Version e n c) s m d → Covers e s × (n ≡ m) × (c ≡ d)
version_is e n c s m d held =
    let is = same_held e n c held.0 m d held.1 in
    (subst (λ (r : Extent). Covers r s) (sym is.0) held.2, is.1, is.2)

pub some_none : (bytes : List ℕ) → Some bytes ≢ None
some_none bytes e = cc e

-- where a value is the newest version, a mount doesn't read nothing
pub shown_value : (f : Flash) (s : ℕ) (bytes : List ℕ) (b p : ℕ) → HoldsNewest f s (Some bytes) b p → RecoversSector f s None → ⊥
shown_value f s bytes b p newest (inl shown) = ⊎_elim
    (λ less. ⊎_elim (λ more. absurd (omega (arith, less, more))) (λ same. some_none bytes same.1) (shown.2.newest b p newest.number (Some bytes) newest.held))
    (λ same. some_none bytes (sym same.1))
    (newest.newest shown.0 shown.1 shown.2.number None shown.2.held)
shown_value f s bytes b p newest (inr nothing) = nothing.1 b p newest.number bytes newest.held

-- an erased block has lost its pages
pub erased_loses : (f t : Flash) (b : ℕ) → ((p : ℕ) → t b p ≡ Erased) → ((d p : ℕ) → d ≢ b → t d p ≡ f d p) → LosesPages f t b
erased_loses f t b erased others = record {
  within = λ d p e m v is. ⊎_elim
      (λ here. absurd (erased_holds_none e m v (sym (erased p) ∙ subst (λ (x : ℕ). t x p ≡ Version e m v) here is)))
      (λ differs. sym (others d p differs) ∙ is)
      (cases_eq d b);
  outside = others;
}

-- a sector that is kept is read so
pub reads_kept : (f : Flash) (s : ℕ) (c : Sector) (k : Option PageAddr) → IsMappedTo f s c k → RecoversSector f s c
reads_kept f s c None kept = inr kept
reads_kept f s c (Some at) kept = inl (at.block, at.page, kept)

-- what a block has that has lost pages it had before
pub had : (f t : Flash) (b : ℕ) → LosesPages f t b → (d p s m : ℕ) (v : Sector) → HasVersion t d p s m v → HasVersion f d p s m v
had f t b loses d p s m v held = (held.0, loses.within d p held.0 m v held.1, held.2)

-- a block in which it isn't kept may lose any of its pages
pub kept_in_loss : (f t : Flash) (b s : ℕ) (c : Sector) (k : Option PageAddr) → IsMappedTo f s c k → ((at : PageAddr) → k ≡ Some at → at.block ≢ b)
    → LosesPages f t b → IsMappedTo t s c k
kept_in_loss f t b s c None kept far loses = (kept.0, λ d p m v e. kept.1 d p m v (had f t b loses d p s m (Some v) e))
kept_in_loss f t b s c (Some at) kept far loses = record {
  number = kept.number;
  held = (kept.held.0, loses.outside at.block at.page (far at refl) ∙ kept.held.1, kept.held.2);
  newest = λ d p m v e. kept.newest d p m v (had f t b loses d p s m v e);
}

module _ (f t : Flash) (b p : ℕ) (x : PageContents) (erased : f b p ≡ Erased) (puts : SetsPage f t b p x) where
  -- a version there now was put there, or was there before
  pub was_page : (c q : ℕ) (e : Extent) (m : ℕ) (d : Sector) → t c q ≡ Version e m d → (x ≡ Version e m d) ⊎ (f c q ≡ Version e m d)
  was_page c q e m d is = ⊎_elim
      (λ h. inl (sym puts.put ∙ (λ i. t (sym h.0 i) (sym h.1 i)) ∙ is))
      (λ n. inr (sym (puts.others c q n) ∙ is))
      (same_place b p c q)

  pub was : (c q s m : ℕ) (d : Sector) → HasVersion t c q s m d → IsVersionOf x s m d ⊎ HasVersion f c q s m d
  was c q s m d held = ⊎_elim (λ h. inl (held.0, h, held.2)) (λ h. inr (held.0, h, held.2)) (was_page c q held.0 m d held.1)

  -- each version that was there is there
  pub stays : (c q s m : ℕ) (d : Sector) → HasVersion f c q s m d → HasVersion t c q s m d
  stays c q s m d held = ⊎_elim
      (λ h. absurd (erased_has_none f c q s m d ((λ i. f (h.0 i) (h.1 i)) ∙ erased) held))
      (λ n. (held.0, puts.others c q n ∙ held.1, held.2))
      (same_place b p c q)

  -- a sector of which the page has no version, or a twin, is kept as before
  pub kept_beside : (s : ℕ) (c : Sector) (k : Option PageAddr) → IsMappedTo f s c k
      → ((m : ℕ) (d : Sector) → IsVersionOf x s m d → (e : ℕ) × (r : ℕ) × HasVersion f e r s m d) → IsMappedTo t s c k
  kept_beside s c None kept twin =
      (kept.0, λ d q m v e. ⊎_elim (λ h. let other = twin m (Some v) h in kept.1 other.0 other.1 m v other.2) (λ h. kept.1 d q m v h) (was d q s m (Some v) e))
  kept_beside s c (Some at) kept twin = record {
    number = kept.number;
    held = stays at.block at.page s kept.number c kept.held;
    newest = λ d q m v e. ⊎_elim (λ h. let other = twin m v h in kept.newest other.0 other.1 m v other.2) (λ h. kept.newest d q m v h) (was d q s m v e);
  }

-- a page with a number above all others shows its sectors
pub program_shows : (f t : Flash) (b p : ℕ) (e : Extent) (s n : ℕ) (c : Sector)
    → ((d q : ℕ) (r : Extent) (m : ℕ) (v : Sector) → f d q ≡ Version r m v → m < n) → f b p ≡ Erased
    → SetsPage f t b p (Version e n c) → Covers e s → HoldsNewest t s c b p
program_shows f t b p e s n c below erased puts has = record {
  number = n;
  held = (e, puts.put, has);
  newest = λ d q m v held. ⊎_elim
      (λ h. let is = version_is e n c s m v h in inr (sym is.1, sym is.2))
      (λ h. inl (below d q h.0 m v h.1))
      (was f t b p (Version e n c) erased puts d q s m v held);
}

-- the copy of a page that shows its sector shows it too, and the page still does
pub copy_shows : (f t : Flash) (fb fp b p s : ℕ) (c : Sector) → HoldsNewest f s c fb fp → f b p ≡ Erased → SetsPage f t b p (f fb fp) → HoldsNewest t s c b p
copy_shows f t fb fp b p s c shows erased puts = record {
  number = shows.number;
  held = (shows.held.0, puts.put ∙ shows.held.1, shows.held.2);
  newest = λ d q m v e. ⊎_elim
      (λ h. shows.newest fb fp m v h)
      (λ h. shows.newest d q m v h)
      (was f t b p (f fb fp) erased puts d q s m v e);
}
