-- How a command of the modelled chip ends.
use Rattle.std.proofs.Common.{◌≡◌, ◌⊎◌, ◌∙◌, inl, inr, ⊎_elim, ℕ, Bool, true, false, Result, Err, OnOk, OnErr, refl, sym, subst}
use Rattle.geometry.specs.declared.page_addr.PageAddr.{PageAddr}
use Rattle.durable.specs.Flash.{PageContents, Torn, Flash, SetsPage, LosesPages}
use Rattle.durable.specs.Commands.{IsSameFlash}
use Rattle.nand.specs.declared.flash.Fault.{Fault}
use Rattle.nand.specs.Chip.{Sets}
use Rattle.nand.specs.Cells.{IsWiped}

abbrev Ended : Type 0
Ended = Result (Unit {0}) Fault

pub ended : (r : Ended) (cause : Fault) → r ≡ Err cause → (f t : Flash) (at : PageAddr) (x : PageContents)
    → IsSameFlash f t ⊎ SetsPage f t at.block at.page Torn ⊎ SetsPage f t at.block at.page x → Sets r f t at x
ended r cause is f t at x left = subst (λ (k : Ended). Sets k f t at x) (sym is) (tt, left)

pub same_left : (f t : Flash) → t ≡ f → IsSameFlash f t
same_left f t same b p i = same i b p

-- what a put leaves, whether there is such a page or not
pub put_left : (done : Bool) (f g h t : Flash) (b p : ℕ) (x : PageContents) → g ≡ f → (done ≡ true → SetsPage g h b p x) → (done ≡ false → h ≡ g) → t ≡ h
    → IsSameFlash f t ⊎ SetsPage f t b p x
put_left true f g h t b p x start put same end =
    inr (subst (λ (k : Flash). SetsPage k t b p x) start (subst (λ (k : Flash). SetsPage g k b p x) (sym end) (put refl)))
put_left false f g h t b p x start put same end = inl (same_left f t (end ∙ (same refl ∙ start)))

pub torn_left : (f t : Flash) (b p : ℕ) (x : PageContents) → IsSameFlash f t ⊎ SetsPage f t b p Torn
    → IsSameFlash f t ⊎ SetsPage f t b p Torn ⊎ SetsPage f t b p x
torn_left f t b p x left = ⊎_elim (λ same. inl same) (λ torn. inr (inl torn)) left

pub whole_left : (f t : Flash) (b p : ℕ) (x : PageContents) → IsSameFlash f t ⊎ SetsPage f t b p x
    → IsSameFlash f t ⊎ SetsPage f t b p Torn ⊎ SetsPage f t b p x
whole_left f t b p x left = ⊎_elim (λ same. inl same) (λ whole. inr (inr whole)) left

-- an erase that does nothing
pub kept_left : (r : Ended) (cause : Fault) → r ≡ Err cause → (f t : Flash) (b : ℕ) → t ≡ f → OnOk r (IsWiped f t b) × OnErr r (LosesPages f t b)
kept_left r cause is f t b same = subst (λ (k : Ended). OnOk k (IsWiped f t b) × OnErr k (LosesPages f t b)) (sym is)
    (tt, record { within = λ c p s n v e. (λ i. sym same i c p) ∙ e; outside = λ c p differs i. same i c p })
