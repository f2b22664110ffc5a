-- Histories that only grow: where no host has made a call in between, two of them are one.
use Rattle.std.proofs.Common.{◌≡◌, ℕ, zero, suc, ◌+◌, ◌<◌, List, None, length, sym, ap, ◌∙◌, subst, arith}
use Rattle.std.{specs.Prelude.All, proofs.lemmas.List.ext_get_or}
use Rattle.geometry.specs.{History.Call, History.after, History.held, History.Begins, Sectors.Sector, Sectors.sector_at}
use Rattle.geometry.proofs.Histories.{length-after, Begins-refl, Begins-trans}
use Rattle.flash_rule.{specs.Views.caller, specs.Views.calls_of, proofs.Histories.still}

-- Sectors that were read at histories that grow
module _ (hosts n : ℕ) (sectors : List Sector) (history : ℕ → List Call) (grows : (s : ℕ) → Begins (history s) (history (s + 1))) where
  pub grown : (s : ℕ) → Begins (history 0) (history s)
  grown zero = Begins-refl (history 0)
  grown (suc s) = Begins-trans (history 0) (history s) (history (suc s)) (grown s) (subst (λ k. Begins (history s) (history k)) (omega arith) (grows s))

  -- are those after one of them, where each host has called all that it calls by the first
  pub at_one : length sectors ≡ n → ((s : ℕ) → s < n → sector_at sectors s ≡ held n (history s) s) → ((s : ℕ) → All (λ c. caller c < hosts) (history s))
      → ((t : ℕ) → t < hosts → (mine : List Call) × ((s : ℕ) → calls_of t (history s) ≡ mine)) → sectors ≡ after n (history 0)
  at_one long each callers own =
      let same : (s : ℕ) → history s ≡ history 0 =
      λ s. still hosts (history 0) (history s) (grown s) (callers s) (λ t low. let o = own t low in o.1 s ∙ sym (o.1 0)) in
      ext_get_or None sectors (after n (history 0)) (long ∙ sym (length-after n (history 0)))
      (λ s low. each s (omega (arith, long)) ∙ ap (λ h. held n h s) (same s))
