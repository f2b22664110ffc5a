-- A mount that has noted nothing.
use Rattle.std.proofs.Common.{◌≡◌, ◌<◌, ⊎_elim, ℕ, zero, suc, List, length, Option, None, get_or, replicate, refl, sym, ap, ◌∙◌, subst, arith}
use Rattle.durable.specs.declared.found.Candidate.{Candidate}
use Rattle.durable.specs.Flash.{Flash}
use Rattle.durable.specs.Losses.{CountsGaps, IsPreferred, gaps_in}
use Rattle.durable.specs.Mounting.{AreOfDevice, IsRead, IsBest, IsLone, FoundBefore}
use Rattle.durable.proofs.Kept.{same_words}

unread : (pages c q : ℕ) → IsRead pages 0 0 c q → ⊥
unread pages c q read = ⊎_elim (λ less. omega (arith, less)) (λ here. omega (arith, here.1)) read.1

pub nothing_own : (f : Flash) (pages sectors : ℕ) → AreOfDevice f pages 0 0 sectors
nothing_own f pages sectors c q e m v read is = absurd (unread pages c q read)

no_page : (n s : ℕ) (x : Option Candidate) → x ≡ None → get_or (replicate n x) s None ≡ None
no_page zero s x is = refl
no_page (suc n) zero x is = is
no_page (suc n) (suc s) x is = no_page n s x is

nothing : (found : List (Option Candidate)) (n s : ℕ) → found ≡ replicate n None → get_or found s None ≡ None
nothing found n s is = ap (λ (xs : List (Option Candidate)). get_or xs s None) is ∙ no_page n s None refl

pub nothing_found : (f : Flash) (pages : ℕ) (found : List (Option Candidate)) (n : ℕ) → found ≡ replicate n None → FoundBefore f pages 0 0 found 0
nothing_found f pages found n is = record {
  best = λ s lt. subst (IsBest f pages 0 0 s) (sym (nothing found n s is)) (λ c q m v read e. unread pages c q read);
  numbers = λ c q e m v read holds. absurd (unread pages c q read);
  lone = λ s lt. subst (IsLone f pages 0 0 s) (sym (nothing found n s is)) tt;
}

pub nothing_counted : (f : Flash) (pages : ℕ) (gaps : List ℕ) (n : ℕ) → gaps ≡ replicate n 0 → CountsGaps f pages 0 0 gaps 0
nothing_counted f pages gaps n is = record {
  here = refl;
  now = ap (λ (g : List ℕ). gaps_in g 0) is ∙ same_words n 0 0;
  read = λ c before. absurd (omega (arith, before));
  rest = λ c after. ap (λ (g : List ℕ). gaps_in g c) is ∙ same_words n c 0;
}

pub nothing_preferred : (f : Flash) (pages : ℕ) (gaps : List ℕ) (found : List (Option Candidate)) (n : ℕ) → found ≡ replicate n None
    → (s : ℕ) → s < length found → IsPreferred f pages 0 0 gaps s (get_or found s None)
nothing_preferred f pages gaps found n is s lt = subst (IsPreferred f pages 0 0 gaps s) (sym (nothing found n s is)) tt
