-- What was found, by tables of the pages, their numbers and their twins.
use Rattle.std.proofs.Common.{◌≡◌, ◌≢◌, ◌∙◌, ◌<◌, ◌==◌, ℕ, Bool, true, false, zero, suc, List, [], ◌∷◌, length}
use Rattle.std.proofs.Common.{Option, None, Some, get_or, set, replicate, inl, inr, refl, sym, ap, subst, arith, ⊎_elim}
use Rattle.std.proofs.lemmas.Bool.{cases_eq}
use Rattle.std.proofs.lemmas.Option.{none-some, same_Some}
use Rattle.std.proofs.lemmas.Bool.Decides.{nat_tests}
use Rattle.geometry.specs.declared.page_addr.PageAddr.{PageAddr}
use Rattle.durable.specs.declared.found.Candidate.{Candidate}
use Rattle.durable.specs.Marks.{is_valued}
use Rattle.durable.specs.Candidates.{AreNeeded, candidate_of, candidates_of, needed_of, outside_of, valued_page, IsEntryOf, HasTwin}

pub length_candidates : (pages : List (Option PageAddr)) (numbers : List ℕ) (twins : List (Option PageAddr)) → length numbers ≡ length pages
    → length twins ≡ length pages → length (candidates_of pages numbers twins) ≡ length pages
unfolding candidates_of
length_candidates [] numbers twins n t = refl
length_candidates (page ∷ pages) [] twins n t = absurd (omega (arith, n))
length_candidates (page ∷ pages) (number ∷ numbers) [] n t = absurd (omega (arith, t))
length_candidates (page ∷ pages) (number ∷ numbers) (twin ∷ twins) n t =
    ap suc (length_candidates pages numbers twins (omega (arith, n)) (omega (arith, t)))

pub candidates_get : (pages : List (Option PageAddr)) (numbers : List ℕ) (twins : List (Option PageAddr)) (s : ℕ) → length numbers ≡ length pages
    → length twins ≡ length pages → s < length pages
    → get_or (candidates_of pages numbers twins) s None ≡ candidate_of (get_or pages s None) (get_or numbers s 0) (get_or twins s None)
unfolding candidates_of
candidates_get [] numbers twins s n t lt = absurd (omega (arith, lt))
candidates_get (page ∷ pages) [] twins s n t lt = absurd (omega (arith, n))
candidates_get (page ∷ pages) (number ∷ numbers) [] s n t lt = absurd (omega (arith, t))
candidates_get (page ∷ pages) (number ∷ numbers) (twin ∷ twins) zero n t lt = refl
candidates_get (page ∷ pages) (number ∷ numbers) (twin ∷ twins) (suc s) n t lt =
    candidates_get pages numbers twins s (omega (arith, n)) (omega (arith, t)) (omega (arith, lt))

pub candidates_set : (pages : List (Option PageAddr)) (numbers : List ℕ) (twins : List (Option PageAddr)) (s : ℕ) (x : Candidate)
    → length numbers ≡ length pages → length twins ≡ length pages
    → candidates_of (set pages s (Some x.at)) (set numbers s x.number) (set twins s x.twin) ≡ set (candidates_of pages numbers twins) s (Some x)
unfolding candidates_of
candidates_set [] numbers twins s x n t = refl
candidates_set (page ∷ pages) [] twins s x n t = absurd (omega (arith, n))
candidates_set (page ∷ pages) (number ∷ numbers) [] s x n t = absurd (omega (arith, t))
candidates_set (page ∷ pages) (number ∷ numbers) (twin ∷ twins) zero x n t = refl
candidates_set (page ∷ pages) (number ∷ numbers) (twin ∷ twins) (suc s) x n t =
    ap (λ (rest : List (Option Candidate)). candidate_of page number twin ∷ rest)
    (candidates_set pages numbers twins s x (omega (arith, n)) (omega (arith, t)))

pub candidates_none : (n : ℕ) → candidates_of (replicate n None) (replicate n 0) (replicate n None) ≡ replicate n None
unfolding candidates_of
candidates_none zero = refl
candidates_none (suc n) = ap (λ (rest : List (Option Candidate)). None ∷ rest) (candidates_none n)

outside_in : (avoided : ℕ) (at twin : PageAddr) → at.block ≡ avoided → outside_of avoided (Some at) (Some twin) ≡ Some twin
outside_in avoided at twin is = let test : (at.block == avoided) ≡ true = grind (arith, nat_tests) in rw test refl

outside_out : (avoided : ℕ) (at twin : PageAddr) → at.block ≢ avoided → outside_of avoided (Some at) (Some twin) ≡ Some at
outside_out avoided at twin differs = let test : (at.block == avoided) ≡ false = grind (arith, nat_tests) in rw test refl

-- the entry outside of a block is one of the version that was found
pub outside_entry : (avoided : ℕ) (page : Option PageAddr) (number : ℕ) (twin : Option PageAddr)
    → IsEntryOf (candidate_of page number twin) (outside_of avoided page twin)
outside_entry avoided None number twin = refl
outside_entry avoided (Some at) number None = inl refl
outside_entry avoided (Some at) number (Some twin) = ⊎_elim
    (λ (is : at.block ≡ avoided). inr (twin, refl, outside_in avoided at twin is))
    (λ (differs : at.block ≢ avoided). inl (outside_out avoided at twin differs))
    (cases_eq at.block avoided)

-- the tables that a list of candidates is made of
module _ (pages : List (Option PageAddr)) (numbers : List ℕ) (twins : List (Option PageAddr)) (items : List (Option Candidate))
    (is : candidates_of pages numbers twins ≡ items) (n : length numbers ≡ length pages) (t : length twins ≡ length pages) where
  pub found_length : length items ≡ length pages
  found_length = sym (ap length is) ∙ length_candidates pages numbers twins n t

  pub found_get : (s : ℕ) → s < length items → get_or items s None ≡ candidate_of (get_or pages s None) (get_or numbers s 0) (get_or twins s None)
  found_get s lt = sym (ap (λ (xs : List (Option Candidate)). get_or xs s None) is)
      ∙ candidates_get pages numbers twins s n t (omega (arith, lt, found_length))

valued_candidate : (k : Bool) (page : Option PageAddr) (number : ℕ) (twin : Option PageAddr)
    → candidate_of (valued_page k page) number twin ≡ needed_of k (candidate_of page number twin)
valued_candidate true page number twin = refl
valued_candidate false page number twin = refl

-- with pages for the sectors with a value alone the tables have what is needed
pub forgets : (valued : List ℕ) (pages new : List (Option PageAddr)) (numbers : List ℕ) (twins : List (Option PageAddr)) (items : List (Option Candidate))
    → candidates_of pages numbers twins ≡ items → length numbers ≡ length pages → length twins ≡ length pages → length new ≡ length pages
    → ((s : ℕ) → s < length pages → get_or new s None ≡ valued_page (is_valued valued s) (get_or pages s None))
    → AreNeeded valued items (candidates_of new numbers twins)
forgets valued pages new numbers twins items is n t size entries = (
  length_candidates new numbers twins (n ∙ sym size) (t ∙ sym size) ∙ size ∙ sym (found_length pages numbers twins items is n t),
  λ s lt.
      let inside : s < length pages = omega (arith, lt, found_length pages numbers twins items is n t) in
      candidates_get new numbers twins s (n ∙ sym size) (t ∙ sym size) (omega (arith, inside, size))
      ∙ ap (λ (page : Option PageAddr). candidate_of page (get_or numbers s 0) (get_or twins s None)) (entries s inside)
      ∙ valued_candidate (is_valued valued s) (get_or pages s None) (get_or numbers s 0) (get_or twins s None)
      ∙ ap (needed_of (is_valued valued s)) (sym (found_get pages numbers twins items is n t s lt)),
)

away_version : (avoided : ℕ) (p : PageAddr) (number : ℕ) (twin : Option PageAddr) (at : PageAddr) → outside_of avoided (Some p) twin ≡ Some at
    → (p.block ≡ avoided → HasTwin [] (record { at = p; number = number; twin = twin }) avoided) → at.block ≢ avoided
away_version avoided p number None at to doubled = λ e.
    let other = doubled (ap (λ (a : PageAddr). a.block) (same_Some p at to) ∙ e) in none-some other.0 other.1
away_version avoided p number (Some twin) at to doubled = ⊎_elim
    (λ (is : p.block ≡ avoided). λ e.
    let other = doubled is in
    let same = same_Some twin at (sym (outside_in avoided p twin is) ∙ to) in
    other.2 (ap (λ (a : PageAddr). a.block) (sym (same_Some twin other.0 other.1) ∙ same) ∙ e))
    (λ (differs : p.block ≢ avoided). λ e.
    differs (ap (λ (a : PageAddr). a.block) (same_Some p at (sym (outside_out avoided p twin differs) ∙ to)) ∙ e))
    (cases_eq p.block avoided)

-- it lies outside of the block, if the version has a page there
pub outside_away : (avoided : ℕ) (page : Option PageAddr) (number : ℕ) (twin : Option PageAddr) (x : Candidate) (at : PageAddr)
    → candidate_of page number twin ≡ Some x → outside_of avoided page twin ≡ Some at → (x.at.block ≡ avoided → HasTwin [] x avoided) → at.block ≢ avoided
outside_away avoided None number twin x at is to doubled = absurd (none-some x is)
outside_away avoided (Some p) number twin x at is to doubled =
    let version : Candidate = record { at = p; number = number; twin = twin } in
    away_version avoided p number twin at to
    (subst (λ (y : Candidate). y.at.block ≡ avoided → HasTwin [] y avoided) (sym (same_Some version x is)) doubled)

stays_version : (avoided : ℕ) (p : PageAddr) (twin : Option PageAddr) (at : PageAddr) → outside_of avoided (Some p) twin ≡ Some at → at ≢ p
    → p.block ≡ avoided
stays_version avoided p None at to other = absurd (other (sym (same_Some p at to)))
stays_version avoided p (Some twin) at to other = ⊎_elim (λ (is : p.block ≡ avoided). is)
    (λ (differs : p.block ≢ avoided). absurd (other (sym (same_Some p at (sym (outside_out avoided p twin differs) ∙ to)))))
    (cases_eq p.block avoided)

-- and it is another page than the one that was found only if that is in the block
pub outside_stays : (avoided : ℕ) (page : Option PageAddr) (number : ℕ) (twin : Option PageAddr) (x : Candidate) (at : PageAddr)
    → candidate_of page number twin ≡ Some x → outside_of avoided page twin ≡ Some at → at ≢ x.at → x.at.block ≡ avoided
outside_stays avoided None number twin x at is to other = absurd (none-some x is)
outside_stays avoided (Some p) number twin x at is to other =
    let version : Candidate = record { at = p; number = number; twin = twin } in
    let same = same_Some version x is in
    sym (ap (λ (y : Candidate). y.at.block) same)
    ∙ stays_version avoided p twin at to (λ e. other (e ∙ ap (λ (y : Candidate). y.at) same))
