-- One stamp more is read.
use Rattle.std.proofs.Common.{◌≡◌, ◌≢◌, ◌⊎◌, inl, inr, ⊎_elim, ◌+◌, ◌<◌, ◌≤◌, ◌==◌, if◌then◌else◌, ℕ, Bool, true, false, List, length, Option, None, Some}
use Rattle.std.proofs.Common.{get_or, refl, sym, ◌∙◌, ap}
use Rattle.std.proofs.Common.{subst, arith}
use Rattle.std.proofs.lemmas.Bool.{cases_eq, cases_lt}
use Rattle.std.proofs.lemmas.Bool.Decides.{nat_tests}
use Rattle.geometry.specs.Sectors.{Sector}
use Rattle.geometry.specs.declared.page_addr.PageAddr.{PageAddr}
use Rattle.durable.specs.declared.found.Candidate.{Candidate}
use Rattle.durable.specs.declared.found.Stamp.{Stamp}
use Rattle.durable.specs.declared.extent.Extent.{Extent}
use Rattle.durable.specs.Updates.{Covers}
use Rattle.durable.specs.Flash.{Version, Flash, HasVersion, HoldsNewest, RecoversSector}
use Rattle.durable.specs.Candidates.{twin_with, with_twin, newer_of, IsFoundWith, number_above}
use Rattle.durable.specs.Losses.{has_gap}
use Rattle.durable.specs.Mounting.{IsRead, IsStampOf, IsBest, IsLone, FoundBefore}
use Rattle.durable.proofs.Extents.{cases_covered}
use Rattle.durable.proofs.Cells.{same_held, same_version}

pub seen_next : (pages b p c q : ℕ) → IsRead pages b (p + 1) c q → IsRead pages b p c q ⊎ ((c ≡ b) × (q ≡ p))
seen_next pages b p c q seen = ⊎_elim
    (λ lt. inl (seen.0, inl lt))
    (λ here. ⊎_elim (λ is. inr (here.0, is)) (λ differs. inl (seen.0, inr (here.0, omega (arith, here.1, differs)))) (cases_eq q p))
    seen.1

pub seen_wrap : (pages b p c q : ℕ) → p + 1 ≡ pages → IsRead pages (b + 1) 0 c q → IsRead pages b (p + 1) c q
seen_wrap pages b p c q full seen = ⊎_elim
    (λ lt. ⊎_elim (λ is. (seen.0, inr (is, omega (arith, seen.0, full)))) (λ differs. (seen.0, inl (omega (arith, lt, differs)))) (cases_eq c b))
    (λ here. absurd (omega (arith, here.1)))
    seen.1

pub later_old : (gaps : List ℕ) (old : Candidate) (at : PageAddr) (n : ℕ) → n < old.number → newer_of gaps (Some old) at n ≡ Some old
later_old gaps old at n lt = grind (arith, nat_tests)

pub later_new : (gaps : List ℕ) (old : Candidate) (at : PageAddr) (n : ℕ) → old.number < n
    → newer_of gaps (Some old) at n ≡ Some (record { at = at; number = n; twin = None })
later_new gaps old at n lt = grind (arith, nat_tests)

pub later_same : (gaps : List ℕ) (old : Candidate) (at : PageAddr) (n : ℕ) → n ≡ old.number → newer_of gaps (Some old) at n ≡ Some (with_twin gaps old at)
later_same gaps old at n is = grind (arith, nat_tests)

pub some_is : (x y : PageAddr) → Some x ≡ Some y → x ≡ y
some_is x y e = cc e

pub none_is : (y : PageAddr) → None ≢ Some y
none_is y e = cc e

some_not : (x : PageAddr) → Some x ≢ None
some_not x e = cc e

either : (k : Bool) → (k ≡ true) ⊎ (k ≡ false)
either true = inl refl
either false = inr refl

-- what becomes of a page that was found where another has the same number: it stays, or it gives way, or it gets a twin
pub twin_cases : (gaps : List ℕ) (old : Candidate) (at : PageAddr)
    → ((at.block ≡ old.at.block) × (with_twin gaps old at ≡ old))
    ⊎ (((at.block ≢ old.at.block) × (has_gap gaps old.at.block ≡ true)
    × (with_twin gaps old at ≡ record { at = at; number = old.number; twin = Some old.at }))
    ⊎ ((at.block ≢ old.at.block) × (has_gap gaps old.at.block ≡ false)
    × (with_twin gaps old at ≡ record { at = old.at; number = old.number; twin = Some (twin_with gaps old.twin at) })))
twin_cases gaps old at = ⊎_elim
    (λ here.
    let is : (at.block == old.at.block) ≡ true = grind (arith, nat_tests) in
    inl (
      here,
      λ i. if is i then old else if has_gap gaps old.at.block then record { at = at; number = old.number; twin = Some old.at }
          else record { at = old.at; number = old.number; twin = Some (twin_with gaps old.twin at) },
    ))
    (λ differs.
    let is : (at.block == old.at.block) ≡ false = grind (arith, nat_tests) in
    let tests : with_twin gaps old at ≡ (if has_gap gaps old.at.block then record { at = at; number = old.number; twin = Some old.at }
    else record { at = old.at; number = old.number; twin = Some (twin_with gaps old.twin at) }) =
    λ i. if is i then old else if has_gap gaps old.at.block then record { at = at; number = old.number; twin = Some old.at }
    else record { at = old.at; number = old.number; twin = Some (twin_with gaps old.twin at) } in
    inr (⊎_elim
    (λ gap. inl (
      differs,
      gap,
      tests ∙ (λ i. if gap i then record { at = at; number = old.number; twin = Some old.at }
          else record { at = old.at; number = old.number; twin = Some (twin_with gaps old.twin at) }),
    ))
    (λ none. inr (
      differs,
      none,
      tests ∙ (λ i. if none i then record { at = at; number = old.number; twin = Some old.at }
          else record { at = old.at; number = old.number; twin = Some (twin_with gaps old.twin at) }),
    ))
    (either (has_gap gaps old.at.block))))
    (cases_eq at.block old.at.block)

-- what holds of the twin so far and of this page holds of the twin then
chosen_twin : (P : PageAddr → Type 0) (k : Bool) (at twin : PageAddr) → P at → P twin → P (if k then at else twin)
chosen_twin P true at twin here there = here
chosen_twin P false at twin here there = there

pub twin_is : (P : PageAddr → Type 0) (gaps : List ℕ) (k : Option PageAddr) (at : PageAddr) → ((t : PageAddr) → k ≡ Some t → P t) → P at
    → P (twin_with gaps k at)
twin_is P gaps None at old here = here
twin_is P gaps (Some twin) at old here = chosen_twin P (has_gap gaps twin.block) at twin here (old twin refl)

-- each version of a sector is read where each page with a version is
pub seen : (f : Flash) (pages b p : ℕ) → ((d q : ℕ) (e : Extent) (m : ℕ) (v : Sector) → f d q ≡ Version e m v → IsRead pages b p d q)
    → (s d q m : ℕ) (v : Sector) → HasVersion f d q s m v → IsRead pages b p d q
seen f pages b p all s d q m v held = all d q held.0 m v held.1

module _ (f : Flash) (pages b p : ℕ) where
  pub at_page : (c q : ℕ) → (c ≡ b) × (q ≡ p) → f b p ≡ f c q
  at_page c q here = λ i. f (sym here.0 i) (sym here.1 i)

  -- a version that this page has
  pub here_has : (c q s m : ℕ) (d : Sector) → (c ≡ b) × (q ≡ p) → HasVersion f c q s m d → HasVersion f b p s m d
  here_has c q s m d here held = (held.0, at_page c q here ∙ held.1, held.2)

  pub there_has : (at : PageAddr) (s m : ℕ) (d : Sector) → at.block ≡ b → at.page ≡ p → HasVersion f b p s m d → HasVersion f at.block at.page s m d
  there_has at s m d is_b is_p held = (held.0, (λ i. f (is_b i) (is_p i)) ∙ held.1, held.2)

  best_beside : (s : ℕ) (k : Option Candidate) → IsBest f pages b p s k → ((m : ℕ) (d : Sector) → ¬ HasVersion f b p s m d) → IsBest f pages b (p + 1) s k
  best_beside s None best none = λ c q m d seen e. ⊎_elim (λ old. best c q m d old e) (λ here. none m d (here_has c q s m d here e)) (seen_next pages b
      p c q seen)
  best_beside s (Some x) best none = (
    best.0,
    (λ c q m d seen e. ⊎_elim (λ old. best.1 c q m d old e) (λ here. absurd (none m d (here_has c q s m d here e)))
        (seen_next pages b p c q seen)),
    best.2,
  )

  pub here_number : (s n : ℕ) (d : Sector) → HasVersion f b p s n d → (c q m : ℕ) (v : Sector) → (c ≡ b) × (q ≡ p) → HasVersion f c q s m v → n ≡ m
  here_number s n d is c q m v here e = (same_version (f b p) s n d s m v is (here_has c q s m v here e)).0

  best_twin : (gaps : List ℕ) (s n : ℕ) (d : Sector) (at : PageAddr) (old : Candidate) → at.block ≡ b → at.page ≡ p → HasVersion f b p s n d
      → n ≡ old.number → IsBest f pages b p s (Some old) → IsBest f pages b (p + 1) s (Some (with_twin gaps old at))
  best_twin gaps s n d at old is_b is_p is eq best =
      let here : (v : Sector) × HasVersion f at.block at.page s old.number v =
      (d, subst (λ (x : ℕ). HasVersion f at.block at.page s x d) eq (there_has at s n d is_b is_p is)) in
      let most : (c q m : ℕ) (v : Sector) → IsRead pages b (p + 1) c q → HasVersion f c q s m v → m ≤ old.number =
      λ c q m v seen e. ⊎_elim (λ o. best.1 c q m v o e) (λ at_p. let same = here_number s n d is c q m v at_p e in omega (arith, same, eq))
      (seen_next pages b p c q seen) in
      let Held : PageAddr → Type 0 = λ t. (v : Sector) × HasVersion f t.block t.page s old.number v in
      ⊎_elim
      (λ same. subst (λ (x : Candidate). IsBest f pages b (p + 1) s (Some x)) (sym same.1) (best.0, most, best.2))
      (λ other. ⊎_elim
      (λ takes. subst (λ (x : Candidate). IsBest f pages b (p + 1) s (Some x)) (sym takes.2)
      (here, most, λ t e. subst Held (some_is old.at t e) best.0))
      (λ keeps. subst (λ (x : Candidate). IsBest f pages b (p + 1) s (Some x)) (sym keeps.2)
      (best.0, most, λ t e. subst Held (some_is (twin_with gaps old.twin at) t e) (twin_is Held gaps old.twin at best.2 here)))
      other)
      (twin_cases gaps old at)

  best_later : (gaps : List ℕ) (s n : ℕ) (d : Sector) (at : PageAddr) (k : Option Candidate) → at.block ≡ b → at.page ≡ p → HasVersion f b p s n d
      → IsBest f pages b p s k → IsBest f pages b (p + 1) s (newer_of gaps k at n)
  best_later gaps s n d at None is_b is_p is best = (
    (d, there_has at s n d is_b is_p is),
    (λ c q m v seen e. ⊎_elim (λ old. absurd (best c q m v old e)) (λ here. let same = here_number s n d is c q m v here e in omega (arith, same))
        (seen_next pages b p c q seen)),
    (λ t e. absurd (none_is t e)),
  )
  best_later gaps s n d at (Some old) is_b is_p is best = ⊎_elim
      (λ lt. subst (IsBest f pages b (p + 1) s) (sym (later_old gaps old at n lt)) (
        best.0,
        (λ c q m v seen e. ⊎_elim (λ o. best.1 c q m v o e) (λ here. let same = here_number s n d is c q m v here e in omega (arith, same, lt))
            (seen_next pages b p c q seen)),
        best.2,
      ))
      (λ le. ⊎_elim
      (λ gt. subst (IsBest f pages b (p + 1) s) (sym (later_new gaps old at n gt)) (
        (d, there_has at s n d is_b is_p is),
        (λ c q m v seen e. ⊎_elim (λ o. let most = best.1 c q m v o e in omega (arith, most, gt)) (λ here. let same = here_number s n d is c q m v here e in
            omega (arith, same)) (seen_next pages b p c q seen)),
        (λ t e. absurd (none_is t e)),
      ))
      (λ ge. let eq : n ≡ old.number = omega (arith, le, ge) in subst (IsBest f pages b (p + 1) s) (sym (later_same gaps old at n eq))
      (best_twin gaps s n d at old is_b is_p is eq best))
      (cases_lt old.number n))
      (cases_lt n old.number)

-- a page with the greatest number of its sector shows it
pub shows_best : (f : Flash) (pages b p s : ℕ) (c : Sector) (x : Candidate) → IsBest f pages b p s (Some x)
    → ((d q m : ℕ) (v : Sector) → HasVersion f d q s m v → IsRead pages b p d q)
    → RecoversSector f s c → (at : PageAddr) (v : Sector) → HasVersion f at.block at.page s x.number v → HoldsNewest f s c at.block at.page
shows_best f pages b p s c x best all (inl shown) at v held =
    let shows = shown.2 in
    let most = best.1 shown.0 shown.1 shows.number c (all shown.0 shown.1 shows.number c shows.held) shows.held in
    let tells = shows.newest at.block at.page x.number v held in
    let same : x.number ≡ shows.number = ⊎_elim (λ lt. absurd (omega (arith, lt, most))) (λ is. is.0) tells in
    let content : v ≡ c = ⊎_elim (λ lt. absurd (omega (arith, lt, most))) (λ is. is.1) tells in
    record {
      number = x.number;
      held = subst (HasVersion f at.block at.page s x.number) content held;
      newest = λ d q m w e. ⊎_elim (λ lt. inl (omega (arith, lt, same))) (λ is. inr (is.0 ∙ sym same, is.1)) (shows.newest d q m w e);
    }
shows_best f pages b p s c x best all (inr none) at v held =
    let nothing : (d q m : ℕ) (w : Sector) → HasVersion f d q s m w → w ≡ c = λ d q m w e. no_bytes d q m w e ∙ sym none.0 in
    record {
      number = x.number;
      held = subst (HasVersion f at.block at.page s x.number) (nothing at.block at.page x.number v held) held;
      newest = λ d q m w e.
          let most = best.1 d q m w (all d q m w e) e in
          ⊎_elim (λ is. inr (is, nothing d q m w e)) (λ differs. inl (omega (arith, most, differs))) (cases_eq m x.number);
    }
  where
    no_bytes : (d q m : ℕ) (w : Sector) → HasVersion f d q s m w → w ≡ None
    no_bytes d q m None e = refl
    no_bytes d q m (Some bytes) e = absurd (none.1 d q m bytes e)

module _ (f : Flash) (pages b p : ℕ) where
  lone_beside : (s : ℕ) (k : Option Candidate) → IsLone f pages b p s k → ((m : ℕ) (d : Sector) → ¬ HasVersion f b p s m d) → IsLone f pages b (p + 1) s k
  lone_beside s None lone none = tt
  lone_beside s (Some x) lone none = (
    (λ alone c q d seen e. ⊎_elim (λ old. lone.0 alone c q d old e) (λ here. absurd (none x.number d (here_has f pages b p c q s x.number d here e)))
        (seen_next pages b p c q seen)),
    lone.1,
    lone.2,
  )

  lone_twin : (gaps : List ℕ) (s n : ℕ) (d : Sector) (at : PageAddr) (old : Candidate) → at.block ≡ b → IsLone f pages b p s (Some old)
      → IsLone f pages b (p + 1) s (Some (with_twin gaps old at))
  lone_twin gaps s n d at old is_b lone = ⊎_elim
      (λ same. subst (λ (x : Candidate). IsLone f pages b (p + 1) s (Some x)) (sym same.1) (
        (λ alone c q v seen e. ⊎_elim (λ o. lone.0 alone c q v o e) (λ here. omega (arith, here.0, is_b, same.0)) (seen_next pages b p c q seen)),
        lone.1,
        lone.2,
      ))
      (λ other. ⊎_elim
      (λ takes. subst (λ (x : Candidate). IsLone f pages b (p + 1) s (Some x)) (sym takes.2) (
        (λ alone. absurd (some_not old.at alone)),
        (λ t e same. takes.0 (sym same ∙ ap (λ (a : PageAddr). a.block) (sym (some_is old.at t e)))),
        omega (arith, is_b),
      ))
      (λ keeps. subst (λ (x : Candidate). IsLone f pages b (p + 1) s (Some x)) (sym keeps.2) (
        (λ alone. absurd (some_not (twin_with gaps old.twin at) alone)),
        (λ t e. subst (λ (a : PageAddr). a.block ≢ old.at.block) (some_is (twin_with gaps old.twin at) t e)
            (twin_is (λ a. a.block ≢ old.at.block) gaps old.twin at lone.1 keeps.0)),
        lone.2,
      ))
      other)
      (twin_cases gaps old at)

  lone_later : (gaps : List ℕ) (s n : ℕ) (d : Sector) (at : PageAddr) (k : Option Candidate) → at.block ≡ b → HasVersion f b p s n d → IsBest f pages b p s k
      → IsLone f pages b p s k → IsLone f pages b (p + 1) s (newer_of gaps k at n)
  lone_later gaps s n d at None is_b is best lone = (
    (λ alone c q v seen e. ⊎_elim (λ old. absurd (best c q n v old e)) (λ here. omega (arith, is_b, here.0)) (seen_next pages b p c q seen)),
    (λ t e. absurd (none_is t e)),
    omega (arith, is_b),
  )
  lone_later gaps s n d at (Some old) is_b is best lone = ⊎_elim
      (λ lt. subst (IsLone f pages b (p + 1) s) (sym (later_old gaps old at n lt)) (
        (λ alone c q v seen e. ⊎_elim (λ o. lone.0 alone c q v o e) (λ here. let same = here_number f pages b p s n d is c q old.number v here e in
            absurd (omega (arith, same, lt))) (seen_next pages b p c q seen)),
        lone.1,
        lone.2,
      ))
      (λ le. ⊎_elim
      (λ gt. subst (IsLone f pages b (p + 1) s) (sym (later_new gaps old at n gt)) (
        (λ alone c q v seen e. ⊎_elim (λ o. let most = best.1 c q n v o e in absurd (omega (arith, most, gt))) (λ here. omega (arith, is_b, here.0))
            (seen_next pages b p c q seen)),
        (λ t e. absurd (none_is t e)),
        omega (arith, is_b),
      ))
      (λ ge. subst (IsLone f pages b (p + 1) s) (sym (later_same gaps old at n (omega (arith, le, ge)))) (lone_twin gaps s n d at old is_b lone))
      (cases_lt old.number n))
      (cases_lt n old.number)

-- what holds of the new page at its sectors and of the old ones at the others holds after the change
pub set_each : (gaps : List ℕ) (found new : List (Option Candidate)) (at : PageAddr) (stamp : Stamp) (Q : ℕ → Option Candidate → Type 0)
    → IsFoundWith gaps found new at (Some stamp)
    → ((s : ℕ) → s < length found → Covers stamp.extent s → Q s (newer_of gaps (get_or found s None) at stamp.number))
    → ((s : ℕ) → s < length found → ¬ Covers stamp.extent s → Q s (get_or found s None))
    → (s : ℕ) → s < length new → Q s (get_or new s None)
set_each gaps found new at stamp Q is here others s lt =
    let is_in : s < length found = omega (arith, lt, is.0) in
    ⊎_elim
    (λ has. subst (Q s) (sym (is.1 s is_in has)) (here s is_in has))
    (λ out. subst (Q s) (sym (is.2 s is_in out)) (others s is_in out))
    (cases_covered stamp.extent s)

-- one stamp more
pub finds_next : (f : Flash) (pages b p : ℕ) (gaps : List ℕ) (found new : List (Option Candidate)) (below : ℕ) (at : PageAddr) (stamp : Option Stamp)
    → at.block ≡ b → at.page ≡ p → IsFoundWith gaps found new at stamp → FoundBefore f pages b p found below → IsStampOf f b p stamp
    → FoundBefore f pages b (p + 1) new (number_above below stamp)
finds_next f pages b p gaps found new below at None is_b is_p same finds none = subst (λ (xs : List (Option Candidate)). FoundBefore f pages b (p + 1) xs below)
    (sym same) (record {
      best = λ s lt. best_beside f pages b p s (get_or found s None) (finds.best s lt) (λ m d held. none held.0 m d held.1);
      numbers = λ c q e m d seen is. ⊎_elim (λ old. finds.numbers c q e m d old is) (λ here. absurd (none e m d (at_page f pages b p c q here ∙ is)))
          (seen_next pages b p c q seen);
      lone = λ s lt. lone_beside f pages b p s (get_or found s None) (finds.lone s lt) (λ m d held. none held.0 m d held.1);
    })
finds_next f pages b p gaps found new below at (Some stamp) is_b is_p changes finds matches =
    let n = stamp.number in
    record {
      best = set_each gaps found new at stamp (IsBest f pages b (p + 1)) changes
          (λ k k_in has. best_later f pages b p gaps k n matches.0 at (get_or found k None) is_b is_p (stamp.extent, matches.1, has) (finds.best k k_in))
          (λ s is_in out. best_beside f pages b p s (get_or found s None) (finds.best s is_in) (other_sector s out));
      numbers = λ c q e m d seen is. ⊎_elim
          (λ old. let lt = finds.numbers c q e m d old is in omega (arith, lt))
          (λ here. let same = (same_held stamp.extent n matches.0 e m d (sym matches.1 ∙ (at_page f pages b p c q here ∙ is))).1 in omega (arith, same))
          (seen_next pages b p c q seen);
      lone = set_each gaps found new at stamp (IsLone f pages b (p + 1)) changes
          (λ k k_in has. lone_later f pages b p gaps k n matches.0 at (get_or found k None) is_b (stamp.extent, matches.1, has) (finds.best k k_in)
          (finds.lone k k_in))
          (λ s is_in out. lone_beside f pages b p s (get_or found s None) (finds.lone s is_in) (other_sector s out));
    }
  where
    other_sector : (s : ℕ) → ¬ Covers stamp.extent s → (m : ℕ) (d : Sector) → ¬ HasVersion f b p s m d
    other_sector s out m d held =
        let same = (same_held stamp.extent stamp.number matches.0 held.0 m d (sym matches.1 ∙ held.1)).0 in
        out (subst (λ (e : Extent). Covers e s) (sym same) held.2)

-- the block's last page was read
pub finds_wrap : (f : Flash) (pages b p : ℕ) (found : List (Option Candidate)) (below : ℕ) → p + 1 ≡ pages → FoundBefore f pages b (p + 1) found below
    → FoundBefore f pages (b + 1) 0 found below
finds_wrap f pages b p found below full finds = record {
  best = λ s lt. best_wrapped (get_or found s None) s (finds.best s lt);
  numbers = λ c q s m d seen e. finds.numbers c q s m d (seen_wrap pages b p c q full seen) e;
  lone = λ s lt. lone_wrapped (get_or found s None) s (finds.lone s lt);
}
  where
    best_wrapped : (k : Option Candidate) (s : ℕ) → IsBest f pages b (p + 1) s k → IsBest f pages (b + 1) 0 s k
    best_wrapped None s best = λ c q m d seen e. best c q m d (seen_wrap pages b p c q full seen) e
    best_wrapped (Some x) s best = (best.0, (λ c q m d seen e. best.1 c q m d (seen_wrap pages b p c q full seen) e), best.2)

    lone_wrapped : (k : Option Candidate) (s : ℕ) → IsLone f pages b (p + 1) s k → IsLone f pages (b + 1) 0 s k
    lone_wrapped None s lone = tt
    lone_wrapped (Some x) s lone = ((λ alone c q d seen e. lone.0 alone c q d (seen_wrap pages b p c q full seen) e), lone.1, omega (arith, lone.2))

-- the same, of what a call has left
pub noted : (f : Flash) (pages b p : ℕ) (gaps : List ℕ) (found : List (Option Candidate)) (below : ℕ) (at : PageAddr) (stamp : Option Stamp)
    (found' : List (Option Candidate)) (below' : ℕ)
    → at.block ≡ b → at.page ≡ p → IsFoundWith gaps found found' at stamp → below' ≡ number_above below stamp → FoundBefore f pages b p found below
    → IsStampOf f b p stamp
    → FoundBefore f pages b (p + 1) found' below'
noted f pages b p gaps found below at stamp found' below' is_b is_p is_found is_below finds matches =
    subst (λ (n : ℕ). FoundBefore f pages b (p + 1) found' n) (sym is_below)
    (finds_next f pages b p gaps found found' below at stamp is_b is_p is_found finds matches)
