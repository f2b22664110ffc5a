-- One stamp more is counted.
use Rattle.std.proofs.Common.{◌≡◌, ◌≢◌, ◌⊎◌, inl, inr, ⊎_elim, ◌+◌, ◌-◌, ◌<◌, ◌≤◌, ℕ, suc, Bool, true, false, if◌then◌else◌, List, length, Option, None, Some}
use Rattle.std.proofs.Common.{get_or, refl, sym, ◌∙◌, ap, subst, arith}
use Rattle.std.proofs.lemmas.Bool.{cases_eq, cases_lt}
use Rattle.std.proofs.lemmas.List.{get_or-set_same, get_or-set_other}
use Rattle.geometry.specs.Sectors.{Sector}
use Rattle.geometry.specs.declared.page_addr.PageAddr.{PageAddr}
use Rattle.durable.specs.declared.found.Candidate.{Candidate}
use Rattle.durable.specs.declared.found.Stamp.{Stamp}
use Rattle.durable.specs.declared.extent.Extent.{Extent}
use Rattle.durable.specs.Updates.{Covers}
use Rattle.durable.specs.Flash.{PageContents, Erased, Torn, Version, Flash, HasVersion}
use Rattle.durable.specs.Candidates.{twin_with, with_twin, newer_of, IsFoundWith, number_above}
use Rattle.durable.specs.Losses.{version_count, versions_before, gaps_with, gaps_before, gaps_in, has_gap, gaps_noted, versions_noted, CountsGaps}
use Rattle.durable.specs.Losses.{IsInWhole, IsWholeOrHere, IsPreferred}
use Rattle.durable.specs.Mounting.{IsStampOf, IsBest, IsLone, FoundBefore}
use Rattle.durable.proofs.Cells.{same_held, same_version}
use Rattle.durable.proofs.Scans.{noted, later_old, later_new, later_same, some_is, none_is, twin_cases, twin_is, set_each}
use Rattle.durable.proofs.Losses.{no_gap, none_has_gap, some_gap}

none_counted : (c : PageContents) → ((s : Extent) (m : ℕ) (v : Sector) → c ≢ Version s m v) → (p versions gaps : ℕ)
    → (version_count c ≡ 0) × (gaps_with c p versions gaps ≡ gaps)
none_counted (Version s n v) none p versions gaps = absurd (none s n v refl)
none_counted Erased none p versions gaps = (refl, refl)
none_counted Torn none p versions gaps = (refl, refl)

set_gaps : (gaps : List ℕ) (b p versions : ℕ) (stamp : Option Stamp) (c : ℕ) → c ≢ b → gaps_in (gaps_noted gaps b p versions stamp) c ≡ gaps_in gaps c
set_gaps gaps b p versions None c differs = refl
set_gaps gaps b p versions (Some stamp) c differs = get_or-set_other gaps b c (p - versions) 0 differs

-- the versions and gaps of the block, with one page more
counted_here : (f : Flash) (b p : ℕ) (gaps : List ℕ) (versions : ℕ) (stamp : Option Stamp) → b < length gaps → IsStampOf f b p stamp
    → versions ≡ versions_before f b p → gaps_in gaps b ≡ gaps_before f b p
    → (versions_noted versions stamp ≡ versions_before f b (suc p)) × (gaps_in (gaps_noted gaps b p versions stamp) b ≡ gaps_before f b (suc p))
counted_here f b p gaps versions None lt none here now =
    let counted = none_counted (f b p) none p (versions_before f b p) (gaps_before f b p) in
    (omega (arith, here, counted.0), now ∙ sym counted.1)
counted_here f b p gaps versions (Some stamp) lt matches here now =
    let count : version_count (f b p) ≡ 1 = ap version_count matches.1 in
    let gap : gaps_before f b (suc p) ≡ p - versions_before f b p =
    ap (λ (c : PageContents). gaps_with c p (versions_before f b p) (gaps_before f b p)) matches.1 in
    let put : gaps_in (gaps_noted gaps b p versions (Some stamp)) b ≡ p - versions = get_or-set_same gaps b (p - versions) 0 lt in
    (omega (arith, here, count), put ∙ (ap (λ (n : ℕ). p - n) here ∙ sym gap))

pub counts_next : (f : Flash) (pages b p : ℕ) (gaps : List ℕ) (versions : ℕ) (stamp : Option Stamp) → b < length gaps → IsStampOf f b p stamp
    → CountsGaps f pages b p gaps versions → CountsGaps f pages b (suc p) (gaps_noted gaps b p versions stamp) (versions_noted versions stamp)
counts_next f pages b p gaps versions stamp lt matches counts =
    let now = counted_here f b p gaps versions stamp lt matches counts.here counts.now in
    record {
      here = now.0;
      now = now.1;
      read = λ c before. set_gaps gaps b p versions stamp c (λ e. omega (arith, e, before)) ∙ counts.read c before;
      rest = λ c after. set_gaps gaps b p versions stamp c (λ e. omega (arith, e, after)) ∙ counts.rest c after;
    }

pub counts_wrap : (f : Flash) (pages b p : ℕ) (gaps : List ℕ) (versions : ℕ) → p ≡ pages → CountsGaps f pages b p gaps versions
    → CountsGaps f pages (b + 1) 0 gaps 0
counts_wrap f pages b p gaps versions full counts = record {
  here = refl;
  now = counts.rest (b + 1) (omega arith);
  read = λ c before. ⊎_elim
      (λ here. subst (λ (k : ℕ). gaps_in gaps k ≡ gaps_before f k pages) (sym here) (counts.now ∙ ap (gaps_before f b) full))
      (λ differs. counts.read c (omega (arith, before, differs)))
      (cases_eq c b);
  rest = λ c after. counts.rest c (omega (arith, after));
}

-- which page is preferred, with one page more
module _ (f : Flash) (pages b p : ℕ) (gaps new : List ℕ) (same : (c : ℕ) → c < b → gaps_in new c ≡ gaps_in gaps c) where
  whole_still : (x : Candidate) → IsInWhole gaps b x → IsInWhole new b x
  whole_still x whole = (whole.0, same x.at.block whole.0 ∙ whole.1)

  within : (q : ℕ) → q < suc p → (q < p) ⊎ (q ≡ p)
  within q lt = ⊎_elim (λ is. inr is) (λ differs. inl (omega (arith, lt, differs))) (cases_eq q p)

  whole_or_here : (c : ℕ) → IsWholeOrHere gaps b c → IsWholeOrHere new b c
  whole_or_here c is = ⊎_elim (λ here. inl here) (λ whole. inr (whole.0, same c whole.0 ∙ whole.1)) is

  whole_twin : (x : Candidate) → ((t : PageAddr) × (x.twin ≡ Some t) × (t.block < b) × (gaps_in gaps t.block ≡ 0))
      → (t : PageAddr) × (x.twin ≡ Some t) × (t.block < b) × (gaps_in new t.block ≡ 0)
  whole_twin x has = (has.0, has.1, has.2, same has.0.block has.2 ∙ has.3)

  -- what is said of pages before this one is said of this one too, which has no such version
  prefers_still : (s : ℕ) (x : Candidate) → IsPreferred f pages b p gaps s (Some x) → ((v : Sector) → ¬ HasVersion f b p s x.number v)
      → IsPreferred f pages b (suc p) new s (Some x)
  prefers_still s x prefers none = (
    (λ c q v lt on e gap. whole_still x (prefers.0 c q v lt on e (sym (same c lt) ∙ gap))),
    (λ q v lt e. ⊎_elim
        (λ old. whole_or_here x.at.block (prefers.1 q v old e))
        (λ is. absurd (none v (e.0, (λ i. f b (sym is i)) ∙ e.1, e.2)))
        (within q lt)),
    (λ c q v lt on e gap differs. whole_twin x (prefers.2 c q v lt on e (sym (same c lt) ∙ gap) differs)),
    (λ q v lt e differs. ⊎_elim
        (λ old. let has = prefers.3 q v old e differs in (has.0, has.1, whole_or_here has.0.block has.2))
        (λ is. absurd (none v (e.0, (λ i. f b (sym is i)) ∙ e.1, e.2)))
        (within q lt)),
    prefers.4,
  )

  prefers_beside : (s : ℕ) (k : Option Candidate) → IsPreferred f pages b p gaps s k → ((m : ℕ) (v : Sector) → ¬ HasVersion f b p s m v)
      → IsPreferred f pages b (suc p) new s k
  prefers_beside s None prefers none = tt
  prefers_beside s (Some x) prefers none = prefers_still s x prefers (none x.number)

  -- a page of this block with a number that no block without a gap has
  prefers_new : (s n : ℕ) (at : PageAddr) (twin : Option PageAddr) → at.block ≡ b
      → ((c q : ℕ) (v : Sector) → c < b → q < pages → HasVersion f c q s n v → gaps_in gaps c ≢ 0)
      → ((t : PageAddr) → twin ≡ Some t → t.block ≤ b)
      → IsPreferred f pages b (suc p) new s (Some (record { at = at; number = n; twin = twin }))
  prefers_new s n at twin is_b none low = (
    (λ c q v lt on e gap. absurd (none c q v lt on e (sym (same c lt) ∙ gap))),
    (λ q v lt e. inl is_b),
    (λ c q v lt on e gap differs. absurd (none c q v lt on e (sym (same c lt) ∙ gap))),
    (λ q v lt e differs. absurd (differs is_b)),
    low,
  )

  -- the twin with one page more: the old one if its block has no gap, or this page
  twin_here : (k : Option PageAddr) (at : PageAddr) → at.block ≡ b → ((t : PageAddr) → k ≡ Some t → t.block ≤ b)
      → IsWholeOrHere new b (twin_with gaps k at).block
  twin_here None at is_b low = inl is_b
  twin_here (Some twin) at is_b low = chosen_here (has_gap gaps twin.block) refl
    where
      chosen_here : (k : Bool) → has_gap gaps twin.block ≡ k → IsWholeOrHere new b (if k then at else twin).block
      chosen_here true is = inl is_b
      chosen_here false is = ⊎_elim
          (λ here. inl here)
          (λ differs. let before : twin.block < b = omega (arith, low twin refl, differs) in
          inr (before, same twin.block before ∙ no_gap gaps twin.block is))
          (cases_eq twin.block b)

  twin_stays : (k : Option PageAddr) (at t : PageAddr) → k ≡ Some t → gaps_in gaps t.block ≡ 0 → twin_with gaps k at ≡ t
  twin_stays None at t is none = absurd (none_is t is)
  twin_stays (Some twin) at t is none =
      let same_twin = some_is twin t is in
      let no : has_gap gaps twin.block ≡ false = none_has_gap gaps twin.block (subst (λ (a : PageAddr). gaps_in gaps a.block ≡ 0) (sym same_twin) none) in
      (λ i. if no i then at else twin) ∙ same_twin

  prefers_twin : (s n : ℕ) (d : Sector) (at : PageAddr) (old : Candidate) → at.block ≡ b → n ≡ old.number → (old.at.block ≤ b)
      → IsPreferred f pages b p gaps s (Some old) → IsPreferred f pages b (suc p) new s (Some (with_twin gaps old at))
  prefers_twin s n d at old is_b eq before prefers = ⊎_elim
      (λ stays. subst (λ (x : Candidate). IsPreferred f pages b (suc p) new s (Some x)) (sym stays.1) (
        (λ c q v lt on e gap. whole_still old (prefers.0 c q v lt on e (sym (same c lt) ∙ gap))),
        (λ q v lt e. inl (sym stays.0 ∙ is_b)),
        (λ c q v lt on e gap differs. whole_twin old (prefers.2 c q v lt on e (sym (same c lt) ∙ gap) differs)),
        (λ q v lt e differs. absurd (differs (sym stays.0 ∙ is_b))),
        prefers.4,
      ))
      (λ other. ⊎_elim
      (λ takes. subst (λ (x : Candidate). IsPreferred f pages b (suc p) new s (Some x)) (sym takes.2)
      (prefers_new s old.number at (Some old.at) is_b (λ c q v lt on e gap.
      let none = (prefers.0 c q v lt on e gap).1 in let some = some_gap gaps old.at.block takes.1 in absurd (omega (arith, none, some)))
      (λ t e. subst (λ (a : PageAddr). a.block ≤ b) (some_is old.at t e) before)))
      (λ keeps. subst (λ (x : Candidate). IsPreferred f pages b (suc p) new s (Some x)) (sym keeps.2) (
        (λ c q v lt on e gap. whole_still old (prefers.0 c q v lt on e (sym (same c lt) ∙ gap))),
        (λ q v lt e. let differs = keeps.0 in
            inr (omega (arith, before, differs, is_b), same old.at.block (omega (arith, before, differs, is_b)) ∙ no_gap gaps old.at.block keeps.1)),
        (λ c q v lt on e gap differs.
            let has = prefers.2 c q v lt on e (sym (same c lt) ∙ gap) differs in
            (has.0, ap Some (twin_stays old.twin at has.0 has.1 has.3), has.2, same has.0.block has.2 ∙ has.3)),
        (λ q v lt e differs. (twin_with gaps old.twin at, refl, twin_here old.twin at is_b prefers.4)),
        (λ t e. subst (λ (a : PageAddr). a.block ≤ b) (some_is (twin_with gaps old.twin at) t e)
            (twin_is (λ a. a.block ≤ b) gaps old.twin at prefers.4 (omega (arith, is_b)))),
      ))
      other)
      (twin_cases gaps old at)

  prefers_later : (s n : ℕ) (d : Sector) (at : PageAddr) (k : Option Candidate) → at.block ≡ b → HasVersion f b p s n d
      → ((x : Candidate) → k ≡ Some x → x.at.block ≤ b) → IsBest f pages b p s k → IsPreferred f pages b p gaps s k
      → IsPreferred f pages b (suc p) new s (newer_of gaps k at n)
  prefers_later s n d at None is_b is before best prefers =
      prefers_new s n at None is_b (λ c q v lt on e gap. absurd (best c q n v (on, inl lt) e)) (λ t e. absurd (none_is t e))
  prefers_later s n d at (Some old) is_b is before best prefers = ⊎_elim
      (λ lt. subst (IsPreferred f pages b (suc p) new s) (sym (later_old gaps old at n lt))
      (prefers_still s old prefers (λ v e. let number = (same_version (f b p) s n d s old.number v is e).0 in omega (arith, number, lt))))
      (λ le. ⊎_elim
      (λ gt. subst (IsPreferred f pages b (suc p) new s) (sym (later_new gaps old at n gt))
      (prefers_new s n at None is_b (λ c q v less on e gap. let most = best.1 c q n v (on, inl less) e in omega (arith, most, gt))
      (λ t e. absurd (none_is t e))))
      (λ ge. let eq : n ≡ old.number = omega (arith, le, ge) in subst (IsPreferred f pages b (suc p) new s) (sym (later_same gaps old at n eq))
      (prefers_twin s n d at old is_b eq (before old refl) prefers))
      (cases_lt old.number n))
      (cases_lt n old.number)

-- the page that was found is in no later block
at_before : (f : Flash) (pages b p s : ℕ) (k : Option Candidate) (x : Candidate) → IsLone f pages b p s k → k ≡ Some x → x.at.block ≤ b
at_before f pages b p s None x lone is = absurd (none_some x is)
  where
    none_some : (y : Candidate) → None ≢ Some y
    none_some y e = cc e
at_before f pages b p s (Some y) x lone is = let same : y ≡ x = cc is in subst (λ (z : Candidate). z.at.block ≤ b) same lone.2

pub prefers_next : (f : Flash) (pages b p : ℕ) (gaps new : List ℕ) (found : List (Option Candidate)) (below : ℕ) (at : PageAddr) (stamp : Option Stamp)
    (found' : List (Option Candidate))
    → at.block ≡ b → ((c : ℕ) → c < b → gaps_in new c ≡ gaps_in gaps c) → IsFoundWith gaps found found' at stamp
    → FoundBefore f pages b p found below → IsStampOf f b p stamp
    → ((s : ℕ) → s < length found → IsPreferred f pages b p gaps s (get_or found s None))
    → (s : ℕ) → s < length found' → IsPreferred f pages b (suc p) new s (get_or found' s None)
prefers_next f pages b p gaps new found below at None found' is_b same unchanged finds none prefers =
    subst (λ (xs : List (Option Candidate)). (s : ℕ) → s < length xs → IsPreferred f pages b (suc p) new s (get_or xs s None)) (sym unchanged)
    (λ s lt. prefers_beside f pages b p gaps new same s (get_or found s None) (prefers s lt) (λ m v held. none held.0 m v held.1))
prefers_next f pages b p gaps new found below at (Some stamp) found' is_b same changes finds matches prefers =
    set_each gaps found found' at stamp (IsPreferred f pages b (suc p) new) changes
    (λ k k_in has. prefers_later f pages b p gaps new same k stamp.number matches.0 at (get_or found k None) is_b (stamp.extent, matches.1, has)
    (λ x is. at_before f pages b p k (get_or found k None) x (finds.lone k k_in) is) (finds.best k k_in) (prefers k k_in))
    (λ s is_in out. prefers_beside f pages b p gaps new same s (get_or found s None) (prefers s is_in)
    (λ m v held. let same_extent = (same_held stamp.extent stamp.number matches.0 held.0 m v (sym matches.1 ∙ held.1)).0 in
    out (subst (λ (e : Extent). Covers e s) (sym same_extent) held.2)))

wrapped_one : (f : Flash) (pages b p : ℕ) (gaps : List ℕ) → p ≡ pages → (s : ℕ) (k : Option Candidate) → IsPreferred f pages b p gaps s k
    → IsPreferred f pages (b + 1) 0 gaps s k
wrapped_one f pages b p gaps full s None prefers = tt
wrapped_one f pages b p gaps full s (Some x) prefers = (
  (λ c q v lt on e gap. ⊎_elim
      (λ here. ⊎_elim
      (λ at_b. (omega (arith, at_b), (λ i. gaps_in gaps ((at_b ∙ sym here) i)) ∙ gap))
      (λ whole. (omega (arith, whole.0), whole.1))
      (prefers.1 q v (omega (arith, on, full)) (e.0, (λ i. f (sym here i) q) ∙ e.1, e.2)))
      (λ differs. let whole = prefers.0 c q v (omega (arith, lt, differs)) on e gap in (omega (arith, whole.0), whole.1))
      (cases_eq c b)),
  (λ q v lt e. absurd (omega (arith, lt))),
  (λ c q v lt on e gap apart. ⊎_elim
      (λ here.
      let has = prefers.3 q v (omega (arith, on, full)) (e.0, (λ i. f (sym here i) q) ∙ e.1, e.2) (λ is. apart (here ∙ sym is)) in
      ⊎_elim
      (λ at_b. (has.0, has.1, omega (arith, at_b), (λ i. gaps_in gaps ((at_b ∙ sym here) i)) ∙ gap))
      (λ whole. (has.0, has.1, omega (arith, whole.0), whole.1))
      has.2)
      (λ differs. let has = prefers.2 c q v (omega (arith, lt, differs)) on e gap apart in (has.0, has.1, omega (arith, has.2), has.3))
      (cases_eq c b)),
  (λ q v lt e differs. absurd (omega (arith, lt))),
  (λ t e. let low = prefers.4 t e in omega (arith, low)),
)

pub prefers_wrap : (f : Flash) (pages b p : ℕ) (gaps : List ℕ) (found : List (Option Candidate)) → p ≡ pages
    → ((s : ℕ) → s < length found → IsPreferred f pages b p gaps s (get_or found s None))
    → (s : ℕ) → s < length found → IsPreferred f pages (b + 1) 0 gaps s (get_or found s None)
prefers_wrap f pages b p gaps found full prefers = λ s lt. wrapped_one f pages b p gaps full s (get_or found s None) (prefers s lt)

-- what a call has left that noted one stamp more
pub noted_all : (f : Flash) (pages b p : ℕ) (gaps : List ℕ) (versions : ℕ) (found : List (Option Candidate)) (below : ℕ) (at : PageAddr)
    (stamp : Option Stamp) (found' : List (Option Candidate)) (below' : ℕ) (gaps' : List ℕ) (versions' : ℕ)
    → at.block ≡ b → at.page ≡ p → b < length gaps → IsFoundWith gaps found found' at stamp → below' ≡ number_above below stamp
    → gaps' ≡ gaps_noted gaps b p versions stamp → versions' ≡ versions_noted versions stamp → IsStampOf f b p stamp
    → FoundBefore f pages b p found below × CountsGaps f pages b p gaps versions
    × ((s : ℕ) → s < length found → IsPreferred f pages b p gaps s (get_or found s None))
    → FoundBefore f pages b (p + 1) found' below' × CountsGaps f pages b (p + 1) gaps' versions'
    × ((s : ℕ) → s < length found' → IsPreferred f pages b (p + 1) gaps' s (get_or found' s None))
noted_all f pages b p gaps versions found below at stamp found' below' gaps' versions' is_b is_p lt is_found is_below is_gaps is_versions matches before =
    let same : (c : ℕ) → c < b → gaps_in (gaps_noted gaps b p versions stamp) c ≡ gaps_in gaps c =
    λ c less. set_gaps gaps b p versions stamp c (λ e. omega (arith, e, less)) in
    let one : suc p ≡ p + 1 = omega arith in
    let counts : CountsGaps f pages b (p + 1) (gaps_noted gaps b p versions stamp) (versions_noted versions stamp) =
    subst (λ (n : ℕ). CountsGaps f pages b n (gaps_noted gaps b p versions stamp) (versions_noted versions stamp)) one
    (counts_next f pages b p gaps versions stamp lt matches before.1) in
    let prefers : (s : ℕ) → s < length found' → IsPreferred f pages b (p + 1) (gaps_noted gaps b p versions stamp) s (get_or found' s None) =
    subst (λ (n : ℕ). (s : ℕ) → s < length found' → IsPreferred f pages b n (gaps_noted gaps b p versions stamp) s (get_or found' s None)) one
    (prefers_next f pages b p gaps (gaps_noted gaps b p versions stamp) found below at stamp found' is_b same is_found before.0 matches before.2) in (
      noted f pages b p gaps found below at stamp found' below' is_b is_p is_found is_below before.0 matches,
      subst (λ (n : ℕ). CountsGaps f pages b (p + 1) gaps' n) (sym is_versions)
          (subst (λ (g : List ℕ). CountsGaps f pages b (p + 1) g (versions_noted versions stamp)) (sym is_gaps) counts),
      subst (λ (g : List ℕ). (s : ℕ) → s < length found' → IsPreferred f pages b (p + 1) g s (get_or found' s None)) (sym is_gaps) prefers,
    )
