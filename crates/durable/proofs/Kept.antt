-- What a mount keeps of what it has found: nothing of a sector that no page has a value of.
use Rattle.std.proofs.Common.{◌≡◌, ◌⊎◌, inl, inr, ⊎_elim, ◌+◌, ◌<◌, ◌/◌, ◌%◌, ◌==◌, ℕ, zero, suc, replicate, Bool, true, false, List, length}
use Rattle.std.proofs.Common.{Option, None, Some, get_or, refl, sym, ◌∙◌, ap, subst}
use Rattle.std.proofs.Common.{arith}
use Rattle.std.proofs.lemmas.Bool.{false≢true, cases_Bool}
use Rattle.std.proofs.lemmas.Option.{none-some}
use Rattle.geometry.specs.Sectors.{Sector}
use Rattle.geometry.specs.declared.page_addr.PageAddr.{PageAddr}
use Rattle.durable.specs.declared.extent.Extent.{Extent}
use Rattle.durable.specs.declared.found.Candidate.{Candidate}
use Rattle.durable.specs.declared.found.Stamp.{Stamp}
use Rattle.durable.specs.declared.memory.Core.{Core}
use Rattle.durable.specs.Updates.{Covers}
use Rattle.durable.specs.Flash.{Version, Flash, HasVersion, HasValue, HoldsNoValue, RecoversSector, Recovers, is_trim}
use Rattle.durable.specs.Memory.{IsMappedTo, Represents}
use Rattle.durable.proofs.Opened.{NoneOpen}
use Rattle.durable.specs.Marks.{IsMarkedWith, MarksAll, MarksValues, is_valued}
use Rattle.durable.specs.Candidates.{AreNeeded, IsEntryOf, IsFoundWith, needed_of}
use Rattle.std.specs.Int.{bit_at}
use Rattle.std.proofs.lemmas.Nat.Bits.{bit_at-zero}
use Rattle.durable.specs.Mounting.{IsRead, IsStampOf, IsBest, IsLone, FoundBefore, TellsValue, TellsValues}
use Rattle.durable.proofs.Extents.{cases_covered}
use Rattle.durable.proofs.Cells.{same_held, some_none}
use Rattle.durable.proofs.Scans.{here_has, seen, seen_next, seen_wrap, shows_best}

seen_later : (pages b p c q : ℕ) → IsRead pages b p c q → IsRead pages b (p + 1) c q
seen_later pages b p c q read = (read.0, ⊎_elim (λ less. inl less) (λ here. inr (here.0, omega (arith, here.1))) read.1)

unwrapped : (pages b p c q : ℕ) → IsRead pages b p c q → IsRead pages (b + 1) 0 c q
unwrapped pages b p c q read = (read.0, inl (⊎_elim (λ less. omega (arith, less)) (λ here. omega (arith, here.0)) read.1))

-- a page more without a value of the sector tells nothing more
tells_beside : (f : Flash) (pages b p s : ℕ) (k : Bool) → TellsValue f pages b p s k → ((m : ℕ) (bytes : List ℕ) → ¬ HasVersion f b p s m (Some bytes))
    → TellsValue f pages b (p + 1) s k
tells_beside f pages b p s true tells none = (tells.0, tells.1, tells.2, tells.3, seen_later pages b p tells.0 tells.1 tells.4, tells.5)
tells_beside f pages b p s false tells none = λ c q m bytes read e. ⊎_elim
    (λ old. tells c q m bytes old e)
    (λ here. none m bytes (here_has f pages b p c q s m (Some bytes) here e))
    (seen_next pages b p c q read)

tells_wrapped : (f : Flash) (pages b p s : ℕ) (k : Bool) → p + 1 ≡ pages → TellsValue f pages b (p + 1) s k → TellsValue f pages (b + 1) 0 s k
tells_wrapped f pages b p s true full tells =
    (tells.0, tells.1, tells.2, tells.3, unwrapped pages b (p + 1) tells.0 tells.1 tells.4, tells.5)
tells_wrapped f pages b p s false full tells = λ c q m bytes read e. tells c q m bytes (seen_wrap pages b p c q full read) e

pub values_wrap : (f : Flash) (pages b p : ℕ) (sectors : ℕ) (valued : List ℕ) → p + 1 ≡ pages
    → TellsValues f pages b (p + 1) sectors valued → TellsValues f pages (b + 1) 0 sectors valued
values_wrap f pages b p sectors valued full tells = λ s lt. tells_wrapped f pages b p s (is_valued valued s) full (tells s lt)

-- nothing is marked at first
pub same_words : (n i word : ℕ) → get_or (replicate n word) i word ≡ word
same_words zero i word = refl
same_words (suc n) zero word = refl
same_words (suc n) (suc i) word = same_words n i word

none_marked : (n s : ℕ) → is_valued (replicate n 0) s ≡ false
unfolding is_valued
none_marked n s = ap (λ (k : ℕ). k == 1) (ap (λ (w : ℕ). bit_at w (s % 64)) (same_words n (s / 64) 0) ∙ bit_at-zero (s % 64))

pub none_told : (f : Flash) (pages sectors n : ℕ) → TellsValues f pages 0 0 sectors (replicate n 0)
none_told f pages sectors n = λ s lt. subst (TellsValue f pages 0 0 s) (sym (none_marked n s))
    (λ c q m bytes read e. ⊎_elim (λ less. omega (arith, less)) (λ here. omega (arith, here.1)) read.1)

pub found_size : (gaps : List ℕ) (old new : List (Option Candidate)) (at : PageAddr) (stamp : Option Stamp) → IsFoundWith gaps old new at stamp
    → length new ≡ length old
found_size gaps old new at None is = ap length is
found_size gaps old new at (Some stamp) is = is.0

value_of : (v : Sector) → is_trim v ≡ false → (bytes : List ℕ) × (v ≡ Some bytes)
value_of None is = absurd (false≢true (sym is))
value_of (Some bytes) is = (bytes, refl)

trim_is : (bytes : List ℕ) (v : Sector) → is_trim v ≡ true → v ≡ Some bytes → ⊥
trim_is bytes None is same = some_none bytes (sym same)
trim_is bytes (Some other) is same = false≢true is

-- the marks with one page more
module _ (f : Flash) (pages b p : ℕ) (on : p < pages) (sectors : ℕ) (old new : List ℕ)
    (tells : TellsValues f pages b p sectors old) where
  unmarked : new ≡ old → ((s m : ℕ) (bytes : List ℕ) → ¬ HasVersion f b p s m (Some bytes)) → TellsValues f pages b (p + 1) sectors new
  unmarked same none = subst (TellsValues f pages b (p + 1) sectors) (sym same)
      (λ s lt. tells_beside f pages b p s (is_valued old s) (tells s lt) (none s))

  marked : (stamp : Stamp) (k : Bool) → stamp.is_trim ≡ k → IsStampOf f b p (Some stamp) → MarksAll old new stamp.extent → k ≡ false
      → TellsValues f pages b (p + 1) sectors new
  marked stamp k is matches marks untrimmed = λ s lt.
      let value = value_of matches.0 (sym matches.2 ∙ (is ∙ untrimmed)) in
      ⊎_elim
      (λ has. subst (TellsValue f pages b (p + 1) s) (sym (marks.covered s has)) (
        b,
        p,
        stamp.number,
        value.0,
        (on, inr (refl, omega arith)),
        subst (HasVersion f b p s stamp.number) value.1 (stamp.extent, matches.1, has),
      ))
      (λ out. subst (TellsValue f pages b (p + 1) s) (sym (marks.others s out))
      (tells_beside f pages b p s (is_valued old s) (tells s lt) (λ m bytes held.
      let same = (same_held stamp.extent stamp.number matches.0 held.0 m (Some bytes) (sym matches.1 ∙ held.1)).0 in
      out (subst (λ (e : Extent). Covers e s) (sym same) held.2))))
      (cases_covered stamp.extent s)

  noted_as : (stamp : Stamp) (k : Bool) → stamp.is_trim ≡ k → IsStampOf f b p (Some stamp)
      → (k ≡ true → new ≡ old) → (k ≡ false → MarksAll old new stamp.extent) → TellsValues f pages b (p + 1) sectors new
  noted_as stamp true is matches same marks = unmarked (same refl) (λ s m bytes held.
      trim_is bytes matches.0 (sym matches.2 ∙ is)
      (same_held stamp.extent stamp.number matches.0 held.0 m (Some bytes) (sym matches.1 ∙ held.1)).2)
  noted_as stamp false is matches same marks = marked stamp false is matches (marks refl) refl

  marks_of : (k : Bool) (extent : Extent) → MarksValues k old new extent → (k ≡ true → new ≡ old) × (k ≡ false → MarksAll old new extent)
  marks_of true extent marks = ((λ e. marks), (λ e. absurd (false≢true (sym e))))
  marks_of false extent marks = ((λ e. absurd (false≢true e)), (λ e. marks))

  pub values_next : (stamp : Option Stamp) → IsMarkedWith old new stamp → IsStampOf f b p stamp → TellsValues f pages b (p + 1) sectors new
  values_next None same none = unmarked same (λ s m bytes held. none held.0 m (Some bytes) held.1)
  values_next (Some stamp) marks matches =
      let either = marks_of stamp.is_trim stamp.extent marks in
      noted_as stamp stamp.is_trim refl matches either.0 either.1

-- what is known of the pages that are kept: they were found, and a page has a value of their sectors; no page has one of the others
pub record Keeps (f : Flash) (pages b p : ℕ) (kept : List (Option Candidate)) : Type 0 where
  pub best : (s : ℕ) (x : Candidate) → s < length kept → get_or kept s None ≡ Some x → IsBest f pages b p s (Some x)
  pub lone : (s : ℕ) (x : Candidate) → s < length kept → get_or kept s None ≡ Some x → IsLone f pages b p s (Some x)
  pub valued : (s : ℕ) (x : Candidate) → s < length kept → get_or kept s None ≡ Some x → HasValue f s
  pub none : (s : ℕ) → s < length kept → get_or kept s None ≡ None → HoldsNoValue f s

needed_some : (k : Bool) (found : Option Candidate) (x : Candidate) → needed_of k found ≡ Some x → (k ≡ true) × (found ≡ Some x)
needed_some true found x e = (refl, e)
needed_some false found x e = absurd (none-some x e)

needed_none : (k : Bool) (found : Option Candidate) → needed_of k found ≡ None → (k ≡ false) ⊎ (found ≡ None)
needed_none true found e = inr e
needed_none false found e = inl refl

pub kept_some : (valued : List ℕ) (found kept : List (Option Candidate)) → AreNeeded valued found kept → (s : ℕ) (x : Candidate) → s < length kept
    → get_or kept s None ≡ Some x → (is_valued valued s ≡ true) × (get_or found s None ≡ Some x)
kept_some valued found kept needed s x lt is = needed_some (is_valued valued s) (get_or found s None) x
    (sym (needed.1 s (omega (arith, lt, needed.0))) ∙ is)

module _ (f : Flash) (pages b p : ℕ) (valued : List ℕ) (found kept : List (Option Candidate)) (tells : TellsValues f pages b p (length found) valued)
    (needed : AreNeeded valued found kept) where
  -- nothing is kept of a sector that no page has a value of
  pub dropped : (s : ℕ) → s < length found → HoldsNoValue f s → get_or kept s None ≡ None
  dropped s lt none = ⊎_elim
      (λ is_true. let has = subst (TellsValue f pages b p s) is_true (tells s lt) in absurd (none has.0 has.1 has.2 has.3 has.5))
      (λ is_false. needed.1 s lt ∙ ap (λ (k : Bool). needed_of k (get_or found s None)) is_false)
      (cases_Bool (is_valued valued s))

  pub keeps : (below : ℕ) → FoundBefore f pages b p found below
      → ((d q : ℕ) (e : Extent) (m : ℕ) (v : Sector) → f d q ≡ Version e m v → IsRead pages b p d q) → Keeps f pages b p kept
  keeps below finds all = record {
    best = λ s x lt is. subst (IsBest f pages b p s) (kept_some valued found kept needed s x lt is).1 (finds.best s (omega (arith, lt, needed.0)));
    lone = λ s x lt is. subst (IsLone f pages b p s) (kept_some valued found kept needed s x lt is).1 (finds.lone s (omega (arith, lt, needed.0)));
    valued = λ s x lt is.
        let has = subst (TellsValue f pages b p s) (kept_some valued found kept needed s x lt is).0 (tells s (omega (arith, lt, needed.0))) in
        (has.0, has.1, has.2, has.3, has.5);
    none = λ s lt is d q m bytes e. let read = seen f pages b p all s d q m (Some bytes) e in ⊎_elim
        (λ is_false. let told : TellsValue f pages b p s false = subst (TellsValue f pages b p s) is_false (tells s (omega (arith, lt, needed.0))) in
        told d q m bytes read e)
        (λ nothing. let best : IsBest f pages b p s None = subst (IsBest f pages b p s) nothing (finds.best s (omega (arith, lt, needed.0))) in
        best d q m (Some bytes) read e)
        (needed_none (is_valued valued s) (get_or found s None) (sym (needed.1 s (omega (arith, lt, needed.0))) ∙ is));
  }

-- a sector is kept at the page that was found, or at its twin
module _ (f : Flash) (pages b p : ℕ) (kept : List (Option Candidate)) (are : Keeps f pages b p kept) where
  none_value : (s : ℕ) (c : Sector) → HoldsNoValue f s → RecoversSector f s c → c ≡ None
  none_value s None none reads = refl
  none_value s (Some bytes) none (inl shown) = absurd (none shown.0 shown.1 shown.2.number bytes shown.2.held)
  none_value s (Some bytes) none (inr other) = other.0

  kept_page : (s : ℕ) (c : Sector) (k : Option Candidate) (place : Option PageAddr) → s < length kept → get_or kept s None ≡ k
      → ((d q m : ℕ) (v : Sector) → HasVersion f d q s m v → IsRead pages b p d q) → RecoversSector f s c → IsEntryOf k place → IsMappedTo f s c place
  kept_page s c None place lt is all reads entry =
      let none = are.none s lt is in subst (IsMappedTo f s c) (sym entry) (none_value s c none reads, none)
  kept_page s c (Some x) place lt is all reads (inl entry) =
      let best = are.best s x lt is in
      subst (IsMappedTo f s c) (sym entry) (shows_best f pages b p s c x best all reads x.at best.0.0 best.0.1)
  kept_page s c (Some x) place lt is all reads (inr twin) =
      let best = are.best s x lt is in
      let held = best.2 twin.0 twin.1 in
      subst (IsMappedTo f s c) (sym twin.2) (shows_best f pages b p s c x best all reads twin.0 held.0 held.1)

  -- after all pages the layer's memory is that of the flash
  pub finished : (array : ℕ → Sector) (below : ℕ) (core : Core)
      → ((c q : ℕ) (e : Extent) (m : ℕ) (v : Sector) → IsRead pages b p c q → f c q ≡ Version e m v → m < below)
      → ((d q : ℕ) (e : Extent) (m : ℕ) (v : Sector) → f d q ≡ Version e m v → IsRead pages b p d q) → Recovers f (length kept) array
      → length core.map.items ≡ length kept
      → ((s : ℕ) → s < length kept → IsEntryOf (get_or kept s None) (get_or core.map.items s None)) → NoneOpen core.next_pages → core.next_number ≡ below
      → Represents f core array
  finished array below core numbers all recovers size entries closed number = record {
    mapped = λ s lt. let inside : s < length kept = omega (arith, lt, size) in
        kept_page s (array s) (get_or kept s None) (get_or core.map.items s None) inside refl (seen f pages b p all s) (recovers s inside) (entries s inside);
    numbers = λ c q s m d e. let below = numbers c q s m d (all c q s m d e) e in omega (arith, below, number);
    erased = λ at opened. absurd (closed at opened);
  }
