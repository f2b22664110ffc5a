-- What a history shows, after a step of the layer and a change.
use Rattle.std.proofs.Common.{◌≡◌, ◌≢◌, ◌<◌, ◌≤◌, ◌+◌, ◌==◌, ℕ, zero, suc, Bool, true, false}
use Rattle.std.proofs.Common.{List, [], ◌∷◌, Some, None, Result, Ok, Err, IsErr, MatchResult, ◌++◌, if◌then◌else◌, nat_lt}
use Rattle.std.proofs.Common.{sym, refl, ap, ◌∙◌, subst, arith, eq-eqb, ne_eqb}
use Rattle.std.proofs.lemmas.Bool.{ltb-true, ltb-false}
use mathlib.Core.Logic.{dite}
use native.Mathlib.Decide.{ℕ_discrete}
use Rattle.geometry.specs.Sectors.{Sector}
use Rattle.version_map.specs.History.{version_after, cleared_after}
use Rattle.shared_nand.specs.Reads.{ReadsVersion, ReadsValue}
use Rattle.shared_nand.specs.Shown.{value_numbered, sector_shown, ShowsArray, with_value, with_trimmed, AreGivenBelow, KeepsBytes}

-- a sector's version is one of the history
pub version_below : (next : ℕ) (h : List (ℕ × ℕ)) (s : ℕ) → AreGivenBelow next h → 0 < version_after h s → version_after h s < next
version_below next [] s given some = absurd (omega (arith, some))
version_below next (c ∷ rest) s given some = dite (ℕ_discrete s c.0)
    (λ (e : s ≡ c.0).
    let is : version_after (c ∷ rest) s ≡ c.1 = ap (λ b. if b then c.1 else version_after rest s) (eq-eqb s c.0 e) in
    subst (λ n. n < next) (sym is) (given 0 (0, 0) (omega arith) (subst (λ n. 0 < n) is some)))
    (λ (e : s ≢ c.0).
    let is : version_after (c ∷ rest) s ≡ version_after rest s = ap (λ b. if b then c.1 else version_after rest s) (ne_eqb s c.0 e) in
    subst (λ n. n < next) (sym is) (version_below next rest s (λ k d low. given (suc k) d (omega (arith, low))) (subst (λ n. 0 < n) is some)))

-- a step of the layer that gives numbers from the next one on
module _ (next : ℕ) (a b : ℕ → List ℕ) (keeps : KeepsBytes next a b) where
  value_kept : (n : ℕ) → (0 < n → n < next) → value_numbered b n ≡ value_numbered a n
  value_kept zero low = refl
  value_kept (suc n) low = ap Some (keeps (suc n) (low (omega arith)))

  pub shows_kept : (h : List (ℕ × ℕ)) (n : ℕ) (array : ℕ → Sector) → AreGivenBelow next h → ShowsArray n a h array → ShowsArray n b h array
  shows_kept h n array given shows s low = value_kept (version_after h s) (version_below next h s given) ∙ shows s low

-- a change of one sector
either : (bytes : ℕ → List ℕ) (t : Bool) (n m : ℕ) (v w : Sector) → value_numbered bytes n ≡ v → value_numbered bytes m ≡ w
    → value_numbered bytes (if t then n else m) ≡ (if t then v else w)
either bytes true n m v w p q = p
either bytes false n m v w p q = q

pub value_some : (bytes : ℕ → List ℕ) (n : ℕ) → 0 < n → value_numbered bytes n ≡ Some (bytes n)
value_some bytes zero low = absurd (omega (arith, low))
value_some bytes (suc n) low = refl

pub shows_change : (bytes : ℕ → List ℕ) (h : List (ℕ × ℕ)) (m : ℕ) (array : ℕ → Sector) (s n : ℕ) (value : Sector) → value_numbered bytes n ≡ value
    → ShowsArray m bytes h array → ShowsArray m bytes ((s, n) ∷ h) (with_value array s value)
shows_change bytes h m array s n value is shows k low = either bytes (k == s) n (version_after h k) value (array k) is (shows k low)

-- a trim
module _ (h : List (ℕ × ℕ)) (first k : ℕ) where
  pub cleared_before : (count : ℕ) → k < first → version_after (cleared_after h first count) k ≡ version_after h k
  cleared_before zero low = refl
  cleared_before (suc count) low =
      ap (λ b. if b then 0 else version_after (cleared_after h first count) k) (ne_eqb k (first + count) (λ e. absurd (omega (arith, low, e))))
      ∙ cleared_before count low

  pub cleared_behind : (count : ℕ) → first + count ≤ k → version_after (cleared_after h first count) k ≡ version_after h k
  cleared_behind zero high = refl
  cleared_behind (suc count) high =
      ap (λ b. if b then 0 else version_after (cleared_after h first count) k) (ne_eqb k (first + count) (λ e. absurd (omega (arith, high, e))))
      ∙ cleared_behind count (omega (arith, high))

  pub cleared_within : (count : ℕ) → first ≤ k → k < first + count → version_after (cleared_after h first count) k ≡ 0
  cleared_within zero low high = absurd (omega (arith, low, high))
  cleared_within (suc count) low high = dite (ℕ_discrete k (first + count))
      (λ (e : k ≡ first + count). ap (λ b. if b then 0 else version_after (cleared_after h first count) k) (eq-eqb k (first + count) e))
      (λ (e : k ≢ first + count).
      ap (λ b. if b then 0 else version_after (cleared_after h first count) k) (ne_eqb k (first + count) e)
      ∙ cleared_within count low (omega (arith, high, e)))

one_of_three : (t u : Bool) (r x y : Sector) → (t ≡ true → r ≡ x) → (t ≡ false → u ≡ true → r ≡ y) → (t ≡ false → u ≡ false → r ≡ x)
    → r ≡ (if t then x else if u then y else x)
one_of_three true u r x y before within behind = before refl
one_of_three false true r x y before within behind = within refl refl
one_of_three false false r x y before within behind = behind refl refl

pub shows_trim : (bytes : ℕ → List ℕ) (h : List (ℕ × ℕ)) (m : ℕ) (array : ℕ → Sector) (first count : ℕ) → ShowsArray m bytes h array
    → ShowsArray m bytes (cleared_after h first count) (with_trimmed array first count)
shows_trim bytes h m array first count shows k low = one_of_three (nat_lt k first) (nat_lt k (first + count)) _ (array k) None
    (λ e. ap (value_numbered bytes) (cleared_before h first k count (ltb-true k first e)) ∙ shows k low)
    (λ e f. ap (value_numbered bytes) (cleared_within h first k count (ltb-false k first e) (ltb-true k (first + count) f)))
    (λ e f. ap (value_numbered bytes) (cleared_behind h first k count (ltb-false k (first + count) f)) ∙ shows k low)

given_one : (next : ℕ) (h : List (ℕ × ℕ)) (c : ℕ × ℕ) → AreGivenBelow next h → (0 < c.1 → c.1 < next) → AreGivenBelow next (c ∷ h)
given_one next h c given low zero d lower some = low some
given_one next h c given low (suc k) d lower some = given k d (omega (arith, lower)) some

pub given_cleared : (next : ℕ) (h : List (ℕ × ℕ)) (first count : ℕ) → AreGivenBelow next h → AreGivenBelow next (cleared_after h first count)
given_cleared next h first zero given = given
given_cleared next h first (suc count) given =
    given_one next (cleared_after h first count) (first + count, 0) (given_cleared next h first count given) (λ low. absurd (omega (arith, low)))

pub given_later : (next later : ℕ) (h : List (ℕ × ℕ)) → next ≤ later → AreGivenBelow next h → AreGivenBelow later h
given_later next later h up given k d lower some = let low = given k d lower some in omega (arith, low, up)

-- what a token tells is the sector's value after the history
pub reads_value : {T : Type 0} (tells : T → ℕ → List ℕ → Type 0) (next : ℕ) (bytes : ℕ → List ℕ) (h : List (ℕ × ℕ)) → AreGivenBelow next h
    → (token : T) → ((n : ℕ) (b : List ℕ) → n < next → tells token n b → b ≡ bytes n) → (s : ℕ) (out : List ℕ)
    → ReadsVersion tells (version_after h s) (Some token) out → ReadsValue (sector_shown bytes h s) (Some token) out
reads_value tells next bytes h given token knows s out (some, told) =
    subst (λ (v : Sector). ReadsValue v (Some token) out) (sym (value_some bytes (version_after h s) some))
    (knows (version_after h s) out (version_below next h s given some) told)

-- a part of a history has no other numbers
pub given_part : (next : ℕ) (newer h : List (ℕ × ℕ)) → AreGivenBelow next (newer ++ h) → AreGivenBelow next h
given_part next [] h given = given
given_part next (c ∷ newer) h given = given_part next newer h (λ k d lower. given (suc k) d (omega (arith, lower)))

pub at_error : {A E : Type 0} (P Q : Type 0) (r : Result A E) → IsErr r → Q → MatchResult r (λ _. P) (λ _. Q)
at_error P Q (Ok x) e q = let f : false ≡ true = e in cc
at_error P Q (Err x) e q = q
