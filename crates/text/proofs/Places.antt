-- Texts put at places of one buffer, one after another.
use Rattle.std.proofs.Common.{◌≡◌, ℕ, ◌+◌, ◌<◌, ◌≤◌, List, [], ◌∷◌, ◌++◌, length, set, take, ap, sym, ◌∙◌, arith, append_assoc}
use Rattle.std.proofs.Common.{length-set, length-take-le, take-add, take-take, take_at, drop_at, subst}
use Rattle.std.proofs.lemmas.{List.take_more_set, Simd.take_more_put_chunk, Simd.length-put_chunk}
use Rattle.std.specs.{Fmt.decimal}
use lib.Lanes.{put_chunk}
use Rattle.text.specs.Putting.{PutsText}

-- a second text begins where the first one ended
pub Puts-then : {a b c xs ys : List ℕ} {i j k : ℕ} → PutsText a b i xs j → PutsText b c j ys k → PutsText a c i (xs ++ ys) k
Puts-then {a} {b} {c} {xs} {ys} {i} p q =
    record { bytes = q.bytes ∙ ap (λ l. l ++ ys) p.bytes ∙ append_assoc (take i a) xs ys; within = q.within; len = q.len ∙ p.len }

-- one byte
pub Puts-byte : (a : List ℕ) (i y : ℕ) → i < length a → PutsText a (set a i y) i (y ∷ []) (i + 1)
Puts-byte a i y h =
    let same = length-set a i y in
    record { bytes = take_more_set a i y h; within = omega arith; len = same }

-- of a text only the first n bytes count
pub Puts-less : {a b xs : List ℕ} {i j : ℕ} (n : ℕ) → i ≤ length a → i + n ≤ j → PutsText a b i xs j → PutsText a b i (take n xs) (i + n)
Puts-less {a} {b} {xs} {i} {j} n within few p =
    let front = length-take-le i a within in
    let inside = p.within in
    record {
      bytes = sym (take-take (i + n) j b few) ∙ ap (take (i + n)) p.bytes ∙ take-add i n (take i a ++ xs)
          ∙ (λ k. take_at (take i a) xs i front k ++ take n (drop_at (take i a) xs i front k));
      within = omega arith;
      len = p.len;
    }

-- bytes that are stored at once
pub Puts-store : (a ys : List ℕ) (i n : ℕ) → length ys ≡ n → i + n ≤ length a → PutsText a (put_chunk i a ys) i ys (i + n)
Puts-store a ys i n long fits =
    let same = length-put_chunk i a ys in
    record { bytes = take_more_put_chunk i a ys (i + n) (omega arith) fits; within = omega arith; len = same }

-- a text with other words for it
pub Puts-as : {a b xs ys : List ℕ} {i j : ℕ} → xs ≡ ys → PutsText a b i xs j → PutsText a b i ys j
Puts-as {a} {b} {xs} {ys} {i} {j} e p = subst (λ (l : List ℕ). PutsText a b i l j) e p

-- a second text in two parts
pub Puts-on : {a b c xs : List ℕ} {i j k : ℕ} (ys zs : List ℕ) → PutsText a b i xs j → PutsText b c j (ys ++ zs) k → PutsText a c i (xs ++ ys ++ zs) k
Puts-on {a} {b} {c} {xs} ys zs p q = Puts-as (sym (append_assoc xs ys zs)) (Puts-then p q)

-- a number and the byte behind it
pub Puts-number : {a b c xs : List ℕ} {i j k n m : ℕ} (end : ℕ) → n ≡ m → PutsText a b i xs j → PutsText b c j (decimal n ++ end ∷ []) k
    → PutsText a c i (xs ++ decimal m ++ end ∷ []) k
Puts-number {a} {b} {c} {xs} {i} {j} {k} {n} {m} end same p q = Puts-on (decimal m) (end ∷ []) p (Puts-as (ap (λ (r : ℕ). decimal r ++ end ∷ []) same) q)

pub first_number : {a b : List ℕ} {i j n m : ℕ} (end : ℕ) → n ≡ m → PutsText a b i (decimal n ++ end ∷ []) j → PutsText a b i (decimal m ++ end ∷ []) j
first_number end same p = Puts-as (ap (λ (r : ℕ). decimal r ++ end ∷ []) same) p
