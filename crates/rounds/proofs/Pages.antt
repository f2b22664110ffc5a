-- Pages side by side: one more, and the one of an answer; the room for the answers of lines in two parts.
use Rattle.std.proofs.Common.{◌≡◌, ℕ, ◌+◌, List, [], ◌∷◌, ◌++◌, arith, zero, suc, ◌≤◌, All, Some, length, take, drop, refl, ap, ◌∙◌, subst}
use Rattle.trace.specs.declared.commands.Command.{Command}
use Rattle.rounds.specs.Answers.{space_of}
use Rattle.std.specs.Prelude.{slice_get}
use Rattle.std.proofs.lemmas.List.{drop-append-le, drop-drop, length-drop, length-take-le, take-append-le}
use Rattle.std.proofs.lemmas.List.Elements.{All-nil, All-cons}
use Rattle.rounds.specs.Lines.{Said}
use Rattle.rounds.specs.Pages.{bytes_of, bytes_in, said_from}
use Rattle.rounds.specs.declared.answer.Kind.TheVariants as kind
use Rattle.rounds.specs.declared.answer.Kind.{Kind}

pub space_of-append : (n : ℕ) (xs ys : List Command) → space_of n (xs ++ ys) ≡ space_of n xs + space_of n ys
space_of-append n [] ys = omega arith
space_of-append n (c ∷ xs) ys = let rest = space_of-append n xs ys in omega (arith, rest)

pub no_bytes : (n : ℕ) (k : Kind) → ¬ (k ≡ kind.Page) → bytes_of n k ≡ 0
no_bytes n kind.Page other = absurd (other refl)
no_bytes _ _ _ = refl

pub bytes_more : (n : ℕ) (kinds : List Kind) (k : Kind) → bytes_in n (kinds ++ k ∷ []) ≡ bytes_in n kinds + bytes_of n k
bytes_more n [] k = omega arith
bytes_more n (j ∷ kinds) k = let rest = bytes_more n kinds k in omega (arith, rest)

pub bytes_till : (n : ℕ) (kinds : List Kind) (i : ℕ) (k : Kind) → slice_get kinds i ≡ Some k
    → (bytes_in n (take (i + 1) kinds) ≡ bytes_in n (take i kinds) + bytes_of n k) × (bytes_in n (take (i + 1) kinds) ≤ bytes_in n kinds)
bytes_till n [] i k is = absurd (cc)
bytes_till n (j ∷ kinds) zero k is =
    let same : j ≡ k = cc in
    let here = ap (bytes_of n) same in
    (omega (arith, here), omega arith)
bytes_till n (j ∷ kinds) (suc i) k is =
    let on : suc (i + 1) ≡ suc i + 1 = omega arith in
    let rest = bytes_till n kinds i k is in
    let equal = rest.0 in
    let below = rest.1 in
    subst (λ m. (bytes_in n (take m (j ∷ kinds)) ≡ bytes_in n (take (suc i) (j ∷ kinds)) + bytes_of n k)
    × (bytes_in n (take m (j ∷ kinds)) ≤ bytes_in n (j ∷ kinds))) on
    (omega (arith, equal), omega (arith, below))

pub said_long : (n : ℕ) (kinds : List Kind) (bytes : List ℕ) → length (said_from n kinds bytes) ≡ length kinds
said_long n [] bytes = refl
said_long n (k ∷ kinds) bytes = ap suc (said_long n kinds (drop (bytes_of n k) bytes))

-- an answer more, with its page behind the others
pub said_more : (n : ℕ) (kinds : List Kind) (bytes : List ℕ) (k : Kind) (more : List ℕ) → length bytes ≡ bytes_in n kinds
    → said_from n (kinds ++ k ∷ []) (bytes ++ more) ≡ said_from n kinds bytes ++ record { kind = k; page = take (bytes_of n k) more } ∷ []
said_more n [] [] k more long = refl
said_more n [] (b ∷ bytes) k more long = absurd (omega arith)
said_more n (j ∷ kinds) bytes k more long =
    let within : bytes_of n j ≤ length bytes = omega arith in
    let fewer : length (drop (bytes_of n j) bytes) ≡ bytes_in n kinds = omega (arith, length-drop (bytes_of n j) bytes) in
    let rest = ap (said_from n (kinds ++ k ∷ [])) (drop-append-le (bytes_of n j) bytes more within)
    ∙ said_more n kinds (drop (bytes_of n j) bytes) k more fewer in
    let first = take-append-le (bytes_of n j) bytes more within in
    λ i. record { kind = j; page = first i } ∷ rest i

-- the answer at a place
pub said_at : (n : ℕ) (kinds : List Kind) (bytes : List ℕ) (i : ℕ) (k : Kind) → slice_get kinds i ≡ Some k
    → slice_get (said_from n kinds bytes) i ≡ Some (record { kind = k; page = take (bytes_of n k) (drop (bytes_in n (take i kinds)) bytes) })
said_at n [] bytes i k is = absurd (cc)
said_at n (j ∷ kinds) bytes zero k is =
    let same : j ≡ k = cc in
    ap (λ l. Some (record { kind = l; page = take (bytes_of n l) bytes })) same
said_at n (j ∷ kinds) bytes (suc i) k is =
    said_at n kinds (drop (bytes_of n j) bytes) i k is
    ∙ ap (λ l. Some (record { kind = k; page = take (bytes_of n k) l })) (drop-drop (bytes_in n (take i kinds)) (bytes_of n j) bytes)

-- a page that is told has its bytes
pub said_whole : (n : ℕ) (kinds : List Kind) (bytes : List ℕ) → length bytes ≡ bytes_in n kinds
    → All (λ (a : Said). a.kind ≡ kind.Page → length a.page ≡ n) (said_from n kinds bytes)
said_whole n [] bytes long = All-nil _
said_whole n (k ∷ kinds) bytes long =
    let fewer : length (drop (bytes_of n k) bytes) ≡ bytes_in n kinds = omega (arith, length-drop (bytes_of n k) bytes) in
    let size : length (take (bytes_of n k) bytes) ≡ bytes_of n k = length-take-le (bytes_of n k) bytes (omega arith) in
    let one : Said = record { kind = k; page = take (bytes_of n k) bytes } in
    let first : one.kind ≡ kind.Page → length one.page ≡ n = λ is. size ∙ ap (bytes_of n) is in
    All-cons (λ (a : Said). a.kind ≡ kind.Page → length a.page ≡ n) one (said_from n kinds (drop (bytes_of n k) bytes)) first
    (said_whole n kinds (drop (bytes_of n k) bytes) fewer)
