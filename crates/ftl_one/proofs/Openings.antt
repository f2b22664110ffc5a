-- A new layer: the last block is the spare, the others are free, and none has a page.
use Rattle.std.proofs.Common.{◌≡◌, inl, inr, ℕ, ◌+◌, ◌<◌, Bool, false, List, [], ◌∷◌, ◌++◌, length, get_or, set, replicate, None, Some, sym, ap, ◌∙◌, subst}
use Rattle.std.proofs.{Common.arith, lemmas.Bool.cases_order}
use Rattle.std.proofs.lemmas.List.{length-replicate, get_or-replicate, get_or_append_left, get_or_push, get_or_past, set_at, replicate_more, length_push}
use Rattle.geometry.specs.{declared.geometry.Geometry.Geometry, Geometry.blocks_of}
use Rattle.ftl_one.specs.declared.role.Role.{Role, TheVariants.Free, TheVariants.Open, TheVariants.Closed, TheVariants.Spare, TheVariants.Retired}
use Rattle.ftl_one.specs.{declared.store.Store.Store, Stock.Block, Stock.Entry, Stock.unused, Store.entries_of, Store.IsNew, Lawful.block_in, Lawful.blocks_in}
use Rattle.ftl_one.{specs.Stock.is_retired, specs.Lawful.IsLawful, specs.Lawful.KnowsSpare, specs.Lawful.role_in, proofs.Blocks.table_is}

-- the roles of a new layer with n free blocks
abbrev pub roles_new : ℕ → List Role
roles_new n = replicate n Free ++ Spare ∷ []

pub roles_new-set : (n : ℕ) → set (replicate (n + 1) Free) n Spare ≡ roles_new n
roles_new-set n = ap (λ (xs : List Role). set xs n Spare) (sym (replicate_more n Free)) ∙ set_at (replicate n Free) Free [] Spare n (length-replicate n Free)

pub length-roles_new : (n : ℕ) → length (roles_new n) ≡ n + 1
length-roles_new n = length_push (replicate n Free) Spare ∙ ap (λ (k : ℕ). k + 1) (length-replicate n Free)

free-below : (n k : ℕ) → k < n → role_in (roles_new n) k ≡ Free
free-below n k low = get_or_append_left (replicate n Free) (Spare ∷ []) Retired k (omega (arith, low, length-replicate n Free))
    ∙ get_or-replicate n k Free Retired low

spare-last : (n : ℕ) → role_in (roles_new n) n ≡ Spare
spare-last n = get_or_push (replicate n Free) Spare Retired n (length-replicate n Free)

past : (n k : ℕ) → n < k → role_in (roles_new n) k ≡ Retired
past n k high = get_or_past (roles_new n) k Retired (omega (arith, high, length-roles_new n))

-- what holds of each role
each : (n : ℕ) (P : Role → Type 0) → P Free → P Spare → P Retired → (k : ℕ) → P (role_in (roles_new n) k)
each n P free spare retired k = elim (cases_order k n) [
  | inl e ↦ subst P (sym (ap (role_in (roles_new n)) e ∙ spare-last n)) spare
  | inr o ↦ elim o [ inl low ↦ subst P (sym (free-below n k low)) free | inr high ↦ subst P (sym (past n k high)) retired ]
]

free≢spare : Free ≡ Spare → ⊥
free≢spare h = cc

retired≢spare : Retired ≡ Spare → ⊥
retired≢spare h = cc

only_spare : (n k : ℕ) → role_in (roles_new n) k ≡ Spare → k ≡ n
only_spare n k is = elim (cases_order k n) [
  | inl e ↦ e
  | inr o ↦ elim o [ inl low ↦ absurd (free≢spare (sym (free-below n k low) ∙ is)) | inr high ↦ absurd (retired≢spare (sym (past n k high) ∙ is)) ]
]

pub lawful-new : (n pages : ℕ) (size : ℕ → ℕ) (retired : ℕ → Bool) → ((b : ℕ) → b < n + 1 → size b ≡ 0) → ((b : ℕ) → b < n + 1 → retired b ≡ false)
    → IsLawful (n + 1) pages size retired (role_in (roles_new n)) None
lawful-new n pages size retired empty usable =
    record {
      open_is = λ b is. absurd (each n (λ r. r ≡ Open → ⊥) (λ h. a h) (λ h. c h) (λ h. d h) b is);
      open_at = λ b e. absurd (none_some b e);
      room = λ b is. absurd (each n (λ r. r ≡ Open → ⊥) (λ h. a h) (λ h. c h) (λ h. d h) b is);
      full = λ b is. absurd (each n (λ r. r ≡ Closed → ⊥) (λ h. a2 h) (λ h. c2 h) (λ h. d2 h) b is);
      unused = λ b low off. empty b low;
      usable = λ b low. usable b low ∙ elim (cases_order b n) [
        | inl e ↦ ap is_retired (sym (ap (role_in (roles_new n)) e ∙ spare-last n))
        | inr o ↦ elim o [ inl below ↦ ap is_retired (sym (free-below n b below)) | inr high ↦ absurd (omega arith) ]
      ];
      one_spare = λ b k first second. only_spare n b first ∙ sym (only_spare n k second);
      spare_last = λ b k low first second. elim (cases_order k n) [
        | inl e ↦ retired≢spare (sym second ∙ (ap (role_in (roles_new n)) e ∙ spare-last n))
        | inr o ↦ elim o [ inl below ↦ free_retired (sym (free-below n k below) ∙ second) | inr high ↦ omega (arith, high, low) ]
      ];
      outside = λ b high. past n b (omega arith);
    }
  where
    a : Free ≡ Open → ⊥
    a h = cc

    c : Spare ≡ Open → ⊥
    c h = cc

    d : Retired ≡ Open → ⊥
    d h = cc

    a2 : Free ≡ Closed → ⊥
    a2 h = cc

    c2 : Spare ≡ Closed → ⊥
    c2 h = cc

    d2 : Retired ≡ Closed → ⊥
    d2 h = cc

    free_retired : Free ≡ Retired → ⊥
    free_retired h = cc

    none_some : (b : ℕ) → None ≡ Some b → ⊥
    none_some b h = cc

-- the last block is the spare
pub spare_new : (n : ℕ) → KnowsSpare (role_in (roles_new n)) (Some n)
spare_new n =
    record { spare_is = λ b is. ap Some (sym (only_spare n b is)); spare_at = λ b e. ap (role_in (roles_new n)) (sym (some_same b e)) ∙ spare-last n }
  where
    some_same : (b : ℕ) → Some n ≡ Some b → n ≡ b
    some_same b h = cc

-- the blocks of a new layer
pub blocks_new : (s : Store) (g : Geometry) (n : ℕ) → blocks_of g ≡ n + 1 → IsNew s g
    → blocks_in s (roles_new n) ≡ replicate n (unused Free) ++ unused Spare ∷ []
unfolding blocks_in
blocks_new s g n size new =
    let xs : List Block = replicate n (unused Free) ++ unused Spare ∷ [] in
    let d : Block = unused Retired in
    table_is (block_in s (roles_new n)) (length (roles_new n)) xs d
    (length_push (replicate n (unused Free)) (unused Spare) ∙ (ap (λ (k : ℕ). k + 1) (length-replicate n (unused Free)) ∙ sym (length-roles_new n)))
    (λ k low.
    let within : k < blocks_of g = omega (arith, low, size, length-roles_new n) in
    let by : Role → ℕ → List Entry → Block = λ r e es. record { role = r; erases = e; entries = es } in
    let parts : block_in s (roles_new n) k ≡ unused (role_in (roles_new n) k) =
    ap (λ (e : ℕ). by (role_in (roles_new n) k) e (entries_of s k)) (new.erases k within) ∙ ap (by (role_in (roles_new n) k) 0) (new.entries k within) in
    elim (cases_order k n) [
      | inl e ↦ parts ∙ (ap unused (ap (role_in (roles_new n)) e ∙ spare-last n)
          ∙ sym (ap (λ (i : ℕ). get_or xs i d) e ∙ get_or_push (replicate n (unused Free)) (unused Spare) d n (length-replicate n (unused Free))))
      | inr o ↦ elim o [
        | inl below ↦ parts ∙ (ap unused (free-below n k below)
            ∙ sym (get_or_append_left (replicate n (unused Free)) (unused Spare ∷ []) d k (omega (arith, below, length-replicate n (unused Free)))
            ∙ get_or-replicate n k (unused Free) d below))
        | inr high ↦ absurd (omega (arith, high, low, length-roles_new n))
      ]
    ])
