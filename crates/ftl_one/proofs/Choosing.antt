-- The smallest of the blocks' counts, by those below the place that is left out and those above it.
use Rattle.std.{specs.Prelude.min, proofs.Common.get_or-drop, proofs.Common.length-take, proofs.Common.length-drop}
use Rattle.std.proofs.Common.{◌≡◌, ◌≢◌, ◌⊎◌, inl, inr, ℕ, ◌+◌, ◌-◌, ◌<◌, ◌≤◌, List, length, get_or, take, drop, sym, ap, ◌∙◌, refl, subst, arith, get_or-take}
use Rattle.std.proofs.lemmas.Bool.{cases_eq, cases_lt, cases_order}
use Rattle.ftl_one.specs.Collections.{IsFewest, IsLeast, IsFirst}

-- one count more is looked at
pub IsLeast-keeps : (counts : List ℕ) (many least : ℕ) → IsLeast counts many least → least ≤ get_or counts many 0 → IsLeast counts (many + 1) least
IsLeast-keeps counts many least h no_less =
    record {
      low = λ k below. elim (cases_eq k many) [
        | inl e ↦ omega (arith, no_less, ap (λ (i : ℕ). get_or counts i 0) e)
        | inr apart ↦ h.low k (omega arith)
      ];
      found = elim h.found [ inl top ↦ inl top | inr one ↦ inr (one.0, omega (arith, one.1), one.2) ];
    }

pub IsLeast-takes : (counts : List ℕ) (many least : ℕ) → IsLeast counts many least → get_or counts many 0 ≤ least
    → IsLeast counts (many + 1) (get_or counts many 0)
IsLeast-takes counts many least h less =
    record {
      low = λ k below. elim (cases_eq k many) [
        | inl e ↦ omega (arith, ap (λ (i : ℕ). get_or counts i 0) e)
        | inr apart ↦ omega (arith, h.low k (omega arith), less)
      ];
      found = inr (many, omega arith, refl);
    }

pub IsLeast-more : (counts : List ℕ) (many least x smaller : ℕ) → IsLeast counts many least → x ≡ get_or counts many 0 → smaller ≡ min least x
    → IsLeast counts (many + 1) smaller
IsLeast-more counts many least x smaller h is e = elim (cases_lt x least) [
  | inl less ↦
      let same : smaller ≡ get_or counts many 0 = omega (arith, less, e, is) in
      subst (IsLeast counts (many + 1)) (sym same) (IsLeast-takes counts many least h (omega (arith, less, is)))
  | inr more ↦
      let same : smaller ≡ least = omega (arith, more, e) in
      subst (IsLeast counts (many + 1)) (sym same) (IsLeast-keeps counts many least h (omega (arith, more, is)))
]

-- the smaller of two is one of them
pub min_either : (a b smaller : ℕ) → smaller ≡ min a b → (smaller ≡ a) ⊎ (smaller ≡ b)
min_either a b smaller e = elim (cases_lt a b) [ inl less ↦ inl (omega (arith, less, e)) | inr more ↦ inr (omega (arith, more, e)) ]

module _ (counts : List ℕ) (left_out first second least : ℕ) (inside : left_out < length counts) (others : 2 ≤ length counts)
    (fits : (k : ℕ) → get_or counts k 0 ≤ 65535) (below : IsLeast (take left_out counts) (length (take left_out counts)) first)
    (above : IsLeast (drop (left_out + 1) counts) (length (drop (left_out + 1) counts)) second) (no_more : (least ≤ first) × (least ≤ second))
    (one_of : (least ≡ first) ⊎ (least ≡ second)) where
  -- a count above the place that is left out
  at_above : (k : ℕ) → left_out < k → get_or (drop (left_out + 1) counts) (k - (left_out + 1)) 0 ≡ get_or counts k 0
  at_above k high =
      let sum : left_out + 1 + (k - (left_out + 1)) ≡ k = omega arith in
      get_or-drop (left_out + 1) counts (k - (left_out + 1)) 0 ∙ ap (λ (i : ℕ). get_or counts i 0) sum

  low : (k : ℕ) → k < length counts → k ≢ left_out → least ≤ get_or counts k 0
  low k within apart = elim (cases_order k left_out) [
    | inl e ↦ absurd (apart e)
    | inr o ↦ elim o [
      | inl less ↦ omega (arith, no_more.0, below.low k (omega (arith, length-take left_out counts)), get_or-take left_out counts k 0 less)
      | inr more ↦ omega (arith, no_more.1, above.low (k - (left_out + 1)) (omega (arith, length-drop (left_out + 1) counts)), at_above k more)
    ]
  ]

  -- some other place has the least count
  place_of_top : least ≡ 65535 → (k : ℕ) × (k < length counts) × (k ≢ left_out) × (get_or counts k 0 ≡ least)
  place_of_top top = elim (cases_eq left_out 0) [
    | inl e ↦ (1, omega arith, (λ h. omega (arith, h, e)), omega (arith, top, fits 1, low 1 (omega arith) (λ h. omega (arith, h, e))))
    | inr apart ↦ (0, omega arith, (λ h. apart (sym h)), omega (arith, top, fits 0, low 0 (omega arith) (λ h. apart (sym h))))
  ]

  place_below : least ≡ first → (k : ℕ) × (k < length counts) × (k ≢ left_out) × (get_or counts k 0 ≡ least)
  place_below e = elim below.found [
    | inl top ↦ place_of_top (e ∙ top)
    | inr one ↦
        let short : one.0 < left_out = omega (arith, one.1, length-take left_out counts) in
        (one.0, omega (arith, short), (λ h. omega (arith, h, short)), sym (get_or-take left_out counts one.0 0 short) ∙ (one.2 ∙ sym e))
  ]

  place_above : least ≡ second → (k : ℕ) × (k < length counts) × (k ≢ left_out) × (get_or counts k 0 ≡ least)
  place_above e = elim above.found [
    | inl top ↦ place_of_top (e ∙ top)
    | inr one ↦
        let short : left_out + 1 + one.0 < length counts = omega (arith, one.1, length-drop (left_out + 1) counts) in
        (left_out + 1 + one.0, short, (λ h. omega (arith, h)), sym (get_or-drop (left_out + 1) counts one.0 0) ∙ (one.2 ∙ sym e))
  ]

  stands_somewhere : ((k : ℕ) → k < length counts → k ≢ left_out → get_or counts k 0 ≢ least) → ⊥
  stands_somewhere never = elim one_of [
    | inl e ↦ let p = place_below e in never p.0 p.1 p.2 p.3
    | inr e ↦ let p = place_above e in never p.0 p.1 p.2 p.3
  ]

  fewest_at : (p : ℕ) → p < length counts → p ≢ left_out → get_or counts p 0 ≡ least → ((k : ℕ) → k < p → k ≢ left_out → get_or counts k 0 ≢ least)
      → IsFewest counts left_out p
  fewest_at p within apart is before =
      record {
        within = within;
        apart = apart;
        least = λ k short other. omega (arith, is, low k short other);
        lowest = λ k short other. let no = before k short other in omega (arith, is, low k (omega arith) other, no);
      }

  -- the first place below that has it is the one
  pub fewest_below : (p : ℕ) → p < length (take left_out counts) → IsFirst (take left_out counts) least p → IsFewest counts left_out p
  fewest_below p short is =
      let under : p < left_out = omega (arith, short, length-take left_out counts) in
      fewest_at p (omega (arith, under)) (λ h. omega (arith, h, under)) (sym (get_or-take left_out counts p 0 under) ∙ is.stands short)
      (λ k less other h. is.before k less (get_or-take left_out counts k 0 (omega arith) ∙ h))

  -- and where there is none, the first place above
  pub fewest_above : (p q : ℕ) → length (take left_out counts) ≤ p → IsFirst (take left_out counts) least p
      → IsFirst (drop (left_out + 1) counts) least q → IsFewest counts left_out (left_out + 1 + q)
  fewest_above p q none is_p is_q =
      let before : (k : ℕ) → k < left_out + 1 + q → k ≢ left_out → get_or counts k 0 ≢ least = λ k less other h. elim (cases_order k left_out) [
        | inl e ↦ other e
        | inr o ↦ elim o [
          | inl under ↦ is_p.before k (omega (arith, none, under, length-take left_out counts)) (get_or-take left_out counts k 0 under ∙ h)
          | inr over ↦ is_q.before (k - (left_out + 1)) (omega arith) (at_above k over ∙ h)
        ]
      ] in
      elim (cases_lt q (length (drop (left_out + 1) counts))) [
        | inl short ↦
            fewest_at (left_out + 1 + q) (omega (arith, short, length-drop (left_out + 1) counts)) (λ h. omega (arith, h))
            (sym (get_or-drop (left_out + 1) counts q 0) ∙ is_q.stands short) before
        | inr past ↦ absurd (stands_somewhere (λ k within other. before k (omega (arith, past, within, length-drop (left_out + 1) counts)) other))
      ]
