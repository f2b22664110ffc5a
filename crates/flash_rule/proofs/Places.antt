-- Each word of the table has one place, so a change of one word changes the map, the pins or the pages at one point.
use Rattle.flash_rule.proofs.Words.{◌≡◌, ◌≢◌, ℕ, zero, suc, ◌+◌, ◌*◌, ◌<◌, ◌≤◌, List, [], ◌∷◌, Option, set, sym, refl, ap, ◌∙◌, subst, arith, length-set}
use Rattle.flash_rule.proofs.Words.{suc-mul, get_or, get_or-set_same, get_or-set_other, dite, dec_lt, Numbers, pin_index, page_index, pin_word, MapWord}
use Rattle.flash_rule.proofs.{Words.PinWord, Words.put, Words.put_word, Words.sector_word, Words.Fits, Points.put_all}
use Rattle.std.proofs.Common.{mul-le-mul_right}
use Rattle.geometry.specs.Limits.{table_words_of}

-- rows of one length don't overlap
row_apart : (x y n i j : ℕ) → x < y → i < n → ¬ (x * n + i ≡ y * n + j)
row_apart x y n i j less small same = let m : suc x * n ≤ y * n = mul-le-mul_right n less in let e = suc-mul x n in absurd (omega arith)

pub row_same : (x y n i j : ℕ) → i < n → j < n → x * n + i ≡ y * n + j → (x ≡ y) × (i ≡ j)
row_same x y n i j low high same =
    dite (dec_lt x y)
    (λ less. absurd (row_apart x y n i j less low same))
    (λ more. dite (dec_lt y x) (λ less. absurd (row_apart y x n j i less high (sym same)))
    (λ fewer. let e : x ≡ y = omega arith in let f : x * n ≡ y * n = ap (λ k. k * n) e in (e, omega arith)))

-- the place of a page word tells block, page and word
pub page_same : (z : Numbers) (b p i c q j : ℕ) → p < z.pages → q < z.pages → i ≤ z.words → j ≤ z.words → page_index z b p + i ≡ page_index z c q + j
    → (b ≡ c) × (p ≡ q) × (i ≡ j)
page_same z b p i c q j p_low q_low i_low j_low same =
    let r = row_same (b * z.pages + p) (c * z.pages + q) (z.words + 1) i j (omega arith) (omega arith) (omega arith) in
    let t = row_same b c z.pages p q p_low q_low r.0 in (t.0, t.1, r.1)

-- rows up to a bound stay within it
pub row_within : (x y n i : ℕ) → x < y → i < n → x * n + i < y * n
row_within x y n i less small = let m : suc x * n ≤ y * n = mul-le-mul_right n less in let e = suc-mul x n in omega arith

pub pin_within : (z : Numbers) (b : ℕ) → b < z.blocks → pin_index z b < table_words_of z.blocks z.pages z.words z.sectors
pin_within z b low = omega arith

pub page_within : (z : Numbers) (b p i : ℕ) → b < z.blocks → p < z.pages → i ≤ z.words
    → page_index z b p + i < table_words_of z.blocks z.pages z.words z.sectors
page_within z b p i b_low p_low i_low = grind arith

module _ (z : Numbers) (m : ℕ → Option MapWord) (q : ℕ → PinWord) (r : ℕ → ℕ → ℕ → ℕ) (ws : List ℕ) (fits : Fits z m q r ws) where
  at_else : (k x j : ℕ) → j ≢ k → get_or (set ws k x) j 0 ≡ get_or ws j 0
  at_else k x j apart = get_or-set_other ws k j x 0 apart

  at_here : (k x : ℕ) → k < table_words_of z.blocks z.pages z.words z.sectors → get_or (set ws k x) k 0 ≡ x
  at_here k x low = let size = fits.size in get_or-set_same ws k x 0 (omega arith)

  -- a load changes nothing
  pub fits_load : (k : ℕ) → k < table_words_of z.blocks z.pages z.words z.sectors → Fits z m q r (set ws k (get_or ws k 0))
  fits_load k low = subst (λ l. Fits z m q r l) (sym (set_same ws k)) fits where
    set_same : (l : List ℕ) (k : ℕ) → set l k (get_or l k 0) ≡ l
    set_same [] k = refl
    set_same (x ∷ xs) zero = refl
    set_same (x ∷ xs) (suc k) = ap (λ l. x ∷ l) (set_same xs k)

  -- a pin word
  pub fits_pin : (b : ℕ) (x : PinWord) → b < z.blocks → Fits z m (put q b x) r (set ws (pin_index z b) (pin_word x))
  fits_pin b x low =
      let k = pin_index z b in
      let n = pin_word x in
      record {
        size = length-set ws k n ∙ fits.size;
        sectors = λ s below. at_else k n s (λ e. absurd (omega arith)) ∙ fits.sectors s below;
        blocks = grind (arith, put_all, at_here, pin_within, at_else, fits);
        pages = λ c p i c_low p_low i_low. at_else k n (page_index z c p + i) (λ e. absurd (omega arith)) ∙ fits.pages c p i c_low p_low i_low;
      }

  -- a map word
  pub fits_map : (s : ℕ) (x : Option MapWord) → s < z.sectors → Fits z (put m s x) q r (set ws s (sector_word x))
  fits_map s x low =
      let n = sector_word x in
      record {
        size = length-set ws s n ∙ fits.size;
        sectors = grind (arith, put_all, at_here, at_else, fits);
        blocks = λ c below. at_else s n (pin_index z c) (λ e. absurd (omega arith)) ∙ fits.blocks c below;
        pages = λ c p i c_low p_low i_low. at_else s n (page_index z c p + i) (λ e. absurd (omega arith)) ∙ fits.pages c p i c_low p_low i_low;
      }

  -- a page word
  pub fits_page : (b p i x : ℕ) → b < z.blocks → p < z.pages → i ≤ z.words → Fits z m q (put_word r b p i x) (set ws (page_index z b p + i) x)
  fits_page b p i x b_low p_low i_low =
      let k = page_index z b p + i in
      record {
        size = length-set ws k x ∙ fits.size;
        sectors = λ s below. at_else k x s (λ e. absurd (omega arith)) ∙ fits.sectors s below;
        blocks = λ c below. at_else k x (pin_index z c) (λ e. absurd (omega arith)) ∙ fits.blocks c below;
        pages = λ c d j c_low d_low j_low. put_all r b (put (r b) p (put (r b p) i x))
            (λ c f. c < z.blocks → get_or (set ws k x) (page_index z c d + j) 0 ≡ f d j)
            (λ h. put_all (r b) p (put (r b p) i x) (λ d f. d < z.pages → get_or (set ws k x) (page_index z b d + j) 0 ≡ f j)
            (λ h. put_all (r b p) i x (λ j y. j ≤ z.words → get_or (set ws k x) (page_index z b p + j) 0 ≡ y)
            (λ h. at_here k x (page_within z b p i b_low p_low i_low))
            (λ j apart h. at_else k x (page_index z b p + j) (λ e. apart (page_same z b p j b p i p_low p_low h i_low e).2)
            ∙ fits.pages b p j b_low p_low h) j j_low)
            (λ d apart h. at_else k x (page_index z b d + j) (λ e. apart (page_same z b d j b p i h p_low j_low i_low e).1)
            ∙ fits.pages b d j b_low h j_low) d d_low)
            (λ c apart h. at_else k x (page_index z c d + j) (λ e. apart (page_same z c d j b p i d_low p_low j_low i_low e).0)
            ∙ fits.pages c d j h d_low j_low) c c_low;
      }
