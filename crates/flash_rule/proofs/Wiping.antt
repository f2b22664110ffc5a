-- A broom sets the next word of its erasing block to all ones.
use Rattle.flash_rule.proofs.Words.{◌≡◌, ◌≢◌, ℕ, zero, suc, ◌+◌, ◌-◌, ◌*◌, ◌<◌, ◌≤◌, inl, true, false, List, Some, set, sym, refl, ap, ◌∙◌, arith}
use Rattle.flash_rule.proofs.Words.{suc-mul, dite, ℕ_discrete, dec_lt, Numbers, page_index, Erasing, Name, Player, Owned, View}
use Rattle.flash_rule.proofs.Words.{is_player, owned_at, World, put_word, is_intact, is_nameable, is_reclaimed, is_still, blank_word, LawfulOwned, LawfulView}
use Rattle.flash_rule.proofs.Words.{Lawful, Onward, IsErasing, wiper, Begins-refl, Work, Source, LawfulWork, LawfulSource, None, []}
use Rattle.flash_rule.proofs.Owning.{each_of, owned_with, source_with, work_with, Seated, view_of}
use Rattle.flash_rule.proofs.{Points.clash, Frames.knowledge_kept, Frames.sector_kept, Still.no_turn, Still.onward_called}
use Rattle.flash_rule.proofs.{Places.row_same, PageSteps.word_here, PageSteps.word_else}
use Rattle.std.proofs.Math.Nat.{add-mul}

-- a place in rows of one length is one of some row
pub row_of : (rows n k : ℕ) → k < rows * n → (p : ℕ) × (i : ℕ) × (p < rows) × (i < n) × (p * n + i ≡ k)
row_of zero n k low = absurd (omega arith)
row_of (suc rows) n k low =
    let last = suc-mul rows n in
    dite (dec_lt k (rows * n))
    (λ less. let r = row_of rows n k less in let above = r.2 in (r.0, r.1, omega arith, r.3, r.4))
    (λ more. (rows, k - rows * n, omega arith, omega arith, omega arith))

-- the words of a block follow each other, page after page
pub wiped_index : (z : Numbers) (b p i k : ℕ) → p * (z.words + 1) + i ≡ k → page_index z b 0 + k ≡ page_index z b p + i
wiped_index z b p i k is = let first = add-mul (b * z.pages) 0 (z.words + 1) in let later = add-mul (b * z.pages) p (z.words + 1) in omega arith

module _ {z : Numbers} {g : World} {vs : List View} {id : ℕ} {v : View} {n : Name} {o : Owned}
    (sat : Seated z g vs id v) (p i : ℕ) (role : v.role ≡ Player n) (erasing : IsErasing v o) (page : p < z.pages)
    (word : i ≤ z.words) (next : p * (z.words + 1) + i ≡ v.wiped) where
  abbrev pub wipe_world : World
  wipe_world = record g { pages = put_word g.pages o.block p i blank_word }

  mine : LawfulOwned z g id v.work v.cleared v.wiped o.block o
  mine = (view_of sat).holding.owned o.block o erasing.own

  pub erased_low : o.block < z.blocks
  erased_low = mine.low

  phase_is : (g.pins o.block).phase ≡ Erasing
  phase_is = mine.phase ∙ erasing.erasing

  other_block : (c q j : ℕ) → c ≢ o.block → put_word g.pages o.block p i blank_word c q j ≡ g.pages c q j
  other_block c q j unlike = word_else g.pages o.block p i blank_word c q j (λ same. unlike same.0)

  -- no page of this block can be read or named
  not_intact : (c : ℕ) → is_intact (g.pins c).phase ≡ true → c ≢ o.block
  not_intact c is same = clash is (ap is_intact (ap (λ j. (g.pins j).phase) same ∙ phase_is))

  not_nameable : (c : ℕ) → is_nameable (g.pins c).phase ≡ true → c ≢ o.block
  not_nameable c is same = clash is (ap is_nameable (ap (λ j. (g.pins j).phase) same ∙ phase_is))

  wipe_onward : Onward z g wipe_world id id
  wipe_onward =
      onward_called (Begins-refl g.history) (λ _ _. refl)
      (λ c other q j. other_block c q j (λ same. other (ap g.owner same ∙ mine.owner)))
      (λ c q j intact _. other_block c q j (not_intact c intact)) (λ s m is. inl is) (λ n _ _. (refl, refl)) (λ n c is. inl is)

  -- one word more of the block is all ones
  wiped_more : LawfulOwned z wipe_world id v.work v.cleared (wiper v).wiped o.block o
  wiped_more =
      owned_with mine (refl, refl, refl) refl
      (λ opened. let e = erasing.erasing in absurd (cc))
      mine.dead
      (λ is q j low most below. dite (ℕ_discrete (q * (z.words + 1) + j) v.wiped)
      (λ last.
      let here = row_same q p (z.words + 1) j i (omega arith) (omega arith) (last ∙ sym next) in
      (λ t. put_word g.pages o.block p i blank_word o.block (here.0 t) (here.1 t)) ∙ word_here g.pages o.block p i blank_word)
      (grind (arith, word_else, mine)))

  wiped_else : (c : ℕ) (e : Owned) → c ≢ o.block → owned_at c v.owns ≡ Some e → LawfulOwned z wipe_world id v.work v.cleared (wiper v).wiped c e
  wiped_else c e unlike owns =
      let h = view_of sat in
      let k = h.holding.owned c e owns in
      owned_with k (refl, refl, refl) refl
      (λ opened q from below not j most. other_block c q j unlike ∙ k.rest opened q from below not j most)
      k.dead
      (λ is. absurd (unlike (h.kind.reclaims c o.block e o owns erasing.own (ap is_reclaimed is) (ap is_reclaimed erasing.erasing))))

  wiper_lawful : LawfulView z wipe_world id (wiper v)
  wiper_lawful =
      let h = view_of sat in
      let knows = knowledge_kept wipe_onward sat in
      -- the blocks of its work and of its source are others
      let apart : (c : ℕ) (e : Owned) → owned_at c v.owns ≡ Some e → ¬ (e.phase ≡ Erasing) → c ≢ o.block = grind arith in
      let idle : is_player v.role ≡ false → (v.work ≡ None) × (v.source ≡ None) × (v.programs ≡ []) × (v.erases ≡ []) = clash (ap is_player role) in
      let owned : (c : ℕ) (e : Owned) → owned_at c v.owns ≡ Some e → LawfulOwned z wipe_world id v.work v.cleared (wiper v).wiped c e =
      each_of (λ c e. LawfulOwned z wipe_world id v.work v.cleared (wiper v).wiped c e) o v.owns erasing.own wiped_more wiped_else in
      let work : (w : Work) → v.work ≡ Some w → LawfulWork z wipe_world v.owns w = λ w is.
      let k = h.holding.work w is in
      work_with k k.own (λ j. other_block w.page.block w.page.page j (apart w.page.block k.entry k.own (λ erased. absurd (cc)))) in
      let source : (x : Source) → v.source ≡ Some x → LawfulSource z wipe_world v.owns v.cleared x = λ x is.
      let k = h.holding.source x is in
      source_with k k.own refl (λ j. other_block x.page.block x.page.page j (apart x.page.block k.entry k.own (λ erased. absurd (cc)))) in
      assumption (idle, owned, work, source, knows, h)

  pub wipes_word : Lawful z wipe_world (set vs id (wiper v))
  wipes_word =
      no_turn sat wipe_onward wiper_lawful (λ c. refl) refl
      (λ s low. sector_kept (sat.law.sectors s low) refl refl
      (λ c _ named. (refl, named, omega arith, λ q j _. other_block c q j (not_nameable c named))))
      sat.law.callers
      (λ c still q j. other_block c q j (λ same. clash still (ap is_still (ap (λ j. (g.pins j).phase) same ∙ phase_is))))
      sat.law.strangers
