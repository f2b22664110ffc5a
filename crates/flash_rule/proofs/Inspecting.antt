-- An inspection: the map words of all sectors are looked at in order, and none of them names a page of a closed block.
use Rattle.flash_rule.proofs.Words.{◌≡◌, ℕ, ◌+◌, ◌<◌, Bool, false, true, List, [], ◌∷◌, ◌++◌, Option, Some, suc, length, slice_get, set, sym, refl, ap, ◌∙◌}
use Rattle.flash_rule.proofs.Words.{subst, arith, Numbers, FitsMap, MapWord, PinWord, View, World, is_broom, sector_word, Lawful}
use Rattle.flash_rule.proofs.Words.{LawfulInspection, WasShut, Inspection, CanInspect, Inspected, is_page_of, inspected_in, pin_word, LawfulView}
use Rattle.flash_rule.proofs.{Still.still, Still.map_fits, Points.broom_live, Points.eq_self, Points.clash, Owning.some_same, Owning.Seated, Owning.view_of}
use Rattle.std.specs.Prelude.{◌&&◌}

-- the sectors that were passed have no page in the block
pub inspected_dead : (z : Numbers) (g : World) (x : Option Inspection) → ((y : Inspection) → x ≡ Some y → LawfulInspection z g y) → (b generation : ℕ)
    → (g.pins b).generation ≡ generation → (s p : ℕ) → s < inspected_in x b generation → s < z.sectors
    → ¬ (g.map s ≡ Some (record { generation = generation; block = b; page = p }))
inspected_dead z g x h b generation same s p below low = grind arith

-- the entry at the end of a list
at_end : {X : Type 0} (xs : List X) (x : X) → slice_get (xs ++ x ∷ []) (length xs) ≡ Some x
at_end [] x = refl
at_end (y ∷ xs) x = at_end xs x

-- two lists that are one end with one entry
pub same_end : {X : Type 0} (xs ys : List X) (x y : X) → xs ++ x ∷ [] ≡ ys ++ y ∷ [] → x ≡ y
same_end xs ys x y e =
    some_same x y (sym (at_end xs x) ∙ (ap (λ l. slice_get l (length xs)) e ∙ (ap (λ n. slice_get (ys ++ y ∷ []) n) lengths ∙ at_end ys y)))
  where
    long : {X : Type 0} (xs : List X) (x : X) → length (xs ++ x ∷ []) ≡ suc (length xs)
    long [] x = refl
    long (y ∷ xs) x = ap suc (long xs x)

    lengths : length xs ≡ length ys
    lengths = let a = long xs x in let b = long ys y in let c = ap length e in omega arith

module _ {z : Numbers} {g : World} {vs : List View} {id : ℕ} {v : View} {b : ℕ} {p : PinWord} {s : ℕ}
    (sat : Seated z g vs id v) (broom : is_broom v.role ≡ true) (can : CanInspect v b p s) (low : s < z.sectors) where
  abbrev passed_view : View
  passed_view = record v { inspection = Some (record { block = b; generation = p.generation; sectors = s + 1 }) }

  abbrev stopped_view : ℕ → View
  stopped_view n = record v { named = v.named ++ (s, n) ∷ [] }

  b_low : b < z.blocks
  b_low = subst (λ (y : Numbers). b < y.blocks) ((view_of sat).kind.numbers (broom_live v.role broom)) can.low

  was_shut : WasShut p.generation (g.pins b)
  was_shut =
      (view_of sat).knowledge.loads (length can.earlier) b p
      (ap (λ l. slice_get l (length can.earlier)) can.loaded ∙ at_end can.earlier (b, pin_word p)) can.fits can.closed b_low

  -- a word that names a page of the block is one that is in it
  named_in : (x : Option MapWord) (page : ℕ) → x ≡ Some (record { generation = p.generation; block = b; page = page }) → is_page_of b p.generation x ≡ true
  named_in x page is = ap (is_page_of b p.generation) is ∙ (λ i. (eq_self b i) && (eq_self p.generation i))

  passing : is_page_of b p.generation (g.map s) ≡ false → Lawful z g (set vs id passed_view)
  passing not =
      let h = view_of sat in
      let new : Inspection = record { block = b; generation = p.generation; sectors = s + 1 } in
      let inspected : LawfulInspection z g new = grind (arith, b_low, was_shut, clash, named_in, inspected_dead) in
      let each : (x : Inspection) → Some new ≡ Some x → LawfulInspection z g x = grind arith in
      let own : LawfulView z g id passed_view = assumption (each, h) in
      still sat own (λ c. refl) refl

  stopping : (n : ℕ) → Lawful z g (set vs id (stopped_view n))
  stopping n =
      let own : LawfulView z g id (stopped_view n) = assumption (view_of sat) in
      still sat own (λ c. refl) refl

  -- the sector is passed, or the inspection stops at it
  pub inspects : (w : View) × Lawful z g (set vs id w) × Inspected v b p.generation s (sector_word (g.map s)) w
  inspects = by_test (is_page_of b p.generation (g.map s)) refl where
    fits : (m : MapWord) → g.map s ≡ Some m → FitsMap m
    fits m is = (map_fits sat.law ((sat.law.sectors s low).named m is)).0

    by_test : (t : Bool) → is_page_of b p.generation (g.map s) ≡ t
        → (w : View) × Lawful z g (set vs id w) × Inspected v b p.generation s (sector_word (g.map s)) w
    by_test false not = (
      passed_view,
      passing not,
      record { found = g.map s; word = refl; fits = fits; passed = λ _. refl; stopped = λ is. clash is not },
    )
    by_test true is = (
      stopped_view (sector_word (g.map s)),
      stopping (sector_word (g.map s)),
      record { found = g.map s; word = refl; fits = fits; passed = λ not. clash is not; stopped = λ _. refl },
    )
