-- Each kind of step that a broom makes on map words and page words, as the table asks for it: whatever the table is, the step keeps the rule and
-- tells what it says.
use Rattle.flash_rule.proofs.Words.{◌≡◌, ℕ, ◌+◌, ◌*◌, ◌<◌, ◌≤◌, ◌==◌, eq-eqb, ne_eqb, true, Some, set, sym, refl, ap, ◌∙◌, subst, arith, get_or, none, dite}
use Rattle.flash_rule.proofs.Words.{ℕ_discrete, either, step, keeps, stepped, Allows, set_again, Numbers, map_word, page_index, MapWord, Owned, Source, View}
use Rattle.flash_rule.proofs.Words.{is_player, World, Fits, sector_word, blank_word, Lawful, Ruled, Sitter, Named, CanGetStamp, GotStamp, CanMove}
use Rattle.flash_rule.proofs.Words.{Moved, wiper, CanInspect, PinWord, Inspected, is_broom, inspect_told}
use Rattle.flash_rule.proofs.{Inspecting.same_end, Inspecting.inspects, Points.player_of, Owning.some_same, Owning.one_entry, Owning.Seated}
use Rattle.geometry.proofs.WordBits.{pin_same}
use Rattle.flash_rule.proofs.{Places.fits_page, Places.page_within, Places.page_same, Ruling.Does, Ruling.Found, Ruling.ruled_kept, Ruling.ruled_map}
use Rattle.flash_rule.proofs.BroomSteps.{looks, stamp_low, gets_stamp, gets_source, source_low, names_source, mover, stays, moves_page, move_told_here}
use Rattle.flash_rule.proofs.Wiping.{row_of, wiped_index, wipe_world, wipes_word, erased_low}
use Rattle.flash_rule.specs.BroomPlays.{CanWipe, broom_look_told, stamp_told, source_told, move_told, wipe_told}

module _ (z : Numbers) (slots id : ℕ) (me : Sitter) where
  -- a broom looks at a sector
  pub broom_look_allowed : (s : ℕ) → is_player me.0.role ≡ true → s < z.sectors
      → Allows (Ruled z) slots id me s (λ n. n) (broom_look_told (step slots s 0 0 none) me)
  broom_look_allowed s player low t (g, fits, law) _ at _ =
      let on : Found z id me t g = record { fits = fits; sat = record { law = law; at = at } } in
      let h = looks on.sat (player_of me.0.role player).1 s low in
      let told = subst (λ n. Named me.0 s n h.0) (sym (fits.sectors s low)) h.2 in
      (h.0, keeps, tt, ruled_kept on s h.0 (get_or t.words s 0) (omega arith) refl h.1, (refl, told))

  -- a broom looks at the next sector of its inspection
  pub inspect_allowed : (b s : ℕ) (p : PinWord) → is_broom me.0.role ≡ true → CanInspect me.0 b p s → s < z.sectors
      → Allows (Ruled z) slots id me s (λ n. n) (inspect_told (step slots s 0 0 none) me)
  inspect_allowed b s p broom can low t (g, fits, law) _ at _ =
      let on : Found z id me t g = record { fits = fits; sat = record { law = law; at = at } } in
      let h = inspects on.sat broom can low in
      let told = subst (λ n. Inspected me.0 b p.generation s n h.0) (sym (fits.sectors s low)) h.2 in
      let each : (c : ℕ) (q : PinWord) → CanInspect me.0 c q s → Inspected me.0 c q.generation s (get_or t.words s 0) h.0 = grind (arith, same_end, pin_same) in
      (h.0, keeps, tt, ruled_kept on s h.0 (get_or t.words s 0) (omega arith) refl h.1, (refl, each))

  -- a broom reads the stamp of its victim's next page
  pub stamp_allowed : (o : Owned) → is_player me.0.role ≡ true → me.0.numbers ≡ z → CanGetStamp me.0 o
      → Allows (Ruled z) slots id me (page_index z o.block me.0.cleared + z.words) (λ n. n)
      (stamp_told (step slots (page_index z o.block me.0.cleared + z.words) 0 0 none) me)
  stamp_allowed o player numbers can t (g, fits, law) _ at _ =
      let on : Found z id me t g = record { fits = fits; sat = record { law = law; at = at } } in
      let role = (player_of me.0.role player).1 in
      let low = stamp_low on.sat role o can in
      let p : ℕ = me.0.cleared in
      let k : ℕ = page_index z o.block p + z.words in
      let n : ℕ = get_or t.words k 0 in
      let found : n ≡ g.pages o.block p z.words = fits.pages o.block p z.words low.0 low.1 (omega arith) in
      let h = gets_stamp on.sat role o can in
      let each : (e : Owned) → CanGetStamp me.0 e → k ≡ page_index me.0.numbers e.block p + me.0.numbers.words → GotStamp me.0 e n h.0 =
      grind (arith, page_same, stamp_low, one_entry) in
      (h.0, keeps, tt, ruled_kept on k h.0 n (page_within z o.block p z.words low.0 low.1 (omega arith)) refl h.1, (refl, each))

  -- a broom reads a word of its source
  pub source_allowed : (x : Source) (i : ℕ) → is_player me.0.role ≡ true → me.0.numbers ≡ z → me.0.source ≡ Some x → i < z.words
      → Allows (Ruled z) slots id me (page_index z x.page.block x.page.page + i) (λ n. n)
      (source_told (step slots (page_index z x.page.block x.page.page + i) 0 0 none) me)
  source_allowed x i player numbers is low t (g, fits, law) _ at _ =
      let on : Found z id me t g = record { fits = fits; sat = record { law = law; at = at } } in
      let role = (player_of me.0.role player).1 in
      let b : ℕ = x.page.block in
      let p : ℕ = x.page.page in
      let in_table = source_low on.sat role x is in
      let k : ℕ = page_index z b p + i in
      let found : get_or t.words k 0 ≡ g.pages b p i = fits.pages b p i in_table.0 in_table.1 (omega arith) in (
        me.0,
        keeps,
        tt,
        ruled_kept on k me.0 (get_or t.words k 0) (page_within z b p i in_table.0 in_table.1 (omega arith)) refl
            (subst (λ vs. Lawful z g vs) (sym (set_again t.views id me.0 at)) law),
        (
          refl,
          λ x' value j is' live low' here.
              let same : x ≡ x' = some_same x x' (sym is ∙ is') in
              let words : me.0.numbers.words ≡ z.words = ap (λ (y : Numbers). y.words) numbers in
              let here' : k ≡ page_index z b p + j = here ∙ λ l. page_index (numbers l) (sym same l).page.block (sym same l).page.page + j in
              let places : i ≡ j = omega arith in
              found ∙ ((λ l. g.pages (same l).page.block (same l).page.page (places l)) ∙ gets_source on.sat role x' value j is' live (omega arith)),
        ),
      )

  -- a broom exchanges the map word of its source's sector
  pub move_allowed : (x : Source) (copy : MapWord) → is_player me.0.role ≡ true → CanMove me.0 x copy → x.stamp < z.sectors
      → Allows (Ruled z) slots id me x.stamp (λ n. either (n == map_word x.page) (map_word copy) n)
      (move_told (step slots x.stamp (map_word x.page) (map_word copy) none) me)
  move_allowed x copy player can low t (g, fits, law) _ at _ =
      let on : Found z id me t g = record { fits = fits; sat = record { law = law; at = at } } in
      let role = (player_of me.0.role player).1 in
      let s : ℕ = x.stamp in
      let n : ℕ = get_or t.words s 0 in
      let new : ℕ = either (n == map_word x.page) (map_word copy) n in
      let found : n ≡ sector_word (g.map s) = fits.sectors s low in
      let after : ℕ → View = mover on.sat role can low in
      let answer : (w : View) → Ruled z (stepped t s new id me.1 w keeps) → Moved me.0 x n w
      → Does z id me t s new (move_told (step slots s (map_word x.page) (map_word copy) none) me n) = λ w ruled moved.
      (w, keeps, tt, ruled, (refl, λ x' copy' can' _ _ _ _ _. subst (λ (y : Source). Moved me.0 y n w) (some_same x x' (sym can.is ∙ can'.is)) moved)) in
      dite (ℕ_discrete n (map_word x.page))
      (λ its.
      let named = names_source on.sat role x can.is low (sym found ∙ its) in
      answer (after (me.0.moves + 1))
      (ruled_map on s (Some copy) g.history (after (me.0.moves + 1)) new low
      (ap (λ b. either b (map_word copy) n) (eq-eqb n (map_word x.page) its)) (moves_page on.sat role can low named))
      (move_told_here on.sat role can low named n its))
      (λ other.
      let h = stays on.sat role can low n found other in
      answer (after me.0.moves)
      (ruled_kept on s (after me.0.moves) new (omega arith) (ap (λ b. either b (map_word copy) n) (ne_eqb n (map_word x.page) other)) h.0)
      h.1)

  -- a broom sets the next word of its erasing block to all ones
  pub wipe_allowed : (o : Owned) → is_player me.0.role ≡ true → me.0.numbers ≡ z → CanWipe me.0 o
      → Allows (Ruled z) slots id me (page_index z o.block 0 + me.0.wiped) (λ _. blank_word)
      (λ _. wipe_told (step slots (page_index z o.block 0 + me.0.wiped) blank_word 0 none) me blank_word)
  wipe_allowed o player numbers can t (g, fits, law) _ at _ =
      let sat : Seated z g t.views id me.0 = record { law = law; at = at } in
      let role = (player_of me.0.role player).1 in
      let room : me.0.wiped < z.pages * (z.words + 1) = subst (λ (y : Numbers). me.0.wiped < y.pages * (y.words + 1)) numbers can.room in
      let place = row_of z.pages (z.words + 1) me.0.wiped room in
      let p : ℕ = place.0 in
      let i : ℕ = place.1 in
      let below = place.3 in
      let word : i ≤ z.words = omega arith in
      let after : World = wipe_world sat p i role can.erasing place.2 word place.4 in
      let here : page_index z o.block 0 + me.0.wiped ≡ page_index z o.block p + i = wiped_index z o.block p i me.0.wiped place.4 in
      let blank = subst (λ k. Fits z g.map g.pins after.pages (set t.words k blank_word)) (sym here)
      (fits_page z g.map g.pins g.pages t.words fits o.block p i blank_word (erased_low sat p i role can.erasing place.2 word place.4) place.2 word) in
      (wiper me.0, keeps, tt, (after, blank, wipes_word sat p i role can.erasing place.2 word place.4), (refl, λ _ _ _ _. refl))
