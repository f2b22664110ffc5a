-- Each kind of step of a pass, as the table asks for it: whatever the table is, the step keeps the rule and tells what it says.
use Rattle.flash_rule.proofs.Words.{◌≡◌, ℕ, ◌+◌, ◌%◌, ◌^◌, ◌<◌, ◌≤◌, ◌==◌, eq-eqb, ne_eqb, ⊎_elim, true, List, [], ◌∷◌, ◌++◌, Option, None, Some, length, set}
use Rattle.flash_rule.proofs.Words.{sym, refl, ap, ◌∙◌, subst, arith, get_or, none, step, keeps, stepped, Allows, set_again, dite, ℕ_discrete, either, Call}
use Rattle.flash_rule.proofs.Words.{Write, WriteNew, Trim, Numbers, map_word, FitsMap, pin_word, pin_index, page_index, MapWord, PinWord, Free, Open, Closed}
use Rattle.flash_rule.proofs.Words.{TAKEN, NEXT_PHASE, PAGE_WRITTEN, Owned, Accepted, Work, View, is_pass, is_player, owned_at, without, with_owned, World}
use Rattle.flash_rule.proofs.Words.{is_owned, sector_word, Lawful, Ruled, Sitter, Looked, Placed, Took, CanPlace, CanCount, CanClose, words_in, next_page}
use Rattle.flash_rule.proofs.Words.{Tested, test_told, take_told, count_told, close_told, is_unpinned, Player, Pass}
use Rattle.flash_rule.proofs.{Points.player_live, Points.phase_or_not, Frames.state_fits, Values.value_same, Reclaiming.unowned}
use Rattle.flash_rule.proofs.{Still.look_empty, Still.look_named, Still.pass_of, OwnSteps.counter, OwnSteps.count_deeds}
use Rattle.flash_rule.proofs.OwnSteps.{counted_state, closed_state, deeds, takes, denied, taken_state, taker, counts_page, closes, worker, own_low, is_open}
use Rattle.flash_rule.proofs.{Places.fits_page, Places.page_within, Places.page_same, Owning.some_same, Owning.one_entry, Owning.Seated, Owning.view_of}
use Rattle.flash_rule.proofs.Ruling.{Does, Found, ruled_kept, ruled_map, ruled_as, ruled_plus, ruled_still, same_block, same_owned, owner_adds}
use Rattle.flash_rule.proofs.PageSteps.{puts_word, put_world, gets_accepted, spared}
use Rattle.flash_rule.proofs.MapSteps.{placed, placer, Lawful_after, pass_same, word_empty, word_named, trims, writes, writes_new, leaves}
use Rattle.std.specs.Int.Bits.{bit_or}
use Rattle.geometry.specs.declared.{answer.Was.Was, words.TheConstants.UNMAPPED, answer.Was.TheVariants.Empty, answer.Was.TheVariants.Written}
use Rattle.flash_rule.specs.Plays.{CanPut, look_told, write_told, new_told, trim_told, put_told, get_told, Called}
use Rattle.geometry.proofs.WordBits.{next_phase, counts, takes_free, takes_taken}

module _ (z : Numbers) (slots id : ℕ) (me : Sitter) where
  look_any : {g : World} {vs : List View} (sat : Seated z g vs id me.0) (s : ℕ) → is_pass me.0.role ≡ true → is_unpinned me.0.pin ≡ true → s < z.sectors
      → (x : Option MapWord) → g.map s ≡ x → (w : View) × Lawful z g (set vs id w) × Looked me.0 s (sector_word x) w
  look_any sat s pass unpinned low None is = look_empty sat s pass unpinned is low
  look_any sat s pass unpinned low (Some m) is = look_named sat s pass unpinned m is low

  -- a pass with nothing pinned looks at a sector
  pub look_allowed : (s : ℕ) → is_pass me.0.role ≡ true → is_unpinned me.0.pin ≡ true → s < z.sectors
      → Allows (Ruled z) slots id me s (λ n. n) (look_told (step slots s 0 0 none) me)
  look_allowed s pass unpinned low t (g, fits, law) _ at _ =
      let on : Found z id me t g = record { fits = fits; sat = record { law = law; at = at } } in
      let h = look_any on.sat s pass unpinned low (g.map s) refl in
      let told = subst (λ n. Looked me.0 s n h.0) (sym (fits.sectors s low)) h.2 in
      (h.0, keeps, tt, ruled_kept on s h.0 (get_or t.words s 0) (omega arith) refl h.1, (refl, told))

  -- a pass trims a sector
  pub trim_allowed : (s : ℕ) → is_pass me.0.role ≡ true → s < z.sectors → Allows (Ruled z) slots id me s (λ _. 0) (trim_told (step slots s 0 0 none) me)
  trim_allowed s pass low t (g, fits, law) _ at _ =
      let on : Found z id me t g = record { fits = fits; sat = record { law = law; at = at } } in
      let is = pass_of me.0.role pass in
      let call : Call = Trim is.0 s in
      let w : View = placer on.sat is.1 s call None refl in
      let told = placed on.sat is.1 s call None refl (law.sectors s low) (get_or t.words s 0) (fits.sectors s low) in
      let each : (u : ℕ) → me.0.role ≡ Player (Pass u) → Placed me.0 (Trim u s) s (get_or t.words s 0) w = grind arith in
      (w, keeps, tt, ruled_map on s None (g.history ++ call ∷ []) w 0 low refl (trims on.sat is.1 s low), (refl, each))

  -- the page that was filled has one value
  one_value : {s : ℕ} {m n : MapWord} {value other : List ℕ} → CanPlace me.0 s m value → CanPlace me.0 s n other → value ≡ other
  one_value {value = value} {other = other} one two =
      let works : one.work ≡ two.work = some_same one.work two.work (sym one.is ∙ two.is) in
      value_same me.0.numbers value other one.whole two.whole
      (λ i low. sym (one.words i low) ∙ (ap (λ (x : Work). get_or x.words i 0) works ∙ two.words i low))

  -- a pass writes a sector, whose new page it has filled and counted
  pub write_allowed : (s word : ℕ) (m : MapWord) (value : List ℕ) → is_pass me.0.role ≡ true → s < z.sectors → word ≡ map_word m → FitsMap m
      → CanPlace me.0 s m value
      → Allows (Ruled z) slots id me s (λ _. word) (write_told (step slots s word 0 none) me)
  write_allowed s word m value pass low packed fitting can t (g, fits, law) _ at _ =
      let on : Found z id me t g = record { fits = fits; sat = record { law = law; at = at } } in
      let is = pass_of me.0.role pass in
      let n : ℕ = get_or t.words s 0 in
      let call : Call = Write is.0 s value in
      let w : View = placer on.sat is.1 s call (Some m) refl in
      let told : Placed me.0 call s n w = placed on.sat is.1 s call (Some m) refl (law.sectors s low) n (fits.sectors s low) in
      let ruled = ruled_map on s (Some m) (g.history ++ call ∷ []) w word low packed (writes on.sat is.1 s low m value can) in (
        w,
        keeps,
        tt,
        ruled,
        (
          refl,
          λ u m' value' role _ _ can'.
              subst (λ (x : ℕ × List ℕ). Placed me.0 (Write x.0 s x.1) s n w) (λ i. (pass_same is.0 u (sym is.1 ∙ role) i, one_value can can' i)) told,
        ),
      )

  -- a pass writes a sector if it is empty, whose new page it has filled and counted
  pub new_allowed : (s word : ℕ) (m : MapWord) (value : List ℕ) → is_pass me.0.role ≡ true → s < z.sectors → word ≡ map_word m → FitsMap m
      → CanPlace me.0 s m value
      → Allows (Ruled z) slots id me s (λ n. either (n == UNMAPPED) word n) (new_told (step slots s UNMAPPED word none) me)
  new_allowed s word m value pass low packed fitting can t (g, fits, law) _ at _ =
      let on : Found z id me t g = record { fits = fits; sat = record { law = law; at = at } } in
      let is = pass_of me.0.role pass in
      let n : ℕ = get_or t.words s 0 in
      let new : ℕ = either (n == UNMAPPED) word n in
      let found : n ≡ sector_word (g.map s) = fits.sectors s low in
      let call : Call = WriteNew is.0 s value in
      let answer : (x : Option MapWord) → new ≡ sector_word x → Lawful_after on.sat is.1 s low call refl x
      → Does z id me t s new (new_told (step slots s UNMAPPED word none) me n) = λ x now lawful.
      let w : View = placer on.sat is.1 s call x refl in
      let told : Placed me.0 call s n w = placed on.sat is.1 s call x refl (law.sectors s low) n found in (
        w,
        keeps,
        tt,
        ruled_map on s x (g.history ++ call ∷ []) w new low now lawful,
        (
          refl,
          λ u m' value' role _ _ _ can'.
              subst (λ (y : ℕ × List ℕ). Placed me.0 (WriteNew y.0 s y.1) s n w) (λ i. (pass_same is.0 u (sym is.1 ∙ role) i, one_value can can' i)) told,
        ),
      ) in
      dite (ℕ_discrete n UNMAPPED)
      (λ empty. answer (Some m) (ap (λ b. either b word n) (eq-eqb n UNMAPPED empty) ∙ packed)
      (writes_new on.sat is.1 s low m value (word_empty (g.map s) (sym found ∙ empty)) can))
      (λ other.
      let named = word_named (g.map s) (λ e. other (found ∙ e)) in
      answer (g.map s) (ap (λ b. either b word n) (ne_eqb n UNMAPPED other) ∙ found) (leaves on.sat is.1 s low named.0 value named.1))

  -- a pass or a broom loads a block's word before it takes the block
  pub test_allowed : (b : ℕ) → is_player me.0.role ≡ true → b < z.blocks
      → Allows (Ruled z) slots id me (pin_index z b) (λ n. n) (test_told (step slots (pin_index z b) 0 0 none) me)
  test_allowed b player low t (g, fits, law) _ at _ =
      let on : Found z id me t g = record { fits = fits; sat = record { law = law; at = at } } in
      let p : PinWord = g.pins b in
      let n : ℕ = get_or t.words (pin_index z b) 0 in
      let numbers = (view_of on.sat).kind.numbers (player_live me.0.role player) in
      let refused : View = record me.0 { denied = me.0.denied ++ b ∷ [] } in
      let answer : (w : View) → Lawful z g (set t.views id w) → (p.phase ≡ Free → w ≡ me.0) → (¬ (p.phase ≡ Free) → w ≡ refused)
      → Does z id me t (pin_index z b) n (test_told (step slots (pin_index z b) 0 0 none) me n) = λ w lawful free denied.
      let told : Tested me.0 b n w = grind (arith, fits, state_fits, denied) in
      (w, keeps, tt, ruled_still on b low w n refl lawful, (refl, λ c _ is. subst (λ (j : ℕ). Tested me.0 j n w) (same_block z me numbers b c is) told)) in
      ⊎_elim
      (λ (free : p.phase ≡ Free). answer me.0 (subst (λ vs. Lawful z g vs) (sym (set_again t.views id me.0 at)) law) (λ _. refl) (λ not. absurd (not free)))
      (λ (not : ¬ (p.phase ≡ Free)). answer refused (denied on.sat b player low) (λ free. absurd (not free)) (λ _. refl))
      (phase_or_not p.phase Free)

  -- a pass or a broom sets the taking bit of a block
  pub take_allowed : (b : ℕ) → is_player me.0.role ≡ true → b < z.blocks
      → Allows (Ruled z) slots id me (pin_index z b) (λ n. bit_or n TAKEN) (take_told (step slots (pin_index z b) TAKEN 0 none) me)
  take_allowed b player low t (g, fits, law) _ at _ =
      let on : Found z id me t g = record { fits = fits; sat = record { law = law; at = at } } in
      let p : PinWord = g.pins b in
      let n : ℕ = get_or t.words (pin_index z b) 0 in
      let new : ℕ = bit_or n TAKEN in
      let found : n ≡ pin_word p = fits.blocks b low in
      let fitting = state_fits law b low in
      let numbers = (view_of on.sat).kind.numbers (player_live me.0.role player) in
      let young : p.generation < me.0.numbers.endurance = subst (λ (y : Numbers). p.generation < y.endurance) (sym numbers) (law.blocks b low).generation in
      let refused : View = record me.0 { denied = me.0.denied ++ b ∷ [] } in
      let its : View = taker on.sat b player low in
      let answer : (w : View) → Ruled z (stepped t (pin_index z b) new id me.1 w keeps)
      → (p.phase ≡ Free → (owned_at b me.0.owns ≡ None) × (w ≡ its)) → (¬ (p.phase ≡ Free) → w ≡ refused)
      → Does z id me t (pin_index z b) new (take_told (step slots (pin_index z b) TAKEN 0 none) me n) = λ w ruled free denied.
      let told : Took me.0 b n w = grind arith in
      (w, keeps, tt, ruled, (refl, λ c _ is. subst (λ (j : ℕ). Took me.0 j n w) (same_block z me numbers b c is) told)) in
      ⊎_elim
      (λ (free : p.phase ≡ Free). answer its
      (ruled_as on b low (taken_state on.sat b player low) id (deeds g) its new (ap (λ x. bit_or x TAKEN) found ∙ takes_free p fitting free)
      (takes on.sat b player low free))
      (λ _. (unowned on.sat b (ap is_owned free), refl)) (λ not. absurd (not free)))
      (λ (not : ¬ (p.phase ≡ Free)). answer refused
      (ruled_still on b low refused new (ap (λ x. bit_or x TAKEN) found ∙ (takes_taken p fitting not ∙ sym found)) (denied on.sat b player low))
      (λ free. absurd (not free)) (λ _. refl))
      (phase_or_not p.phase Free)

  -- the owner of an open block puts the next word of its first page not written
  pub put_allowed : (o : Owned) (x : ℕ) → is_player me.0.role ≡ true → me.0.numbers ≡ z → CanPut me.0 o
      → Allows (Ruled z) slots id me (page_index z o.block (next_page o).page + length (words_in me.0.work o)) (λ _. x)
      (λ _. put_told (step slots (page_index z o.block (next_page o).page + length (words_in me.0.work o)) x 0 none) me x)
  put_allowed o x player numbers can t (g, fits, law) _ at _ =
      let sat : Seated z g t.views id me.0 = record { law = law; at = at } in
      let pages : me.0.numbers.pages ≡ z.pages = ap (λ (y : Numbers). y.pages) numbers in
      let words : me.0.numbers.words ≡ z.words = ap (λ (y : Numbers). y.words) numbers in
      let put_so_far : Owned → ℕ = λ e. length (words_in me.0.work e) in
      let after_put : Owned → View = λ e. record me.0 { work = Some (record { page = next_page e; words = words_in me.0.work e ++ x ∷ [] }) } in
      let room : (e : Owned) → CanPut me.0 e → ((next_page e).page < z.pages) × (put_so_far e ≤ z.words) = grind arith in
      let low = room o can in
      let after : World = put_world sat x player can.own can.opened in
      let fitting = fits_page z g.map g.pins g.pages t.words fits o.block (next_page o).page (put_so_far o) x (own_low sat can.own can.opened) low.0 low.1 in
      let each : (e : Owned) → CanPut me.0 e
      → page_index z o.block (next_page o).page + put_so_far o ≡ page_index me.0.numbers e.block (next_page e).page + put_so_far e
      → after_put o ≡ after_put e = λ e can' is.
      let low' = room e can' in
      let is' = is ∙ ap (λ (y : Numbers). page_index y e.block (next_page e).page + put_so_far e) numbers in
      let at = page_same z o.block (next_page o).page (put_so_far o) e.block (next_page e).page (put_so_far e) low.0 low'.0 low.1 low'.1 is' in
      ap after_put (one_entry me.0.owns can.own can'.own at.0) in
      (after_put o, keeps, tt, (after, fitting, puts_word sat x player can.own can.opened low.0 low.1 can.settled), (refl, each))

  -- the owner of an open block counts the page that it has filled
  pub count_allowed : (o : Owned) (x : Work) → is_player me.0.role ≡ true → me.0.numbers ≡ z → CanCount me.0 o x
      → Allows (Ruled z) slots id me (pin_index z o.block) (λ n. (n + PAGE_WRITTEN) % 2 ^ 64)
      (count_told (step slots (pin_index z o.block) PAGE_WRITTEN 0 none) me)
  count_allowed o x player numbers can t (g, fits, law) _ at _ =
      let on : Found z id me t g = record { fits = fits; sat = record { law = law; at = at } } in
      let h = view_of on.sat in
      let name = worker h.kind can.is in
      let words : me.0.numbers.words ≡ z.words = ap (λ (y : Numbers). y.words) numbers in
      let full : length x.words ≡ z.words + 1 = let f = can.full in omega arith in
      let low = own_low on.sat can.own can.opened in
      let w : View = counter on.sat can.own can.opened x can.is can.page full in
      let ruled = ruled_plus on o.block low (counted_state on.sat can.own can.opened x can.is can.page full) id
      (count_deeds on.sat can.own can.opened x can.is can.page full name.0) w PAGE_WRITTEN (counts (g.pins o.block))
      (counts_page on.sat can.own can.opened x can.is can.page full name.0 name.1) in (
        w,
        keeps,
        tt,
        ruled,
        (
          refl,
          λ o' x' can' is.
              let same : o ≡ o' = same_owned z me numbers o o' can.own can'.own is in
              let works : x ≡ x' = some_same x x' (sym can.is ∙ can'.is) in
              λ i. record me.0 {
                programs = me.0.programs ++ (works i).page ∷ [];
                owns = with_owned (record (same i) { written = (same i).written + 1 }) me.0.owns;
              },
        ),
      )

  -- the owner of an open block gives it up, with nothing uncounted
  pub close_allowed : (o : Owned) → me.0.numbers ≡ z → CanClose me.0 o
      → Allows (Ruled z) slots id me (pin_index z o.block) (λ n. (n + NEXT_PHASE) % 2 ^ 64) (close_told (step slots (pin_index z o.block) NEXT_PHASE 0 none) me)
  close_allowed o numbers can =
      owner_adds z slots id me o NEXT_PHASE (CanClose me.0)
      (λ e. record me.0 { owns = without e.block me.0.owns; work = None; ceded = me.0.ceded ++ record e { phase = Closed } ∷ [] }) (λ e may. may.own) can
      (λ g vs sat. (
        closed_state sat can.own can.opened,
        next_phase (g.pins o.block) Open Closed (is_open sat can.own can.opened) refl,
        closes sat can.own can.opened can.settled,
      ))

-- a pass reads the page of its accepted pin
pub get_allowed : (z : Numbers) (slots id : ℕ) (me : Sitter) (m : MapWord) (value : List ℕ) (i : ℕ) → me.0.numbers ≡ z → me.0.pin ≡ Accepted m value
    → m.block < z.blocks → m.page < z.pages → i < z.words
    → Allows (Ruled z) slots id me (page_index z m.block m.page + i) (λ n. n) (get_told (step slots (page_index z m.block m.page + i) 0 0 none) me)
get_allowed z slots id me m value i numbers pin block page low t (g, fits, law) _ at _ =
    let on : Found z id me t g = record { fits = fits; sat = record { law = law; at = at } } in
    let k : ℕ = page_index z m.block m.page + i in
    let n : ℕ = get_or t.words k 0 in
    let found : n ≡ g.pages m.block m.page i = fits.pages m.block m.page i block page (omega arith) in
    let again = subst (λ vs. Lawful z g vs) (sym (set_again t.views id me.0 at)) law in
    let ruled = ruled_kept on k me.0 n (page_within z m.block m.page i block page (omega arith)) refl again in (
      me.0,
      keeps,
      tt,
      ruled,
      (
        refl,
        (λ m' value' i' pin' low' is.
            let d = gets_accepted on.sat pin' in
            let words : me.0.numbers.words ≡ z.words = ap (λ (y : Numbers). y.words) numbers in
            let is' : k ≡ page_index z m'.block m'.page + i' = is ∙ ap (λ (y : Numbers). page_index y m'.block m'.page + i') numbers in
            let s = page_same z m.block m.page i m'.block m'.page i' page d.1 (omega arith) (omega arith) is' in
            found ∙ ((λ j. g.pages (s.0 j) (s.1 j) (s.2 j)) ∙ d.2 i' (omega arith))),
        (λ m' value' c pin' copied. spared on.sat pin' copied),
      ),
    )

-- the answer of a call, from the word that was swapped out
pub called : (v : View) (c : Call) (s n : ℕ) (answer : Was) (w : View) → Placed v c s n w → (n ≡ 0 → answer ≡ Empty) → (¬ (n ≡ 0) → answer ≡ Written)
    → Called v c s answer w
called v c s n answer w h empty written = grind arith
