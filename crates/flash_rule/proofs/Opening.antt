-- The table at the start meets the rule.
use Rattle.flash_rule.proofs.Words.{◌≡◌, ℕ, zero, suc, ◌*◌, ◌+◌, ◌-◌, ◌<◌, ◌≤◌, inl, eq-eqb, ne_eqb, false, List, [], ◌∷◌, ◌++◌, None, Some, length, replicate}
use Rattle.flash_rule.proofs.Words.{slice_get, sym, refl, ap, ◌∙◌, subst, arith, length-append, length-replicate, All-nil, get_or, if◌then◌else◌, some}
use Rattle.flash_rule.proofs.Words.{some-injective, some-ne-none, dite, ℕ_discrete, dec_lt, get_elem?, Numbers, pin_index, page_index, PinWord, Free, Open}
use Rattle.flash_rule.proofs.Words.{Owned, View, owned_at, caller, World, Fits, is_owned, blank_word, IsCededBy, drained_of, LawfulCeded, LawfulBlock}
use Rattle.flash_rule.proofs.Words.{LawfulOwned, LawfulView, Lawful, Ruled, spare, spares, Dealer}
use Rattle.flash_rule.proofs.{Owning.none_some, Owning.nothing, Places.row_within, Points.clash}
use Rattle.flash_rule.proofs.Splitting.{kind_fresh, knowledge_fresh, holding_unnamed}
use Rattle.std.specs.Prelude.{nat_lt}
use Rattle.atomic_table.specs.Table.{opening}
use Rattle.geometry.{proofs.Histories.held_at_first, specs.Limits.IsWithinLimits, specs.Words.phase_bits}
use Rattle.flash_rule.specs.Seats.{dealer, opening_words}
use Rattle.std.proofs.lemmas.{Bool.Decides.nat_tests, List.get_or_append_left, List.get_or-append-add, List.get_or-replicate}

front : (xs ys : List ℕ) (k : ℕ) → k < length xs → get_or (xs ++ ys) k 0 ≡ get_or xs k 0
front xs ys k low = get_or_append_left xs ys 0 k low

back : (xs ys : List ℕ) (k j : ℕ) → k ≡ length xs + j → get_or (xs ++ ys) k 0 ≡ get_or ys j 0
back xs ys k j is = ap (λ i. get_or (xs ++ ys) i 0) is ∙ get_or-append-add xs ys j 0

same_all : (n x k : ℕ) → k < n → get_or (replicate n x) k 0 ≡ x
same_all n x k low = get_or-replicate n k x 0 low

spare_is : (n from b : ℕ) (o : Owned) → owned_at b (spares n from) ≡ Some o → (from ≤ b) × (b < from + n) × (spare b ≡ o)
spare_is zero from b o is = absurd (none_some o is)
spare_is (suc n) from b o is = dite (ℕ_discrete from b)
    (grind arith)
    (λ other.
    let there : owned_at b (spares (suc n) from) ≡ owned_at b (spares n (from + 1)) = rw (ne_eqb from b other) refl in
    let r = spare_is n (from + 1) b o (sym there ∙ is) in
    let low = r.0 in
    let high = r.1 in (omega arith, omega arith, r.2))

spare_at : (n from b : ℕ) → from ≤ b → b < from + n → owned_at b (spares n from) ≡ Some (spare b)
spare_at zero from b low high = absurd (omega arith)
spare_at (suc n) from b low high = dite (ℕ_discrete from b)
    (λ same. rw (eq-eqb from b same) (ap (λ k. Some (spare k)) same))
    (λ other. rw (ne_eqb from b other) (spare_at n (from + 1) b (omega arith) (omega arith)))

module _ (z : Numbers) (limits : IsWithinLimits z) where
  enough : z.brooms ≤ z.blocks
  enough = grind arith

  opening_pin : ℕ → PinWord
  opening_pin b = record { readers = 0; phase = if nat_lt b (z.blocks - z.brooms) then Free else Open; written = 0; generation = 0 }

  abbrev opening_world : World
  opening_world =
      record {
        history = [];
        map = λ s. None;
        pins = opening_pin;
        pages = λ b p i. blank_word;
        owner = λ b. 0;
        passes = 0;
        brooms = 0;
        seat = λ n. 0;
        programmer = λ b p g. None;
        eraser = λ b g. None;
        programs = λ n. [];
        erases = λ n. [];
        badge = λ n. 0;
        carries = λ n. None;
      }

  phase_low : (b : ℕ) → b < z.blocks - z.brooms → (opening_pin b).phase ≡ Free
  unfolding opening_pin
  phase_low b low = grind (arith, nat_tests)

  phase_high : (b : ℕ) → ¬ (b < z.blocks - z.brooms) → (opening_pin b).phase ≡ Open
  unfolding opening_pin
  phase_high b high = grind (arith, nat_tests)

  blank_pin : (b : ℕ) → ((opening_pin b).readers ≡ 0) × ((opening_pin b).written ≡ 0) × ((opening_pin b).generation ≡ 0)
  unfolding opening_pin
  blank_pin b = (refl, refl, refl)

  opening_fits : Fits z opening_world.map opening_world.pins opening_world.pages (opening_words z)
  opening_fits =
      let e = enough in
      let maps : List ℕ = replicate z.sectors 0 in
      let frees : List ℕ = replicate (z.blocks - z.brooms) (phase_bits Free) in
      let opens : List ℕ = replicate z.brooms (phase_bits Open) in
      let pages : List ℕ = replicate (z.blocks * z.pages * (z.words + 1)) blank_word in
      let l1 : length maps ≡ z.sectors = length-replicate z.sectors 0 in
      let l2 : length frees ≡ z.blocks - z.brooms = length-replicate (z.blocks - z.brooms) (phase_bits Free) in
      let l3 : length opens ≡ z.brooms = length-replicate z.brooms (phase_bits Open) in
      let l4 : length pages ≡ z.blocks * z.pages * (z.words + 1) = length-replicate (z.blocks * z.pages * (z.words + 1)) blank_word in
      let l5 : length (frees ++ opens) ≡ length frees + length opens = length-append frees opens in
      let l6 : length (maps ++ (frees ++ opens)) ≡ length maps + length (frees ++ opens) = length-append maps (frees ++ opens) in
      let l7 : length ((maps ++ (frees ++ opens)) ++ pages) ≡ length (maps ++ (frees ++ opens)) + length pages =
      length-append (maps ++ (frees ++ opens)) pages in
      record {
        size = omega arith;
        sectors = λ s low. front (maps ++ (frees ++ opens)) pages s (omega arith) ∙ (front maps (frees ++ opens) s (omega arith) ∙ same_all z.sectors 0 s low);
        blocks = λ b low.
            front (maps ++ (frees ++ opens)) pages (pin_index z b) (omega arith)
            ∙ (back maps (frees ++ opens) (pin_index z b) b (omega arith)
            ∙ dite (dec_lt b (z.blocks - z.brooms))
            (λ below. front frees opens b (omega arith) ∙ (same_all (z.blocks - z.brooms) (phase_bits Free) b below
            ∙ (let p = blank_pin b in let r = p.0 in let w = p.1 in let g = p.2 in
            let f : phase_bits (opening_pin b).phase ≡ phase_bits Free = ap phase_bits (phase_low b below) in omega arith)))
            (λ above.
            let j : ℕ = b - (z.blocks - z.brooms) in
            back frees opens b j (omega arith) ∙ (same_all z.brooms (phase_bits Open) j (omega arith)
            ∙ (let p = blank_pin b in let r = p.0 in let w = p.1 in let g = p.2 in
            let f : phase_bits (opening_pin b).phase ≡ phase_bits Open = ap phase_bits (phase_high b above) in omega arith))));
        pages = λ b p i b_low p_low i_low.
            let j : ℕ = (b * z.pages + p) * (z.words + 1) + i in
            let r = row_within b z.blocks z.pages p b_low p_low in
            let t = row_within (b * z.pages + p) (z.blocks * z.pages) (z.words + 1) i r (omega arith) in
            back (maps ++ (frees ++ opens)) pages (page_index z b p + i) j (omega arith) ∙ same_all (z.blocks * z.pages * (z.words + 1)) blank_word j t;
      }

  opening_block : (b : ℕ) → b < z.blocks → LawfulBlock z opening_world (dealer z ∷ []) b
  opening_block b low =
      let p = blank_pin b in
      let generation = p.2 in
      let endurance = limits.endurance_low in
      let e = enough in
      record {
        readers = p.0;
        written = (let w = p.1 in omega arith);
        generation = omega arith;
        free = λ _. p.1;
        rest = λ _ q from below i most. refl;
        owner = λ owned. dite (dec_lt b (z.blocks - z.brooms))
            (λ below. clash owned (ap is_owned (phase_low b below)))
            (λ above. (dealer z, spare b, refl, spare_at z.brooms (z.blocks - z.brooms) b (omega arith) (omega arith)));
      }

  opening_owned : (b : ℕ) (o : Owned) → owned_at b (dealer z).owns ≡ Some o → LawfulOwned z opening_world 0 None 0 0 b o
  opening_owned b o is =
      let r = spare_is z.brooms (z.blocks - z.brooms) b o is in
      let e = enough in
      let low = r.0 in
      let high = r.1 in
      let p = blank_pin b in
      let phase : (opening_pin b).phase ≡ Open = phase_high b (λ h. absurd (omega arith)) in
      let here : LawfulOwned z opening_world 0 None 0 0 b (spare b) = record {
        block = refl;
        low = omega arith;
        owner = refl;
        owned = refl;
        phase = phase;
        generation = p.2;
        written = p.1;
        rest = λ _ q _ _ _ i _. refl;
        dead = λ is. absurd (cc);
        clean = λ is. absurd (cc);
      } in
      subst (λ (o : Owned). LawfulOwned z opening_world 0 None 0 0 b o) r.2 here

  opening_view : LawfulView z opening_world 0 (dealer z)
  opening_view =
      record {
        kind = kind_fresh z Dealer [] (dealer z).owns false None None (λ _. refl) (λ is. absurd (cc))
            (λ b o is. let r = spare_is z.brooms (z.blocks - z.brooms) b o is in sym (ap (λ (x : Owned). x.phase) r.2)) (λ is. absurd (cc))
            (λ n m is. absurd (cc));
        knowledge = knowledge_fresh z Dealer [] (dealer z).owns false (λ b _. omega arith);
        holding = holding_unnamed (dealer z) (λ n is. absurd (cc)) (refl, refl) opening_owned (λ n is. absurd (none_some n is)) (λ n is. absurd (cc))
            (λ _. (refl, refl, refl));
      }

  opening_ceded : LawfulCeded z opening_pin (dealer z ∷ [])
  opening_ceded =
      record {
        reached = λ id k o h. absurd (no_entry id k o h);
        once = λ id k o j i e h. absurd (no_entry id k o h);
        drained = λ id v is. let e = the_dealer id v is in ap (λ (x : View). x.drains) (sym e) ∙ ap (λ (x : View). drained_of x.ceded) e;
        left = λ b low nobodys. dite (dec_lt b (z.blocks - z.brooms))
            (λ below. let p = blank_pin b in inl (record { free = phase_low b below; generation = p.2; written = p.1 }))
            (λ above. clash (ap is_owned (phase_high b above)) nobodys);
        owners = λ id v is _. ap (λ (x : View). x.ceded) (sym (the_dealer id v is));
      }
    where
      the_dealer : (id : ℕ) (v : View) → get_elem? (dealer z ∷ []) id ≡ some v → dealer z ≡ v
      the_dealer id v is = grind arith

      no_entry : (id k : ℕ) (o : Owned) → IsCededBy (dealer z ∷ []) id k o → ⊥
      no_entry id k o h = nothing k o (ap (λ (x : View). slice_get x.ceded k) (the_dealer id h.view h.seat) ∙ h.entry)

  opening_lawful : Lawful z opening_world (dealer z ∷ [])
  opening_lawful =
      record {
        limits = limits;
        sectors = λ s low. record { empty = λ _. held_at_first z.sectors s; named = λ m is. absurd (none_some m is) };
        callers = All-nil (λ c. caller c < z.hosts);
        blocks = opening_block;
        views = only;
        strangers = λ t _. refl;
        seats = omega arith;
        dealt = omega arith;
        ceded = opening_ceded;
      }
    where
      only : (id : ℕ) (v : View) → get_elem? (dealer z ∷ []) id ≡ some v → LawfulView z opening_world id v
      only zero v is = subst (λ (v : View). LawfulView z opening_world 0 v) (some-injective (dealer z) v is) opening_view
      only (suc id) v is = absurd (some-ne-none v (sym is))

  -- the table of these words, with the dealer's seat alone, meets the rule
  pub opening_ruled : Ruled z (opening (opening_words z) [] (dealer z))
  opening_ruled = (opening_world, opening_fits, opening_lawful)
