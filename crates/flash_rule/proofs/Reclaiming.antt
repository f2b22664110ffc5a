-- A broom's steps on a pin word: what the six have in common; claim, condemn and drain; free, keep and retire.
use Rattle.flash_rule.proofs.Words.{◌≡◌, ℕ, ◌<◌, ◌≤◌, inl, true, false, List, [], Option, None, Some, set, sym, refl, ap, ◌∙◌, subst, arith, Begins, Numbers}
use Rattle.flash_rule.proofs.Words.{Begins-refl, PinWord, Free, Open, Name, Player, Owned, Source, Cycle, View, is_pass, may_own, owned_at, without, with_owned}
use Rattle.flash_rule.proofs.Words.{World, is_owned, is_nameable, is_still, IsBlank, Erases, LawfulOwned, Lawful, PinOnward, ◌+◌, inr, ⊎_elim, ◌∷◌, ◌++◌}
use Rattle.flash_rule.proofs.Words.{length, slice_get, Closed, Victim, Drained, Erasing, is_broom, put_name, is_intact, half_cycle, rank, owned_as, cycle_of}
use Rattle.flash_rule.proofs.Words.{CanDrain, Retired, freed_as, IsErasing, CanRenew, LawfulLoads, LawfulView}
use Rattle.flash_rule.proofs.{Inspecting.inspected_dead, Places.row_within, Owning.put2_else, Still.still, Ceding.ceded_owned, Ceding.ceded_last}
use Rattle.flash_rule.proofs.Owning.{one_with_open, owns_none_else, with_here, without_else, with_else, Seated, view_of, one_at_rest, get_last, put2, put2_here}
use Rattle.flash_rule.proofs.Points.{name_all, clash, owner_live, player_same, broom_player, may_own_else, put_here, name_else, broom_of}
use Rattle.flash_rule.proofs.OwnSteps.{IsState, phase_onward, Deeds, deeds, turned, block_owned, IsListed, turns, IsOwning, given_up, got, moved, none_listed}
use Rattle.flash_rule.{proofs.OwnSteps.work_else, proofs.OwnSteps.IsTurn, specs.BroomPlays.IsAtRest}
use Rattle.std.proofs.lemmas.List.{append-nil}

module _ {z : Numbers} {g : World} {vs : List View} {id : ℕ} {v : View} (sat : Seated z g vs id v) where
  -- a block in a phase without an owner isn't the seat's
  pub unowned : (b : ℕ) → is_owned (g.pins b).phase ≡ false → owned_at b v.owns ≡ None
  unowned b nobodys = by_entry (owned_at b v.owns) refl where
    by_entry : (x : Option Owned) → owned_at b v.owns ≡ x → x ≡ None
    by_entry None is = refl
    by_entry (Some o) is =
        let k = (view_of sat).holding.owned b o is in
        clash k.owned (ap is_owned (sym k.phase) ∙ nobodys)

  -- a broom's state step, and an exchange of a pin word that found another word, change no word and only these lists
  pub notes : (loaded : List (ℕ × ℕ)) (lost busy stale : List ℕ) → LawfulLoads z g loaded
      → Lawful z g (set vs id (record v { loaded = loaded; lost = lost; busy = busy; stale = stale }))
  notes loaded lost busy stale loads =
      let own : LawfulView z g id (record v { loaded = loaded; lost = lost; busy = busy; stale = stale }) = assumption (loads, view_of sat) in
      still sat own (λ c. refl) refl

-- the deeds of a table with other erases
abbrev pub erased_as : World → (ℕ → ℕ → Option (Name × ℕ)) → (Name → List Cycle) → Deeds
erased_as g eraser erases = record (deeds g) { eraser = eraser; erases = erases }

-- ---- what a seat at rest has
module _ {z : Numbers} {g : World} {vs : List View} {id : ℕ} {v : View} (sat : Seated z g vs id v) (b : ℕ)
    (broom : is_broom v.role ≡ true) (low : b < z.blocks) (rested : IsAtRest v) where
  -- no source
  no_source : (x : Source) → v.source ≡ Some x → ⊥
  no_source x is =
      let k = (view_of sat).holding.source x is in
      let no : Open ≡ Victim = sym (rested x.page.block k.entry k.own) ∙ k.victim in absurd (cc)

  not_pass : is_pass v.role ≡ true → ⊥
  not_pass is = clash is (ap is_pass (broom_of v.role broom).1)

  owns_some : may_own v.role ≡ false → ⊥
  owns_some = clash (ap may_own (broom_of v.role broom).1)

  -- ---- claim
  abbrev pub claimed_block : Owned
  claimed_block = owned_as b (g.pins b) Victim

  abbrev pub claimed_state : PinWord
  claimed_state = record (g.pins b) { phase = Victim }

  abbrev pub claimer : View
  claimer = record v { owns = with_owned claimed_block v.owns; cleared = 0 }

  -- a closed block is the broom's victim
  pub claims : (g.pins b).phase ≡ Closed → Lawful z (moved g b claimed_state id) (set vs id claimer)
  claims closed =
      let block = sat.law.blocks b low in
      let q : PinWord = claimed_state in
      let fresh : LawfulOwned z (moved g b claimed_state id) id v.work 0 v.wiped b claimed_block = grind arith in
      turns sat claimer b q (deeds g) low
      (ceded_owned sat claimer refl b q refl refl refl
      (inr (refl, (let e : rank (g.pins b).phase ≡ 2 = ap rank closed in omega arith), omega arith)))
      (record {
        onward = grind arith;
        alone = λ _ is. clash is (ap is_owned closed);
        state = record { readers = refl; written = block.written; generation = block.generation; free = λ is. absurd (cc) };
        rest = λ _. block.rest (ap is_still closed);
        owner = λ _. (claimed_block, with_here claimed_block v.owns);
        named = λ s m _ _ _ _. (refl, refl, omega arith);
        listing = none_listed z g id v claimer b q (view_of sat).kind (λ is. ((view_of sat).kind.idle is).0) refl refl;
        owning = got claimer fresh (λ is. absurd (not_pass is)) owns_some
            (one_at_rest claimed_block v.owns rested);
        no_more = record { filling = λ _ _ _ _ _ f. f; cleared = omega arith; wiped = omega arith };
        work = work_else sat claimer b q (deeds g) (λ is. let no : Closed ≡ Open = sym closed ∙ is in absurd (cc))
            (λ c unlike. with_else claimed_block c v.owns unlike);
        source = λ x is _. absurd (no_source x is);
      })

  -- ---- condemn
  abbrev pub condemned_block : Owned
  condemned_block = owned_as b (g.pins b) Erasing

  abbrev pub condemned_state : PinWord
  condemned_state = record (g.pins b) { phase = Erasing }

  abbrev pub condemner : View
  condemner = record v { owns = with_owned condemned_block v.owns; erases = v.erases ++ cycle_of condemned_block ∷ []; wiped = 0 }

  abbrev pub listed : Name → ℕ → ℕ → Option (Name × ℕ)
  listed n = put2 g.eraser b (g.pins b).generation (Some (n, length v.erases))

  abbrev pub all_erases : Name → Name → List Cycle
  all_erases n = put_name g.erases n (v.erases ++ cycle_of condemned_block ∷ [])

  abbrev pub condemn_deeds : Name → Deeds
  condemn_deeds n = erased_as g (listed n) (all_erases n)

  abbrev pub condemn_world : Name → World
  condemn_world n = turned g b condemned_state id (condemn_deeds n)

  -- the erase is listed as this broom's
  erase_listed : (n : Name) → v.role ≡ Player n → (n' : Name) → v.role ≡ Player n' → Erases z (condemn_world n) n' v.erases
      → Erases z (condemn_world n) n' (v.erases ++ cycle_of condemned_block ∷ [])
  erase_listed n role n' role' old k c is =
      ⊎_elim (λ (was : slice_get v.erases k ≡ Some c). old k c was)
      (grind (arith, put_here, player_same, put2_here))
      (get_last v.erases (cycle_of condemned_block) c k is)

  erases_listed : (n : Name) → v.role ≡ Player n → (g.pins b).phase ≡ Drained → IsListed z g (condemn_world n) id v condemner
  erases_listed n role drained =
      let holds = (view_of sat).holding in
      let even : half_cycle (g.pins b).phase ≡ 0 = ap half_cycle drained in
      record {
        programmer = λ m _. refl;
        eraser = grind (arith, put2_else);
        idle = clash (broom_player v.role broom);
        programs = λ _ _ old. old;
        erases = erase_listed n role;
        lists = λ m _. record {
          programs = Begins-refl (g.programs m);
          erases = name_all g.erases n condemner.erases (λ k l. Begins (g.erases k) l)
              (cycle_of condemned_block ∷ [], ap (λ l. l ++ cycle_of condemned_block ∷ []) (holds.lists n role).1) (λ k _. Begins-refl (g.erases k)) m;
          others = λ other. (refl, name_else g.erases n condemner.erases m (λ same. other (ap g.seat same ∙ (holds.name n role).0)));
        };
        listed = grind arith;
      }

  -- a drained block without readers is the broom's to erase
  pub condemns : (n : Name) → v.role ≡ Player n → (g.pins b).phase ≡ Drained → (g.pins b).readers ≡ 0 → Lawful z (condemn_world n) (set vs id condemner)
  condemns n role drained unread =
      let block = sat.law.blocks b low in
      let q : PinWord = condemned_state in
      let even : half_cycle (g.pins b).phase ≡ 0 = ap half_cycle drained in
      let fresh : LawfulOwned z (condemn_world n) id v.work v.cleared 0 b condemned_block = grind arith in
      turns sat condemner b q (condemn_deeds n) low
      (ceded_owned sat condemner refl b q refl refl refl
      (inr (refl, (let e : rank (g.pins b).phase ≡ 4 = ap rank drained in omega arith), omega arith)))
      (record {
        onward = grind arith;
        alone = λ _ is. clash is (ap is_owned drained);
        state = record { readers = refl; written = block.written; generation = block.generation; free = λ is. absurd (cc) };
        rest = λ is. absurd (cc);
        owner = λ _. (condemned_block, with_here condemned_block v.owns);
        named = λ s m _ _ same current. clash (ap (λ j. is_nameable (g.pins j).phase) (sym same) ∙ current.phase) (ap is_nameable drained);
        listing = erases_listed n role drained;
        owning = got condemner fresh (λ is. absurd (not_pass is)) owns_some
            (one_at_rest condemned_block v.owns rested);
        no_more = record { filling = λ _ _ _ _ _ f. f; cleared = omega arith; wiped = omega arith };
        work = work_else sat condemner b q (condemn_deeds n) (λ is. let no : Drained ≡ Open = sym drained ∙ is in absurd (cc))
            (λ c unlike. with_else condemned_block c v.owns unlike);
        source = λ x is _. absurd (no_source x is);
      })

-- ---- drain
module _ {z : Numbers} {g : World} {vs : List View} {id : ℕ} {v : View} (sat : Seated z g vs id v) (o : Owned) where
  abbrev pub drained_state : PinWord
  drained_state = record (g.pins o.block) { phase = Drained }

  abbrev pub drained_block : Owned
  drained_block = record o { phase = Drained }

  abbrev pub drainer : View
  drainer = record v { owns = without o.block v.owns; drains = v.drains ++ cycle_of o ∷ []; ceded = v.ceded ++ drained_block ∷ [] }

  -- a victim whose written pages are all cleared is drained, and nobody's
  pub drains_block : CanDrain v o → Lawful z (moved g o.block drained_state id) (set vs id drainer)
  drains_block can =
      let b : ℕ = o.block in
      let h = view_of sat in
      let mine = h.holding.owned b o can.own in
      let block = sat.law.blocks b mine.low in
      let victim : (g.pins b).phase ≡ Victim = mine.phase ∙ can.victim in
      let written_is = mine.written in
      turns sat drainer b drained_state (deeds g) mine.low
      (ceded_last sat drainer refl b drained_state mine.low
      (inr (refl, (let e : rank (g.pins b).phase ≡ 3 = ap rank victim in omega arith), omega arith))
      drained_block (λ i. record { block = b; phase = Drained; generation = sym mine.generation i; written = sym mine.written i }) refl refl
      (may_own_else v.role (λ is. owns_none_else v.owns o can.own (h.kind.owns_none is))))
      (record {
        onward = grind arith;
        alone = λ other _. other mine.owner;
        state = record { readers = refl; written = block.written; generation = block.generation; free = λ is. absurd (cc) };
        rest = λ _. block.rest (ap is_still victim);
        owner = λ is. absurd (cc);
        named = λ s m in_range is same current.
            let page : m.page < (g.pins b).written = subst (λ j. m.page < (g.pins j).written) same current.written in
            let generation : m.generation ≡ o.generation = sym current.same ∙ (ap (λ j. (g.pins j).generation) same ∙ mine.generation) in
            let here : g.map s ≡ Some (record { generation = o.generation; block = b; page = m.page }) =
            is ∙ (λ i. Some (record { generation = generation i; block = same i; page = m.page })) in
            ⊎_elim (λ (cleared : o.written ≤ v.cleared). absurd (mine.dead can.victim m.page s (omega arith) in_range here))
            (λ inspected. absurd (inspected_dead z g v.inspection h.knowledge.inspection b o.generation mine.generation s m.page
            (let all = inspected.all in let e : v.numbers.sectors ≡ z.sectors = ap (λ (y : Numbers). y.sectors)
            (h.kind.numbers (owner_live v.role (λ is. owns_none_else v.owns o can.own (h.kind.owns_none is)))) in omega arith) in_range here)) can.emptied;
        listing = none_listed z g id v drainer b drained_state h.kind (λ is. (h.kind.idle is).0) refl refl;
        owning = given_up drainer h.kind;
        no_more = record { filling = λ _ _ _ _ _ f. f; cleared = omega arith; wiped = omega arith };
        work = work_else sat drainer b drained_state (deeds g) (λ is. let no : Victim ≡ Open = sym victim ∙ is in absurd (cc))
            (λ c unlike. without_else b c v.owns unlike);
        source = grind arith;
      })

module _ {z : Numbers} {g : World} {vs : List View} {id : ℕ} {v : View} {o : Owned} (sat : Seated z g vs id v)
    (erasing : IsErasing v o) where
  entry : LawfulOwned z g id v.work v.cleared v.wiped o.block o
  entry = (view_of sat).holding.owned o.block o erasing.own

  pub erasing_low : o.block < z.blocks
  erasing_low = entry.low

  pub is_erasing : (g.pins o.block).phase ≡ Erasing
  is_erasing = entry.phase ∙ erasing.erasing

  pub erasing_written : (g.pins o.block).written ≡ o.written
  erasing_written = entry.written

  not_intact : is_intact (g.pins o.block).phase ≡ true → ⊥
  not_intact is = clash is (ap is_intact is_erasing)

  not_named : is_nameable (g.pins o.block).phase ≡ true → ⊥
  not_named is = clash is (ap is_nameable is_erasing)

  not_open : (g.pins o.block).phase ≡ Open → ⊥
  not_open is = let no : Erasing ≡ Open = sym is_erasing ∙ is in absurd (cc)

  eraser_numbers : v.numbers ≡ z
  eraser_numbers = (view_of sat).kind.numbers (owner_live v.role (λ is. owns_none_else v.owns o erasing.own ((view_of sat).kind.owns_none is)))

  eraser_owns : may_own v.role ≡ true
  eraser_owns = may_own_else v.role (λ is. owns_none_else v.owns o erasing.own ((view_of sat).kind.owns_none is))

  -- a turn of the block: what is told of its new state is all that has to be shown
  turn_with : (q : PinWord) (owns ceded : List Owned) → PinOnward (g.pins o.block) q → IsState z (g.pins o.block) q
      → (is_still q.phase ≡ true → (p : ℕ) → q.written ≤ p → p < z.pages → IsBlank z (g.pages o.block p))
      → (is_owned q.phase ≡ true → (e : Owned) × (owned_at o.block owns ≡ Some e))
      → IsOwning z (moved g o.block q id) id v (record v { owns = owns; ceded = ceded }) o.block
      → IsTurn z g id v (record v { owns = owns; ceded = ceded }) o.block q (deeds g)
  turn_with q owns ceded onward state rest owner owning =
      let kind = (view_of sat).kind in
      let w : View = record v { owns = owns; ceded = ceded } in
      record {
        onward = onward;
        alone = λ other _. other entry.owner;
        state = state;
        rest = rest;
        owner = owner;
        named = λ s m _ _ same current. absurd (not_named (ap (λ j. is_nameable (g.pins j).phase) (sym same) ∙ current.phase));
        listing = none_listed z g id v w o.block q kind (λ is. (kind.idle is).0) refl refl;
        owning = owning;
        no_more = record { filling = λ _ _ _ _ _ f. f; cleared = omega arith; wiped = omega arith };
        work = work_else sat w o.block q (deeds g) not_open owning.there;
        source = λ x _ k. (grind (arith, k), refl);
      }

  -- ---- retire
  abbrev pub retired_state : PinWord
  retired_state = record (g.pins o.block) { phase = Retired }

  abbrev pub retired_block : Owned
  retired_block = record o { phase = Retired }

  abbrev pub retirer : View
  retirer = record v { owns = without o.block v.owns; ceded = v.ceded ++ retired_block ∷ [] }

  -- a block that is being erased retires
  pub retires : Lawful z (moved g o.block retired_state id) (set vs id retirer)
  retires =
      let b : ℕ = o.block in
      let h = view_of sat in
      let block = sat.law.blocks b entry.low in
      turns sat retirer b retired_state (deeds g) entry.low
      (ceded_last sat retirer refl b retired_state entry.low
      (inr (refl, (let e : rank (g.pins b).phase ≡ 5 = ap rank is_erasing in omega arith), omega arith))
      retired_block (λ i. record { block = b; phase = Retired; generation = sym entry.generation i; written = sym entry.written i }) refl
      (sym (append-nil v.drains)) eraser_owns)
      (turn_with retired_state (without b v.owns) (v.ceded ++ retired_block ∷ [])
      (phase_onward (g.pins b) Retired (let e : half_cycle (g.pins b).phase ≡ 1 = ap half_cycle is_erasing in omega arith)
      (λ _ is. absurd (not_intact is)) (λ is. absurd (cc)) (λ is. absurd (cc)) (λ _. refl))
      (record { readers = refl; written = block.written; generation = block.generation; free = λ is. absurd (cc) }) (λ is. absurd (cc)) (λ is. absurd (cc))
      (given_up retirer h.kind))

  -- ---- the next generation
  -- all words of a wiped block are ones
  all_blank : CanRenew v o → (p : ℕ) → p < z.pages → IsBlank z (g.pages o.block p)
  all_blank can p below i most = grind (arith, eraser_numbers, row_within, entry)

  young : CanRenew v o → (g.pins o.block).generation + 1 < z.endurance
  young can = grind (arith, eraser_numbers, entry)

  renewed : (q : PinWord) → q.generation ≡ (g.pins o.block).generation + 1 → PinOnward (g.pins o.block) q
  renewed q next = grind (arith, is_erasing, not_intact)

  -- ---- free
  abbrev pub freed_state : PinWord
  freed_state = record (g.pins o.block) { phase = Free; written = 0; generation = (g.pins o.block).generation + 1 }

  abbrev pub freer : View
  freer = record v { owns = without o.block v.owns; ceded = v.ceded ++ freed_as o ∷ [] }

  -- a wiped block is free in its next generation
  pub frees : CanRenew v o → Lawful z (moved g o.block freed_state id) (set vs id freer)
  frees can =
      let b : ℕ = o.block in
      let h = view_of sat in
      turns sat freer b freed_state (deeds g) entry.low
      (ceded_last sat freer refl b freed_state entry.low (inl (omega arith)) (freed_as o)
      (λ i. record { block = b; phase = Free; generation = sym entry.generation i + 1; written = 0 }) refl (sym (append-nil v.drains)) eraser_owns)
      (turn_with freed_state (without b v.owns) (v.ceded ++ freed_as o ∷ []) (renewed freed_state refl)
      (record { readers = refl; written = omega arith; generation = young can; free = λ _. refl })
      (λ _ p _ below. all_blank can p below) (λ is. absurd (cc)) (given_up freer h.kind))

  -- ---- keep
  abbrev pub kept_block : Owned
  kept_block = record { block = o.block; phase = Open; generation = o.generation + 1; written = 0 }

  abbrev pub kept_state : PinWord
  kept_state = record (g.pins o.block) { phase = Open; written = 0; generation = (g.pins o.block).generation + 1 }

  abbrev pub keeper : View
  keeper = record v { owns = with_owned kept_block v.owns }

  -- a wiped block is its eraser's, open in its next generation
  pub keeps_block : CanRenew v o → Lawful z (moved g o.block kept_state id) (set vs id keeper)
  keeps_block can =
      let b : ℕ = o.block in
      let h = view_of sat in
      let fresh : LawfulOwned z (moved g o.block kept_state id) id v.work v.cleared v.wiped b kept_block = grind (arith, block_owned, entry, all_blank) in
      turns sat keeper b kept_state (deeds g) entry.low
      (ceded_owned sat keeper refl b kept_state refl refl refl (inl (omega arith)))
      (turn_with kept_state (with_owned kept_block v.owns) v.ceded (renewed kept_state refl)
      (record { readers = refl; written = omega arith; generation = young can; free = λ is. absurd (cc) })
      (λ is. absurd (cc)) (λ _. (kept_block, with_here kept_block v.owns))
      (got keeper fresh (λ _. refl) (λ is. owns_none_else v.owns o erasing.own (h.kind.owns_none is))
      (one_with_open kept_block v.owns refl h.kind.reclaims)))
