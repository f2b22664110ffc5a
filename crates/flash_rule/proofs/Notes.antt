-- The moves of notes: lend, take in, give back, come home.
use Rattle.flash_rule.proofs.Words.{◌≡◌, ◌≢◌, ℕ, ◌⊎◌, inl, inr, ⊎_elim, true, false, List, [], Option, None, Some, length, set, sym, refl, ap, ◌∙◌, subst}
use Rattle.flash_rule.proofs.Words.{arith, some, some-injective, dite, ℕ_discrete, get_elem?, Splits, at_set, set_else, Begins-refl, Begins, Numbers, Name}
use Rattle.flash_rule.proofs.Words.{Dealer, Player, Note, Owned, Pin, Carried, View, one_if, is_pass, is_live_role, may_own, Gone, pin_is_on, pins_on, weight}
use Rattle.flash_rule.proofs.Words.{role_weight, owned_at, World, put_name, LawfulBlock, LawfulCopy, Grown, LawfulKnowledge, LawfulView, Lawful, IsDealt}
use Rattle.flash_rule.proofs.Words.{Onward, Ruled, gone, Work, Source, LawfulOwned, LawfulWork, LawfulSource, total, is_owned, ◌++◌, ◌∷◌}
use Rattle.flash_rule.proofs.{Ceding.ceded_split, Ceding.ceded_gone, Still.onward_called, Still.rest_of}
use Rattle.flash_rule.proofs.Points.{player_same, total_set, name_here, name_else}
use Rattle.flash_rule.proofs.Owning.{nothing, some_same, none_some, owned_as, source_with, work_with, Seated, view_of}
use Rattle.flash_rule.proofs.Frames.{begins_same, others, knowledge_kept, copy_kept, owner_kept, sector_kept, view_to}
use Rattle.flash_rule.proofs.Splitting.{split, Owner, knowledge_fresh}
use Rattle.atomic_table.specs.Table.{Joins}
use Rattle.flash_rule.specs.Seats.{newcomer, name_of, carried, lender, lent_note, host_of, giver, given_note, home}

-- the table with one badge moved, and what it has with it
abbrev pub badged : World → Name → ℕ → Option Carried → World
badged g n seat c = record g { badge = put_name g.badge n seat; carries = put_name g.carries n c }

-- the badge was with one of the two seats
badge_moves : (z : Numbers) (g : World) (id other : ℕ) (n : Name) (seat : ℕ) (c : Option Carried) → (g.badge n ≡ id) ⊎ (g.badge n ≡ other)
    → ((d : Carried) → c ≡ Some d → (d.programs ≡ g.programs d.of) × (d.erases ≡ g.erases d.of)) → Onward z g (badged g n seat c) id other
badge_moves z g id other n seat c was all =
    onward_called (Begins-refl g.history) (λ _ _. refl)
    (λ _ _ p i. refl) (λ b p i _ _. refl) (λ s m is. inl is) (grind arith) (grind arith)

pub as_dealt : (g : World) (n : Name) (seat : ℕ) (c : Option Carried) (m : Name) → IsDealt g m → IsDealt (badged g n seat c) m
as_dealt g n seat c m low = grind arith

-- a new note: the badge of n, and copies of a player's lists
note_lawful : (z : Numbers) (g : World) (seat : ℕ) (v : View) (owner n : Name) → v.numbers ≡ z → v.role ≡ Player owner → IsDealt g owner
    → (g.programs owner ≡ v.programs) × (g.erases owner ≡ v.erases)
    → LawfulKnowledge z g v → g.badge n ≡ seat → IsDealt g n → g.carries n ≡ Some (carried v) → ((d : Carried) → g.carries owner ≡ Some d → Grown (carried v) d)
    → LawfulView z g seat (record (newcomer v.numbers Note) { guest = Some n; copy = Some (carried v) })
note_lawful z g seat v owner n numbers role known lists knows here dealt carries out =
    let of_is : owner ≡ name_of v.role = sym (grind (arith, role)) in
    let P : Name → Type 0 = λ k. IsDealt g k × Begins v.programs (g.programs k) × Begins v.erases (g.erases k) in
    let of_owner : P owner = (known, begins_same v.programs (g.programs owner) lists.0, begins_same v.erases (g.erases owner) lists.1) in
    let copied : P (name_of v.role) = subst P of_is of_owner in
    record {
      kind = grind arith;
      knowledge = record {
        seen = (g.history, refl);
        pin = tt;
        known = λ b _. omega arith;
        programs = λ m is. absurd (cc);
        erases = λ m is. absurd (cc);
        loads = λ k b p at. absurd (nothing k _ at);
        inspection = λ x is. absurd (none_some x is);
        copy = λ c is.
            subst (λ (c : Carried). LawfulCopy z g Note c) (some_same (carried v) c is)
            (record {
              dealt = copied.0;
              other = λ e. absurd (cc);
              seen = knows.seen;
              programmed = copied.1;
              erased = copied.2;
              programs = knows.programs (name_of v.role) (role ∙ ap Player of_is);
              erases = knows.erases (name_of v.role) (role ∙ ap Player of_is);
            });
        older = λ o c is. absurd (none_some o is);
        out = grind arith;
      };
      holding = grind arith;
    }

-- copies that a player makes are of all that it did
copies_all : (g : World) (v : View) (n : Name) → v.role ≡ Player n → (g.programs n ≡ v.programs) × (g.erases n ≡ v.erases)
    → (d : Carried) → Some (carried v) ≡ Some d → (d.programs ≡ g.programs d.of) × (d.erases ≡ g.erases d.of)
copies_all g v n role lists d is = grind arith

-- a player's view after a move of a badge, by which only its guest, its copies and whether it is whole may be others
badged_view : (z : Numbers) (g : World) (id : ℕ) (v w : View) (n m : Name) (seat : ℕ) (c : Option Carried) → v.role ≡ Player n → LawfulView z g id v
    → ((k l : Name) → v.role ≡ Player k → w.guest ≡ Some l → w.whole ≡ true)
    → LawfulKnowledge z (badged g m seat c) (record v { guest = w.guest; whole = w.whole; copy = w.copy; older = w.older })
    → (w.whole ≡ true → (k : Name) → v.role ≡ Player k → put_name g.badge m seat k ≡ id)
    → ((k : Name) → w.guest ≡ Some k → (put_name g.badge m seat k ≡ id) × IsDealt (badged g m seat c) k)
    → ((k : Name) → v.role ≡ Player k → w.whole ≡ true → put_name g.carries m c k ≡ None)
    → LawfulView z (badged g m seat c) id (record v { guest = w.guest; whole = w.whole; copy = w.copy; older = w.older })
badged_view z g id v w n m seat c role h host knowledge whole guest home =
    let g' : World = badged g m seat c in
    let name : (k : Name) → v.role ≡ Player k → (g.seat k ≡ id) × IsDealt g' k = grind arith in
    let owned : (b : ℕ) (o : Owned) → owned_at b v.owns ≡ Some o → LawfulOwned z g' id v.work v.cleared v.wiped b o = λ b o is.
    owned_as (h.holding.owned b o is) refl refl refl refl in
    let work : (x : Work) → v.work ≡ Some x → LawfulWork z g' v.owns x = λ x is. let k = h.holding.work x is in work_with k k.own (λ _. refl) in
    let source : (x : Source) → v.source ≡ Some x → LawfulSource z g' v.owns v.cleared x = λ x is.
    let k = h.holding.source x is in source_with k k.own refl (λ _. refl) in
    let note : (k : Name) → v.role ≡ Note → w.guest ≡ Some k → g'.carries k ≡ w.copy = λ k is. absurd (cc) in
    let dealer : v.role ≡ Dealer → (id ≡ 0) × (v.passes ≡ g.passes) × (v.brooms ≡ g.brooms) = λ is. absurd (cc) in
    assumption (host, knowledge, whole, guest, home, name, owned, work, source, note, dealer, h)

-- a new note of a player, with this badge
abbrev note_of : View → Option Name → View
note_of v guest = record (newcomer v.numbers Note) { guest = guest; copy = Some (carried v) }

module _ (z : Numbers) (id : ℕ) (v : View) (n : Name) (role : v.role ≡ Player n) where
  -- a new note, with the badge of m, and what it leaves of its seat
  note_leaves : {g : World} {vs : List View} (sat : Seated z g vs id v) (m : Name) (w : View) → g.badge m ≡ id → IsDealt g m
      → LawfulView z (badged g m (length vs) (Some (carried v))) id w
      → ((d : Carried) → put_name g.carries m (Some (carried v)) n ≡ Some d → Grown (carried v) d)
      → ((b : ℕ) → pins_on b w ≡ pins_on b v) → rest_of w ≡ rest_of v
      → Lawful z (badged g m (length vs) (Some (carried v))) (set vs id w ++ note_of v (Some m) ∷ [])
  note_leaves {g} {vs} sat m w was dealt own out pin same =
      let h = view_of sat in
      let new : ℕ = length vs in
      let g' : World = badged g m new (Some (carried v)) in
      let lists = h.holding.lists n role in
      let on : Onward z g g' id id = badge_moves z g id id m new (Some (carried v)) (inl was) (copies_all g v n role lists) in
      let added : LawfulView z g' new (note_of v (Some m)) = note_lawful z g' new v n m (h.kind.numbers (ap is_live_role role)) role
      (as_dealt g m new (Some (carried v)) n (h.holding.name n role).1) lists (knowledge_kept on sat)
      (name_here g.badge m new) (as_dealt g m new (Some (carried v)) m dealt) (name_here g.carries m (Some (carried v))) out in
      let weighs : weight z w ≡ weight z v = ap (weight z) same in
      let ceded = ceded_split sat w (note_of v (Some m)) (ap (λ (x : View). x.role) same) (ap (λ (x : View). x.ceded) same)
      (ap (λ (x : View). x.drains) same) refl refl in
      split sat g' w (note_of v (Some m)) refl on own added pin refl (ap (λ (x : View). x.owns) same) (omega arith) (omega arith) sat.law.dealt ceded

  -- LEND
  pub lends : v.whole ≡ true → v.guest ≡ None → Splits (Ruled z) id v (lender v) (lent_note v)
  lends whole alone s (g, fits, law) at =
      let sat : Seated z g s.views id v = record { law = law; at = at } in
      let h = view_of sat in
      let new : ℕ = length s.views in
      let g' : World = badged g n new (Some (carried v)) in
      let was : g.badge n ≡ id = h.holding.whole whole n role in
      let on : Onward z g g' id id =
      badge_moves z g id id n new (Some (carried v)) (inl was) (copies_all g v n role (h.holding.lists n role)) in
      let knows : LawfulKnowledge z g' (lender v) = assumption (knowledge_kept on sat) in
      let own : LawfulView z g' id (lender v) = badged_view z g id v (lender v) n n new (Some (carried v)) role h
      (λ _ m _ is. absurd (none_some m (sym alone ∙ is))) knows (λ is. absurd (cc)) (λ m is. absurd (none_some m (sym alone ∙ is))) (λ m _ is. absurd (cc)) in
      let grown : (d : Carried) → g'.carries n ≡ Some d → Grown (carried v) d = grind arith in
      let after = note_leaves sat n (lender v) was (h.holding.name n role).1 own grown (λ b. refl) refl in
      let P : Name → Type 0 = λ m. Lawful z g' (set s.views id (lender v) ++ note_of v (Some m) ∷ []) in
      (g', fits, subst P (sym (ap name_of role)) after)

  -- GIVE BACK
  pub gives : (m : Name) → v.guest ≡ Some m → ¬ (v.role ≡ Player m) → Splits (Ruled z) id v (giver v) (given_note v)
  gives m guest apart s (g, fits, law) at =
      let sat : Seated z g s.views id v = record { law = law; at = at } in
      let h = view_of sat in
      let new : ℕ = length s.views in
      let g' : World = badged g m new (Some (carried v)) in
      let was = h.holding.guest m guest in
      let on : Onward z g g' id id =
      badge_moves z g id id m new (Some (carried v)) (inl was.0) (copies_all g v n role (h.holding.lists n role)) in
      let unlike : ¬ (n ≡ m) = λ same. apart (role ∙ ap Player same) in
      let nothing_out : g'.carries n ≡ None = name_else g.carries m (Some (carried v)) n unlike ∙ h.holding.home n role (h.kind.host n m role guest) in
      let knows : LawfulKnowledge z g' (giver v) = assumption (knowledge_kept on sat) in
      let own : LawfulView z g' id (giver v) = badged_view z g id v (giver v) n m new (Some (carried v)) role h
      (λ _ k _ is. absurd (none_some k is)) knows
      (λ is k role'. name_else g.badge m new k (λ same. apart (role' ∙ ap Player same)) ∙ h.holding.whole is k role')
      (λ k is. absurd (none_some k is))
      (λ k is _. ap g'.carries (sym (player_same n k (sym role ∙ is))) ∙ nothing_out) in
      let after = note_leaves sat m (giver v) was.0 was.1 own (λ d is. absurd (none_some d (sym nothing_out ∙ is))) (λ b. refl) refl in
      let P : Option Name → Type 0 = λ x. Lawful z g' (set s.views id (giver v) ++ note_of v x ∷ []) in
      (g', fits, subst P (sym guest) after)

-- ---- a note is joined into a player's seat
gone_lawful : (z : Numbers) (g : World) (seat : ℕ) → LawfulView z g seat gone
gone_lawful z g seat =
    record {
      kind = grind arith;
      knowledge = knowledge_fresh gone.numbers Gone [] [] false (λ b _. omega arith);
      holding = grind arith;
    }

module _ {z : Numbers} {g : World} {vs : List View} {id other : ℕ} {v w : View} (sat : Seated z g vs id v) (there : Seated z g vs other w)
    (apart : ¬ (other ≡ id)) (note : w.role ≡ Note) (u : View) (n : Name) (same : rest_of u ≡ rest_of v) (counted : (b : ℕ) → pins_on b u ≡ pins_on b v) where
  there' : get_elem? (set vs id u) other ≡ some w
  there' = set_else vs id other u apart ∙ there.at

  join_block : (b : ℕ) → LawfulBlock z g vs b → LawfulBlock z (badged g n id None) (set (set vs id u) other gone) b
  join_block b block =
      let t = total_set (pins_on b) vs id v u sat.at in
      let t' = total_set (pins_on b) (set vs id u) other w gone there' in
      let none : pins_on b w ≡ 0 = ap (λ (p : Pin). one_if (pin_is_on b p)) ((view_of there).kind.unpinned (ap is_pass note)) in
      let before = block.readers in
      let pins = counted b in
      let readers : (g.pins b).readers ≡ total (pins_on b) (set (set vs id u) other gone) = omega arith in
      let owner : is_owned (g.pins b).phase ≡ true → Owner g (set (set vs id u) other gone) b = λ owned.
      let k = owner_kept sat u block owned refl (λ o is. (o, ap (λ (x : View). owned_at b x.owns) same ∙ is)) in
      dite (ℕ_discrete (g.owner b) other)
      (λ is.
      let its : k.0 ≡ w = some-injective k.0 w (sym k.2 ∙ (ap (λ j. get_elem? (set vs id u) j) is ∙ there')) in
      let none_owned = ap (owned_at b) ((view_of there).kind.owns_none (ap may_own note)) in
      absurd (none_some k.1 (sym none_owned ∙ (ap (λ (x : View). owned_at b x.owns) (sym its) ∙ k.3))))
      (λ unlike. (k.0, k.1, set_else (set vs id u) other (g.owner b) gone unlike ∙ k.2, k.3)) in
      assumption (readers, owner, block)

  join : (g.badge n ≡ id) ⊎ (g.badge n ≡ other) → LawfulView z (badged g n id None) id u → Lawful z (badged g n id None) (set (set vs id u) other gone)
  join was own =
      let law = sat.law in
      let on : Onward z g (badged g n id None) id other = badge_moves z g id other n id None was (λ d is. absurd (none_some d is)) in
      record {
        limits = law.limits;
        sectors = λ s low. sector_kept (law.sectors s low) refl refl (λ b low named. (refl, named, omega arith, λ p i _. refl));
        callers = law.callers;
        blocks = λ b low. join_block b (law.blocks b low);
        views = λ j x is.
            ⊎_elim
            (λ (t : (j ≡ other) × (gone ≡ x)). view_to (gone_lawful z (badged g n id None) other) (sym t.0) t.1)
            (λ (t : (j ≢ other) × (get_elem? (set vs id u) j ≡ some x)). ⊎_elim
            (λ (k : (j ≡ id) × (u ≡ x)). view_to own (sym k.0) k.1)
            (λ (k : (j ≢ id) × (get_elem? vs j ≡ some x)). others on (record { law = law; at = k.1 }) k.0 t.0) (at_set vs id j u x t.1))
            (at_set (set vs id u) other j gone x is);
        strangers = law.strangers;
        seats = (let s = total_set (weight z) vs id v u sat.at in let t = total_set (weight z) (set vs id u) other w gone there' in let e = law.seats in
            let weighs : weight z u ≡ weight z v = ap (weight z) same in
            let none : weight z w ≡ 0 = ap (λ r. role_weight z.hosts r w.passes) note in omega arith);
        dealt = law.dealt;
        ceded = ceded_gone sat u gone apart there (ap may_own note) (ap (λ (x : View). x.role) same) (ap (λ (x : View). x.ceded) same)
            (ap (λ (x : View). x.drains) same) refl refl;
      }

module _ (z : Numbers) (id other : ℕ) (v w : View) (n m : Name) (c : Carried) (role : v.role ≡ Player n) (note : w.role ≡ Note)
    (guest : w.guest ≡ Some m) (copy : w.copy ≡ Some c) where
  -- the copies of the note are lawful for another player
  copied : (g : World) → LawfulCopy z g w.role c → ¬ (v.role ≡ Player c.of) → (d : Carried) → w.copy ≡ Some d → LawfulCopy z g v.role d
  copied g new other d is = subst (λ (d : Carried). LawfulCopy z g v.role d) (some_same c d (sym copy ∙ is)) (grind (arith, new, other))

  -- TAKE IN
  pub takes_in : v.whole ≡ true → c.of ≡ m → Joins (Ruled z) id v other w (host_of v w) gone
  takes_in whole of_is s (g, fits, law) at apart is_there =
      let sat : Seated z g s.views id v = record { law = law; at = at } in
      let there : Seated z g s.views other w = record { law = law; at = sym (set_else s.views id other (host_of v w) apart) ∙ is_there } in
      let h = view_of sat in
      let k = view_of there in
      let g' : World = badged g m id None in
      let was = k.holding.guest m guest in
      let names : ¬ (n ≡ m) = λ e. apart (sym was.0 ∙ (ap g.badge (sym e) ∙ h.holding.whole whole n role)) in
      let on : Onward z g g' id other = badge_moves z g id other m id None (inr was.0) (λ d is. absurd (none_some d is)) in
      let none_here : g'.carries m ≡ None = name_here g.carries m None in
      let nothing_out : g'.carries n ≡ None = name_else g.carries m None n names ∙ h.holding.home n role whole in
      let its : (d : Carried) → w.copy ≡ Some d → m ≡ d.of = λ d is. sym of_is ∙ ap (λ (x : Carried). x.of) (some_same c d (sym copy ∙ is)) in
      let copies : (d : Carried) → w.copy ≡ Some d → LawfulCopy z g' v.role d = copied g' (copy_kept on w.role c (k.knowledge.copy c copy))
      (λ e. names (player_same n m (sym role ∙ (e ∙ ap Player of_is)))) in
      let older : (o d : Carried) → v.copy ≡ Some o → w.copy ≡ Some d → o.of ≡ d.of → Grown o d = λ o d old new same.
      h.knowledge.out m o d (inl (its d new ∙ sym same)) old (k.holding.note m note guest ∙ new) same in
      let out : (x : Name) (d e : Carried) → (x ≡ d.of) ⊎ (v.role ≡ Player x) → w.copy ≡ Some d → g'.carries x ≡ Some e → d.of ≡ e.of → Grown d e =
      grind arith in
      let learnt : LawfulKnowledge z g' (host_of v w) = assumption (copies, older, out, knowledge_kept on sat) in
      let own : LawfulView z g' id (host_of v w) = badged_view z g id v (host_of v w) n m id None role h (λ _ _ _ _. whole) learnt
      (λ is x role'. name_else g.badge m id x (λ same. names (player_same n x (sym role ∙ role') ∙ same)) ∙ h.holding.whole is x role')
      (λ x is. subst (λ x. (g'.badge x ≡ id) × IsDealt g' x) (some_same m x (sym guest ∙ is)) (name_here g.badge m id, as_dealt g m id None m was.1))
      (λ x is _. ap g'.carries (sym (player_same n x (sym role ∙ is))) ∙ nothing_out) in
      (g', fits, join sat there apart note (host_of v w) m refl (λ b. refl) (inr was.0) own)

  -- COME HOME
  pub comes_home : m ≡ n → ¬ (v.role ≡ Player c.of) → Joins (Ruled z) id v other w (home v w) gone
  comes_home mine unlike s (g, fits, law) at apart is_there =
      let sat : Seated z g s.views id v = record { law = law; at = at } in
      let there : Seated z g s.views other w = record { law = law; at = sym (set_else s.views id other (home v w) apart) ∙ is_there } in
      let h = view_of sat in
      let k = view_of there in
      let g' : World = badged g m id None in
      let was = k.holding.guest m guest in
      let on : Onward z g g' id other = badge_moves z g id other m id None (inr was.0) (λ d is. absurd (none_some d is)) in
      let none_here : g'.carries m ≡ None = name_here g.carries m None in
      let copies : (d : Carried) → w.copy ≡ Some d → LawfulCopy z g' v.role d = copied g' (copy_kept on w.role c (k.knowledge.copy c copy)) unlike in
      let older : (o d : Carried) → v.copy ≡ Some o → w.copy ≡ Some d → o.of ≡ d.of → Grown o d = λ o d old new same.
      h.knowledge.out m o d (inr (role ∙ ap Player (sym mine))) old (k.holding.note m note guest ∙ new) same in
      let out : (x : Name) (d e : Carried) → (x ≡ d.of) ⊎ (v.role ≡ Player x) → w.copy ≡ Some d → g'.carries x ≡ Some e → d.of ≡ e.of → Grown d e =
      λ x d e whose is there' same.
      ⊎_elim (λ (his : x ≡ d.of). (knowledge_kept on there).out x d e (inl his) is there' same)
      (grind arith) whose in
      let learnt : LawfulKnowledge z g' (home v w) = assumption (copies, older, out, knowledge_kept on sat) in
      let own : LawfulView z g' id (home v w) = badged_view z g id v (home v w) n m id None role h (λ _ _ _ _. refl) learnt
      (λ _ x role'. subst (λ x. g'.badge x ≡ id) (mine ∙ player_same n x (sym role ∙ role')) (name_here g.badge m id))
      (λ x is. let t = h.holding.guest x is in (grind (arith, t.0), as_dealt g m id None x t.1))
      (λ x is _. ap g'.carries (sym (mine ∙ player_same n x (sym role ∙ is))) ∙ none_here) in
      (g', fits, join sat there apart note (home v w) m refl (λ b. refl) (inr was.0) own)
