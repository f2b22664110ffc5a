-- What a step leaves to the seats that don't make it, and the rule after it, from what it does to its own seat, to the sectors and to the blocks.
use Rattle.flash_rule.proofs.Words.{◌≡◌, ℕ, ◌<◌, ◌≤◌, ⊎_elim, true, List, [], ◌∷◌, Some, zero, suc, sym, refl, ap, ◌∙◌, subst, arith, some, some-injective}
use Rattle.flash_rule.proofs.Words.{some-ne-none, dite, ℕ_discrete, get_elem?, Begins, Numbers, MapWord, PinWord, Name, Pass, Role, Owned, Cycle, Carried, View}
use Rattle.flash_rule.proofs.Words.{total, pin_is_on, pins_on, World, is_owned, Programs, Erases, IsDealt, LawfulCopy, LawfulKnowledge, LawfulOwned}
use Rattle.flash_rule.proofs.Words.{LawfulHolding, LawfulView, Lawful, PinOnward, Untouched, ListsOnward, Onward, ◌≢◌, set, at_set, set_else, held, FitsPin}
use Rattle.flash_rule.proofs.Words.{weight, owned_at, AreOfHosts, calls_of, is_nameable, is_still, LawfulCeded, IsCurrent, LawfulSector, LawfulBlock}
use Rattle.flash_rule.proofs.{Words.LawfulInspection, Words.Inspection, Words.WasShut, Words.Open, Points.total_set, Points.seat_set}
use Rattle.flash_rule.proofs.Owning.{owned_with, source_with, work_with, Seated, view_of}
use Rattle.std.proofs.lemmas.List.{append-nil}
use Rattle.geometry.proofs.Histories.{Begins-trans}

-- a block that was closed in a generation isn't opened again in it
pub shut_onward : {p q : PinWord} (generation : ℕ) → PinOnward p q → WasShut generation p → WasShut generation q
shut_onward generation on was = grind arith

-- a list begins those that are the same
pub begins_same : {X : Type 0} (k l : List X) → l ≡ k → Begins k l
begins_same k l same = ([], append-nil k ∙ sym same)

-- where nothing is programmed or erased, all lists stay
pub lists_stay : (g g' : World) (id : ℕ) (n : Name) → g'.programs n ≡ g.programs n → g'.erases n ≡ g.erases n → ListsOnward g g' id n
lists_stay g g' id n programs erases =
    record {
      programs = begins_same (g.programs n) (g'.programs n) programs;
      erases = begins_same (g.erases n) (g'.erases n) erases;
      others = λ _. (programs, erases);
    }

-- one view's number is part of the total
pub total_at : (f : View → ℕ) (vs : List View) (id : ℕ) (v : View) → get_elem? vs id ≡ some v → f v ≤ total f vs
total_at f [] id v at = absurd (some-ne-none v (sym at))
total_at f (x ∷ xs) zero v at = let e : f x ≡ f v = ap f (some-injective x v at) in omega arith
total_at f (x ∷ xs) (suc id) v at = let r = total_at f xs id v at in omega arith

-- a counted pin has its block read
pub counted : {z : Numbers} {g : World} {vs : List View} {at : ℕ} {v : View} → Seated z g vs at v → (b : ℕ) → pin_is_on b v.pin ≡ true
    → b < z.blocks → 0 < (g.pins b).readers
counted {vs = vs} {at = at} {v = v} sat b on low = grind (arith, total_at)

module _ {z : Numbers} {g g' : World} {id other : ℕ} (on : Onward z g g' id other) where
  pub programs_kept : (n : Name) (l : List MapWord) → Programs z g n l → Programs z g' n l
  programs_kept n l h k m at = let p = h k m at in (p.0, grind (arith, on.pins m.block p.0, p.1), on.programmer m p.1 ∙ p.2)

  pub erases_kept : (n : Name) (l : List Cycle) → Erases z g n l → Erases z g' n l
  erases_kept n l h k c at = grind (arith, h k c at)

  inspection_kept : (x : Inspection) → LawfulInspection z g x → LawfulInspection z g' x
  inspection_kept x h =
      let pin = on.pins x.block h.low in
      record {
        low = h.low;
        shut = shut_onward x.generation pin h.shut;
        dead = λ same s p below low named.
            let rises = pin.generation in
            let was : (g.pins x.block).generation ≡ x.generation = grind arith in
            ⊎_elim (λ (there : g.map s ≡ _). h.dead was s p below low there)
            (grind arith) (on.named s _ named);
      }

  pub copy_kept : (role : Role) (c : Carried) → LawfulCopy z g role c → LawfulCopy z g' role c
  copy_kept role c h =
      let lists = on.lists c.of h.dealt in
      record {
        dealt = (on.seat c.of h.dealt).1;
        other = h.other;
        seen = Begins-trans c.seen g.history g'.history h.seen on.history;
        programmed = Begins-trans c.programs (g.programs c.of) (g'.programs c.of) h.programmed lists.programs;
        erased = Begins-trans c.erases (g.erases c.of) (g'.erases c.of) h.erased lists.erases;
        programs = programs_kept c.of c.programs h.programs;
        erases = erases_kept c.of c.erases h.erases;
      }

  pub knowledge_kept : {vs : List View} {at : ℕ} {v : View} → Seated z g vs at v → LawfulKnowledge z g' v
  knowledge_kept {v = v} sat =
      let h = (view_of sat).knowledge in
      record {
        seen = Begins-trans v.seen g.history g'.history h.seen on.history;
        pin = grind (arith, counted sat, h.pin);
        known = λ b low. let k = h.known b low in let a = (on.pins b low).age in omega arith;
        programs = λ n is. programs_kept n v.programs (h.programs n is);
        erases = λ n is. erases_kept n v.erases (h.erases n is);
        loads = grind (arith, h.loads);
        inspection = λ x is. inspection_kept x (h.inspection x is);
        copy = λ c is. copy_kept v.role c (h.copy c is);
        older = h.older;
        out = λ n c d whose is there same.
            ⊎_elim (λ (was : g.carries n ≡ Some d). h.out n c d whose is was same)
            (λ (all : (d.programs ≡ g.programs d.of) × (d.erases ≡ g.erases d.of)). grind (arith, h.copy c is, same, all)) (on.carries n d there);
      }

  module _ (at : ℕ) (apart : ¬ (at ≡ id)) where
    untouched : (v : View) (b : ℕ) (o : Owned) → LawfulOwned z g at v.work v.cleared v.wiped b o → Untouched g g' b
    untouched v b o h = on.owned b h.low (λ e. apart (sym h.owner ∙ e)) (ap is_owned h.phase ∙ h.owned)

    owned_kept : (v : View) (b : ℕ) (o : Owned) → LawfulOwned z g at v.work v.cleared v.wiped b o → LawfulOwned z g' at v.work v.cleared v.wiped b o
    owned_kept v b o h =
        let same = untouched v b o h in
        owned_with h (same.phase, same.generation, same.written) same.owner
        (λ opened p from below other i most. same.pages p i ∙ h.rest opened p from below (λ f. other f) i most)
        (λ victim p s cleared low named.
        ⊎_elim (λ (was : g.map s ≡ _). h.dead victim p s cleared low was)
        (λ (mine : (g.owner b ≡ id) × ((g.pins b).phase ≡ Open)). apart (sym h.owner ∙ mine.0)) (on.named s _ named))
        (λ erasing p i low most below. same.pages p i ∙ h.clean erasing p i low most below)

    holding_kept : (v : View) → ¬ (at ≡ other) → LawfulHolding z g at v → LawfulHolding z g' at v
    holding_kept v apart' h =
        let badge = λ (n : Name) (dealt : IsDealt g n) (here : g.badge n ≡ at). on.badge n dealt (λ e. apart (sym here ∙ e)) (λ e. apart' (sym here ∙ e)) in
        record {
          name = λ n is. let k = h.name n is in let s = on.seat n k.1 in (s.0 ∙ k.0, s.1);
          calls = λ t is. let k = h.calls t is in let s = h.name (Pass t) is in (on.calls t (λ e. apart (sym s.0 ∙ e)) ∙ k.0, k.1);
          lists = grind arith;
          owned = λ b o is. owned_kept v b o (h.owned b o is);
          work = λ w is. let k = h.work w is in work_with k k.own ((untouched v w.page.block k.entry (h.owned w.page.block k.entry k.own)).pages w.page.page);
          source = λ x is.
              let k = h.source x is in
              source_with k k.own refl ((untouched v x.page.block k.entry (h.owned x.page.block k.entry k.own)).pages x.page.page);
          whole = λ whole n is. let k = h.whole whole n is in (badge n (h.name n is).1 k).0 ∙ k;
          guest = λ n is. let k = h.guest n is in ((badge n k.1 k.0).0 ∙ k.0, (on.seat n k.1).1);
          note = λ n role is. let k = h.guest n is in (badge n k.1 k.0).1 ∙ h.note n role is;
          home = λ n is whole. (badge n (h.name n is).1 (h.whole whole n is)).1 ∙ h.home n is whole;
          dealer = λ is. let k = h.dealer is in let d = on.dealer (λ e. apart (k.0 ∙ sym e)) in (k.0, k.1 ∙ sym d.0, k.2 ∙ sym d.1);
        }

  pub others : {vs : List View} {at : ℕ} {v : View} → Seated z g vs at v → ¬ (at ≡ id) → ¬ (at ≡ other) → LawfulView z g' at v
  others {at = at} {v = v} sat apart apart' =
      let h = view_of sat in record { kind = h.kind; knowledge = knowledge_kept sat; holding = holding_kept at apart v apart' h.holding }

-- a lawful view, at the place and as the view that it is the same as
pub view_to : {z : Numbers} {g : World} {i j : ℕ} {v w : View} → LawfulView z g i v → i ≡ j → v ≡ w → LawfulView z g j w
view_to {z} {g} h place same = subst (λ (x : ℕ × View). LawfulView z g x.0 x.1) (λ k. (place k, same k)) h

-- The seat with the view v makes a step after which it has the view w, and the table is g' instead of g
pub assembled : {z : Numbers} {g g' : World} {vs : List View} {id : ℕ} {v w : View} → Seated z g vs id v → Onward z g g' id id → LawfulView z g' id w
    → ((s : ℕ) → s < z.sectors → LawfulSector z g' s) → AreOfHosts z g'.history → ((b : ℕ) → b < z.blocks → LawfulBlock z g' (set vs id w) b)
    → ((t : ℕ) → g'.passes ≤ t → calls_of t g'.history ≡ []) → weight z w ≡ weight z v → g'.passes ≤ z.hosts → LawfulCeded z g'.pins (set vs id w)
    → Lawful z g' (set vs id w)
assembled {z} {g' = g'} {vs = vs} {id = id} {v = v} {w = w} sat on own sectors callers blocks strangers weighs dealt ceded =
    let law = sat.law in
    record {
      limits = law.limits;
      sectors = sectors;
      callers = callers;
      blocks = blocks;
      views = λ j u is.
          ⊎_elim (λ (t : (j ≡ id) × (w ≡ u)). view_to own (sym t.0) t.1)
          (λ (t : (j ≢ id) × (get_elem? vs j ≡ some u)). others on (record { law = law; at = t.1 }) t.0 t.0) (at_set vs id j w u is);
      strangers = strangers;
      seats = (let s = total_set (weight z) vs id v w sat.at in let e = law.seats in omega arith);
      dealt = dealt;
      ceded = ceded;
    }

-- The owner of a block keeps it over a step
pub owner_kept : {z : Numbers} {g : World} {vs : List View} {id : ℕ} {v : View} (sat : Seated z g vs id v) (w : View) {b x : ℕ} → LawfulBlock z g vs b
    → is_owned (g.pins b).phase ≡ true → x ≡ g.owner b
    → ((o : Owned) → owned_at b v.owns ≡ Some o → (o' : Owned) × (owned_at b w.owns ≡ Some o'))
    → (u : View) × (o : Owned) × (get_elem? (set vs id w) x ≡ some u) × (owned_at b u.owns ≡ Some o)
owner_kept {g = g} {vs = vs} {id = id} {v = v} sat w {b = b} block owned same keeps =
    let h = block.owner owned in
    dite (ℕ_discrete (g.owner b) id)
    (λ mine.
    let is : h.0 ≡ v = some-injective h.0 v (sym h.2 ∙ (ap (λ j. get_elem? vs j) mine ∙ sat.at)) in
    let k = keeps h.1 (sym (ap (λ (u : View). owned_at b u.owns) is) ∙ h.3) in
    (w, k.0, ap (λ j. get_elem? (set vs id w) j) (same ∙ mine) ∙ seat_set vs id v w sat.at, k.1))
    (λ other. (h.0, h.1, ap (λ j. get_elem? (set vs id w) j) same ∙ (set_else vs id (g.owner b) w other ∙ h.2), h.3))

-- A block that the step doesn't concern
pub block_kept : {z : Numbers} {g g' : World} {vs : List View} {id : ℕ} {v : View} (sat : Seated z g vs id v) (w : View) {b : ℕ} → LawfulBlock z g vs b
    → g'.pins b ≡ g.pins b → g'.owner b ≡ g.owner b → (is_still (g.pins b).phase ≡ true → (p i : ℕ) → g'.pages b p i ≡ g.pages b p i)
    → pins_on b w ≡ pins_on b v
    → ((o : Owned) → owned_at b v.owns ≡ Some o → (o' : Owned) × (owned_at b w.owns ≡ Some o')) → LawfulBlock z g' (set vs id w) b
block_kept {z} {g} {g'} {vs} {id} {v} sat w {b = b} block pin owner pages counted keeps =
    let phase : (g'.pins b).phase ≡ (g.pins b).phase = ap (λ p. p.phase) pin in
    let written : (g'.pins b).written ≡ (g.pins b).written = ap (λ p. p.written) pin in
    let generation : (g'.pins b).generation ≡ (g.pins b).generation = ap (λ p. p.generation) pin in
    let readers : (g'.pins b).readers ≡ (g.pins b).readers = ap (λ p. p.readers) pin in
    let r = block.readers in
    let t = total_set (pins_on b) vs id v w sat.at in
    let low = block.written in
    let age = block.generation in
    record {
      readers = omega arith;
      written = omega arith;
      generation = omega arith;
      free = λ is. written ∙ block.free (sym phase ∙ is);
      rest = λ still p from below i most. let was = sym (ap is_still phase) ∙ still in pages was p i ∙ block.rest was p (omega arith) below i most;
      owner = λ owned. owner_kept sat w block (sym (ap is_owned phase) ∙ owned) owner keeps;
    }

-- A sector that the step doesn't concern: the page that its map word names stays where one may name it
pub named_kept : {z : Numbers} {g g' : World} {s : ℕ} → LawfulSector z g s → g'.map s ≡ g.map s → held z.sectors g'.history s ≡ held z.sectors g.history s
    → ((m : MapWord) → g.map s ≡ Some m → IsCurrent z g s m
    → ((g'.pins m.block).generation ≡ (g.pins m.block).generation) × (is_nameable (g'.pins m.block).phase ≡ true)
    × ((g.pins m.block).written ≤ (g'.pins m.block).written)
    × ((p i : ℕ) → p < (g.pins m.block).written → g'.pages m.block p i ≡ g.pages m.block p i))
    → LawfulSector z g' s
named_kept {z} h map same keeps =
    record {
      empty = λ is. same ∙ h.empty (sym map ∙ is);
      named = λ m is.
          let was = sym map ∙ is in
          let c = h.named m was in
          let k = keeps m was c in
          let low = c.written in
          let more = k.2 in
          record {
            value = c.value;
            here = same ∙ c.here;
            block = c.block;
            same = k.0 ∙ c.same;
            phase = k.1;
            written = omega arith;
            stands = λ i below. k.3 m.page i c.written ∙ c.stands i below;
            whole = c.whole;
            stamp = k.3 m.page z.words c.written ∙ c.stamp;
          };
    }

-- the same where that holds of each block that a map word may name
pub sector_kept : {z : Numbers} {g g' : World} {s : ℕ} → LawfulSector z g s → g'.map s ≡ g.map s → held z.sectors g'.history s ≡ held z.sectors g.history s
    → ((b : ℕ) → b < z.blocks → is_nameable (g.pins b).phase ≡ true
    → ((g'.pins b).generation ≡ (g.pins b).generation) × (is_nameable (g'.pins b).phase ≡ true) × ((g.pins b).written ≤ (g'.pins b).written)
    × ((p i : ℕ) → p < (g.pins b).written → g'.pages b p i ≡ g.pages b p i))
    → LawfulSector z g' s
sector_kept h map same keeps = named_kept h map same (λ m _ c. keeps m.block c.block c.phase)

total_le : (f h : View → ℕ) (vs : List View) → ((id : ℕ) (v : View) → get_elem? vs id ≡ some v → f v ≤ h v) → total f vs ≤ total h vs
total_le f h [] le = omega arith
total_le f h (x ∷ xs) le = let a = le 0 x refl in let b = total_le f h xs (λ id v at. le (suc id) v at) in omega arith

module _ {z : Numbers} {g : World} {vs : List View} (law : Lawful z g vs) (b : ℕ) (low : b < z.blocks) where
  -- no more readers than hosts
  pub readers_low : (g.pins b).readers ≤ z.hosts
  readers_low =
      let r = (law.blocks b low).readers in
      let t = total_le (pins_on b) (weight z) vs (λ id v at. grind (arith, (law.views id v at).kind)) in
      let s = law.seats in omega arith

  -- a block's state has room in its word
  pub state_fits : FitsPin (g.pins b)
  state_fits = grind (arith, readers_low)
