-- A step that changes no word: the looks of a pass.
use Rattle.flash_rule.proofs.Words.{◌⊎◌, ◌≡◌, ◌≢◌, ℕ, zero, suc, ◌*◌, ◌+◌, ◌<◌, ◌≤◌, inl, true, List, [], ◌∷◌, Option, None, Some, length, set, sym, refl, ap}
use Rattle.flash_rule.proofs.Words.{◌∙◌, subst, arith, length-set, suc-mul, get_or, get_or-set_same, get_or-set_other, Call, Begins, held, Numbers, Begins-refl}
use Rattle.flash_rule.proofs.Words.{map_word, FitsMap, MapWord, PinWord, Open, Name, Pass, Role, Player, Pin, Clear, Candidate, Cycle, Carried, View, one_if}
use Rattle.flash_rule.proofs.Words.{is_pass, is_live_role, pin_is_on, pins_on, weight, owned_at, AreOfHosts, calls_of, sum_of, World, is_intact, age_of}
use Rattle.flash_rule.proofs.Words.{IsCurrent, Programs, Erases, LawfulKind, LawfulKnowledge, LawfulPin, LawfulView, LawfulCopy, Lawful, PinOnward, Onward}
use Rattle.flash_rule.proofs.Words.{Looked, Met, is_unpinned, false, LawfulSector, is_still, gone, is_nameable}
use Rattle.flash_rule.{proofs.Frames.lists_stay, proofs.Frames.assembled, proofs.Frames.block_kept, specs.Plays.Disjoint, specs.Plays.Once}
use Rattle.flash_rule.proofs.{Ceding.ceded_still, Points.clash, Owning.some_same, Owning.Seated, Owning.view_of}

-- a state with the same phase and generation, whatever its readers, and no fewer pages written
pub stays_onward : (p q : PinWord) → q.phase ≡ p.phase → q.generation ≡ p.generation → p.written ≤ q.written → PinOnward p q
stays_onward p q phase generation written = grind arith

pub pin_stays : (p : PinWord) → PinOnward p p
pin_stays p = stays_onward p p refl refl (omega arith)

-- the table with a longer history, another map, other pages, and badges elsewhere
abbrev pub with_words : World → List Call → (ℕ → Option MapWord) → (ℕ → ℕ → ℕ → ℕ) → (Name → ℕ) → (Name → Option Carried) → World
with_words g history map pages badge carries = record g { history = history; map = map; pages = pages; badge = badge; carries = carries }

-- a step that changes these alone, as the other seats see it
pub onward_called : {z : Numbers} {g : World} {id other : ℕ} {history : List Call} {map : ℕ → Option MapWord} {pages : ℕ → ℕ → ℕ → ℕ}
    {badge : Name → ℕ} {carries : Name → Option Carried}
    → Begins g.history history → ((t : ℕ) → ¬ (g.seat (Pass t) ≡ id) → calls_of t history ≡ calls_of t g.history)
    → ((b : ℕ) → ¬ (g.owner b ≡ id) → (p i : ℕ) → pages b p i ≡ g.pages b p i)
    → ((b p i : ℕ) → is_intact (g.pins b).phase ≡ true → p < (g.pins b).written → pages b p i ≡ g.pages b p i)
    → ((s : ℕ) (m : MapWord) → map s ≡ Some m → (g.map s ≡ Some m) ⊎ ((g.owner m.block ≡ id) × ((g.pins m.block).phase ≡ Open)))
    → ((n : Name) → ¬ (g.badge n ≡ id) → ¬ (g.badge n ≡ other) → (badge n ≡ g.badge n) × (carries n ≡ g.carries n))
    → ((n : Name) (c : Carried) → carries n ≡ Some c → (g.carries n ≡ Some c) ⊎ ((c.programs ≡ g.programs c.of) × (c.erases ≡ g.erases c.of)))
    → Onward z g (with_words g history map pages badge carries) id other
onward_called {g = g} {id} {history = history} {map} {pages} {badge} {carries} grows calls apart readable named badges carried =
    record {
      history = grows;
      calls = calls;
      seat = λ n dealt. (refl, dealt);
      pins = λ b _. pin_stays (g.pins b);
      owned = λ b _ whose _. record { owner = refl; phase = refl; generation = refl; written = refl; pages = apart b whose };
      pages = λ b p i _ intact low. readable b p i intact low;
      named = named;
      programmer = λ m _. refl;
      eraser = λ b n _. refl;
      lists = λ n _. lists_stay g (with_words g history map pages badge carries) id n refl refl;
      dealer = λ _. (refl, refl);
      badge = λ n _ mine its. badges n mine its;
      carries = carried;
    }

-- what a step that changes no state of a block leaves of its seat's view
abbrev pub rest_of : View → View
rest_of v = record gone { role = v.role; owns = v.owns; passes = v.passes; ceded = v.ceded; drains = v.drains }

-- the table with a longer history, another map and other pages
abbrev pub said : World → List Call → (ℕ → Option MapWord) → (ℕ → ℕ → ℕ → ℕ) → World
said g history map pages = record g { history = history; map = map; pages = pages }

-- the rule after a step by which a seat changes these alone
pub no_turn : {z : Numbers} {g : World} {history : List Call} {map : ℕ → Option MapWord} {pages : ℕ → ℕ → ℕ → ℕ} {vs : List View} {id : ℕ} {v w : View}
    → Seated z g vs id v → Onward z g (said g history map pages) id id → LawfulView z (said g history map pages) id w
    → ((b : ℕ) → pins_on b w ≡ pins_on b v) → rest_of w ≡ rest_of v → ((s : ℕ) → s < z.sectors → LawfulSector z (said g history map pages) s)
    → AreOfHosts z history → ((b : ℕ) → is_still (g.pins b).phase ≡ true → (p i : ℕ) → pages b p i ≡ g.pages b p i)
    → ((t : ℕ) → g.passes ≤ t → calls_of t history ≡ []) → Lawful z (said g history map pages) (set vs id w)
no_turn {z} {w = w} sat on own counted same sectors callers pages strangers =
    assembled sat on own sectors callers
    (λ b low. block_kept sat w (sat.law.blocks b low) refl refl (pages b) (counted b) (λ o is. (o, ap (λ (x : View). owned_at b x.owns) same ∙ is)))
    strangers (ap (weight z) same) sat.law.dealt
    (ceded_still sat w (ap (λ (x : View). x.role) same) (ap (λ (x : View). x.ceded) same) (ap (λ (x : View). x.drains) same))

-- a seat that keeps its blocks and its pinned block, and no word changes
pub still : {z : Numbers} {g : World} {vs : List View} {id : ℕ} {v w : View} → Seated z g vs id v → LawfulView z g id w
    → ((b : ℕ) → pins_on b w ≡ pins_on b v) → rest_of w ≡ rest_of v → Lawful z g (set vs id w)
still sat own counted same =
    no_turn sat
    (onward_called (Begins-refl _) (λ _ _. refl) (λ _ _ p i. refl) (λ b p i _ _. refl) (λ s m is. inl is) (λ n _ _. (refl, refl)) (λ n c is. inl is))
    own counted same sat.law.sectors sat.law.callers (λ b _ p i. refl) sat.law.strangers

-- sums of lists of numbers
pub sum_set : (l : List ℕ) (k x : ℕ) → k < length l → sum_of (set l k x) + get_or l k 0 ≡ sum_of l + x
sum_set [] k x low = absurd (omega arith)
sum_set (y ∷ l) zero x low = omega arith
sum_set (y ∷ l) (suc k) x low = let r = sum_set l k x (omega arith) in omega arith

pub sum_below : (l : List ℕ) (c : ℕ) → ((k : ℕ) → k < length l → get_or l k 0 ≤ c) → sum_of l ≤ length l * c
sum_below [] c h = omega arith
sum_below (y ∷ l) c h = let a = h 0 (omega arith) in let b = sum_below l c (λ k low. h (suc k) (omega arith)) in let e = suc-mul (length l) c in omega arith

-- in phases in which a block can be named its age is twice its generation
named_age : (p : PinWord) → is_nameable p.phase ≡ true → age_of p ≡ 2 * p.generation
named_age p is = grind arith

-- and in phases in which its pages can be read
pub intact_age : (p : PinWord) → is_intact p.phase ≡ true → age_of p ≡ 2 * p.generation
intact_age p is = grind arith

age_low : {z : Numbers} {g : World} {vs : List View} → Lawful z g vs → (b : ℕ) → b < z.blocks → age_of (g.pins b) ≤ 2 * z.endurance
age_low {z} {g} law b low = grind arith

-- ages that are known of all blocks are bounded in sum
pub ages_bounded : {z : Numbers} {g : World} {vs : List View} → Lawful z g vs → (known : List ℕ) → length known ≡ z.blocks
    → ((b : ℕ) → b < z.blocks → get_or known b 0 ≤ age_of (g.pins b)) → sum_of known ≤ z.blocks * (2 * z.endurance)
ages_bounded {z} law known long ages = grind (arith, age_low, sum_below, long)

pub pass_of : (r : Role) → is_pass r ≡ true → (t : ℕ) × (r ≡ Player (Pass t))
pass_of r is = grind arith

pub pass_numbers : {z : Numbers} {v : View} → LawfulKind z v → is_pass v.role ≡ true → v.numbers ≡ z
pass_numbers {v = v} kind is = kind.numbers (ap is_live_role (pass_of v.role is).1)

-- a list whose entries each name their own place has no entry twice
same_place : (a : Name) (j : ℕ) (b : Name) (k : ℕ) (x : Option (Name × ℕ)) → x ≡ Some (a, j) → x ≡ Some (b, k) → j ≡ k
same_place a j b k x here there = ap (λ (y : Name × ℕ). y.1) (some_same {X = Name × ℕ} (a, j) (b, k) (sym here ∙ there))

pub programs_once : (z : Numbers) (g : World) (n : Name) (list : List MapWord) → Programs z g n list → Once list
programs_once z g n list h j k m here there = same_place n j n k (g.programmer m.block m.page m.generation) (h j m here).2 (h k m there).2

pub erases_once : (z : Numbers) (g : World) (n : Name) (list : List Cycle) → Erases z g n list → Once list
erases_once z g n list h j k c here there = same_place n j n k (g.eraser c.block c.generation) (h j c here).2 (h k c there).2

-- the player of the copies is another one, so no page and no erase is in both lists
pub met : {z : Numbers} {g : World} {v : View} {n : Name} {c : Carried} → v.role ≡ Player n → LawfulKnowledge z g v → LawfulCopy z g v.role c
    → Begins c.seen g.history × Disjoint v.programs c.programs × Disjoint v.erases c.erases
met {n = n} {c} role h copy = (
  copy.seen,
  (λ j k m here there.
      let a = (h.programs n role j m here).2 in
      let b = (copy.programs k m there).2 in
      copy.other (role ∙ ap Player (same_first n j c.of k (sym a ∙ b)))),
  (λ j k x here there.
      let a = (h.erases n role j x here).2 in
      let b = (copy.erases k x there).2 in
      copy.other (role ∙ ap Player (same_first n j c.of k (sym a ∙ b)))),
)
  where
    first_or : Name → Option (Name × ℕ) → Name
    first_or d None = d
    first_or d (Some x) = x.0

    some_pair : Name → ℕ → Option (Name × ℕ)
    some_pair a j = Some (a, j)

    same_first : (a : Name) (j : ℕ) (b : Name) (k : ℕ) → some_pair a j ≡ some_pair b k → a ≡ b
    same_first a j b k e = ap (first_or a) e

-- the copies that a player has, once it sees the history of this moment
pub met_now : {z : Numbers} {g : World} {v : View} {n : Name} → v.role ≡ Player n → LawfulKnowledge z g v → (w : View) → w.role ≡ v.role
    → w.seen ≡ g.history → w.programs ≡ v.programs → w.erases ≡ v.erases → w.older ≡ v.older
    → (c : Carried) → v.copy ≡ Some c → Met w c
met_now {z} {g} {v} {n} player h w role seen programs erases older c is =
    let copy = h.copy c is in
    let m = met player h copy in
    record {
      other = λ e. copy.other (sym role ∙ e);
      seen = subst (λ l. Begins c.seen l) (sym seen) m.0;
      programs = subst (λ l. Disjoint l c.programs) (sym programs) m.1;
      erases = subst (λ l. Disjoint l c.erases) (sym erases) m.2;
      programmed_once = (
        subst (λ (l : List MapWord). Once l) (sym programs) (programs_once z g n v.programs (h.programs n player)),
        programs_once z g c.of c.programs copy.programs,
      );
      erased_once = (
        subst (λ (l : List Cycle). Once l) (sym erases) (erases_once z g n v.erases (h.erases n player)),
        erases_once z g c.of c.erases copy.erases,
      );
      newer = λ o was. h.older o c (sym older ∙ was) is;
    }

-- a page that a map word names has room in the word
pub map_fits : {z : Numbers} {g : World} {vs : List View} {s : ℕ} {m : MapWord} → Lawful z g vs → IsCurrent z g s m → FitsMap m × (m.page < z.pages)
map_fits {m = m} law c = grind arith

module _ {z : Numbers} {g : World} {vs : List View} {id : ℕ} {v : View} (sat : Seated z g vs id v) (s : ℕ)
    (pass : is_pass v.role ≡ true) (unpinned : is_unpinned v.pin ≡ true) where
  abbrev looking : Pin → List ℕ → View
  looking pin known = record v { seen = g.history; looks = v.looks + 1; pin = pin; known = known }

  no_pin : (pin : Pin) → is_unpinned pin ≡ true → (b : ℕ) → one_if (pin_is_on b pin) ≡ 0
  no_pin pin is b = grind arith

  looking_lawful : (pin : Pin) (known : List ℕ) → is_unpinned pin ≡ true → LawfulPin z g known pin → length known ≡ z.blocks
      → ((b : ℕ) → b < z.blocks → get_or known b 0 ≤ age_of (g.pins b))
      → Lawful z g (set vs id (looking pin known))
  looking_lawful pin known free lawful long ages =
      let h = view_of sat in
      let seen : Begins g.history g.history = Begins-refl g.history in
      let not_pass : is_pass v.role ≡ false → pin ≡ Clear = clash pass in
      let knows : is_pass v.role ≡ true → length known ≡ z.blocks = λ _. long in
      let calls : (t : ℕ) → v.role ≡ Player (Pass t) → (calls_of t g.history ≡ v.mine) × (calls_of t g.history ≡ v.mine) = grind arith in
      let own : LawfulView z g id (looking pin known) = assumption (seen, not_pass, knows, calls, lawful, ages, h) in
      still sat own (λ b. no_pin pin free b ∙ sym (no_pin v.pin unpinned b)) refl

  own_calls : (t : ℕ) → v.role ≡ Player (Pass t) → calls_of t g.history ≡ v.mine
  own_calls t is = ((view_of sat).holding.calls t is).0

  -- the look, by what the map word names
  pub look_empty : g.map s ≡ None → s < z.sectors → (w : View) × Lawful z g (set vs id w) × Looked v s 0 w
  look_empty is low =
      let h = view_of sat in
      let same = pass_numbers h.kind pass in
      let by = pass_of v.role pass in
      let long = h.kind.known pass in
      let w : View = looking Clear v.known in (
        w,
        looking_lawful Clear v.known refl tt long h.knowledge.known,
        record {
          changed = refl;
          later = h.knowledge.seen;
          callers = subst (λ (y : Numbers). AreOfHosts y g.history) (sym same) sat.law.callers;
          own = own_calls;
          empty = λ _. (ap (λ (y : Numbers). held y.sectors g.history s) same ∙ (sat.law.sectors s low).empty is, refl, refl);
          named = λ not. absurd (not refl);
          rises = omega arith;
          bounded = grind (arith, ages_bounded, long);
          met = met_now by.1 h.knowledge w refl refl refl refl refl;
        },
      )

  pub look_named : (m : MapWord) → g.map s ≡ Some m → s < z.sectors → (w : View) × Lawful z g (set vs id w) × Looked v s (map_word m) w
  look_named m is low =
      let h = view_of sat in
      let same = pass_numbers h.kind pass in
      let by = pass_of v.role pass in
      let long = h.kind.known pass in
      let c = (sat.law.sectors s low).named m is in
      let known = set v.known m.block (2 * m.generation) in
      let in_range : m.block < length v.known = let l = c.block in omega arith in
      let long' : length known ≡ z.blocks = length-set v.known m.block (2 * m.generation) ∙ long in
      let age : age_of (g.pins m.block) ≡ 2 * m.generation = named_age (g.pins m.block) c.phase ∙ ap (λ k. 2 * k) c.same in
      let here : get_or known m.block 0 ≡ 2 * m.generation = get_or-set_same v.known m.block (2 * m.generation) 0 in_range in
      let ages : (b : ℕ) → b < z.blocks → get_or known b 0 ≤ age_of (g.pins b) = grind (arith, get_or-set_other) in
      let fits = map_fits sat.law c in
      let w : View = looking (Candidate m c.value) known in
      let bigger : map_word m ≢ 0 = λ e. absurd (omega arith) in (
        w,
        looking_lawful (Candidate m c.value) known refl
            (grind arith) long' ages,
        record {
          changed = refl;
          later = h.knowledge.seen;
          callers = subst (λ (y : Numbers). AreOfHosts y g.history) (sym same) sat.law.callers;
          own = own_calls;
          empty = λ none. absurd (bigger none);
          named = grind arith;
          rises = let k = h.knowledge.known m.block c.block in let t = sum_set v.known m.block (2 * m.generation) in_range in omega arith;
          bounded = grind (arith, ages_bounded);
          met = met_now by.1 h.knowledge w refl refl refl refl refl;
        },
      )
