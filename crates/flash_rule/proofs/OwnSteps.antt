-- Steps that change one pin word: what all have in common; take; and the owner's steps on an open block, count and close.
use Rattle.flash_rule.proofs.Words.{is_shut, ◌≡◌, ◌≢◌, ℕ, ◌+◌, ◌*◌, ◌<◌, ◌≤◌, inl, inr, true, false, List, [], ◌∷◌, ◌++◌, Option, Some, set, sym, refl, ap, ◌∙◌}
use Rattle.flash_rule.proofs.Words.{subst, arith, some, dite, ℕ_discrete, get_elem?, Numbers, Begins-refl, MapWord, PinWord, Phase, Free, Open, Victim, Erasing}
use Rattle.flash_rule.proofs.Words.{Owned, Cycle, Name, Work, View, is_player, pins_on, weight, owned_at, with_owned, World, put, Erases, is_owned, is_intact}
use Rattle.flash_rule.proofs.Words.{is_nameable, is_still, half_cycle, age_of, IsBlank, blank_word, rank, LawfulCeded, IsCurrent, is_pass, IsProgrammed}
use Rattle.flash_rule.proofs.Words.{IsFilling, LawfulBlock, LawfulOwned, LawfulView, Lawful, IsDealt, PinOnward, ListsOnward, Onward, ⊎_elim, None, length}
use Rattle.flash_rule.proofs.Words.{slice_get, Begins, Closed, Player, may_own, without, put_name, Programs, LawfulKind, LawfulWork, next_page, Source}
use Rattle.flash_rule.proofs.Words.{Bool, Untouched}
use Rattle.flash_rule.proofs.{Words.LawfulSource, Words.ReclaimsOne, Owning.put3_here, Owning.put3_else, Ceding.ceded_owned, Ceding.ceded_last}
use Rattle.flash_rule.proofs.Owning.{blocks_apart, open_victim, with_here, with_else, owned_else, one_with_open, source_with, work_with, Seated, view_of}
use Rattle.flash_rule.proofs.Owning.{owned_with, entry_gone, entry_set, owns_none_else, some_same, none_some, without_else, one_without, get_last, put3}
use Rattle.flash_rule.proofs.Points.{put_here, put_else, put_all, total_set, player_same, may_own_else, name_else, name_all, seat_set, clash}
use Rattle.flash_rule.{proofs.Still.stays_onward, proofs.Still.pin_stays, proofs.Still.still, specs.Plays.IsSettled}
use Rattle.flash_rule.proofs.Frames.{knowledge_kept, lists_stay, assembled, block_kept, named_kept}
use Rattle.std.proofs.lemmas.List.{append-nil}
pub use Rattle.flash_rule.proofs.Points.{player_of}

-- who programmed and erased what, and what each one did, in order
pub record Deeds : Type 0 where
  pub programmer : ℕ → ℕ → ℕ → Option (Name × ℕ)
  pub eraser : ℕ → ℕ → Option (Name × ℕ)
  pub programs : Name → List MapWord
  pub erases : Name → List Cycle

-- those of a table
abbrev pub deeds : World → Deeds
deeds g = record { programmer = g.programmer; eraser = g.eraser; programs = g.programs; erases = g.erases }

-- the table with one block's state, its owner and the deeds changed
abbrev pub turned : World → ℕ → PinWord → ℕ → Deeds → World
turned g b q owner d = record g {
  pins = put g.pins b q;
  owner = put g.owner b owner;
  programmer = d.programmer;
  eraser = d.eraser;
  programs = d.programs;
  erases = d.erases;
}

-- the same with the deeds as they were
abbrev pub moved : World → ℕ → PinWord → ℕ → World
moved g b q owner = turned g b q owner (deeds g)

-- a block that the seat has after a change of its pin word
pub block_owned : (z : Numbers) (g : World) (id b : ℕ) (q : PinWord) (d : Deeds) (doing : Option Work) (cleared wiped : ℕ) (o : Owned) → o.block ≡ b
    → b < z.blocks → is_owned o.phase ≡ true → (q.phase ≡ o.phase) × (q.generation ≡ o.generation) × (q.written ≡ o.written)
    → (o.phase ≡ Open → (p : ℕ) → o.written ≤ p → p < z.pages → ¬ IsFilling doing b p → IsBlank z (g.pages b p))
    → (o.phase ≡ Victim → (p s : ℕ) → p < cleared → s < z.sectors → ¬ (g.map s ≡ Some (record { generation = o.generation; block = b; page = p })))
    → (o.phase ≡ Erasing → (p i : ℕ) → p < z.pages → i ≤ z.words → p * (z.words + 1) + i < wiped → g.pages b p i ≡ blank_word)
    → LawfulOwned z (turned g b q id d) id doing cleared wiped b o
block_owned z g id b q d doing cleared wiped o block low owned same rest dead clean = grind arith

-- a block in these phases stays as it was, if it does where it is this one
turned_owned : (z : Numbers) (g : World) (id b : ℕ) (q : PinWord) (owner : ℕ) (d : Deeds) (phases : Phase → Bool)
    → (g.owner b ≢ id → phases (g.pins b).phase ≡ true → (owner ≡ g.owner b) × (q.phase ≡ (g.pins b).phase) × (q.generation ≡ (g.pins b).generation)
    × (q.written ≡ (g.pins b).written))
    → (c : ℕ) → ¬ (g.owner c ≡ id) → phases (g.pins c).phase ≡ true → Untouched g (turned g b q owner d) c
turned_owned z g id b q owner d phases mine c other is = grind arith

-- ONE PIN WORD CHANGES. The new state is onward of the old one, and as it was but for readers if another seat owns the block
pub pin_turns : (z : Numbers) (g : World) (id b : ℕ) (q : PinWord) (owner : ℕ) (d : Deeds) → PinOnward (g.pins b) q
    → (g.owner b ≢ id → is_owned (g.pins b).phase ≡ true → (owner ≡ g.owner b) × (q.phase ≡ (g.pins b).phase) × (q.generation ≡ (g.pins b).generation)
    × (q.written ≡ (g.pins b).written))
    → ((m : MapWord) → IsProgrammed (g.pins m.block) m → d.programmer m.block m.page m.generation ≡ g.programmer m.block m.page m.generation)
    → ((c n : ℕ) → 2 * n < age_of (g.pins c) → d.eraser c n ≡ g.eraser c n) → ((n : Name) → IsDealt g n → ListsOnward g (turned g b q owner d) id n)
    → Onward z g (turned g b q owner d) id id
pin_turns z g id b q owner d on mine programmed erased lists =
    record {
      history = Begins-refl g.history;
      calls = λ t _. refl;
      seat = λ n dealt. (refl, dealt);
      pins = λ c _. put_all g.pins b q (λ c p. PinOnward (g.pins c) p) on (λ c _. pin_stays (g.pins c)) c;
      owned = λ c _. turned_owned z g id b q owner d is_owned mine c;
      pages = λ c p i _ _ _. refl;
      named = λ s m is. inl is;
      programmer = programmed;
      eraser = erased;
      lists = lists;
      dealer = λ _. (refl, refl);
      badge = λ n _ _ _. (refl, refl);
      carries = λ n c is. inl is;
    }

pub pin_moves : (z : Numbers) (g : World) (id b : ℕ) (q : PinWord) (owner : ℕ) → PinOnward (g.pins b) q
    → (g.owner b ≢ id → is_owned (g.pins b).phase ≡ true → (owner ≡ g.owner b) × (q.phase ≡ (g.pins b).phase) × (q.generation ≡ (g.pins b).generation)
    × (q.written ≡ (g.pins b).written))
    → Onward z g (moved g b q owner) id id
pin_moves z g id b q owner on mine =
    pin_turns z g id b q owner (deeds g) on mine (λ m _. refl) (λ c n _. refl) (λ n _. lists_stay g (moved g b q owner) id n refl refl)

module _ {z : Numbers} {g : World} {vs : List View} {id : ℕ} {v : View} (sat : Seated z g vs id v) (w : View) (b : ℕ)
    (q : PinWord) (owner : ℕ) (d : Deeds) where
  -- the rule after a change of one pin word; a page of this block that a map word names stays where one may name it
  pub pin_turned : Onward z g (turned g b q owner d) id id → LawfulView z (turned g b q owner d) id w
      → ((s : ℕ) (m : MapWord) → s < z.sectors → g.map s ≡ Some m → m.block ≡ b → IsCurrent z g s m
      → (q.generation ≡ (g.pins b).generation) × (is_nameable q.phase ≡ true) × ((g.pins b).written ≤ q.written))
      → LawfulBlock z (turned g b q owner d) (set vs id w) b
      → ((c : ℕ) → c ≢ b → pins_on c w ≡ pins_on c v)
      → ((c : ℕ) → c ≢ b → (o : Owned) → owned_at c v.owns ≡ Some o → (o' : Owned) × (owned_at c w.owns ≡ Some o'))
      → weight z w ≡ weight z v → LawfulCeded z (put g.pins b q) (set vs id w) → Lawful z (turned g b q owner d) (set vs id w)
  pin_turned on own nameable here counted keeps weighs ceded =
      let g' = turned g b q owner d in
      assembled sat on own
      (λ s low. named_kept (sat.law.sectors s low) refl refl (λ m is current.
      put_all g.pins b q (λ j p. j ≡ m.block → (p.generation ≡ (g.pins j).generation) × (is_nameable p.phase ≡ true) × ((g.pins j).written ≤ p.written)
      × ((k i : ℕ) → k < (g.pins j).written → g.pages j k i ≡ g.pages j k i))
      (λ same. let n = nameable s m low is (sym same) current in (n.0, n.1, n.2, λ k i _. refl))
      (λ j _ same. (refl, ap (λ k. is_nameable (g.pins k).phase) same ∙ current.phase, omega arith, λ k i _. refl)) m.block refl))
      sat.law.callers
      (λ c low. dite (ℕ_discrete c b)
      (λ same. subst (λ j. LawfulBlock z g' (set vs id w) j) (sym same) here)
      (λ unlike. block_kept sat w (sat.law.blocks c low) (put_else g.pins b q c unlike) (put_else g.owner b owner c unlike) (λ _ p i. refl)
      (counted c unlike) (keeps c unlike)))
      sat.law.strangers weighs sat.law.dealt ceded

  -- the same where the block stays nameable if it was
  pub pin_turned_nameable : Onward z g (turned g b q owner d) id id → LawfulView z (turned g b q owner d) id w
      → (is_nameable (g.pins b).phase ≡ true → (q.generation ≡ (g.pins b).generation) × (is_nameable q.phase ≡ true) × ((g.pins b).written ≤ q.written))
      → LawfulBlock z (turned g b q owner d) (set vs id w) b
      → ((c : ℕ) → c ≢ b → pins_on c w ≡ pins_on c v)
      → ((c : ℕ) → c ≢ b → (o : Owned) → owned_at c v.owns ≡ Some o → (o' : Owned) × (owned_at c w.owns ≡ Some o'))
      → weight z w ≡ weight z v → LawfulCeded z (put g.pins b q) (set vs id w) → Lawful z (turned g b q owner d) (set vs id w)
  pin_turned_nameable on own nameable =
      pin_turned on own (λ s m low is same current. nameable (ap (λ j. is_nameable (g.pins j).phase) (sym same) ∙ current.phase))

  -- the block that changes is lawful if its state is
  pub block_turned : b < z.blocks → q.readers + pins_on b v ≡ (g.pins b).readers + pins_on b w → q.written ≤ z.pages → q.generation < z.endurance
      → (q.phase ≡ Free → q.written ≡ 0) → (is_still q.phase ≡ true → (p : ℕ) → q.written ≤ p → p < z.pages → IsBlank z (g.pages b p))
      → (is_owned q.phase ≡ true → (u : View) × (o : Owned) × (get_elem? (set vs id w) owner ≡ some u) × (owned_at b u.owns ≡ Some o))
      → LawfulBlock z (turned g b q owner d) (set vs id w) b
  block_turned low readers written generation free rest owned = grind (arith, put_here, total_set)

-- ---- a block turns: it gets another state, and its seat has it, another entry of it, or no longer
-- What the seat lists as programmed and erased is all that its player did, which is behind what it had done, while others' lists stay
pub record IsListed (z : Numbers) (g g' : World) (id : ℕ) (v w : View) : Type 0 where
  pub programmer : (m : MapWord) → IsProgrammed (g.pins m.block) m → g'.programmer m.block m.page m.generation ≡ g.programmer m.block m.page m.generation
  pub eraser : (c n : ℕ) → 2 * n < age_of (g.pins c) → g'.eraser c n ≡ g.eraser c n
  pub idle : is_player v.role ≡ false → (w.work ≡ None) × (w.programs ≡ []) × (w.erases ≡ [])
  pub programs : (n : Name) → v.role ≡ Player n → Programs z g' n v.programs → Programs z g' n w.programs
  pub erases : (n : Name) → v.role ≡ Player n → Erases z g' n v.erases → Erases z g' n w.erases
  pub lists : (n : Name) → IsDealt g n → ListsOnward g g' id n
  pub listed : (n : Name) → v.role ≡ Player n → (g.programs n ≡ v.programs) × (g.erases n ≡ v.erases)
      → (g'.programs n ≡ w.programs) × (g'.erases n ≡ w.erases)

-- Other blocks of the seat stay, this one is lawful if it is the seat's now, and at most one is drained or erased
pub record IsOwning (z : Numbers) (g' : World) (id : ℕ) (v w : View) (b : ℕ) : Type 0 where
  pub there : (c : ℕ) → c ≢ b → owned_at c w.owns ≡ owned_at c v.owns
  pub here : (e : Owned) → owned_at b w.owns ≡ Some e → LawfulOwned z g' id w.work w.cleared w.wiped b e
  pub opens : is_pass v.role ≡ true → (e : Owned) → owned_at b w.owns ≡ Some e → e.phase ≡ Open
  pub owns_none : may_own v.role ≡ false → w.owns ≡ []
  pub reclaims : ReclaimsOne w.owns

-- The state q that comes after p has its readers, and its numbers are in range
pub record IsState (z : Numbers) (p q : PinWord) : Type 0 where
  pub readers : q.readers ≡ p.readers
  pub written : q.written ≤ z.pages
  pub generation : q.generation < z.endurance
  pub free : q.phase ≡ Free → q.written ≡ 0

-- What is being filled elsewhere stays so, and no more is cleared or wiped than was
pub record IsNoMore (v w : View) : Type 0 where
  pub filling : (c : ℕ) (e : Owned) → owned_at c v.owns ≡ Some e → (p : ℕ) → e.written ≤ p → IsFilling v.work c p → IsFilling w.work c p
  pub cleared : w.cleared ≤ v.cleared
  pub wiped : w.wiped ≤ v.wiped

-- The state q of the block b, and what its seat has then, fit together: the new state is onward of the old one, which is nobody else's, and what
-- a map word names of the block it may still name
pub record IsTurn (z : Numbers) (g : World) (id : ℕ) (v w : View) (b : ℕ) (q : PinWord) (d : Deeds) : Type 0 where
  pub onward : PinOnward (g.pins b) q
  pub alone : g.owner b ≢ id → ¬ (is_owned (g.pins b).phase ≡ true)
  pub state : IsState z (g.pins b) q
  pub rest : is_still q.phase ≡ true → (p : ℕ) → q.written ≤ p → p < z.pages → IsBlank z (g.pages b p)
  pub owner : is_owned q.phase ≡ true → (e : Owned) × (owned_at b w.owns ≡ Some e)
  pub named : (s : ℕ) (m : MapWord) → s < z.sectors → g.map s ≡ Some m → m.block ≡ b → IsCurrent z g s m
      → (q.generation ≡ (g.pins b).generation) × (is_nameable q.phase ≡ true) × ((g.pins b).written ≤ q.written)
  pub listing : IsListed z g (turned g b q id d) id v w
  pub owning : IsOwning z (turned g b q id d) id v w b
  pub no_more : IsNoMore v w
  pub work : (x : Work) → w.work ≡ Some x → LawfulWork z (turned g b q id d) w.owns x
  pub source : (x : Source) → v.source ≡ Some x → LawfulSource z g v.owns v.cleared x → (x.page.block ≢ b) × (w.cleared ≡ v.cleared)

-- a turn by which only the phase changes
pub phase_onward : (p : PinWord) (f : Phase) → half_cycle p.phase ≤ half_cycle f → (0 < p.readers → is_intact p.phase ≡ true → is_intact f ≡ true)
    → (is_intact f ≡ true → ¬ (p.phase ≡ Free) → is_intact p.phase ≡ true) → ¬ (f ≡ Free) → (is_shut p.phase ≡ true → is_shut f ≡ true)
    → PinOnward p (record p { phase = f })
phase_onward p f ages held was taken shut = grind arith

-- a turn by which nothing is programmed or erased
pub none_listed : (z : Numbers) (g : World) (id : ℕ) (v w : View) (b : ℕ) (q : PinWord) → LawfulKind z v → (is_player v.role ≡ false → w.work ≡ None)
    → w.programs ≡ v.programs → w.erases ≡ v.erases → IsListed z g (moved g b q id) id v w
none_listed z g id v w b q kind idle programs erases =
    record {
      programmer = λ m _. refl;
      eraser = λ c n _. refl;
      idle = λ is. let i = kind.idle is in (idle is, programs ∙ i.2, erases ∙ i.3);
      programs = λ n _ old. subst (λ l. Programs z (moved g b q id) n l) (sym programs) old;
      erases = λ n _ old. subst (λ l. Erases z (moved g b q id) n l) (sym erases) old;
      lists = λ n _. lists_stay g (moved g b q id) id n refl refl;
      listed = λ n _ its. (its.0 ∙ sym programs, its.1 ∙ sym erases);
    }

-- a seat that gives a block up owns its others
pub given_up : {z : Numbers} {g' : World} {id : ℕ} {v : View} (w : View) {b : ℕ} → LawfulKind z v → IsOwning z g' id v (record w { owns = without b v.owns }) b
given_up {v = v} w {b} kind = grind (arith, without_else, entry_gone, one_without)

-- and one that gets a block, or keeps it in another state, owns it and the others
pub got : {z : Numbers} {g' : World} {id : ℕ} {v : View} (w : View) {o : Owned} → LawfulOwned z g' id w.work w.cleared w.wiped o.block o
    → (is_pass v.role ≡ true → o.phase ≡ Open) → ¬ (may_own v.role ≡ false) → ReclaimsOne (with_owned o v.owns)
    → IsOwning z g' id v (record w { owns = with_owned o v.owns }) o.block
got {z} {g'} {id} {v} w {o} fresh opened owner reclaims = grind (arith, with_else, entry_set)

module _ {z : Numbers} {g : World} {vs : List View} {id : ℕ} {v : View} (sat : Seated z g vs id v) (w : View) (b : ℕ)
    (q : PinWord) (d : Deeds) where
  -- the page that is being filled is in another block, if this one isn't open
  pub work_else : ¬ ((g.pins b).phase ≡ Open) → ((c : ℕ) → c ≢ b → owned_at c w.owns ≡ owned_at c v.owns) → (x : Work) → v.work ≡ Some x
      → LawfulWork z (turned g b q id d) w.owns x
  work_else shut there x is =
      let holds = (view_of sat).holding in
      let k = holds.work x is in
      let unlike : x.page.block ≢ b =
      λ same. shut (ap (λ j. (g.pins j).phase) (sym same) ∙ ((holds.owned x.page.block k.entry k.own).phase ∙ k.opened)) in
      work_with k (there x.page.block unlike ∙ k.own) (λ _. refl)

  abbrev pub turner : View
  turner = record v {
    taken = w.taken;
    owns = w.owns;
    work = w.work;
    programs = w.programs;
    erases = w.erases;
    cleared = w.cleared;
    wiped = w.wiped;
    drains = w.drains;
    ceded = w.ceded;
  }

  -- the rule after a turn
  pub turns : b < z.blocks → LawfulCeded z (put g.pins b q) (set vs id turner) → IsTurn z g id v w b q d
      → Lawful z (turned g b q id d) (set vs id turner)
  turns low given t =
      let h = view_of sat in
      let holds = h.holding in
      let g' : World = turned g b q id d in
      let on : Onward z g g' id id =
      pin_turns z g id b q id d t.onward (λ other is. absurd (t.alone other is)) t.listing.programmer t.listing.eraser t.listing.lists in
      let knows = knowledge_kept on sat in
      let elsewhere : (c : ℕ) (e : Owned) → c ≢ b → owned_at c v.owns ≡ Some e → LawfulOwned z g' id w.work w.cleared w.wiped c e = λ c e unlike has.
      let k = holds.owned c e has in
      let fewer = t.no_more.cleared in
      let less = t.no_more.wiped in
      owned_else z g g' id v.work w.work w.cleared w.wiped c e (put_else g.pins b q c unlike) (put_else g.owner b id c unlike) (λ p i. refl)
      (λ s m is _. inl is) (t.no_more.filling c e has)
      (owned_with k (refl, refl, refl) refl k.rest (λ victim p s below. k.dead victim p s (omega arith))
      (λ erasing p i below most under. k.clean erasing p i below most (omega arith))) in
      let opens : is_pass v.role ≡ true → (c : ℕ) (e : Owned) → owned_at c w.owns ≡ Some e → e.phase ≡ Open = grind arith in
      let idle : is_player v.role ≡ false → (w.work ≡ None) × (v.source ≡ None) × (w.programs ≡ []) × (w.erases ≡ []) = grind arith in
      let programs : (n : Name) → v.role ≡ Player n → Programs z g' n w.programs = λ n is. t.listing.programs n is (knows.programs n is) in
      let erases : (n : Name) → v.role ≡ Player n → Erases z g' n w.erases = λ n is. t.listing.erases n is (knows.erases n is) in
      let lists : (n : Name) → v.role ≡ Player n → (g'.programs n ≡ w.programs) × (g'.erases n ≡ w.erases) = grind arith in
      let owned : (c : ℕ) (e : Owned) → owned_at c w.owns ≡ Some e → LawfulOwned z g' id w.work w.cleared w.wiped c e = λ c e has.
      dite (ℕ_discrete c b)
      (λ same. subst (λ j. LawfulOwned z g' id w.work w.cleared w.wiped j e) (sym same)
      (t.owning.here e (ap (λ j. owned_at j w.owns) (sym same) ∙ has)))
      (λ unlike. elsewhere c e unlike (sym (t.owning.there c unlike) ∙ has)) in
      let source : (x : Source) → v.source ≡ Some x → LawfulSource z g' w.owns w.cleared x = λ x is.
      let k = holds.source x is in
      let s = t.source x is k in source_with k (t.owning.there x.page.block s.0 ∙ k.own) s.1 (λ _. refl) in
      let own : LawfulView z g' id turner = assumption (opens, idle, programs, erases, lists, owned, source, t, knows, h) in
      pin_turned sat turner b q id d on own t.named
      (block_turned sat turner b q id d low (ap (λ n. n + pins_on b v) t.state.readers) t.state.written t.state.generation t.state.free t.rest
      (λ is. let e = t.owner is in (turner, e.0, seat_set vs id v turner sat.at, e.1)))
      (λ c _. refl) (λ c unlike e is. (e, t.owning.there c unlike ∙ is)) refl given

-- ---- take
free_not : (f : Phase) → f ≡ Free → is_owned f ≡ true → ⊥
free_not f free is = clash is (ap is_owned free)

module _ {z : Numbers} {g : World} {vs : List View} {id : ℕ} {v : View} (sat : Seated z g vs id v) (b : ℕ)
    (player : is_player v.role ≡ true) (low : b < z.blocks) where
  abbrev pub newly_owned : Owned
  newly_owned = record { block = b; phase = Open; generation = (g.pins b).generation; written = 0 }

  abbrev pub taken_state : PinWord
  taken_state = record (g.pins b) { phase = Open }

  abbrev pub taker : View
  taker = record v { taken = v.taken + 1; owns = with_owned newly_owned v.owns }

  -- a block that was found free is the seat's
  pub takes : (g.pins b).phase ≡ Free → Lawful z (moved g b taken_state id) (set vs id taker)
  takes free =
      let h = view_of sat in
      let block = sat.law.blocks b low in
      let fresh : LawfulOwned z (moved g b taken_state id) id v.work v.cleared v.wiped b newly_owned = grind arith in
      turns sat taker b taken_state (deeds g) low
      (ceded_owned sat taker refl b taken_state refl refl refl
      (inr (refl, (let e : rank (g.pins b).phase ≡ 0 = ap rank free in omega arith), omega arith)))
      (record {
        onward = grind arith;
        alone = λ _ is. free_not (g.pins b).phase free is;
        state = record { readers = refl; written = block.written; generation = block.generation; free = λ is. absurd (cc) };
        rest = λ is. absurd (cc);
        owner = λ _. (newly_owned, with_here newly_owned v.owns);
        named = λ s m _ _ same current. clash (ap (λ j. is_nameable (g.pins j).phase) (sym same) ∙ current.phase) (ap is_nameable free);
        listing = none_listed z g id v taker b taken_state h.kind (λ is. (h.kind.idle is).0) refl refl;
        owning = got taker fresh (λ _. refl)
            (clash (ap may_own (player_of v.role player).1)) (one_with_open newly_owned v.owns refl h.kind.reclaims);
        no_more = record { filling = λ _ _ _ _ _ f. f; cleared = omega arith; wiped = omega arith };
        work = work_else sat taker b taken_state (deeds g) (λ is. let no : Free ≡ Open = sym free ∙ is in absurd (cc))
            (λ c unlike. with_else newly_owned c v.owns unlike);
        source = λ x is k. (
          (λ same.
              let o = h.holding.owned x.page.block k.entry k.own in
              free_not (g.pins b).phase free (ap (λ j. is_owned (g.pins j).phase) (sym same) ∙ (ap is_owned o.phase ∙ o.owned))),
          refl,
        );
      })

  -- and another one stays as it was
  pub denied : Lawful z g (set vs id (record v { denied = v.denied ++ b ∷ [] }))
  denied =
      let own : LawfulView z g id (record v { denied = v.denied ++ b ∷ [] }) = assumption (view_of sat) in
      still sat own (λ c. refl) refl

-- a seat with work is a player's
pub worker : {z : Numbers} {v : View} {x : Work} → LawfulKind z v → v.work ≡ Some x → (n : Name) × (v.role ≡ Player n)
worker {v = v} {x} kind is = ⊎_elim (λ p. player_of v.role p) (λ idle. absurd (none_some x (sym (kind.idle idle).0 ∙ is))) (grind arith)

module _ {z : Numbers} {g : World} {vs : List View} {id : ℕ} {v : View} {o : Owned} (sat : Seated z g vs id v)
    (own : owned_at o.block v.owns ≡ Some o) (opened : o.phase ≡ Open) where
  entry : LawfulOwned z g id v.work v.cleared v.wiped o.block o
  entry = (view_of sat).holding.owned o.block o own

  pub own_low : o.block < z.blocks
  own_low = entry.low

  pub is_open : (g.pins o.block).phase ≡ Open
  is_open = entry.phase ∙ opened

  -- ---- count
  module _ (x : Work) (doing : v.work ≡ Some x) (page : x.page ≡ next_page o) (full : length x.words ≡ z.words + 1) where
    abbrev pub more : Owned
    more = record o { written = o.written + 1 }

    abbrev pub counter : View
    counter = record v { programs = v.programs ++ x.page ∷ []; owns = with_owned more v.owns }

    abbrev pub counted_state : PinWord
    counted_state = record (g.pins o.block) { written = (g.pins o.block).written + 1 }

    abbrev pub programmed : Name → ℕ → ℕ → ℕ → Option (Name × ℕ)
    programmed n = put3 g.programmer o.block o.written o.generation (Some (n, length v.programs))

    abbrev pub listed : Name → Name → List MapWord
    listed n = put_name g.programs n (v.programs ++ x.page ∷ [])

    abbrev pub count_deeds : Name → Deeds
    count_deeds n = record (deeds g) { programmer = programmed n; programs = listed n }

    abbrev pub count_world : Name → World
    count_world n = turned g o.block counted_state id (count_deeds n)

    -- the page stands at the end of the player's list, and in no other one's
    page_listed : (n : Name) → v.role ≡ Player n → (m : Name) → IsDealt g m → ListsOnward g (count_world n) id m
    page_listed n role m _ =
        let holds = (view_of sat).holding in
        let its = (holds.lists n role).0 in
        record {
          programs = name_all g.programs n (v.programs ++ x.page ∷ []) (λ k l. Begins (g.programs k) l) (x.page ∷ [], ap (λ l. l ++ x.page ∷ []) its)
              (λ k _. Begins-refl (g.programs k)) m;
          erases = Begins-refl (g.erases m);
          others = λ other. (name_else g.programs n (v.programs ++ x.page ∷ []) m (λ same. other (ap g.seat same ∙ (holds.name n role).0)), refl);
        }

    -- the page is below the end of its block
    pub page_room : o.written < z.pages
    page_room = let w = (view_of sat).holding.work x doing in let low = w.page in let e : x.page.page ≡ (next_page o).page = grind arith in omega arith

    -- it was programmed by nobody
    not_done : (m : MapWord) → IsProgrammed (g.pins m.block) m → ¬ ((m.block ≡ o.block) × (m.page ≡ o.written) × (m.generation ≡ o.generation))
    not_done m done same =
        let e1 = same.1 in
        let e2 = same.2 in
        let mine = entry in
        ⊎_elim (λ (older : m.generation < (g.pins o.block).generation). absurd (omega arith))
        (λ (h : (m.generation ≡ (g.pins o.block).generation) × (m.page < (g.pins o.block).written)). let l = h.1 in absurd (omega arith))
        (subst (λ c. IsProgrammed (g.pins c) m) same.0 done)

    -- the page is listed as this player's
    program_listed : (n : Name) → v.role ≡ Player n → (n' : Name) → v.role ≡ Player n' → Programs z (count_world n) n' v.programs
        → Programs z (count_world n) n' (v.programs ++ x.page ∷ [])
    program_listed n role n' role' old k m is =
        ⊎_elim (λ (was : slice_get v.programs k ≡ Some m). old k m was)
        (λ (new : (k ≡ length v.programs) × (x.page ≡ m)).
        let q : PinWord = counted_state in
        let written = entry.written in
        let its : IsProgrammed q (next_page o) = inr (sym entry.generation, omega arith) in
        let same_name : n ≡ n' = player_same n n' (sym role ∙ role') in
        let whose : programmed n o.block o.written o.generation ≡ Some (n', k) = grind (arith, put3_here) in
        subst (λ (m : MapWord). (m.block < z.blocks) × IsProgrammed (put g.pins o.block q m.block) m
        × (programmed n m.block m.page m.generation ≡ Some (n', k)))
        (sym page ∙ new.1)
        (own_low, subst (λ (p : PinWord). IsProgrammed p (next_page o)) (sym (put_here g.pins o.block q)) its, whose))
        (get_last v.programs x.page m k is)

    counted_block : (n : Name) → LawfulOwned z (count_world n) id v.work v.cleared v.wiped o.block more
    counted_block n = grind (arith, block_owned, own_low, entry)

    counted_work : (n : Name) → LawfulWork z (count_world n) (with_owned more v.owns) x
    counted_work n =
        let k = (view_of sat).holding.work x doing in
        let page_is : x.page.page ≡ o.written = ap (λ (m : MapWord). m.page) page in
        record {
          entry = more;
          own = ap (λ (m : MapWord). owned_at m.block (with_owned more v.owns)) page ∙ with_here more v.owns;
          opened = opened;
          generation = sym (ap (λ (m : MapWord). m.generation) page);
          page = k.page;
          counted = inl (omega arith);
          short = k.short;
          full = λ _. full;
          stands = k.stands;
        }

    pub counts_page : (n : Name) → v.role ≡ Player n → Lawful z (count_world n) (set vs id counter)
    counts_page n role =
        let h = view_of sat in
        let b = o.block in
        let block = sat.law.blocks b own_low in
        let room = page_room in
        let written_is = entry.written in
        turns sat counter b counted_state (count_deeds n) own_low
        (ceded_owned sat counter refl b counted_state refl refl (ap is_owned is_open) (inr (refl, omega arith, omega arith)))
        (record {
          onward = stays_onward (g.pins b) counted_state refl refl (omega arith);
          alone = λ other _. other entry.owner;
          state = record {
            readers = refl;
            written = omega arith;
            generation = block.generation;
            free = λ is. let e : Open ≡ Free = sym is_open ∙ is in absurd (cc);
          };
          rest = λ is. clash is (ap is_still is_open);
          owner = λ _. (more, with_here more v.owns);
          named = λ s m _ _ same current. (refl, ap (λ j. is_nameable (g.pins j).phase) (sym same) ∙ current.phase, omega arith);
          listing = record {
            programmer = grind (arith, put3_else, not_done);
            eraser = λ c k _. refl;
            idle = clash (ap is_player role);
            programs = program_listed n role;
            erases = λ _ _ old. old;
            lists = page_listed n role;
            listed = grind arith;
          };
          owning = got counter (counted_block n) (λ _. opened)
              (clash (ap may_own role)) (one_with_open more v.owns opened h.kind.reclaims);
          no_more = record { filling = λ _ _ _ _ _ f. f; cleared = omega arith; wiped = omega arith };
          work = λ y is. subst (λ (y : Work). LawfulWork z (count_world n) (with_owned more v.owns) y) (some_same x y (sym doing ∙ is)) (counted_work n);
          source = λ y _ k. (blocks_apart v.owns o k.entry y.page.block own k.own (open_victim o k.entry opened k.victim), refl);
        })

  -- ---- close
  abbrev pub closed_block : Owned
  closed_block = record o { phase = Closed }

  abbrev pub closer : View
  closer = record v { owns = without o.block v.owns; work = None; ceded = v.ceded ++ closed_block ∷ [] }

  abbrev pub closed_state : PinWord
  closed_state = record (g.pins o.block) { phase = Closed }

  pub closes : IsSettled v → Lawful z (moved g o.block closed_state id) (set vs id closer)
  closes settled =
      let h = view_of sat in
      let b = o.block in
      let block = sat.law.blocks b own_low in
      let phase_is = is_open in
      let not_filling : (c : ℕ) (e : Owned) → owned_at c v.owns ≡ Some e → (p : ℕ) → e.written ≤ p → IsFilling v.work c p → ⊥ = grind arith in
      turns sat closer b closed_state (deeds g) own_low
      (ceded_last sat closer refl b closed_state own_low
      (inr (refl, (let e : rank (g.pins b).phase ≡ 1 = ap rank phase_is in omega arith), omega arith))
      closed_block (λ i. record { block = b; phase = Closed; generation = sym entry.generation i; written = sym entry.written i }) refl
      (sym (append-nil v.drains))
      (may_own_else v.role (λ is. owns_none_else v.owns o own (h.kind.owns_none is))))
      (record {
        onward = grind arith;
        alone = λ other _. other entry.owner;
        state = record { readers = refl; written = block.written; generation = block.generation; free = λ is. absurd (cc) };
        rest = λ _ p from below. let m = entry.written in entry.rest opened p (omega arith) below (λ f. not_filling b o own p (omega arith) f);
        owner = λ is. absurd (cc);
        named = λ s m _ _ _ _. (refl, refl, omega arith);
        listing = none_listed z g id v closer b closed_state h.kind (λ _. refl) refl refl;
        owning = given_up closer h.kind;
        no_more = record { filling = λ c e owns p from f. absurd (not_filling c e owns p from f); cleared = omega arith; wiped = omega arith };
        work = λ y is. absurd (none_some y is);
        source = λ y _ k. (blocks_apart v.owns o k.entry y.page.block own k.own (open_victim o k.entry opened k.victim), refl);
      })
