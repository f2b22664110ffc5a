-- What a broom finds out of its victim's pages, looks, stamps and the words of a source, and the exchange of a map word for a copy.
use Rattle.flash_rule.proofs.Words.{◌≡◌, ℕ, ◌+◌, ◌<◌, ◌≤◌, ◌⊎◌, inl, inr, ⊎_elim, false, List, [], ◌∷◌, ◌++◌, Option, None, Some, set, sym, refl, ap, ◌∙◌}
use Rattle.flash_rule.proofs.Words.{subst, arith, dite, ℕ_discrete, dec_lt, Call, Begins, held, Begins-refl, Numbers, map_word, FitsMap, map_same, MapWord}
use Rattle.flash_rule.proofs.Words.{Victim, Name, Pass, Player, Owned, Work, Source, Carried, View, is_player, is_live_role, owned_at, AreOfHosts, calls_of}
use Rattle.flash_rule.proofs.Words.{World, is_reclaimed, sector_word, data_word, IsValue, IsCurrent, ReclaimsOne, LawfulOwned, LawfulSource, Lawful, Met, Named}
use Rattle.flash_rule.proofs.Words.{CanGetStamp, GotStamp, Phase, Open, put, LawfulView, Onward, CanMove, Moved, LawfulWork}
use Rattle.flash_rule.proofs.Owning.{some_same, none_some, one_entry, owned_with, work_with, Seated, view_of}
use Rattle.flash_rule.proofs.Still.{still, met_now, map_fits, onward_called, no_turn}
use Rattle.flash_rule.proofs.{MapSteps.word_empty, MapSteps.word_named, MapSteps.filled, Values.value_same, Frames.knowledge_kept, Frames.sector_kept}
use Rattle.flash_rule.{proofs.Points.clash, proofs.Points.put_here, proofs.Points.put_else, proofs.Points.put_all, specs.BroomPlays.victim_page}

some_or_none : {X : Type 0} (x : Option X) → (x ≡ None) ⊎ ((y : X) × (x ≡ Some y))
some_or_none None = inl refl
some_or_none (Some y) = inr (y, refl)

-- ---- dead pages
-- A victim's next page that no map word names is one more that is known to be dead
pub clears : (z : Numbers) (g : World) (id : ℕ) (doing : Option Work) (cleared wiped : ℕ) (owns : List Owned) (c : ℕ) (victim : Owned)
    → ReclaimsOne owns → owned_at c owns ≡ Some victim → victim.phase ≡ Victim
    → ((s : ℕ) → s < z.sectors → ¬ (g.map s ≡ Some (record { generation = victim.generation; block = c; page = cleared })))
    → (b : ℕ) (o : Owned) → owned_at b owns ≡ Some o → LawfulOwned z g id doing cleared wiped b o → LawfulOwned z g id doing (cleared + 1) wiped b o
clears z g id doing cleared wiped owns c victim one its phase unnamed b o is h =
    owned_with h (refl, refl, refl) refl h.rest
    (λ reclaimed p s below low named.
    let same : b ≡ c = one b c o victim is its (ap is_reclaimed reclaimed) (ap is_reclaimed phase) in
    let entry : o ≡ victim = one_entry owns is its same in
    dite (ℕ_discrete p cleared)
    (λ last. unnamed s low (named ∙ λ i. Some (record { generation = (entry i).generation; block = same i; page = last i })))
    (λ other. h.dead reclaimed p s (omega arith) low named))
    h.clean

module _ {z : Numbers} {g : World} {vs : List View} {id : ℕ} {v : View} {n : Name} (sat : Seated z g vs id v)
    (role : v.role ≡ Player n) where
  pub numbers_same : v.numbers ≡ z
  numbers_same = (view_of sat).kind.numbers (ap is_live_role role)

  pub callers_now : AreOfHosts v.numbers g.history
  callers_now = subst (λ (y : Numbers). AreOfHosts y g.history) (sym numbers_same) sat.law.callers

  -- ---- what a broom knows changes, and no word
  abbrev pub seer : List Call → List (ℕ × ℕ) → Option Source → ℕ → ℕ → View
  seer seen named source cleared moves = record v { seen = seen; named = named; source = source; cleared = cleared; moves = moves }

  pub sees : (seen : List Call) (named : List (ℕ × ℕ)) (source : Option Source) (cleared moves : ℕ) → Begins seen g.history
      → ((t : ℕ) → v.role ≡ Player (Pass t) → calls_of t seen ≡ v.mine)
      → ((x : Source) → source ≡ Some x → LawfulSource z g v.owns cleared x)
      → ((b : ℕ) (o : Owned) → owned_at b v.owns ≡ Some o → LawfulOwned z g id v.work cleared v.wiped b o)
      → Lawful z g (set vs id (seer seen named source cleared moves))
  sees seen named source cleared moves begins own_calls lawful owned =
      let h = view_of sat in
      let idle : is_player v.role ≡ false → (v.work ≡ None) × (source ≡ None) × (v.programs ≡ []) × (v.erases ≡ []) = clash (ap is_player role) in
      let calls : (t : ℕ) → v.role ≡ Player (Pass t) → (calls_of t g.history ≡ v.mine) × (calls_of t seen ≡ v.mine) = grind arith in
      let own : LawfulView z g id (seer seen named source cleared moves) = assumption (idle, calls, begins, lawful, owned, h) in
      still sat own (λ b. refl) refl

  -- ---- the source
  module _ (x : Source) (is : v.source ≡ Some x) where
    pub its : LawfulSource z g v.owns v.cleared x
    its = (view_of sat).holding.source x is

    its_block : LawfulOwned z g id v.work v.cleared v.wiped x.page.block its.entry
    its_block = (view_of sat).holding.owned x.page.block its.entry its.own

    -- its page stands in the table, and has room in a map word
    pub source_low : (x.page.block < z.blocks) × (x.page.page < z.pages)
    source_low = let b = (sat.law.blocks x.page.block its_block.low).written in let w = its_block.written in let p = its.written in (its_block.low, omega arith)

    pub source_fits : FitsMap x.page
    source_fits =
        let low = source_low in
        let block_low = low.0 in
        let page_low = low.1 in
        let young = (sat.law.blocks x.page.block its_block.low).generation in
        let a1 = sat.law.limits.blocks_high in
        let a2 = sat.law.limits.pages_high in
        let a3 = sat.law.limits.endurance_high in
        let a4 = its_block.generation in
        let a5 = its.generation in record { generation = omega arith; block = omega arith; page = omega arith }

    -- whoever names its page is the sector of its stamp
    pub source_named : (s : ℕ) → s < z.sectors → g.map s ≡ Some (record { generation = its.entry.generation; block = x.page.block; page = v.cleared })
        → (x.stamp ≡ s) × (g.map s ≡ Some x.page)
    source_named s low named =
        let page : record { generation = its.entry.generation; block = x.page.block; page = v.cleared } ≡ x.page = grind arith in
        let here : g.map s ≡ Some x.page = named ∙ ap Some page in (sym its.stamp ∙ ((sat.law.sectors s low).named x.page here).stamp, here)

    -- so if that sector's map word doesn't name it, none does
    source_dead : ¬ (g.map x.stamp ≡ Some x.page) → (s : ℕ) → s < z.sectors
        → ¬ (g.map s ≡ Some (record { generation = its.entry.generation; block = x.page.block; page = v.cleared }))
    source_dead apart s low named = let k = source_named s low named in apart (ap g.map k.0 ∙ k.1)

    pub source_clears : ¬ (g.map x.stamp ≡ Some x.page) → (b : ℕ) (o : Owned) → owned_at b v.owns ≡ Some o
        → LawfulOwned z g id v.work (v.cleared + 1) v.wiped b o
    source_clears apart b o own =
        let h = view_of sat in
        clears z g id v.work v.cleared v.wiped v.owns x.page.block its.entry h.kind.reclaims its.own its.victim (source_dead apart) b o own
        (h.holding.owned b o own)

    -- the map word names the source's page just where it is that page's word
    pub names_source : x.stamp < z.sectors → sector_word (g.map x.stamp) ≡ map_word x.page → g.map x.stamp ≡ Some x.page
    names_source low found =
        let k = word_named (g.map x.stamp) (λ none. absurd (omega arith)) in
        let current = (sat.law.sectors x.stamp low).named k.0 k.1 in
        k.1 ∙ ap Some (map_same k.0 x.page (map_fits sat.law current).0 source_fits (ap sector_word (sym k.1) ∙ found))

    -- then the sector holds the value that was read
    pub source_value : x.stamp < z.sectors → g.map x.stamp ≡ Some x.page → (value : List ℕ) → x.value ≡ Some value
        → held z.sectors g.history x.stamp ≡ Some value
    source_value low named value live =
        let current = (sat.law.sectors x.stamp low).named x.page named in
        let known = its.value value live in
        current.here ∙ ap Some (value_same z current.value value current.whole known.1 (λ i below. sym (current.stands i below) ∙ known.0 i below))

  -- ---- look
  module _ (s : ℕ) (low : s < z.sectors) where
    abbrev pub looked_word : ℕ
    looked_word = sector_word (g.map s)

    abbrev pub looker : Option Source → ℕ → View
    looker source cleared = seer g.history (v.named ++ (s, looked_word) ∷ []) source cleared v.moves

    -- what the word tells
    empty_now : looked_word ≡ 0 → held v.numbers.sectors g.history s ≡ None
    empty_now none = ap (λ (y : Numbers). held y.sectors g.history s) numbers_same ∙ (sat.law.sectors s low).empty (word_empty (g.map s) none)

    page_now : ¬ (looked_word ≡ 0) → (m : MapWord) × (value : List ℕ) × (looked_word ≡ map_word m) × FitsMap m
        × (held v.numbers.sectors g.history s ≡ Some value) × IsValue v.numbers value
        × (m.block < v.numbers.blocks) × (m.page < v.numbers.pages)
    page_now not =
        let same = numbers_same in
        let k = word_named (g.map s) not in
        let current = (sat.law.sectors s low).named k.0 k.1 in
        let fits = map_fits sat.law current in (
          k.0,
          current.value,
          ap sector_word k.1,
          fits.0,
          ap (λ (y : Numbers). held y.sectors g.history s) same ∙ current.here,
          subst (λ (y : Numbers). IsValue y current.value) (sym same) current.whole,
          (let e : v.numbers.blocks ≡ z.blocks = ap (λ (y : Numbers). y.blocks) same in let l = current.block in omega arith),
          (let e : v.numbers.pages ≡ z.pages = ap (λ (y : Numbers). y.pages) same in let l = fits.1 in omega arith),
        )

    met_here : (w : View) → w.role ≡ v.role → w.seen ≡ g.history → w.programs ≡ v.programs → w.erases ≡ v.erases → w.older ≡ v.older → (c : Carried)
        → v.copy ≡ Some c → Met w c
    met_here = met_now role (view_of sat).knowledge

    own_calls : (t : ℕ) → v.role ≡ Player (Pass t) → calls_of t g.history ≡ v.mine
    own_calls t is = ((view_of sat).holding.calls t is).0

    -- a source with another sector's stamp, or none
    look_elsewhere : ((x : Source) → v.source ≡ Some x → ¬ (x.stamp ≡ s)) → (w : View) × Lawful z g (set vs id w) × Named v s looked_word w
    look_elsewhere apart =
        let h = view_of sat in (
          looker v.source v.cleared,
          sees g.history (v.named ++ (s, looked_word) ∷ []) v.source v.cleared v.moves (Begins-refl g.history) own_calls h.holding.source h.holding.owned,
          record {
            changed = refl;
            later = h.knowledge.seen;
            callers = callers_now;
            empty = empty_now;
            page = page_now;
            live = λ x value is stamp. absurd (apart x is stamp);
            dead = λ x is stamp. absurd (apart x is stamp);
            others = λ _. (refl, refl);
            met = met_here (looker v.source v.cleared) refl refl refl refl refl;
          },
        )

    -- the source's page is the sector's
    module _ (x : Source) (is : v.source ≡ Some x) (stamp : x.stamp ≡ s) (found : looked_word ≡ map_word x.page) where
      live_page : IsCurrent z g s x.page
      live_page =
          let P : ℕ → Type 0 = λ t. (t < z.sectors) × (sector_word (g.map t) ≡ map_word x.page) in
          let there : P x.stamp = subst P (sym stamp) (low, found) in
          (sat.law.sectors s low).named x.page (sym (ap g.map stamp) ∙ names_source x is there.0 there.1)

      live_source : Source
      live_source = record x { value = Some live_page.value }

      live_lawful : LawfulSource z g v.owns v.cleared live_source
      unfolding live_source
      live_lawful =
          let source = its x is in
          record {
            entry = source.entry;
            own = source.own;
            victim = source.victim;
            generation = source.generation;
            page = source.page;
            written = source.written;
            stamp = source.stamp;
            value = grind arith;
          }

      live_told : (y : Source) (value : List ℕ) → v.source ≡ Some y → held v.numbers.sectors g.history s ≡ Some value
          → Some live_source ≡ Some (record y { value = Some value })
      unfolding live_source
      live_told y value its_before holds = grind (arith, some_same, live_page, numbers_same)

      look_live : (w : View) × Lawful z g (set vs id w) × Named v s looked_word w
      look_live =
          let h = view_of sat in (
            looker (Some live_source) v.cleared,
            sees g.history (v.named ++ (s, looked_word) ∷ []) (Some live_source) v.cleared v.moves (Begins-refl g.history) own_calls
                (λ y its_now. subst (λ (y : Source). LawfulSource z g v.owns v.cleared y) (some_same live_source y its_now) live_lawful) h.holding.owned,
            record {
              changed = refl;
              later = h.knowledge.seen;
              callers = callers_now;
              empty = empty_now;
              page = page_now;
              live = λ y value its_before _ _ holds. (live_told y value its_before holds, refl);
              dead = λ y its_before _ not. absurd (grind (arith, its_before, not));
              others = λ apart. absurd (apart x is stamp);
              met = met_here (looker (Some live_source) v.cleared) refl refl refl refl refl;
            },
          )

    -- the source's page is the sector's no more
    look_dead : (x : Source) → v.source ≡ Some x → x.stamp ≡ s → ¬ (looked_word ≡ map_word x.page) → (w : View) × Lawful z g (set vs id w)
        × Named v s looked_word w
    look_dead x is stamp other =
        let apart : ¬ (g.map x.stamp ≡ Some x.page) = λ named. other (ap sector_word (sym (ap g.map stamp) ∙ named)) in (
          looker None (v.cleared + 1),
          sees g.history (v.named ++ (s, looked_word) ∷ []) None (v.cleared + 1) v.moves (Begins-refl g.history) own_calls
              (λ y none. absurd (none_some y none)) (source_clears x is apart),
          record {
            changed = refl;
            later = (view_of sat).knowledge.seen;
            callers = callers_now;
            empty = empty_now;
            page = page_now;
            live = λ y value its_before _ found. absurd (other (found ∙ ap (λ (y : Source). map_word y.page) (some_same y x (sym its_before ∙ is))));
            dead = λ y its_before _ _. (refl, refl);
            others = λ apart. absurd (apart x is stamp);
            met = met_here (looker None (v.cleared + 1)) refl refl refl refl refl;
          },
        )

    pub looks : (w : View) × Lawful z g (set vs id w) × Named v s looked_word w
    looks =
        ⊎_elim
        (λ (none : v.source ≡ None). look_elsewhere (λ x is. absurd (none_some x (sym none ∙ is))))
        (λ (some : (x : Source) × (v.source ≡ Some x)).
        let x = some.0 in
        let is = some.1 in
        dite (ℕ_discrete x.stamp s)
        (λ stamp. dite (ℕ_discrete looked_word (map_word x.page)) (look_live x is stamp) (look_dead x is stamp))
        (λ unlike. look_elsewhere (λ y its_before. λ stamp. unlike (ap (λ (y : Source). y.stamp) (some_same x y (sym is ∙ its_before)) ∙ stamp))))
        (some_or_none v.source)

  -- ---- the stamp of the next page
  module _ (o : Owned) (can : CanGetStamp v o) where
    abbrev pub stamp_word : ℕ
    stamp_word = g.pages o.block v.cleared z.words

    its_victim : LawfulOwned z g id v.work v.cleared v.wiped o.block o
    its_victim = (view_of sat).holding.owned o.block o can.own

    pub stamp_low : (o.block < z.blocks) × (v.cleared < z.pages)
    stamp_low = let b = (sat.law.blocks o.block its_victim.low).written in let w = its_victim.written in let c = can.written in (its_victim.low, omega arith)

    seen_calls : (t : ℕ) → v.role ≡ Player (Pass t) → calls_of t v.seen ≡ v.mine
    seen_calls t is = ((view_of sat).holding.calls t is).1

    stamp_of_sector : stamp_word < z.sectors → (w : View) × Lawful z g (set vs id w) × GotStamp v o stamp_word w
    stamp_of_sector low =
        let h = view_of sat in
        let same : v.numbers.sectors ≡ z.sectors = ap (λ (y : Numbers). y.sectors) numbers_same in
        let source : Source = record { page = victim_page v o; stamp = stamp_word; value = None } in (
          seer v.seen v.named (Some source) v.cleared v.moves,
          sees v.seen v.named (Some source) v.cleared v.moves h.knowledge.seen seen_calls
              (grind arith) h.holding.owned,
          record { sector = λ _. refl; dead = λ high. absurd (omega arith) },
        )

    stamp_of_none : z.sectors ≤ stamp_word → (w : View) × Lawful z g (set vs id w) × GotStamp v o stamp_word w
    stamp_of_none high =
        let h = view_of sat in
        let same : v.numbers.sectors ≡ z.sectors = ap (λ (y : Numbers). y.sectors) numbers_same in (
          seer v.seen v.named None (v.cleared + 1) v.moves,
          sees v.seen v.named None (v.cleared + 1) v.moves h.knowledge.seen seen_calls (λ y none. absurd (none_some y none))
              (λ b e own. clears z g id v.work v.cleared v.wiped v.owns o.block o h.kind.reclaims can.own can.victim
              (λ s low named. let stamp : stamp_word ≡ s = ((sat.law.sectors s low).named (victim_page v o) named).stamp in absurd (omega arith)) b e own
              (h.holding.owned b e own)),
          record { sector = λ low. absurd (omega arith); dead = λ _. refl },
        )

    pub gets_stamp : (w : View) × Lawful z g (set vs id w) × GotStamp v o stamp_word w
    gets_stamp = dite (dec_lt stamp_word z.sectors) stamp_of_sector (λ not. stamp_of_none (omega arith))

  -- ---- a word of the source
  pub gets_source : (x : Source) (value : List ℕ) (i : ℕ) → v.source ≡ Some x → x.value ≡ Some value → i < z.words
      → g.pages x.page.block x.page.page i ≡ data_word value i
  gets_source x value i is live low = ((its x is).value value live).0 i low

not_both : (f : Phase) → f ≡ Open → f ≡ Victim → ⊥
not_both f opened victim = let e : Open ≡ Victim = sym opened ∙ victim in absurd (cc)

module _ {z : Numbers} {g : World} {vs : List View} {id : ℕ} {v : View} {n : Name} {x : Source} {copy : MapWord}
    (sat : Seated z g vs id v) (role : v.role ≡ Player n) (can : CanMove v x copy) (low : x.stamp < z.sectors) where
  abbrev pub mover : ℕ → View
  mover moves = seer sat role g.history v.named None (v.cleared + 1) moves

  abbrev pub exchanged_world : World
  exchanged_world = record g { map = put g.map x.stamp (Some copy) }

  move_tells : (moves word : ℕ) → (word ≡ map_word x.page → (moves ≡ v.moves + 1) × (held v.numbers.sectors g.history x.stamp ≡ x.value))
      → (¬ (word ≡ map_word x.page) → moves ≡ v.moves) → Moved v x word (mover moves)
  move_tells moves word succeeded failed =
      let h = view_of sat in
      record {
        changed = refl;
        later = h.knowledge.seen;
        callers = callers_now sat role;
        succeeded = succeeded;
        failed = failed;
        met = met_now role h.knowledge (mover moves) refl refl refl refl refl;
      }

  -- ---- the map word names another page, or none
  pub stays : (word : ℕ) → word ≡ sector_word (g.map x.stamp) → ¬ (word ≡ map_word x.page) → Lawful z g (set vs id (mover v.moves))
      × Moved v x word (mover v.moves)
  stays word found other =
      let h = view_of sat in
      let apart : ¬ (g.map x.stamp ≡ Some x.page) = λ named. other (found ∙ ap sector_word named) in (
        sees sat role g.history v.named None (v.cleared + 1) v.moves (Begins-refl g.history) (λ t is. (h.holding.calls t is).0)
            (λ y none. absurd (none_some y none))
            (source_clears sat role x can.is apart),
        move_tells v.moves word (λ is. absurd (other is)) (λ _. refl),
      )

  -- ---- the map word names the source's page
  module _ (named : g.map x.stamp ≡ Some x.page) where
    its_value : held z.sectors g.history x.stamp ≡ Some can.value
    its_value = source_value sat role x can.is low named can.value can.live

    the_copy : (g.owner copy.block ≡ id) × ((g.pins copy.block).phase ≡ Open) × IsCurrent z exchanged_world x.stamp copy
    the_copy = filled sat role can.copied g.history exchanged_world.map its_value

    move_onward : Onward z g exchanged_world id id
    move_onward =
        onward_called (Begins-refl g.history) (λ _ _. refl)
        (λ _ _ p i. refl) (λ b p i _ _. refl) (grind (arith, put_all, some_same, the_copy))
        (λ n _ _. (refl, refl)) (λ n c is. inl is)

    -- the copy is in no victim
    copy_open : (b : ℕ) (m : MapWord) → copy ≡ m → m.block ≡ b → (g.pins b).phase ≡ Victim → ⊥
    copy_open b m same block victim = grind (arith, not_both, the_copy)

    still_owned : (b : ℕ) (o : Owned) → LawfulOwned z g id v.work v.cleared v.wiped b o → LawfulOwned z exchanged_world id v.work v.cleared v.wiped b o
    still_owned b o h = grind (arith, owned_with, put_all, copy_open, some_same)

    -- nothing names the source's page any more
    unnamed : (s : ℕ) → s < z.sectors → ¬ (exchanged_world.map s
        ≡ Some (record { generation = (its sat role x can.is).entry.generation; block = x.page.block; page = v.cleared }))
    unnamed s s_low is =
        let source = its sat role x can.is in
        let page : MapWord = record { generation = source.entry.generation; block = x.page.block; page = v.cleared } in
        let block = (view_of sat).holding.owned x.page.block source.entry source.own in
        put_all g.map x.stamp (Some copy) (λ j y. j < z.sectors → y ≡ Some page → ⊥)
        (λ _ here. copy_open x.page.block page (some_same copy page here) refl (block.phase ∙ source.victim))
        (λ j unlike j_low there. unlike (sym (source_named sat role x can.is j j_low there).0)) s s_low is

    mover_lawful : LawfulView z exchanged_world id (mover (v.moves + 1))
    mover_lawful =
        let h = view_of sat in
        let source = its sat role x can.is in
        let seen : Begins g.history g.history = Begins-refl g.history in
        let idle : is_player v.role ≡ false → (v.work ≡ None) × ((mover (v.moves + 1)).source ≡ None) × (v.programs ≡ []) × (v.erases ≡ []) = grind arith in
        let calls : (t : ℕ) → v.role ≡ Player (Pass t) → (calls_of t g.history ≡ v.mine) × (calls_of t g.history ≡ v.mine) = grind arith in
        let owned : (b : ℕ) (o : Owned) → owned_at b v.owns ≡ Some o → LawfulOwned z exchanged_world id v.work (v.cleared + 1) v.wiped b o = λ b o own.
        clears z exchanged_world id v.work v.cleared v.wiped v.owns x.page.block source.entry h.kind.reclaims source.own source.victim
        unnamed b o own (still_owned b o (h.holding.owned b o own)) in
        let work : (w : Work) → v.work ≡ Some w → LawfulWork z exchanged_world v.owns w = λ w is.
        let k = h.holding.work w is in work_with k k.own (λ _. refl) in
        let none : (y : Source) → None ≡ Some y → LawfulSource z exchanged_world v.owns (v.cleared + 1) y = λ y is. absurd (none_some y is) in
        assumption (seen, idle, calls, owned, work, none, knowledge_kept move_onward sat, h)

    pub moves_page : Lawful z exchanged_world (set vs id (mover (v.moves + 1)))
    moves_page =
        no_turn sat move_onward mover_lawful (λ b. refl) refl
        (λ s s_low. dite (ℕ_discrete s x.stamp)
        (grind (arith, none_some, put_here, some_same, the_copy))
        (λ unlike. sector_kept (sat.law.sectors s s_low) (put_else g.map x.stamp (Some copy) s unlike) refl
        (λ b _ is. (refl, is, omega arith, λ p i _. refl))))
        sat.law.callers (λ b _ p i. refl) sat.law.strangers

    pub move_told_here : (word : ℕ) → word ≡ map_word x.page → Moved v x word (mover (v.moves + 1))
    move_told_here word found =
        let same = numbers_same sat role in
        move_tells (v.moves + 1) word (λ _. (refl, ap (λ (y : Numbers). held y.sectors g.history x.stamp) same ∙ (its_value ∙ sym can.live)))
        (λ not. absurd (not found))
