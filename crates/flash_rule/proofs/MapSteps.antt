-- One map word changes, and the history with it: what a place does, of a trim, of a write and of a write of an empty sector.
use Rattle.flash_rule.proofs.Words.{◌≡◌, ◌≢◌, ℕ, ◌<◌, ◌⊎◌, inl, List, [], ◌∷◌, ◌++◌, Option, None, Some, set, sym, refl, ap, ◌∙◌, subst, arith, dite}
use Rattle.flash_rule.proofs.Words.{ℕ_discrete, Call, held, Begins-refl, Numbers, MapWord, Open, Victim, Pass, Player, View, AreOfHosts, calls_of, caller}
use Rattle.flash_rule.proofs.Words.{World, put, sector_word, LawfulSector, LawfulView, Lawful, Onward, Placed, ◌≤◌, get_or, Write, WriteNew, Trim, Name, Owned}
use Rattle.flash_rule.proofs.Words.{is_live_role, owned_at, is_nameable, IsCurrent, IsValue, CanPlace, Begins, Work, Source, LawfulOwned, LawfulWork}
use Rattle.flash_rule.proofs.{Words.LawfulSource, Words.is_pass, Points.put_else, Points.put_here, Frames.knowledge_kept, Frames.sector_kept}
use Rattle.flash_rule.proofs.Still.{pass_numbers, onward_called, no_turn}
use Rattle.flash_rule.proofs.Owning.{owned_with, work_with, some_same, none_some, Seated, view_of}
use Rattle.std.proofs.lemmas.List.Elements.{All-push}
use Rattle.geometry.proofs.Histories.{Begins-push, held_written, held_trimmed, held_new, after_refused, held_by_write, held_by_new, held_by_trim}

calls_else : (t : ℕ) (h : List Call) (c : Call) → caller c ≢ t → calls_of t (h ++ c ∷ []) ≡ calls_of t h
calls_else t [] c apart = grind arith
calls_else t (x ∷ h) c apart = grind (arith, calls_else t h c apart)

calls_here : (t : ℕ) (h : List Call) (c : Call) → caller c ≡ t → calls_of t (h ++ c ∷ []) ≡ calls_of t h ++ c ∷ []
calls_here t [] c same = grind arith
calls_here t (x ∷ h) c same = grind (arith, calls_here t h c same)

pub pass_same : (t u : ℕ) → Player (Pass t) ≡ Player (Pass u) → t ≡ u
pass_same t u e = cc

-- a sector's map word tells whether it names a page
pub word_empty : (x : Option MapWord) → sector_word x ≡ 0 → x ≡ None
word_empty x e = grind arith

pub word_named : (x : Option MapWord) → ¬ (sector_word x ≡ 0) → (m : MapWord) × (x ≡ Some m)
word_named x e = grind arith

-- a change of a map word is lawful where the call does to its sector what the word says, and a page that is newly named is the caller's own
module _ {z : Numbers} {g : World} {vs : List View} {id : ℕ} {v : View} {t : ℕ} (sat : Seated z g vs id v) (role : v.role ≡ Player (Pass t)) (s : ℕ)
    (c : Call) (m : Option MapWord) (by_me : caller c ≡ t) where
  abbrev pub placer : View
  placer = record v { seen = g.history ++ c ∷ []; mine = v.mine ++ c ∷ [] }

  abbrev pub place_world : World
  place_world = record g { history = g.history ++ c ∷ []; map = put g.map s m }

  -- the caller has been handed out, so it is one of the hosts
  called_by_hosts : AreOfHosts z (g.history ++ c ∷ [])
  called_by_hosts =
      let dealt = ((view_of sat).holding.name (Pass t) role).1 in
      let room = sat.law.dealt in
      let low : caller c < z.hosts = let e : caller c ≡ t = by_me in omega arith in All-push (λ c. caller c < z.hosts) g.history c sat.law.callers low

  own_calls : (u : ℕ) → v.role ≡ Player (Pass u) → calls_of u (g.history ++ c ∷ []) ≡ v.mine ++ c ∷ []
  own_calls u is =
      let same : t ≡ u = pass_same t u (sym role ∙ is) in
      calls_here u g.history c (by_me ∙ same) ∙ ap (λ l. l ++ c ∷ []) ((view_of sat).holding.calls u is).0

  pub places : ((n : MapWord) → m ≡ Some n → (g.map s ≡ Some n) ⊎ ((g.owner n.block ≡ id) × ((g.pins n.block).phase ≡ Open)))
      → ((other : ℕ) → other ≢ s → held z.sectors (g.history ++ c ∷ []) other ≡ held z.sectors g.history other)
      → LawfulSector z place_world s → Lawful z place_world (set vs id placer)
  places mine others here =
      let h = view_of sat in
      let g' = place_world in
      let named = h.holding.name (Pass t) role in
      let on : Onward z g g' id id = onward_called (Begins-push g.history c)
      (λ u other. calls_else u g.history c (λ same. other (ap (λ k. g.seat (Pass k)) (sym same ∙ by_me) ∙ named.0)))
      (λ _ _ p i. refl) (λ b p i _ _. refl) (grind arith)
      (λ n _ _. (refl, refl)) (λ n c is. inl is) in
      let seen : Begins g'.history g'.history = Begins-refl (g.history ++ c ∷ []) in
      let no_victim : (b : ℕ) (o : Owned) → owned_at b v.owns ≡ Some o → o.phase ≡ Victim → ⊥ = grind arith in
      let calls : (u : ℕ) → v.role ≡ Player (Pass u) → (calls_of u g'.history ≡ placer.mine) × (calls_of u g'.history ≡ placer.mine) = λ u is.
      let its = own_calls u is in (its, its) in
      let owned : (b : ℕ) (o : Owned) → owned_at b v.owns ≡ Some o → LawfulOwned z g' id v.work v.cleared v.wiped b o = λ b o own.
      let k = h.holding.owned b o own in
      owned_with k (refl, refl, refl) refl k.rest (λ victim. absurd (no_victim b o own victim)) k.clean in
      let work : (x : Work) → v.work ≡ Some x → LawfulWork z g' v.owns x = λ x is. let k = h.holding.work x is in work_with k k.own (λ _. refl) in
      let source : (x : Source) → v.source ≡ Some x → LawfulSource z g' v.owns v.cleared x = λ x is.
      let k = h.holding.source x is in absurd (no_victim x.page.block k.entry k.own k.victim) in
      let after : LawfulView z g' id placer = assumption (seen, calls, owned, work, source, knowledge_kept on sat, h) in
      no_turn sat on after (λ b. refl) refl
      (λ u low. dite (ℕ_discrete u s)
      (λ same. subst (λ j. LawfulSector z g' j) (sym same) here)
      (λ unlike. sector_kept (sat.law.sectors u low) (put_else g.map s m u unlike) (others u unlike) (λ b _ is. (refl, is, omega arith, λ p i _. refl))))
      called_by_hosts (λ b _ p i. refl)
      (λ u free. calls_else u g.history c (λ same. let d = named.1 in let e : t ≡ u = sym by_me ∙ same in absurd (omega arith)) ∙ sat.law.strangers u free)

  -- what the pass is told
  pub placed : LawfulSector z g s → (n : ℕ) → n ≡ sector_word (g.map s) → Placed v c s n placer
  placed sector n found =
      let h = view_of sat in
      let same = pass_numbers h.kind (ap is_pass role) in
      record {
        changed = refl;
        before = g.history;
        later = h.knowledge.seen;
        now = refl;
        callers = subst (λ (y : Numbers). AreOfHosts y (g.history ++ c ∷ [])) (sym same) called_by_hosts;
        empty = λ none. ap (λ (y : Numbers). held y.sectors g.history s) same ∙ sector.empty (word_empty (g.map s) (sym found ∙ none));
        written = λ not. let k = word_named (g.map s) (λ e. not (found ∙ e)) in let cur = sector.named k.0 k.1 in
            (cur.value, ap (λ (y : Numbers). held y.sectors g.history s) same ∙ cur.here);
        own = own_calls;
      }

-- a page that a player has filled and counted with the sector's value is one that its map word may name
pub filled : {z : Numbers} {g : World} {vs : List View} {id : ℕ} {v : View} {n : Name} {s : ℕ} {m : MapWord} {value : List ℕ} → Seated z g vs id v
    → v.role ≡ Player n → CanPlace v s m value
    → (history : List Call) (map : ℕ → Option MapWord) → held z.sectors history s ≡ Some value
    → (g.owner m.block ≡ id) × ((g.pins m.block).phase ≡ Open) × IsCurrent z (record g { history = history; map = map }) s m
filled {z} {g} {v = v} {m = m} {value} sat role can history map here =
    let h = view_of sat in
    let same : v.numbers ≡ z = h.kind.numbers (ap is_live_role role) in
    let own = h.holding.owned m.block can.entry can.own in
    let work = h.holding.work can.work can.is in
    let block_is : can.work.page.block ≡ m.block = ap (λ (y : MapWord). y.block) can.page in
    let page_is : can.work.page.page ≡ m.page = ap (λ (y : MapWord). y.page) can.page in
    let P : ℕ → Type 0 = λ c. owned_at c v.owns ≡ Some work.entry in
    let entry_is : work.entry ≡ can.entry = some_same work.entry can.entry (sym (subst P block_is work.own) ∙ can.own) in
    let written_is : work.entry.written ≡ can.entry.written = ap (λ (y : Owned). y.written) entry_is in
    let low_page = can.counted in
    let full = work.full (omega arith) in
    let words_same : v.numbers.words ≡ z.words = ap (λ (y : Numbers). y.words) same in
    let stands : (i : ℕ) → i ≤ z.words → g.pages m.block m.page i ≡ get_or can.work.words i 0 = grind arith in
    let opened : can.entry.phase ≡ Open = ap (λ (y : Owned). y.phase) (sym entry_is) ∙ work.opened in (
      own.owner,
      own.phase ∙ opened,
      record {
        value = value;
        here = here;
        block = own.low;
        same = own.generation ∙ (ap (λ (y : Owned). y.generation) (sym entry_is) ∙ (work.generation ∙ ap (λ (y : MapWord). y.generation) can.page));
        phase = ap is_nameable (own.phase ∙ opened);
        written = (let w = own.written in omega arith);
        stands = λ i below. stands i (omega arith) ∙ can.words i (omega arith);
        whole = subst (λ (y : Numbers). IsValue y value) same can.whole;
        stamp = stands z.words (omega arith) ∙ (ap (λ i. get_or can.work.words i 0) (sym words_same) ∙ can.stamp);
      },
    )

module _ {z : Numbers} {g : World} {vs : List View} {id : ℕ} {v : View} {t : ℕ} (sat : Seated z g vs id v) (role : v.role ≡ Player (Pass t)) (s : ℕ)
    (low : s < z.sectors) where
  -- what the rule says after this call, by which the sector has this map word
  abbrev pub Lawful_after : (c : Call) → caller c ≡ t → Option MapWord → Type 0
  Lawful_after c by_me m = Lawful z (place_world sat role s c m by_me) (set vs id (placer sat role s c m by_me))

  -- a trim empties its sector
  pub trims : Lawful_after (Trim t s) refl None
  trims =
      places sat role s (Trim t s) None refl (λ n is. absurd (none_some n is)) (held_by_trim z.sectors g.history t s)
      (grind (arith, held_trimmed, none_some, put_here))

  -- a call names the page that was filled and counted, and leaves the other sectors
  names : (c : Call) (by_me : caller c ≡ t) (m : MapWord) (value : List ℕ) → CanPlace v s m value → held z.sectors (g.history ++ c ∷ []) s ≡ Some value
      → ((other : ℕ) → other ≢ s → held z.sectors (g.history ++ c ∷ []) other ≡ held z.sectors g.history other) → Lawful_after c by_me (Some m)
  names c by_me m value can here others =
      let after = place_world sat role s c (Some m) by_me in
      let own = filled sat role can after.history after.map here in
      places sat role s c (Some m) by_me
      (grind arith) others (grind arith)

  -- so does a write
  pub writes : (m : MapWord) (value : List ℕ) → CanPlace v s m value → Lawful_after (Write t s value) refl (Some m)
  writes m value can =
      names (Write t s value) refl m value can (held_written z.sectors g.history t s value low) (held_by_write z.sectors g.history t s value)

  -- and a write of an empty sector, where no page is named
  pub writes_new : (m : MapWord) (value : List ℕ) → g.map s ≡ None → CanPlace v s m value → Lawful_after (WriteNew t s value) refl (Some m)
  writes_new m value none can =
      names (WriteNew t s value) refl m value can (held_new z.sectors g.history t s value low ((sat.law.sectors s low).empty none))
      (held_by_new z.sectors g.history t s value)

  -- and it leaves the page that is named, where one is
  pub leaves : (m : MapWord) (value : List ℕ) → g.map s ≡ Some m → Lawful_after (WriteNew t s value) refl (g.map s)
  leaves m value named =
      let now = (sat.law.sectors s low).named m named in
      let stays = after_refused z.sectors g.history t s value now.value now.here in
      places sat role s (WriteNew t s value) (g.map s) refl (λ n is. inl is) (held_by_new z.sectors g.history t s value)
      (sector_kept (sat.law.sectors s low) (put_here g.map s (g.map s)) (ap (λ a. get_or a s None) stays) (λ b _ is. (refl, is, omega arith, λ p i _. refl)))
