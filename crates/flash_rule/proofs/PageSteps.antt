-- Steps on page words: put and get.
use Rattle.flash_rule.proofs.Words.{◌≡◌, ◌≢◌, ℕ, ◌*◌, ◌<◌, ◌≤◌, inl, inr, ⊎_elim, eq-eqb, ne_eqb, true, false, List, [], ◌∷◌, ◌++◌, Option, None, Some, length}
use Rattle.flash_rule.proofs.Words.{set, sym, refl, ap, ◌∙◌, subst, arith, length-append, get_or, dite, ℕ_discrete, Numbers, MapWord, Open, Erasing, Pin, Owned}
use Rattle.flash_rule.proofs.Words.{Pass, Accepted, Work, Carried, View, is_player, owned_at, World, put_word, is_still, age_of, data_word, IsFilling}
use Rattle.flash_rule.proofs.Words.{LawfulOwned, LawfulWork, LawfulView, Lawful, LawfulPin, Onward, next_page, words_in, ◌+◌, Begins-refl, Source, LawfulSource}
use Rattle.flash_rule.proofs.{Points.eq_self, Points.clash, Frames.knowledge_kept, Frames.sector_kept}
use Rattle.flash_rule.proofs.Still.{pass_of, met, programs_once, onward_called, no_turn, intact_age}
use Rattle.flash_rule.proofs.Owning.{some_same, blocks_apart, open_victim, owned_with, source_with, put3, put3_here, put3_else, each_of, Seated, view_of}
use Rattle.flash_rule.specs.Plays.{SettledBut, Spared}
use Rattle.std.proofs.lemmas.List.{get_or_append_left, get_or_push}

pub word_here : (f : ℕ → ℕ → ℕ → ℕ) (b p i x : ℕ) → put_word f b p i x b p i ≡ x
unfolding put3
word_here f b p i x = put3_here f b p i x

pub word_else : (f : ℕ → ℕ → ℕ → ℕ) (b p i x c q j : ℕ) → ¬ ((c ≡ b) × (q ≡ p) × (j ≡ i)) → put_word f b p i x c q j ≡ f c q j
unfolding put3
word_else f b p i x c q j apart = put3_else f b p i x c q j apart

-- a block whose work is counted has no words in its next page
pub words_none : (d : Option Work) (o : Owned) → ((x : Work) → d ≡ Some x → x.page.block ≡ o.block → x.page.page < o.written) → words_in d o ≡ []
words_none d o counted = grind arith

pub words_here : (o : Owned) (words : List ℕ) → words_in (Some (record { page = next_page o; words = words })) o ≡ words
words_here o words = rw (eq_self o.block) (rw (eq_self o.written) refl)

-- the words put so far into the next page stand in it
words_stand : (z : Numbers) (g : World) (owns : List Owned) (doing : Option Work) (o : Owned) → ((w : Work) → doing ≡ Some w → LawfulWork z g owns w)
    → (j : ℕ) → j < length (words_in doing o)
    → g.pages o.block (next_page o).page j ≡ get_or (words_in doing o) j 0
words_stand z g owns None o lawful j low = absurd (omega arith)
words_stand z g owns (Some w) o lawful j low =
    dite (ℕ_discrete w.page.block o.block)
    (λ b. dite (ℕ_discrete w.page.page (next_page o).page)
    (λ p.
    let here : words_in (Some w) o ≡ w.words = rw (eq-eqb w.page.block o.block b) (rw (eq-eqb w.page.page (next_page o).page p) refl) in
    let within : j < length w.words = subst (λ (l : List ℕ). j < length l) here low in
    ap (λ c. g.pages c (next_page o).page j) (sym b)
    ∙ (ap (λ c. g.pages w.page.block c j) (sym p) ∙ ((lawful w refl).stands j within ∙ ap (λ (l : List ℕ). get_or l j 0) (sym here))))
    (grind arith))
    (λ b. let none : words_in (Some w) o ≡ [] = rw (ne_eqb w.page.block o.block b) refl in absurd (nothing j (subst (λ (l : List ℕ). j < length l) none low)))
  where
    nothing : (j : ℕ) → j < 0 → ⊥
    nothing j low = omega arith

module _ {z : Numbers} {g : World} {vs : List View} {id : ℕ} {v : View} {o : Owned} (sat : Seated z g vs id v) (x : ℕ)
    (player : is_player v.role ≡ true) (own : owned_at o.block v.owns ≡ Some o) (opened : o.phase ≡ Open) where
  abbrev pub put_at : ℕ
  put_at = length (words_in v.work o)

  abbrev pub put_work : Work
  put_work = record { page = next_page o; words = words_in v.work o ++ x ∷ [] }

  abbrev pub putter : View
  putter = record v { work = Some put_work }

  abbrev pub put_world : World
  put_world = record g { pages = put_word g.pages o.block (next_page o).page put_at x }

  entry : LawfulOwned z g id v.work v.cleared v.wiped o.block o
  entry = (view_of sat).holding.owned o.block o own

  else_block : (c q j : ℕ) → c ≢ o.block → put_world.pages c q j ≡ g.pages c q j
  else_block c q j unlike = word_else g.pages o.block (next_page o).page put_at x c q j (λ same. unlike same.0)

  else_page : (c q j : ℕ) → q ≢ (next_page o).page → put_world.pages c q j ≡ g.pages c q j
  else_page c q j unlike = word_else g.pages o.block (next_page o).page put_at x c q j (λ same. unlike same.1)

  programmed_stays : (c q j : ℕ) → q < (g.pins c).written → put_world.pages c q j ≡ g.pages c q j
  programmed_stays c q j low = grind (arith, word_else, entry)

  -- no later page of the block is being filled
  filling_none : (q : ℕ) → (next_page o).page ≤ q → q ≢ (next_page o).page → IsFilling v.work o.block q → ⊥
  filling_none q from later f =
      let k = (view_of sat).holding.work f.work f.is in
      let same : k.entry ≡ o = some_same k.entry o (sym k.own ∙ subst (λ c. owned_at c v.owns ≡ Some o) (sym f.block) own) in
      let e : k.entry.written ≡ o.written = ap (λ (y : Owned). y.written) same in
      let l = f.page in
      ⊎_elim (λ (t : f.work.page.page < k.entry.written). absurd (omega arith))
      (λ (t : f.work.page.page ≡ k.entry.written). absurd (later (omega arith))) k.counted

  put_block : LawfulOwned z put_world id (Some put_work) v.cleared v.wiped o.block o
  put_block =
      let mine = entry in
      owned_with mine (refl, refl, refl) refl
      (λ is q from below not.
      let later : q ≢ (next_page o).page = λ same. not (record { work = put_work; is = refl; block = refl; page = sym same }) in
      λ j most. else_page o.block q j later ∙ mine.rest is q from below (λ f. filling_none q from later f) j most)
      mine.dead
      (λ is. let e : Open ≡ Erasing = sym opened ∙ is in absurd (cc))

  put_lawful : o.written < z.pages → put_at ≤ z.words → LawfulWork z put_world v.owns put_work
  put_lawful room short =
      let words = words_in v.work o in
      let p = (next_page o).page in
      let l : length (words ++ x ∷ []) ≡ length words + length (x ∷ []) = length-append words (x ∷ []) in
      record {
        entry = o;
        own = own;
        opened = opened;
        generation = refl;
        page = room;
        counted = inr refl;
        short = omega arith;
        full = λ low. absurd (omega arith);
        stands = λ j low. dite (ℕ_discrete j put_at)
            (grind (arith, word_here, get_or_push))
            (λ other.
            let within : j < length words = omega arith in
            word_else g.pages o.block p put_at x o.block p j (λ same. other same.2)
            ∙ (words_stand z g v.owns v.work o (view_of sat).holding.work j within ∙ sym (get_or_append_left words (x ∷ []) 0 j within)));
      }

  pub puts_word : o.written < z.pages → put_at ≤ z.words → SettledBut v o.block → Lawful z put_world (set vs id putter)
  puts_word room short settled =
      let h = view_of sat in
      let b = o.block in
      let g' = put_world in
      let mine = entry in
      let on : Onward z g g' id id = onward_called (Begins-refl g.history) (λ _ _. refl)
      (λ c other q j. else_block c q j (λ same. other (ap g.owner same ∙ mine.owner)))
      (λ c q j _ low. programmed_stays c q j low) (λ s m is. inl is) (λ n _ _. (refl, refl)) (λ n c is. inl is) in
      let not_filling : (c q : ℕ) (e : Owned) → owned_at c v.owns ≡ Some e → c ≢ b → e.written ≤ q → IsFilling v.work c q → ⊥ = grind arith in
      let idle : is_player v.role ≡ false → (Some put_work ≡ None) × (v.source ≡ None) × (v.programs ≡ []) × (v.erases ≡ []) = clash player in
      let owned : (c : ℕ) (e : Owned) → owned_at c v.owns ≡ Some e → LawfulOwned z g' id (Some put_work) v.cleared v.wiped c e =
      each_of (λ c e. LawfulOwned z g' id (Some put_work) v.cleared v.wiped c e) o v.owns own put_block (λ c e unlike owns.
      let k = h.holding.owned c e owns in
      owned_with k (refl, refl, refl) refl
      (λ is q from below _ j most. else_block c q j unlike ∙ k.rest is q from below (λ f. not_filling c q e owns unlike from f) j most)
      k.dead
      (λ is q j low most below. else_block c q j unlike ∙ k.clean is q j low most below)) in
      let work : (y : Work) → Some put_work ≡ Some y → LawfulWork z g' v.owns y = grind (arith, some_same, put_lawful) in
      let source : (y : Source) → v.source ≡ Some y → LawfulSource z g' v.owns v.cleared y = λ y is.
      let k = h.holding.source y is in
      let unlike = blocks_apart v.owns o k.entry y.page.block own k.own (open_victim o k.entry opened k.victim) in
      source_with k k.own refl (λ j. else_block y.page.block y.page.page j unlike) in
      let after : LawfulView z g' id putter = assumption (idle, owned, work, source, knowledge_kept on sat, h) in
      no_turn sat on after (λ c. refl) refl
      (λ s low. sector_kept (sat.law.sectors s low) refl refl (λ c below named. (refl, named, omega arith, λ q j written. programmed_stays c q j written)))
      sat.law.callers
      (λ c still q j. else_block c q j (λ same. clash still (ap (λ j. is_still (g.pins j).phase) same ∙ ap is_still (mine.phase ∙ opened))))
      sat.law.strangers

-- ---- get

-- an accepted pin's page is what it was at the look
pub gets_accepted : {z : Numbers} {g : World} {vs : List View} {id : ℕ} {v : View} {m : MapWord} {value : List ℕ} → Seated z g vs id v
    → v.pin ≡ Accepted m value
    → (m.block < z.blocks) × (m.page < z.pages) × ((i : ℕ) → i < z.words → g.pages m.block m.page i ≡ data_word value i)
gets_accepted {z} {g} {v = v} {m} sat is =
    let c = subst (λ (p : Pin). LawfulPin z g v.known p) is (view_of sat).knowledge.pin in
    let low = c.written in
    let most = (sat.law.blocks m.block c.block).written in (c.block, omega arith, c.stands)

-- while a page is pinned, nobody erases its block
pub spared : {z : Numbers} {g : World} {vs : List View} {id : ℕ} {v : View} {m : MapWord} {value : List ℕ} {c : Carried} → Seated z g vs id v
    → v.pin ≡ Accepted m value → v.copy ≡ Some c → Spared v m c
spared {z} {g} {v = v} {m} {value} {c} sat pinned copied =
    let h = view_of sat in
    let t = pass_of v.role (grind (arith, h.kind.unpinned, pinned)) in
    let a = subst (λ (p : Pin). LawfulPin z g v.known p) pinned h.knowledge.pin in
    let copy = h.knowledge.copy c copied in
    let apart = met t.1 h.knowledge copy in
    let age : age_of (g.pins m.block) ≡ 2 * (g.pins m.block).generation = intact_age (g.pins m.block) a.intact.phase in
    record {
      other = copy.other;
      programs = apart.1;
      programmed_once = (programs_once z g (Pass t.0) v.programs (h.knowledge.programs (Pass t.0) t.1), programs_once z g c.of c.programs copy.programs);
      erases = grind arith;
      newer = λ o was. h.knowledge.older o c was copied;
    }
