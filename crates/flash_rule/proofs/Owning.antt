-- What a step leaves as it is to the seat that makes it, and the blocks that the seat owns, with one entry changed.
use Rattle.flash_rule.proofs.Words.{◌≡◌, ℕ, ◌+◌, ◌*◌, ◌<◌, ◌≤◌, true, List, [], Option, None, Some, refl, ap, ◌∙◌, sym, subst, Numbers, PinWord, Open, Victim}
use Rattle.flash_rule.proofs.Words.{Erasing, Owned, Work, Source, View, owned_at, World, IsBlank, blank_word, IsFilling, ReclaimsOne, LawfulOwned, LawfulWork}
use Rattle.flash_rule.proofs.Words.{LawfulSource, ◌≢◌, zero, suc, ◌⊎◌, inl, inr, ⊎_elim, eq-eqb, ne_eqb, ◌∷◌, ◌++◌, length, slice_get, dite, ℕ_discrete}
use Rattle.flash_rule.proofs.Words.{MapWord, without, with_owned, put, is_reclaimed, LawfulView, Lawful, get_elem?, some}
use Rattle.flash_rule.proofs.Points.{eq_self, clash}

-- The table meets the rule, and the seat has this view
pub record Seated (z : Numbers) (g : World) (vs : List View) (id : ℕ) (v : View) : Type 0 where
  pub law : Lawful z g vs
  pub at : get_elem? vs id ≡ some v

pub view_of : {z : Numbers} {g : World} {vs : List View} {id : ℕ} {v : View} → Seated z g vs id v → LawfulView z g id v
view_of {id = id} {v = v} sat = sat.law.views id v sat.at

-- a page that is being filled, where its words stay
pub work_with : {z : Numbers} {g g' : World} {owns owns' : List Owned} {x : Work} (h : LawfulWork z g owns x) → owned_at x.page.block owns' ≡ Some h.entry
    → ((i : ℕ) → g'.pages x.page.block x.page.page i ≡ g.pages x.page.block x.page.page i) → LawfulWork z g' owns' x
work_with h own pages =
    record {
      entry = h.entry;
      own = own;
      opened = h.opened;
      generation = h.generation;
      page = h.page;
      counted = h.counted;
      short = h.short;
      full = h.full;
      stands = λ i low. pages i ∙ h.stands i low;
    }

-- a source, where its page's words stay
pub source_with : {z : Numbers} {g g' : World} {owns owns' : List Owned} {cleared cleared' : ℕ} {x : Source} (h : LawfulSource z g owns cleared x)
    → owned_at x.page.block owns' ≡ Some h.entry → cleared' ≡ cleared
    → ((i : ℕ) → g'.pages x.page.block x.page.page i ≡ g.pages x.page.block x.page.page i) → LawfulSource z g' owns' cleared' x
source_with {z} h own same pages =
    record {
      entry = h.entry;
      own = own;
      victim = h.victim;
      generation = h.generation;
      page = h.page ∙ sym same;
      written = h.written;
      stamp = pages z.words ∙ h.stamp;
      value = λ value is. let k = h.value value is in ((λ i low. pages i ∙ k.0 i low), k.1);
    }

-- an owned block whose state and owner stay
pub owned_with : {z : Numbers} {g g' : World} {id : ℕ} {doing doing' : Option Work} {cleared cleared' wiped wiped' b : ℕ} {o : Owned}
    → LawfulOwned z g id doing cleared wiped b o
    → ((g'.pins b).phase ≡ (g.pins b).phase) × ((g'.pins b).generation ≡ (g.pins b).generation) × ((g'.pins b).written ≡ (g.pins b).written)
    → g'.owner b ≡ g.owner b
    → (o.phase ≡ Open → (p : ℕ) → o.written ≤ p → p < z.pages → ¬ IsFilling doing' b p → IsBlank z (g'.pages b p))
    → (o.phase ≡ Victim → (p s : ℕ) → p < cleared' → s < z.sectors → ¬ (g'.map s ≡ Some (record { generation = o.generation; block = b; page = p })))
    → (o.phase ≡ Erasing → (p i : ℕ) → p < z.pages → i ≤ z.words → p * (z.words + 1) + i < wiped' → g'.pages b p i ≡ blank_word)
    → LawfulOwned z g' id doing' cleared' wiped' b o
owned_with h pin owner rest dead clean =
    record {
      block = h.block;
      low = h.low;
      owner = owner ∙ h.owner;
      owned = h.owned;
      phase = pin.0 ∙ h.phase;
      generation = pin.1 ∙ h.generation;
      written = pin.2 ∙ h.written;
      rest = rest;
      dead = dead;
      clean = clean;
    }

-- a state that stays
same_parts : {p q : PinWord} → p ≡ q → (p.phase ≡ q.phase) × (p.generation ≡ q.generation) × (p.written ≡ q.written)
same_parts e = (ap (λ (p : PinWord). p.phase) e, ap (λ (p : PinWord). p.generation) e, ap (λ (p : PinWord). p.written) e)

-- an owned block of a table with the same pages and the same map
pub owned_as : {z : Numbers} {g g' : World} {id : ℕ} {doing : Option Work} {cleared wiped b : ℕ} {o : Owned} → LawfulOwned z g id doing cleared wiped b o
    → g'.pins b ≡ g.pins b → g'.owner b ≡ g.owner b → g'.pages ≡ g.pages → g'.map ≡ g.map → LawfulOwned z g' id doing cleared wiped b o
owned_as {b = b} h pin owner pages map =
    owned_with h (same_parts pin) owner
    (λ opened p from below not i most. ap (λ (f : ℕ → ℕ → ℕ → ℕ). f b p i) pages ∙ h.rest opened p from below not i most)
    (λ victim p s below low is. h.dead victim p s below low (ap (λ f. f s) (sym map) ∙ is))
    (λ erasing p i low most below. ap (λ (f : ℕ → ℕ → ℕ → ℕ). f b p i) pages ∙ h.clean erasing p i low most below)

pub some_same : {X : Type 0} (x y : X) → Some x ≡ Some y → x ≡ y
some_same x y e = cc

-- an owned block has one entry
pub one_entry : (owns : List Owned) {o e : Owned} {b c : ℕ} → owned_at b owns ≡ Some o → owned_at c owns ≡ Some e → b ≡ c → o ≡ e
one_entry owns {o} {e} here there same = some_same o e (sym here ∙ (ap (λ j. owned_at j owns) same ∙ there))

pub none_some : {X : Type 0} (x : X) → ¬ (None ≡ Some x)
none_some x e = absurd (cc)

pub nothing : {X : Type 0} (k : ℕ) (x : X) → slice_get [] k ≡ Some x → ⊥
nothing zero x e = none_some x e
nothing (suc k) x e = none_some x e

pub without_here : (b : ℕ) (os : List Owned) → owned_at b (without b os) ≡ None
without_here b [] = refl
without_here b (o ∷ os) =
    let there = without_here b os in
    dite (ℕ_discrete o.block b) (λ same. rw (eq-eqb o.block b same) there) (λ other. rw (ne_eqb o.block b other) (rw (ne_eqb o.block b other) there))

pub without_else : (b c : ℕ) (os : List Owned) → c ≢ b → owned_at c (without b os) ≡ owned_at c os
without_else b c [] apart = refl
without_else b c (o ∷ os) apart =
    let there = without_else b c os apart in
    dite (ℕ_discrete o.block b)
    (λ same. rw (eq-eqb o.block b same) (rw (ne_eqb o.block c (λ e. apart (sym e ∙ same))) there))
    (λ other. rw (ne_eqb o.block b other)
    (dite (ℕ_discrete o.block c) (λ same. rw (eq-eqb o.block c same) refl) (λ unlike. rw (ne_eqb o.block c unlike) there)))

pub with_here : (o : Owned) (os : List Owned) → owned_at o.block (with_owned o os) ≡ Some o
with_here o os = rw (eq_self o.block) refl

pub with_else : (o : Owned) (c : ℕ) (os : List Owned) → c ≢ o.block → owned_at c (with_owned o os) ≡ owned_at c os
with_else o c os apart = rw (ne_eqb o.block c (λ e. apart (sym e))) (without_else o.block c os apart)

pub get_last : {X : Type 0} (xs : List X) (x y : X) (k : ℕ) → slice_get (xs ++ x ∷ []) k ≡ Some y → (slice_get xs k ≡ Some y) ⊎ ((k ≡ length xs) × (x ≡ y))
get_last [] x y zero e = inr (refl, some_same x y e)
get_last [] x y (suc k) e = absurd (none_some y e)
get_last (z ∷ xs) x y zero e = inl e
get_last (z ∷ xs) x y (suc k) e = ⊎_elim (λ h. inl h) (λ h. inr (ap suc h.0, h.1)) (get_last xs x y k e)

-- a function of two numbers with one value replaced
pub put2 : {X : Type 0} → (ℕ → ℕ → X) → ℕ → ℕ → X → ℕ → ℕ → X
put2 f a b x = put f a (put (f a) b x)

pub put2_here : {X : Type 0} (f : ℕ → ℕ → X) (a b : ℕ) (x : X) → put2 f a b x a b ≡ x
unfolding put2
put2_here f a b x = rw (eq_self a) (rw (eq_self b) refl)

pub put2_else : {X : Type 0} (f : ℕ → ℕ → X) (a b : ℕ) (x : X) (i j : ℕ) → ¬ ((i ≡ a) × (j ≡ b)) → put2 f a b x i j ≡ f i j
unfolding put2
put2_else f a b x i j apart =
    dite (ℕ_discrete i a)
    (λ p. dite (ℕ_discrete j b) (λ q. absurd (apart (p, q))) (λ q. rw (eq-eqb i a p) (rw (ne_eqb j b q) (λ t. f (sym p t) j))))
    (λ p. rw (ne_eqb i a p) refl)

-- a function of three numbers with one value replaced
unfoldable pub put3 : {X : Type 0} → (ℕ → ℕ → ℕ → X) → ℕ → ℕ → ℕ → X → ℕ → ℕ → ℕ → X
put3 f a b c x = put f a (put (f a) b (put (f a b) c x))

pub put3_here : {X : Type 0} (f : ℕ → ℕ → ℕ → X) (a b c : ℕ) (x : X) → put3 f a b c x a b c ≡ x
unfolding put3
put3_here f a b c x = rw (eq_self a) (rw (eq_self b) (rw (eq_self c) refl))

pub put3_else : {X : Type 0} (f : ℕ → ℕ → ℕ → X) (a b c : ℕ) (x : X) (i j k : ℕ) → ¬ ((i ≡ a) × (j ≡ b) × (k ≡ c)) → put3 f a b c x i j k ≡ f i j k
unfolding put3
put3_else f a b c x i j k apart =
    dite (ℕ_discrete i a)
    (λ p. dite (ℕ_discrete j b)
    (λ q. dite (ℕ_discrete k c) (λ r. absurd (apart (p, q, r))) (λ r. rw (eq-eqb i a p) (rw (eq-eqb j b q) (rw (ne_eqb k c r) (λ t. f (sym p t) (sym q t) k)))))
    (λ q. rw (eq-eqb i a p) (rw (ne_eqb j b q) (λ t. f (sym p t) j k))))
    (λ p. rw (ne_eqb i a p) refl)

-- ---- each entry
-- what holds of one entry, and of each other one, holds of each
pub each_of : (P : ℕ → Owned → Type 0) (o : Owned) (owns : List Owned) → owned_at o.block owns ≡ Some o → P o.block o
    → ((c : ℕ) (e : Owned) → c ≢ o.block → owned_at c owns ≡ Some e → P c e) → (c : ℕ) (e : Owned) → owned_at c owns ≡ Some e → P c e
each_of P o owns own here there c e is =
    dite (ℕ_discrete c o.block)
    (λ same. subst (λ (x : ℕ × Owned). P x.0 x.1) (λ i. (sym same i, one_entry owns own is (sym same) i)) here) (λ unlike. there c e unlike is)

-- what holds of an entry that is set, and of each other one, holds of each
pub each_with : (P : ℕ → Owned → Type 0) (o : Owned) (owns : List Owned) → P o.block o
    → ((c : ℕ) (e : Owned) → c ≢ o.block → owned_at c owns ≡ Some e → P c e) → (c : ℕ) (e : Owned) → owned_at c (with_owned o owns) ≡ Some e → P c e
each_with P o owns here there =
    each_of P o (with_owned o owns) (with_here o owns) here (λ c e unlike is. there c e unlike (sym (with_else o c owns unlike) ∙ is))

-- and what holds of each other one, where one is taken out
pub each_without : (P : ℕ → Owned → Type 0) (b : ℕ) (owns : List Owned) → ((c : ℕ) (e : Owned) → c ≢ b → owned_at c owns ≡ Some e → P c e)
    → (c : ℕ) (e : Owned) → owned_at c (without b owns) ≡ Some e → P c e
each_without P b owns there c e is =
    dite (ℕ_discrete c b)
    (λ same. absurd (none_some e (sym (without_here b owns) ∙ (ap (λ j. owned_at j (without b owns)) (sym same) ∙ is))))
    (λ unlike. there c e unlike (sym (without_else b c owns unlike) ∙ is))

-- ---- at most one block drained or erased
one_of_fewer : (owns fewer : List Owned) → ((b : ℕ) (o : Owned) → owned_at b fewer ≡ Some o → is_reclaimed o.phase ≡ true → owned_at b owns ≡ Some o)
    → ReclaimsOne owns → ReclaimsOne fewer
one_of_fewer owns fewer was one b c o e here there first second = one b c o e (was b o here first) (was c e there second) first second

pub not_reclaimed : (o : Owned) → o.phase ≡ Open → is_reclaimed o.phase ≡ true → ⊥
not_reclaimed o opened is = clash is (ap is_reclaimed opened)

-- an own block that opens, or another entry of an open one
pub one_with_open : (o : Owned) (owns : List Owned) → o.phase ≡ Open → ReclaimsOne owns → ReclaimsOne (with_owned o owns)
one_with_open o owns opened =
    one_of_fewer owns (with_owned o owns)
    (each_with (λ b e. is_reclaimed e.phase ≡ true → owned_at b owns ≡ Some e) o owns (λ is. absurd (not_reclaimed o opened is)) (λ b e _ was _. was))

-- a block that is given up
pub one_without : (b : ℕ) (owns : List Owned) → ReclaimsOne owns → ReclaimsOne (without b owns)
one_without b owns =
    one_of_fewer owns (without b owns) (each_without (λ c o. is_reclaimed o.phase ≡ true → owned_at c owns ≡ Some o) b owns (λ c o _ was _. was))

-- a block that a seat at rest claims or condemns
pub one_at_rest : (o : Owned) (owns : List Owned) → ((b : ℕ) (e : Owned) → owned_at b owns ≡ Some e → e.phase ≡ Open) → ReclaimsOne (with_owned o owns)
one_at_rest o owns rested b c x y here there first second = only b x here first ∙ sym (only c y there second) where
  only : (d : ℕ) (e : Owned) → owned_at d (with_owned o owns) ≡ Some e → is_reclaimed e.phase ≡ true → d ≡ o.block
  only = each_with (λ d e. is_reclaimed e.phase ≡ true → d ≡ o.block) o owns (λ _. refl) (λ d e _ was is. absurd (not_reclaimed e (rested d e was) is))

-- ---- whose blocks they are
pub owns_none_else : (owns : List Owned) (o : Owned) → owned_at o.block owns ≡ Some o → ¬ (owns ≡ [])
owns_none_else owns o own none = absurd (none_some o (sym (ap (λ (l : List Owned). owned_at o.block l) none) ∙ own))

-- An owned block that the step doesn't concern
pub owned_else : (z : Numbers) (g g' : World) (id : ℕ) (doing doing' : Option Work) (cleared wiped b : ℕ) (o : Owned) → g'.pins b ≡ g.pins b
    → g'.owner b ≡ g.owner b
    → ((p i : ℕ) → g'.pages b p i ≡ g.pages b p i) → ((s : ℕ) (m : MapWord) → g'.map s ≡ Some m → m.block ≡ b → (g.map s ≡ Some m) ⊎ (g.owner b ≢ id))
    → ((p : ℕ) → o.written ≤ p → IsFilling doing b p → IsFilling doing' b p)
    → LawfulOwned z g id doing cleared wiped b o → LawfulOwned z g' id doing' cleared wiped b o
owned_else z g g' id doing doing' cleared wiped b o pin owner pages named filling h =
    owned_with h (same_parts pin) owner
    (λ opened p from below not i most. pages p i ∙ h.rest opened p from below (λ f. not (filling p from f)) i most)
    (λ victim p s low in_range is. ⊎_elim (λ (t : g.map s ≡ _). h.dead victim p s low in_range t) (λ (t : g.owner b ≢ id). t h.owner) (named s _ is refl))
    (λ erasing p i low most below. pages p i ∙ h.clean erasing p i low most below)

-- two own blocks in two phases are two blocks
pub blocks_apart : (owns : List Owned) (o e : Owned) (c : ℕ) → owned_at o.block owns ≡ Some o → owned_at c owns ≡ Some e → ¬ (o.phase ≡ e.phase) → c ≢ o.block
blocks_apart owns o e c here there unlike same =
    unlike (ap (λ (y : Owned). y.phase) (some_same o e (sym here ∙ (ap (λ j. owned_at j owns) (sym same) ∙ there))))

-- an open block and a victim are in two phases
pub open_victim : (o e : Owned) → o.phase ≡ Open → e.phase ≡ Victim → ¬ (o.phase ≡ e.phase)
open_victim o e opened victim same = let no : Open ≡ Victim = sym opened ∙ (same ∙ victim) in absurd (cc)

-- the entry of a block that was set or given up
pub entry_set : (o e : Owned) (owns : List Owned) → owned_at o.block (with_owned o owns) ≡ Some e → o ≡ e
entry_set o e owns is = some_same o e (sym (with_here o owns) ∙ is)

pub entry_gone : (b : ℕ) (e : Owned) (owns : List Owned) → ¬ (owned_at b (without b owns) ≡ Some e)
entry_gone b e owns is = absurd (none_some e (sym (without_here b owns) ∙ is))
