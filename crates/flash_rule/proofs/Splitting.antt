-- Seats that are split off another and joined into one: passes dealt, and the moves of notes.
use Rattle.flash_rule.proofs.Words.{◌≡◌, ◌≢◌, ℕ, zero, suc, ◌+◌, ◌<◌, ◌≤◌, ◌⊎◌, inl, inr, ⊎_elim, true, List, [], ◌∷◌, ◌++◌, None, Some, length, set, Role}
use Rattle.flash_rule.proofs.Words.{replicate, sym, refl, ap, ◌∙◌, subst, arith, length-set, length-replicate, get_or, some, some-injective, some-ne-none, Bool}
use Rattle.flash_rule.proofs.Words.{get_elem?, Splits, at_set, at_longer, Begins-refl, Numbers, Name, Pass, Dealer, Player, Note, Owned, Clear}
use Rattle.flash_rule.proofs.Words.{View, total, is_player, is_live_role, pins_on, weight, owned_at, Option, calls_of, World}
use Rattle.flash_rule.proofs.Words.{put_name, is_owned, LawfulCeded, LawfulBlock, LawfulView, Lawful, IsDealt, Onward, Ruled, LawfulHolding, LawfulKnowledge}
use Rattle.flash_rule.proofs.Words.{LawfulOwned, age_of, Carried, is_pass, Open, may_own, false, LawfulKind}
use Rattle.flash_rule.proofs.{Points.player_same, Points.total_set, Points.name_here, Points.name_else, Ceding.ceded_split, Still.pin_stays}
use Rattle.flash_rule.proofs.Owning.{none_some, not_reclaimed, nothing, owned_as, Seated, view_of}
use Rattle.flash_rule.proofs.Frames.{others, knowledge_kept, lists_stay, owner_kept, sector_kept, view_to}
use Rattle.flash_rule.specs.Seats.{newcomer, new_pass, dealt_pass}

at_end : {X : Type 0} (xs : List X) (x y : X) (j : ℕ) → get_elem? (xs ++ x ∷ []) j ≡ some y → (get_elem? xs j ≡ some y) ⊎ ((j ≡ length xs) × (x ≡ y))
at_end [] x y zero e = inr (refl, some-injective x y e)
at_end [] x y (suc j) e = absurd (some-ne-none y (sym e))
at_end (z ∷ xs) x y zero e = inl e
at_end (z ∷ xs) x y (suc j) e = ⊎_elim (λ h. inl h) (λ h. inr (ap suc h.0, h.1)) (at_end xs x y j e)

total_end : (f : View → ℕ) (vs : List View) (v : View) → total f (vs ++ v ∷ []) ≡ total f vs + f v
total_end f [] v = omega arith
total_end f (x ∷ vs) v = let r = total_end f vs v in omega arith

-- ---- names
alike : (n b c : ℕ) → get_or (replicate n c) b c ≡ c
alike zero b c = refl
alike (suc n) zero c = refl
alike (suc n) (suc b) c = alike n b c

-- the seat that owns a block after a split, and its entry
abbrev pub Owner : World → List View → ℕ → Type 0
Owner g vs b = (u : View) × (o : Owned) × (get_elem? vs (g.owner b) ≡ some u) × (owned_at b u.owns ≡ Some o)

-- ---- a seat is split: no state and no page changes, but who is who, and who owns what
-- the table, but who is who as in another one
abbrev pub reseated : World → World → World
reseated g e = record e { history = g.history; map = g.map; pins = g.pins; pages = g.pages }

module _ {z : Numbers} {g : World} {vs : List View} {id : ℕ} {v : View} (sat : Seated z g vs id v) (e : World) (l r : View) where
  abbrev split_views : List View
  split_views = set vs id l ++ r ∷ []

  split_block : (b : ℕ) → LawfulBlock z g vs b → pins_on b l ≡ pins_on b v → r.pin ≡ Clear
      → (is_owned (g.pins b).phase ≡ true → Owner (reseated g e) split_views b) → LawfulBlock z (reseated g e) split_views b
  split_block b block same clear owner = grind (arith, total_set, total_end)

  pub split_with : Onward z g (reseated g e) id id → LawfulView z (reseated g e) id l → LawfulView z (reseated g e) (length vs) r
      → ((b : ℕ) → pins_on b l ≡ pins_on b v) → r.pin ≡ Clear
      → ((b : ℕ) → b < z.blocks → is_owned (g.pins b).phase ≡ true → Owner (reseated g e) split_views b)
      → weight z l + weight z r ≡ weight z v → g.passes ≤ e.passes → e.passes ≤ z.hosts → LawfulCeded z g.pins split_views → Lawful z (reseated g e) split_views
  split_with on own new same clear owners weighs more dealt ceded =
      let law = sat.law in
      record {
        limits = law.limits;
        sectors = λ s low. sector_kept (law.sectors s low) refl refl (λ b low named. (refl, named, omega arith, λ p i _. refl));
        callers = law.callers;
        blocks = λ b low. split_block b (law.blocks b low) (same b) clear (owners b low);
        views = λ j u is.
            ⊎_elim
            (λ (old : get_elem? (set vs id l) j ≡ some u). ⊎_elim
            (λ (t : (j ≡ id) × (l ≡ u)). view_to own (sym t.0) t.1)
            (λ (t : (j ≢ id) × (get_elem? vs j ≡ some u)). others on (record { law = law; at = t.1 }) t.0 t.0) (at_set vs id j l u old))
            (λ (last : (j ≡ length (set vs id l)) × (r ≡ u)). view_to new (sym (last.0 ∙ length-set vs id l)) last.1)
            (at_end (set vs id l) r u j is);
        strangers = λ t free. law.strangers t (omega arith);
        seats = (let s = total_set (weight z) vs id v l sat.at in let t = total_end (weight z) (set vs id l) r in let e = law.seats in omega arith);
        dealt = dealt;
        ceded = ceded;
      }

  -- where the seat keeps its blocks, each block keeps its owner
  pub split : e.owner ≡ g.owner → Onward z g (reseated g e) id id → LawfulView z (reseated g e) id l → LawfulView z (reseated g e) (length vs) r
      → ((b : ℕ) → pins_on b l ≡ pins_on b v) → r.pin ≡ Clear → l.owns ≡ v.owns → weight z l + weight z r ≡ weight z v → g.passes ≤ e.passes
      → e.passes ≤ z.hosts → LawfulCeded z g.pins split_views → Lawful z (reseated g e) split_views
  split owner on own new same clear owns =
      split_with on own new same clear (λ b low owned.
      let k = owner_kept sat l (sat.law.blocks b low) owned (ap (λ f. f b) owner) (λ o is. (o, ap (λ (x : List Owned). owned_at b x) owns ∙ is)) in
      (k.0, k.1, at_longer (set vs id l) (r ∷ []) (e.owner b) k.0 k.2, k.3))

-- ---- a new seat, which has no pin, no work and no lists
abbrev pub fresh : Numbers → Role → List ℕ → List Owned → Bool → Option Name → Option Carried → View
fresh numbers role known owns whole guest copy =
    record (newcomer numbers role) { known = known; owns = owns; whole = whole; guest = guest; copy = copy }

-- its kind, if all its blocks are open
pub kind_fresh : {z : Numbers} (numbers : Numbers) (role : Role) (known : List ℕ) (owns : List Owned) (whole : Bool) (guest : Option Name)
    (copy : Option Carried) → (is_live_role role ≡ true → numbers ≡ z) → (is_pass role ≡ true → length known ≡ z.blocks)
    → ((b : ℕ) (o : Owned) → owned_at b owns ≡ Some o → o.phase ≡ Open) → (may_own role ≡ false → owns ≡ [])
    → ((n m : Name) → role ≡ Player n → guest ≡ Some m → whole ≡ true) → LawfulKind z (fresh numbers role known owns whole guest copy)
kind_fresh numbers role known owns whole guest copy same long opened none host =
    record {
      numbers = same;
      host = host;
      known = long;
      opens = λ _ b o is. opened b o is;
      unpinned = λ _. refl;
      idle = λ _. (refl, refl, refl, refl);
      owns_none = none;
      reclaims = λ b c o e is _ first. absurd (not_reclaimed o (opened b o is) first);
    }

-- it knows only ages that all blocks have reached
pub knowledge_fresh : {z : Numbers} {g : World} (numbers : Numbers) (role : Role) (known : List ℕ) (owns : List Owned) (whole : Bool)
    → ((b : ℕ) → b < z.blocks → get_or known b 0 ≤ age_of (g.pins b)) → LawfulKnowledge z g (fresh numbers role known owns whole None None)
knowledge_fresh {z} {g} numbers role known owns whole ages =
    record {
      seen = (g.history, refl);
      pin = tt;
      known = ages;
      programs = λ m is k x at. absurd (nothing k x at);
      erases = λ m is k x at. absurd (nothing k x at);
      loads = λ k b p at. absurd (nothing k _ at);
      inspection = λ x is. absurd (none_some x is);
      copy = λ c is. absurd (none_some c is);
      older = λ o c is. absurd (none_some o is);
      out = λ m c d _ is. absurd (none_some c is);
    }

-- a seat without a name has no calls, no lists, no work and no badge of its own
pub holding_unnamed : {z : Numbers} {g : World} {id : ℕ} (w : View) → ((m : Name) → ¬ (w.role ≡ Player m)) → (w.work ≡ None) × (w.source ≡ None)
    → ((b : ℕ) (o : Owned) → owned_at b w.owns ≡ Some o → LawfulOwned z g id w.work w.cleared w.wiped b o)
    → ((m : Name) → w.guest ≡ Some m → (g.badge m ≡ id) × IsDealt g m) → ((m : Name) → w.role ≡ Note → w.guest ≡ Some m → g.carries m ≡ w.copy)
    → (w.role ≡ Dealer → (id ≡ 0) × (w.passes ≡ g.passes) × (w.brooms ≡ g.brooms)) → LawfulHolding z g id w
holding_unnamed w nameless idle owned guest note dealer =
    record {
      name = λ m is. absurd (nameless m is);
      calls = λ t is. absurd (nameless (Pass t) is);
      lists = λ m is. absurd (nameless m is);
      owned = owned;
      work = λ x is. absurd (none_some x (sym idle.0 ∙ is));
      source = λ x is. absurd (none_some x (sym idle.1 ∙ is));
      whole = λ _ m is. absurd (nameless m is);
      guest = guest;
      note = note;
      home = λ m is. absurd (nameless m is);
      dealer = dealer;
    }

-- the table with one player more, which has the seat `new`
abbrev pub dealt_world : World → Name → ℕ → ℕ → ℕ → (ℕ → ℕ) → World
dealt_world g n new passes brooms owner =
    record g {
      owner = owner;
      passes = passes;
      brooms = brooms;
      seat = put_name g.seat n new;
      programs = put_name g.programs n [];
      erases = put_name g.erases n [];
      badge = put_name g.badge n new;
      carries = put_name g.carries n None;
    }

module _ (z : Numbers) (g : World) (id new : ℕ) (n : Name) (passes brooms : ℕ) (owner : ℕ → ℕ) (not_yet : (m : Name) → IsDealt g m → ¬ (m ≡ n))
    (still_dealt : (m : Name) → IsDealt g m → IsDealt (dealt_world g n new passes brooms owner) m) where
  abbrev after_deal : World
  after_deal = dealt_world g n new passes brooms owner

  -- the other seats see that the dealer gave blocks of its own to the new player, if any
  pub dealt_onward : id ≡ 0 → ((b : ℕ) → ¬ (g.owner b ≡ id) → owner b ≡ g.owner b) → Onward z g after_deal id id
  dealt_onward first whose =
      record {
        history = Begins-refl g.history;
        calls = λ t _. refl;
        seat = λ m dealt. (name_else g.seat n new m (not_yet m dealt), still_dealt m dealt);
        pins = λ b _. pin_stays (g.pins b);
        owned = λ b _ other _. record { owner = whose b other; phase = refl; generation = refl; written = refl; pages = λ p i. refl };
        pages = λ b p i _ _ _. refl;
        named = λ s m is. inl is;
        programmer = λ m _. refl;
        eraser = λ b k _. refl;
        lists = λ m dealt. lists_stay g after_deal id m (name_else g.programs n [] m (not_yet m dealt)) (name_else g.erases n [] m (not_yet m dealt));
        dealer = λ apart. absurd (apart first);
        badge = λ m dealt _ _. (name_else g.badge n new m (not_yet m dealt), name_else g.carries n None m (not_yet m dealt));
        carries = grind arith;
      }

  -- the dealer has no name, no calls, no lists and no work
  pub dealer_holding : (w : View) → w.role ≡ Dealer → (w.work ≡ None) × (w.source ≡ None) → ((m : Name) → w.guest ≡ Some m → (g.badge m ≡ id) × IsDealt g m)
      → ((b : ℕ) (o : Owned) → owned_at b w.owns ≡ Some o → LawfulOwned z after_deal id w.work w.cleared w.wiped b o)
      → (id ≡ 0) × (w.passes ≡ passes) × (w.brooms ≡ brooms) → LawfulHolding z after_deal id w
  dealer_holding w role idle guest owned counts =
      holding_unnamed w (λ m is. let e : Dealer ≡ Player m = sym role ∙ is in absurd (cc)) idle owned
      (λ m is. let k = guest m is in (name_else g.badge n new m (not_yet m k.1) ∙ k.0, still_dealt m k.1))
      (λ m is. let e : Dealer ≡ Note = sym role ∙ is in absurd (cc)) (λ _. counts)

  -- the new player has its name, its badge, and the blocks that the dealer gave it
  pub new_holding : (numbers : Numbers) (known : List ℕ) (owns : List Owned) → IsDealt after_deal n → ((t : ℕ) → n ≡ Pass t → calls_of t g.history ≡ [])
      → ((b : ℕ) (o : Owned) → owned_at b owns ≡ Some o → LawfulOwned z after_deal new None 0 0 b o)
      → LawfulHolding z after_deal new (record (newcomer numbers (Player n)) { known = known; owns = owns; whole = true })
  new_holding numbers known owns here none owned =
      let same : (m : Name) → Player n ≡ Player m → n ≡ m = λ m is. player_same n m is in
      record {
        name = λ m is. subst (λ (m : Name). (after_deal.seat m ≡ new) × IsDealt after_deal m) (same m is) (name_here g.seat n new, here);
        calls = λ t is. (none t (same (Pass t) is), refl);
        lists = grind arith;
        owned = owned;
        work = λ x is. absurd (none_some x is);
        source = λ x is. absurd (none_some x is);
        whole = λ _ m is. subst (λ (m : Name). after_deal.badge m ≡ new) (same m is) (name_here g.badge n new);
        guest = λ m is. absurd (none_some m is);
        note = λ m is. absurd (cc);
        home = λ m is _. subst (λ (m : Name). after_deal.carries m ≡ None) (same m is) (name_here g.carries n None);
        dealer = λ is. absurd (cc);
      }

module _ (z : Numbers) (id : ℕ) (v : View) where
  -- DEAL. The dealer hands out the next pass
  pub deals_pass : v.role ≡ Dealer → v.passes < v.numbers.hosts → Splits (Ruled z) id v (dealt_pass v) (new_pass v)
  deals_pass role room s (g, fits, law) at =
      let sat : Seated z g s.views id v = record { law = law; at = at } in
      let h = view_of sat in
      let numbers : v.numbers ≡ z = h.kind.numbers (ap is_live_role role) in
      let hosts : v.numbers.hosts ≡ z.hosts = ap (λ (y : Numbers). y.hosts) numbers in
      let d = h.holding.dealer role in
      let passes_is = d.1 in
      let n : Name = Pass v.passes in
      let new : ℕ = length s.views in
      let g' : World = dealt_world g n new (g.passes + 1) g.brooms g.owner in
      let not_yet : (m : Name) → IsDealt g m → ¬ (m ≡ n) = grind arith in
      let still_dealt : (m : Name) → IsDealt g m → IsDealt g' m = grind arith in
      let on : Onward z g g' id id = dealt_onward z g id new n (g.passes + 1) g.brooms g.owner not_yet still_dealt d.0 (λ b _. refl) in
      let idle = h.kind.idle (ap is_player role) in
      let holding = dealer_holding z g id new n (g.passes + 1) g.brooms g.owner not_yet still_dealt (dealt_pass v) role (idle.0, idle.1) h.holding.guest
      (λ b o is. owned_as (h.holding.owned b o is) refl refl refl refl) (d.0, ap (λ k. k + 1) d.1, d.2) in
      let own : LawfulView z g' id (dealt_pass v) = assumption (holding, knowledge_kept on sat, h) in
      let added : LawfulView z g' new (new_pass v) = record {
        kind = grind (arith, kind_fresh, length-replicate, none_some);
        knowledge = grind (arith, knowledge_fresh, alike);
        holding = grind arith;
      } in
      let weighs : weight z (dealt_pass v) + 1 ≡ weight z v = grind arith in (
        g',
        fits,
        split sat g' (dealt_pass v) (new_pass v) refl on own added (λ b. refl) refl refl weighs (omega arith) (omega arith)
            (ceded_split sat (dealt_pass v) (new_pass v) refl refl refl refl refl),
      )
