-- The blocks given up, over each kind of change: none given up and the blocks onward, one given up by the seat that steps, a seat split, and a note joined.
use Rattle.flash_rule.proofs.Words.{◌≡◌, ◌≢◌, ℕ, zero, suc, ◌<◌, ◌≤◌, ◌⊎◌, inr, ⊎_elim, true, false, List, [], ◌∷◌, ◌++◌, Some, length, set, slice_get}
use Rattle.flash_rule.proofs.Words.{sym, refl, ap, ◌∙◌, subst, arith, some, some-injective, dite, ℕ_discrete, get_elem?, at_set, set_else, at_longer, Numbers}
use Rattle.flash_rule.proofs.Words.{PinWord, Owned, Cycle, View, may_own, put, is_owned, rank, entry_of, IsReached, IsUnused, IsCededBy, IsCeded, drained_of}
use Rattle.flash_rule.proofs.{Words.LawfulCeded, Words.World, Owning.nothing, Owning.get_last, Owning.Seated}
use Rattle.flash_rule.{proofs.Points.put_all, proofs.Points.seat_set, proofs.Points.clash, specs.Ceded.IsSameTurn}
use Rattle.atomic_table.proofs.Lists.{at_snoc}

pub reached_now : (b : ℕ) (p : PinWord) → IsReached (entry_of b p) p
reached_now b p = inr (refl, omega arith, omega arith)

pub drained_end : (os : List Owned) (o : Owned) → drained_of (os ++ o ∷ []) ≡ drained_of os ++ drained_of (o ∷ [])
drained_end [] o = grind arith
drained_end (x ∷ os) o = grind (arith, drained_end os o)

-- ---- no block is given up
module _ (z : Numbers) (pins pins' : ℕ → PinWord) (vs vs' : List View) (law : LawfulCeded z pins vs)
    (on : (b : ℕ) → b < z.blocks → IsReached (entry_of b (pins b)) (pins' b))
    (same : (b : ℕ) → b < z.blocks → is_owned (pins' b).phase ≡ false → (is_owned (pins b).phase ≡ false) × (entry_of b (pins' b) ≡ entry_of b (pins b)))
    (was : (id : ℕ) (u : View) → get_elem? vs' id ≡ some u → ((u.ceded ≡ []) × (u.drains ≡ []))
    ⊎ ((x : View) × (get_elem? vs id ≡ some x) × (u.ceded ≡ x.ceded) × (u.drains ≡ x.drains) × (u.role ≡ x.role)))
    (now : (id : ℕ) (x : View) → get_elem? vs id ≡ some x → (x.ceded ≡ []) ⊎ ((u : View) × (get_elem? vs' id ≡ some u) × (u.ceded ≡ x.ceded))) where
  was_ceded : (id k : ℕ) (o : Owned) → IsCededBy vs' id k o → IsCededBy vs id k o
  was_ceded id k o h = grind arith

  pub ceded_kept : LawfulCeded z pins' vs'
  ceded_kept =
      record {
        reached = λ id k o h. let r = law.reached id k o (was_ceded id k o h) in
            (r.0, grind (arith, r.1, on o.block r.0));
        once = λ id k o j i e h t. law.once id k o j i e (was_ceded id k o h) (was_ceded j i e t);
        drained = grind arith;
        left = grind arith;
        owners = grind arith;
      }

-- ---- one seat steps
module _ {z : Numbers} {g : World} {vs : List View} {id : ℕ} {v : View} (sat : Seated z g vs id v) (w : View) (role : w.role ≡ v.role) where
  -- it gives nothing up, and each block that no seat owns stays, but for its readers
  pub ceded_on : (pins' : ℕ → PinWord) → w.ceded ≡ v.ceded → w.drains ≡ v.drains → ((b : ℕ) → b < z.blocks → IsReached (entry_of b (g.pins b)) (pins' b))
      → ((b : ℕ) → b < z.blocks → is_owned (pins' b).phase ≡ false → (is_owned (g.pins b).phase ≡ false) × (entry_of b (pins' b) ≡ entry_of b (g.pins b)))
      → LawfulCeded z pins' (set vs id w)
  ceded_on pins' ceded drains on same =
      ceded_kept z g.pins pins' vs (set vs id w) sat.law.ceded on same
      (grind (arith, at_set))
      (λ j x is. dite (ℕ_discrete j id)
      (λ (e : j ≡ id).
      let its : v ≡ x = some-injective v x (sym sat.at ∙ (ap (λ i. get_elem? vs i) (sym e) ∙ is)) in
      inr (w, ap (λ i. get_elem? (set vs id w) i) e ∙ seat_set vs id v w sat.at, ceded ∙ ap (λ (y : View). y.ceded) its))
      (λ (other : j ≢ id). inr (x, set_else vs id j w other ∙ is, refl)))

  -- no block changes
  pub ceded_still : w.ceded ≡ v.ceded → w.drains ≡ v.drains → LawfulCeded z g.pins (set vs id w)
  ceded_still ceded drains = ceded_on g.pins ceded drains (λ b _. reached_now b (g.pins b)) (λ b _ nobodys. (nobodys, refl))

  -- one block goes on, and is some seat's then
  pub ceded_owned : (b : ℕ) (q : PinWord) → w.ceded ≡ v.ceded → w.drains ≡ v.drains → is_owned q.phase ≡ true → IsReached (entry_of b (g.pins b)) q
      → LawfulCeded z (put g.pins b q) (set vs id w)
  ceded_owned b q ceded drains owned on =
      ceded_on (put g.pins b q) ceded drains (λ c _. put_all g.pins b q (λ j p. IsReached (entry_of j (g.pins j)) p) on (λ j _. reached_now j (g.pins j)) c)
      (grind arith)

  -- one block has other readers
  pub ceded_read : (b : ℕ) (q : PinWord) → w.ceded ≡ v.ceded → w.drains ≡ v.drains → q ≡ record (g.pins b) { readers = q.readers }
      → LawfulCeded z (put g.pins b q) (set vs id w)
  ceded_read b q ceded drains same =
      let entry : entry_of b q ≡ entry_of b (g.pins b) = ap (entry_of b) same in
      let phase : is_owned q.phase ≡ is_owned (g.pins b).phase = ap (λ (p : PinWord). is_owned p.phase) same in
      ceded_on (put g.pins b q) ceded drains
      (grind arith) (grind arith)

  -- it gives up one block, which goes on to a later phase or generation
  module _ (b : ℕ) (q : PinWord) (low : b < z.blocks)
      (later : ((g.pins b).generation < q.generation)
      ⊎ (((g.pins b).generation ≡ q.generation) × (rank (g.pins b).phase < rank q.phase) × ((g.pins b).written ≤ q.written))) where
    -- no earlier entry is of this turn
    none_yet : (o : Owned) → o.block ≡ b → IsReached o (g.pins b) → o.phase ≡ q.phase → o.generation ≡ q.generation → ⊥
    none_yet o block r phase generation = grind arith

    pub ceded_last : (e : Owned) → e ≡ entry_of b q → w.ceded ≡ v.ceded ++ e ∷ [] → w.drains ≡ v.drains ++ drained_of (e ∷ []) → may_own v.role ≡ true
        → LawfulCeded z (put g.pins b q) (set vs id w)
    ceded_last e is ceded drains owner =
        record {
          reached = λ j k o h.
              let reached_as : (o : Owned) → (o.block < z.blocks) × IsReached o (g.pins o.block)
              → (o.block < z.blocks) × IsReached o (put g.pins b q o.block) = grind arith in
              ⊎_elim (λ (old : IsCededBy vs j k o). reached_as o (sat.law.ceded.reached j k o old))
              (grind arith) (last_or j k o h);
          once = λ j k o i l x h t turn.
              ⊎_elim
              (λ (old : IsCededBy vs j k o). ⊎_elim
              (λ (old' : IsCededBy vs i l x). sat.law.ceded.once j k o i l x old old' turn)
              (λ (new : (i ≡ id) × (l ≡ length v.ceded) × (e ≡ x)). absurd (not_new j k o old (same_turn o x turn (sym is ∙ new.2))))
              (last_or i l x t))
              (λ (new : (j ≡ id) × (k ≡ length v.ceded) × (e ≡ o)). ⊎_elim
              (λ (old' : IsCededBy vs i l x).
              absurd (not_new i l x old'
              (same_turn x o (record { block = sym turn.block; phase = sym turn.phase; generation = sym turn.generation }) (sym is ∙ new.2))))
              (λ (new' : (i ≡ id) × (l ≡ length v.ceded) × (e ≡ x)). (new.0 ∙ sym new'.0, new.1 ∙ sym new'.1))
              (last_or i l x t))
              (last_or j k o h);
          drained = λ j u has.
              ⊎_elim
              (λ (t : (j ≡ id) × (w ≡ u)).
              let mine : w.drains ≡ drained_of w.ceded =
              drains ∙ (ap (λ (l : List Cycle). l ++ drained_of (e ∷ [])) (sat.law.ceded.drained id v sat.at)
              ∙ (sym (drained_end v.ceded e) ∙ ap drained_of (sym ceded))) in
              subst (λ (x : View). x.drains ≡ drained_of x.ceded) t.1 mine)
              (λ (t : (j ≢ id) × (get_elem? vs j ≡ some u)). sat.law.ceded.drained j u t.1)
              (at_set vs id j w u has);
          left = λ c below nobodys. left_as c below nobodys;
          owners = grind (arith, clash, at_set);
        }
      where
        -- an entry is the new one, or was there before
        last_or : (j k : ℕ) (o : Owned) → IsCededBy (set vs id w) j k o → IsCededBy vs j k o ⊎ ((j ≡ id) × (k ≡ length v.ceded) × (e ≡ o))
        last_or j k o h =
            ⊎_elim
            (λ (t : (j ≡ id) × (w ≡ h.view)).
            let there : slice_get (v.ceded ++ e ∷ []) k ≡ Some o = grind arith in
            ⊎_elim
            (grind arith) (λ (new : (k ≡ length v.ceded) × (e ≡ o)). inr (t.0, new.0, new.1))
            (get_last v.ceded e o k there)) (grind arith)
            (at_set vs id j w h.view h.seat)

        same_turn : (o x : Owned) → IsSameTurn o x → entry_of b q ≡ x → (o.block ≡ b) × (o.phase ≡ q.phase) × (o.generation ≡ q.generation)
        same_turn o x turn its = grind arith

        not_new : (j k : ℕ) (o : Owned) → IsCededBy vs j k o → (o.block ≡ b) × (o.phase ≡ q.phase) × (o.generation ≡ q.generation) → ⊥
        not_new j k o old t = none_yet o t.0 (subst (λ c. IsReached o (g.pins c)) t.0 (sat.law.ceded.reached j k o old).1) t.1 t.2

        newest : IsCeded (set vs id w) e
        newest = (
          id,
          length v.ceded,
          record { view = w; seat = seat_set vs id v w sat.at; entry = ap (λ (l : List Owned). slice_get l (length v.ceded)) ceded ∙ last_at v.ceded e },
        )
          where
            last_at : (os : List Owned) (o : Owned) → slice_get (os ++ o ∷ []) (length os) ≡ Some o
            last_at [] o = refl
            last_at (x ∷ os) o = last_at os o

        longer : (o : Owned) → IsCeded vs o → IsCeded (set vs id w) o
        longer o (j, k, h) =
            dite (ℕ_discrete j id)
            (λ (mine : j ≡ id).
            let its : v ≡ h.view = some-injective v h.view (sym sat.at ∙ (ap (λ i. get_elem? vs i) (sym mine) ∙ h.seat)) in
            let there : IsCededBy (set vs id w) j k o = record {
              view = w;
              seat = ap (λ i. get_elem? (set vs id w) i) mine ∙ seat_set vs id v w sat.at;
              entry = ap (λ (l : List Owned). slice_get l k) ceded ∙ longer_at v.ceded e k o (ap (λ (x : View). slice_get x.ceded k) its ∙ h.entry);
            } in
            let answer : IsCeded (set vs id w) o = (j, k, there) in answer)
            (λ (other : j ≢ id).
            let there : IsCededBy (set vs id w) j k o = record { view = h.view; seat = set_else vs id j w other ∙ h.seat; entry = h.entry } in
            let answer : IsCeded (set vs id w) o = (j, k, there) in answer)
          where
            longer_at : (os : List Owned) (e : Owned) (k : ℕ) (o : Owned) → slice_get os k ≡ Some o → slice_get (os ++ e ∷ []) k ≡ Some o
            longer_at [] e k o is = absurd (nothing k o is)
            longer_at (x ∷ os) e zero o is = is
            longer_at (x ∷ os) e (suc k) o is = longer_at os e k o is

        left_as : (c : ℕ) → c < z.blocks → is_owned (put g.pins b q c).phase ≡ false
            → IsUnused (put g.pins b q c) ⊎ IsCeded (set vs id w) (entry_of c (put g.pins b q c))
        left_as =
            put_all g.pins b q (λ j p. j < z.blocks → is_owned p.phase ≡ false → IsUnused p ⊎ IsCeded (set vs id w) (entry_of j p))
            (λ _ _. inr (subst (λ (x : Owned). IsCeded (set vs id w) x) is newest))
            (grind (arith, longer))

-- ---- a seat is split, and the new seat has given nothing up
pub ceded_split : {z : Numbers} {g : World} {vs : List View} {id : ℕ} {v : View} (sat : Seated z g vs id v) (l r : View)
    → l.role ≡ v.role → l.ceded ≡ v.ceded → l.drains ≡ v.drains → r.ceded ≡ [] → r.drains ≡ [] → LawfulCeded z g.pins (set vs id l ++ r ∷ [])
ceded_split {z} {g} {vs} {id} sat l r role ceded drains bare fresh =
    let first : LawfulCeded z g.pins (set vs id l) = ceded_still sat l role ceded drains in
    ceded_kept z g.pins g.pins (set vs id l) (set vs id l ++ r ∷ []) first (λ b _. reached_now b (g.pins b)) (λ b _ nobodys. (nobodys, refl))
    (grind (arith, at_snoc)) (λ j x is. inr (x, at_longer (set vs id l) (r ∷ []) j x is, refl))

-- ---- a seat that gave nothing up is joined into another one, and nothing is left of it
pub ceded_gone : {z : Numbers} {g : World} {vs : List View} {id other : ℕ} {v w : View} (sat : Seated z g vs id v) (u left : View)
    → ¬ (other ≡ id) → Seated z g vs other w → may_own w.role ≡ false → u.role ≡ v.role → u.ceded ≡ v.ceded → u.drains ≡ v.drains
    → left.ceded ≡ [] → left.drains ≡ [] → LawfulCeded z g.pins (set (set vs id u) other left)
ceded_gone {z} {g} {vs} {id} {other} {w = w} sat u left apart there note role ceded drains bare fresh =
    let first : LawfulCeded z g.pins (set vs id u) = ceded_still sat u role ceded drains in
    let there' : get_elem? (set vs id u) other ≡ some w = set_else vs id other u apart ∙ there.at in
    ceded_kept z g.pins g.pins (set vs id u) (set (set vs id u) other left) first (λ b _. reached_now b (g.pins b)) (λ b _ nobodys. (nobodys, refl))
    (grind (arith, at_set))
    (λ j x is. dite (ℕ_discrete j other)
    (grind arith)
    (λ (apart' : j ≢ other). inr (x, set_else (set vs id u) other j left apart' ∙ is, refl)))
