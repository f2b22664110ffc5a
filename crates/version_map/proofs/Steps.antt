-- Each kind of step keeps the rule, and tells what it says.
use Rattle.std.proofs.Common.{◌≡◌, ℕ, zero, suc, ◌<◌, ◌+◌, ◌≢◌, ◌⊎◌, inl, inr, ⊎_elim, true, false, List, [], ◌∷◌, ◌++◌, length, set, slice_index, replicate}
use Rattle.std.proofs.Common.{sym, refl, ap, ◌∙◌, subst, arith, eq-eqb, ne_eqb, length-set, if◌then◌else◌}
use mathlib.Core.Option.{none, some, some-injective, some-ne-none}
use mathlib.Core.Logic.{dite}
use native.Mathlib.Decide.{ℕ_discrete}
use lib.ListN.{get_elem?}
use Rattle.std.proofs.lemmas.List.{append_assoc, append-nil, get_or-set_same, get_or-set_other, set-get_or, get_or-replicate, length-replicate}
use Rattle.std.proofs.Math.Nat.{zero-div}
use Rattle.atomic_table.proofs.Lists.{at_set, at_snoc, set_again}
use Rattle.atomic_table.specs.Table.{Me, Allows, Splits, Joins, step, keeps, opening}
use Rattle.version_map.specs.History.{version_in, version_after, Continues}
use Rattle.version_map.specs.Rule.{LawfulMap, FollowsHistory, saw_version, published_change, moved_page, new_reader, informed, spent_reader}
use Rattle.version_map.specs.declared.shape.MapShape.{MapShape}
use Rattle.version_map.specs.declared.sighting.Sighting.{Sighting}

pub continues_itself : (h : List (ℕ × ℕ)) → Continues h h
continues_itself h = ([], refl)

pub continues_by_one : (c : ℕ × ℕ) (h : List (ℕ × ℕ)) → Continues (c ∷ h) h
continues_by_one c h = (c ∷ [], refl)

pub continues_on : (a b c : List (ℕ × ℕ)) → Continues a b → Continues b c → Continues a c
continues_on a b c (m, e) (n, f) = (m ++ n, e ∙ (ap (λ (l : List (ℕ × ℕ)). m ++ l) f ∙ sym (append_assoc m n c)))

module _ {shape : MapShape} {h : List (ℕ × ℕ)} {words : List ℕ} {views : List Sighting} (law : LawfulMap shape h words views) where
  -- a seat that publishes after the step did so before
  published_before : (id : ℕ) (v w : Sighting) → get_elem? views id ≡ some v → w.publishes ≡ v.publishes → (i : ℕ) (u : Sighting)
      → get_elem? (set views id w) i ≡ some u → u.publishes ≡ true → (x : Sighting) × (get_elem? views i ≡ some x) × (x.publishes ≡ true)
  published_before id v w at same i u is publishes = ⊎_elim
      (λ (t : (i ≡ id) × (w ≡ u)). (
        v,
        subst (λ j. get_elem? views j ≡ some v) (sym t.0) at,
        sym same ∙ (ap (λ (y : Sighting). y.publishes) t.1 ∙ publishes),
      ))
      (λ (t : (i ≢ id) × (get_elem? views i ≡ some u)). (u, t.1, publishes))
      (at_set views id i w u is)

  -- the map with other words, another view of one seat and a history that goes on, which only the publisher's step makes longer
  pub lawful_after : (id : ℕ) (v w : Sighting) → get_elem? views id ≡ some v → (later : List (ℕ × ℕ)) (after : List ℕ) → length after ≡ shape.sectors
      → ((s : ℕ) → s < shape.sectors → version_in shape.pages (slice_index after s) ≡ version_after later s)
      → Continues later h → Continues later w.seen × Continues later w.told → (w.publishes ≡ true → w.seen ≡ later)
      → w.publishes ≡ v.publishes → (later ≡ h) ⊎ (v.publishes ≡ true)
      → LawfulMap shape later after (set views id w)
  lawful_after id v w at later after size versions grew saw whole same mine = record {
    size = size;
    versions = versions;
    saw = λ i u is. ⊎_elim
        (λ (t : (i ≡ id) × (w ≡ u)). subst (λ (y : Sighting). Continues later y.seen × Continues later y.told) t.1 saw)
        (λ (t : (i ≢ id) × (get_elem? views i ≡ some u)). let old = law.saw i u t.1 in (
          continues_on later h u.seen grew old.0,
          continues_on later h u.told grew old.1,
        ))
        (at_set views id i w u is);
    all = λ i u is publishes. ⊎_elim
        (λ (t : (i ≡ id) × (w ≡ u)). subst (λ (y : Sighting). y.publishes ≡ true → y.seen ≡ later) t.1 whole publishes)
        (λ (t : (i ≢ id) × (get_elem? views i ≡ some u)). ⊎_elim
        (λ (e : later ≡ h). law.all i u t.1 publishes ∙ sym e)
        (λ (e : v.publishes ≡ true). absurd (t.0 (law.one i id u v t.1 publishes at e)))
        mine)
        (at_set views id i w u is);
    one = λ i j u x here publishes there publishes'.
        let a = published_before id v w at same i u here publishes in
        let b = published_before id v w at same j x there publishes' in
        law.one i j a.0 b.0 a.1 a.2 b.1 b.2;
  }

  -- a word that becomes another one, where the history has the change
  pub versions_changed : (s new number : ℕ) → s < shape.sectors → version_in shape.pages new ≡ number → (k : ℕ) → k < shape.sectors
      → version_in shape.pages (slice_index (set words s new) k) ≡ version_after ((s, number) ∷ h) k
  versions_changed s new number low is k lower = dite (ℕ_discrete k s)
      (λ (e : k ≡ s). let size = law.size in
      ap (version_in shape.pages) (ap (λ j. slice_index (set words s new) j) e ∙ get_or-set_same words s new 0 (omega arith))
      ∙ (is ∙ sym (ap (λ b. if b then number else version_after h k) (eq-eqb k s e))))
      (λ (e : k ≢ s). ap (version_in shape.pages) (get_or-set_other words s k new 0 e)
      ∙ (law.versions k lower ∙ sym (ap (λ b. if b then number else version_after h k) (ne_eqb k s e))))

  -- a word that names the same version
  pub versions_kept : (s new : ℕ) → s < shape.sectors → version_in shape.pages new ≡ version_after h s → (k : ℕ) → k < shape.sectors
      → version_in shape.pages (slice_index (set words s new) k) ≡ version_after h k
  versions_kept s new low is k lower = dite (ℕ_discrete k s)
      (λ (e : k ≡ s). let size = law.size in
      ap (version_in shape.pages) (ap (λ j. slice_index (set words s new) j) e ∙ get_or-set_same words s new 0 (omega arith))
      ∙ (is ∙ sym (ap (version_after h) e)))
      (λ (e : k ≢ s). ap (version_in shape.pages) (get_or-set_other words s k new 0 e) ∙ law.versions k lower)

module _ (shape : MapShape) (slots id : ℕ) (me : Me (Unit {0}) Sighting) (split : me.0.pages ≡ shape.pages) where
  pub look_allowed : (s : ℕ) → s < shape.sectors
      → Allows (FollowsHistory shape) slots id me s (λ k. k) (saw_version (step slots s 0 0 none) me)
  look_allowed s low t (h, law) _ at _ =
      let w : Sighting = record { seen = h; told = me.0.told; looks = me.0.looks + 1; publishes = me.0.publishes; pages = me.0.pages } in
      let same : set t.words s (slice_index t.words s) ≡ t.words = set-get_or t.words s 0 in
      let saw = law.saw id me.0 at in (
        w,
        keeps,
        tt,
        (
          h,
          lawful_after law id me.0 w at h (set t.words s (slice_index t.words s)) (ap length same ∙ law.size)
              (λ k lower. ap (λ (l : List ℕ). version_in shape.pages (slice_index l k)) same ∙ law.versions k lower)
              (continues_itself h) (continues_itself h, saw.1) (λ _. refl) refl (inl refl),
        ),
        (
          refl,
          record {
            later = saw.0;
            heard = saw.1;
            version = sym (ap (λ p. version_in p (slice_index t.words s)) split ∙ law.versions s low);
            counted = refl;
            same = (refl, refl);
            all = λ publishes. sym (law.all id me.0 at publishes);
          },
        ),
      )

  pub change_allowed : (s word : ℕ) → s < shape.sectors → me.0.publishes ≡ true
      → Allows (FollowsHistory shape) slots id me s (λ _. word) (λ _. published_change (step slots s word 0 none) me word)
  change_allowed s word low publishes t (h, law) _ at _ =
      let number = version_in me.0.pages word in
      let later : List (ℕ × ℕ) = (s, number) ∷ h in
      let seen : me.0.seen ≡ h = law.all id me.0 at publishes in
      let w : Sighting = record me.0 { seen = (s, number) ∷ me.0.seen } in
      let same : w.seen ≡ later = ap (λ (l : List (ℕ × ℕ)). (s, number) ∷ l) seen in (
        w,
        keeps,
        tt,
        (
          later,
          lawful_after law id me.0 w at later (set t.words s word) (length-set t.words s word ∙ law.size)
              (versions_changed law s word number low (ap (λ p. version_in p word) (sym split)))
              (continues_by_one (s, number) h) (
                subst (Continues later) (sym same) (continues_itself later),
                continues_on later h me.0.told (continues_by_one (s, number) h) (law.saw id me.0 at).1,
              )
              (λ _. same) refl (inr publishes),
        ),
        (refl, refl),
      )

  pub move_allowed : (s word : ℕ) → s < shape.sectors → me.0.publishes ≡ true → version_in shape.pages word ≡ version_after me.0.seen s
      → Allows (FollowsHistory shape) slots id me s (λ _. word) (λ _. moved_page (step slots s word 0 none) me word)
  move_allowed s word low publishes is t (h, law) _ at _ =
      let seen : me.0.seen ≡ h = law.all id me.0 at publishes in (
        me.0,
        keeps,
        tt,
        (
          h,
          lawful_after law id me.0 me.0 at h (set t.words s word) (length-set t.words s word ∙ law.size)
              (versions_kept law s word low (is ∙ ap (λ (l : List (ℕ × ℕ)). version_after l s) seen))
              (continues_itself h) (law.saw id me.0 at) (λ _. seen) refl (inl refl),
        ),
        (refl, refl),
      )

-- a reader is split off
pub splits_off : (shape : MapShape) (id : ℕ) (v : Sighting) → Splits (FollowsHistory shape) id v v (new_reader v)
splits_off shape id v t (h, law) at =
    let same : set t.views id v ≡ t.views = set_again t.views id v at in
    let old : (i : ℕ) (u : Sighting) → get_elem? (set t.views id v ++ new_reader v ∷ []) i ≡ some u → (get_elem? t.views i ≡ some u) ⊎ (new_reader v ≡ u) =
    λ i u is. ⊎_elim (λ (e : get_elem? (set t.views id v) i ≡ some u). inl (subst (λ (l : List Sighting). get_elem? l i ≡ some u) same e))
    (λ (e : new_reader v ≡ u). inr e) (at_snoc (set t.views id v) (new_reader v) u i is) in
    let not : (u : Sighting) → new_reader v ≡ u → u.publishes ≡ true → ⊥ =
    λ u e publishes. let f : false ≡ true = ap (λ (y : Sighting). y.publishes) e ∙ publishes in cc in
    let seen = (law.saw id v at).0 in (
      h,
      record {
        size = law.size;
        versions = law.versions;
        saw = λ i u is. ⊎_elim (λ e. law.saw i u e)
            (λ (e : new_reader v ≡ u). subst (λ (y : Sighting). Continues h y.seen × Continues h y.told) e (seen, seen)) (old i u is);
        all = λ i u is publishes. ⊎_elim (λ e. law.all i u e publishes) (λ (e : new_reader v ≡ u). absurd (not u e publishes)) (old i u is);
        one = λ i j u x here publishes there publishes'. ⊎_elim
            (λ e. ⊎_elim (λ f. law.one i j u x e publishes f publishes') (λ (f : new_reader v ≡ x). absurd (not x f publishes')) (old j x there))
            (λ (e : new_reader v ≡ u). absurd (not u e publishes)) (old i u here);
      },
    )

-- a seat is told what a reader has seen
pub hears : (shape : MapShape) (id other : ℕ) (v w : Sighting) → w.publishes ≡ false → Joins (FollowsHistory shape) id v other w (informed v w) spent_reader
hears shape id other v w reads t (h, law) at apart there =
    let seen : Continues h w.seen = ⊎_elim
    (λ (e : (other ≡ id) × (informed v w ≡ w)). absurd (apart e.0))
    (λ (e : (other ≢ id) × (get_elem? t.views other ≡ some w)). (law.saw other w e.1).0)
    (at_set t.views id other (informed v w) w there) in
    let told : LawfulMap shape h t.words (set t.views id (informed v w)) =
    lawful_after law id v (informed v w) at h t.words law.size law.versions (continues_itself h) ((law.saw id v at).0, seen)
    (law.all id v at) refl (inl refl) in
    let empty : Continues h [] = (h, sym (append-nil h)) in (
      h,
      lawful_after told other w spent_reader there h t.words law.size law.versions (continues_itself h) (empty, empty)
          (λ publishes. let f : false ≡ true = publishes in cc) (sym reads) (inl refl),
    )

-- the first seat, and a map of empty sectors
pub begins_empty : (shape : MapShape) → FollowsHistory shape
    (opening (replicate shape.sectors 0) [] (record { seen = []; told = []; looks = 0; publishes = true; pages = shape.pages }))
begins_empty shape =
    let first : Sighting = record { seen = []; told = []; looks = 0; publishes = true; pages = shape.pages } in
    let only : (i : ℕ) (u : Sighting) → get_elem? (first ∷ []) i ≡ some u → (i ≡ 0) × (first ≡ u) = sole_entry first in (
      [],
      record {
        size = length-replicate shape.sectors 0;
        versions = λ s low. ap (version_in shape.pages) (get_or-replicate shape.sectors s 0 0 low) ∙ zero-div shape.pages;
        saw = λ i u is. subst (λ (y : Sighting). Continues [] y.seen × Continues [] y.told) (only i u is).1 (continues_itself [], continues_itself []);
        all = λ i u is _. ap (λ (y : Sighting). y.seen) (sym (only i u is).1);
        one = λ i j u x here _ there _. (only i u here).0 ∙ sym (only j x there).0;
      },
    )
  where
    sole_entry : (a : Sighting) (i : ℕ) (u : Sighting) → get_elem? (a ∷ []) i ≡ some u → (i ≡ 0) × (a ≡ u)
    sole_entry a zero u e = (refl, some-injective a u e)
    sole_entry a (suc i) u e = absurd (some-ne-none u (sym e))
