-- What a seat owns beside the row of its blocks, when one of them changes, goes or comes; which entries a broom's own blocks are, and what each step
-- makes of them.
use Rattle.flash_rule.specs.declared.view.View.{View}
use Rattle.flash_rule.specs.declared.facts.Owned.{Owned}
use Rattle.flash_rule.specs.Views.{owned_at, without, with_owned}
use Rattle.std.proofs.Common.{◌≡◌, ◌≢◌, ℕ, eq-eqb, ne_eqb, List, [], ◌∷◌, ◌++◌, None, Some, sym, refl, ap, ◌∙◌, subst, Option}
use mathlib.Core.Logic.{dite}
use native.Mathlib.Decide.{ℕ_discrete}
use Rattle.flash_rule.proofs.Owning.{none_some, with_here, with_else, without_here, without_else, some_same}
use Rattle.flash_table.specs.Owning.{AreApart, OwnsJust, owned_of, owned_list, reclaimed_as, reclaimed_list, blocks_list}
use Rattle.geometry.specs.declared.words.Phase.TheVariants.{Open, Victim, Erasing}
use Rattle.flash_table.specs.declared.pass.OpenBlock.{OpenBlock}
use Rattle.flash_table.specs.declared.broom_seat.ReclaimedBlock.{ReclaimedBlock}
use Rattle.flash_table.specs.declared.broom_seat.Reclaiming.TheVariants as reclaiming
use Rattle.flash_table.specs.declared.broom_seat.Reclaiming.{Reclaiming}
use Rattle.flash_table.specs.declared.broom_seat.BroomBlocks.{BroomBlocks}

-- ---- one entry at the front of a row
pub at_first : (o : Owned) (os : List Owned) (b : ℕ) → b ≡ o.block → owned_at b (o ∷ os) ≡ Some o
at_first o os b same = rw (eq-eqb o.block b (sym same)) refl

pub past_first : (o : Owned) (os : List Owned) (b : ℕ) → b ≢ o.block → owned_at b (o ∷ os) ≡ owned_at b os
past_first o os b apart = rw (ne_eqb o.block b (λ e. apart (sym e))) refl

-- a block that isn't in a row isn't its first one, nor among the others
none_first : (o : Owned) (os : List Owned) (b : ℕ) → owned_at b (o ∷ os) ≡ None → (b ≢ o.block) × (owned_at b os ≡ None)
none_first o os b none =
    let unlike : b ≢ o.block = λ same. none_some o (sym none ∙ at_first o os b same) in (unlike, sym (past_first o os b unlike) ∙ none)

-- what owns no entry of a block stays where it is taken out
pub stays_without : (b : ℕ) (os : List Owned) → owned_at b os ≡ None → without b os ≡ os
stays_without b [] none = refl
stays_without b (o ∷ os) none =
    dite (ℕ_discrete b o.block)
    (λ same. absurd (none_some o (sym none ∙ at_first o os b same)))
    (λ apart. rw (ne_eqb o.block b (λ e. apart (sym e))) (ap (λ (l : List Owned). o ∷ l) (stays_without b os (sym (past_first o os b apart) ∙ none))))

-- ---- an entry is taken out of a row
fewer : (xs ys : List Owned) (o : Owned) (b : ℕ) → owned_at b (xs ++ o ∷ ys) ≡ None → (b ≢ o.block) × (owned_at b (xs ++ ys) ≡ None)
fewer [] ys o b none = none_first o ys b none
fewer (x ∷ xs) ys o b none =
    let t = none_first x (xs ++ o ∷ ys) b none in
    let r = fewer xs ys o b t.1 in (r.0, past_first x (xs ++ ys) b t.0 ∙ r.1)

out : (xs ys : List Owned) (o : Owned) → AreApart (xs ++ o ∷ ys) → AreApart (o ∷ xs ++ ys)
out [] ys o h = h
out (x ∷ xs) ys o (fresh, h) =
    let r = out xs ys o h in
    let t = fewer xs ys o x.block fresh in (past_first x (xs ++ ys) o.block (λ e. t.0 (sym e)) ∙ r.0, (t.1, r.1))

-- ---- an entry is put into a row
more : (xs ys : List Owned) (o : Owned) (b : ℕ) → b ≢ o.block → owned_at b (xs ++ ys) ≡ None → owned_at b (xs ++ o ∷ ys) ≡ None
more [] ys o b unlike none = past_first o ys b unlike ∙ none
more (x ∷ xs) ys o b unlike none = let t = none_first x (xs ++ ys) b none in past_first x (xs ++ o ∷ ys) b t.0 ∙ more xs ys o b unlike t.1

into : (xs ys : List Owned) (o : Owned) → AreApart (o ∷ xs ++ ys) → AreApart (xs ++ o ∷ ys)
into [] ys o h = h
into (x ∷ xs) ys o (fresh, (other, h)) =
    let t = none_first x (xs ++ ys) o.block fresh in (more xs ys o x.block (λ e. t.0 (sym e)) other, into xs ys o (t.1, h))

-- an entry stands in a row as it stands before the others
moved : (xs ys : List Owned) (o : Owned) (b : ℕ) → owned_at o.block (xs ++ ys) ≡ None → owned_at b (xs ++ o ∷ ys) ≡ owned_at b (o ∷ xs ++ ys)
moved [] ys o b fresh = refl
moved (x ∷ xs) ys o b fresh =
    let t = none_first x (xs ++ ys) o.block fresh in
    let there = moved xs ys o b t.1 in
    dite (ℕ_discrete b x.block)
    (λ same. at_first x (xs ++ o ∷ ys) b same ∙ (sym (at_first x (xs ++ ys) b same) ∙ sym (past_first o (x ∷ xs ++ ys) b (λ e. t.0 (sym e ∙ same)))))
    (λ unlike.
    past_first x (xs ++ o ∷ ys) b unlike
    ∙ (there ∙ dite (ℕ_discrete b o.block) (λ same. at_first o (xs ++ ys) b same ∙ sym (at_first o (x ∷ xs ++ ys) b same))
    (λ other. past_first o (xs ++ ys) b other ∙ (sym (past_first x (xs ++ ys) b unlike) ∙ sym (past_first o (x ∷ xs ++ ys) b other)))))

to_front : (xs ys owns : List Owned) (o : Owned) → OwnsJust (xs ++ o ∷ ys) owns → OwnsJust (o ∷ xs ++ ys) owns
to_front xs ys owns o h = let apart = out xs ys o h.apart in record { same = λ b. h.same b ∙ moved xs ys o b apart.0; apart = apart }

from_front : (xs ys owns : List Owned) (o : Owned) → OwnsJust (o ∷ xs ++ ys) owns → OwnsJust (xs ++ o ∷ ys) owns
from_front xs ys owns o h = record { same = λ b. h.same b ∙ sym (moved xs ys o b h.apart.0); apart = into xs ys o h.apart }

-- a block of the row has this entry
pub just_at : (xs ys owns : List Owned) (o : Owned) → OwnsJust (xs ++ o ∷ ys) owns → owned_at o.block owns ≡ Some o
just_at xs ys owns o h = let f = to_front xs ys owns o h in f.same o.block ∙ at_first o (xs ++ ys) o.block refl

-- ---- changes of what a seat owns
-- one block has another entry
pub just_set : (xs ys owns : List Owned) (o e : Owned) → e.block ≡ o.block → OwnsJust (xs ++ o ∷ ys) owns → OwnsJust (xs ++ e ∷ ys) (with_owned e owns)
just_set xs ys owns o e block h =
    let f = to_front xs ys owns o h in
    from_front xs ys (with_owned e owns) e (record {
      same = λ b. dite (ℕ_discrete b e.block)
          (λ same. ap (λ c. owned_at c (with_owned e owns)) same ∙ (with_here e owns ∙ sym (at_first e (xs ++ ys) b same)))
          (λ unlike. with_else e b owns unlike
          ∙ (f.same b ∙ (past_first o (xs ++ ys) b (λ s. unlike (s ∙ sym block)) ∙ sym (past_first e (xs ++ ys) b unlike))));
      apart = (ap (λ c. owned_at c (xs ++ ys)) block ∙ f.apart.0, f.apart.1);
    })

-- one block goes
pub just_without : (xs ys owns : List Owned) (o : Owned) → OwnsJust (xs ++ o ∷ ys) owns → OwnsJust (xs ++ ys) (without o.block owns)
just_without xs ys owns o h =
    let f = to_front xs ys owns o h in
    record {
      same = λ b. dite (ℕ_discrete b o.block)
          (λ same. ap (λ c. owned_at c (without o.block owns)) same
          ∙ (without_here o.block owns ∙ (sym f.apart.0 ∙ ap (λ c. owned_at c (xs ++ ys)) (sym same))))
          (λ unlike. without_else o.block b owns unlike ∙ (f.same b ∙ past_first o (xs ++ ys) b unlike));
      apart = f.apart.1;
    }

-- a block comes that wasn't the seat's
pub just_with : (xs ys owns : List Owned) (o : Owned) → owned_at o.block owns ≡ None → OwnsJust (xs ++ ys) owns → OwnsJust (xs ++ o ∷ ys) (with_owned o owns)
just_with xs ys owns o fresh h =
    from_front xs ys (with_owned o owns) o (record {
      same = λ b. dite (ℕ_discrete b o.block)
          (λ same. ap (λ c. owned_at c (with_owned o owns)) same ∙ (with_here o owns ∙ sym (at_first o (xs ++ ys) b same)))
          (λ unlike. with_else o b owns unlike ∙ (h.same b ∙ sym (past_first o (xs ++ ys) b unlike)));
      apart = (sym (h.same o.block) ∙ fresh, h.apart);
    })

-- what a seat owns after a step
pub just_now : {row : List Owned} {v w : View} → w ≡ v → OwnsJust row v.owns → OwnsJust row w.owns
just_now {row} is h = subst (λ (u : View). OwnsJust row u.owns) (sym is) h

-- a row of three parts
abbrev row : Option OpenBlock → Option OpenBlock → List Owned → List Owned
row d s r = (owned_list d ++ owned_list s) ++ r

last : (d : Option OpenBlock) (e : Owned) → (owned_list d ++ []) ++ e ∷ [] ≡ (owned_list d ++ e ∷ []) ++ []
last None e = refl
last (Some x) e = refl

module _ (x : BroomBlocks) {owns : List Owned} (h : OwnsJust (blocks_list x) owns) where
  -- ---- which entries they are
  with_destination : (o : OpenBlock) → x.destination ≡ Some o → OwnsJust (owned_of o ∷ (owned_list x.spare ++ reclaimed_list x.reclaiming)) owns
  with_destination o is = subst (λ d. OwnsJust (row d x.spare (reclaimed_list x.reclaiming)) owns) is h

  with_reclaiming : (r : Reclaiming) → x.reclaiming ≡ r → OwnsJust (row x.destination x.spare (reclaimed_list r)) owns
  with_reclaiming r is = subst (λ r. OwnsJust (row x.destination x.spare (reclaimed_list r)) owns) is h

  pub destination_at : {o : OpenBlock} → x.destination ≡ Some o → owned_at o.block owns ≡ Some (owned_of o)
  destination_at {o} is = just_at [] (owned_list x.spare ++ reclaimed_list x.reclaiming) owns (owned_of o) (with_destination o is)

  pub draining_at : {o : ReclaimedBlock} → x.reclaiming ≡ reclaiming.Draining o → owned_at o.block owns ≡ Some (reclaimed_as Victim o)
  draining_at {o} is = just_at (owned_list x.destination ++ owned_list x.spare) [] owns (reclaimed_as Victim o) (with_reclaiming _ is)

  pub erasing_at : {o : ReclaimedBlock} → x.reclaiming ≡ reclaiming.Erasing o → owned_at o.block owns ≡ Some (reclaimed_as Erasing o)
  erasing_at {o} is = just_at (owned_list x.destination ++ owned_list x.spare) [] owns (reclaimed_as Erasing o) (with_reclaiming _ is)

  -- a broom that drains and erases nothing has open blocks alone
  pub all_open : x.reclaiming ≡ reclaiming.Nothing → (b : ℕ) (o : Owned) → owned_at b owns ≡ Some o → o.phase ≡ Open
  all_open is b o at = opens x.destination x.spare b o (sym ((with_reclaiming reclaiming.Nothing is).same b) ∙ at) where
    found : (y : OpenBlock) (os : List Owned) (b : ℕ) (o : Owned) → owned_at b (owned_of y ∷ os) ≡ Some o → (owned_at b os ≡ Some o → o.phase ≡ Open)
        → o.phase ≡ Open
    found y os b o at behind =
        dite (ℕ_discrete b y.block)
        (λ same. sym (ap (λ (p : Owned). p.phase) (some_same (owned_of y) o (sym (at_first (owned_of y) os b same) ∙ at))))
        (λ unlike. behind (sym (past_first (owned_of y) os b unlike) ∙ at))

    opens : (d s : Option OpenBlock) (b : ℕ) (o : Owned) → owned_at b (row d s []) ≡ Some o → o.phase ≡ Open
    opens None None b o at = absurd (none_some o at)
    opens None (Some y) b o at = found y [] b o at (λ e. absurd (none_some o e))
    opens (Some y) None b o at = found y [] b o at (λ e. absurd (none_some o e))
    opens (Some y) (Some z) b o at = found y (owned_of z ∷ []) b o at (λ e. found z [] b o e (λ e. absurd (none_some o e)))

  -- ---- what each step makes of them
  pub counted_just : {o : OpenBlock} (e : OpenBlock) → x.destination ≡ Some o → e.block ≡ o.block
      → OwnsJust (blocks_list (record x { destination = Some e })) (with_owned (owned_of e) owns)
  counted_just {o} e is block = just_set [] (owned_list x.spare ++ reclaimed_list x.reclaiming) owns (owned_of o) (owned_of e) block (with_destination o is)

  pub closed_just : {o : OpenBlock} → x.destination ≡ Some o → OwnsJust (blocks_list (record x { destination = None })) (without o.block owns)
  closed_just {o} is = just_without [] (owned_list x.spare ++ reclaimed_list x.reclaiming) owns (owned_of o) (with_destination o is)

  pub claimed_just : (o : ReclaimedBlock) → x.reclaiming ≡ reclaiming.Nothing → owned_at o.block owns ≡ None
      → OwnsJust (blocks_list (record x { reclaiming = reclaiming.Draining o })) (with_owned (reclaimed_as Victim o) owns)
  claimed_just o is fresh =
      just_with (owned_list x.destination ++ owned_list x.spare) [] owns (reclaimed_as Victim o) fresh (with_reclaiming reclaiming.Nothing is)

  pub condemned_just : (o : ReclaimedBlock) → x.reclaiming ≡ reclaiming.Nothing → owned_at o.block owns ≡ None
      → OwnsJust (blocks_list (record x { reclaiming = reclaiming.Erasing o })) (with_owned (reclaimed_as Erasing o) owns)
  condemned_just o is fresh =
      just_with (owned_list x.destination ++ owned_list x.spare) [] owns (reclaimed_as Erasing o) fresh (with_reclaiming reclaiming.Nothing is)

  pub drained_just : {o : ReclaimedBlock} → x.reclaiming ≡ reclaiming.Draining o
      → OwnsJust (blocks_list (record x { reclaiming = reclaiming.Nothing })) (without o.block owns)
  drained_just {o} is = just_without (owned_list x.destination ++ owned_list x.spare) [] owns (reclaimed_as Victim o) (with_reclaiming _ is)

  pub erased_just : {o : ReclaimedBlock} → x.reclaiming ≡ reclaiming.Erasing o
      → OwnsJust (blocks_list (record x { reclaiming = reclaiming.Nothing })) (without o.block owns)
  erased_just {o} is = just_without (owned_list x.destination ++ owned_list x.spare) [] owns (reclaimed_as Erasing o) (with_reclaiming _ is)

  pub kept_just : {o : ReclaimedBlock} (e : OpenBlock) → x.reclaiming ≡ reclaiming.Erasing o → x.spare ≡ None → e.block ≡ o.block
      → OwnsJust (blocks_list (record x { spare = Some e; reclaiming = reclaiming.Nothing })) (with_owned (owned_of e) owns)
  kept_just {o} e is none block =
      let there : OwnsJust (row x.destination None (reclaimed_as Erasing o ∷ [])) owns =
      subst (λ s. OwnsJust (row x.destination s (reclaimed_as Erasing o ∷ [])) owns) none (with_reclaiming (reclaiming.Erasing o) is) in
      subst (λ l. OwnsJust l (with_owned (owned_of e) owns)) (last x.destination (owned_of e))
      (just_set (owned_list x.destination ++ []) [] owns (reclaimed_as Erasing o) (owned_of e) block there)

-- ---- a broom with no block of its own
-- what owns no block is empty
owns_none : (owns : List Owned) → ((b : ℕ) → owned_at b owns ≡ None) → owns ≡ []
owns_none [] none = refl
owns_none (o ∷ os) none = absurd (none_some o (sym (none o.block) ∙ at_first o os o.block refl))

pub owns_nothing : (x : BroomBlocks) (owns : List Owned) → OwnsJust (blocks_list x) owns → x.destination ≡ None → x.spare ≡ None
    → x.reclaiming ≡ reclaiming.Nothing → owns ≡ []
owns_nothing x owns h destination spare rested =
    let bare : OwnsJust [] owns =
    subst (λ (y : BroomBlocks). OwnsJust (blocks_list y) owns)
    (λ i. record { destination = destination i; spare = spare i; reclaiming = rested i }) h in owns_none owns bare.same
