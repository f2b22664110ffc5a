-- A broom that meets another one, or stands by a page: what goes along with the notes, and what each knows in the end.
use Rattle.std.proofs.Common.{◌≡◌, ℕ, true, List, [], ◌∷◌, ◌++◌, Option, Some, None, sym, refl, ap, ◌∙◌, subst, arith}
use Rattle.geometry.specs.{History.held, History.Begins, Words.map_word, declared.words.MapWord.MapWord}
use Rattle.flash_rule.specs.declared.{carried.Carried.Carried, view.View.View}
use Rattle.flash_rule.specs.declared.facts.{Name.Name, Name.TheVariants.Broom as ABroom, Role.Role, Role.TheVariants.Player}
use Rattle.flash_rule.specs.{Views.is_pass, Plays.Met, Plays.Spared, World.sector_word, BroomPlays.Named}
use Rattle.flash_rule.specs.Seats.{name_of, carried, lender, lent_note, host_of, giver, given_note, home}
use Rattle.flash_rule.proofs.{Owning.none_some, Still.pass_of}
use Rattle.broom.specs.{Meeting.HasHeard, Meeting.BroomsMet, Meeting.StoodTold}

-- ---- names
-- a broom's role is that of its name, and a pass's too
pub named_broom : (r : Role) → (i : ℕ) × (r ≡ Player (ABroom i)) → r ≡ Player (name_of r)
named_broom r t = t.1 ∙ ap Player (sym (ap name_of t.1))

pub named_pass : (r : Role) → is_pass r ≡ true → r ≡ Player (name_of r)
named_pass r pass = let t = pass_of r pass in t.1 ∙ ap Player (sym (ap name_of t.1))

-- what is lent carries the lender's badge and copies of its lists
pub lent : (v note : View) → note ≡ lent_note v → (c : Carried) × (note.copy ≡ Some c) × (note.guest ≡ Some c.of)
lent v note is = (carried v, ap (λ (x : View). x.copy) is, ap (λ (x : View). x.guest) is)

-- ---- one look of a broom that relocates nothing
module _ (v w : View) (found : Option MapWord) (told : Named v 0 (sector_word found) w) (none : v.source ≡ None) where
  stays : (w.source ≡ v.source) × (w.cleared ≡ v.cleared)
  stays = told.others (λ x is. absurd (none_some x (sym none ∙ is)))

  pub looked : w ≡ record v { seen = w.seen; named = v.named ++ (0, sector_word found) ∷ [] }
  looked = let t = stays in told.changed ∙ (λ i. record v { seen = w.seen; named = v.named ++ (0, sector_word found) ∷ []; source = t.0 i; cleared = t.1 i })

  pub look_empty : found ≡ None → held v.numbers.sectors w.seen 0 ≡ None
  look_empty is = told.empty (ap sector_word is)

  pub look_mapped : (m : MapWord) → found ≡ Some m → (value : List ℕ) × (held v.numbers.sectors w.seen 0 ≡ Some value)
  look_mapped m is =
      let word : sector_word found ≡ map_word m = ap sector_word is in
      let t = told.page (λ e. absurd (let n : map_word m ≡ 0 = sym word ∙ e in omega arith)) in (t.1, t.4)

-- ---- two brooms: the first one, v, has looked with the second one's note
module _ (v v' w : View) (found : Option MapWord) (mine : v.role ≡ Player (name_of v.role)) (other : v'.role ≡ Player (name_of v'.role))
    (none : v.source ≡ None)
    (told : Named (host_of v (lent_note v')) 0 (sector_word found) w) where
  met : Met w (carried v')
  met = told.met (carried v') refl

  role : w.role ≡ v.role
  role = ap (λ (x : View). x.role) told.changed

  apart : ¬ (v.role ≡ v'.role)
  apart same = met.other (role ∙ (same ∙ other))

  pub guest : (name : Name) × (w.guest ≡ Some name) × (¬ (w.role ≡ Player name))
  guest = (name_of v'.role, ap (λ (x : View). x.guest) told.changed, met.other)

  pub given : (note : View) → note ≡ given_note w → (name : Name) × (c : Carried) × ((lender v').role ≡ Player name) × (note.guest ≡ Some name)
      × (note.copy ≡ Some c) × (¬ ((lender v').role ≡ Player c.of))
  given note is = (
    name_of v'.role,
    carried w,
    other,
    ap (λ (x : View). x.guest) is ∙ ap (λ (x : View). x.guest) told.changed,
    ap (λ (x : View). x.copy) is,
    λ same. apart (sym (same ∙ (ap Player (ap name_of role) ∙ sym mine))),
  )

  pub heard_first : v.guest ≡ None → HasHeard v (giver w)
  heard_first alone =
      let e = looked (host_of v (lent_note v')) w found told none in
      let copied = ap (λ (x : View). x.copy) e in
      record {
        found = found;
        changed = ap giver e ∙ (λ i.
            record v { seen = w.seen; named = v.named ++ (0, sector_word found) ∷ []; copy = sym copied i; older = v.copy; guest = sym alone i });
        empty = look_empty (host_of v (lent_note v')) w found told none;
        mapped = look_mapped (host_of v (lent_note v')) w found told none;
      }

  -- and the second one, with what the first one has given back
  module _ (u : View) (again : Option MapWord) (none' : v'.source ≡ None) (whole : v'.whole ≡ true)
      (last : Named (home (lender v') (given_note w)) 0 (sector_word again) u) where
    pub heard_second : HasHeard v' u
    heard_second =
        let e = looked (home (lender v') (given_note w)) u again last none' in
        let copied = ap (λ (x : View). x.copy) e in
        record {
          found = again;
          changed = e ∙ (λ i. record v' {
            seen = u.seen;
            named = v'.named ++ (0, sector_word again) ∷ [];
            copy = sym copied i;
            older = v'.copy;
            whole = sym whole i;
          });
          empty = look_empty (home (lender v') (given_note w)) u again last none';
          mapped = look_mapped (home (lender v') (given_note w)) u again last none';
        }

    pub brooms_met : v.guest ≡ None → BroomsMet v v' (giver w) u
    brooms_met alone =
        let theirs : Met u (carried w) = last.met (carried w) refl in
        record {
          first = heard_first alone;
          second = heard_second;
          later = told.later;
          brought = met.seen;
          shared = theirs.seen;
          apart = apart;
          programs = λ j k x here there. theirs.programs k j x there here;
          erases = λ j k x here there. theirs.erases k j x there here;
          programmed_once = (met.programmed_once.0, theirs.programmed_once.0);
          erased_once = (met.erased_once.0, theirs.erased_once.0);
          heard = ap (λ (x : View). x.copy) told.changed;
          told = ap (λ (x : View). x.copy) last.changed;
          before = (
            (λ c had of. let grown = met.newer c (ap (λ (x : View). x.older) told.changed ∙ had) (sym (ap name_of of)) in (grown.programs, grown.erases)),
            λ c had of.
                let grown = theirs.newer c (ap (λ (x : View). x.older) last.changed ∙ had) (sym (ap name_of (role ∙ of))) in
                let stays = told.changed in (
                  subst (Begins c.programs)
                      (ap (λ (x : View). x.programs) stays) grown.programs,
                  subst (Begins c.erases) (ap (λ (x : View). x.erases) stays) grown.erases,
                ),
          );
        }

-- ---- a broom that stands by a page: the pass, v, has read a word with the broom's note
module _ (v x : View) (page : MapWord) (mine : v.role ≡ Player (name_of v.role)) (other : x.role ≡ Player (name_of x.role))
    (spared : Spared (host_of v (lent_note x)) page (carried x)) where
  pub stood_guest : (name : Name) × ((host_of v (lent_note x)).guest ≡ Some name) × (¬ ((host_of v (lent_note x)).role ≡ Player name))
  stood_guest = (name_of x.role, refl, spared.other)

  pub stood_given : (note : View) → note ≡ given_note (host_of v (lent_note x))
      → (name : Name) × (c : Carried) × ((lender x).role ≡ Player name) × (note.guest ≡ Some name) × (note.copy ≡ Some c) × (¬ ((lender x).role ≡ Player c.of))
  stood_given note is = (
    name_of x.role,
    carried v,
    other,
    ap (λ (y : View). y.guest) is,
    ap (λ (y : View). y.copy) is,
    λ same. spared.other (mine ∙ (sym same ∙ other)),
  )

  module _ (y : View) (found : Option MapWord) (none : x.source ≡ None) (whole : x.whole ≡ true)
      (told : Named (home (lender x) (given_note (host_of v (lent_note x)))) 0 (sector_word found) y) where
    pub stood_heard : HasHeard x y
    stood_heard =
        let e = looked (home (lender x) (given_note (host_of v (lent_note x)))) y found told none in
        let copied = ap (λ (z : View). z.copy) e in
        record {
          found = found;
          changed = e ∙ (λ i. record x {
            seen = y.seen;
            named = x.named ++ (0, sector_word found) ∷ [];
            copy = sym copied i;
            older = x.copy;
            whole = sym whole i;
          });
          empty = look_empty (home (lender x) (given_note (host_of v (lent_note x)))) y found told none;
          mapped = look_mapped (home (lender x) (given_note (host_of v (lent_note x)))) y found told none;
        }

    pub stood : v.guest ≡ None → StoodTold v x page (giver (host_of v (lent_note x))) y
    stood alone =
        let met : Met y (carried v) = told.met (carried v) refl in
        record {
          pass = λ i. record v { copy = Some (carried x); older = v.copy; guest = sym alone i };
          broom = stood_heard;
          told = ap (λ (z : View). z.copy) told.changed;
          later = told.later;
          brought = met.seen;
          spared = spared.erases;
          programs = spared.programs;
          programmed_once = spared.programmed_once;
          before = (
            (λ c had of. let grown = spared.newer c had (sym (ap name_of of)) in (grown.programs, grown.erases)),
            λ c had of. let grown = met.newer c (ap (λ (z : View). z.older) told.changed ∙ had) (sym (ap name_of of)) in (grown.programs, grown.erases),
          );
        }
