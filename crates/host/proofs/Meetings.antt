-- Two passes that meet: what goes along with their notes, and what each of them knows in the end.
use Rattle.std.proofs.Common.{◌≡◌, ℕ, ◌+◌, ◌++◌, true, false, List, [], Option, Some, None, is_some, sym, refl, ap, ◌∙◌, subst}
use Rattle.std.proofs.lemmas.List.{append-nil}
use Rattle.geometry.specs.{History.Begins, declared.words.MapWord.MapWord}
use Rattle.flash_rule.specs.declared.facts.{Name.Name, Owned.Owned, Role.Role, Role.TheVariants.Player}
use Rattle.flash_rule.specs.{declared.carried.Carried.Carried, declared.view.View.View, Views.is_pass, Plays.Met, Plays.Looked, Plays.Disjoint, Plays.Spared}
use Rattle.flash_rule.specs.Seats.{name_of, carried, lender, lent_note, host_of, giver, given_note, home}
use Rattle.flash_rule.proofs.Still.{pass_of}
use Rattle.flash_table.specs.declared.{flash.Flash.Flash, pass.Pass.Pass, pass.OpenBlock.OpenBlock}
use Rattle.flash_table.specs.{Owning.owned_list, Owning.closed_list, Flash.view_of, Flash.opened_of}
use Rattle.host.specs.{Ready.IsRested, Told.MetHolding, Told.MetTold}

-- a pass's role is that of its name
pub named : (r : Role) → is_pass r ≡ true → r ≡ Player (name_of r)
named r pass = let t = pass_of r pass in t.1 ∙ ap Player (sym (ap name_of t.1))

-- the two lists change places
pub disjoint_sym : (v w : View) → Disjoint v.programs w.programs → Disjoint w.programs v.programs
disjoint_sym v w apart j k x here there = apart k j x there here

-- what is lent carries the lender's badge and copies of its lists
pub lent : (v note : View) → note ≡ lent_note v → (c : Carried) × (note.copy ≡ Some c) × (note.guest ≡ Some c.of)
lent v note is = (carried v, ap (λ (x : View). x.copy) is, ap (λ (x : View). x.guest) is)

-- the first one, v, has looked with the second one's note
module _ (v v' w : View) (n : ℕ) (pass : is_pass v.role ≡ true) (pass' : is_pass v'.role ≡ true) (looked : Looked (host_of v (lent_note v')) 0 n w) where
  met : Met w (carried v')
  met = looked.met (carried v') refl

  role : w.role ≡ v.role
  role = ap (λ (x : View). x.role) looked.changed

  pub apart : ¬ (v.role ≡ v'.role)
  apart same = met.other (role ∙ (same ∙ named v'.role pass'))

  pub guest : (name : Name) × (w.guest ≡ Some name) × (¬ (w.role ≡ Player name))
  guest = (name_of v'.role, ap (λ (x : View). x.guest) looked.changed, met.other)

  pub given : (note : View) → note ≡ given_note w → (name : Name) × (c : Carried) × ((lender v').role ≡ Player name) × (note.guest ≡ Some name)
      × (note.copy ≡ Some c) × (¬ ((lender v').role ≡ Player c.of))
  given note is = (
    name_of v'.role,
    carried w,
    named v'.role pass',
    ap (λ (x : View). x.guest) is ∙ ap (λ (x : View). x.guest) looked.changed,
    ap (λ (x : View). x.copy) is,
    λ same. apart (sym (same ∙ (ap Player (ap name_of role) ∙ sym (named v.role pass)))),
  )

  -- and the second one, with what the first one has given back
  pub told : (u : View) (m : ℕ) → v.guest ≡ None → v'.whole ≡ true → Looked (home (lender v') (given_note w)) 0 m u → MetTold v v' (giver w) u
  told u m alone whole again =
      let last : Met u (carried w) = again.met (carried w) refl in
      let copied = ap (λ (x : View). x.copy) looked.changed in
      let again_copied = ap (λ (x : View). x.copy) again.changed in
      record {
        first = ap giver looked.changed
            ∙ (λ i. record v { seen = w.seen; looks = v.looks + 1; pin = w.pin; known = w.known; copy = sym copied i; older = v.copy; guest = sym alone i });
        second = again.changed ∙ (λ i.
            record v' { seen = u.seen; looks = v'.looks + 1; pin = u.pin; known = u.known; copy = sym again_copied i; older = v'.copy; whole = sym whole i });
        later = looked.later;
        brought = met.seen;
        shared = last.seen;
        apart = apart;
        programs = disjoint_sym u w last.programs;
        once = (met.programmed_once.0, last.programmed_once.0);
        heard = copied;
        told = again_copied;
        before = (
          (λ c had of. let grown = met.newer c (ap (λ (x : View). x.older) looked.changed ∙ had) (sym (ap name_of of)) in (grown.programs, grown.erases)),
          λ c had of.
              let grown = last.newer c (ap (λ (x : View). x.older) again.changed ∙ had) (sym (ap name_of (role ∙ of))) in
              let stays = looked.changed in (
                subst (Begins c.programs)
                    (ap (λ (x : View). x.programs) stays) grown.programs,
                subst (Begins c.erases) (ap (λ (x : View). x.erases) stays) grown.erases,
              ),
        );
      }

-- a pass that holds a page, v, has read a word of it with the note of another pass, x
module _ (v x : View) (page : MapWord) (pass : is_pass v.role ≡ true) (pass' : is_pass x.role ≡ true)
    (spared : Spared (host_of v (lent_note x)) page (carried x)) where
  pub holds_guest : (name : Name) × ((host_of v (lent_note x)).guest ≡ Some name) × (¬ ((host_of v (lent_note x)).role ≡ Player name))
  holds_guest = (name_of x.role, refl, spared.other)

  pub holds_given : (note : View) → note ≡ given_note (host_of v (lent_note x))
      → (name : Name) × (c : Carried) × ((lender x).role ≡ Player name) × (note.guest ≡ Some name) × (note.copy ≡ Some c) × (¬ ((lender x).role ≡ Player c.of))
  holds_given note is = (
    name_of x.role,
    carried v,
    named x.role pass',
    ap (λ (y : View). y.guest) is,
    ap (λ (y : View). y.copy) is,
    λ same. spared.other (named v.role pass ∙ (sym same ∙ named x.role pass')),
  )

  -- and the other one has looked with what came back
  pub met_holding : (y : View) (n : ℕ) → v.guest ≡ None → x.whole ≡ true → Looked (home (lender x) (given_note (host_of v (lent_note x)))) 0 n y
      → MetHolding v x page (giver (host_of v (lent_note x))) y
  met_holding y n alone whole looked =
      let met : Met y (carried v) = looked.met (carried v) refl in
      record {
        holder = λ i. record v { copy = Some (carried x); older = v.copy; guest = sym alone i };
        other = looked.changed ∙ (λ i.
            record x { seen = y.seen; looks = x.looks + 1; pin = y.pin; known = y.known; copy = Some (carried v); older = x.copy; whole = sym whole i });
        later = looked.later;
        brought = met.seen;
        apart = λ same. spared.other (same ∙ named x.role pass');
        spared = spared.erases;
        programs = spared.programs;
        once = spared.programmed_once;
        before = (
          (λ c had of. let grown = spared.newer c had (sym (ap name_of of)) in (grown.programs, grown.erases)),
          λ c had of. let grown = met.newer c (ap (λ (z : View). z.older) looked.changed ∙ had) (sym (ap name_of of)) in (grown.programs, grown.erases),
        );
      }

-- a pass with nothing open owns nothing and fills nothing
pub nothing_left : (f : Flash) (p : Pass) → IsRested f p → opened_of p ≡ None
    → view_of p ≡ record (view_of p) { owns = []; work = None; ceded = (view_of p).ceded ++ closed_list (opened_of p) }
nothing_left f p rested closed =
    let owns : (view_of p).owns ≡ [] = p.owns ∙ ap owned_list closed in
    let work = rested.idle closed in
    let ceded : (view_of p).ceded ≡ (view_of p).ceded ++ closed_list (opened_of p) =
    sym (append-nil (view_of p).ceded) ∙ ap (λ (l : List Owned). (view_of p).ceded ++ l) (ap closed_list (sym closed)) in
    λ i. record (view_of p) { owns = owns i; work = work i; ceded = ceded i }

-- without a block that is open there is none
pub closed : (x : Option OpenBlock) → is_some x ≡ false → x ≡ None
closed None none = refl
closed (Some o) none = absurd (cc)
