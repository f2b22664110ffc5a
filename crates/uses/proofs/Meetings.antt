-- What a host has written stays written when it meets another one.
use Rattle.std.proofs.Common.{◌≡◌, ℕ, Bool, true, false, ◌++◌, List, [], ◌∷◌, sym, ap, ◌∙◌, subst, append-nil}
use Rattle.std.specs.{Prelude.Result, Prelude.Ok, Prelude.Err, Prelude.IfOk, Prelude.OnErr, Prelude.if◌then◌else◌, Result.is_ok}
use Rattle.geometry.{proofs.Histories.Begins-refl, proofs.Histories.Begins-trans, specs.History.Begins, specs.History.Write, specs.declared.answer.Was.Was}
use Rattle.flash_rule.specs.declared.{facts.Name.TheVariants.Pass as APass, facts.Role.TheVariants.Player, view.View.View}
use Rattle.flash_table.specs.{declared.flash.Flash.Flash, declared.pass.Pass.Pass, Flash.view_of}
use Rattle.host.specs.{declared.writing.NoBlock.NoBlock, Ready.IsReady, Told.Wrote, Told.Refused, Told.MetTold}
use Rattle.uses.specs.Sharing.{IsStored, HasHeard}

-- what a pass has called when it has written, or not
mine_after : (v : View) (t s : ℕ) (value : List ℕ) (done way : Bool) → done ≡ way
    → v.mine ++ (if way then Write t s value ∷ [] else []) ≡ v.mine ++ (if done then Write t s value ∷ [] else [])
mine_after v t s value done way is = ap (λ (d : Bool). v.mine ++ (if d then Write t s value ∷ [] else [])) (sym is)

-- either outcome of a write
pub stored : (r : Result Was NoBlock) (done : Bool) (s : ℕ) (value : List ℕ) (v w : View) → done ≡ is_ok r
    → IfOk r (λ answer. (t : ℕ) → v.role ≡ Player (APass t) → Wrote v t s value answer w) → OnErr r (Refused v w) → IsStored s value v done w
stored (Ok answer) done s value v w is wrote refused =
    record {
      told = λ t role. let done_so = wrote t role in
          record {
            role = ap (λ (x : View). x.role) done_so.changed ∙ role;
            later = Begins-trans v.seen done_so.before w.seen done_so.later (_, sym done_so.now);
            mine = ap (λ (x : View). x.mine) done_so.changed ∙ mine_after v t s value done true is;
          };
    }
stored (Err e) done s value v w is wrote refused =
    record {
      told = λ t role.
          record {
            role = ap (λ (x : View). x.role) refused.changed ∙ role;
            later = subst (λ h. Begins v.seen h) (sym (ap (λ (x : View). x.seen) refused.changed)) (Begins-refl v.seen);
            mine = ap (λ (x : View). x.mine) refused.changed ∙ (sym (append-nil v.mine) ∙ mine_after v t s value done false is);
          };
    }

-- the first of two that meet
pub first_keeps : (s : ℕ) (value : List ℕ) (done : Bool) (a v v' x x' : View) → IsStored s value a done v → MetTold v v' x x' → IsStored s value a done x
first_keeps s value done a v v' x x' before told =
    record {
      told = λ t role. let was = before.told t role in
          record {
            role = ap (λ (y : View). y.role) told.first ∙ was.role;
            later = Begins-trans a.seen v.seen x.seen was.later told.later;
            mine = ap (λ (y : View). y.mine) told.first ∙ was.mine;
          };
    }

-- and the second
pub second_keeps : (s : ℕ) (value : List ℕ) (done : Bool) (a v v' x x' : View) → IsStored s value a done v' → MetTold v v' x x' → IsStored s value a done x'
second_keeps s value done a v v' x x' before told =
    record {
      told = λ t role. let was = before.told t role in
          record {
            role = ap (λ (y : View). y.role) told.second ∙ was.role;
            later = Begins-trans a.seen v'.seen x'.seen was.later (Begins-trans v'.seen x.seen x'.seen told.brought told.shared);
            mine = ap (λ (y : View). y.mine) told.second ∙ was.mine;
          };
    }

-- the first has seen all that the second had seen, and so all calls that it has made
pub has_heard : (f : Flash) (p : Pass) (v x x' : View) → IsReady f p → MetTold v (view_of p) x x' → HasHeard x' x
has_heard f p v x x' ready told =
    record {
      told = λ t role.
          record {
            history = (view_of p).seen;
            seen = told.brought;
            calls = ready.rested.own t (sym (ap (λ (y : View). y.role) told.second) ∙ role) ∙ sym (ap (λ (y : View). y.mine) told.second);
          };
    }
