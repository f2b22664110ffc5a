-- One line: what a read, a trim, a write that was done and one that was turned away tell, as one record.
use Rattle.std.proofs.Common.{◌≡◌, ℕ, ◌+◌, ◌<◌, ◌≤◌, ◌⊎◌, Bool, true, false, List, [], ◌∷◌, ◌++◌, Option, None, Some, sym, refl, ap, ◌∙◌, subst, arith}
use Rattle.std.proofs.Common.{append_assoc, append-nil, length-append}
use Rattle.std.specs.{Prelude.if◌then◌else◌, List.range_with_len}
use mathlib.Core.Logic.{inl, inr}
use Rattle.geometry.specs.History.{Call, Trim, held, was, Begins}
use Rattle.geometry.specs.{Sectors.Sector, Sectors.Answers, Sectors.was_of, declared.answer.Got.Got, declared.answer.Was.Was}
use Rattle.geometry.proofs.Histories.{Begins-refl}
use Rattle.flash_rule.specs.{declared.view.View.View, Plays.Called}
use Rattle.flash_table.specs.{declared.pass.OpenBlock.OpenBlock, Owning.owned_list, Owning.owned_of}
use Rattle.host.specs.Told.{Searched, Programmed}
use Rattle.trace.specs.declared.commands.Op.{Op}
use Rattle.rounds.specs.{declared.answer.Kind.Kind, Lines.kind_of, Lines.is_full, Lines.calls_by, Lines.IsFound, Lines.IsRight}
use Rattle.rounds.specs.Playing.{one_done, all_taken, with_play, WriteFound, LineFound, PlayAdds}
use Rattle.workers.specs.Playable.{PlayedLine, kind_found, write_call, write_op}
use Rattle.geometry.specs.declared.answer.Got.TheVariants as got
use Rattle.geometry.specs.declared.answer.Was.TheVariants as was
use Rattle.trace.specs.declared.commands.Op.TheVariants as op
use Rattle.rounds.specs.declared.answer.Kind.TheVariants as kind

-- a change of no more than the eleven fields
merged : (v w only : View) → only ≡ with_play v only → w ≡ only → w ≡ with_play v w
merged v w only within e = e ∙ (within ∙ ap (with_play v) (sym e))

merged-trans : (u v w : View) → v ≡ with_play u v → w ≡ with_play v w → w ≡ with_play u w
merged-trans u v w a b = b ∙ ap (λ (x : View). with_play x w) a

-- playing that programs nothing and takes no block
pub adds_calls : (calls : List Call) (AreFound : List ℕ → Type 0) (v w : View) → w ≡ with_play v w → w.mine ≡ v.mine ++ calls → w.programs ≡ v.programs
    → w.taken ≡ v.taken → w.denied ≡ v.denied → AreFound [] → PlayAdds calls 0 AreFound v w
adds_calls calls AreFound v w changed mine programs taken denied none = record {
  changed = changed;
  mine = mine;
  more = [];
  programs = programs ∙ sym (append-nil v.programs);
  programmed = refl;
  kept = omega arith;
  taken = omega arith;
  found = [];
  denied = denied ∙ sym (append-nil v.denied);
  tried = none;
}

-- playing, and then more of it
pub adds_then : (v u w : View) (cs ds : List Call) (m n : ℕ) (First Then All : List ℕ → Type 0) → ((k l : List ℕ) → First k → Then l → All (k ++ l))
    → PlayAdds cs m First v u → PlayAdds ds n Then u w → PlayAdds (cs ++ ds) (m + n) All v w
adds_then v u w cs ds m n First Then All all a b = record {
  changed = merged-trans v u w a.changed b.changed;
  mine = b.mine ∙ (ap (λ l. l ++ ds) a.mine ∙ append_assoc v.mine cs ds);
  more = a.more ++ b.more;
  programs = b.programs ∙ (ap (λ l. l ++ b.more) a.programs ∙ append_assoc v.programs a.more b.more);
  programmed = length-append a.more b.more ∙ (λ i. a.programmed i + b.programmed i);
  kept = (let one = a.kept in let two = b.kept in omega arith);
  taken = (let one = a.taken in let two = b.taken in omega arith);
  found = a.found ++ b.found;
  denied = b.denied ∙ (ap (λ l. l ++ b.found) a.denied ∙ append_assoc v.denied a.found b.found);
  tried = all a.found b.found a.tried b.tried;
}

found_right : (x : Sector) (g : Got) (old new : List ℕ) → Answers x g old new → IsFound x (kind_found g) new
found_right None g old new a = ap kind_found a.0
found_right (Some value) g old new a = (ap kind_found a.0, a.1)

found_not_full : (g : Got) → is_full (kind_found g) ≡ false
found_not_full got.Empty = refl
found_not_full got.Data = refl

was_not_full : (a : Was) → is_full (kind_of a) ≡ false
was_not_full was.Empty = refl
was_not_full was.Written = refl

-- a look that is done is one line
pub read_line : (t patience : ℕ) (v : View) (s tries : ℕ) (value old page : List ℕ) (g : Got) (k : Kind) (w : View) → Searched v tries w
    → Answers (held v.numbers.sectors w.seen s) g old page → k ≡ kind_found g
    → PlayedLine t patience v op.Read s value k page (is_full k) w
read_line t patience v s tries value old page g k w told answer is =
    subst (λ (x : Kind × Bool). PlayedLine t patience v op.Read s value x.0 page x.1 w)
    (λ i. (sym is i, (sym (found_not_full g) ∙ ap is_full (sym is)) i)) line where
      line : PlayedLine t patience v op.Read s value (kind_found g) page false w
      line = record {
        history = w.seen;
        later = told.later;
        right = found_right (held v.numbers.sectors w.seen s) g old page answer;
        last = ([], append-nil (w.seen ++ []) ∙ append-nil w.seen);
        adds = adds_calls [] _ v w (merged v w _ refl told.changed) (ap (λ (x : View). x.mine) told.changed ∙ sym (append-nil v.mine))
            (ap (λ (x : View). x.programs) told.changed) (ap (λ (x : View). x.taken) told.changed) (ap (λ (x : View). x.denied) told.changed) refl;
      }

-- and so is a trim
pub trim_line : (t patience : ℕ) (v : View) (s : ℕ) (value page : List ℕ) (a : Was) (k : Kind) (w : View) → Called v (Trim t s) s a w → k ≡ kind_of a
    → PlayedLine t patience v op.Trim s value k page (is_full k) w
trim_line t patience v s value page a k w told is =
    subst (λ (x : Kind × Bool). PlayedLine t patience v op.Trim s value x.0 page x.1 w)
    (λ i. (sym is i, (sym (was_not_full a) ∙ ap is_full (sym is)) i)) line where
      line : PlayedLine t patience v op.Trim s value (kind_of a) page false w
      line = record {
        history = told.before;
        later = told.later;
        right = ap kind_of told.answered;
        last = ([], append-nil (told.before ++ Trim t s ∷ []) ∙ sym told.now);
        adds = adds_calls (Trim t s ∷ []) _ v w (merged v w _ refl told.changed) (ap (λ (x : View). x.mine) told.changed)
            (ap (λ (x : View). x.programs) told.changed) (ap (λ (x : View). x.taken) told.changed) (ap (λ (x : View). x.denied) told.changed) refl;
      }

-- A write was tried so often, and turned away each time: all blocks were found taken as often, and nothing else has changed
pub record Waited (tries : ℕ) (v u : View) : Type 0 where
  pub changed : u ≡ record v { denied = u.denied }
  pub denied : u.denied ≡ v.denied ++ all_taken v.numbers.blocks tries

-- An op that makes this kind of call, by a page that it programs, and may be turned away
pub record IsWrite (o : Op) (call : ℕ → ℕ → List ℕ → Call) : Type 0 where
  pub right : (x : Sector) (k : Kind) (page : List ℕ) → (k ≡ kind.Full) ⊎ (k ≡ kind_of (was_of x)) → IsRight o x k page
  pub calls : (t s : ℕ) (value : List ℕ) → calls_by t o s value ≡ call t s value ∷ []
  pub done : (full : Bool) → one_done o full ≡ (if full then 0 else 1)
  pub found : (patience blocks : ℕ) (full : Bool) (l : List ℕ) → WriteFound patience blocks full l → LineFound patience blocks o full l

pub a_write : (only_new : Bool) → IsWrite (write_op only_new) (write_call only_new)
a_write false = record { right = λ x k page r. r; calls = λ t s value. refl; done = λ full. refl; found = λ patience blocks full l found. found }
a_write true = record { right = λ x k page r. r; calls = λ t s value. refl; done = λ full. refl; found = λ patience blocks full l found. found }

-- turned away to the end
pub full_line : (o : Op) (call : ℕ → ℕ → List ℕ → Call) → IsWrite o call → (t patience tries : ℕ) (v : View) (s : ℕ) (value page : List ℕ) (w : View)
    → tries ≡ patience → Waited tries v w → PlayedLine t patience v o s value kind.Full page true w
full_line o call is t patience tries v s value page w all waited =
    let none = is.done true in
    let seen = ap (λ (x : View). x.seen) waited.changed in
    let taken = ap (λ (x : View). x.taken) waited.changed in
    record {
      history = v.seen;
      later = Begins-refl v.seen;
      right = is.right (held v.numbers.sectors v.seen s) kind.Full page (inl refl);
      last = ([], append-nil (v.seen ++ []) ∙ (append-nil v.seen ∙ sym seen));
      adds = record {
        changed = merged v w _ refl waited.changed;
        mine = ap (λ (x : View). x.mine) waited.changed ∙ sym (append-nil v.mine);
        more = [];
        programs = ap (λ (x : View). x.programs) waited.changed ∙ sym (append-nil v.programs);
        programmed = sym none;
        kept = omega arith;
        taken = omega arith;
        found = all_taken v.numbers.blocks tries;
        denied = waited.denied;
        tried = is.found patience v.numbers.blocks true (all_taken v.numbers.blocks tries)
            (record { refused = tries; below = 0; tried = (all, refl); whole = sym (append-nil (all_taken v.numbers.blocks tries)) });
      };
    }

-- what a write takes, and the blocks that it finds taken below that
record Took (v w : View) : Type 0 where
  pub kept : v.taken ≤ w.taken
  pub taken : w.taken ≤ v.taken + 1
  pub below : ℕ
  pub within : below < v.numbers.blocks
  pub denied : w.denied ≡ v.denied ++ range_with_len 0 below

wrote_taken : (v w : View) (c : Call) (s : ℕ) (a : Was) (o : Option OpenBlock) → v.owns ≡ owned_list o → Programmed v c s a w → Took v w
wrote_taken v w c s a None owns told =
    let begun = told.begun owns in
    record { kept = omega (arith, begun.1); taken = omega (arith, begun.1); below = told.page.block; within = told.within.0; denied = begun.2 }
wrote_taken v w c s a (Some o) owns told =
    let continued = told.continued (owned_of o) owns in record {
      kept = omega (arith, continued.1);
      taken = omega (arith, continued.1);
      below = 0;
      within = (let low = told.within.0 in omega arith);
      denied = continued.2 ∙ sym (append-nil v.denied);
    }

-- a write that was done, after so many that were turned away
module _ (which : Op) (call : ℕ → ℕ → List ℕ → Call) (its : IsWrite which call) where
  pub write_line : (t patience tries : ℕ) (v u w : View) (s : ℕ) (value page : List ℕ) (a : Was) (k : Kind) (o : Option OpenBlock)
      → u.owns ≡ owned_list o → tries < patience → Waited tries v u → Programmed u (call t s value) s a w → k ≡ kind_of a
      → PlayedLine t patience v which s value k page (is_full k) w
  write_line t patience tries v u w s value page a k o owns few waited told is =
      subst (λ (x : Kind × Bool). PlayedLine t patience v which s value x.0 page x.1 w)
      (λ i. (sym is i, (sym (was_not_full a) ∙ ap is_full (sym is)) i)) line where
        n : ℕ
        n = v.numbers.blocks

        takes : Took u w
        takes = wrote_taken u w (call t s value) s a o owns told

        below : ℕ
        below = takes.below

        within : below < n
        within = let blocks = ap (λ (x : View). x.numbers.blocks) waited.changed in let low = takes.within in omega arith

        right : kind_of a ≡ kind_of (was v.numbers.sectors told.before s)
        right = ap kind_of told.answered ∙ ap (λ n. kind_of (was n told.before s)) (ap (λ (x : View). x.numbers.sectors) waited.changed)

        calls : call t s value ∷ [] ≡ calls_by t which s value
        calls = sym (its.calls t s value)

        one : one_done which false ≡ 1
        one = its.done false

        line : PlayedLine t patience v which s value (kind_of a) page false w
        line = record {
          history = told.before;
          later = subst (λ h. Begins h told.before) (ap (λ (x : View). x.seen) waited.changed) told.later;
          right = its.right (held v.numbers.sectors told.before s) (kind_of a) page (inr right);
          last = ([], append-nil (told.before ++ calls_by t which s value) ∙ (ap (λ l. told.before ++ l) (sym calls) ∙ sym told.now));
          adds = record {
            changed = merged-trans v u w (merged v u _ refl waited.changed) (merged u w _ refl told.changed);
            mine = ap (λ (x : View). x.mine) told.changed ∙ (ap (λ (x : View). x.mine ++ call t s value ∷ []) waited.changed ∙ ap (λ l. v.mine ++ l) calls);
            more = told.page ∷ [];
            programs = told.programmed ∙ ap (λ (x : View). x.programs ++ told.page ∷ []) waited.changed;
            programmed = sym one;
            kept = (let e = ap (λ (x : View). x.taken) waited.changed in let t = takes.kept in omega arith);
            taken = (let e = ap (λ (x : View). x.taken) waited.changed in let t = takes.taken in omega (arith, one));
            found = all_taken n tries ++ range_with_len 0 below;
            denied = takes.denied ∙ (ap (λ l. l ++ range_with_len 0 below) waited.denied ∙ append_assoc v.denied (all_taken n tries) (range_with_len 0 below));
            tried = its.found patience n false (all_taken n tries ++ range_with_len 0 below)
                (record { refused = tries; below = below; tried = (few, within); whole = refl });
          };
        }
