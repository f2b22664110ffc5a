-- A read behind a write of the same pass.
use Rattle.std.proofs.Common.{ℕ, List, subst}
use Rattle.geometry.specs.{History.Begins, declared.answer.Got.Got, declared.answer.Was.Was}
use Rattle.flash_rule.specs.declared.view.View.{View}
use Rattle.volume.specs.Correct.{Correct, Read, Write, Found, Replaced, known_by}
use Rattle.uses.specs.Sharing.{IsReadBehind}

-- two steps of one pass, one after the other
pub read_behind : (n t s : ℕ) (value : List ℕ) (was : Was) (got : Got) (old new : List ℕ) (v w x : View)
    → Correct n t (Write s value) (Replaced was) (known_by v) (known_by w)
    → Correct n t (Read s) (Found got old new) (known_by w) (known_by x) → IsReadBehind n t s value v got old new
read_behind n t s value was got old new v w x wrote read =
    record {
      before = wrote.place;
      later = wrote.later;
      place = read.place;
      behind = subst (λ h. Begins h read.place) wrote.seen read.later;
      answered = read.answered;
    }
