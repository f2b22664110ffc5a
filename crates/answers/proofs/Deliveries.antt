-- A text that goes out piece by piece, and what waits after its first bytes were removed.
use Rattle.std.proofs.Common.{◌≡◌, ℕ, ◌+◌, ◌-◌, ◌≤◌, List, length, take, drop, ap, sym, ◌∙◌, arith, length-drop, ◌≢◌, [], ◌++◌, Option, None, Some, refl, subst}
use Rattle.std.proofs.Common.{append_assoc, append-nil}
use Rattle.std.proofs.lemmas.List.{drop-take, take-append-drop}
use Rattle.std.proofs.lemmas.List.Edits.{take-paste}
use Rattle.std.specs.List.{copy_within}
use lib.Seq.{paste}
use Rattle.std.specs.Prelude.{Result, Ok, Err, IsErr, OnErr}
use Rattle.std.specs.Io.KnownBytes.{Appends}
use Rattle.geometry.specs.History.{Begins}
use Rattle.geometry.proofs.Histories.{Begins-refl}
use Rattle.answers.specs.Delivery.{AppendsBeginning, IsUnderWay}
use Rattle.answers.specs.Streams.{Stream, WritesOut}
use Rattle.answers.specs.declared.delivery.OutputFailed.{OutputFailed}

-- bytes in the middle are moved to the front
pub moved_front : (xs : List ℕ) (used count : ℕ) → count ≤ used → used ≤ length xs
    → take (used - count) (copy_within xs count used 0) ≡ drop count (take used xs)
moved_front xs used count few fits =
    let left = used - count in
    let same : left ≡ 0 + left = omega arith in
    let whole : count + left ≡ used = omega (arith, few) in
    ap (λ k. take k (paste xs 0 (drop count xs) left)) same
    ∙ (take-paste xs 0 (drop count xs) left (omega (arith, few, fits)) (omega (arith, fits, length-drop count xs))
    ∙ (sym (drop-take count left xs) ∙ ap (λ n. drop count (take n xs)) whole))

pub Appends-nothing : (known : Option (List ℕ)) → Appends known known []
Appends-nothing None = tt
Appends-nothing (Some xs) = sym (append-nil xs)

pub Appends-append : (a b c : Option (List ℕ)) (xs ys : List ℕ) → Appends a b xs → Appends b c ys → Appends a c (xs ++ ys)
Appends-append None b c xs ys p q = tt
Appends-append (Some known) None c xs ys p q = absurd p
Appends-append (Some known) (Some grown) None xs ys p q = absurd q
Appends-append (Some known) (Some grown) (Some last) xs ys p q = q ∙ (ap (λ front. front ++ ys) p ∙ append_assoc known xs ys)

-- nothing is out yet
pub IsUnderWay-start : (known : Option (List ℕ)) (text : List ℕ) → IsUnderWay known known text text
IsUnderWay-start known text = record { sent = []; out = Appends-nothing known; whole = refl }

-- the next bytes of what waits went out
pub IsUnderWay-take : (old new newer : Option (List ℕ)) (waiting text : List ℕ) (n : ℕ) → IsUnderWay old new waiting text
    → Appends new newer (take n waiting) → IsUnderWay old newer (drop n waiting) text
IsUnderWay-take old new newer waiting text n u next =
    record {
      sent = u.sent ++ take n waiting;
      out = Appends-append old new newer u.sent (take n waiting) u.out next;
      whole = append_assoc u.sent (take n waiting) (drop n waiting) ∙ (ap (λ rest. u.sent ++ rest) (take-append-drop n waiting) ∙ u.whole);
    }

-- all that waited went out
pub IsUnderWay-sent : (old new newer : Option (List ℕ)) (waiting text : List ℕ) → IsUnderWay old new waiting text → Appends new newer waiting
    → IsUnderWay old newer [] text
IsUnderWay-sent old new newer waiting text u next =
    record {
      sent = u.sent ++ waiting;
      out = Appends-append old new newer u.sent waiting u.out next;
      whole = append-nil (u.sent ++ waiting) ∙ u.whole;
    }

-- the text grew by what waits last
pub IsUnderWay-more : (old new : Option (List ℕ)) (waiting text more : List ℕ) → IsUnderWay old new waiting text
    → IsUnderWay old new (waiting ++ more) (text ++ more)
IsUnderWay-more old new waiting text more u =
    record { sent = u.sent; out = u.out; whole = sym (append_assoc u.sent waiting more) ∙ ap (λ front. front ++ more) u.whole }

-- with nothing waiting all is out
pub Appends-whole : (old new : Option (List ℕ)) (text : List ℕ) → IsUnderWay old new [] text → Appends old new text
Appends-whole old new text u =
    let e : u.sent ≡ text = sym (append-nil u.sent) ∙ u.whole in
    subst (Appends old new) e u.out

-- and so is what is out when a piece of what waits went out
pub AppendsBeginning-part : (old new newer : Option (List ℕ)) (waiting text whole : List ℕ) → IsUnderWay old new waiting text
    → AppendsBeginning new newer waiting → Begins text whole → AppendsBeginning old newer whole
AppendsBeginning-part old new newer waiting text whole u part begins =
    record {
      sent = u.sent ++ part.sent;
      out = Appends-append old new newer u.sent part.sent u.out part.out;
      beginning = (
        part.beginning.0 ++ begins.0,
        append_assoc u.sent part.sent (part.beginning.0 ++ begins.0)
            ∙ (ap (λ rest. u.sent ++ rest) (sym (append_assoc part.sent part.beginning.0 begins.0) ∙ ap (λ front. front ++ begins.0) part.beginning.1)
            ∙ (sym (append_assoc u.sent waiting begins.0) ∙ (ap (λ front. front ++ begins.0) u.whole ∙ begins.1))),
      );
    }

-- one stretch after another
pub IsUnderWay-trans : (a b c : Option (List ℕ)) (later waiting text : List ℕ) → IsUnderWay a b waiting text → IsUnderWay b c later waiting
    → IsUnderWay a c later text
IsUnderWay-trans a b c later waiting text u v =
    record {
      sent = u.sent ++ v.sent;
      out = Appends-append a b c u.sent v.sent u.out v.out;
      whole = append_assoc u.sent v.sent later ∙ (ap (λ rest. u.sent ++ rest) v.whole ∙ u.whole);
    }

-- an `Err` is what is claimed of one
pub OnErr-any : {T E : Type 0} (P : Type 0) (r : Result T E) → P → OnErr r P
OnErr-any P (Ok x) p = tt
OnErr-any P (Err e) p = p

-- a text whose last bytes waited is written as these are
pub WritesOut-rest : (text waiting : List ℕ) (old mid new : Stream) (r : Result (Unit {0}) OutputFailed) → mid.failures ≡ old.failures
    → IsUnderWay old.bytes mid.bytes waiting text → WritesOut waiting (record { before = mid; after = new }) r
    → WritesOut text (record { before = old; after = new }) r
WritesOut-rest text waiting old mid new (Ok _) same under (unfailed, sent) =
    (unfailed ∙ same, Appends-whole old.bytes new.bytes text (IsUnderWay-sent old.bytes mid.bytes new.bytes waiting text under sent))
WritesOut-rest text waiting old mid new (Err _) same under (failed, part) = (
  (λ e. failed (e ∙ sym same)),
  AppendsBeginning-part old.bytes mid.bytes new.bytes waiting text text under part (Begins-refl text),
)

-- and it is not written if what waited of its beginning isn't
pub WritesOut-stopped : (whole text waiting : List ℕ) (old mid new : Stream) (r : Result (Unit {0}) OutputFailed) → mid.failures ≡ old.failures
    → IsUnderWay old.bytes mid.bytes waiting text → Begins text whole → new.failures ≢ mid.failures
    → AppendsBeginning mid.bytes new.bytes waiting → IsErr r → WritesOut whole (record { before = old; after = new }) r
WritesOut-stopped whole text waiting old mid new (Ok _) same under begins failed part is = absurd (cc)
WritesOut-stopped whole text waiting old mid new (Err e) same under begins failed part is =
    ((λ f. failed (f ∙ sym same)), AppendsBeginning-part old.bytes mid.bytes new.bytes waiting text whole under part begins)
