use Rattle.std.proofs.Common.{◌≡◌, [], ◌∷◌, false, None, Some, refl, sym, ap, subst, arith}
use Rattle.std.proofs.lemmas.Bool.{false≢true}
use Rattle.durable.specs.Losses.{has_gap}
use Rattle.geometry.specs.declared.page_addr.PageAddr.{PageAddr}
use Rattle.durable.specs.declared.found.Candidate.{Candidate}
use Rattle.durable.proofs.Opened.{none_some}
use Rattle.durable.proofs.laws.candidates.Goals as goal

same_addr : (x y : PageAddr) → Some x ≡ Some y → x ≡ y
same_addr x y e = cc e

pub returns-clause-alone : goal.returns-clause-alone
returns-clause-alone c freeable =
    let found : Candidate = record { at = record { block = 1; page = 0 }; number = 5; twin = None } in
    let twin = freeable 0 found (omega arith) refl refl in
    none_some twin.0 twin.1

pub returns-clause-same_block : goal.returns-clause-same_block
returns-clause-same_block c freeable =
    let other : PageAddr = record { block = 1; page = 2 } in
    let found : Candidate = record { at = record { block = 1; page = 0 }; number = 5; twin = Some other } in
    let twin = freeable 0 found (omega arith) refl refl in
    twin.2 (sym (ap (λ (at : PageAddr). at.block) (same_addr other twin.0 twin.1)))

pub returns-clause-behind_gap : goal.returns-clause-behind_gap
returns-clause-behind_gap c freeable =
    let other : PageAddr = record { block = 2; page = 2 } in
    let found : Candidate = record { at = record { block = 1; page = 0 }; number = 5; twin = Some other } in
    let twin = freeable 0 found (omega arith) refl refl in
    let gap : has_gap (0 ∷ 0 ∷ 1 ∷ []) other.block ≡ false =
    subst (λ (at : PageAddr). has_gap (0 ∷ 0 ∷ 1 ∷ []) at.block ≡ false) (sym (same_addr other twin.0 twin.1)) twin.3 in
    absurd (false≢true (sym gap))
