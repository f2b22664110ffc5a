use Rattle.std.proofs.Common.{refl}
use Rattle.text.proofs.Places.{Puts-number, first_number}
use Rattle.answers.proofs.line.put_broom.Goals as goal

pub returns : goal.returns
returns c =
    let broom = first_number 44 refl c.put_number-broom.ensures.placed in
    let drained = Puts-number 44 refl broom c.put_number-drained.ensures.placed in
    let moved = Puts-number 44 refl drained c.put_number-moved.ensures.placed in
    let programmed = Puts-number 44 refl moved c.put_number-programmed.ensures.placed in
    let erased = Puts-number 44 refl programmed c.put_number-erased.ensures.placed in
    let kept = Puts-number 44 refl erased c.put_number-kept.ensures.placed in
    let retired = Puts-number 44 refl kept c.put_number-retired.ensures.placed in
    let lost = Puts-number 44 refl retired c.put_number-lost.ensures.placed in
    let pinned = Puts-number 44 refl lost c.put_number-pinned.ensures.placed in
    let stale = Puts-number 44 refl pinned c.put_number-stale.ensures.placed in
    Puts-number 10 refl stale c.put_number.ensures.placed
