-- What a code tells of a sector or of a drain.
use Rattle.std.proofs.Common.{◌≡◌, refl}
use Rattle.geometry.specs.declared.answer.Was.{Was}
use Rattle.geometry.specs.declared.answer.Was.TheVariants as was
use Rattle.exports.specs.Codes.{was_code, was_by}
use Rattle.broom.specs.declared.answer.Drain.TheVariants as drain

-- the code of what a sector was says what it was
pub was_back : (w : Was) → was_by (was_code w) ≡ w
was_back was.Empty = refl
was_back was.Written = refl
