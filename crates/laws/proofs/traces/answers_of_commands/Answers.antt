use Rattle.std.proofs.Common.{◌≡◌, [], ◌∷◌, codes, refl}
use Rattle.hex.specs.Hex.{encode_lower, encode_with}
use Rattle.laws.proofs.traces.answers_of_commands.Goals as goal

digits : encode_lower (10 ∷ []) ≡ codes "0a"
unfolding encode_with
digits = refl

pub returns-clause-read : goal.returns-clause-read
returns-clause-read c refused = (refl, digits)
