use Rattle.std.proofs.Common.{◌≡◌, ◌∷◌, codes, map, take}
use Rattle.std.specs.Prelude.{IfSome, string_bytes}
use Rattle.player.proofs.environment.read_words.Given as goal

-- the words are the name and the arguments before this place
abbrev pub invariant-loop-place : goal.invariant-loop-place
invariant-loop-place g l =
    IfSome (g.S.Arguments.all l.system) (λ arguments. map string_bytes l.words.items ≡ codes "flashplay" ∷ take l.place arguments)
