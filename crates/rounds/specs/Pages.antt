-- Pages side by side, by the kinds of their answers.
use Rattle.std.specs.Prelude.{ℕ, ◌+◌, List, [], ◌∷◌, take, drop}
use Rattle.rounds.specs.{Lines.Said, declared.answer.Kind.Kind}
use Rattle.rounds.specs.declared.answer.Kind.TheVariants as kind

-- how many bytes an answer of this kind has, if a page has n
abbrev pub bytes_of : ℕ → Kind → ℕ
bytes_of n kind.Page = n
bytes_of _ _ = 0

-- and how many the answers of these kinds have
abbrev pub bytes_in : ℕ → List Kind → ℕ
bytes_in n [] = 0
bytes_in n (k ∷ kinds) = bytes_of n k + bytes_in n kinds

-- the answers of these kinds, whose pages are in these bytes
abbrev pub said_from : ℕ → List Kind → List ℕ → List Said
said_from n [] bytes = []
said_from n (k ∷ kinds) bytes = record { kind = k; page = take (bytes_of n k) bytes } ∷ said_from n kinds (drop (bytes_of n k) bytes)
