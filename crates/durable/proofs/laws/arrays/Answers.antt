use Rattle.std.proofs.Common.{inl, inr, ◌∷◌, [], refl}
use Rattle.durable.proofs.laws.arrays.Goals as goal

pub returns-clause-cut_short : goal.returns-clause-cut_short
returns-clause-cut_short c u v = (v ∷ [], ([], refl, refl), inl refl)

pub returns-clause-cut_late : goal.returns-clause-cut_late
returns-clause-cut_late c u v = (v ∷ [], ([], refl, refl), inr refl)
