use Rattle.std.proofs.Common.{◌≡◌, true, false, [], ◌∷◌, inl, inr, refl}
use Rattle.workers.specs.declared.collector.broom_answer.BroomAnswer.TheVariants as by
use Rattle.laws.proofs.plays.turns.calls_behind_a_drain.Goals as goal

pub returns-clause-erased : goal.returns-clause-erased
returns-clause-erased c e =
    record { erased = e; spareless = λ h. let wrong : false ≡ true = h in absurd (cc); other = λ h. refl }

pub returns-clause-restocked : goal.returns-clause-restocked
returns-clause-restocked c e =
    record { erased = e; spareless = λ h. (by.Restock true ∷ [], inl refl, refl); other = λ h. let wrong : true ≡ false = h in absurd (cc) }

pub returns-clause-drained : goal.returns-clause-drained
returns-clause-drained c e d =
    record {
      erased = e;
      spareless = λ h. (by.Restock false ∷ by.DrainDead d ∷ [], inr (d, refl), refl);
      other = λ h. let wrong : true ≡ false = h in absurd (cc);
    }
