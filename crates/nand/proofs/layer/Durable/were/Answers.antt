use Rattle.std.proofs.Common.{◌≡◌, ◌∙◌, ⊎_elim, ℕ, None, Some, Ok, Err, sym, subst, arith}
use Rattle.std.proofs.lemmas.Bool.{cases_eq}
use Rattle.geometry.specs.Sectors.{was_of}
use Rattle.geometry.specs.declared.answer.Was.TheVariants as was
use Rattle.durable.specs.Updates.{array_after, sole}
use Rattle.nand.specs.Stored.{WereStored, stored_value}
use Rattle.nand.proofs.Readings.{empty_within}
use Rattle.nand.proofs.Steps.{stored_after, looks_after}
use Rattle.nand.proofs.layer.Durable.were.Goals as goal

pub returns-in-Ok-Written-clause-looks : goal.returns-in-Ok-Written-clause-looks
returns-in-Ok-Written-clause-looks g c =
    looks_after c.loop-sector.invariant.looks (Ok was.Written) (rw c.in-Ok-Written.field-0-is at c.in-Ok-Written.ensures.looks)

pub returns-in-Err-clause-looks : goal.returns-in-Err-clause-looks
returns-in-Err-clause-looks g c = looks_after c.loop-sector.invariant.looks (Err c.in-Err.failure) c.in-Err.ensures.looks

pub loop-sector-preserved : goal.loop-sector-preserved
loop-sector-preserved g c =
    let inv = c.loop-sector.invariant in
    record {
      from = omega (arith, inv.from);
      empty = λ updates is k le lt. ⊎_elim
          (λ here. subst (λ (j : ℕ). was_of (array_after updates j) ≡ was.Empty) (sym here)
          (sym (c.in-Ok-Empty.ensures.gives updates (inv.looks.opens updates is)) ∙ c.in-Ok-Empty.field-0-is))
          (λ differs. inv.empty updates is k le (omega (arith, lt, differs)))
          (cases_eq k c.loop-sector.sector);
      stored = λ k le lt. ⊎_elim
          (λ here. subst (λ (j : ℕ). stored_value g.N.Nand.flash c.args.self.now j ≡ Some None) (sym here)
          (empty_within (stored_value g.N.Nand.flash c.loop-sector.self) (stored_value g.N.Nand.flash c.args.self.now) c.args.extent c.loop-sector.sector
          (inv.from, omega arith) (stored_after inv.looks) inv.stored
          (subst (WereStored (stored_value g.N.Nand.flash c.loop-sector.self) (sole c.loop-sector.sector))
          c.in-Ok-Empty.field-0-is c.in-Ok-Empty.ensures.tells)))
          (λ differs. inv.stored k le (omega (arith, lt, differs)))
          (cases_eq k c.loop-sector.sector);
      closed = λ is. absurd (cc (sym c.in-Ok-Empty.is ∙ c.was.ensures.closed (inv.looks.mounted ∙ is)));
      looks = looks_after inv.looks (Ok was.Empty) (rw c.in-Ok-Empty.field-0-is at c.in-Ok-Empty.ensures.looks);
    }
