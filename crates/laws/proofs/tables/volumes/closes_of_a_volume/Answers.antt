use Rattle.std.proofs.Common.{◌≡◌, zero, suc, [], ◌∷◌, refl, sym, ap, ◌∙◌, subst, append-nil, arith}
use Rattle.std.specs.Prelude.{is_some}
use Rattle.flash_rule.specs.declared.view.View.{View}
use Rattle.flash_rule.specs.declared.facts.Name.TheVariants as name
use Rattle.flash_rule.specs.declared.facts.Role.TheVariants as seat
use Rattle.flash_table.specs.{Flash.geometry_of, Flash.view_of, declared.pass.Pass.Pass}
use Rattle.geometry.specs.{Geometry.sectors_of, History.Begins, History.held}
use Rattle.volume.specs.{Volume.flash_of, Closing.AreAll}
use Rattle.laws.proofs.tables.volumes.closes_of_a_volume.Goals as goal

all_of_one : (p : Pass) → (view_of p).role ≡ seat.Player (name.Pass 0) → AreAll 1 (p ∷ [])
all_of_one p role zero low = (p, (0, refl), role)
all_of_one p role (suc t) low = absurd (omega (arith, low))

pub returns-clause-all : goal.returns-clause-all
returns-clause-all c p role = all_of_one p role

pub returns-clause-last_own : goal.returns-clause-last_own
returns-clause-last_own c z p last s role h = h.own 2 p (0, refl) role

pub returns-clause-looked : goal.returns-clause-looked
returns-clause-looked c p q h =
    (ap (λ (u : View). u.mine) (h.each 0 p q refl refl).changed, ap (λ (u : View). u.owns) (h.each 0 p q refl refl).changed, (h.each 0 p q refl refl).later)

pub returns-clause-does : goal.returns-clause-does
returns-clause-does c x p q number does = ((does 2 number).mine, (does 2 number).own)

pub returns-clause-does_at : goal.returns-clause-does_at
returns-clause-does_at c x p q b number does =
    let it = does 2 number in
    let e : (view_of q).seen ≡ it.place = it.seen ∙ append-nil it.place in (
      it.answered ∙ ap (λ h. is_some (held (sectors_of (geometry_of (flash_of x))) h 3)) (sym e),
      subst (λ h. Begins (view_of p).seen h) (sym e) it.later,
    )

pub returns-clause-does_other : goal.returns-clause-does_other
returns-clause-does_other c x p q number does = (does 2 number).answered

pub returns-clause-read_callers : goal.returns-clause-read_callers
returns-clause-read_callers c z p last s role h = (h.callers 1, h.own 1 2 p refl role)
