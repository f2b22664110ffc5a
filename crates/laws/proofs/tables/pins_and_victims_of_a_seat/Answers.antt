use Rattle.std.proofs.Common.{ℕ, Some, None, ap, ◌∙◌, arith}
use Rattle.flash_rule.specs.declared.view.View.{View}
use Rattle.laws.specs.{Brooms.a_page, Steps.a_reclaimed}
use Rattle.laws.proofs.tables.pins_and_victims_of_a_seat.Goals as goal

pub returns-clause-stamp : goal.returns-clause-stamp
returns-clause-stamp c v w x is six three h =
    ap (λ (u : View). u.source) ((h (a_reclaimed 2 1 4) is).sector (omega (arith, six))) ∙
    ap (λ (k : ℕ). Some (record { page = a_page 1 2 k; stamp = 5; value = None })) three

pub returns-clause-no_sector : goal.returns-clause-no_sector
returns-clause-no_sector c v w x is six h = (
  ap (λ (u : View). u.source) ((h (a_reclaimed 2 1 4) is).dead (omega (arith, six))),
  ap (λ (u : View). u.cleared) ((h (a_reclaimed 2 1 4) is).dead (omega (arith, six))),
)
