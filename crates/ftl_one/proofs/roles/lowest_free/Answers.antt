use Rattle.std.proofs.Common.{◌≡◌, ◌∙◌, ◌-◌, ℕ, List, length, take, drop, sym, ap, arith, length-drop}
use Rattle.std.{specs.List.position, proofs.lemmas.List.take_all}
use Rattle.ftl_one.{specs.declared.role.Role.Role, specs.Stock.is_free, proofs.Layers.position_from, proofs.Layers.position_from-none}
use Rattle.ftl_one.proofs.roles.lowest_free.Goals as goal

-- the roles from a place on
rest : (roles : List Role) (from : ℕ) → take (length roles - from) (drop from roles) ≡ drop from roles
rest roles from = take_all (length roles - from) (drop from roles) (omega (arith, length-drop from roles))

pub returns-in_err-ahead : goal.returns-in_err-ahead
returns-in_err-ahead c =
    rw c.from_residual.ensures
    (sym (position_from-none c.args.roles.now c.args.from c.requires.within c.requires.none_below
    (ap (position is_free) (sym (rest c.args.roles.now c.args.from)) ∙ (sym c.first_free.ensures ∙ c.in_err-ahead.was))))

pub returns : goal.returns
returns c =
    sym (position_from c.args.roles.now c.args.from c.requires.within c.requires.none_below c.in_ok-ahead.ahead
    (ap (position is_free) (sym (rest c.args.roles.now c.args.from)) ∙ (sym c.first_free.ensures ∙ c.in_ok-ahead.was)))
