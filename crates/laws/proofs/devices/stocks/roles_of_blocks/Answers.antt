use Rattle.std.proofs.Common.{◌≡◌, ◌<◌, ℕ, Some, None, refl, arith}
use Rattle.std.specs.Prelude.{Option}
use Rattle.ftl_one.specs.declared.role.Role.TheVariants as role
use Rattle.laws.proofs.devices.stocks.roles_of_blocks.Goals as goal

abbrev none_open : Option ℕ
none_open = None

pub returns-clause-not_remembered : goal.returns-clause-not_remembered
returns-clause-not_remembered c h = let e : none_open ≡ Some 0 = h.open_is 0 refl in absurd (cc)

pub returns-clause-not_open : goal.returns-clause-not_open
returns-clause-not_open c h = let e : role.Free ≡ role.Open = h.open_at 0 refl in absurd (cc)

pub returns-clause-full : goal.returns-clause-full
returns-clause-full c h = let e : 2 < 2 = h.room 0 refl in omega (arith, e)

pub returns-clause-not_full : goal.returns-clause-not_full
returns-clause-not_full c h = let e : 1 ≡ 2 = h.full 0 refl in absurd (omega (arith, e))

pub returns-clause-two_spares : goal.returns-clause-two_spares
returns-clause-two_spares c h = let e : 0 ≡ 1 = h.one_spare 0 1 refl refl in absurd (omega (arith, e))

pub returns-clause-unknown : goal.returns-clause-unknown
returns-clause-unknown c =
    (λ h. let e : none_open ≡ Some 0 = h.spare_is 0 refl in absurd (cc), λ h. let e : role.Free ≡ role.Spare = h.spare_at 0 refl in absurd (cc))
