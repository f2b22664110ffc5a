use Rattle.std.proofs.{Common.◌≡◌, Common.◌∙◌, Common.false, Common.sym, Common.ap, Common.refl, Common.arith, lemmas.List.get_or_read}
use Rattle.ftl_one.{specs.declared.role.Role.Role, specs.OneFtl.geometry_of, specs.OneFtl.stock_of, specs.Laws.block_at, proofs.Layers.block_at-stock}
use Rattle.ftl_one.specs.declared.role.Role.TheVariants.{Retired}
use Rattle.ftl_one.specs.Stock.{Block, is_retired}
use Rattle.ftl_one.proofs.one_ftl.OneFtl.retired.Goals as goal
use Rattle.ftl_one.proofs.one_ftl.OneFtl.retired.Goals.{After-index}

-- the role that was found is the block's
the_role : (c : After-index) → (block_at (stock_of c.args.self.now) c.args.block).role ≡ c.index.result.now
unfolding geometry_of
the_role c =
    let f = c.args.self.now in
    ap (λ (b : Block). b.role) (block_at-stock f c.args.block c.requires)
    ∙ sym (get_or_read f.roles.items c.args.block c.index.result.now (omega (arith, c.requires, f.roles_sized)) c.index.ensures Retired)

not_retired : (r : Role) → (r ≡ Retired → ⊥) → is_retired r ≡ false
not_retired Retired h = absurd (h refl)
not_retired _ _ = refl

pub returns-in-Retired : goal.returns-in-Retired
returns-in-Retired c = sym (ap is_retired (the_role (goal.at.returns-in-Retired c).After-index ∙ c.in-Retired.is))

pub returns-in_default : goal.returns-in_default
returns-in_default c = sym (ap is_retired (the_role (goal.at.returns-in_default c).After-index) ∙ not_retired c.index.result.now c.in_default.not-Retired)
