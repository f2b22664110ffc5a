use Rattle.flash_table.proofs.{Permissions.whose, Permissions.of_broom, BroomSteps.claim_here, Blocks.just_now, Blocks.claimed_just}
use Rattle.std.proofs.Common.{◌≡◌, [], ◌∷◌, ◌++◌, ap, sym, ◌∙◌}
use Rattle.flash_rule.specs.BroomPlays.{Claimed}
use Rattle.flash_table.specs.{Flash.broom_view}
use Rattle.flash_table.proofs.flash.Flash.claim.Goals.{After-compare_exchange-found}
use Rattle.flash_table.proofs.BroomResults.{is_a_broom, stays_broom, claim_can, claimed_view}
use Rattle.flash_table.proofs.flash.Flash.claim.Goals as goal

pub compare_exchange-found-requires : goal.compare_exchange-found-requires
compare_exchange-found-requires c =
    let can = claim_can c.requires.broom c.args.block c.args.state c.requires.block c.requires.state c.requires.loaded c.requires.at_rest in
    claim_here (of_broom c.requires.broom) c.args.block c.pack-expected.result c.args.state c.requires.block
    c.pin_at-word.ensures c.pack-expected.ensures (is_a_broom c.requires.broom) can

claimed : (c : After-compare_exchange-found)
    → Claimed (broom_view c.args.broom.now) c.args.block c.args.state c.compare_exchange-found.result c.compare_exchange-found.new.seat.me.0
claimed c =
    let can = claim_can c.requires.broom c.args.block c.args.state c.requires.block c.requires.state c.requires.loaded c.requires.at_rest in
    claimed_view c.requires.broom c.args.block
    c.pack-expected.result c.args.state can c.pin_at-word.ensures c.pack-expected.ensures c.compare_exchange-found.ensures.2

-- the claim was lost, or the block is the broom's victim
lost : (c : After-compare_exchange-found) → ¬ (c.compare_exchange-found.result ≡ c.pack-expected.result)
    → c.compare_exchange-found.new.seat.me.0 ≡ record (broom_view c.args.broom.now) { lost = (broom_view c.args.broom.now).lost ++ c.args.block ∷ [] }
lost c other = (claimed c).lost (λ is. other (is ∙ sym c.pack-expected.ensures))

pub invariant_of-broom-clause-owns : goal.invariant_of-broom-clause-owns
invariant_of-broom-clause-owns c =
    just_now (lost (goal.at.invariant_of-broom-clause-owns c).After-compare_exchange-found c.if-found-expected.true) c.args.broom.now.owns

pub returns-then-found-expected-clause-claimed : goal.returns-then-found-expected-clause-claimed
returns-then-found-expected-clause-claimed c =
    lost (goal.at.returns-then-found-expected-clause-claimed c).After-compare_exchange-found c.if-found-expected.true

pub returns-then-found-expected-clause-broom : goal.returns-then-found-expected-clause-broom
returns-then-found-expected-clause-broom c =
    let at = (goal.at.returns-then-found-expected-clause-broom c).After-compare_exchange-found in
    stays_broom c.requires.broom c.compare_exchange-found.ensures.0 (ap whose (lost at c.if-found-expected.true))

pub invariant_of-broom-2-clause-owns : goal.invariant_of-broom-2-clause-owns
invariant_of-broom-2-clause-owns c =
    let told = claimed (goal.at.invariant_of-broom-2-clause-owns c).After-compare_exchange-found in
    let is = c.if-found-expected.false ∙ c.pack-expected.ensures in
    just_now (told.won is) (claimed_just _ c.args.broom.now.owns _ c.requires.at_rest (told.fresh is))

pub returns-clause-claimed : goal.returns-clause-claimed
returns-clause-claimed c =
    let told = claimed (goal.at.returns-clause-claimed c).After-compare_exchange-found in told.won (c.if-found-expected.false ∙ c.pack-expected.ensures)

pub returns-clause-broom : goal.returns-clause-broom
returns-clause-broom c =
    let changed = (claimed (goal.at.returns-clause-broom c).After-compare_exchange-found).won (c.if-found-expected.false ∙ c.pack-expected.ensures) in
    stays_broom c.requires.broom c.compare_exchange-found.ensures.0 (ap whose changed)
