use Rattle.std.proofs.Common.{ap, ◌∙◌, ◌≡◌, ℕ}
use Rattle.flash_rule.specs.{declared.view.View.View, Views.is_player}
use Rattle.flash_table.proofs.{Permissions.IsSeatOf, PassSteps.take_here, PassSteps.test_here, flash.Flash.take_free.Goals.After-load-seen}
use Rattle.flash_table.proofs.PassResults.{tested_free, tested_taken, took_by, IsFreeAt}
use Rattle.flash_table.proofs.flash.Flash.take_free.Goals as goal

pub load-seen-requires : goal.load-seen-requires
load-seen-requires c =
    let seat : IsSeatOf c.args.self.now c.args.seat.now = record { table = c.requires.table; player = c.requires.player; numbers = c.requires.numbers } in
    test_here seat c.args.block c.requires.block c.pin_at-word.ensures

pub returns-in_err-generation_if_free-clause-taken : goal.returns-in_err-generation_if_free-clause-taken
returns-in_err-generation_if_free-clause-taken c =
    rw c.from_residual.ensures
    (tested_taken c.requires.numbers c.args.block c.requires.block c.pin_at-word.ensures c.load-seen.ensures.2 c.in_err-generation_if_free.ensures.none)

-- the block's word was that of a free block, so the load changed nothing
unchanged : (c : After-load-seen) (k : ℕ) → IsFreeAt c.load-seen.result k → c.load-seen.new.seat.me.0 ≡ c.args.seat.now.me.0
unchanged c k free = tested_free c.requires.numbers c.args.block c.requires.block c.pin_at-word.ensures c.load-seen.ensures.2 free

pub fetch_or-found-requires : goal.fetch_or-found-requires
fetch_or-found-requires c =
    let same = unchanged (goal.at.fetch_or-found-requires c).After-load-seen _ c.in_ok-generation_if_free.ensures.some in
    let seat : IsSeatOf c.args.self.now c.load-seen.new.seat = record {
      table = c.load-seen.ensures.0 ∙ c.requires.table;
      player = ap (λ (w : View). is_player w.role) same ∙ c.requires.player;
      numbers = ap (λ (w : View). w.numbers) same ∙ c.requires.numbers;
    } in take_here seat c.args.block c.requires.block c.pin_at-word.ensures

pub returns-clause-taken : goal.returns-clause-taken
returns-clause-taken c =
    let same = unchanged (goal.at.returns-clause-taken c).After-load-seen _ c.in_ok-generation_if_free.ensures.some in
    took_by (ap (λ (w : View). w.numbers) same ∙ c.requires.numbers) c.args.block c.requires.block c.pin_at-word.ensures same c.fetch_or-found.ensures.2
    c.generation_if_free-2.result c.generation_if_free-2.ensures.some c.generation_if_free-2.ensures.none
