use Rattle.flash_table.proofs.{Permissions.whose, Permissions.of_broom, Blocks.just_now, BroomSteps.state_here, flash.Flash.load_state.Goals.After-load-found}
use Rattle.std.proofs.Common.{◌≡◌, ap, sym, ◌∙◌, arith}
use Rattle.geometry.specs.{Limits.Numbers, declared.words.PinWord.PinWord}
use Rattle.geometry.proofs.WordBits.{pin_same}
use Rattle.flash_rule.specs.BroomPlays.{Loaded}
use Rattle.flash_table.specs.Flash.{device, broom_view}
use Rattle.flash_table.proofs.BroomResults.{is_a_broom, stays_broom, loaded_view, loaded_changed}
use Rattle.flash_table.proofs.flash.Flash.load_state.Goals as goal

pub load-found-requires : goal.load-found-requires
load-found-requires c = state_here (of_broom c.requires.broom) c.args.block c.requires.block c.pin_at-word.ensures (is_a_broom c.requires.broom)

loaded : (c : After-load-found) → Loaded (broom_view c.args.broom.now) c.args.block c.load-found.result c.load-found.new.seat.me.0
loaded c = loaded_view c.requires.broom c.args.block c.requires.block c.pin_at-word.ensures c.load-found.ensures.2

pub invariant_of-broom-clause-owns : goal.invariant_of-broom-clause-owns
invariant_of-broom-clause-owns c =
    let s = c.args.broom.now in
    let changed = loaded_changed _ _ _ _ (loaded (goal.at.invariant_of-broom-clause-owns c).After-load-found) in
    just_now changed s.owns

pub unreachable-requires : goal.unreachable-requires
unreachable-requires c =
    let told = loaded (goal.at.unreachable-requires c).After-load-found in c.in_default.ensures.none told.state told.fits (sym told.found)

pub returns-clause-ranges : goal.returns-clause-ranges
returns-clause-ranges c =
    let f = c.args.self.now in
    let s = c.args.broom.now in
    let told = loaded (goal.at.returns-clause-ranges c).After-load-found in
    let read = c.in-Some.ensures.some in
    let same : told.state ≡ c.in-Some.state = pin_same told.state c.in-Some.state told.fits read.0 (sym told.found ∙ sym read.1) in
    let young = told.young in
    let within = told.within in
    let e : told.state.generation ≡ c.in-Some.state.generation = ap (λ (p : PinWord). p.generation) same in
    let w : told.state.written ≡ c.in-Some.state.written = ap (λ (p : PinWord). p.written) same in
    let endurance : (broom_view s).numbers.endurance ≡ (device f).endurance = ap (λ (y : Numbers). y.endurance) c.requires.broom.numbers in
    let pages : (broom_view s).numbers.pages ≡ (device f).pages = ap (λ (y : Numbers). y.pages) c.requires.broom.numbers in (omega arith, omega arith)

pub returns-clause-broom : goal.returns-clause-broom
returns-clause-broom c =
    stays_broom c.requires.broom c.load-found.ensures.0 (ap whose (loaded_changed _ _ _ _ (loaded (goal.at.returns-clause-broom c).After-load-found)))
