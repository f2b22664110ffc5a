use Rattle.std.proofs.Common.{◌≡◌, ◌∙◌, ℕ, ◌+◌, eqb, cond, Bool, true, false, List, set, sym, ap, refl, length-set}
use mir.Val.{bool_byte}
use Rattle.geometry.specs.Geometry.{endurance_of, page_bytes_of, pages_of}
use Rattle.die.specs.{declared.die.BlockState.BlockState, Die.block_of, Pages.Block, Storage.block_in}
use Rattle.die.proofs.Dies.{state_of, state_read, erases-block, wiped, sound-set, sound-wiped, changes_by_wiping}
use Rattle.die.proofs.die.Die.erase.Goals as goal
use Rattle.die.proofs.die.Die.erase.Goals.{After-index_mut-state}

the_state : (c : After-index_mut-state) → c.index_mut-state.result.now ≡ state_of c.args.self.now c.args.block
the_state c = state_read c.args.self.now c.args.block c.index_mut-state.result.now c.requires.within c.index_mut-state.ensures.value

-- a test as a byte
byte_of : (t : Bool) → bool_byte t ≡ cond t 1 0
byte_of true = refl
byte_of false = refl

pub invariant_of-self : goal.invariant_of-self
invariant_of-self c =
    let d = c.args.self.now in
    let s = c.index_mut-state.result.now in
    let e = the_state (goal.at.invariant_of-self c).After-index_mut-state in
    rw c.endurance-endurance.ensures.value (record {
      bytes_sized = d.bytes_sized;
      stamps_sized = d.stamps_sized;
      states_sized = length-set d.states.items c.args.block (wiped (endurance_of d.geometry) s) ∙ d.states_sized;
      sound = sound-set d c.args.block (wiped (endurance_of d.geometry) s) c.requires.within (sound-wiped d c.args.block s c.requires e);
    })

pub returns-clause-status : goal.returns-clause-status
returns-clause-status c =
    let d = c.args.self.now in
    let e = the_state (goal.at.returns-clause-status c).After-index_mut-state in
    let n : c.index_mut-state.result.now.erases ≡ (block_of d c.args.block).erases = ap (λ (t : BlockState). t.erases) e ∙ sym (erases-block d c.args.block) in
    c.from.ensures ∙ (ap (λ (k : ℕ). bool_byte (eqb (k + 1) c.endurance-endurance.result)) n
    ∙ (ap (λ (k : ℕ). bool_byte (eqb ((block_of d c.args.block).erases + 1) k)) c.endurance-endurance.ensures.value
    ∙ byte_of (eqb ((block_of d c.args.block).erases + 1) (endurance_of d.geometry))))

pub returns-clause-changes : goal.returns-clause-changes
unfolding block_of
returns-clause-changes c =
    let d = c.args.self.now in
    let s = c.index_mut-state.result.now in
    let e = the_state (goal.at.returns-clause-changes c).After-index_mut-state in
    let w = changes_by_wiping d c.args.block s c.requires e in
    let states : ℕ → List BlockState = λ E. set d.states.items c.args.block (wiped E s) in
    let by : ℕ → ℕ → Block = λ E k. block_in (page_bytes_of d.geometry) (pages_of d.geometry) d.bytes.items d.stamps.items (states E) k in
    record {
      changed = ap (λ (E : ℕ). by E c.args.block) c.endurance-endurance.ensures.value ∙ w.0;
      others = λ k apart low. ap (λ (E : ℕ). by E k) c.endurance-endurance.ensures.value ∙ w.1 k apart;
      geometry = refl;
    }
