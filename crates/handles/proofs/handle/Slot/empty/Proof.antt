-- `empty` makes a slot of null, which keeps nothing.
use Rattle.std.proofs.Common.{[], ◌∷◌, refl}
use Rattle.std.specs.Prelude.{Option, None}
use Rattle.std.proofs.raw_atomic.Walks.{proved_at}
use mir.MapTy.{inst_fn}
use mir.Syntax.{a_type}
use base.Fml.{ftrue, flft}
use types.Kit.{‵, raw, ◌⊛◌, ◌$◌, ◌∵◌, !, qed, done, move, keep, split, suffices}
use types.Run.{enter, lit, no_more, and_then, returns}
use types.ByLocal.{alloc_all, pass_all, free_all, look_at, sets}
use types.Part.{agg}
use contract.BorrowLft.{◌⊑◌}
use contract.Monad.{fact}
use denote.Param.{param, layouts}
use denote.RawPtr.{null_ptr}
use denote.Steps.{nothing}
use denote.Triple.Walked.{walk_of, says, ends_at}
use Rattle.handles.proofs.HandleRows.{word, word_typed, makes}
use Rattle.handles.specs.contracts.handle.Slot.empty as f
use Rattle.handles.proofs.handle.Slot.empty.Statement.{statement}
use Rattle.handles.proofs.handle.Slot.empty.Code as code

pub empty_spec : {M : Type 1} → statement M
empty_spec 𝓤 𝓛 𝓜 𝓡 wired T L =
    let form = f.ended T in let promised = f.clauses T 𝓛 𝓜.mem 𝓡.returns in let walk = walk_of 𝓛 form tt promised in
    let types = layouts (a_type ∷ []) (T, tt) in let body = inst_fn types code.function in
    let nothing_in : Option T.Denot = None in
    proved_at 𝓛 form tt promised 𝓜 𝓡 tt (f.Key.name types) body (code.unfolded 𝓤 𝓛.H 𝓜 𝓡 wired (T, tt)) (λ begun _.
    let life = begun.0.0.0 in let share = begun.0.1.0 in
    qed 𝓛 (((‵ (flft life share) ⊛ ‵ ftrue) ⊛ ‵ ftrue) ∷ (raw (fact 𝓤 (life ⊑ T.lives)) ⊛ ‵ ftrue) ∷ []) ∵
    split ! $ enter ! _ _ _ _ _ $ alloc_all ! (λ locals. pass_all ! refl tt $
    sets ! (agg ! (and_then ! (lit ! tt) (no_more !))) refl (word_typed (param 0 T) null_ptr) $
    returns ! (look_at ! 0 refl) $ free_all ! refl $ keep ! (0 ∷ []) $ nothing ! $ makes (param 0 T) ! null_ptr nothing_in $
    suffices ! _ (ends_at 𝓛 form tt promised begun (word null_ptr) (record { at = null_ptr; value = nothing_in }) tt tt) $ says ! refl $
    nothing ! $ move ! (2 ∷ 0 ∷ []) $ done !))
