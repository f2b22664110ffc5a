-- `typed` lends the handle at its type, which owns the same two words and the same seat.
use Rattle.handles.proofs.LentReferences.{[], ◌∷◌, refl, proved, named, vptr, id⊢, ftrue, flft, tables, ‵, ◌⊛◌, at_ret, ◌$◌, ◌∵◌, !, qed, done, move, keep}
use Rattle.handles.proofs.LentReferences.{use2, split, split3, join, fjoin, await, pick, suffices, frame, stop, addr, of_opd, enter, first, blocks, exec}
use Rattle.handles.proofs.LentReferences.{returns, alloc_all, pass_all, free_all, look_at, get, through, sets, sets_last, env, no, MutRef, mut_vals, mut_Tells}
use Rattle.handles.proofs.LentReferences.{plain, mut_ref_to, nothing, Stays, walk_of, says, stay_dropped, Goes-spent_ref, ends_at, after, lent, lends_as}
use denote.Memory.{part_of}
use Rattle.handles.specs.contracts.handle.Handle as typed
use Rattle.reader_exports.specs.Handles.{typed_map, map_handle_of}
use Rattle.reader_exports.specs.contracts.seat.Seat as seats
use Rattle.reader_exports.specs.contracts.handle.Handle.{the_row as R}
use Rattle.reader_exports.specs.contracts.handle.Handle.typed as f
use Rattle.reader_exports.proofs.handle.Handle.typed.Statement.{statement}
use Rattle.reader_exports.proofs.handle.Handle.typed.Code as code

pub typed_spec : {M : Type 1} → statement M
unfolding part_of
typed_spec 𝓤 𝓛 𝓜 𝓡 wired =
    let taken : Stays f.ended.signature.params f.ended.kept = (stay_dropped (mut_ref_to (0 ∷ []) tt (plain (λ _. R))) no, tt) in
    let promised = f.clauses 𝓛 𝓜.mem 𝓡.returns in let walk = walk_of 𝓛 f.ended taken promised in let running = tables 𝓤 𝓛.H 𝓜 𝓡 𝓡.env in
    proved 𝓛 f.ended taken promised 𝓜 𝓡 (Goes-spent_ref 𝓛 1 (0 ∷ []) tt (plain (λ _. R)), tt) f.Key.name code.function (code.unfolded 𝓤 𝓛.H 𝓜 𝓡 wired)
    (λ κs. (mut_vals, tt)) (λ κs. (mut_Tells (named 0) κs.0 R, tt)) (λ κs qs bounds args _ are.
    let κ = κs.0 in let q = qs.0 in let handle = args.0 in let b = handle.ref_ptr.0 in let o = handle.ref_ptr.1 in let γ = handle.ghost_name in
    let T = typed.the_row seats.the_row in let given = typed_map handle.now in let begun : walk.Ghost = ((κs, qs, bounds, args, (mut_vals handle, tt)), tt) in
    qed 𝓛 (((‵ (flft κ q) ⊛ ‵ ftrue) ⊛ ‵ ((MutRef (named 0) κ R).own_val handle (mut_vals handle)) ⊛ ‵ ftrue) ∷ ‵ ftrue ∷ []) ∵
    split ! $ split ! $ move ! (2 ∷ []) $ split ! $ keep ! (0 ∷ 2 ∷ []) $ enter ! _ _ _ _ _ $ alloc_all ! (λ locals. pass_all ! refl ((tt, tt), tt) $
    first ! $ blocks ! $ sets ! (addr ! (through ! refl (stop !))) refl (tt, tt) $ sets ! (of_opd ! (get ! refl)) refl (tt, tt) $
    sets_last ! (addr ! (through ! refl (stop !))) refl (tt, tt) $
    exec ! running.C running.Λ (env code.function.locals locals) (after 1 code.function.body) (at_ret _ (walk.post begun)) $
    -- [the handle; the token of its lifetime]
    sets ! (of_opd ! (get ! refl)) refl (tt, tt) $ use2 𝓛 (lent 𝓛 R T map_handle_of (named 0) κ q b o γ (λ w. id⊢ 𝓤 _) given)
    (lends_as 𝓛 R T map_handle_of (named 0) κ q b o γ (λ w. id⊢ 𝓤 _) handle.now given (id⊢ 𝓤 _) (mut_vals handle)) $ await ! tt $ pick ! (λ δ.
    returns ! (look_at ! 0 refl) $ free_all ! refl $ keep ! (0 ∷ []) $ split3 ! $
    suffices ! _ (ends_at 𝓛 f.ended taken promised begun (vptr b o) (record { ref_ptr = (b, o); ghost_name = δ; now = given }) (tt, tt) (tt, tt)) $
    nothing ! $ nothing ! $ fjoin ! $ join ! $ nothing ! $ move ! (2 ∷ 0 ∷ []) $ join ! $ join ! $ frame ! $ says ! refl $ done !)))
