-- `filled` keeps the pointer that `into_raw` gives, and it owns what the box owned.
use Rattle.std.proofs.Common.{◌∙◌, ◌++◌, List, [], ◌∷◌, refl, ap}
use Rattle.std.specs.Prelude.{Some}
use Rattle.std.proofs.raw_atomic.Walks.{proved_at}
use mir.MapTy.{inst_fn}
use mir.Syntax.{a_type, dcons, dnil}
use mir.Val.{Val}
use mir.Raw.{raw as bare}
use base.Logic.{id⊢, emp, fst∗, never}
use base.Fml.{ftrue, feq, fsep, flft}
use base.Fraction.{full_share}
use prog.Wp.{WpFn}
use types.Logic.{sem}
use types.Kit.{Sq, ‵, raw, ◌⊛◌, some, later, prop, ◌$◌, ◌∵◌, !, qed, done, move, keep, drop, use0}
use types.Kit.{use1, split, join, fsplit, fjoin, feq_l, pick, await, suffices}
use types.Run.{enter, of_opd, no_more, and_then, returns}
use types.ByLocal.{alloc_all, pass_all, free_all, look_at, get, sets, lands_as}
use types.Part.{agg}
use contract.BorrowLft.{◌⊑◌, ⊑_static}
use contract.Monad.{fact, fact_i}
use contract.Running.{tables}
use denote.Exit.{no}
use denote.Laws.{Is, shows}
use denote.Param.{param, layout, bounded}
use denote.Param.Laws.{param_laws}
use denote.Param.NoDrop.{glues}
use denote.Param.Steps.{one_value}
use denote.RattleType.{owns}
use denote.RawPtr.{Ptr, block_ptr, null_ptr, ptr_val, in_a_block}
use denote.Signature.{types_at, plain}
use denote.Steps.{nothing, heard, peeks, only}
use denote.Triple.Call.{calls_at}
use denote.Triple.Spec.{triple_of}
use denote.Triple.Table.{framed}
use denote.Triple.Walked.{Stays, walk_of, says, stay_dropped, Goes-dropped, ends_at}
use Rattle.std_alloc.specs.Box.Ownership.{box_owns}
use Rattle.std_alloc.specs.contracts.boxed.Box.into_raw as raw_call
use Rattle.std_alloc.proofs.boxed.Box.into_raw.Met.{met}
use Rattle.std_heap.proofs.GlobalAllocator.TheImpl.Met.{passed}
use Rattle.std_heap.specs.contracts.GlobalAllocator.TheImpl.{ghosts, dict}
use Rattle.handles.specs.Kept.{heap}
use Rattle.handles.proofs.HandleRows.{Boxed, Boxed-laws, Heap, Heap-arg, Heap-arg-laws, word, word_typed, makes, heap_drop}
use Rattle.handles.proofs.Destruct++none.drop.Code as nothing_dropped
use Rattle.handles.specs.contracts.handle.Slot.filled as f
use Rattle.handles.proofs.handle.Slot.filled.Statement.{statement}
use Rattle.handles.proofs.handle.Slot.filled.Code as code

pub filled_spec : {M : Type 1} → statement M
unfolding nothing_dropped.code
filled_spec {M = M} 𝓤 𝓛 𝓜 𝓡 wired T L drops glue =
    -- the types, and what is promised
    let form = f.ended T drops in let promised = f.clauses T drops 𝓛 𝓜.mem 𝓡.returns in
    let taken : Stays form.signature.params form.kept = (stay_dropped _ no, tt) in let walk = walk_of 𝓛 form taken promised in
    let types = bounded (a_type ∷ []) (T, tt) (dcons drops dnil) in let body = inst_fn types code.function in
    let running = tables 𝓤 𝓛.H 𝓜 𝓡 𝓡.env in let Value = param 0 T in let Whole = Boxed Value in
    let lawful = (Boxed-laws Value (param_laws 0 T L)).lawful 𝓛 in
    -- the call of `into_raw`, which the heap's four functions and its drop meet
    let heap_calls = passed 𝓡.env (code.calls-std_heap::GlobalAllocator::allocate 𝓡.env wired)
    (code.calls-std_heap::GlobalAllocator::deallocate 𝓡.env wired) (code.calls-std_heap::GlobalAllocator::grow 𝓡.env wired)
    (code.calls-std_heap::GlobalAllocator::shrink 𝓡.env wired) M 𝓤 𝓛 𝓜 𝓡 in
    let heap_goes = glues "handles::Destruct++none::drop" 𝓡.env (code.calls-handles::Destruct++none::drop 𝓡.env wired) Heap-arg Heap-arg-laws M 𝓤 𝓛 𝓜 𝓡 in
    let Raw = triple_of 𝓛 (raw_call.signature T Heap-arg ghosts dict heap_drop drops)
    (raw_call.spec T Heap-arg ghosts dict heap_drop drops 𝓛 𝓜.mem 𝓡.returns) in
    let raw_is_met = met 𝓤 𝓛 𝓜 𝓡 (code.calls-std_alloc::boxed::Box::into_raw 𝓡.env wired) T Heap-arg L Heap-arg-laws ghosts dict heap_drop drops
    heap_calls heap_goes glue in
    let right = ghosts.dealloc_token heap in
    proved_at 𝓛 form taken promised 𝓜 𝓡 (Goes-dropped 𝓛 1 (plain (λ _. Whole)) no (λ κs x w. refl), tt)
    (f.Key.name types) body (code.unfolded 𝓤 𝓛.H 𝓜 𝓡 wired (T, tt) drops) (λ begun _.
    let life = begun.0.0.0 in let share = begun.0.1.0 in let box = begun.0.3.0 in
    qed 𝓛 (((‵ (flft life share) ⊛ ‵ ftrue) ⊛ ‵
    (owns (types_at form.signature.params begun.0.0) begun.0.3 begun.0.4)) ∷ (raw (fact 𝓤 (life ⊑ T.lives)) ⊛ ‵ ftrue) ∷ []) ∵
    -- the value outlives the call, and its box is one word
    move ! (1 ∷ []) $ split ! $ heard ! _ (λ outlives. drop ! $ split ! $ move ! (1 ∷ []) $ fsplit ! $ keep ! (0 ∷ 2 ∷ []) $
    peeks ! Whole (Is Whole) (shows 𝓛 Whole) box begun.0.4.0 (λ seen.
    one_value (layout Whole) (λ vs.
    Sq 𝓛 (‵ (Whole.own_val box vs) ∷ (‵ (flft life share) ⊛ ‵ ftrue) ∷ [])
    (prop (WpFn 𝓤 𝓛.H running.C running.Λ body (vs ++ []) (walk.post begun)))) begun.0.4.0 (lawful.typed box begun.0.4.0 seen)
    (λ whole well_typed.
    -- what the call asks: the box, the tokens of the two lifetimes, and that both last
    let asked : Raw.Ghost = (((life, ([], tt)), (share, (full_share, tt)), tt, (box, tt), (whole ∷ [], tt)), tt) in
    nothing ! $ move ! (1 ∷ 0 ∷ []) $ fjoin ! $ move ! (1 ∷ []) $ split ! $ move ! (1 ∷ []) $
    use0 𝓛 (‵ (flft [] full_share)) (𝓛.lfts.lft-nil full_share) $ join ! $ move ! (1 ∷ 0 ∷ []) $ join ! $ join ! $
    nothing ! $ use0 𝓛 (raw (fact 𝓤 ([] ⊑ Heap.lives))) (fact_i 𝓤 ([] ⊑ Heap.lives) (emp 𝓤) (⊑_static [])) $ join ! $
    use0 𝓛 (raw (fact 𝓤 (life ⊑ T.lives))) (fact_i 𝓤 (life ⊑ T.lives) (emp 𝓤) outlives) $ join ! $
    move ! (1 ∷ 0 ∷ []) $ join ! $ use1 𝓛 (raw (Raw.pre asked)) (id⊢ 𝓤 _) $
    -- the body up to the call's answer
    enter ! _ _ _ _ _ $ alloc_all ! (λ locals. pass_all ! refl (well_typed, tt) $ sets ! (of_opd ! (get ! refl)) refl well_typed $
    calls_at ! (framed 𝓤 𝓛.H 𝓜 running) Raw raw_is_met asked (and_then ! (get ! refl) (no_more !)) (λ answer.
    use1 𝓛 (later (some (λ (place : Ptr). ((‵ (flft life share) ⊛ ‵ (flft [] full_share) ⊛ ‵ ftrue) ⊛ ‵ (feq (List Val) (answer ∷ []) (ptr_val place ∷ []))) ⊛
    some (λ (lasts : (Unit {0} × (Unit {0} × Unit {0})) × Unit {0}).
    ‵ (fsep (fsep ftrue (fsep ftrue ftrue)) ftrue) ⊛ ‵ (box_owns right Value place box.value))))) (id⊢ 𝓤 _) $
    await ! tt $ pick ! (λ place. split ! $ split ! $ split ! $ move ! (2 ∷ []) $ feq_l ! (λ is_place. move ! (2 ∷ []) $ pick ! (λ lasts. split ! $ drop ! $
    in_a_block ! place (λ p. box_owns right Value p box.value) (fst∗ 𝓤 (never 𝓤) (sem 𝓛 (right (bare (layout T)) null_ptr))) (λ block offset here.
    -- [what the box owned; the value's token; the other tokens]: the slot is made of the pointer
    let at = block_ptr block offset in
    lands_as ! (ap only is_place ∙ ap ptr_val here) refl (tt, tt) $ sets ! (agg ! (and_then ! (get ! refl) (no_more !))) refl (word_typed (param 0 T) at) $
    returns ! (look_at ! 0 refl) $ free_all ! refl $ keep ! (0 ∷ 1 ∷ []) $ makes Value ! at (Some box.value) $
    suffices ! _ (ends_at 𝓛 form taken promised begun (word at) (record { at = at; value = Some box.value }) (tt, tt) (tt, tt)) $ says ! refl $
    nothing ! $ nothing ! $ join ! $ nothing ! $ move ! (3 ∷ 0 ∷ []) $ join ! $ done !))))))))))
