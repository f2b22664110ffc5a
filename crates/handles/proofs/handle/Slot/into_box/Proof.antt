-- `into_box` hands the pointer, and what the slot keeps, to `from_raw`.
use Rattle.std.proofs.Common.{◌≡◌, ◌∙◌, List, [], ◌∷◌, refl, sym, ap}
use Rattle.std.specs.Prelude.{Option, Some, is_some, true}
use Rattle.std.proofs.raw_atomic.Walks.{proved}
use mir.MapTy.{inst_fn}
use mir.Syntax.{a_type}
use mir.Val.{Val, vptr}
use mir.Raw.{raw as bare}
use base.Logic.{id⊢, emp, fst∗, never}
use base.Fml.{ftrue, fsep, flft}
use base.Fraction.{full_share}
use prog.Wp.{WpFn}
use types.Logic.{sem}
use types.Kit.{‵, raw, ◌⊛◌, some, later, prop, at_ret, ◌$◌, ◌∵◌, !, qed, done, move, keep, drop, use0, use1}
use types.Kit.{split, join, fsplit, fjoin, feq_i, pick, await, rewrite, regoal, suffices}
use types.Run.{enter, of_opd, stop, fld, no_more, and_then, first, blocks, exec, returns}
use types.ByLocal.{alloc_all, pass_all, free_all, look_at, get, get_in, sets, lands_last, env}
use types.Part.{sub, whole}
use contract.BorrowLft.{◌⊑◌, ⊑_static}
use contract.Monad.{fact, fact_i}
use contract.Running.{tables}
use denote.Exit.{no, yes}
use denote.Laws.{Is, shows}
use denote.Param.{param, layout, layouts}
use denote.Param.Laws.{param_laws}
use denote.Param.NoDrop.{glues}
use denote.RattleType.{owns}
use denote.RawPtr.{Ptr, block_ptr, null_ptr, in_a_block}
use denote.Signature.{types_at, plain}
use denote.Steps.{nothing, heard, peeks}
use denote.Triple.Call.{calls_at_last}
use denote.Triple.Spec.{triple_of}
use denote.Triple.Table.{framed}
use denote.Triple.Walked.{Stays, walk_of, says, stay_dropped, Goes-dropped, ends_at}
use Rattle.core.proofs.alloc.Shapes.{after}
use Rattle.std_alloc.specs.contracts.boxed.Box.from_raw as raw_call
use Rattle.std_alloc.proofs.boxed.Box.from_raw.Met.{met}
use Rattle.std_heap.proofs.Handle.{heap_val, heap_Tells}
use Rattle.std_heap.proofs.GlobalAllocator.TheImpl.Met.{passed}
use Rattle.std_heap.specs.contracts.GlobalAllocator.TheImpl.{ghosts, dict}
use Rattle.handles.specs.Kept.{heap, kept}
use Rattle.handles.proofs.HandleRows.{Boxed, Boxed-laws, Slot, Heap, Heap-arg, Heap-arg-laws, word, word_typed, the_value, heap_drop}
use Rattle.handles.proofs.handle.Slot.TheLaws as laws
use Rattle.handles.proofs.Destruct++none.drop.Code as nothing_dropped
use Rattle.handles.specs.contracts.handle.Slot.into_box as f
use Rattle.handles.proofs.handle.Slot.into_box.Statement.{statement}
use Rattle.handles.proofs.handle.Slot.into_box.Code as code

pub into_box_spec : {M : Type 1} → statement M
unfolding nothing_dropped.code
into_box_spec {M = M} 𝓤 𝓛 𝓜 𝓡 wired T L =
    -- the types, and what is promised
    let form = f.ended T in let promised = f.clauses T 𝓛 𝓜.mem 𝓡.returns in
    let taken : Stays form.signature.params form.kept = (stay_dropped _ no, (stay_dropped _ yes, tt)) in let walk = walk_of 𝓛 form taken promised in
    let types = layouts (a_type ∷ []) (T, tt) in let body = inst_fn types code.function in
    let running = tables 𝓤 𝓛.H 𝓜 𝓡 𝓡.env in let Value = param 0 T in let Whole = Boxed Value in
    let lawful = (Boxed-laws Value (param_laws 0 T L)).lawful 𝓛 in let lowers = laws.lowers (param 0 T) (param_laws 0 T L) in
    -- the call of `from_raw`, which the heap's four functions and its drop meet
    let heap_calls = passed 𝓡.env (code.calls-std_heap::GlobalAllocator::allocate 𝓡.env wired)
    (code.calls-std_heap::GlobalAllocator::deallocate 𝓡.env wired) (code.calls-std_heap::GlobalAllocator::grow 𝓡.env wired)
    (code.calls-std_heap::GlobalAllocator::shrink 𝓡.env wired) M 𝓤 𝓛 𝓜 𝓡 in
    let heap_goes = glues "handles::Destruct++none::drop" 𝓡.env (code.calls-handles::Destruct++none::drop 𝓡.env wired) Heap-arg Heap-arg-laws M 𝓤 𝓛 𝓜 𝓡 in
    let Raw = triple_of 𝓛 (raw_call.signature T Heap-arg ghosts dict heap_drop) (raw_call.spec T Heap-arg ghosts dict heap_drop 𝓛 𝓜.mem 𝓡.returns) in
    let raw_is_met = met 𝓤 𝓛 𝓜 𝓡 (code.calls-std_alloc::boxed::Box::from_raw 𝓡.env wired) T Heap-arg L Heap-arg-laws ghosts dict
    heap_drop heap_calls heap_goes in
    proved 𝓛 form taken promised 𝓜 𝓡
    (Goes-dropped 𝓛 1 (plain (λ _. Slot Value)) no (λ κs x w. refl), (Goes-dropped 𝓛 1 (plain (λ _. Heap)) yes (λ κs x w. refl), tt))
    (f.Key.name types) body (code.unfolded 𝓤 𝓛.H 𝓜 𝓡 wired (T, tt))
    (λ κs. ((λ slot. lowers.lowered slot ∷ []), ((λ _. heap_val ∷ []), tt))) (λ κs. (lowers.val_is, (heap_Tells, tt))) (λ κs qs bounds args _ are.
    let life = κs.0 in let share = qs.0 in let slot = args.0 in let alloc = args.1.0 in
    let words : List Val × (List Val × Unit {0}) = (lowers.lowered slot ∷ [], (heap_val ∷ [], tt)) in
    let begun : walk.Ghost = ((κs, qs, bounds, args, words), tt) in
    qed 𝓛 (((‵ (flft life share) ⊛ ‵ ftrue) ⊛ ‵ (owns (types_at form.signature.params κs) args words))
    ∷ (raw (fact 𝓤 (life ⊑ T.lives)) ⊛ raw (fact 𝓤 (is_some slot.value ≡ true))) ∷ []) ∵
    move ! (1 ∷ []) $ split ! $ heard ! _ (λ outlives. heard ! _ (λ tested.
    let x : T.Denot = (the_value slot.value tested).0 in let is_there : slot.value ≡ Some x = (the_value slot.value tested).1 in
    split ! $ move ! (1 ∷ []) $ fsplit ! $ fsplit ! $ drop ! $
    -- [what is kept; the heap with the end of the list; the tokens]
    rewrite ! 0 (λ (value : Option T.Denot). ‵ (kept Value slot.at value)) is_there refl $
    in_a_block ! slot.at (λ p. kept Value p (Some x)) (fst∗ 𝓤 (never 𝓤) (sem 𝓛 (ghosts.dealloc_token heap (bare (layout T)) null_ptr))) (λ block offset here.
    regoal ! (λ (p : Ptr). prop (WpFn 𝓤 𝓛.H running.C running.Λ body (word p ∷ heap_val ∷ []) (walk.post begun))) here refl $
    enter ! _ _ _ _ _ $ alloc_all ! (λ locals. pass_all ! refl (word_typed (param 0 T) (block_ptr block offset), ((tt, ((tt, tt), tt)), tt)) $
    sets ! (of_opd ! (get_in ! (fld ! refl (stop !)) (sub ! 0 refl (whole !)))) refl (tt, tt) $
    -- what the call requires, its arguments, and the tokens of the two lifetimes
    let given : List Val × (List Val × Unit {0}) = (heap_val ∷ [], (vptr block offset ∷ [], tt)) in
    let asked : Raw.Ghost = (((life, ([], tt)), (share, (full_share, tt)), tt, (alloc, (block_ptr block offset, tt)), given), x) in
    use0 𝓛 (raw (fact 𝓤 ([] ⊑ Heap.lives))) (fact_i 𝓤 ([] ⊑ Heap.lives) (emp 𝓤) (⊑_static [])) $ join ! $
    use0 𝓛 (raw (fact 𝓤 (life ⊑ T.lives))) (fact_i 𝓤 (life ⊑ T.lives) (emp 𝓤) outlives) $ join ! $
    move ! (1 ∷ []) $ fsplit ! $ move ! (1 ∷ []) $ feq_i ! (List Val) (vptr block offset ∷ []) (vptr block offset ∷ []) refl $ fjoin ! $
    move ! (1 ∷ 0 ∷ []) $ fjoin ! $
    move ! (2 ∷ []) $ split ! $ move ! (1 ∷ []) $ use0 𝓛 (‵ (flft [] full_share)) (𝓛.lfts.lft-nil full_share) $ join ! $ move ! (1 ∷ 0 ∷ []) $
    join ! $ join ! $ join ! $ use1 𝓛 (raw (Raw.pre asked)) (id⊢ 𝓤 _) $
    first ! $ blocks ! $
    calls_at_last ! (framed 𝓤 𝓛.H 𝓜 running) Raw raw_is_met asked (and_then ! (get ! refl) (and_then ! (get ! refl) (no_more !))) (λ answer.
    use1 𝓛 (later (some (λ (box : Whole.Denot).
    ((‵ (flft life share) ⊛ ‵ (flft [] full_share) ⊛ ‵ ftrue) ⊛ ‵ (Whole.own_val box (answer ∷ []))) ⊛
    some (λ (lasts : Unit {0} × (Unit {0} × Unit {0})).
    ‵ (fsep ftrue (fsep ftrue ftrue)) ⊛ (raw (fact 𝓤 (box.value ≡ x)) ⊛ raw (fact 𝓤 (box.alloc ≡ alloc))))))) (id⊢ 𝓤 _) $
    await ! tt $ pick ! (λ box. split ! $ split ! $ split ! $ move ! (1 ∷ []) $ drop ! $ move ! (2 ∷ []) $
    pick ! (λ lasts. split ! $ drop ! $ split ! $ heard ! _ (λ same. drop ! $ move ! (1 ∷ []) $
    -- [the box; the value's token]
    peeks ! Whole (Is Whole) (shows 𝓛 Whole) box (answer ∷ []) (λ seen. let well_typed = (lawful.typed box (answer ∷ []) seen).0 in
    lands_last ! refl well_typed $ exec ! running.C running.Λ (env body.locals locals) (after 2 body.body) (at_ret _ (walk.post begun)) $
    sets ! (of_opd ! (get ! refl)) refl well_typed $ returns ! (look_at ! 0 refl) $ free_all ! refl $ keep ! (0 ∷ 1 ∷ []) $
    suffices ! _ (ends_at 𝓛 form taken promised begun answer box (tt, (tt, tt)) (tt, (tt, tt))) $ says ! (is_there ∙ ap Some (sym same)) $
    nothing ! $ nothing ! $ join ! $ nothing ! $ join ! $ nothing ! $ move ! (3 ∷ 0 ∷ []) $ join ! $ done !))))))))))
