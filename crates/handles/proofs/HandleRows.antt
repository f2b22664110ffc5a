-- A value, its box and its slot as the walks cite them: rows, laws, a slot's word, and what `Box` asks of the heap. Assumes `Logic`.
use Rattle.std.proofs.Common.{◌≡◌, List, [], ◌∷◌, refl, lit<}
use Rattle.std.specs.Prelude.{Option, Some, None, is_some, true}
use Rattle.std.proofs.lemmas.Bool.{false≢true}
use lib.Dec.{T}
use mir.Syntax.{Dict, impl, tcons, tnil, dnil}
use mir.Val.{Val, vstruct, vcons, vnil, has_ty, WT}
use types.Logic.{Logic}
use types.Kit.{Goal, Item, Step, step, ‵, ◌$◌, fjoin}
use seplogic.Ra.Ura.{Ura}
use denote.Laws.{Is}
use denote.Exit.{no}
use denote.Param.{layout, arg}
use denote.Param.Laws.{Laws, arg_laws}
use mir.Raw.{raw}
use denote.RattleType.{RattleType}
use denote.RawPtr.{Ptr, block_ptr, null_ptr, ptr_val, rawptr_pure}
use denote.Steps.{owned}
use denote.Struct.Owning.{shape}
use denote.Struct.Struct.{Struct, Struct-Makes}
use Rattle.std_alloc.specs.contracts.boxed.Box as boxes
use Rattle.std_alloc.proofs.boxed.Box.TheLaws as box_laws
use Rattle.std_heap.specs.contracts.Global as heaps
use Rattle.std_heap.proofs.Global.TheLaws as heap_laws
use Rattle.std_heap.specs.contracts.GlobalAllocator.TheImpl.{ghosts}
use Rattle.handles.specs.Kept.{kept}
use Rattle.handles.specs.contracts.handle.Slot as slots

-- the heap's row and its laws, by itself and as a type argument of a call
abbrev pub Heap : RattleType
Heap = heaps.the_row

abbrev pub Heap-laws : Laws Heap
Heap-laws = heap_laws.the_row_laws

abbrev pub Heap-arg : RattleType
Heap-arg = arg (raw (layout Heap)) no Heap

abbrev pub Heap-arg-laws : Laws Heap-arg
Heap-arg-laws = arg_laws (raw (layout Heap)) no Heap Heap-laws refl

-- the heap's handle is let go by doing nothing
abbrev pub heap_drop : Dict
heap_drop = impl ("handles::Destruct++none::drop" ∷ []) (tcons (raw (layout Heap)) tnil) dnil

-- a slot is one word
abbrev pub word : Ptr → Val
word p = vstruct (vcons (ptr_val p) vnil)

pub word_typed : (R : RattleType) (p : Ptr) → T (has_ty (layout (slots.the_row R)) (word p)) × WT (word p)
word_typed R (block_ptr b o) = (tt, (tt, tt))
word_typed R null_ptr = (tt, (record { fits = lit< tt }, tt))

-- the box and the slot of a row
module _ (R : RattleType) where
  abbrev pub Boxed : RattleType
  Boxed = boxes.the_row R Heap ghosts

  abbrev pub Slot : RattleType
  Slot = slots.the_row R

  abbrev pub Boxed-laws : Laws R → Laws Boxed
  Boxed-laws L = box_laws.the_row_laws R Heap ghosts L Heap-laws

  -- the word owns nothing, so a slot is made of what it keeps
  module _ {M : Type 1} {𝓤 : Ura M} {𝓛 : Logic 𝓤} {K : Type 0} {Γ : List (Item 𝓤)} {G : Goal 𝓤 𝓛.H} where
    pub makes : K → (p : Ptr) (l : Option R.Denot)
        → Step K 𝓛 (‵ (Slot.own_val (record { at = p; value = l }) (word p ∷ [])) ∷ Γ) G (‵ (kept R p l) ∷ Γ) G
    makes t p l = step (λ s.
        let fields = Struct (shape (slots.the_type R)) in
        owned t fields (Is fields) (Struct-Makes 𝓛 (shape (slots.the_type R)) (rawptr_pure, tt)) (p, tt) (word p ∷ [])
        ((ptr_val p ∷ [], tt), (refl, (refl, tt))) $ fjoin t $ s)

-- there is a value if the test says so
pub the_value : {X : Type 0} (l : Option X) → is_some l ≡ true → (x : X) × (l ≡ Some x)
the_value (Some x) e = (x, refl)
the_value None e = absurd (false≢true e)
