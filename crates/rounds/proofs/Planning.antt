-- One command more in a plan, and a round's places in a worker's row.
use Rattle.std.proofs.Common.{◌≡◌, ℕ, zero, suc, ◌+◌, ◌<◌, All, Some, take, List, [], ◌∷◌, ◌++◌, Bool, true, false, map, length, replicate, get_or, refl, sym}
use Rattle.std.proofs.Common.{ap, ◌∙◌, subst, arith, eq-eqb, ne_eqb, add-zero, zero-add, append-nil}
use Rattle.std.specs.Prelude.{if◌then◌else◌, not, ◌&&◌, ◌==◌, slice_set, slice_get, Vec}
use Rattle.std.{specs.Global.Global, specs.List.range_with_len, proofs.lemmas.Option.slice_get_within, proofs.lemmas.Option.get_or_from_slice_get}
use Rattle.std.proofs.lemmas.List.{get_or-set_same, get_or-set_other, length-set, take_more, length-take-le, length-map, get_or-map, map-set}
use Rattle.std.proofs.lemmas.List.FromFn.{length-map-range_with_len, get_or-map-range_with_len, fill_by_all}
use mathlib.Core.Logic.{dite}
use native.Mathlib.Decide.{ℕ_discrete}
use Rattle.trace.specs.declared.commands.{Command.Command, Op.Op}
use Rattle.rounds.specs.{Merging.is_meet, Merging.is_line_of, Plans.items_of, Plans.places_from, Plans.places_for, Plans.meetings_from}
use Rattle.trace.specs.declared.commands.Op.TheVariants as op

-- commands in two parts
pub places_from-append : (k t : ℕ) (cs ds : List Command) → places_from k t (cs ++ ds) ≡ places_from k t cs ++ places_from (k + length cs) t ds
places_from-append k t [] ds = ap (λ j. places_from j t ds) (sym (add-zero k))
places_from-append k t (c ∷ cs) ds =
    let on : (k + 1) + length cs ≡ k + suc (length cs) = omega arith in
    let rest = places_from-append (k + 1) t cs ds ∙ ap (λ j. places_from (k + 1) t cs ++ places_from j t ds) on in
    go (is_line_of t c) rest
  where
    go : (b : Bool) → places_from (k + 1) t (cs ++ ds) ≡ places_from (k + 1) t cs ++ places_from (k + suc (length cs)) t ds
        → (if b then k ∷ places_from (k + 1) t (cs ++ ds) else places_from (k + 1) t (cs ++ ds))
        ≡ (if b then k ∷ places_from (k + 1) t cs else places_from (k + 1) t cs) ++ places_from (k + suc (length cs)) t ds
    go true rest = ap (λ l. k ∷ l) rest
    go false rest = rest

meetings_from-append : (k : ℕ) (cs ds : List Command) → meetings_from k (cs ++ ds) ≡ meetings_from k cs ++ meetings_from (k + length cs) ds
meetings_from-append k [] ds = ap (λ j. meetings_from j ds) (sym (add-zero k))
meetings_from-append k (c ∷ cs) ds =
    let on : (k + 1) + length cs ≡ k + suc (length cs) = omega arith in
    let rest = meetings_from-append (k + 1) cs ds ∙ ap (λ j. meetings_from (k + 1) cs ++ meetings_from j ds) on in
    go (is_meet c.op) rest
  where
    go : (b : Bool) → meetings_from (k + 1) (cs ++ ds) ≡ meetings_from (k + 1) cs ++ meetings_from (k + suc (length cs)) ds
        → (if b then k ∷ meetings_from (k + 1) (cs ++ ds) else meetings_from (k + 1) (cs ++ ds))
        ≡ (if b then k ∷ meetings_from (k + 1) cs else meetings_from (k + 1) cs) ++ meetings_from (k + suc (length cs)) ds
    go true rest = ap (λ l. k ∷ l) rest
    go false rest = rest

-- one command more is a meeting
pub meeting_more : (i : ℕ) (cs more : List Command) (c : Command) → more ≡ cs ++ c ∷ [] → length cs ≡ i → is_meet c.op ≡ true
    → meetings_from 0 more ≡ meetings_from 0 cs ++ i ∷ []
meeting_more i cs more c is long meet =
    ap (meetings_from 0) is ∙ (meetings_from-append 0 cs (c ∷ [])
    ∙ ap (λ l. meetings_from 0 cs ++ l) (ap (λ b. if b then (0 + length cs) ∷ [] else []) meet ∙ ap (λ k. k ∷ []) at_end))
  where
    at_end : 0 + length cs ≡ i
    at_end = omega arith

-- or a line
pub no_meeting_more : (cs more : List Command) (c : Command) → more ≡ cs ++ c ∷ [] → is_meet c.op ≡ false → meetings_from 0 more ≡ meetings_from 0 cs
no_meeting_more cs more c is plain =
    ap (meetings_from 0) is ∙ (meetings_from-append 0 cs (c ∷ [])
    ∙ (ap (λ b. meetings_from 0 cs ++ (if b then (0 + length cs) ∷ [] else [])) plain ∙ append-nil (meetings_from 0 cs)))

-- a line more in its worker's row
line_more : (i t : ℕ) (cs more : List Command) (c : Command) → more ≡ cs ++ c ∷ [] → length cs ≡ i → is_line_of t c ≡ true
    → places_for t more ≡ places_for t cs ++ i ∷ []
line_more i t cs more c is long mine =
    ap (places_from 0 t) is ∙ (places_from-append 0 t cs (c ∷ [])
    ∙ ap (λ l. places_from 0 t cs ++ l) (ap (λ b. if b then (0 + length cs) ∷ [] else []) mine ∙ ap (λ k. k ∷ []) at_end))
  where
    at_end : 0 + length cs ≡ i
    at_end = omega arith

-- and in no other
no_line_more : (t : ℕ) (cs more : List Command) (c : Command) → more ≡ cs ++ c ∷ [] → is_line_of t c ≡ false → places_for t more ≡ places_for t cs
no_line_more t cs more c is other =
    ap (places_from 0 t) is ∙ (places_from-append 0 t cs (c ∷ [])
    ∙ (ap (λ b. places_from 0 t cs ++ (if b then (0 + length cs) ∷ [] else [])) other ∙ append-nil (places_from 0 t cs)))

-- the rows of a plan, by workers
abbrev pub rows_of : ℕ → List Command → List (List ℕ)
rows_of hosts cs = map (λ t. places_for t cs) (range_with_len 0 hosts)

-- rows with no place
pub rows_begin : (hosts : ℕ) → replicate hosts [] ≡ rows_of hosts []
rows_begin hosts = go 0 hosts
  where
    go : (k n : ℕ) → replicate n [] ≡ map (λ t. places_for t []) (range_with_len k n)
    go k zero = refl
    go k (suc n) = ap (λ l. [] ∷ l) (go (k + 1) n)

-- a meeting stands in no row
pub rows_meet : (hosts : ℕ) (cs more : List Command) (c : Command) → more ≡ cs ++ c ∷ [] → is_meet c.op ≡ true → rows_of hosts cs ≡ rows_of hosts more
rows_meet hosts cs more c is meet =
    let same : (t : ℕ) → places_for t cs ≡ places_for t more = λ t. sym (no_line_more t cs more c is (ap (λ b. not b && (c.worker == t)) meet)) in
    λ i. map (λ t. same t i) (range_with_len 0 hosts)

-- a line stands in its worker's row
pub rows_line : (hosts i : ℕ) (cs more : List Command) (c : Command) → more ≡ cs ++ c ∷ [] → length cs ≡ i → is_meet c.op ≡ false → c.worker < hosts
    → slice_set (rows_of hosts cs) c.worker (places_for c.worker cs ++ i ∷ []) ≡ rows_of hosts more
rows_line hosts i cs more c is long plain low =
    let w = c.worker in
    fill_by_all (λ t. places_for t more) (slice_set (rows_of hosts cs) w (places_for w cs ++ i ∷ [])) hosts []
    (length-set (rows_of hosts cs) w (places_for w cs ++ i ∷ []) ∙ length-map-range_with_len (λ t. places_for t cs) 0 hosts)
    (λ k below.
    dite (ℕ_discrete k w)
    (λ same.
    subst (λ j. get_or (slice_set (rows_of hosts cs) w (places_for w cs ++ i ∷ [])) j [] ≡ places_for j more) (sym same)
    (get_or-set_same (rows_of hosts cs) w (places_for w cs ++ i ∷ []) [] inside
    ∙ sym (line_more i w cs more c is long (ap (λ b. not b && (w == w)) plain ∙ eq-eqb w w refl))))
    (λ other.
    get_or-set_other (rows_of hosts cs) w k (places_for w cs ++ i ∷ []) [] other
    ∙ (get_or-map-range_with_len (λ t. places_for t cs) 0 hosts k k [] below (from_zero k)
    ∙ sym (no_line_more k cs more c is (ap (λ b. not b && (w == k)) plain ∙ ne_eqb w k (λ e. other (sym e)))))))
  where
    from_zero : (k : ℕ) → 0 + k ≡ k
    from_zero k = omega arith

    inside : c.worker < length (rows_of hosts cs)
    inside = omega (arith, length-map-range_with_len (λ t. places_for t cs) 0 hosts)

-- what holds of all commands holds of the one at a place
pub at_place : {X : Type 0} (P : X → Type 0) (xs : List X) (i : ℕ) (x : X) → All P xs → slice_get xs i ≡ Some x → P x
at_place P xs i x all is = subst P (get_or_from_slice_get xs i x x is) (all i x (slice_get_within xs i x is))

-- the commands up to one, and that one
pub commands_more : (cs : List Command) (i : ℕ) (c : Command) → slice_get cs i ≡ Some c → (take (i + 1) cs ≡ take i cs ++ c ∷ []) × (length (take i cs) ≡ i)
commands_more cs i c is =
    let low = slice_get_within cs i c is in
    (take_more cs i c low ∙ ap (λ x. take i cs ++ x ∷ []) (get_or_from_slice_get cs i c c is), length-take-le i cs (omega arith))

-- there is a row for each worker
pub row_there : (hosts n w : ℕ) (rows : List (List ℕ)) (cs : List Command) → rows ≡ rows_of hosts cs → n ≡ length rows → w < hosts → w < n
row_there hosts n w rows cs is count low =
    let long = ap (length {A = List ℕ}) is in
    omega (arith, long, length-map-range_with_len (λ t. places_for t cs) 0 hosts)

pub is_line : (o : Op) → ¬ (o ≡ op.Meet) → is_meet o ≡ false
is_line op.Meet other = absurd (other refl)
is_line _ _ = refl

-- the rows with a place more in one of them
pub row_grown : (hosts i : ℕ) (rows : List (Vec ℕ Global)) (old new : Vec ℕ Global) (cs more : List Command) (c : Command)
    → map items_of rows ≡ rows_of hosts cs → more ≡ cs ++ c ∷ [] → length cs ≡ i
    → is_meet c.op ≡ false → c.worker < hosts → old ≡ get_or rows c.worker old → new.items ≡ old.items ++ i ∷ []
    → map items_of (slice_set rows c.worker new) ≡ rows_of hosts more
row_grown hosts i rows old new cs more c are is long plain low there grown =
    let w = c.worker in
    let size = ap (length {A = List ℕ}) are in
    let count : length rows ≡ hosts = omega (arith, size, length-map rows items_of, length-map-range_with_len (λ t. places_for t cs) 0 hosts) in
    let inside : w < length rows = omega arith in
    let own : old.items ≡ places_for w cs =
    ap items_of there ∙ (sym (get_or-map items_of rows w old [] inside)
    ∙ (ap (λ l. get_or l w []) are ∙ get_or-map-range_with_len (λ t. places_for t cs) 0 hosts w w [] low (zero-add w))) in
    map-set items_of rows w new
    ∙ (ap (λ l. slice_set l w new.items) are
    ∙ (ap (slice_set (rows_of hosts cs) w) (grown ∙ ap (λ l. l ++ i ∷ []) own) ∙ rows_line hosts i cs more c is long plain low))
