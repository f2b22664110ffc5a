-- The rows of workers: one element more has left its row, the front part of a row, and what a run over all commands has made of them.
use Rattle.std.proofs.Common.{◌≡◌, All, List, [], ◌∷◌, ◌++◌, map, sym, ap, ◌∙◌, subst, append_assoc, ℕ, ◌+◌, ◌-◌, ◌<◌, ◌≤◌, get_or, length, take, drop, arith}
use Rattle.std.proofs.Common.{add-zero, length-append}
use Rattle.std.proofs.lemmas.List.{map_push, take-map, length-drop, get_or-drop, get_or_append_left, get_or-append-add}
use Rattle.std.proofs.lemmas.List.Elements.{All-push, All-take, All-drop, All-map}
use Rattle.std.specs.List.{prefix_len, take_while, drop-map}
use Rattle.std.proofs.Math.Seq.{take-append_seam}
use Rattle.std.proofs.lemmas.Bool.{lt-ltb, le-ltb}
use Rattle.std.proofs.lemmas.List.Sums.{prefix_len_is}
use Rattle.trace.specs.declared.commands.Command.{Command}
use Rattle.workers.specs.Playable.{lines_at, no_line}
use Rattle.workers.specs.Workers.{is_before, answers_kept}
use Rattle.geometry.specs.Geometry.{hosts_of, page_bytes_of, sectors_of}
use Rattle.geometry.specs.declared.geometry.Geometry.{Geometry}
use Rattle.flash_table.specs.Flash.{geometry_of}
use Rattle.rounds.specs.Lines.{Said}
use Rattle.rounds.specs.Merging.{merge, answers_by, AreAtOneHistory}
use Rattle.rounds.specs.declared.answer_list.Answers.{Answers}
use Rattle.rounds.specs.Answers.{page_size_of, said_in}
use Rattle.volume.specs.declared.volume.Volume.{Volume}
use Rattle.volume.specs.Volume.{flash_of}
use Rattle.rounds.specs.Told.{lines_text, IsTextOfSome}
use Rattle.std.proofs.lemmas.Simd.{map-map}
use Rattle.workers.specs.Runs.{ArePlayed, AreManned, HasEnded, rows_of}
use Rattle.workers.specs.declared.worker.Worker.{Worker}

-- what is made of one element more stands behind what was made of those before it
pub moved : {X Y Z : Type 0} (f : X → Z) (g : Y → Z) (xs xs' : List X) (ys ys' : List Y) (all : List Z) (x : X) (y : Y) → xs' ≡ xs ++ x ∷ []
    → ys ≡ y ∷ ys' → f x ≡ g y → map f xs ++ map g ys ≡ all
    → map f xs' ++ map g ys' ≡ all
moved f g xs xs' ys ys' all x y pushed popped same was =
    ap (λ l. map f l ++ map g ys') pushed
    ∙ (ap (λ l. l ++ map g ys') (map_push f xs x)
    ∙ (append_assoc (map f xs) (f x ∷ []) (map g ys') ∙ (ap (λ z. map f xs ++ z ∷ map g ys') same ∙ (ap (λ l. map f xs ++ map g l) (sym popped) ∙ was))))

-- and so does an element itself
pub moved_in : {X Y : Type 0} (f : X → Y) (xs xs' : List X) (ys ys' : List Y) (all : List Y) (x : X) (y : Y) → xs' ≡ xs ++ x ∷ [] → ys ≡ y ∷ ys'
    → f x ≡ y → map f xs ++ ys ≡ all → map f xs' ++ ys' ≡ all
moved_in f xs xs' ys ys' all x y pushed popped same was =
    ap (λ l. map f l ++ ys') pushed
    ∙ (ap (λ l. l ++ ys') (map_push f xs x)
    ∙ (append_assoc (map f xs) (f x ∷ []) ys' ∙ (ap (λ z. map f xs ++ z ∷ ys') same ∙ (ap (λ l. map f xs ++ l) (sym popped) ∙ was))))

pub pushed_all : {X : Type 0} (P : X → Type 0) (xs xs' : List X) (x : X) → xs' ≡ xs ++ x ∷ [] → All P xs → P x → All P xs'
pushed_all P xs xs' x is all here = subst (All P) (sym is) (All-push P xs x all here)

-- the lines of the front of a row behind a place are that part of its lines
pub lines_part : (cs : List Command) (places : List ℕ) (a n : ℕ) → lines_at cs (take n (drop a places)) ≡ take n (drop a (lines_at cs places))
lines_part cs places a n =
    let line : ℕ → Command = λ p. get_or cs p no_line in
    sym (ap (take n) (drop-map line a places) ∙ take-map line n (drop a places))

-- what holds of all holds of a part
pub All-part : {X : Type 0} (P : X → Type 0) (xs : List X) (a n : ℕ) → All P xs → All P (take n (drop a xs))
All-part P xs a n all = All-take P n (drop a xs) (All-drop P a xs all)

-- how far the places of a row behind one are before an end, by the place at which they stop
pub count_before : (row : List ℕ) (from to end : ℕ) → from ≤ to → to ≤ length row → ((k : ℕ) → from ≤ k → k < to → get_or row k 0 < end)
    → (to < length row → end ≤ get_or row to 0)
    → prefix_len (is_before end) (drop from row) ≡ to - from
count_before row from to end later within before behind =
    let long = length-drop from row in
    let on : from + (to - from) ≡ to = omega arith in
    prefix_len_is (is_before end) (drop from row) (to - from) 0 (omega (arith, long))
    (λ k low. ap (is_before end) (get_or-drop from row k 0) ∙ lt-ltb (get_or row (from + k) 0) end (before (from + k) (omega arith) (omega arith)))
    (λ low. ap (is_before end) (get_or-drop from row (to - from) 0 ∙ ap (λ k. get_or row k 0) on) ∙ le-ltb (get_or row to 0) end (behind (omega (arith, long))))

-- a row in two parts, of which the first is before an end and the second isn't
pub front_is : (ys zs : List ℕ) (end : ℕ) → All (λ p. p < end) ys → All (λ p. end ≤ p) zs → take_while (is_before end) (ys ++ zs) ≡ ys
front_is ys zs end low high =
    let long = length-append ys zs in
    let count : prefix_len (is_before end) (ys ++ zs) ≡ length ys =
    prefix_len_is (is_before end) (ys ++ zs) (length ys) 0 (omega (arith, long))
    (λ k inside. ap (is_before end) (get_or_append_left ys zs 0 k inside) ∙ lt-ltb (get_or ys k 0) end (low k 0 inside))
    (λ more. ap (is_before end) seam ∙ le-ltb (get_or zs 0 0) end (high 0 0 (omega (arith, long)))) in
    ap (λ n. take n (ys ++ zs)) count ∙ take-append_seam ys zs
  where
    seam : get_or (ys ++ zs) (length ys) 0 ≡ get_or zs 0 0
    seam = ap (λ k. get_or (ys ++ zs) k 0) (sym (add-zero (length ys))) ∙ get_or-append-add ys zs 0 0

-- what is said of a run is said of the rows that are handed out
pub all_played : (volume : Volume) (geo : Geometry) (patience : ℕ) (cs : List Command) (begun back : List Worker) (rows : List Answers)
    → geometry_of (flash_of volume) ≡ geo → AreManned volume back → HasEnded volume patience cs begun back
    → rows ≡ map answers_kept back → ArePlayed geo cs (answers_by rows)
all_played volume geo patience cs begun back rows geometry manned ended are =
    let by : List (List Said) → ℕ → List Said = λ l t. get_or l t [] in
    let same : rows_of back ≡ answers_by rows = ap by (sym (ap (map said_in) are ∙ map-map said_in answers_kept back)) in
    let hosts : length back ≡ hosts_of geo = manned.all ∙ ap hosts_of geometry in
    let sectors : sectors_of (geometry_of (flash_of volume)) ≡ sectors_of geo = ap sectors_of geometry in
    record {
      told = subst (λ (x : ℕ × ℕ × (ℕ → List Said)). AreAtOneHistory x.0 x.1 cs x.2) (λ i. (sectors i, hosts i, same i)) ended.told;
      text = λ apart. subst (λ (x : ℕ × (ℕ → List Said)). IsTextOfSome x.0 cs (lines_text 0 (merge cs x.1))) (λ i. (sectors i, same i)) (ended.text apart);
    }

-- the rows have pages of the device's size
pub all_paged : (volume : Volume) (geo : Geometry) (back : List Worker) (rows : List Answers) → geometry_of (flash_of volume) ≡ geo
    → AreManned volume back → rows ≡ map answers_kept back
    → All (λ row. page_size_of row ≡ page_bytes_of geo) rows
all_paged volume geo back rows geometry manned are =
    subst (All (λ row. page_size_of row ≡ page_bytes_of geo)) (sym are)
    (All-map (λ row. page_size_of row ≡ page_bytes_of geo) answers_kept back
    (λ k p low. (get_or back k p).able.page ∙ ap (λ (v : Volume). page_bytes_of (geometry_of (flash_of v))) (manned.at k p low) ∙ ap page_bytes_of geometry))
