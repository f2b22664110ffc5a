-- One command more: the stock grows by its own part, and with it the array and the text, if the answers are written.
use Rattle.std.proofs.Common.{◌≡◌, ℕ, ◌+◌, ◌≤◌, Bool, true, false, List, [], ◌∷◌, ◌++◌, Option, Some, length, take, subst, sym, ap, ◌∙◌, ◌-◌, append-nil}
use Rattle.std.proofs.{Common.append_assoc, Common.arith, Common.codes, Common.refl, lemmas.List.Sums.fold_push, lemmas.List.take_more}
use Rattle.std.specs.Prelude.{if◌then◌else◌, slice_get}
use Rattle.std.{specs.List.All, specs.List.fold, specs.Option.option_map_or, proofs.lemmas.Option.get_or_from_slice_get, proofs.lemmas.Option.slice_get_within}
use Rattle.geometry.specs.{Geometry.sectors_of, History.step, History.after, History.held, History.Begins, Sectors.Sector, Sectors.sector_at}
use Rattle.geometry.specs.declared.geometry.Geometry.{Geometry}
use Rattle.ftl_one.specs.Stock.{Stock, opening}
use Rattle.trace.specs.declared.commands.Command.{Command}
use Rattle.answers.specs.Answers.{calls_of, history_before, line_at, lines_before, line_text, answer_of}
use Rattle.answers.{specs.Delivery.IsUnderWay, proofs.Texts.array_more, proofs.Texts.flat_map_begins, proofs.Texts.lines_more}
use Rattle.answers.proofs.Deliveries.{IsUnderWay-more, IsUnderWay-start, IsUnderWay-trans}
use Rattle.runs.specs.{Outputs.written_of, Playing.ArePlayed, Playing.answers_written}
use Rattle.runs.specs.Playing.{is_refused, stock_after, stock_before, refused_at, end_text, last_line}

-- what holds of each command holds of the one at a place
pub All-at : {X : Type 0} (P : X → Type 0) (xs : List X) (i : ℕ) (x : X) → All P xs → slice_get xs i ≡ Some x → P x
All-at P xs i x all is = subst P (get_or_from_slice_get xs i x x is) (all i x (slice_get_within xs i x is))

pub refused_is : (geo : Geometry) (commands : List Command) (k : ℕ) (c : Command) → slice_get commands k ≡ Some c
    → refused_at geo commands k ≡ is_refused geo (stock_before geo commands k) c
refused_is geo commands k c is = ap (λ o. option_map_or (is_refused geo (stock_before geo commands k)) o false) is

stock_more : (geo : Geometry) (commands : List Command) (k : ℕ) (c : Command) → slice_get commands k ≡ Some c
    → stock_before geo commands (k + 1) ≡ stock_after geo (stock_before geo commands k) c
stock_more geo commands k c is =
    let within = slice_get_within commands k c is in
    ap (fold (stock_after geo) (opening geo)) (take_more commands k c within ∙ ap (λ x. take k commands ++ x ∷ []) (get_or_from_slice_get commands k c c is))
    ∙ fold_push (stock_after geo) (opening geo) (take k commands) c

-- the answer of one command more, if the answers are written
text_more : (wanted : Bool) (geo : Geometry) (commands : List Command) (k : ℕ) (c : Command) (old new : Option (List ℕ)) (waiting line more : List ℕ)
    → slice_get commands k ≡ Some c
    → line ≡ line_text (k + 1) c.op c.sector
    (answer_of (codes "worn") (refused_at geo commands k) c.op (held (sectors_of geo) (history_before (refused_at geo commands) commands k) c.sector))
    → more ≡ waiting ++ (if wanted then line else []) → IsUnderWay old new waiting (answers_written wanted geo commands k)
    → IsUnderWay old new more (answers_written wanted geo commands (k + 1))
text_more true geo commands k c old new waiting line more at is adds under =
    let so_far = lines_before (codes "worn") (sectors_of geo) (refused_at geo commands) commands k in
    subst (λ w. IsUnderWay old new w (answers_written true geo commands (k + 1))) (sym adds)
    (subst (IsUnderWay old new (waiting ++ line))
    (ap (λ l. so_far ++ l) is ∙ sym (lines_more (codes "worn") (sectors_of geo) (refused_at geo commands) commands k c at))
    (IsUnderWay-more old new waiting so_far line under))
text_more false geo commands k c old new waiting line more at is adds under = subst (λ w. IsUnderWay old new w []) (sym (adds ∙ append-nil waiting)) under

-- one command more was played
pub ArePlayed-more : (wanted : Bool) (geo : Geometry) (commands : List Command) (k : ℕ) (c : Command) (array next_array : List Sector)
    (stock next_stock : Stock) (old new : Option (List ℕ)) (waiting next_waiting : List ℕ)
    → ArePlayed wanted geo commands k array stock old new waiting → slice_get commands k ≡ Some c
    → next_array ≡ fold step array (calls_of (is_refused geo stock c) c) → next_stock ≡ stock_after geo stock c
    → next_waiting ≡ waiting ++ (if wanted
    then line_text (k + 1) c.op c.sector (answer_of (codes "worn") (is_refused geo stock c) c.op (sector_at array c.sector)) else [])
    → ArePlayed wanted geo commands (k + 1) next_array next_stock old new next_waiting
ArePlayed-more wanted geo commands k c array next_array stock next_stock old new waiting next_waiting played is array_step stock_step waiting_step =
    let refused : is_refused geo stock c ≡ refused_at geo commands k =
    ap (λ s. is_refused geo s c) played.stock_is ∙ sym (refused_is geo commands k c is) in
    let line : List ℕ = line_text (k + 1) c.op c.sector (answer_of (codes "worn") (is_refused geo stock c) c.op (sector_at array c.sector)) in
    let line_is : line ≡ line_text (k + 1) c.op c.sector
    (answer_of (codes "worn") (refused_at geo commands k) c.op (held (sectors_of geo) (history_before (refused_at geo commands) commands k) c.sector)) =
    ap (λ b. line_text (k + 1) c.op c.sector (answer_of (codes "worn") b c.op (sector_at array c.sector))) refused
    ∙ ap (λ a. line_text (k + 1) c.op c.sector (answer_of (codes "worn") (refused_at geo commands k) c.op (sector_at a c.sector))) played.array_is in
    record {
      array_is =
          array_step
          ∙ (ap (λ b. fold step array (calls_of b c)) refused
          ∙ (ap (λ a. fold step a (calls_of (refused_at geo commands k) c)) played.array_is
          ∙ sym (array_more (sectors_of geo) (refused_at geo commands) commands k c is)));
      stock_is = stock_step ∙ (ap (λ s. stock_after geo s c) played.stock_is ∙ sym (stock_more geo commands k c is));
      text = text_more wanted geo commands k c old new waiting line next_waiting is line_is waiting_step played.text;
    }

-- nothing was played yet
pub ArePlayed-none : (wanted : Bool) (geo : Geometry) (commands : List Command) (array : List Sector) (stock : Stock) (old : Option (List ℕ))
    (waiting : List ℕ) → array ≡ after (sectors_of geo) [] → stock ≡ opening geo → waiting ≡ [] → ArePlayed wanted geo commands 0 array stock old old waiting
ArePlayed-none wanted geo commands array stock old waiting array_is stock_is none =
    record { array_is = array_is; stock_is = stock_is; text = nothing wanted }
  where
    nothing : (w : Bool) → IsUnderWay old old waiting (answers_written w geo commands 0)
    nothing true = subst (λ w. IsUnderWay old old w []) (sym none) (IsUnderWay-start old [])
    nothing false = subst (λ w. IsUnderWay old old w []) (sym none) (IsUnderWay-start old [])

-- the text of the first lines begins what is written
pub lines_begin : (wanted : Bool) (geo : Geometry) (commands : List Command) (k : ℕ) → k ≤ length commands
    → Begins (answers_written wanted geo commands k) (written_of wanted geo commands)
lines_begin false geo commands k low = (last_line geo commands, refl)
lines_begin true geo commands k low =
    let m : ℕ = length commands - k in
    let e : k + m ≡ length commands = omega arith in
    let lines = flat_map_begins (line_at (codes "worn") (sectors_of geo) (refused_at geo commands) commands) k m in
    let end = last_line geo commands in (
      lines.0 ++ end,
      sym (append_assoc (lines_before (codes "worn") (sectors_of geo) (refused_at geo commands) commands k) lines.0 end)
          ∙ ap (λ front. front ++ end) (lines.1 ∙ ap (λ n. lines_before (codes "worn") (sectors_of geo) (refused_at geo commands) commands n) e),
    )

-- some of what waited went out
pub ArePlayed-moved : (wanted : Bool) (geo : Geometry) (commands : List Command) (k : ℕ) (array : List Sector) (stock : Stock)
    (old new newer : Option (List ℕ)) (waiting later : List ℕ) → ArePlayed wanted geo commands k array stock old new waiting
    → IsUnderWay new newer later waiting → ArePlayed wanted geo commands k array stock old newer later
ArePlayed-moved wanted geo commands k array stock old new newer waiting later played moved =
    record {
      array_is = played.array_is;
      stock_is = played.stock_is;
      text = IsUnderWay-trans old new newer later waiting (answers_written wanted geo commands k) played.text moved;
    }

-- a turn of the loop, as its calls tell it: there is room for a line, then a command is done on the layer
pub ArePlayed-turn : (wanted : Bool) (geo its_geo : Geometry) (commands : List Command) (k : ℕ) (c : Command) (array next_array : List Sector)
    (stock next_stock : Stock) (old new newer : Option (List ℕ)) (waiting later last : List ℕ) → its_geo ≡ geo
    → ArePlayed wanted geo commands k array stock old new waiting → IsUnderWay new newer later waiting → slice_get commands k ≡ Some c
    → next_array ≡ fold step array (calls_of (is_refused its_geo stock c) c) → next_stock ≡ stock_after its_geo stock c
    → last ≡ later ++ (if wanted
    then line_text (k + 1) c.op c.sector (answer_of (codes "worn") (is_refused its_geo stock c) c.op (sector_at array c.sector))
    else []) → ArePlayed wanted geo commands (k + 1) next_array next_stock old newer last
ArePlayed-turn wanted geo its_geo commands k c array next_array stock next_stock old new newer waiting later last same played moved is array_step
    stock_step lines_step =
    ArePlayed-more wanted geo commands k c array next_array stock next_stock old newer later last
    (ArePlayed-moved wanted geo commands k array stock old new newer waiting later played moved) is
    (subst (λ x. next_array ≡ fold step array (calls_of (is_refused x stock c) c)) same array_step)
    (subst (λ x. next_stock ≡ stock_after x stock c) same stock_step)
    (subst (λ x. last ≡ later
    ++ (if wanted then line_text (k + 1) c.op c.sector (answer_of (codes "worn") (is_refused x stock c) c.op (sector_at array c.sector)) else []))
    same lines_step)

-- all that is written, after the last command and the last line
written_whole : (wanted : Bool) (geo : Geometry) (commands : List Command) (old new : Option (List ℕ)) (waiting : List ℕ)
    → IsUnderWay old new waiting (answers_written wanted geo commands (length commands) ++ last_line geo commands)
    → IsUnderWay old new waiting (written_of wanted geo commands)
written_whole true geo commands old new waiting under = under
written_whole false geo commands old new waiting under = under

pub text_whole : (wanted : Bool) (geo : Geometry) (commands : List Command) (array : List Sector) (stock : Stock) (old new newer : Option (List ℕ))
    (waiting later last : List ℕ) → ArePlayed wanted geo commands (length commands) array stock old new waiting → IsUnderWay new newer later waiting
    → last ≡ later ++ end_text stock → IsUnderWay old newer last (written_of wanted geo commands)
text_whole wanted geo commands array stock old new newer waiting later last played moved ends =
    let so_far = answers_written wanted geo commands (length commands) in
    let whole : IsUnderWay old newer (later ++ end_text stock) (so_far ++ end_text stock) =
    IsUnderWay-more old newer later so_far (end_text stock)
    (ArePlayed-moved wanted geo commands (length commands) array stock old new newer waiting later played moved).text in
    written_whole wanted geo commands old newer last
    (subst (λ l. IsUnderWay old newer l (so_far ++ last_line geo commands)) (sym ends)
    (subst (λ s. IsUnderWay old newer (later ++ end_text stock) (so_far ++ end_text s)) played.stock_is whole))
