-- The logs: of one command more and how a log ends, of one broom more, and the wear of one block more.
use Rattle.std.proofs.Common.{◌≡◌, ℕ, ◌+◌, ◌-◌, ◌<◌, ◌≤◌, List, [], ◌++◌, Option, None, Some, get_or, length, refl, subst, sym, ap, ◌∙◌, append_assoc, arith}
use Rattle.std.proofs.Common.{◌≢◌, Bool, true, append-nil}
use Rattle.std.specs.List.{flat_map, range_with_len}
use Rattle.std.proofs.lemmas.Option.{slice_get_read}
use Rattle.std.specs.Prelude.{IfSome, Ok, Result}
use Rattle.std.specs.Option.{option_map_or}
use Rattle.geometry.specs.History.{Begins}
use Rattle.geometry.specs.declared.geometry.Geometry.{Geometry}
use Rattle.trace.specs.Trace.{commands_of}
use Rattle.trace.specs.declared.commands.Command.{Command}
use Rattle.answers.specs.Answers.{broom_names, wear_names, collection_names}
use Rattle.answers.specs.Delivery.{IsUnderWay, AppendsBeginning, AppendsPart, AppendsText, waiting_of}
use Rattle.answers.proofs.Deliveries.{IsUnderWay-more, IsUnderWay-trans, AppendsBeginning-part, WritesOut-rest}
use Rattle.answers.proofs.Texts.{flat_map_begins, flat_map_more}
use Rattle.workers.specs.Served.{AllHaveServed}
use Rattle.workers.specs.declared.collector.collector_end.CollectorEnd.{CollectorEnd}
use Rattle.runs.specs.Logs.{IsBroomLogOf, brooms_before, brooms_text, end_line, line_of_broom, block_line, wear_before, log_before, log_line, log_part}
use Rattle.runs.specs.Logs.{log_text, told_at, beginning_if, IsLogged, is_wanted, IsStockOf, IsWearOf, wear_text}
use Rattle.ftl_one.specs.Stock.{Stock}
use Rattle.std.specs.Io.KnownBytes.{Appends}
use Rattle.ftl_one.specs.Collections.{collection_between}
use Rattle.ftl_one.specs.declared.collection.Collection.{Collection}
use Rattle.answers.specs.Streams.{Passage, Stream, WritesOut, Nothing, Part, Portion, Tells, TellsIf, Whole, Writes, WritesIf, portion_of}
use Rattle.answers.specs.declared.lines.Lines.{Lines}
use Rattle.answers.specs.declared.delivery.OutputFailed.{OutputFailed}
use Rattle.runs.specs.Playing.{stock_before}
use Rattle.runs.specs.declared.log.Log.TheVariants as log
use Rattle.runs.specs.declared.log.Log.{Log}

pub line_is : (ends : List CollectorEnd) (k : ℕ) (end : CollectorEnd) → k < length ends → end ≡ get_or ends k end → line_of_broom ends k ≡ end_line k end
line_is ends k end low is = ap (λ (o : Option CollectorEnd). option_map_or (end_line k) o []) (slice_get_read ends (length ends) k end refl low is)

brooms_more : (ends : List CollectorEnd) (n : ℕ) → brooms_before ends n ++ line_of_broom ends n ≡ brooms_before ends (n + 1)
brooms_more ends n =
    append_assoc broom_names (flat_map (line_of_broom ends) (range_with_len 0 n)) (line_of_broom ends n)
    ∙ ap (λ rest. broom_names ++ rest) (sym (flat_map_more (line_of_broom ends) n))

-- the text of the first brooms begins that of all
pub brooms_begins : (ends : List CollectorEnd) (n m : ℕ) → n ≤ m → Begins (brooms_before ends n) (brooms_before ends m)
brooms_begins ends n m low =
    let e : n + (m - n) ≡ m = omega arith in
    let rest = flat_map_begins (line_of_broom ends) n (m - n) in (
      rest.0,
      append_assoc broom_names (flat_map (line_of_broom ends) (range_with_len 0 n)) rest.0
          ∙ (ap (λ lines. broom_names ++ lines) rest.1 ∙ ap (brooms_before ends) e),
    )

-- a turn of the loop: there is room for a line, then the line of a broom waits
pub brooms_turn : (ends : List CollectorEnd) (n : ℕ) (end : CollectorEnd) (old new newer : Option (List ℕ)) (waiting later last : List ℕ)
    → n < length ends → end ≡ get_or ends n end
    → IsUnderWay old new waiting (brooms_before ends n) → IsUnderWay new newer later waiting → last ≡ later ++ end_line n end
    → IsUnderWay old newer last (brooms_before ends (n + 1))
brooms_turn ends n end old new newer waiting later last low is under moved adds =
    subst (λ l. IsUnderWay old newer l (brooms_before ends (n + 1))) (sym (adds ∙ ap (λ line. later ++ line) (sym (line_is ends n end low is))))
    (subst (IsUnderWay old newer (later ++ line_of_broom ends n)) (brooms_more ends n)
    (IsUnderWay-more old newer later (brooms_before ends n) (line_of_broom ends n)
    (IsUnderWay-trans old new newer later waiting (brooms_before ends n) under moved)))

-- the log of the commands that the bytes mean
pub brooms_right : (geo : Geometry) (input : Option (List ℕ)) (commands : List Command) (drains : ℕ) (ends : List CollectorEnd)
    → IfSome input (λ bytes. commands_of bytes geo ≡ Ok commands) → AllHaveServed geo drains ends
    → IfSome input (λ bytes. IsBroomLogOf drains geo bytes (brooms_text ends))
brooms_right geo None commands drains ends means served = tt
brooms_right geo (Some bytes) commands drains ends means served =
    record { commands = commands; meaning = means; ends = ends; served = served; log = refl }

pub wear_more : (stock : Stock) (n : ℕ) → wear_before stock n ++ block_line stock n ≡ wear_before stock (n + 1)
wear_more stock n =
    append_assoc wear_names (flat_map (block_line stock) (range_with_len 0 n)) (block_line stock n)
    ∙ ap (λ rest. wear_names ++ rest) (sym (flat_map_more (block_line stock) n))

-- the text of the first blocks begins that of all
pub wear_begins : (stock : Stock) (n m : ℕ) → n ≤ m → Begins (wear_before stock n) (wear_before stock m)
wear_begins stock n m low =
    let e : n + (m - n) ≡ m = omega arith in
    let rest = flat_map_begins (block_line stock) n (m - n) in (
      rest.0,
      append_assoc wear_names (flat_map (block_line stock) (range_with_len 0 n)) rest.0
          ∙ (ap (λ lines. wear_names ++ lines) rest.1 ∙ ap (wear_before stock) e),
    )

-- a turn of the loop: there is room for a line, then the line of a block waits
pub wear_turn : (stock : Stock) (n : ℕ) (old new newer : Option (List ℕ)) (waiting later last : List ℕ)
    → IsUnderWay old new waiting (wear_before stock n) → IsUnderWay new newer later waiting → last ≡ later ++ block_line stock n
    → IsUnderWay old newer last (wear_before stock (n + 1))
wear_turn stock n old new newer waiting later last under moved adds =
    subst (λ l. IsUnderWay old newer l (wear_before stock (n + 1))) (sym adds)
    (subst (IsUnderWay old newer (later ++ block_line stock n)) (wear_more stock n)
    (IsUnderWay-more old newer later (wear_before stock n) (block_line stock n)
    (IsUnderWay-trans old new newer later waiting (wear_before stock n) under moved)))

pub log_none : (geo : Geometry) (commands : List Command) → log_before geo commands 0 ≡ collection_names
log_none geo commands = append-nil collection_names

-- one command more
pub log_more : (geo : Geometry) (commands : List Command) (k : ℕ) (stock next_stock : Stock) → stock ≡ stock_before geo commands k
    → next_stock ≡ stock_before geo commands (k + 1)
    → log_before geo commands k ++ log_part (k + 1) (collection_between geo stock next_stock) ≡ log_before geo commands (k + 1)
log_more geo commands k stock next_stock is next_is =
    ap (λ (x : Stock). log_before geo commands k ++ log_part (k + 1) (collection_between geo x next_stock)) is
    ∙ (ap (λ (x : Stock). log_before geo commands k ++ log_part (k + 1) (collection_between geo (stock_before geo commands k) x)) next_is
    ∙ (append_assoc collection_names (flat_map (told_at geo commands) (range_with_len 0 k)) (told_at geo commands k)
    ∙ ap (λ rest. collection_names ++ rest) (sym (flat_map_more (told_at geo commands) k))))

-- the log of the first commands begins that of all
pub log_begins : (geo : Geometry) (commands : List Command) (n : ℕ) → n ≤ length commands → Begins (log_before geo commands n) (log_text geo commands)
log_begins geo commands n low =
    let m : ℕ = length commands - n in
    let e : n + m ≡ length commands = omega arith in
    let rest = flat_map_begins (told_at geo commands) n m in (
      rest.0,
      append_assoc collection_names (flat_map (told_at geo commands) (range_with_len 0 n)) rest.0
          ∙ (ap (λ lines. collection_names ++ lines) rest.1 ∙ ap (log_before geo commands) e),
    )

-- a beginning of a text begins a longer one
pub longer : (old new : Option (List ℕ)) (text whole : List ℕ) → AppendsBeginning old new text → Begins text whole → AppendsBeginning old new whole
longer old new text whole part begins = record {
  sent = part.sent;
  out = part.out;
  beginning = (
    part.beginning.0 ++ begins.0,
    sym (append_assoc part.sent part.beginning.0 begins.0) ∙ (ap (λ front. front ++ begins.0) part.beginning.1 ∙ begins.1),
  );
}

under_begins : (old new : Option (List ℕ)) (waiting text : List ℕ) → IsUnderWay old new waiting text → AppendsBeginning old new text
under_begins old new waiting text under = record { sent = under.sent; out = under.out; beginning = (waiting, under.whole) }

whole_of : (input : Option (List ℕ)) (IsTextOf : List ℕ → List ℕ → Type 0) (old new : Option (List ℕ)) (text : List ℕ)
    → IfSome input (λ bytes. IsTextOf bytes text) → Appends old new text
    → IfSome input (λ bytes. AppendsText IsTextOf bytes old new)
whole_of None IsTextOf old new text right sent = tt
whole_of (Some bytes) IsTextOf old new text right sent = record { text = text; is_text = right; out = sent }

part_of : (input : Option (List ℕ)) (IsTextOf : List ℕ → List ℕ → Type 0) (old new : Option (List ℕ)) (text : List ℕ)
    → IfSome input (λ bytes. IsTextOf bytes text) → AppendsBeginning old new text
    → IfSome input (λ bytes. AppendsPart IsTextOf bytes old new)
part_of None IsTextOf old new text right part = tt
part_of (Some bytes) IsTextOf old new text right part = record { text = text; is_text = right; out = part }

-- what a log leaves where the run goes no further
pub leaves : (state : Log) (file : Passage) (text whole : List ℕ) → IsLogged state file text → Begins text whole
    → Writes (beginning_if (is_wanted state)) whole file
leaves log.Unwanted file text whole same begins = same
leaves (log.Open lines) file text whole (unfailed, moves) begins =
    longer file.before.bytes file.after.bytes text whole (under_begins file.before.bytes file.after.bytes (waiting_of lines) text moves) begins
leaves log.Failed file text whole (failed, part) begins = longer file.before.bytes file.after.bytes text whole part begins

-- a line more waits, or the file fails
pub tells_open : (lines : Lines) (before old new : Stream) (line : ℕ) (it : Collection) (text more later last : List ℕ)
    → IsLogged (log.Open lines) (record { before = before; after = old }) text
    → new.failures ≡ old.failures → IsUnderWay old.bytes new.bytes later (waiting_of lines) → last ≡ later ++ log_line line it → more ≡ log_line line it
    → (new.failures ≡ before.failures) × IsUnderWay before.bytes new.bytes last (text ++ more)
tells_open lines before old new line it text more later last (unfailed, moves) same moved adds is = (
  same ∙ unfailed,
  subst (λ (l : List ℕ). IsUnderWay before.bytes new.bytes l (text ++ more)) (ap (λ rest. later ++ rest) is ∙ sym adds)
      (IsUnderWay-more before.bytes new.bytes later text more (IsUnderWay-trans before.bytes old.bytes new.bytes later (waiting_of lines) text moves moved)),
)

pub fails_open : (lines : Lines) (before old new : Stream) (text more : List ℕ) → IsLogged (log.Open lines) (record { before = before; after = old }) text
    → new.failures ≢ old.failures → AppendsBeginning old.bytes new.bytes (waiting_of lines)
    → (new.failures ≢ before.failures) × AppendsBeginning before.bytes new.bytes (text ++ more)
fails_open lines before old new text more (unfailed, moves) failed part = (
  (λ e. failed (e ∙ sym unfailed)),
  AppendsBeginning-part before.bytes old.bytes new.bytes (waiting_of lines) text (text ++ more) moves part (more, refl),
)

-- a log that takes no lines
pub shut_more : (state : Log) (file : Passage) (text more : List ℕ) → ((lines : Lines) → state ≡ log.Open lines → ⊥) → IsLogged state file text
    → IsLogged state file (text ++ more)
shut_more log.Unwanted file text more shut same = same
shut_more (log.Open lines) file text more shut logged = absurd (shut lines refl)
shut_more log.Failed file text more shut (failed, part) = (failed, longer file.before.bytes file.after.bytes text (text ++ more) part (more, refl))

-- what waits is handed on at the end
pub ends_open : (lines : Lines) (before old new : Stream) (text : List ℕ) (r : Result (Unit {0}) OutputFailed)
    → IsLogged (log.Open lines) (record { before = before; after = old }) text
    → WritesOut (waiting_of lines) (record { before = old; after = new }) r → WritesIf true text (record { before = before; after = new }) r
ends_open lines before old new text r (unfailed, moves) sent = WritesOut-rest text (waiting_of lines) before old new r unfailed moves sent

-- what is written of a text is written of one that is right for the bytes
pub tells_right : (portion : Portion) (IsTextOf : List ℕ → List ℕ → Type 0) (input : Stream) (file : Passage) (text : List ℕ)
    → IfSome input.bytes (λ bytes. IsTextOf bytes text) → Writes portion text file → Tells portion IsTextOf input file
tells_right Nothing IsTextOf input file text right same = same
tells_right Part IsTextOf input file text right part = part_of input.bytes IsTextOf file.before.bytes file.after.bytes text right part
tells_right Whole IsTextOf input file text right sent = whole_of input.bytes IsTextOf file.before.bytes file.after.bytes text right sent

-- and its end is the end of that text
pub ends_file : (wanted : Bool) (IsTextOf : List ℕ → List ℕ → Type 0) (input : Stream) (file : Passage) (text : List ℕ) (r : Result (Unit {0}) OutputFailed)
    → IfSome input.bytes (λ bytes. IsTextOf bytes text) → WritesIf wanted text file r → TellsIf wanted IsTextOf input file r
ends_file wanted IsTextOf input file text r right (fails, writes) = (fails, tells_right (portion_of wanted r) IsTextOf input file text right writes)

-- the wear of the stock of the device
pub wear_right : (geo : Geometry) (input : Option (List ℕ)) (stock : Stock) → IfSome input (λ bytes. IsStockOf geo bytes stock)
    → IfSome input (λ bytes. IsWearOf geo bytes (wear_text geo stock))
wear_right geo None stock is = tt
wear_right geo (Some bytes) stock is = record { commands = is.commands; meaning = is.meaning; wear = ap (wear_text geo) is.stock_is }

-- a turn of the loop
pub log_turn : (geo its_geo : Geometry) (commands : List Command) (k : ℕ) (stock next_stock : Stock) (state : Log) (file : Passage) → its_geo ≡ geo
    → stock ≡ stock_before geo commands k → next_stock ≡ stock_before geo commands (k + 1)
    → IsLogged state file (log_before geo commands k ++ log_part (k + 1) (collection_between its_geo stock next_stock))
    → IsLogged state file (log_before geo commands (k + 1))
log_turn geo its_geo commands k stock next_stock state file same is next_is logged =
    subst (IsLogged state file)
    (ap (λ (x : Geometry). log_before geo commands k ++ log_part (k + 1) (collection_between x stock next_stock)) same
    ∙ log_more geo commands k stock next_stock is next_is) logged

-- what the log leaves after some commands
pub log_left_of : (geo : Geometry) (commands : List Command) (n : ℕ) (first state : Log) (file : Passage) → n ≤ length commands
    → is_wanted state ≡ is_wanted first
    → IsLogged state file (log_before geo commands n) → Writes (beginning_if (is_wanted first)) (log_text geo commands) file
log_left_of geo commands n first state file low same logged =
    subst (λ w. Writes (beginning_if w) (log_text geo commands) file) same
    (leaves state file (log_before geo commands n) (log_text geo commands) logged (log_begins geo commands n low))
