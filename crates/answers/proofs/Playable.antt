-- A command that passed the checks of its record can be played: its sector is there, and a write has a page.
use Rattle.std.proofs.Common.{◌≡◌, ℕ, ◌+◌, ◌-◌, ◌<◌, ◌⊎◌, inl, inr, ⊎_elim, List, [], ◌∷◌, length, replicate, refl, subst, sym, ap, ◌∙◌, arith, length-append}
use Rattle.std.specs.{Prelude.Result, Prelude.Ok, Prelude.Err, List.All}
use Rattle.std.proofs.{Math.ListN.get_or, lemmas.List.length-map, lemmas.List.length-replicate, lemmas.List.get_or-map, lemmas.Bool.Decides.nat_tests}
use Rattle.hex.specs.{Hex.decode_of, declared.error.FromHexError.FromHexError}
use Rattle.geometry.specs.{Geometry.sectors_of, Geometry.page_bytes_of, declared.geometry.Geometry.Geometry}
use Rattle.trace.specs.{Page.page_with, declared.commands.Command.Command, declared.commands.Op.Op, declared.fault.TraceFaultKind.TraceFaultKind}
use Rattle.trace.specs.Trace.{◌>>=◌, number_below, op_of, page_of_op, page_of_bytes, command_of, checked, workers_of, records_of, AreCommands}
use Rattle.trace.specs.declared.commands.Op.TheVariants as op
use Rattle.trace.specs.declared.fault.TraceFaultKind.TheVariants as fault
use Rattle.answers.specs.Answers.{IsPlayable}

-- where a chain of checks passed, its first check did, and so did the rest
passed : {A B : Type 0} (m : Result A TraceFaultKind) (f : A → Result B TraceFaultKind) (b : B) → (m >>= f) ≡ Ok b → (a : A) × (m ≡ Ok a) × (f a ≡ Ok b)
passed (Ok a) f b e = (a, refl, e)
passed (Err k) f b e = cc

number_is_below : (bound : ℕ) (otherwise : TraceFaultKind) (text : List ℕ) (n : ℕ) → number_below bound otherwise text ≡ Ok n → n < bound
unfolding number_below
number_is_below bound otherwise text n e = grind (arith, nat_tests, e)

page_is_whole_from : (size : ℕ) (r : Result (List ℕ) FromHexError) (page : List ℕ) → page_of_bytes size r ≡ Ok page → length page ≡ size
page_is_whole_from size (Err x) page e = cc
page_is_whole_from size (Ok bytes) page e =
    let sizes : length (page_with size bytes) ≡ length bytes + (size - length bytes) =
    length-append bytes (replicate (size - length bytes) 0) ∙ ap (λ n. length bytes + n) (length-replicate (size - length bytes) 0) in
    grind (arith, nat_tests, e, sizes)

page_is_whole : (size worker sector : ℕ) (which : Op) (digits page : List ℕ) → page_of_op size which worker sector digits ≡ Ok page
    → (which ≡ op.Write) ⊎ (which ≡ op.New) → length page ≡ size
unfolding page_of_op
page_is_whole size worker sector op.Write digits page e w = page_is_whole_from size (decode_of digits) page e
page_is_whole size worker sector op.New digits page e w = page_is_whole_from size (decode_of digits) page e
page_is_whole size worker sector op.Read digits page e w = ⊎_elim (λ (no : op.Read ≡ op.Write). absurd (cc)) (λ (no : op.Read ≡ op.New). absurd (cc)) w
page_is_whole size worker sector op.Trim digits page e w = ⊎_elim (λ (no : op.Trim ≡ op.Write). absurd (cc)) (λ (no : op.Trim ≡ op.New). absurd (cc)) w
page_is_whole size worker sector op.Meet digits page e w = ⊎_elim (λ (no : op.Meet ≡ op.Write). absurd (cc)) (λ (no : op.Meet ≡ op.New). absurd (cc)) w

abbrev from_page : Geometry → List ℕ → ℕ → Op → ℕ → Result Command TraceFaultKind
from_page geo digits worker which sector =
    page_of_op (page_bytes_of geo) which worker sector digits >>= (λ page. Ok (record { worker = worker; op = which; sector = sector; page = page }))

abbrev from_sector : Geometry → List ℕ → List ℕ → ℕ → Op → Result Command TraceFaultKind
from_sector geo sector_text digits worker which =
    number_below (sectors_of geo) fault.Sector sector_text >>= (λ sector. from_page geo digits worker which sector)

abbrev from_op : Geometry → List ℕ → List ℕ → List ℕ → ℕ → Result Command TraceFaultKind
from_op geo op_text sector_text digits worker = op_of op_text >>= (λ which. from_sector geo sector_text digits worker which)

pub command_is_playable : (geo : Geometry) (fields : List (List ℕ)) (c : Command) → command_of geo fields ≡ Ok c → IsPlayable geo c
unfolding command_of
command_is_playable geo [] c e = cc
command_is_playable geo (a ∷ []) c e = cc
command_is_playable geo (a ∷ b ∷ []) c e = cc
command_is_playable geo (a ∷ b ∷ d ∷ []) c e = cc
command_is_playable geo (worker_text ∷ op_text ∷ sector_text ∷ digits ∷ []) c e =
    let worker = passed (number_below (workers_of geo) fault.Worker worker_text) (from_op geo op_text sector_text digits) c e in
    let which = passed (op_of op_text) (from_sector geo sector_text digits worker.0) c worker.2 in
    let sector = passed (number_below (sectors_of geo) fault.Sector sector_text) (from_page geo digits worker.0 which.0) c which.2 in
    let page = passed (page_of_op (page_bytes_of geo) which.0 worker.0 sector.0 digits)
    (λ page. Ok (record { worker = worker.0; op = which.0; sector = sector.0; page = page })) c sector.2 in
    let made : record { worker = worker.0; op = which.0; sector = sector.0; page = page.0 } ≡ c = cc (page.2) in
    subst (IsPlayable geo) made (record {
      worker = number_is_below (workers_of geo) fault.Worker worker_text worker.0 worker.1;
      sector = number_is_below (sectors_of geo) fault.Sector sector_text sector.0 sector.1;
      page = λ is. page_is_whole (page_bytes_of geo) worker.0 sector.0 which.0 digits page.0 page.1 (inl is);
      new_page = λ is. page_is_whole (page_bytes_of geo) worker.0 sector.0 which.0 digits page.0 page.1 (inr is);
    })
command_is_playable geo (a ∷ b ∷ d ∷ f ∷ h ∷ rest) c e = cc

-- so each command of a trace can be played
pub commands_are_playable : (geo : Geometry) (text : List ℕ) (commands : List Command) → AreCommands (checked geo text) commands → All (IsPlayable geo) commands
commands_are_playable geo text commands are k d within =
    let as_ok : Command → Result Command TraceFaultKind = λ command. Ok command in
    let in_records : k < length (records_of text) = omega (arith, ap length are, length-map (records_of text) (command_of geo), length-map commands as_ok) in
    let e : command_of geo (get_or (records_of text) k []) ≡ Ok (get_or commands k d) =
    sym (get_or-map (command_of geo) (records_of text) k [] (Ok d) in_records)
    ∙ (ap (λ rs. get_or rs k (Ok d)) are ∙ get_or-map as_ok commands k d (Ok d) within) in
    command_is_playable geo (get_or (records_of text) k []) (get_or commands k d) e
