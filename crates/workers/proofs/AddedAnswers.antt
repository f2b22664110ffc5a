-- One answer more, behind others.
use Rattle.std.proofs.Common.{◌≡◌, ℕ, ◌+◌, ◌<◌, ◌≤◌, List, [], ◌∷◌, ◌++◌, length, take, drop, get_or, sym, refl, ap, ◌∙◌, subst, arith, append_assoc}
use Rattle.std.proofs.Common.{append-nil}
use Rattle.std.proofs.{lemmas.List.drop_more, lemmas.List.length_push, lemmas.List.take_all, Math.Seq.drop-append_seam}
use Rattle.flash_rule.specs.declared.facts.{Name.TheVariants.Pass as APass, Role.TheVariants.Player}
use Rattle.flash_table.specs.{declared.pass.Pass.Pass, Flash.view_of}
use Rattle.trace.specs.declared.commands.{Command.Command, Op.Op}
use Rattle.volume.specs.{declared.volume.Volume.Volume, Volume.flash_of}
use Rattle.rounds.specs.{Lines.Said, Lines.is_full, Pages.bytes_of, Playing.Played, declared.answer.Kind.Kind, declared.answer_list.Answers.Answers}
use Rattle.rounds.specs.Answers.{page_size_of, said_in, space_for, space_of, HasSpace, HasSpaceFor}
use Rattle.host.specs.Ready.{IsReady}
use Rattle.workers.specs.Playable.{HasPlayedLine, added, lines_at}
use Rattle.workers.proofs.PlayedLines.{Playing, count_lines, other_page, playing_none, playing_more, playing_end}
use Rattle.trace.specs.declared.commands.Op.TheVariants as op
use Rattle.rounds.specs.declared.answer.Kind.TheVariants as kind

-- an answer that tells a page only of a read has room where the line has
pub kind_fits : (n : ℕ) (k : Kind) (o : Op) → (k ≡ kind.Page → o ≡ op.Read) → bytes_of n k ≤ space_for n o
kind_fits n kind.Empty o found = omega arith
kind_fits n kind.Written o found = omega arith
kind_fits n kind.Page o found = let same = ap (space_for n) (found refl) in omega (arith, same)
kind_fits n kind.Met o found = omega arith
kind_fits n kind.Full o found = omega arith

-- The first so many lines are played, and their answers are added
pub record Adding (volume : Volume) (patience : ℕ) (first : Pass) (lines : List Command) (old : Answers) (i : ℕ) (now : Pass) (answers : Answers) : Type 0 where
  pub more : List Said
  pub grown : said_in answers ≡ said_in old ++ more
  pub count : length more ≡ i
  pub page : page_size_of answers ≡ page_size_of old
  pub space : (rest : List Command) → HasSpaceFor old (lines ++ rest) → HasSpaceFor answers (drop i lines ++ rest)
  pub playing : Playing volume patience first lines i now more

pub adding_none : (volume : Volume) (patience : ℕ) (first : Pass) (lines : List Command) (old : Answers) → IsReady (flash_of volume) first
    → Adding volume patience first lines old 0 first old
adding_none volume patience first lines old ready = record {
  more = [];
  grown = sym (append-nil (said_in old));
  count = refl;
  page = refl;
  space = λ rest space. space;
  playing = playing_none volume patience first lines ready;
}

-- the line that is next has room
pub room_next : (volume : Volume) (patience : ℕ) (first now : Pass) (lines : List Command) (old answers : Answers) (i : ℕ) (c : Command) (k : Kind)
    → Adding volume patience first lines old i now answers → i < length lines → c ≡ get_or lines i c
    → HasSpaceFor old lines → (k ≡ kind.Page → c.op ≡ op.Read) → HasSpace answers 1 (bytes_of (page_size_of answers) k)
room_next volume patience first now lines old answers i c k all low at space found =
    let left : drop i lines ++ [] ≡ c ∷ drop (i + 1) lines =
    append-nil (drop i lines) ∙ (drop_more lines i c low ∙ ap (λ d. d ∷ drop (i + 1) lines) (sym at)) in
    let room = subst (HasSpaceFor answers) left (all.space [] (subst (HasSpaceFor old) (sym (append-nil lines)) space)) in
    let kinds = room.kinds in
    let pages = room.pages in
    let fits = kind_fits (page_size_of answers) k c.op found in
    record { kinds = omega arith; pages = omega arith }

-- one step of the loop
module _ (volume : Volume) (patience : ℕ) (first now next : Pass) (lines : List Command) (old answers newer : Answers) (i : ℕ) (c : Command)
    (k : Kind) (page : List ℕ)
    (all : Adding volume patience first lines old i now answers) (low : i < length lines) (at : c ≡ get_or lines i c) (ready : IsReady (flash_of volume) next)
    (found : k ≡ kind.Page → c.op ≡ op.Read) (long : length page ≡ page_size_of answers)
    (line : HasPlayedLine patience now c.op c.sector c.page k page next)
    (pushed : said_in newer ≡ said_in answers ++ record { kind = k; page = take (bytes_of (page_size_of answers) k) page } ∷ [])
    (same : page_size_of newer ≡ page_size_of answers)
    (room : (n m : ℕ) → HasSpace answers (1 + n) (bytes_of (page_size_of answers) k + m) → HasSpace newer n m) where
  whole : k ≡ kind.Page → page ≡ take (bytes_of (page_size_of answers) k) page
  whole is = sym (ap (λ j. take (bytes_of (page_size_of answers) j) page) is ∙ take_all (page_size_of answers) page (omega (arith, long)))

  space_more : (rest : List Command) → HasSpaceFor answers (drop i lines ++ rest) → HasSpaceFor newer (drop (i + 1) lines ++ rest)
  space_more rest space =
      let left : drop i lines ++ rest ≡ c ∷ (drop (i + 1) lines ++ rest) =
      ap (λ l. l ++ rest) (drop_more lines i c low ∙ ap (λ d. d ∷ drop (i + 1) lines) (sym at)) in
      let first_room = subst (HasSpaceFor answers) left space in
      let kinds = first_room.kinds in
      let pages = first_room.pages in
      let fits = kind_fits (page_size_of answers) k c.op found in
      let behind = drop (i + 1) lines ++ rest in
      let more = room (length behind) (space_of (page_size_of answers) behind) (record { kinds = omega arith; pages = omega arith }) in
      subst (λ n. HasSpace newer (length behind) (space_of n behind)) (sym same) more

  pub adding_more : Adding volume patience first lines old (i + 1) next newer
  adding_more =
      let a : Said = record { kind = k; page = take (bytes_of (page_size_of answers) k) page } in
      record {
        more = all.more ++ a ∷ [];
        grown = pushed ∙ (ap (λ l. l ++ a ∷ []) all.grown ∙ append_assoc (said_in old) all.more (a ∷ []));
        count = length_push all.more a ∙ ap (λ n. n + 1) all.count;
        page = same ∙ all.page;
        space = λ rest space. space_more rest (all.space rest space);
        playing = playing_more volume patience first now next lines i all.more a c all.playing low at ready
            (λ t role. other_page t patience (view_of now) c.op c.sector c.page k page a.page (is_full k) (view_of next) whole (line t role));
      }

-- the lines at all places are played
module _ (volume : Volume) (patience : ℕ) (first now : Pass) (commands : List Command) (places : List ℕ) (old answers : Answers) (i : ℕ)
    (all : Adding volume patience first (lines_at commands places) old i now answers) (past : length places ≤ i) (within : i ≤ length places) where
  abbrev lines : List Command
  lines = lines_at commands places

  none_left : length lines ≤ i
  none_left = omega (arith, count_lines commands places)

  added_is : added old answers ≡ all.more
  added_is = ap (drop (length (said_in old))) all.grown ∙ drop-append_seam (said_in old) all.more

  pub adding_end : (t : ℕ) → (view_of first).role ≡ Player (APass t) → Played t patience (view_of first) lines (added old answers) (view_of now)
  adding_end t role =
      subst (λ l. Played t patience (view_of first) lines l (view_of now)) (sym added_is)
      (playing_end volume patience first now lines i all.more all.playing none_left t role)
