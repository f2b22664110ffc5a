-- A worker that has played is able to play on, and so are a team's workers that were lent as a row and came back.
use Rattle.std.proofs.Common.{◌≡◌, List, length, sym, ap, ◌∙◌, ℕ, ◌+◌, ◌<◌, ◌≤◌, All, ◌++◌, get_or, take, drop, subst, arith, length-append}
use Rattle.std.proofs.lemmas.List.{with_items_is, map-append, length-drop, drop-drop, take-append-drop}
use Rattle.std.specs.Prelude.{Vec}
use Rattle.std.specs.Global.{Global}
use Rattle.std.specs.Vec.{with_items}
use Rattle.std.proofs.lemmas.List.Folds.{length-prefix_len}
use Rattle.std.proofs.lemmas.List.Sums.{prefix_len-le-length}
use Rattle.std.specs.Arc.{arc_value}
use Rattle.std.specs.List.{prefix_len, slice_range, take_while}
use Rattle.flash_table.specs.declared.pass.Pass.{Pass}
use Rattle.host.specs.Ready.{IsReady}
use Rattle.trace.specs.declared.commands.Command.{Command}
use Rattle.volume.specs.Volume.{flash_of}
use Rattle.rounds.specs.Answers.{page_size_of, said_in, HasSpaceFor}
use Rattle.rounds.specs.declared.answer_list.Answers.{Answers}
use Rattle.rounds.proofs.Pages.{space_of-append}
use Rattle.workers.specs.Playable.{HasAnswered, lines_at}
use Rattle.workers.specs.declared.worker.Worker.{Worker}
use Rattle.workers.specs.Able.{IsAble}
use Rattle.workers.proofs.PlayedLines.{count_lines}
use Rattle.workers.proofs.WorkerRows.{count_before, lines_part, All-part}
use Rattle.workers.specs.Workers.{answered, is_before, round_lines, round_places}

pub lent_all : {X : Type 0} (row : Vec X Global) (lent new : List X) → lent ≡ row.items → length new ≡ length lent → (with_items row new).items ≡ new
lent_all row lent new is long = with_items_is row new (long ∙ (ap (λ l. length l) is ∙ sym row.ok.0))

module _ (end : ℕ) (worker : Worker) where
  -- the places that have no answer yet, and how many of them are in the round
  abbrev left : List ℕ
  left = drop (answered worker) worker.places.items

  abbrev pub round_size : ℕ
  round_size = prefix_len (is_before end) left

  abbrev lines : List Command
  lines = round_lines end worker

  abbrev rest : List Command
  rest = lines_at (arc_value worker.commands) (drop (answered worker + round_size) worker.places.items)

  -- the round's places, by where the row of places stops to be before the end
  pub range_is : (row part : List ℕ) (next to : ℕ) → row ≡ worker.places.items → part ≡ worker.places.items → next ≡ answered worker → next ≤ to
      → to ≤ length row → ((k : ℕ) → next ≤ k → k < to → get_or row k 0 < end)
      → (to < length row → end ≤ get_or row to 0) → slice_range part next to ≡ round_places end worker
  range_is row part next to is also count later within before behind =
      (λ i. take (sym (count_before row next to end later within before behind) i) (drop next ((also ∙ sym is) i)))
      ∙ (λ i. take_while (is_before end) (drop (count i) (is i)))

  -- what holds of all its lines holds of the round's
  pub round_all : (P : Command → Type 0) → All P (lines_at (arc_value worker.commands) worker.places.items) → All P lines
  round_all P all = subst (All P) (sym (lines_part (arc_value worker.commands) worker.places.items (answered worker) round_size))
      (All-part P (lines_at (arc_value worker.commands) worker.places.items) (answered worker) round_size all)

  -- as many answers more as the round has lines
  round_count : length lines ≡ round_size
  round_count = count_lines (arc_value worker.commands) (round_places end worker) ∙ length-prefix_len (is_before end) left

  answered_all : (answers : Answers) → HasAnswered lines worker.answers answers → length (said_in answers) ≡ answered worker + round_size
  answered_all answers told = let count = told.count in omega (arith, round_count)

  -- the lines that are not answered yet, in two parts
  lines_left : lines_at (arc_value worker.commands) left ≡ lines ++ rest
  lines_left =
      ap (lines_at (arc_value worker.commands))
      (sym (take-append-drop round_size left) ∙ ap (λ l. take round_size left ++ l) (drop-drop round_size (answered worker) worker.places.items))
      ∙ map-append _ (round_places end worker) (drop (answered worker + round_size) worker.places.items)

  -- there is room for the round's lines
  round_space : HasSpaceFor worker.answers (lines ++ rest)
  round_space = subst (HasSpaceFor worker.answers) lines_left worker.able.space

  pub round_room : HasSpaceFor worker.answers lines
  round_room =
      let kinds = round_space.kinds in
      let pages = round_space.pages in
      record { kinds = omega (arith, length-append lines rest); pages = omega (arith, space_of-append (page_size_of worker.answers) lines rest) }

  pub able_again : (pass : Pass) (answers : Answers) (buffer : List ℕ) → IsReady (flash_of (arc_value worker.volume)) pass
      → HasAnswered lines worker.answers answers → length buffer ≡ length worker.buffer.items
      → IsAble (arc_value worker.volume) (arc_value worker.commands) pass worker.places.items answers buffer
  able_again pass answers buffer ready told same =
      let count = answered_all answers told in
      record {
        ready = ready;
        there = worker.able.there;
        doable = worker.able.doable;
        within =
            (let few = worker.able.within in
            let less = prefix_len-le-length (is_before end) left in omega (arith, count, few, less, length-drop (answered worker) worker.places.items));
        page = told.page ∙ worker.able.page;
        space = subst (λ k. HasSpaceFor answers (lines_at (arc_value worker.commands) (drop k worker.places.items))) (sym count) (told.space rest round_space);
        paged = same ∙ worker.able.paged;
      }
