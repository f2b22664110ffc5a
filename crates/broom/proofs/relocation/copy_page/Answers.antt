use Rattle.std.proofs.Common.{◌≡◌, ℕ, ◌+◌, List, Some, sym, refl, ap, ◌∙◌, subst, arith}
use Rattle.geometry.specs.Geometry.{numbers_of, pages_of, words_of}
use Rattle.flash_rule.specs.{declared.facts.Source.Source, declared.view.View.View, Plays.next_page}
use Rattle.flash_rule.proofs.Owning.{some_same}
use Rattle.flash_table.specs.{Owning.owned_of, Flash.broom_view, Flash.own_blocks, Flash.geometry_of}
use Rattle.flash_table.specs.declared.{pass.OpenBlock.OpenBlock, broom_seat.BroomBlocks.BroomBlocks}
use Rattle.flash_table.proofs.PassResults.{starts_same}
use Rattle.broom.specs.{Ready.HasRoom, Relocating.Copied}
use Rattle.broom.proofs.Copying.{Filling, filling_none, filling_can, filling_same, filling_more, put_work, filled_can, copied, copied_sweeps}
use Rattle.broom.proofs.relocation.copy_page.Goals.{In-Some, In-loop-i, After-get_source_word-word, After-loop-i, After-put_copy_word-2}
use Rattle.broom.proofs.relocation.copy_page.Goals as goal

-- the destination, with the room that it has
opened : (c : In-Some) → (own_blocks c.args.seat.now).destination ≡ Some c.in-Some.destination
opened c = ap (λ (x : BroomBlocks). x.destination) (sym c.blocks-2.ensures) ∙ c.in-Some.is

room : (c : In-Some) → HasRoom (geometry_of c.args.flash.now) (pages_of (geometry_of c.args.flash.now)) c.in-Some.destination
room c = c.requires.sweeps.1.destination c.in-Some.destination (opened c)

pub loop-i-init : goal.loop-i-init
loop-i-init c o there value is =
    let sweeps = c.requires.sweeps.1 in filling_none c.args.flash.now c.args.seat.now o value sweeps.seat there sweeps.filed

-- the words so far stand in the destination, for the value that the source has
so_far : (c : In-loop-i) → Filling c.args.flash.now (broom_view c.args.seat.now)
    (own_blocks c.args.seat.now) c.in-Some.destination c.requires.source.0 c.loop-i.i c.loop-i.seat
so_far c = let t = c.requires.source in c.loop-i.invariant c.in-Some.destination (opened (goal.at.In-loop-i c).In-Some) t.0 t.1

pub get_source_word-word-requires-clause-broom : goal.get_source_word-word-requires-clause-broom
get_source_word-word-requires-clause-broom c = (so_far (goal.at.get_source_word-word-requires-clause-broom c).In-loop-i).seat

pub get_source_word-word-requires-clause-source : goal.get_source_word-word-requires-clause-source
get_source_word-word-requires-clause-source c =
    let t = c.requires.source in
    let x : Source = record { page = c.args.page; stamp = c.args.sector; value = Some t.0 } in
    (x, ap (λ (v : View). v.source) (so_far (goal.at.get_source_word-word-requires-clause-source c).In-loop-i).changed ∙ t.1, refl)

-- after a word of the source was read
read : (c : After-get_source_word-word) (o : OpenBlock) → (own_blocks c.args.seat.now).destination ≡ Some o → (value : List ℕ)
    → (broom_view c.args.seat.now).source ≡ Some (record { page = c.args.page; stamp = c.args.sector; value = Some value })
    → Filling c.args.flash.now (broom_view c.args.seat.now) (own_blocks c.args.seat.now) o value c.loop-i.i c.get_source_word-word.new.broom
read c o there value is =
    let got = c.get_source_word-word.ensures in
    filling_same c.args.flash.now (broom_view c.args.seat.now) (own_blocks c.args.seat.now) o value c.loop-i.i c.loop-i.seat c.get_source_word-word.new.broom
    (c.loop-i.invariant o there value is) got.broom got.same got.blocks

pub put_copy_word-requires-clause-next : goal.put_copy_word-requires-clause-next
put_copy_word-requires-clause-next c =
    let f = c.args.flash.now in
    let here = (goal.at.put_copy_word-requires-clause-next c).In-Some in
    let o = c.in-Some.destination in
    let t = c.requires.source in
    let h = read (goal.at.put_copy_word-requires-clause-next c).After-get_source_word-word o (opened here) t.0 t.1 in
    let r = room here in
    let words : c.words-words.result ≡ words_of (geometry_of f) = c.words-words.ensures.value ∙ ap words_of c.geometry.ensures in
    let below = c.loop-i-test.true in (
      o,
      ap (λ (x : BroomBlocks). x.destination) h.kept ∙ h.opened,
      filling_can f (broom_view c.args.seat.now) (own_blocks c.args.seat.now) o t.0 c.loop-i.i c.get_source_word-word.new.broom h r.room (omega arith),
      sym h.long,
      r.low,
    )

pub put_copy_word-requires-clause-start : goal.put_copy_word-requires-clause-start
put_copy_word-requires-clause-start c o is =
    let t = c.requires.source in
    let here = opened (goal.at.put_copy_word-requires-clause-start c).In-Some in
    let h = read (goal.at.put_copy_word-requires-clause-start c).After-get_source_word-word c.in-Some.destination here t.0 t.1 in
    starts_same (numbers_of (geometry_of c.args.flash.now)) c.page_start-start.result c.page_start-start.ensures
    (ap (λ (x : BroomBlocks). x.destination) h.kept ∙ h.opened) is

pub loop-i-preserved : goal.loop-i-preserved
loop-i-preserved c o there value is =
    let f = c.args.flash.now in
    let at = (goal.at.loop-i-preserved c).After-get_source_word-word in
    let x : Source = record { page = c.args.page; stamp = c.args.sector; value = Some value } in
    let h = read at o there value is in
    let source = ap (λ (v : View). v.source) (c.loop-i.invariant o there value is).changed ∙ is in
    filling_more f (broom_view c.args.seat.now) (own_blocks c.args.seat.now) o value c.loop-i.i _ c.get_source_word-word.new.broom
    c.put_copy_word.new.broom h c.put_copy_word.ensures.broom c.put_copy_word.ensures.blocks
    (c.put_copy_word.ensures.put o (ap (λ (y : BroomBlocks). y.destination) h.kept ∙ h.opened))
    (omega (arith, c.get_source_word-word.ensures.value x value source refl))

-- all words of the source stand in the copy
full : (c : After-loop-i) (value : List ℕ)
    → (broom_view c.args.seat.now).source ≡ Some (record { page = c.args.page; stamp = c.args.sector; value = Some value })
    → Filling c.args.flash.now (broom_view c.args.seat.now) (own_blocks c.args.seat.now) c.in-Some.destination value
    (words_of (geometry_of c.args.flash.now)) c.loop-i.seat
full c value is =
    let f = c.args.flash.now in
    let words : c.words-words.result ≡ words_of (geometry_of f) = c.words-words.ensures.value ∙ ap words_of c.geometry.ensures in
    let most = c.loop-i.auto.i-end in
    let least = c.loop-i-test.false in
    let all : c.loop-i.i ≡ words_of (geometry_of f) = omega arith in
    let h = c.loop-i.invariant c.in-Some.destination (opened (goal.at.After-loop-i c).In-Some) value is in
    subst (λ k. Filling f (broom_view c.args.seat.now) (own_blocks c.args.seat.now) c.in-Some.destination value k c.loop-i.seat) all h

-- and the stamp behind them
stamped : (c : After-put_copy_word-2) (value : List ℕ)
    → (broom_view c.args.seat.now).source ≡ Some (record { page = c.args.page; stamp = c.args.sector; value = Some value })
    → broom_view c.put_copy_word-2.new.broom ≡ record (broom_view c.loop-i.seat) { work = Some (put_work c.in-Some.destination c.loop-i.seat c.args.sector) }
stamped c value is =
    let h = full (goal.at.After-put_copy_word-2 c).After-loop-i value is in
    c.put_copy_word-2.ensures.put c.in-Some.destination (ap (λ (x : BroomBlocks). x.destination) h.kept ∙ h.opened)
    ∙ ap (λ n. record (broom_view c.loop-i.seat) { work = Some (put_work c.in-Some.destination c.loop-i.seat n) }) c.from.ensures

pub put_copy_word-requires-2-clause-broom : goal.put_copy_word-requires-2-clause-broom
put_copy_word-requires-2-clause-broom c = let t = c.requires.source in (full (goal.at.put_copy_word-requires-2-clause-broom c).After-loop-i t.0 t.1).seat

pub put_copy_word-requires-2-clause-next : goal.put_copy_word-requires-2-clause-next
put_copy_word-requires-2-clause-next c =
    let f = c.args.flash.now in
    let o = c.in-Some.destination in
    let t = c.requires.source in
    let h = full (goal.at.put_copy_word-requires-2-clause-next c).After-loop-i t.0 t.1 in
    let r = room (goal.at.put_copy_word-requires-2-clause-next c).In-Some in
    let words : c.words-words.result ≡ words_of (geometry_of f) = c.words-words.ensures.value ∙ ap words_of c.geometry.ensures in (
      o,
      ap (λ (x : BroomBlocks). x.destination) h.kept ∙ h.opened,
      filling_can f (broom_view c.args.seat.now) (own_blocks c.args.seat.now) o t.0 (words_of (geometry_of f)) c.loop-i.seat h r.room (omega arith),
      words ∙ sym h.long,
      r.low,
    )

pub put_copy_word-requires-2-clause-start : goal.put_copy_word-requires-2-clause-start
put_copy_word-requires-2-clause-start c o is =
    let t = c.requires.source in
    let h = full (goal.at.put_copy_word-requires-2-clause-start c).After-loop-i t.0 t.1 in
    starts_same (numbers_of (geometry_of c.args.flash.now)) c.page_start-start.result c.page_start-start.ensures
    (ap (λ (x : BroomBlocks). x.destination) h.kept ∙ h.opened) is

pub count_copy-requires-clause-filled : goal.count_copy-requires-clause-filled
count_copy-requires-clause-filled c =
    let at = (goal.at.count_copy-requires-clause-filled c).After-put_copy_word-2 in
    let o = c.in-Some.destination in
    let t = c.requires.source in
    let h = full (goal.at.After-put_copy_word-2 at).After-loop-i t.0 t.1 in
    let put = c.put_copy_word-2.ensures in
    let r = room (goal.at.After-put_copy_word-2 at).In-Some in (
      o,
      put_work o c.loop-i.seat c.args.sector,
      ap (λ (x : BroomBlocks). x.destination) (put.blocks ∙ h.kept) ∙ h.opened,
      filled_can c.args.flash.now (broom_view c.args.seat.now) (own_blocks c.args.seat.now) o t.0 c.args.sector c.loop-i.seat c.put_copy_word-2.new.broom h
          (stamped at t.0 t.1) put.broom put.blocks,
      r.room,
      r.low,
    )

pub returns-clause-copied : goal.returns-clause-copied
returns-clause-copied c o value there source whole =
    let f = c.args.flash.now in
    let at = (goal.at.returns-clause-copied c).After-put_copy_word-2 in
    let p = c.in-Some.destination in
    let h = full (goal.at.After-put_copy_word-2 at).After-loop-i value source in
    let put = c.put_copy_word-2.ensures in
    let now = stamped at value source in
    let can = filled_can f (broom_view c.args.seat.now) (own_blocks c.args.seat.now) p value c.args.sector c.loop-i.seat c.put_copy_word-2.new.broom h
    now put.broom put.blocks in
    let counted = c.count_copy.ensures.counted p (put_work p c.loop-i.seat c.args.sector)
    (ap (λ (x : BroomBlocks). x.destination) (put.blocks ∙ h.kept) ∙ h.opened) can in
    let x : Source = record { page = c.args.page; stamp = c.args.sector; value = Some value } in
    let done = copied f (broom_view c.args.seat.now) (own_blocks c.args.seat.now) p value c.args.sector c.loop-i.seat c.put_copy_word-2.new.broom h
    now put.broom put.blocks c.count_copy.new.broom counted x source refl refl whole in
    let same : p ≡ o = some_same p o (sym (opened (goal.at.After-put_copy_word-2 at).In-Some) ∙ there) in
    let P : OpenBlock → Type 0 = λ q. Copied (broom_view c.args.seat.now) q x (next_page (owned_of p)) (broom_view c.count_copy.new.broom) in subst P same done

pub returns-clause-blocks : goal.returns-clause-blocks
returns-clause-blocks c o is =
    let t = c.requires.source in
    let h = full (goal.at.After-put_copy_word-2 (goal.at.returns-clause-blocks c).After-put_copy_word-2).After-loop-i t.0 t.1 in
    let same : own_blocks c.put_copy_word-2.new.broom ≡ own_blocks c.args.seat.now = c.put_copy_word-2.ensures.blocks ∙ h.kept in
    c.count_copy.ensures.blocks o (ap (λ (x : BroomBlocks). x.destination) same ∙ is)
    ∙ (λ i. record (same i) { destination = Some (record o { written = o.written + 1 }) })

pub returns-clause-sweeps : goal.returns-clause-sweeps
returns-clause-sweeps c x g =
    let f = c.args.flash.now in
    let at = (goal.at.returns-clause-sweeps c).After-put_copy_word-2 in
    let p = c.in-Some.destination in
    let t = c.requires.source in
    let h = full (goal.at.After-put_copy_word-2 at).After-loop-i t.0 t.1 in
    let put = c.put_copy_word-2.ensures in
    let now = stamped at t.0 t.1 in
    let can = filled_can f (broom_view c.args.seat.now) (own_blocks c.args.seat.now) p t.0 c.args.sector c.loop-i.seat c.put_copy_word-2.new.broom h
    now put.broom put.blocks in
    let here = ap (λ (x : BroomBlocks). x.destination) (put.blocks ∙ h.kept) ∙ h.opened in
    let counted = c.count_copy.ensures.counted p (put_work p c.loop-i.seat c.args.sector) here can in
    copied_sweeps f (broom_view c.args.seat.now) (own_blocks c.args.seat.now) p t.0 c.args.sector c.loop-i.seat c.put_copy_word-2.new.broom h now
    put.broom put.blocks c.count_copy.new.broom counted x c.args.seat.now g refl refl c.count_copy.ensures.broom (c.count_copy.ensures.blocks p here)
