-- How many pages a drain programmed for copies: as many as its broom had room for before it, without those that it has room for after it.
use Rattle.std.proofs.Common.{◌≡◌, ℕ, ◌-◌, List, [], ◌++◌, length, refl, sym, ap, subst, append-nil, arith}
use Rattle.std.proofs.lemmas.List.{length-append}
use Rattle.geometry.specs.declared.words.MapWord.{MapWord}
use Rattle.flash_rule.specs.declared.view.View.{View}
use Rattle.flash_table.specs.declared.broom_seat.BroomBlocks.{BroomBlocks}
use Rattle.broom.specs.{declared.broom.Broom.Broom, declared.answer.Drain.Drain, Handing.DrainNextOneTold, Handing.DrainOneTold, Handing.IsElse}
use Rattle.broom.specs.{Emptying.Programmed, Emptying.pages_to_fill, Ready.blocks_of_broom, Ready.view_of_broom}
use Rattle.workers.specs.Tallies.{GrowsBy}
use Rattle.broom.specs.declared.answer.Drain.TheVariants as drain

-- the pages that are programmed between two brooms are those that there is no more room for
abbrev pub FillsRoom : ℕ → Broom → Broom → Type 0
FillsRoom pages a b =
    GrowsBy (length (pages_to_fill pages (blocks_of_broom a)) - length (pages_to_fill pages (blocks_of_broom b))) (view_of_broom a).programs
    (view_of_broom b).programs

fills : (pages its : ℕ) (v : View) (a b : Broom) (copies : List MapWord) → its ≡ pages → v.programs ≡ (view_of_broom a).programs
    → Programmed its v (blocks_of_broom a) copies (view_of_broom b) (blocks_of_broom b)
    → FillsRoom pages a b
fills pages its v a b copies same from it = (
  copies,
  subst (λ (l : List MapWord). (view_of_broom b).programs ≡ l ++ copies) from it.listed,
  (let left = ap (length {A = MapWord}) (subst (λ (n : ℕ). pages_to_fill n (blocks_of_broom a) ≡ copies ++ pages_to_fill n (blocks_of_broom b)) same it.left) in
      omega (arith, left, length-append copies (pages_to_fill pages (blocks_of_broom b)))),
)

stays : (pages : ℕ) (a b : Broom) → (view_of_broom b).programs ≡ (view_of_broom a).programs → blocks_of_broom b ≡ blocks_of_broom a → FillsRoom pages a b
stays pages a b programs blocks = (
  [],
  subst (λ (l : List MapWord). (view_of_broom b).programs ≡ l) (sym (append-nil (view_of_broom a).programs)) programs,
  (let same = ap (λ (x : BroomBlocks). length (pages_to_fill pages x)) blocks in omega arith),
)

-- at the ends the broom has changed in its place at the queue alone
around : (pages : ℕ) (a b c d : Broom) → IsElse a b → IsElse c d → FillsRoom pages b c → FillsRoom pages a d
around pages a b c d first last it = subst (λ (x : Broom × Broom). FillsRoom pages x.0 x.1) (λ i. (first i, sym last i)) it

before_it : (pages : ℕ) (a b c : Broom) → IsElse a b → FillsRoom pages b c → FillsRoom pages a c
before_it pages a b c first it = subst (λ (x : Broom). FillsRoom pages x c) first it

pages_same : (pages : ℕ) (a b : Broom) → IsElse a b → (view_of_broom a).numbers.pages ≡ pages → (view_of_broom b).numbers.pages ≡ pages
pages_same pages a b first is = subst (λ (x : View). x.numbers.pages ≡ pages) (sym (ap view_of_broom first)) is

pub survey_fills : (limit pages : ℕ) (a b : Broom) (d : Drain) → (view_of_broom a).numbers.pages ≡ pages → DrainOneTold limit a d b → FillsRoom pages a b
survey_fills limit pages a b (drain.Drained block copied) is told =
    let from = told.drain.relieved in
    let to = told.drained in
    let did = told.drain.drain.0 in
    around pages a from to b told.drain.first.rest told.handed.rest
    (fills pages (view_of_broom from).numbers.pages _ from to did.emptied.copies (pages_same pages a from told.drain.first.rest is) refl did.emptied.programmed)
survey_fills limit pages a b drain.NothingToGain is told =
    before_it pages a told.relieved b told.first.rest (stays pages told.relieved b (ap (λ (x : View). x.programs) told.drain.0.0.changed) told.drain.0.1)
survey_fills limit pages a b drain.NoSpare is told =
    before_it pages a told.relieved b told.first.rest (stays pages told.relieved b (ap (λ (x : View). x.programs) told.drain.0.view) told.drain.0.blocks)
survey_fills limit pages a b drain.Lost is told =
    before_it pages a told.relieved b told.first.rest (stays pages told.relieved b (ap (λ (x : View). x.programs) told.drain.0.0.changed) told.drain.0.1)
survey_fills limit pages a b drain.QueueFull is told = stays pages a b (ap (λ (x : Broom). (view_of_broom x).programs) told.rest) (ap blocks_of_broom told.rest)

pub next_fills : (limit pages : ℕ) (a b : Broom) (d : Drain) → (view_of_broom a).numbers.pages ≡ pages → DrainNextOneTold limit a d b → FillsRoom pages a b
next_fills limit pages a b (drain.Drained block copied) is told =
    let from = told.drain.relieved in
    let to = told.drained in
    let did = told.drain.drain.1 in
    around pages a from to b told.drain.first.rest told.handed.rest
    (fills pages (view_of_broom from).numbers.pages _ from to did.emptied.copies (pages_same pages a from told.drain.first.rest is) refl did.emptied.programmed)
next_fills limit pages a b drain.NothingToGain is told =
    before_it pages a told.relieved b told.first.rest (stays pages told.relieved b (ap (λ (x : View). x.programs) told.drain.1) told.drain.2)
next_fills limit pages a b drain.NoSpare is told =
    before_it pages a told.relieved b told.first.rest (stays pages told.relieved b (ap (λ (x : View). x.programs) told.drain.0.view) told.drain.0.blocks)
next_fills limit pages a b drain.Lost is told =
    before_it pages a told.relieved b told.first.rest (stays pages told.relieved b (ap (λ (x : View). x.programs) told.drain.2) told.drain.3)
next_fills limit pages a b drain.QueueFull is told = stays pages a b (ap (λ (x : Broom). (view_of_broom x).programs) told.rest) (ap blocks_of_broom told.rest)
