-- What a broom's view grows by with each call.
use Rattle.std.proofs.Common.{◌≡◌, ℕ, ◌+◌, List, [], ◌∷◌, ◌++◌, ◌⊎◌, inl, inr, Bool, true, false, refl, sym, ap, ◌∙◌, subst, append-nil, append_assoc, add-zero}
use Rattle.std.proofs.Common.{arith}
use Rattle.std.proofs.lemmas.List.{length-append}
use Rattle.flash_rule.specs.declared.{facts.Cycle.Cycle, view.View.View}
use Rattle.broom.specs.declared.{broom.Broom.Broom, answer.Drain.Drain, answer.Erase.Erase}
use Rattle.broom.specs.{Dead.DeadBySurvey, Dead.DeadTold, Dead.InspectedTold, Told.DrainTold, Told.NextTold, Told.SurveyLeft}
use Rattle.broom.specs.Handing.{DrainDeadOneTold, EraseOneTold, IsElse, TurnTold}
use Rattle.broom.specs.{Ready.blocks_of_broom, Ready.view_of_broom, Surveying.Chosen, Told.DidRestock, Told.HadSpare, Told.RestockTold}
use Rattle.flash_table.specs.declared.broom_seat.BroomBlocks.{BroomBlocks}
use Rattle.workers.specs.declared.collector.{broom_answer.BroomAnswer.BroomAnswer, tally.Tally.Tally}
use Rattle.workers.specs.{Collecting.CallTold, Collecting.HasMadeCalls, Tallies.GrowsBy, Tallies.HasGrown}
use Rattle.workers.specs.Tallies.{added, answer_adds, drain_adds, erase_adds, nothing_done, survey_adds, total_of}
use Rattle.broom.specs.declared.answer.Drain.TheVariants as drain
use Rattle.broom.specs.declared.answer.Erase.TheVariants as erase
use Rattle.workers.specs.declared.collector.broom_answer.BroomAnswer.TheVariants as by

-- what a view has grown by, but for the pages that were programmed
record Grew (v : View) (count : Tally) (w : View) : Type 0 where
  role : w.role ≡ v.role
  drains : GrowsBy count.drained v.drains w.drains
  moves : w.moves ≡ v.moves + count.moved
  erases : GrowsBy count.erased v.erases w.erases
  lost : GrowsBy count.lost v.lost w.lost

-- a list that stays
stays : {X : Type 0} (xs ys : List X) → ys ≡ xs → GrowsBy 0 xs ys
stays xs ys is = ([], is ∙ sym (append-nil xs), refl)

-- a list with one entry more
one_more : {X : Type 0} (xs ys : List X) (x : X) → ys ≡ xs ++ x ∷ [] → GrowsBy 1 xs ys
one_more xs ys x is = (x ∷ [], is, refl)

grows_then : {X : Type 0} (n m : ℕ) (xs ys zs : List X) → GrowsBy n xs ys → GrowsBy m ys zs → GrowsBy (n + m) xs zs
grows_then n m xs ys zs one two = (
  one.0 ++ two.0,
  two.1 ∙ (ap (λ l. l ++ two.0) one.1 ∙ append_assoc xs one.0 two.0),
  (let a = one.2 in let b = two.2 in omega (arith, length-append one.0 two.0)),
)

grown_then : (v w x : View) (s t : Tally) → HasGrown v s w → HasGrown w t x → HasGrown v (added s t) x
grown_then v w x s t one two = record {
  role = two.role ∙ one.role;
  drains = grows_then s.drained t.drained v.drains w.drains x.drains one.drains two.drains;
  moves = (let a = one.moves in let b = two.moves in omega arith);
  programs = grows_then s.programmed t.programmed v.programs w.programs x.programs one.programs two.programs;
  erases = grows_then s.erased t.erased v.erases w.erases x.erases one.erases two.erases;
  lost = grows_then s.lost t.lost v.lost w.lost x.lost one.lost two.lost;
}

-- a call by which none of these has changed
grown_none : (v w : View) (t : Tally) → t.drained ≡ 0 → t.moved ≡ 0 → t.erased ≡ 0 → t.lost ≡ 0 → w.role ≡ v.role → w.drains ≡ v.drains
    → w.moves ≡ v.moves → w.erases ≡ v.erases → w.lost ≡ v.lost
    → Grew v t w
grown_none v w t drained moved erased failed role drains moves erases lost = record {
  role = role;
  drains = subst (λ (n : ℕ). GrowsBy n v.drains w.drains) (sym drained) (stays v.drains w.drains drains);
  moves = omega arith;
  erases = subst (λ (n : ℕ). GrowsBy n v.erases w.erases) (sym erased) (stays v.erases w.erases erases);
  lost = subst (λ (n : ℕ). GrowsBy n v.lost w.lost) (sym failed) (stays v.lost w.lost lost);
}

-- the same, where the whole view has stayed
grown_same : (v w : View) (t : Tally) → t.drained ≡ 0 → t.moved ≡ 0 → t.erased ≡ 0 → t.lost ≡ 0 → w ≡ v → Grew v t w
grown_same v w t drained moved erased failed is =
    grown_none v w t drained moved erased failed (ap (λ (x : View). x.role) is) (ap (λ (x : View). x.drains) is) (ap (λ (x : View). x.moves) is)
    (ap (λ (x : View). x.erases) is)
    (ap (λ (x : View). x.lost) is)

grown_drain : (v w : View) (copied : ℕ) (c : Cycle) → w.role ≡ v.role → w.drains ≡ v.drains ++ c ∷ [] → w.moves ≡ v.moves + copied
    → w.erases ≡ v.erases → w.lost ≡ v.lost
    → Grew v (record nothing_done { drained = 1; moved = copied }) w
grown_drain v w copied c role drains moves erases lost = record {
  role = role;
  drains = one_more v.drains w.drains c drains;
  moves = moves;
  erases = stays v.erases w.erases erases;
  lost = stays v.lost w.lost lost;
}

grown_lost : (v w : View) (block : ℕ) → w.role ≡ v.role → w.drains ≡ v.drains → w.moves ≡ v.moves → w.erases ≡ v.erases
    → w.lost ≡ v.lost ++ block ∷ [] → Grew v (record nothing_done { lost = 1 }) w
grown_lost v w block role drains moves erases lost = record {
  role = role;
  drains = stays v.drains w.drains drains;
  moves = moves ∙ sym (add-zero v.moves);
  erases = stays v.erases w.erases erases;
  lost = one_more v.lost w.lost block lost;
}

grown_erase : (v w : View) (kept retired : ℕ) (c : Cycle) → w.role ≡ v.role → w.drains ≡ v.drains → w.moves ≡ v.moves → w.erases ≡ v.erases ++ c ∷ []
    → w.lost ≡ v.lost
    → Grew v (record nothing_done { erased = 1; kept = kept; retired = retired }) w
grown_erase v w kept retired c role drains moves erases lost = record {
  role = role;
  drains = stays v.drains w.drains drains;
  moves = moves ∙ sym (add-zero v.moves);
  erases = one_more v.erases w.erases c erases;
  lost = stays v.lost w.lost lost;
}

-- at the ends the broom has changed in its place at the queue alone
around : (a b c d : Broom) (t : Tally) → IsElse a b → IsElse c d → Grew (view_of_broom b) t (view_of_broom c) → Grew (view_of_broom a) t (view_of_broom d)
around a b c d t first last grown = subst (λ (x : View × View). Grew x.0 t x.1) (λ i. (ap view_of_broom first i, sym (ap view_of_broom last) i)) grown

before_it : (a b c : Broom) (t : Tally) → IsElse a b → Grew (view_of_broom b) t (view_of_broom c) → Grew (view_of_broom a) t (view_of_broom c)
before_it a b c t first grown = subst (λ (x : View). Grew x t (view_of_broom c)) (ap view_of_broom first) grown

-- what a view grew by before which a survey was made
behind_survey : (a r : Broom) (b : ℕ) (w : View) (t : Tally) → Chosen (view_of_broom a) b r → Grew (view_of_broom r) t w → Grew (view_of_broom a) t w
behind_survey a r b w t chosen grew =
    let is = chosen.changed in
    record {
      role = grew.role ∙ ap (λ (x : View). x.role) is;
      drains = subst (λ (l : List Cycle). GrowsBy t.drained l w.drains) (ap (λ (x : View). x.drains) is) grew.drains;
      moves = grew.moves ∙ ap (λ (x : View). x.moves + t.moved) is;
      erases = subst (λ (l : List Cycle). GrowsBy t.erased l w.erases) (ap (λ (x : View). x.erases) is) grew.erases;
      lost = subst (λ (l : List ℕ). GrowsBy t.lost l w.lost) (ap (λ (x : View). x.lost) is) grew.lost;
    }

drain_grows : (a b : Broom) (d : Drain) → DrainTold a d b → Grew (view_of_broom a) (survey_adds d) (view_of_broom b)
drain_grows a b (drain.Drained block copied) did =
    grown_drain (view_of_broom a) (view_of_broom b) copied _
    (ap (λ (x : View). x.role) did.changed) (ap (λ (x : View). x.drains) did.changed) (ap (λ (x : View). x.moves) did.changed)
    (ap (λ (x : View). x.erases) did.changed) (ap (λ (x : View). x.lost) did.changed)
drain_grows a b drain.NothingToGain told =
    let is = told.0.changed in
    grown_none (view_of_broom a) (view_of_broom b) (survey_adds drain.NothingToGain) refl refl refl refl
    (ap (λ (x : View). x.role) is) (ap (λ (x : View). x.drains) is) (ap (λ (x : View). x.moves) is)
    (ap (λ (x : View). x.erases) is) (ap (λ (x : View). x.lost) is)
drain_grows a b drain.NoSpare told = grown_same (view_of_broom a) (view_of_broom b) nothing_done refl refl refl refl told.view
drain_grows a b drain.Lost told =
    let is = told.0.changed in
    grown_lost (view_of_broom a) (view_of_broom b) told.0.block (ap (λ (x : View). x.role) is) (ap (λ (x : View). x.drains) is) (ap (λ (x : View). x.moves) is)
    (ap (λ (x : View). x.erases) is) (ap (λ (x : View). x.lost) is)
drain_grows a b drain.QueueFull told = absurd told

next_grows : (a b : Broom) (d : Drain) → NextTold a d b → Grew (view_of_broom a) (drain_adds d) (view_of_broom b)
next_grows a b (drain.Drained block copied) told =
    let is = told.1.changed in
    grown_drain (view_of_broom a) (view_of_broom b) copied _ (ap (λ (x : View). x.role) is) (ap (λ (x : View). x.drains) is) (ap (λ (x : View). x.moves) is)
    (ap (λ (x : View). x.erases) is) (ap (λ (x : View). x.lost) is)
next_grows a b drain.NothingToGain told = grown_same (view_of_broom a) (view_of_broom b) nothing_done refl refl refl refl told.1
next_grows a b drain.NoSpare told = grown_same (view_of_broom a) (view_of_broom b) nothing_done refl refl refl refl told.0.view
next_grows a b drain.Lost told =
    let is = told.2 in
    grown_lost (view_of_broom a) (view_of_broom b) told.0 (ap (λ (x : View). x.role) is) (ap (λ (x : View). x.drains) is) (ap (λ (x : View). x.moves) is)
    (ap (λ (x : View). x.erases) is) (ap (λ (x : View). x.lost) is)
next_grows a b drain.QueueFull told = absurd told

-- a block without live pages, and its drain
inspected_grows : (r b : Broom) (block : ℕ) (d : Drain) → InspectedTold r block d b → Grew (view_of_broom r) (survey_adds d) (view_of_broom b)
inspected_grows r b block (drain.Drained one copied) told =
    let is = told.2.changed in
    grown_drain (view_of_broom r) (view_of_broom b) copied _ (ap (λ (x : View). x.role) is) (ap (λ (x : View). x.drains) is)
    (ap (λ (x : View). x.moves) is ∙ (sym (add-zero (view_of_broom r).moves) ∙ ap (λ (n : ℕ). (view_of_broom r).moves + n) (sym told.1)))
    (ap (λ (x : View). x.erases) is) (ap (λ (x : View). x.lost) is)
inspected_grows r b block drain.NothingToGain told = absurd told
inspected_grows r b block drain.NoSpare told = elim told.0 [
  | inl other ↦
      let is = other.changed in
      grown_none (view_of_broom r) (view_of_broom b) nothing_done refl refl refl refl
      (ap (λ (x : View). x.role) is) (ap (λ (x : View). x.drains) is) (ap (λ (x : View). x.moves) is)
      (ap (λ (x : View). x.erases) is) (ap (λ (x : View). x.lost) is)
  | inr live ↦
      let is = live.stopped.changed in
      grown_none (view_of_broom r) (view_of_broom b) nothing_done refl refl refl refl
      (ap (λ (x : View). x.role) is) (ap (λ (x : View). x.drains) is) (ap (λ (x : View). x.moves) is)
      (ap (λ (x : View). x.erases) is) (ap (λ (x : View). x.lost) is)
]
inspected_grows r b block drain.Lost told =
    let is = told.0.changed in
    grown_lost (view_of_broom r) (view_of_broom b) block (ap (λ (x : View). x.role) is) (ap (λ (x : View). x.drains) is) (ap (λ (x : View). x.moves) is)
    (ap (λ (x : View). x.erases) is) (ap (λ (x : View). x.lost) is)
inspected_grows r b block drain.QueueFull told = absurd told

surveyed_grows : (a b : Broom) (d : Drain) → DeadBySurvey a d b → Grew (view_of_broom a) (survey_adds d) (view_of_broom b)
surveyed_grows a b d told = behind_survey a told.1 told.0 (view_of_broom b) (survey_adds d) told.2.chosen (inspected_grows told.1 b told.0 d told.4)

dead_grows : (a b : Broom) (d : Drain) → DeadTold a d b → Grew (view_of_broom a) (survey_adds d) (view_of_broom b)
dead_grows a b (drain.Drained block copied) told = surveyed_grows a b (drain.Drained block copied) told
dead_grows a b drain.NothingToGain told =
    let is = told.0.gained.changed in
    grown_none (view_of_broom a) (view_of_broom b) (survey_adds drain.NothingToGain) refl refl refl refl
    (ap (λ (x : View). x.role) is) (ap (λ (x : View). x.drains) is) (ap (λ (x : View). x.moves) is)
    (ap (λ (x : View). x.erases) is) (ap (λ (x : View). x.lost) is)
dead_grows a b drain.NoSpare told = elim told [
  | inl live ↦
      behind_survey a b live.0 (view_of_broom b) nothing_done live.1.chosen
      (grown_same (view_of_broom b) (view_of_broom b) nothing_done refl refl refl refl refl)
  | inr dead ↦ surveyed_grows a b drain.NoSpare dead
]
dead_grows a b drain.Lost told = surveyed_grows a b drain.Lost told
dead_grows a b drain.QueueFull told = absurd told

-- what a turn's view grew by is what its drain's did, and nothing where the queue was full
turn_grows : (Told : Broom → Drain → Broom → Type 0) (adds : Drain → Tally) → adds drain.QueueFull ≡ nothing_done
    → ((a b : Broom) (d : Drain) → Told a d b → Grew (view_of_broom a) (adds d) (view_of_broom b)) → (limit : ℕ) (a b : Broom) (d : Drain)
    → TurnTold Told limit a d b → Grew (view_of_broom a) (adds d) (view_of_broom b)
turn_grows Told adds none grows limit a b (drain.Drained block copied) told =
    let from = told.drain.relieved in
    let to = told.drained in
    around a from to b (adds (drain.Drained block copied)) told.drain.first.rest told.handed.rest
    (grows from to (drain.Drained block copied) told.drain.drain)
turn_grows Told adds none grows limit a b drain.NothingToGain told =
    before_it a told.relieved b (adds drain.NothingToGain) told.first.rest (grows told.relieved b drain.NothingToGain told.drain)
turn_grows Told adds none grows limit a b drain.NoSpare told =
    before_it a told.relieved b (adds drain.NoSpare) told.first.rest (grows told.relieved b drain.NoSpare told.drain)
turn_grows Told adds none grows limit a b drain.Lost told =
    before_it a told.relieved b (adds drain.Lost) told.first.rest (grows told.relieved b drain.Lost told.drain)
turn_grows Told adds none grows limit a b drain.QueueFull told =
    subst (λ (t : Tally). Grew (view_of_broom a) t (view_of_broom b)) (sym none)
    (grown_same (view_of_broom a) (view_of_broom b) nothing_done refl refl refl refl (ap view_of_broom told.rest))

erase_grows : (limit : ℕ) (a b : Broom) (e : Erase) → EraseOneTold limit a e b → Grew (view_of_broom a) (erase_adds e) (view_of_broom b)
erase_grows limit a b (erase.Erased block true) told =
    let is = told.1.erase.1.erased.changed in
    before_it a told.1.fetched b (erase_adds (erase.Erased block true)) told.1.first.rest
    (grown_erase (view_of_broom told.1.fetched) (view_of_broom b) 1 0 _
    (ap (λ (x : View). x.role) is) (ap (λ (x : View). x.drains) is) (ap (λ (x : View). x.moves) is)
    (ap (λ (x : View). x.erases) is) (ap (λ (x : View). x.lost) is))
erase_grows limit a b (erase.Erased block false) told =
    let is = told.1.erase.1.erased.changed in
    before_it a told.1.fetched b (erase_adds (erase.Erased block false)) told.1.first.rest
    (grown_erase (view_of_broom told.1.fetched) (view_of_broom b) 0 0 _
    (ap (λ (x : View). x.role) is) (ap (λ (x : View). x.drains) is) (ap (λ (x : View). x.moves) is)
    (ap (λ (x : View). x.erases) is) (ap (λ (x : View). x.lost) is))
erase_grows limit a b (erase.Retired block) told =
    let is = told.1.erase.1.erased.changed in
    before_it a told.1.fetched b (erase_adds (erase.Retired block)) told.1.first.rest
    (grown_erase (view_of_broom told.1.fetched) (view_of_broom b) 0 1 _
    (ap (λ (x : View). x.role) is) (ap (λ (x : View). x.drains) is) (ap (λ (x : View). x.moves) is)
    (ap (λ (x : View). x.erases) is) (ap (λ (x : View). x.lost) is))
erase_grows limit a b erase.Pinned told =
    let is = told.erase.erase.0.changed in
    around a told.erase.fetched told.found b (erase_adds erase.Pinned) told.erase.first.rest told.handed.rest
    (grown_none (view_of_broom told.erase.fetched) (view_of_broom told.found) (erase_adds erase.Pinned) refl refl refl refl
    (ap (λ (x : View). x.role) is) (ap (λ (x : View). x.drains) is)
    (ap (λ (x : View). x.moves) is) (ap (λ (x : View). x.erases) is) (ap (λ (x : View). x.lost) is))
erase_grows limit a b erase.Stale told =
    let is = told.1.erase.0.changed in
    before_it a told.1.fetched b (erase_adds erase.Stale) told.1.first.rest
    (grown_none (view_of_broom told.1.fetched) (view_of_broom b) (erase_adds erase.Stale) refl refl refl refl
    (ap (λ (x : View). x.role) is) (ap (λ (x : View). x.drains) is)
    (ap (λ (x : View). x.moves) is) (ap (λ (x : View). x.erases) is) (ap (λ (x : View). x.lost) is))
erase_grows limit a b erase.QueueEmpty told = grown_same (view_of_broom a) (view_of_broom b) nothing_done refl refl refl refl (ap view_of_broom told.rest)

-- a restock by which the broom had a spare before, or has one now
spare_grows : (v : View) (x : BroomBlocks) (w : View) (y : BroomBlocks) → HadSpare v x w y ⊎ DidRestock v x w y → Grew v nothing_done w
spare_grows v x w y (inl had) = grown_same v w nothing_done refl refl refl refl had.view
spare_grows v x w y (inr did) =
    let is = did.changed in
    grown_none v w nothing_done refl refl refl refl (ap (λ (z : View). z.role) is) (ap (λ (z : View). z.drains) is) (ap (λ (z : View). z.moves) is)
    (ap (λ (z : View). z.erases) is) (ap (λ (z : View). z.lost) is)

restock_grows : (a b : Broom) (given : Bool) → RestockTold a given b → Grew (view_of_broom a) nothing_done (view_of_broom b)
restock_grows a b true told = spare_grows (view_of_broom a) (blocks_of_broom a) (view_of_broom b) (blocks_of_broom b) told
restock_grows a b false told =
    let is = told.changed in
    grown_none (view_of_broom a) (view_of_broom b) nothing_done refl refl refl refl (ap (λ (x : View). x.role) is) (ap (λ (x : View). x.drains) is)
    (ap (λ (x : View). x.moves) is) (ap (λ (x : View). x.erases) is) (ap (λ (x : View). x.lost) is)

-- with the pages that were programmed
with_programs : (v w : View) (t : Tally) (n : ℕ) → Grew v t w → GrowsBy n v.programs w.programs → HasGrown v (record t { programmed = n }) w
with_programs v w t n grew more = record { role = grew.role; drains = grew.drains; moves = grew.moves; programs = more; erases = grew.erases; lost = grew.lost }

with_none : (v w : View) (t : Tally) → t.programmed ≡ 0 → Grew v t w → w.programs ≡ v.programs → HasGrown v t w
with_none v w t none grew same = record {
  role = grew.role;
  drains = grew.drains;
  moves = grew.moves;
  programs = subst (λ (n : ℕ). GrowsBy n v.programs w.programs) (sym none) (stays v.programs w.programs same);
  erases = grew.erases;
  lost = grew.lost;
}

-- an erase programs no page
kept_around : (a b c d : Broom) → IsElse a b → IsElse c d → (view_of_broom c).programs ≡ (view_of_broom b).programs
    → (view_of_broom d).programs ≡ (view_of_broom a).programs
kept_around a b c d first last same = ap (λ (x : Broom). (view_of_broom x).programs) last ∙ (same ∙ ap (λ (x : Broom). (view_of_broom x).programs) first)

kept_before : (a b c : Broom) → IsElse a b → (view_of_broom c).programs ≡ (view_of_broom b).programs → (view_of_broom c).programs ≡ (view_of_broom a).programs
kept_before a b c first same = same ∙ ap (λ (x : Broom). (view_of_broom x).programs) first

erase_keeps : (limit : ℕ) (a b : Broom) (e : Erase) → EraseOneTold limit a e b → (view_of_broom b).programs ≡ (view_of_broom a).programs
erase_keeps limit a b (erase.Erased block true) told =
    kept_before a told.1.fetched b told.1.first.rest (ap (λ (x : View). x.programs) told.1.erase.1.erased.changed)
erase_keeps limit a b (erase.Erased block false) told =
    kept_before a told.1.fetched b told.1.first.rest (ap (λ (x : View). x.programs) told.1.erase.1.erased.changed)
erase_keeps limit a b (erase.Retired block) told =
    kept_before a told.1.fetched b told.1.first.rest (ap (λ (x : View). x.programs) told.1.erase.1.erased.changed)
erase_keeps limit a b erase.Pinned told =
    kept_around a told.erase.fetched told.found b told.erase.first.rest told.handed.rest (ap (λ (x : View). x.programs) told.erase.erase.0.changed)
erase_keeps limit a b erase.Stale told = kept_before a told.1.fetched b told.1.first.rest (ap (λ (x : View). x.programs) told.1.erase.0.changed)
erase_keeps limit a b erase.QueueEmpty told = ap (λ (x : Broom). (view_of_broom x).programs) told.rest

erase_adds_none : (e : Erase) → (erase_adds e).programmed ≡ 0
erase_adds_none (erase.Erased block kept) = refl
erase_adds_none (erase.Retired block) = refl
erase_adds_none erase.Pinned = refl
erase_adds_none erase.Stale = refl
erase_adds_none erase.QueueEmpty = refl

-- nor does a drain of a block without live pages
inspected_keeps : (r b : Broom) (block : ℕ) (d : Drain) → InspectedTold r block d b → (view_of_broom b).programs ≡ (view_of_broom r).programs
inspected_keeps r b block (drain.Drained one copied) told = ap (λ (x : View). x.programs) told.2.changed
inspected_keeps r b block drain.NothingToGain told = absurd told
inspected_keeps r b block drain.NoSpare told = elim told.0 [
  | inl other ↦ ap (λ (x : View). x.programs) other.changed
  | inr live ↦ ap (λ (x : View). x.programs) live.stopped.changed
]
inspected_keeps r b block drain.Lost told = ap (λ (x : View). x.programs) told.0.changed
inspected_keeps r b block drain.QueueFull told = absurd told

surveyed_keeps : (a b : Broom) (d : Drain) → DeadBySurvey a d b → (view_of_broom b).programs ≡ (view_of_broom a).programs
surveyed_keeps a b d told = inspected_keeps told.1 b told.0 d told.4 ∙ ap (λ (x : View). x.programs) told.2.chosen.changed

dead_keeps : (a b : Broom) (d : Drain) → DeadTold a d b → (view_of_broom b).programs ≡ (view_of_broom a).programs
dead_keeps a b (drain.Drained block copied) told = surveyed_keeps a b (drain.Drained block copied) told
dead_keeps a b drain.NothingToGain told = ap (λ (x : View). x.programs) told.0.gained.changed
dead_keeps a b drain.NoSpare told = elim told [
  | inl live ↦ ap (λ (x : View). x.programs) live.1.chosen.changed
  | inr dead ↦ surveyed_keeps a b drain.NoSpare dead
]
dead_keeps a b drain.Lost told = surveyed_keeps a b drain.Lost told
dead_keeps a b drain.QueueFull told = absurd told

dead_turn_keeps : (limit : ℕ) (a b : Broom) (d : Drain) → DrainDeadOneTold limit a d b → (view_of_broom b).programs ≡ (view_of_broom a).programs
dead_turn_keeps limit a b (drain.Drained block copied) told =
    let from = told.drain.relieved in
    let to = told.drained in
    kept_around a from to b told.drain.first.rest told.handed.rest (dead_keeps from to (drain.Drained block copied) told.drain.drain)
dead_turn_keeps limit a b drain.NothingToGain told = kept_before a told.relieved b told.first.rest (dead_keeps told.relieved b drain.NothingToGain told.drain)
dead_turn_keeps limit a b drain.NoSpare told = kept_before a told.relieved b told.first.rest (dead_keeps told.relieved b drain.NoSpare told.drain)
dead_turn_keeps limit a b drain.Lost told = kept_before a told.relieved b told.first.rest (dead_keeps told.relieved b drain.Lost told.drain)
dead_turn_keeps limit a b drain.QueueFull told = ap (λ (x : Broom). (view_of_broom x).programs) told.rest

survey_adds_none : (d : Drain) → (survey_adds d).programmed ≡ 0
survey_adds_none (drain.Drained block copied) = refl
survey_adds_none drain.NothingToGain = refl
survey_adds_none drain.NoSpare = refl
survey_adds_none drain.Lost = refl
survey_adds_none drain.QueueFull = refl

-- and neither does a restock
spare_keeps : (v : View) (x : BroomBlocks) (w : View) (y : BroomBlocks) → HadSpare v x w y ⊎ DidRestock v x w y → w.programs ≡ v.programs
spare_keeps v x w y (inl had) = ap (λ (z : View). z.programs) had.view
spare_keeps v x w y (inr did) = ap (λ (z : View). z.programs) did.changed

restock_keeps : (a b : Broom) (given : Bool) → RestockTold a given b → (view_of_broom b).programs ≡ (view_of_broom a).programs
restock_keeps a b true told = spare_keeps (view_of_broom a) (blocks_of_broom a) (view_of_broom b) (blocks_of_broom b) told
restock_keeps a b false told = ap (λ (z : View). z.programs) told.changed

call_grows : (limit : ℕ) (a b : Broom) (x : BroomAnswer) → CallTold limit a x b → HasGrown (view_of_broom a) (answer_adds x) (view_of_broom b)
call_grows limit a b (by.Drain given programmed) told =
    with_programs (view_of_broom a) (view_of_broom b) (survey_adds given) programmed
    (turn_grows (λ x given y. DrainTold x given y × SurveyLeft x given y) survey_adds refl (λ x y d done. drain_grows x y d done.0) limit a b given told.0)
    told.1
call_grows limit a b (by.DrainNext given programmed) told =
    with_programs (view_of_broom a) (view_of_broom b) (drain_adds given) programmed
    (turn_grows NextTold drain_adds refl next_grows limit a b given told.0) told.1
call_grows limit a b (by.DrainDead given) told =
    with_none (view_of_broom a) (view_of_broom b) (survey_adds given) (survey_adds_none given)
    (turn_grows DeadTold survey_adds refl dead_grows limit a b given told) (dead_turn_keeps limit a b given told)
call_grows limit a b (by.Erase given) told =
    with_none (view_of_broom a) (view_of_broom b) (erase_adds given) (erase_adds_none given) (erase_grows limit a b given told)
    (erase_keeps limit a b given told)
call_grows limit a b (by.Restock given) told =
    with_none (view_of_broom a) (view_of_broom b) nothing_done refl (restock_grows a b given told.told) (restock_keeps a b given told.told)

pub calls_grown : (limit : ℕ) (a b : Broom) (xs : List BroomAnswer) → HasMadeCalls limit a xs b → HasGrown (view_of_broom a) (total_of xs) (view_of_broom b)
calls_grown limit a b [] is =
    let same = ap view_of_broom is in
    with_none (view_of_broom a) (view_of_broom b) nothing_done refl
    (grown_same (view_of_broom a) (view_of_broom b) nothing_done refl refl refl refl same) (ap (λ (x : View). x.programs) same)
calls_grown limit a b (x ∷ xs) told =
    grown_then (view_of_broom a) (view_of_broom told.0) (view_of_broom b) (answer_adds x) (total_of xs) (call_grows limit a told.0 x told.1)
    (calls_grown limit told.0 b xs told.2)
