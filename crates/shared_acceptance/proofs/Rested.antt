-- A broom's seat that only looks and loads states rests again.
use Rattle.std.proofs.Common.{◌≡◌, ℕ, sym, ap, ◌∙◌, subst}
use Rattle.flash_rule.specs.{Views.AreOfHosts, BroomPlays.Named, BroomPlays.Loaded, declared.facts.Source.Source, declared.view.View.View}
use Rattle.flash_rule.proofs.Owning.{none_some}
use Rattle.flash_table.specs.{declared.flash.Flash.Flash, declared.broom_seat.BroomSeat.BroomSeat, Flash.IsBroomOf, Flash.broom_view, Flash.own_blocks}
use Rattle.geometry.specs.Limits.{Numbers}
use Rattle.broom.specs.Ready.{IsRested}
use Rattle.broom.proofs.{Choosing.rest_of, Choosing.rested_again, Loading.loaded_changes}

module _ (f : Flash) (s t : BroomSeat) (h : IsRested f s) (seat : IsBroomOf f t) (blocks : own_blocks t ≡ own_blocks s) where
  abbrev v : View
  v = broom_view s

  abbrev w : View
  w = broom_view t

  -- after a look
  pub rested_looked : (sector n : ℕ) → Named v sector n w → IsRested f t
  rested_looked sector n told =
      let none = told.others (λ (x : Source) is. absurd (none_some x (sym h.source ∙ is))) in
      let e : w ≡ record v { seen = w.seen; named = w.named } =
      told.changed ∙ (λ i. record v { seen = w.seen; named = (sym told.changed i).named; source = none.0 i; cleared = none.1 i }) in
      rested_again f s t h seat blocks (ap rest_of e)
      (subst (λ (z : Numbers). AreOfHosts z w.seen) (sym (ap (λ (x : View). x.numbers) told.changed)) told.callers)

  -- after a state step
  pub rested_loaded : (b n : ℕ) → Loaded v b n w → IsRested f t
  rested_loaded b n told =
      let e = loaded_changes v w b n told in
      rested_again f s t h seat blocks (ap rest_of e) (subst (λ (x : View). AreOfHosts x.numbers x.seen) (sym e) h.callers)
