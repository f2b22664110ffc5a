-- What the meetings after a round make of the passes that played it.
use Rattle.std.proofs.Common.{◌≡◌, ℕ, ◌<◌, List, ◌++◌, sym, ap, ◌∙◌}
use Rattle.geometry.{specs.History.Call, specs.Sectors.Sector, proofs.Histories.Begins-trans}
use Rattle.flash_rule.{specs.declared.view.View.View, specs.Views.calls_of, proofs.Histories.squeezed}
use Rattle.rounds.specs.{Orders.made, Orders.lines_of, Rounds.PlayedRound, Rounds.AreTied, Rounds.HavePlayed, Rounds.HaveMet}
use Rattle.rounds.proofs.Playing.{plays_later, plays_from}

-- in the history of the meetings each pass has made what it has made at their end
own_met : (hosts : ℕ) (h : List Call) (before after : ℕ → View) → HaveMet hosts h before after → (t : ℕ) → t < hosts → calls_of t h ≡ (after t).mine
own_met hosts h before after s t low =
    squeezed t (before t).seen h (after t).seen (after t).mine (s.brought t low) (s.given t low) (s.own_before t low ∙ sym (s.same t low)) (s.own_after t low)

-- the passes are tied again
pub tied_again : (hosts : ℕ) (h : List Call) (before after : ℕ → View) → HaveMet hosts h before after → AreTied hosts h after
tied_again hosts h before after s = record { callers = s.callers; later = s.given; own = own_met hosts h before after s }

-- and a round was played between the history to which they were tied and the one to which they are tied
module _ {X : Type 0} (worker sector : X → ℕ) (calls : X → List Call) (right : X → Sector → Type 0) (hosts n : ℕ) (first last : List Call)
    (before played after : ℕ → View) (xs : List X) where
  pub round_between : 0 < hosts → AreTied hosts first before → HavePlayed worker sector calls right hosts n before xs played → HaveMet hosts last played after
      → PlayedRound worker sector calls right hosts n first xs last
  round_between some tied play met = record {
    later = Begins-trans first (before 0).seen last (tied.later 0 some)
        (Begins-trans (before 0).seen (played 0).seen last
        (plays_later worker sector calls right n (before 0).seen (lines_of worker 0 xs) (played 0).seen (play.plays 0 some)) (met.brought 0 some));
    callers = met.callers;
    seen = λ t. (played t).seen;
    plays = λ t low. plays_from worker sector calls right n first (before t).seen (lines_of worker t xs) (played t).seen (tied.later t low) (play.plays t low);
    whole = met.brought;
    own = λ t low.
        own_met hosts last played after met t low
        ∙ (met.same t low ∙ (play.mine t low ∙ ap (λ k. k ++ made calls (lines_of worker t xs)) (sym (tied.own t low))));
  }
