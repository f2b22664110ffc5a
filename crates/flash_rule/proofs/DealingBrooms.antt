-- The dealer hands out the next broom, with the first of the spares that it still owns.
use Rattle.flash_rule.proofs.Words.{◌≡◌, ℕ, zero, suc, ◌+◌, ◌<◌, ◌≤◌, inl, ne_eqb, true, false, [], ◌∷◌, ◌++◌, None, Some, length, set, sym, refl, ap, ◌∙◌}
use Rattle.flash_rule.proofs.Words.{arith, length-set, dite, ℕ_discrete, get_elem?, Splits, at_longer, Numbers, Name, Broom, Dealer, View, is_pass, Open}
use Rattle.flash_rule.proofs.Words.{is_player, is_live_role, weight, owned_at, without, World, put, is_owned, LawfulOwned, LawfulView, IsDealt, IsFilling}
use Rattle.flash_rule.proofs.Words.{Onward, Ruled, spare, spares, List, Lawful, Player, Owned, may_own}
use Rattle.flash_rule.proofs.{Points.put_here, Points.put_else, Points.eq_self, Points.clash, Ceding.ceded_split, Frames.knowledge_kept, Frames.owner_kept}
use Rattle.flash_rule.proofs.Owning.{none_some, with_here, without_else, each_with, each_without, owned_else, one_without, Seated, view_of}
use Rattle.flash_rule.proofs.Splitting.{Owner, split_with, dealt_world, dealt_onward, dealer_holding, knowledge_fresh, new_holding}
use Rattle.atomic_table.proofs.Lists.{at_last}
use Rattle.flash_rule.specs.Seats.{next_spare, new_broom, dealt_broom}

-- the dealer's spares, one by one
pub first_spare : (n from : ℕ) → owned_at from (spares (suc n) from) ≡ Some (spare from)
first_spare n from = rw (eq_self from) refl

spares_above : (n from b : ℕ) → b < from → without b (spares n from) ≡ spares n from
spares_above zero from b low = refl
spares_above (suc n) from b low = rw (ne_eqb from b (λ e. absurd (omega arith))) (ap (λ l. spare from ∷ l) (spares_above n (from + 1) b (omega arith)))

pub other_spares : (n from : ℕ) → without from (spares (suc n) from) ≡ spares n (from + 1)
other_spares n from = rw (eq_self from) (spares_above n (from + 1) from (omega arith))

fresh_broom : (g : World) (i : ℕ) → g.brooms ≤ i → (m : Name) → IsDealt g m → ¬ (m ≡ Broom i)
fresh_broom g i high m low = grind arith

dealt_more : (g g' : World) → g'.passes ≡ g.passes → g.brooms ≤ g'.brooms → (m : Name) → IsDealt g m → IsDealt g' m
dealt_more g g' passes more m low = grind arith

module _ {z : Numbers} {g : World} {vs : List View} {id : ℕ} {v : View} (sat : Seated z g vs id v)
    (role : v.role ≡ Dealer) (has : owned_at (next_spare v) v.owns ≡ Some (spare (next_spare v))) where
  abbrev owner_after : ℕ → ℕ
  owner_after = put g.owner (next_spare v) (length vs)

  abbrev after : World
  after = dealt_world g (Broom v.brooms) (length vs) g.passes (g.brooms + 1) owner_after

  spare_here : LawfulOwned z g id v.work v.cleared v.wiped (next_spare v) (spare (next_spare v))
  spare_here = (view_of sat).holding.owned (next_spare v) (spare (next_spare v)) has

  not_yet : (m : Name) → IsDealt g m → ¬ (m ≡ Broom v.brooms)
  not_yet = let d = (view_of sat).holding.dealer role in let brooms_is = d.2 in fresh_broom g v.brooms (omega arith)

  still_dealt : (m : Name) → IsDealt g m → IsDealt after m
  still_dealt = dealt_more g after refl (omega arith)

  onward_after : Onward z g after id id
  onward_after =
      dealt_onward z g id (length vs) (Broom v.brooms) g.passes (g.brooms + 1) owner_after not_yet still_dealt ((view_of sat).holding.dealer role).0
      (λ c other. put_else g.owner (next_spare v) (length vs) c (λ same. other (ap g.owner same ∙ spare_here.owner)))

  -- the dealer has its other blocks
  dealer_after : LawfulView z after id (dealt_broom v)
  dealer_after =
      let h = view_of sat in
      let b : ℕ = next_spare v in
      let none = h.kind.idle (ap is_player role) in
      let d = h.holding.dealer role in
      let opens : is_pass v.role ≡ true → (c : ℕ) (o : Owned) → owned_at c (without b v.owns) ≡ Some o → o.phase ≡ Open = λ is. clash is (ap is_pass role) in
      let owns_none : may_own v.role ≡ false → without b v.owns ≡ [] = λ is. ap (λ l. without b l) (h.kind.owns_none is) in
      let holding = dealer_holding z g id (length vs) (Broom v.brooms) g.passes (g.brooms + 1) owner_after not_yet still_dealt (dealt_broom v) role
      (none.0, none.1) h.holding.guest
      (each_without (λ c o. LawfulOwned z after id v.work v.cleared v.wiped c o) b v.owns (λ c o unlike is.
      owned_else z g after id v.work v.work v.cleared v.wiped c o refl (put_else g.owner b (length vs) c unlike) (λ p i. refl) (λ s m named _. inl named)
      (λ p _ f. f) (h.holding.owned c o is)))
      (d.0, d.1, ap (λ k. k + 1) d.2) in
      assumption (opens, owns_none, one_without b v.owns h.kind.reclaims, holding, knowledge_kept onward_after sat, h)

  -- and the broom has its spare
  broom_after : LawfulView z after (length vs) (new_broom v)
  broom_after =
      let kind = (view_of sat).kind in
      let b : ℕ = next_spare v in
      let mine = spare_here in
      let numbers : v.numbers ≡ z = kind.numbers (ap is_live_role role) in
      let idle : (p : ℕ) → IsFilling v.work b p → ⊥ = λ p f. none_some f.work (sym (kind.idle (ap is_player role)).0 ∙ f.is) in
      let its : LawfulOwned z after (length vs) None 0 0 b (spare b) = grind arith in
      record {
        kind = grind arith;
        knowledge = knowledge_fresh v.numbers (Player (Broom v.brooms)) [] (spares 1 b) true (λ c _. omega arith);
        holding = new_holding z g id (length vs) (Broom v.brooms) g.passes (g.brooms + 1) owner_after not_yet still_dealt v.numbers [] (spares 1 b)
            (let d = (view_of sat).holding.dealer role in let brooms_is = d.2 in omega arith)
            (λ t is. absurd (cc))
            (each_with (λ c o. LawfulOwned z after (length vs) None 0 0 c o) (spare b) [] its (λ c o _ is. absurd (none_some o is)));
      }

  owners_there : (c : ℕ) → c < z.blocks → is_owned (g.pins c).phase ≡ true → Owner after (set vs id (dealt_broom v) ++ new_broom v ∷ []) c
  owners_there c low owned =
      let b : ℕ = next_spare v in
      let dealer : View = dealt_broom v in
      dite (ℕ_discrete c b)
      (λ same. (
        new_broom v,
        spare b,
        ap (λ j. get_elem? (set vs id dealer ++ new_broom v ∷ []) j) (ap owner_after same ∙ put_here g.owner b (length vs))
            ∙ at_last (set vs id dealer) (new_broom v) (length vs) (length-set vs id dealer),
        ap (λ j. owned_at j (spares 1 b)) same ∙ with_here (spare b) [],
      ))
      (λ unlike.
      let k = owner_kept sat dealer (sat.law.blocks c low) owned (put_else g.owner b (length vs) c unlike)
      (λ o is. (o, without_else b c v.owns unlike ∙ is)) in
      (k.0, k.1, at_longer (set vs id dealer) (new_broom v ∷ []) (owner_after c) k.0 k.2, k.3))

  broom_dealt : Lawful z after (set vs id (dealt_broom v) ++ new_broom v ∷ [])
  broom_dealt =
      let d = (view_of sat).holding.dealer role in
      let brooms_is = d.2 in
      let weighs : weight z (dealt_broom v) + 0 ≡ weight z v = omega arith in
      split_with sat after (dealt_broom v) (new_broom v) onward_after dealer_after broom_after (λ c. refl) refl owners_there
      weighs (omega arith) sat.law.dealt (ceded_split sat (dealt_broom v) (new_broom v) refl refl refl refl refl)

-- DEAL
pub deals_broom : (z : Numbers) (id : ℕ) (v : View) → v.role ≡ Dealer → owned_at (next_spare v) v.owns ≡ Some (spare (next_spare v))
    → Splits (Ruled z) id v (dealt_broom v) (new_broom v)
deals_broom z id v role has s (g, fits, law) at = (
  dealt_world g (Broom v.brooms) (length s.views) g.passes (g.brooms + 1) (put g.owner (next_spare v) (length s.views)),
  fits,
  broom_dealt (record { law = law; at = at }) role has,
)
