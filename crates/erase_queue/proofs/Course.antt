-- Each step of a pass keeps the rule of the queue.
use Rattle.std.proofs.Common.{◌≡◌, ◌≢◌, ℕ, zero, suc, ◌+◌, ◌<◌, ◌≤◌, ⊎_elim, Bool, true, false, List, [], ◌∷◌, ◌++◌, Some, length, set, slice_get, sym, refl}
use Rattle.std.proofs.Common.{ap, ◌∙◌, subst, append_assoc, arith}
use mathlib.Core.Option.{some, some-injective, some-ne-none}
use lib.ListN.{get_elem?}
use Rattle.crossbeam_queue.{specs.Fifo.Pushes, specs.Fifo.Pops, specs.Fifo.Forks, specs.Fifo.Learns, proofs.Lists.at_set, proofs.Lists.at_snoc}
use Rattle.geometry.{specs.History.Begins, proofs.Histories.Begins-refl, proofs.Histories.Begins-push, proofs.Histories.Begins-trans}
use Rattle.erase_queue.specs.declared.sight.{Role.Role, Sight.Sight}
use Rattle.erase_queue.specs.declared.sight.Role.TheVariants.{Counter, Dealer, Gone, User}
use Rattle.erase_queue.{specs.Moves.DidPut, specs.Moves.DidTake, specs.Moves.Stand, proofs.Places.owned_snoc, proofs.Places.owned_grow}
use Rattle.erase_queue.specs.Rule.{AreOwn, Course, LawfulSight, Lawful, Ruled, counter, counted, dealer, user_of, gone}
use Rattle.erase_queue.proofs.Places.{none_some, get_last, get_behind, length_last, replaced, replaced_else, no_shorter, own_stay, own_grow, owned_set}

-- One course goes on to another: numbers were put or taken, and each place is whose it was
record GoesOn (g g' : Course) : Type 0 where
  puts : Begins g.puts g'.puts
  taken : g.taken ≤ g'.taken
  putter : (k : ℕ) → k < length g.puts → g'.putter k ≡ g.putter k
  taker : (k : ℕ) → k < g.taken → g'.taker k ≡ g.taker k
  counting : g'.counting ≡ g.counting
  limit : g'.limit ≡ g.limit

-- a pass that makes no step stays lawful
sight_stays : (g g' : Course) (pass : ℕ) (v : Sight) → GoesOn g g' → LawfulSight g pass v → LawfulSight g' pass v
sight_stays g g' pass v on old =
    let short = no_shorter g.puts g'.puts on.puts in
    let le = on.taken in
    let was = old.takes in
    record {
      counts = λ is. let h = old.counts is in (h.0, on.counting ∙ h.1, h.2 ∙ sym on.limit);
      deals = λ is. let h = old.deals is in (on.counting ∙ h.0, h.1 ∙ sym on.limit);
      uses = λ is. let h = old.uses is in (on.counting ∙ h.0, h.1 ∙ sym on.limit);
      puts = Begins-trans v.puts g.puts g'.puts old.puts on.puts;
      takes = omega arith;
      own_puts = own_stay (length g.puts) (length g'.puts) g.putter g'.putter pass v.own_puts short on.putter old.own_puts;
      own_takes = own_stay g.taken g'.taken g.taker g'.taker pass v.own_takes le on.taker old.own_takes;
    }

-- a pass that has seen nothing and owns nothing is lawful by its role
unused : (g : Course) (pass limit : ℕ) (role : Role) → (role ≡ Counter → (pass ≡ 0) × (g.counting ≡ true) × (limit ≡ g.limit))
    → (role ≡ Dealer → (g.counting ≡ false) × (limit ≡ g.limit)) → (role ≡ User → (g.counting ≡ false) × (limit ≡ g.limit))
    → LawfulSight g pass (record { role = role; limit = limit; puts = []; takes = 0; own_puts = []; own_takes = [] })
unused g pass limit role counts deals uses = record {
  counts = counts;
  deals = deals;
  uses = uses;
  puts = (g.puts, refl);
  takes = omega arith;
  own_puts = λ j k e. absurd (none_some k e);
  own_takes = λ j k e. absurd (none_some k e);
}

-- what holds of the pass that was changed and of the others holds of all
each_set : (F : ℕ → Sight → Type 0) (views : List Sight) (pass : ℕ) (w : Sight) → F pass w
    → ((j : ℕ) (u : Sight) → j ≢ pass → get_elem? views j ≡ some u → F j u) → (j : ℕ) (u : Sight) → get_elem? (set views pass w) j ≡ some u → F j u
each_set F views pass w mine others j u e =
    ⊎_elim (λ (x : (j ≡ pass) × (w ≡ u)). subst (λ (y : ℕ × Sight). F y.0 y.1) (λ i. (sym x.0 i, x.1 i)) mine)
    (λ (x : (j ≢ pass) × (get_elem? views j ≡ some u)). others j u x.0 x.1)
    (at_set views pass j w u e)

-- and of one more pass at the end
each_snoc : (F : ℕ → Sight → Type 0) (views : List Sight) (w : Sight) → ((j : ℕ) → F j w)
    → ((j : ℕ) (u : Sight) → get_elem? views j ≡ some u → F j u) → (j : ℕ) (u : Sight) → get_elem? (views ++ w ∷ []) j ≡ some u → F j u
each_snoc F views w last others j u e =
    ⊎_elim (λ (x : get_elem? views j ≡ some u). others j u x) (λ (x : w ≡ u). subst (F j) x (last j)) (at_snoc views w u j e)

-- a lawful pass stays so with other places that it has seen and owns, if these are lawful
with_places : (g : Course) (pass : ℕ) (v : Sight) (puts own_puts own_takes : List ℕ) (takes : ℕ) → LawfulSight g pass v → Begins puts g.puts
    → takes ≤ g.taken → AreOwn (length g.puts) g.putter pass own_puts → AreOwn g.taken g.taker pass own_takes
    → LawfulSight g pass (record v { puts = puts; takes = takes; own_puts = own_puts; own_takes = own_takes })
with_places g pass v puts own_puts own_takes takes kept begins below mine_put mine_taken = record {
  counts = kept.counts;
  deals = kept.deals;
  uses = kept.uses;
  puts = begins;
  takes = below;
  own_puts = mine_put;
  own_takes = mine_taken;
}

-- A PUT
module _ (g : Course) (items : List ℕ) (views : List Sight) (l : Lawful g items views) (pass : ℕ) (v : Sight) (at : get_elem? views pass ≡ some v) (x : ℕ) where
  abbrev put_course : Course
  put_course = record g { puts = g.puts ++ x ∷ []; putter = replaced g.putter (length g.puts) (pass, length v.own_puts) }

  abbrev put_sight : Sight
  put_sight = record v { puts = g.puts ++ x ∷ []; own_puts = v.own_puts ++ length g.puts ∷ [] }

  put_goes_on : GoesOn g put_course
  put_goes_on = record {
    puts = Begins-push g.puts x;
    taken = omega arith;
    putter = λ k low. replaced_else g.putter (length g.puts) (pass, length v.own_puts) k (λ e. omega arith);
    taker = λ k low. refl;
    counting = refl;
    limit = refl;
  }

  put_mine : LawfulSight put_course pass put_sight
  put_mine =
      let old = l.each pass v at in
      let kept = sight_stays g put_course pass v put_goes_on old in
      with_places put_course pass v _ _ _ _ kept (Begins-refl (g.puts ++ x ∷ [])) kept.takes
      (own_grow (length g.puts) (length (g.puts ++ x ∷ [])) g.putter pass v.own_puts (length_last g.puts x) old.own_puts) kept.own_takes

  put_lawful : x < g.limit → Lawful put_course (items ++ x ∷ []) (set views pass put_sight)
  put_lawful low = record {
    order = (l.order.0, ap (λ (y : List ℕ). y ++ x ∷ []) l.order.1 ∙ append_assoc l.order.0 items (x ∷ []), l.order.2);
    low = λ k y e. ⊎_elim (λ (was : slice_get g.puts k ≡ Some y). l.low k y was)
        (λ (new : (k ≡ length g.puts) × (x ≡ y)). let is = new.1 in omega arith) (get_last g.puts x y k e);
    each = each_set (LawfulSight put_course) views pass put_sight put_mine (λ j u other e. sight_stays g put_course j u put_goes_on (l.each j u e));
    put_by = owned_grow (λ (u : Sight). u.own_puts) (length g.puts) (length (g.puts ++ x ∷ [])) g.putter views pass v put_sight
        (length_last g.puts x) at refl l.put_by;
    taken_by = λ k below. owned_set (λ (u : Sight). u.own_takes) views pass v put_sight at (λ i n e. e) k (g.taker k) (l.taken_by k below);
  }

-- A TAKE
module _ (g : Course) (items : List ℕ) (views : List Sight) (x : ℕ) (l : Lawful g (x ∷ items) views) (pass : ℕ) (v : Sight)
    (at : get_elem? views pass ≡ some v) where
  abbrev take_course : Course
  take_course = record g { taken = g.taken + 1; taker = replaced g.taker g.taken (pass, length v.own_takes) }

  abbrev take_sight : Sight
  take_sight = record v { puts = g.puts; takes = g.taken + 1; own_takes = v.own_takes ++ g.taken ∷ [] }

  take_goes_on : GoesOn g take_course
  take_goes_on = record {
    puts = Begins-refl g.puts;
    taken = omega arith;
    putter = λ k low. refl;
    taker = λ k low. replaced_else g.taker g.taken (pass, length v.own_takes) k (λ e. omega arith);
    counting = refl;
    limit = refl;
  }

  take_mine : LawfulSight take_course pass take_sight
  take_mine =
      let old = l.each pass v at in
      let kept = sight_stays g take_course pass v take_goes_on old in
      with_places take_course pass v _ _ _ _ kept (Begins-refl g.puts) (omega arith) kept.own_puts
      (own_grow g.taken (g.taken + 1) g.taker pass v.own_takes refl old.own_takes)

  take_lawful : Lawful take_course items (set views pass take_sight)
  take_lawful = record {
    order = (l.order.0 ++ x ∷ [], l.order.1 ∙ sym (append_assoc l.order.0 (x ∷ []) items), length_last l.order.0 x ∙ ap (λ n. n + 1) l.order.2);
    low = l.low;
    each = each_set (LawfulSight take_course) views pass take_sight take_mine (λ j u other e. sight_stays g take_course j u take_goes_on (l.each j u e));
    put_by = λ k below. owned_set (λ (u : Sight). u.own_puts) views pass v take_sight at (λ i n e. e) k (g.putter k) (l.put_by k below);
    taken_by = owned_grow (λ (u : Sight). u.own_takes) g.taken (g.taken + 1) g.taker views pass v take_sight refl at refl l.taken_by;
  }

  take_first : slice_get g.puts g.taken ≡ Some x
  take_first = ap (λ (y : List ℕ). slice_get y g.taken) l.order.1 ∙ ap (λ (n : ℕ). slice_get (l.order.0 ++ x ∷ items) n) (sym l.order.2)
      ∙ get_behind l.order.0 items x

-- a pass that puts and takes puts a number below the limit
pub puts : (n pass : ℕ) (v : Sight) (x : ℕ) → v.role ≡ User → x < v.limit → Pushes Ruled n pass v x (DidPut v x)
puts n pass v x user low items views room h at =
    let old = h.1.each pass v at in
    let same = (old.uses user).1 in (
      put_sight h.0 items views h.1 pass v at x,
      (put_course h.0 items views h.1 pass v at x, put_lawful h.0 items views h.1 pass v at x (omega arith)),
      record { before = h.0.puts; seen = old.puts; changed = refl },
    )

-- and takes the first one
pub takes : (pass : ℕ) (v : Sight) → v.role ≡ User → Pops Ruled pass v (DidTake v)
takes pass v user x items views h at =
    let old = h.1.each pass v at in
    let same = (old.uses user).1 in
    let first = take_first h.0 items views x h.1 pass v at in
    let low = h.1.low h.0.taken x first in (
      take_sight h.0 items views x h.1 pass v at,
      (take_course h.0 items views x h.1 pass v at, take_lawful h.0 items views x h.1 pass v at),
      record { puts = h.0.puts; seen = old.puts; place = h.0.taken; next = old.takes; first = first; low = omega arith; changed = refl },
    )

-- what stands in the queue, as such a pass learns it
pub learns : (pass : ℕ) (v : Sight) → v.role ≡ User → Learns Ruled pass v (Stand v)
learns pass v user items views h at =
    let old = h.1.each pass v at in
    let same = (old.uses user).1 in
    let order = h.1.order in
    let was = old.takes in
    let long = order.2 in
    record {
      done = order.0;
      seen = subst (Begins v.puts) order.1 old.puts;
      takes = omega arith;
      low = λ k x e. let below = h.1.low k x (ap (λ (y : List ℕ). slice_get y k) order.1 ∙ e) in omega arith;
    }

-- THE FIRST PASSES
only : (w : Sight) (j : ℕ) (u : Sight) → get_elem? (w ∷ []) j ≡ some u → (j ≡ 0) × (w ≡ u)
only w zero u e = (refl, some-injective w u e)
only w (suc j) u e = absurd (some-ne-none u (sym e))

abbrev first_course : Course
first_course = record { counting = true; limit = 0; puts = []; taken = 0; putter = λ k. (0, 0); taker = λ k. (0, 0) }

first_sight : LawfulSight first_course 0 (counter 0)
first_sight = unused first_course 0 0 Counter (λ is. (refl, refl, refl)) (λ is. absurd (cc)) (λ is. absurd (cc))

pub begins : Ruled [] (counter 0 ∷ [])
begins = (
  first_course,
  record {
    order = ([], refl, refl);
    low = λ k x e. absurd (none_some x e);
    each = λ j u e. let is = only (counter 0) j u e in subst (λ (y : ℕ × Sight). LawfulSight first_course y.0 y.1) (λ i. (sym is.0 i, is.1 i)) first_sight;
    put_by = λ k low. absurd (omega arith);
    taken_by = λ k low. absurd (omega arith);
  },
)

-- a pass that makes no more steps is lawful at any place
gone_sight : (g : Course) (pass : ℕ) → LawfulSight g pass gone
gone_sight g pass = unused g pass 0 Gone (λ is. absurd (cc)) (λ is. absurd (cc)) (λ is. absurd (cc))

-- and one that was just dealt
user_sight : (g : Course) (v : Sight) → (g.counting ≡ false) × (v.limit ≡ g.limit) → (pass : ℕ) → LawfulSight g pass (user_of v)
user_sight g v of pass = unused g pass v.limit User (λ is. absurd (cc)) (λ is. absurd (cc)) (λ is. of)

-- where the limit is still being fixed, every pass but the first is gone, and so is lawful whatever the limit becomes
others_wait : (g : Course) (counting : Bool) (limit pass j : ℕ) (u : Sight) → pass ≡ 0 → g.counting ≡ true → j ≢ pass → LawfulSight g j u
    → LawfulSight (record g { counting = counting; limit = limit }) j u
others_wait g counting limit pass j u first still other old = record {
  counts = λ is. absurd (other ((old.counts is).0 ∙ sym first));
  deals = λ is. let h = (old.deals is).0 in absurd (cc);
  uses = λ is. let h = (old.uses is).0 in absurd (cc);
  puts = old.puts;
  takes = old.takes;
  own_puts = old.own_puts;
  own_takes = old.own_takes;
}

-- one pass is changed and another one comes, and neither puts nor takes
forks : (g : Course) (counting : Bool) (limit : ℕ) (items : List ℕ) (views : List Sight) (pass : ℕ) (v left right : Sight) → Lawful g items views
    → get_elem? views pass ≡ some v
    → g.limit ≤ limit → left.own_puts ≡ v.own_puts → left.own_takes ≡ v.own_takes
    → LawfulSight (record g { counting = counting; limit = limit }) pass left
    → ((j : ℕ) (u : Sight) → j ≢ pass → get_elem? views j ≡ some u → LawfulSight (record g { counting = counting; limit = limit }) j u)
    → ((j : ℕ) → LawfulSight (record g { counting = counting; limit = limit }) j right)
    → Ruled items (set views pass left ++ right ∷ [])
forks g counting limit items views pass v left right l at higher puts takes mine others new =
    let g' : Course = record g { counting = counting; limit = limit } in
    let views' : List Sight = set views pass left in (
      g',
      record {
        order = l.order;
        low = λ k x e. let low = l.low k x e in omega arith;
        each = each_snoc (LawfulSight g') views' right new (each_set (LawfulSight g') views pass left mine others);
        put_by = λ k low. owned_snoc (λ (u : Sight). u.own_puts) views' right k (g.putter k)
            (owned_set (λ (u : Sight). u.own_puts) views pass v left at (λ i n e. ap (λ (y : List ℕ). slice_get y i) puts ∙ e) k (g.putter k) (l.put_by k low));
        taken_by = λ k low. owned_snoc (λ (u : Sight). u.own_takes) views' right k (g.taker k)
            (owned_set (λ (u : Sight). u.own_takes) views pass v left at (λ i n e. ap (λ (y : List ℕ). slice_get y i) takes ∙ e) k (g.taker k)
            (l.taken_by k low));
      },
    )

pub counts_up : (pass : ℕ) (v : Sight) → v.role ≡ Counter → Forks Ruled pass v (counted v) gone
counts_up pass v first items views h at =
    let g = h.0 in
    let old = h.1.each pass v at in
    let mine = old.counts first in
    forks g g.counting (g.limit + 1) items views pass v (counted v) gone h.1 at (omega arith) refl refl
    (record {
      counts = λ is. (mine.0, mine.1, ap (λ n. n + 1) mine.2);
      deals = λ is. absurd (cc);
      uses = λ is. absurd (cc);
      puts = old.puts;
      takes = old.takes;
      own_puts = old.own_puts;
      own_takes = old.own_takes;
    })
    (λ j u other e. others_wait g g.counting (g.limit + 1) pass j u mine.0 mine.1 other (h.1.each j u e))
    (gone_sight (record g { limit = g.limit + 1 }))

pub limit_fixed : (pass : ℕ) (v : Sight) → v.role ≡ Counter → Forks Ruled pass v (dealer v) gone
limit_fixed pass v first items views h at =
    let g = h.0 in
    let old = h.1.each pass v at in
    let mine = old.counts first in
    forks g false g.limit items views pass v (dealer v) gone h.1 at (omega arith) refl refl
    (record {
      counts = λ is. absurd (cc);
      deals = λ is. (refl, mine.2);
      uses = λ is. absurd (cc);
      puts = old.puts;
      takes = old.takes;
      own_puts = old.own_puts;
      own_takes = old.own_takes;
    })
    (λ j u other e. others_wait g false g.limit pass j u mine.0 mine.1 other (h.1.each j u e))
    (gone_sight (record g { counting = false }))

pub deals : (pass : ℕ) (v : Sight) → v.role ≡ Dealer → Forks Ruled pass v v (user_of v)
deals pass v dealing items views h at =
    let g = h.0 in
    let old = h.1.each pass v at in
    forks g g.counting g.limit items views pass v v (user_of v) h.1 at (omega arith) refl refl old (λ j u other e. h.1.each j u e)
    (user_sight g v (old.deals dealing))
