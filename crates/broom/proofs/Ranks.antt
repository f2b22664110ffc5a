-- The order in which the blocks of a survey are drained: how it is made, and that its first marked block is the greedy one.
use Rattle.std.proofs.Common.{◌≡◌, ℕ, ◌%◌, ◌<◌, ◌≤◌, Bool, false, All, List, length, None, Some, get_or, sym, ap, ◌∙◌, subst, arith}
use Rattle.std.specs.{List.Contains, List.Sorted.IsPermutation, List.Sorted.IsNonDecreasing}
use Rattle.std.proofs.lemmas.{Bool.false≢true}
use Rattle.std.proofs.lemmas.List.{get_or_default, get_or_past, Sorted.All-permutation, Sorted.Contains-permutation}
use mathlib.Core.Logic.{dite}
use native.Mathlib.Decide.{dec_lt}
use Rattle.geometry.specs.Greedy.{greedy_of, IsClosed, IsGreedy}
use Rattle.geometry.proofs.Choosing.{greedy_of-best, greedy_of-none}
use Rattle.broom.specs.declared.ranking.{Ranking.Ranking, TheConstants.ONE_PAGE}
use Rattle.broom.specs.Survey.{key_of, IsKey, IsRanked, Ranks}

-- a marked place is within the list of marks
marked_low : (marks : List Bool) (b : ℕ) → IsClosed marks b → b < length marks
marked_low marks b is = dite (dec_lt b (length marks)) (λ below. below) (λ past. absurd (false≢true (sym (get_or_past marks b false (omega arith)) ∙ is)))

-- ---- the ranking is made
-- The keys of the marked blocks below this one
pub record KeysTo (counts : List ℕ) (marks : List Bool) (block : ℕ) (keys : List ℕ) : Type 0 where
  pub each : All (IsKey counts) keys
  pub here : (b : ℕ) → b < block → IsClosed marks b → Contains keys (key_of (get_or counts b 0) b)
  pub short : length keys ≤ block

-- the keys in rising order rank all marked blocks
pub keys_ranked : (counts : List ℕ) (marks : List Bool) (block : ℕ) (keys sorted : List ℕ) → length marks ≤ block → KeysTo counts marks block keys
    → IsPermutation keys sorted → IsNonDecreasing sorted → IsRanked counts marks sorted 0
keys_ranked counts marks block keys sorted all h moved rising =
    record {
      each = All-permutation (IsKey counts) keys sorted moved h.each;
      rising = rising;
      left = λ b past shut.
          let key : ℕ = key_of (get_or counts b 0) b in
          let low : b < length marks = marked_low marks b shut in
          let at = Contains-permutation keys sorted key moved (h.here b (omega arith) shut) in
          past at.0 (omega arith) at.1 (get_or_default sorted at.0 0 key at.1 ∙ at.2);
    }

-- ---- the first marked block
module _ (counts : List ℕ) (marks : List Bool) (keys : List ℕ) (next : ℕ) (h : IsRanked counts marks keys next) (long : length counts ≡ length marks)
    (few : length counts ≤ ONE_PAGE) where
  -- the key at this place is of a marked block, which is the greedy one
  pub ranked_first : (b : ℕ) → next < length keys → b ≡ get_or keys next 0 % ONE_PAGE → IsClosed marks b → Some b ≡ greedy_of counts marks
  ranked_first b low is shut = sym (greedy_of-best counts marks long b best) where
    mine : IsKey counts (get_or keys next 0)
    mine = h.each next 0 low

    key : get_or keys next 0 ≡ key_of (get_or counts b 0) b
    key = mine.is ∙ ap (λ (c : ℕ). key_of (get_or counts c 0) c) (sym is)

    -- no marked block has a lesser key
    no_less : (c : ℕ) → IsClosed marks c → key_of (get_or counts b 0) b ≤ key_of (get_or counts c 0) c
    no_less c other =
        dite (dec_lt (key_of (get_or counts c 0) c) (key_of (get_or counts b 0) b))
        (λ less. absurd (h.left c (λ k from below at. let up = h.rising next k 0 from below in let here = key in absurd (omega arith)) other))
        (λ not. omega arith)

    best : IsGreedy counts marks b
    best = record {
      is_closed = shut;
      least = λ k other. let le = no_less k other in let one = marked_low marks k other in let two = marked_low marks b shut in omega arith;
      lowest = λ k below other. let le = no_less k other in let two = marked_low marks b shut in omega arith;
    }

  -- no key is left, and no block is marked
  pub ranked_none : length keys ≤ next → None ≡ greedy_of counts marks
  ranked_none all = sym (greedy_of-none counts marks long (λ k shut. h.left k (λ j from below is. absurd (omega arith)) shut))

-- ---- marks that go
pub ranks_fewer : (counts : List ℕ) (marks fewer : List Bool) (r : Ranking) → length fewer ≡ length marks
    → ((k : ℕ) → IsClosed fewer k → IsClosed marks k) → Ranks counts marks r → Ranks counts fewer r
ranks_fewer counts marks fewer r long go h =
    record {
      room = let room = h.room in omega arith;
      ranked = λ made. let is = h.ranked made in record { each = is.each; rising = is.rising; left = λ b past shut. is.left b past (go b shut) };
    }

-- ---- a ranking that isn't made
pub forgotten : (counts : List ℕ) (marks fewer : List Bool) (r s : Ranking) → length fewer ≡ length marks → s ≡ record r { made = false }
    → (old : List ℕ) → Ranks old marks r → Ranks counts fewer s
forgotten counts marks fewer r s long is old h =
    let P : Ranking → Type 0 = λ x. Ranks counts fewer x in
    subst P (sym is) (record { room = let room = h.room in omega arith; ranked = λ made. absurd (false≢true made) })
