-- A round's lines: where they stand in their workers' rows, and which commands stand before and behind them.
use Rattle.std.proofs.Common.{◌≡◌, ℕ, suc, ◌+◌, ◌<◌, ◌≤◌, All, Bool, true, false, List, [], ◌∷◌, ◌++◌, get_or, length, drop, refl, sym, ap, ◌∙◌, subst, arith}
use Rattle.std.proofs.Common.{append_assoc}
use Rattle.std.specs.Prelude.{if◌then◌else◌}
use Rattle.std.proofs.{Math.Seq.get_or-append_seam, lemmas.List.length-append, lemmas.List.Elements.All-nil, lemmas.List.Elements.All-cons}
use Rattle.trace.specs.declared.commands.Command.{Command}
use Rattle.workers.specs.Playable.{lines_at, no_line}
use Rattle.rounds.specs.Merging.{is_meet, is_line_of, lines_for, line_count, HaveNoMeeting}
use Rattle.rounds.specs.Plans.{places_from, meetings_from}

-- as many places as lines
pub count_places : (k t : ℕ) (cs : List Command) → length (places_from k t cs) ≡ line_count t cs
count_places k t [] = refl
count_places k t (c ∷ cs) = go (is_line_of t c) (count_places (k + 1) t cs)
  where
    go : (b : Bool) → length (places_from (k + 1) t cs) ≡ line_count t cs
        → length (if b then k ∷ places_from (k + 1) t cs else places_from (k + 1) t cs) ≡ length (if b then c ∷ lines_for t cs else lines_for t cs)
    go true rest = ap suc rest
    go false rest = rest

-- the places of commands that begin at one stand from there on, and before their end
pub places_low : (k t : ℕ) (cs : List Command) (e : ℕ) → e ≡ k + length cs → All (λ p. p < e) (places_from k t cs)
places_low k t [] e is = All-nil (λ p. p < e)
places_low k t (c ∷ cs) e is =
    let rest = places_low (k + 1) t cs e (omega arith) in
    go (is_line_of t c) rest
  where
    go : (b : Bool) → All (λ p. p < e) (places_from (k + 1) t cs) → All (λ p. p < e) (if b then k ∷ places_from (k + 1) t cs else places_from (k + 1) t cs)
    go true rest = All-cons (λ p. p < e) k (places_from (k + 1) t cs) (omega arith) rest
    go false rest = rest

pub places_high : (k t : ℕ) (cs : List Command) (e : ℕ) → e ≤ k → All (λ p. e ≤ p) (places_from k t cs)
places_high k t [] e from = All-nil (λ p. e ≤ p)
places_high k t (c ∷ cs) e from =
    let rest = places_high (k + 1) t cs e (omega arith) in
    go (is_line_of t c) rest
  where
    go : (b : Bool) → All (λ p. e ≤ p) (places_from (k + 1) t cs) → All (λ p. e ≤ p) (if b then k ∷ places_from (k + 1) t cs else places_from (k + 1) t cs)
    go true rest = All-cons (λ p. e ≤ p) k (places_from (k + 1) t cs) from rest
    go false rest = rest

-- the lines at the places of commands
pub lines_there : (t : ℕ) (done cs tail : List Command) → lines_at (done ++ (cs ++ tail)) (places_from (length done) t cs) ≡ lines_for t cs
lines_there t done [] tail = refl
lines_there t done (c ∷ cs) tail =
    let long : length (done ++ c ∷ []) ≡ length done + 1 = length-append done (c ∷ []) in
    let P : List Command × ℕ → Type 0 = λ x. lines_at x.0 (places_from x.1 t cs) ≡ lines_for t cs in
    go (is_line_of t c) (subst P (λ i. (append_assoc done (c ∷ []) (cs ++ tail) i, long i)) (lines_there t (done ++ c ∷ []) cs tail))
  where
    here : get_or (done ++ (c ∷ (cs ++ tail))) (length done) no_line ≡ c
    here = get_or-append_seam done c (cs ++ tail) no_line

    go : (b : Bool) → lines_at (done ++ (c ∷ (cs ++ tail))) (places_from (length done + 1) t cs) ≡ lines_for t cs
        → lines_at (done ++ (c ∷ (cs ++ tail))) (if b then length done ∷ places_from (length done + 1) t cs else places_from (length done + 1) t cs)
        ≡ (if b then c ∷ lines_for t cs else lines_for t cs)
    go true rest = λ i. here i ∷ rest i
    go false rest = rest

-- the ends of the rounds of commands, where the first of these stands at this place
abbrev pub ends_from : ℕ → List Command → List ℕ
ends_from k cs = meetings_from k cs ++ (k + length cs) ∷ []

-- what stands behind a round: nothing, or its meeting and the rest
abbrev pub StandsBehind : ℕ → List Command → List ℕ → Type 0
StandsBehind e [] ends = ends ≡ []
StandsBehind e (c ∷ rest) ends = (is_meet c.op ≡ true) × (ends ≡ ends_from (e + 1) rest)

-- the first round of commands, that begin at this place
pub record FirstRound (at : ℕ) (commands : List Command) (end : ℕ) (ends : List ℕ) : Type 0 where
  pub round : List Command
  pub tail : List Command
  pub whole : commands ≡ round ++ tail
  pub plain : HaveNoMeeting round
  pub last : end ≡ at + length round
  pub behind : StandsBehind end tail ends

-- a line in front of a round
line_first : (at : ℕ) (c : Command) (commands : List Command) (end : ℕ) (ends : List ℕ) → is_meet c.op ≡ false → FirstRound (at + 1) commands end ends
    → FirstRound at (c ∷ commands) end ends
line_first at c commands end ends plain r = record {
  round = c ∷ r.round;
  tail = r.tail;
  whole = ap (λ l. c ∷ l) r.whole;
  plain = All-cons (λ d. is_meet d.op ≡ false) c r.round plain r.plain;
  last = (let last = r.last in omega arith);
  behind = r.behind;
}

head_of : (x y : ℕ) (xs ys : List ℕ) → x ∷ xs ≡ y ∷ ys → x ≡ y
head_of x y xs ys e = cc

tail_of : (x y : ℕ) (xs ys : List ℕ) → x ∷ xs ≡ y ∷ ys → xs ≡ ys
tail_of x y xs ys e = ap (drop 1) e

pub first_round : (at : ℕ) (commands : List Command) (end : ℕ) (ends : List ℕ) → ends_from at commands ≡ end ∷ ends → FirstRound at commands end ends
first_round at [] end ends is =
    let same = head_of (at + 0) end [] ends is in
    record {
      round = [];
      tail = [];
      whole = refl;
      plain = All-nil (λ c. is_meet c.op ≡ false);
      last = sym same;
      behind = sym (tail_of (at + 0) end [] ends is);
    }
first_round at (c ∷ cs) end ends is = go (first_round (at + 1) cs end ends) (is_meet c.op) refl is
  where
    go : (ends_from (at + 1) cs ≡ end ∷ ends → FirstRound (at + 1) cs end ends) → (b : Bool) → is_meet c.op ≡ b
        → (if b then at ∷ meetings_from (at + 1) cs else meetings_from (at + 1) cs) ++ (at + suc (length cs)) ∷ [] ≡ end ∷ ends
        → FirstRound at (c ∷ cs) end ends
    go next true meet e =
        let same = head_of at end (meetings_from (at + 1) cs ++ (at + suc (length cs)) ∷ []) ends e in
        let on : at + suc (length cs) ≡ (at + 1) + length cs = omega arith in
        let rest : ends ≡ ends_from (at + 1) cs =
        sym (tail_of at end (meetings_from (at + 1) cs ++ (at + suc (length cs)) ∷ []) ends e) ∙ ap (λ k. meetings_from (at + 1) cs ++ k ∷ []) on in
        record {
          round = [];
          tail = c ∷ cs;
          whole = refl;
          plain = All-nil (λ d. is_meet d.op ≡ false);
          last = omega (arith, same);
          behind = (meet, rest ∙ ap (λ k. ends_from (k + 1) cs) same);
        }
    go next false plain e =
        let on : at + suc (length cs) ≡ (at + 1) + length cs = omega arith in
        line_first at c cs end ends plain (next (ap (λ k. meetings_from (at + 1) cs ++ k ∷ []) (sym on) ∙ e))
