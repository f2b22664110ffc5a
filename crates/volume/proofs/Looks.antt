-- Passes that look and do nothing else: they meet one another, or read one sector after another.
use Rattle.std.proofs.Common.{◌≡◌, ℕ, ◌+◌, ◌<◌, ◌≤◌, All, List, length, slice_set, get_or, sym, refl, ap, ◌∙◌, subst, arith, [], ◌∷◌, ◌++◌, Option, None, Vec}
use Rattle.std.proofs.Common.{Global, if◌then◌else◌}
use Rattle.std.proofs.lemmas.List.{get_or-set_same, get_or-set_other, get_or_default, length-set, map_push, length_push, get_or_append_left, get_or_push}
use Rattle.std.proofs.lemmas.List.Elements.{All-set}
use mathlib.Core.Logic.{dite, inl, inr}
use native.Mathlib.Decide.{ℕ_discrete}
use Rattle.geometry.proofs.Histories.{Begins-refl, Begins-trans}
use Rattle.flash_rule.specs.declared.view.View.{View}
use Rattle.flash_table.specs.declared.flash.Flash.{Flash}
use Rattle.flash_table.specs.declared.pass.Pass.{Pass}
use Rattle.flash_table.specs.Flash.{view_of}
use Rattle.host.specs.Ready.{IsReady}
use Rattle.host.specs.Told.{MetTold}
use Rattle.volume.specs.Closing.{HasLooked, array_of, Tied, MetEach, HasRead}
use Rattle.std.specs.Option.{option_map}
use Rattle.std.proofs.Math.Dec.{ltb}
use Rattle.std.proofs.lemmas.Bool.{lt-ltb, le-ltb, cases_lt}
use Rattle.geometry.specs.History.{Call, held, Begins}
use Rattle.geometry.specs.Sectors.{Sector, sector_at}
use Rattle.flash_rule.specs.declared.facts.Name.TheVariants.{Pass as APass}
use Rattle.flash_rule.specs.declared.facts.Role.TheVariants.{Player}
use Rattle.flash_rule.specs.Views.{calls_of}

pub looked-refl : (v : View) → HasLooked v v
looked-refl v = record { changed = refl; later = Begins-refl v.seen }

pub looked-trans : (u v w : View) → HasLooked u v → HasLooked v w → HasLooked u w
looked-trans u v w a b =
    record {
      changed = b.changed ∙ ap (λ (x : View).
          record x { seen = w.seen; looks = w.looks; pin = w.pin; known = w.known; copy = w.copy; older = w.older }) a.changed;
      later = Begins-trans u.seen v.seen w.seen a.later b.later;
    }

module _ (v v' w w' : View) (told : MetTold v v' w w') where
  pub met_first : HasLooked v w
  met_first =
      let looks = ap (λ (x : View). x.looks) told.first in
      let older = ap (λ (x : View). x.older) told.first in
      record {
        changed = told.first
            ∙ (λ i. record v { seen = w.seen; looks = sym looks i; pin = w.pin; known = w.known; copy = w.copy; older = sym older i });
        later = told.later;
      }

  pub met_second : HasLooked v' w'
  met_second =
      let looks = ap (λ (x : View). x.looks) told.second in
      let older = ap (λ (x : View). x.older) told.second in
      record {
        changed = told.second ∙ (λ i. record v' { seen = w'.seen; looks = sym looks i; pin = w'.pin; known = w'.known; copy = w'.copy; older = sym older i });
        later = Begins-trans v'.seen w.seen w'.seen told.brought told.shared;
      }

-- one pass has met the first so many of a list
pub record Meets (f : Flash) (first : Pass) (ps : List Pass) (i : ℕ) (now : Pass) (qs : List Pass) : Type 0 where
  pub ready : IsReady f now
  pub looked : HasLooked (view_of first) (view_of now)
  pub others : All (IsReady f) qs
  pub done : (k : ℕ) (p q : Pass) → k < i → k < length ps → Tied (view_of first) (get_or ps k p) (view_of now) (get_or qs k q)
  pub rest : (k : ℕ) (d : Pass) → i ≤ k → get_or qs k d ≡ get_or ps k d
  pub long : length qs ≡ length ps

pub begins : (f : Flash) (first : Pass) (ps : List Pass) → IsReady f first → All (IsReady f) ps → Meets f first ps 0 first ps
begins f first ps ready others =
    record {
      ready = ready;
      looked = looked-refl (view_of first);
      others = others;
      done = λ k p q low below. absurd (omega arith);
      rest = λ k d low. refl;
      long = refl;
    }

-- what was tied stays so as the first one looks on
tied_on : (v w x : View) (p q : Pass) → HasLooked w x → Tied v p w q → Tied v p x q
tied_on v w x p q on t = record { looked = t.looked; brought = Begins-trans (view_of p).seen w.seen x.seen t.brought on.later; given = t.given }

pub meets_next : (f : Flash) (first : Pass) (ps : List Pass) (i : ℕ) (now now' second second' : Pass) (qs : List Pass) → Meets f first ps i now qs
    → i < length ps
    → MetTold (view_of now) (view_of (get_or qs i second)) (view_of now') (view_of second') → IsReady f now' → IsReady f second'
    → Meets f first ps (i + 1) now' (slice_set qs i second')
meets_next f first ps i now now' second second' qs m low told ready ready' =
    let v = view_of first in
    let on = met_first _ _ _ _ told in
    let there : i < length qs = omega (arith, m.long) in
    let here : (p q : Pass) → Tied v (get_or ps i p) (view_of now') (get_or (slice_set qs i second') i q) = λ p q.
    let same : get_or qs i second ≡ get_or ps i p = get_or_default qs i second p there ∙ m.rest i p (omega arith) in
    let tied : Tied v (get_or qs i second) (view_of now') second' = record {
      looked = met_second _ _ _ _ told;
      brought = told.brought;
      given = Begins-trans v.seen (view_of now).seen (view_of second').seen m.looked.later
          (Begins-trans (view_of now).seen (view_of now').seen (view_of second').seen told.later told.shared);
    } in
    subst (λ (x : Pass × Pass). Tied v x.0 (view_of now') x.1) (λ j. (same j, sym (get_or-set_same qs i second' q there) j)) tied in
    record {
      ready = ready;
      looked = looked-trans v (view_of now) (view_of now') m.looked on;
      others = All-set (IsReady f) qs i second' ready' m.others;
      done = λ k p q more below.
          dite (ℕ_discrete k i)
          (λ same. subst (λ (j : ℕ). Tied v (get_or ps j p) (view_of now') (get_or (slice_set qs i second') j q)) (sym same) (here p q))
          (λ other. subst (Tied v (get_or ps k p) (view_of now')) (sym (get_or-set_other qs i k second' q other))
          (tied_on v (view_of now) (view_of now') _ _ on (m.done k p q (omega arith) below)));
      rest = λ k d past. get_or-set_other qs i k second' d (λ same. omega arith) ∙ m.rest k d (omega arith);
      long = length-set qs i second' ∙ m.long;
    }

pub met_each : (f : Flash) (first now : Pass) (ps qs : List Pass) (i : ℕ) → Meets f first ps i now qs → length ps ≤ i
    → MetEach (view_of first) ps (view_of now) qs
met_each f first now ps qs i m all = record { first = m.looked; long = m.long; each = λ k p q low. m.done k p q (omega arith) low }

-- as the function says below n, and x from there on
until : {X : Type 0} → ℕ → (ℕ → X) → X → ℕ → X
until n f x s = if ltb s n then f s else x

module _ {X : Type 0} (n : ℕ) (f : ℕ → X) (x : X) where
  before : (s : ℕ) → s < n → until n f x s ≡ f s
  unfolding until
  before s low = rw (lt-ltb s n low) refl

  from : (s : ℕ) → n ≤ s → until n f x s ≡ x
  unfolding until
  from s past = rw (le-ltb s n past) refl

-- what holds of the function below n, and of x from there on, holds of all
until_all : {X : Type 0} (P : ℕ → X → Type 0) (n : ℕ) (f : ℕ → X) (x : X) → ((s : ℕ) → s < n → P s (f s)) → ((s : ℕ) → n ≤ s → P s x) → (s : ℕ)
    → P s (until n f x s)
until_all P n f x low past s = elim (cases_lt s n) [
  | inl is ↦ subst (P s) (sym (before n f x s is)) (low s is)
  | inr is ↦ subst (P s) (sym (from n f x s is)) (past s is)
]

-- the pass has read the sectors below i
pub record Sweeps (f : Flash) (n : ℕ) (first now : Pass) (sectors : List Sector) (i : ℕ) : Type 0 where
  pub ready : IsReady f now
  pub read : HasRead n (view_of first) sectors (view_of now)
  pub long : length sectors ≡ i

pub sweep_begins : (f : Flash) (n : ℕ) (first : Pass) (values : List (Option (Vec ℕ Global))) → values ≡ [] → IsReady f first
    → Sweeps f n first first (array_of values) 0
sweep_begins f n first values none ready =
    let v = view_of first in
    let empty : array_of values ≡ [] = ap array_of none in
    subst (λ (l : List Sector). Sweeps f n first first l 0) (sym empty)
    (record {
      ready = ready;
      read = record {
        looked = looked-refl v;
        history = λ _. v.seen;
        later = λ s. Begins-refl v.seen;
        grows = λ s. Begins-refl v.seen;
        last = λ s. Begins-refl v.seen;
        own = λ s t role. ready.rested.own t role;
        each = λ s low. absurd (omega arith);
      };
      long = refl;
    })

module _ (f : Flash) (n : ℕ) (first now next : Pass) (sectors : List Sector) (i : ℕ) (value : Sector) (h : Sweeps f n first now sectors i)
    (looked : HasLooked (view_of now) (view_of next)) (ready : IsReady f next)
    (read : value ≡ held n (view_of next).seen i) where
  abbrev seen : List Call
  seen = (view_of next).seen

  abbrev history : ℕ → List Call
  history = until i h.read.history seen

  all_looked : HasLooked (view_of first) (view_of next)
  all_looked = looked-trans (view_of first) (view_of now) (view_of next) h.read.looked looked

  last : (s : ℕ) → Begins (history s) seen
  last = until_all (λ s k. Begins k seen) i h.read.history seen
      (λ s _. Begins-trans (h.read.history s) (view_of now).seen seen (h.read.last s) looked.later) (λ s _. Begins-refl seen)

  grows : (s : ℕ) → Begins (history s) (history (s + 1))
  grows s = elim (cases_lt (s + 1) i) [
    | inl is ↦ subst (λ (k : List Call × List Call). Begins k.0 k.1)
        (λ j. (sym (before i h.read.history seen s (omega arith)) j, sym (before i h.read.history seen (s + 1) is) j)) (h.read.grows s)
    | inr is ↦ subst (Begins (history s)) (sym (from i h.read.history seen (s + 1) is)) (last s)
  ]

  own : (s t : ℕ) → (view_of first).role ≡ Player (APass t) → calls_of t (history s) ≡ (view_of first).mine
  own s t role =
      let here : calls_of t seen ≡ (view_of first).mine =
      ready.rested.own t (ap (λ (v : View). v.role) all_looked.changed ∙ role) ∙ ap (λ (v : View). v.mine) all_looked.changed in
      until_all (λ s k. calls_of t k ≡ (view_of first).mine) i h.read.history seen (λ s _. h.read.own s t role) (λ s _. here) s

  each : (s : ℕ) → s < length (sectors ++ value ∷ []) → sector_at (sectors ++ value ∷ []) s ≡ held n (history s) s
  each s low = elim (cases_lt s i) [
    | inl is ↦
        let below : s < length sectors = omega (arith, h.long) in
        get_or_append_left sectors (value ∷ []) None s below ∙ (h.read.each s below ∙ ap (λ k. held n k s) (sym (before i h.read.history seen s is)))
    | inr is ↦
        let here : s ≡ i = omega (arith, h.long, length_push sectors value) in
        get_or_push sectors value None s (h.long ∙ sym here)
        ∙ (read ∙ (ap (held n seen) (sym here) ∙ ap (λ k. held n k s) (sym (from i h.read.history seen s is))))
  ]

  pub sweeps_next : Sweeps f n first next (sectors ++ value ∷ []) (i + 1)
  sweeps_next =
      record {
        ready = ready;
        read = record {
          looked = all_looked;
          history = history;
          later = until_all (λ s k. Begins (view_of first).seen k) i h.read.history seen (λ s _. h.read.later s) (λ s _. all_looked.later);
          grows = grows;
          last = last;
          own = own;
          each = each;
        };
        long = length_push sectors value ∙ ap (λ k. k + 1) h.long;
      }

-- a row of values with one more
pub one_more : (values more : List (Option (Vec ℕ Global))) (value : Option (Vec ℕ Global)) → more ≡ values ++ value ∷ []
    → array_of more ≡ array_of values ++ option_map (λ v. v.items) value ∷ []
one_more values more value is = ap array_of is ∙ map_push (option_map (λ v. v.items)) values value
