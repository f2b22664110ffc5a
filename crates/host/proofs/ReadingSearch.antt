-- A page that is pinned, word by word, and the looks of a search: each but the last one is followed by a stray pin, by which the pass learns that a
-- block is older than it knew.
use Rattle.std.proofs.Common.{◌≡◌, ℕ, ◌+◌, ◌-◌, ◌*◌, ◌<◌, ◌≤◌, ◌∙◌, List, true, None, Some, sym, ap, subst, refl, arith, ◌^◌, length, get_or}
use Rattle.geometry.specs.History.{Call, Begins, held}
use Rattle.geometry.specs.Words.{FitsMap, map_word, word_of}
use Rattle.geometry.specs.Limits.{Numbers}
use Rattle.geometry.specs.declared.words.MapWord.{MapWord}
use Rattle.geometry.proofs.Histories.{Begins-refl, Begins-trans}
use Rattle.geometry.proofs.WordBits.{map_same}
use Rattle.flash_rule.specs.declared.facts.Name.TheVariants.{Pass as APass}
use Rattle.flash_rule.specs.declared.facts.Role.TheVariants.{Player}
use Rattle.flash_rule.specs.declared.facts.Owned.{Owned}
use Rattle.flash_rule.specs.declared.view.View.{View}
use Rattle.flash_rule.specs.declared.facts.Pin.{Pin}
use Rattle.flash_rule.specs.declared.facts.Pin.TheVariants.{Clear, Candidate, Accepted}
use Rattle.flash_rule.specs.Views.{AreOfHosts, calls_of, sum_of, owned_at}
use Rattle.flash_rule.specs.Rule.{IsValue}
use Rattle.flash_rule.specs.Plays.{Looked, is_unpinned}
use Rattle.flash_table.specs.declared.flash.Flash.{Flash}
use Rattle.flash_table.specs.declared.pass.Pass.{Pass}
use Rattle.flash_table.specs.Flash.{IsPassOf, device, view_of, opened_of, geometry_of}
use Rattle.host.specs.Ready.{IsRested, IsReady, IsPinned}
use Rattle.host.specs.Told.{Searched, CameLate}
use Rattle.geometry.specs.Geometry.{words_of, page_bytes_of}
use Rattle.flash_rule.specs.World.{data_word}
use Rattle.flash_rule.proofs.Values.{value_same}

-- what the ages that a pass knows can add up to
abbrev pub most_known : Numbers → ℕ
most_known z = z.blocks * (2 * z.endurance)

-- Each call that a pass saw is of a host, and its own ones are all its calls
abbrev pub KnowsCalls : View → Type 0
KnowsCalls w = AreOfHosts w.numbers w.seen × ((t : ℕ) → w.role ≡ Player (APass t) → calls_of t w.seen ≡ w.mine)

-- What a search, with so many looks so far, has changed
abbrev pub Moved : View → ℕ → View → Type 0
Moved v tries w = w ≡ record v { seen = w.seen; looks = v.looks + tries; pin = w.pin; known = w.known }

-- A search that goes on: each look was followed by a stray pin, which was given back
pub record IsSearching (v : View) (tries : ℕ) (w : View) : Type 0 where
  pub changed : Moved v tries w
  pub later : Begins v.seen w.seen
  pub own : KnowsCalls w
  pub paid : tries + sum_of v.known ≤ sum_of w.known
  pub most : tries ≤ most_known v.numbers
  pub unpinned : is_unpinned w.pin ≡ true

-- A view whose four fields were set, by its own fields
moved : (v w : View) (tries : ℕ) (seen : List Call) (pin : Pin) (known : List ℕ)
    → w ≡ record v { seen = seen; looks = v.looks + tries; pin = pin; known = known } → Moved v tries w
moved v w tries seen pin known e =
    let s : seen ≡ w.seen = sym (ap (λ (x : View). x.seen) e) in
    let p : pin ≡ w.pin = sym (ap (λ (x : View). x.pin) e) in
    let k : known ≡ w.known = sym (ap (λ (x : View). x.known) e) in
    e ∙ (λ i. record v { seen = s i; looks = v.looks + tries; pin = p i; known = k i })

moved_numbers : (v w : View) (tries : ℕ) → Moved v tries w → w.numbers ≡ v.numbers
moved_numbers v w tries e = ap (λ (x : View). x.numbers) e

pub search_begins : (f : Flash) (p : Pass) → IsReady f p → IsSearching (view_of p) 0 (view_of p)
search_begins f p h =
    let v = view_of p in
    let none : v.looks ≡ v.looks + 0 = omega arith in
    record {
      changed = (λ i. record v { looks = none i });
      later = Begins-refl v.seen;
      own = (h.rested.callers, h.rested.own);
      paid = omega arith;
      most = omega arith;
      unpinned = h.unpinned;
    }

pub search_looks : (v w x : View) (tries s n : ℕ) → IsSearching v tries w → Looked w s n x → Searched v (tries + 1) x
search_looks v w x tries s n h look =
    let numbers = moved_numbers v w tries h.changed in
    let once : (v.looks + tries) + 1 ≡ v.looks + (tries + 1) = omega arith in
    let e = look.changed ∙ ap (λ (y : View). record y { seen = x.seen; looks = y.looks + 1; pin = x.pin; known = x.known }) h.changed in
    let paid = h.paid in
    let rises = look.rises in
    let bounded = subst (λ (z : Numbers). sum_of x.known ≤ most_known z) numbers look.bounded in
    record {
      changed = e ∙ (λ i. record v { seen = x.seen; looks = once i; pin = x.pin; known = x.known });
      later = Begins-trans v.seen w.seen x.seen h.later look.later;
      looked = omega arith;
      paid = omega arith;
      bounded = bounded;
      few = omega arith;
    }

pub look_knows : (w x : View) (s n : ℕ) → Looked w s n x → KnowsCalls x
look_knows w x s n look = (
  subst (λ (z : Numbers). AreOfHosts z x.seen) (sym (ap (λ (y : View). y.numbers) look.changed)) look.callers,
  λ t is. look.own t (sym (ap (λ (y : View). y.role) look.changed) ∙ is),
)

-- A pin that was taken, and perhaps given back, leaves what a search tells
pub search_pins : (v x y : View) (tries : ℕ) (pin : Pin) → Searched v tries x → y ≡ record x { pin = pin } → Searched v tries y
search_pins v x y tries pin h e =
    let known : sum_of x.known ≡ sum_of y.known = sym (ap (λ (u : View). sum_of u.known) e) in
    let seen : x.seen ≡ y.seen = sym (ap (λ (u : View). u.seen) e) in
    let paid = h.paid in
    let bounded = h.bounded in
    record {
      changed = moved v y tries x.seen pin x.known (e ∙ ap (λ (u : View). record u { pin = pin }) h.changed);
      later = subst (λ (l : List Call). Begins v.seen l) seen h.later;
      looked = h.looked;
      paid = omega arith;
      bounded = omega arith;
      few = h.few;
    }

pub pin_knows : (x y : View) (pin : Pin) → KnowsCalls x → y ≡ record x { pin = pin } → KnowsCalls y
pin_knows x y pin h e = subst KnowsCalls (sym e) h

-- A stray pin was given back, and the search goes on
pub search_goes_on : (v x z : View) (tries : ℕ) → Searched v tries x → KnowsCalls x → CameLate x z → IsSearching v tries z
search_goes_on v x z tries h own late =
    let numbers = moved_numbers v x tries h.changed in
    let e : z ≡ record x { pin = Clear; known = z.known } = late.changed in
    let seen : x.seen ≡ z.seen = sym (ap (λ (u : View). u.seen) e) in
    let bounded : sum_of z.known ≤ most_known v.numbers = subst (λ (w : Numbers). sum_of z.known ≤ most_known w) numbers late.bounded in
    let rises = late.rises in
    let paid = h.paid in
    record {
      changed = moved v z tries x.seen Clear z.known (e ∙ ap (λ (u : View). record u { pin = Clear; known = z.known }) h.changed);
      later = subst (λ (l : List Call). Begins v.seen l) seen h.later;
      own = subst KnowsCalls (sym e) own;
      paid = omega arith;
      most = omega arith;
      unpinned = ap (λ (u : View). is_unpinned u.pin) e;
    }

-- The ages that a stray pin tells of are more, and within their bound
pub late_nearer : (z : Numbers) (w x u : View) (s n : ℕ) → x.numbers ≡ z → Looked w s n x → CameLate x u
    → most_known z - sum_of u.known < most_known z - sum_of w.known
late_nearer z w x u s n numbers look late =
    let bounded : sum_of u.known ≤ most_known z = subst (λ (y : Numbers). sum_of u.known ≤ most_known y) numbers late.bounded in
    let rises = late.rises in
    let before = look.rises in
    omega arith

-- ---- what a look names

-- A look of this device that found a page: it holds the sector's value, and is now a candidate
pub record Named (f : Flash) (s : ℕ) (page : MapWord) (x : View) : Type 0 where
  pub value : List ℕ
  pub here : held (device f).sectors x.seen s ≡ Some value
  pub whole : IsValue (device f) value
  pub candidate : x.pin ≡ Candidate page value
  pub block : page.block < (device f).blocks
  pub page_low : page.page < (device f).pages

pub look_names : (f : Flash) (w x : View) (s : ℕ) (page : MapWord) → w.numbers ≡ device f → FitsMap page → Looked w s (map_word page) x → Named f s page x
look_names f w x s page numbers fits look =
    let mapped : ¬ (map_word page ≡ 0) = λ e. absurd (omega arith) in
    let t = look.named mapped in
    let same : t.0 ≡ page = map_same t.0 page t.3 fits (sym t.2) in
    record {
      value = t.1;
      here = subst (λ (z : Numbers). held z.sectors x.seen s ≡ Some t.1) numbers t.4;
      whole = subst (λ (z : Numbers). IsValue z t.1) numbers t.5;
      candidate = t.6 ∙ ap (λ (m : MapWord). Candidate m t.1) same;
      block = subst (λ (m : MapWord). m.block < (device f).blocks) same (subst (λ (z : Numbers). t.0.block < z.blocks) numbers t.8);
      page_low = subst (λ (m : MapWord). m.page < (device f).pages) same (subst (λ (z : Numbers). t.0.page < z.pages) numbers t.9);
    }

pub look_finds_empty : (f : Flash) (w x : View) (s : ℕ) → w.numbers ≡ device f → Looked w s 0 x → (held (device f).sectors x.seen s ≡ None)
    × (is_unpinned x.pin ≡ true)
look_finds_empty f w x s numbers look =
    let t = look.empty refl in
    (subst (λ (z : Numbers). held z.sectors x.seen s ≡ None) numbers t.0, ap is_unpinned t.1)

-- ---- the pass is at rest

pub rested_same : (f : Flash) (p q : Pass) → IsRested f p → IsPassOf f q → opened_of q ≡ opened_of p → (view_of q).owns ≡ (view_of p).owns
    → (view_of q).work ≡ (view_of p).work
    → (view_of q).whole ≡ (view_of p).whole → (view_of q).guest ≡ (view_of p).guest → KnowsCalls (view_of q) → IsRested f q
rested_same f p q h pass opened owns work whole guest own =
    record {
      pass = pass;
      room = λ o is. h.room o (sym opened ∙ is);
      settled = λ w e at entry. h.settled w e (sym work ∙ at) (ap (λ (l : List Owned). owned_at w.page.block l) (sym owns) ∙ entry);
      idle = λ none. work ∙ h.idle (sym opened ∙ none);
      callers = own.0;
      own = own.1;
      whole = whole ∙ h.whole;
      alone = guest ∙ h.alone;
    }

pub rested_searched : (f : Flash) (p q : Pass) (tries : ℕ) → IsRested f p → IsPassOf f q → opened_of q ≡ opened_of p
    → Moved (view_of p) tries (view_of q) → KnowsCalls (view_of q) → IsRested f q
rested_searched f p q tries h pass opened e own =
    rested_same f p q h pass opened (ap (λ (x : View). x.owns) e) (ap (λ (x : View). x.work) e) (ap (λ (x : View). x.whole) e)
    (ap (λ (x : View). x.guest) e) own

-- ---- the looks of a search, as its pass tells them

-- A look of the search found a page
pub record Sighted (f : Flash) (p : Pass) (tries s : ℕ) (page : MapWord) (x : View) : Type 0 where
  pub named : Named f s page x
  pub told : Searched (view_of p) tries x
  pub own : KnowsCalls x

pub sighted : (f : Flash) (p w : Pass) (x : View) (tries s : ℕ) (page : MapWord) → IsSearching (view_of p) tries (view_of w) → IsPassOf f w
    → FitsMap page → Looked (view_of w) s (map_word page) x → Sighted f p (tries + 1) s page x
sighted f p w x tries s page h pass fits look =
    record {
      named = look_names f (view_of w) x s page pass.numbers fits look;
      told = search_looks (view_of p) (view_of w) x tries s (map_word page) h look;
      own = look_knows (view_of w) x s (map_word page) look;
    }

-- The page is pinned, and the search ends
pub found : (f : Flash) (p q : Pass) (tries s : ℕ) (page : MapWord) (x : View) (sight : Sighted f p tries s page x) → IsRested f p → IsPassOf f q
    → opened_of q ≡ opened_of p
    → view_of q ≡ record x { pin = Accepted page sight.named.value } → (value : List ℕ) × IsPinned f q page value
    × (held (device f).sectors (view_of q).seen s ≡ Some value)
found f p q tries s page x sight h pass opened e =
    let value = sight.named.value in
    let pin = Accepted page value in
    let told = search_pins (view_of p) x (view_of q) tries pin sight.told e in
    let seen : (view_of q).seen ≡ x.seen = ap (λ (u : View). u.seen) e in (
      value,
      record {
        rested = rested_searched f p q tries h pass opened told.changed (pin_knows x (view_of q) pin sight.own e);
        pinned = ap (λ (u : View). u.pin) e;
        whole = sight.named.whole;
        block = sight.named.block;
        page = sight.named.page_low;
      },
      ap (λ (l : List Call). held (device f).sectors l s) seen ∙ sight.named.here,
    )

-- The sector is empty, and the search ends
pub found_empty : (f : Flash) (p w q : Pass) (tries s : ℕ) → IsSearching (view_of p) tries (view_of w) → IsPassOf f w
    → Looked (view_of w) s 0 (view_of q) → IsRested f p → IsPassOf f q → opened_of q ≡ opened_of p
    → IsReady f q × (held (device f).sectors (view_of q).seen s ≡ None)
found_empty f p w q tries s h pass look rested now opened =
    let empty = look_finds_empty f (view_of w) (view_of q) s pass.numbers look in
    let told = search_looks (view_of p) (view_of w) (view_of q) tries s 0 h look in
    let own = look_knows (view_of w) (view_of q) s 0 look in
    (record { rested = rested_searched f p q (tries + 1) rested now opened told.changed own; unpinned = empty.1 }, empty.0)

-- A pass whose view and open block stay keeps its pin
pub pinned_same : (f : Flash) (p q : Pass) (page : MapWord) (value : List ℕ) → IsPinned f p page value → IsPassOf f q → view_of q ≡ view_of p
    → opened_of q ≡ opened_of p → IsPinned f q page value
pinned_same f p q page value h pass same opened =
    let rested = h.rested in
    record {
      rested = rested_same f p q rested pass opened (ap (λ (x : View). x.owns) same) (ap (λ (x : View). x.work) same)
          (ap (λ (x : View). x.whole) same) (ap (λ (x : View). x.guest) same) (subst KnowsCalls (sym same) (rested.callers, rested.own));
      pinned = ap (λ (x : View). x.pin) same ∙ h.pinned;
      whole = h.whole;
      block = h.block;
      page = h.page;
    }

-- A buffer of a page's length whose words are the value's has the value
pub value_read : (f : Flash) (p : Pass) (page : MapWord) (value out : List ℕ) → IsPinned f p page value → length out ≡ page_bytes_of (geometry_of f)
    → ((k : ℕ) → get_or out k 0 < 2 ^ 8)
    → ((k : ℕ) → k < words_of (geometry_of f) → word_of out k ≡ data_word value k) → out ≡ value
unfolding data_word
value_read f p page value out h long bytes words = value_same (device f) out value (record { long = long; bytes = bytes }) h.whole words
