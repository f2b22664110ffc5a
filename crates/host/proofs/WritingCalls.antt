-- A write and a trim, made of their steps.
use Rattle.std.proofs.Common.{◌≡◌, ℕ, ◌+◌, ◌<◌, ◌≤◌, true, false, is_some, ⊎_elim, inl, inr, ◌⊎◌, List, [], ◌∷◌, ◌++◌, Option, None, Some, sym, refl, ap, ◌∙◌}
use Rattle.std.proofs.Common.{subst, arith}
use Rattle.std.specs.List.{range_with_len}
use mathlib.Core.Logic.{dite}
use native.Mathlib.Decide.{ℕ_discrete}
use Rattle.geometry.specs.Geometry.{blocks_of, pages_of, endurance_of}
use Rattle.geometry.specs.{History.Call, History.Begins, History.was, Limits.Numbers}
use Rattle.geometry.specs.declared.{answer.Was.Was, words.MapWord.MapWord, words.Phase.TheVariants.Open, words.Phase.TheVariants.Closed}
use Rattle.flash_rule.specs.{declared.facts.Owned.Owned, declared.facts.Work.Work, declared.view.View.View, Views.AreOfHosts, Views.owned_at, Views.calls_of}
use Rattle.flash_rule.specs.Plays.{Called, CanPlace, IsSettled, next_page, is_unpinned}
use Rattle.flash_rule.proofs.{Owning.some_same, Owning.none_some, Still.pass_of}
use Rattle.flash_table.specs.declared.{flash.Flash.Flash, pass.Pass.Pass, pass.OpenBlock.OpenBlock}
use Rattle.flash_table.specs.{Owning.owned_of, Owning.owned_list, Steps.HasNumber, Steps.PlaceTold}
use Rattle.flash_table.specs.Flash.{IsPassOf, view_of, opened_of, geometry_of, device}
use Rattle.host.specs.Filling.{TookLowest, Filled, ClosedIfFull, IsClosedIfFull, IsProgrammed, Starts}
use Rattle.host.specs.{Ready.IsReady, Told.Programmed}
use Rattle.host.proofs.WritingSteps.{owns_one}

lt_or_eq : (m n : ℕ) → m ≤ n → (m < n) ⊎ (m ≡ n)
lt_or_eq m n le = dite (ℕ_discrete m n) (λ same. inr same) (λ other. inl (omega arith))

-- ---- a trim
pub ready_called : (f : Flash) (p q : Pass) (c : Call) (s : ℕ) (answer : Was) → IsReady f p → IsPassOf f q → opened_of q ≡ opened_of p
    → Called (view_of p) c s answer (view_of q) → IsReady f q
ready_called f p q c s answer h pass opened told =
    let r = h.rested in
    record {
      rested = record {
        pass = pass;
        room = λ o is. r.room o (sym opened ∙ is);
        settled = subst (λ (w : View). IsSettled w) (sym told.changed) r.settled;
        idle = λ none. ap (λ (w : View). w.work) told.changed ∙ r.idle (sym opened ∙ none);
        callers = subst (λ (z : Numbers). AreOfHosts z (view_of q).seen) (sym (ap (λ (w : View). w.numbers) told.changed)) told.callers;
        own = λ t role. told.own t (ap (λ (w : View). w.role) (sym told.changed) ∙ role);
        whole = ap (λ (w : View). w.whole) told.changed ∙ r.whole;
        alone = ap (λ (w : View). w.guest) told.changed ∙ r.alone;
      };
      unpinned = ap (λ (w : View). is_unpinned w.pin) told.changed ∙ h.unpinned;
    }

-- ---- a write begins
pub not_some : (x : Option OpenBlock) → is_some x ≡ false → x ≡ None
not_some None not = refl
not_some (Some o) not = absurd (cc)

pub some_open : (x : Option OpenBlock) → is_some x ≡ true → (o : OpenBlock) × (x ≡ Some o)
some_open None is = absurd (cc)
some_open (Some o) is = (o, refl)

pub starts_open : (f : Flash) (p : Pass) (o : OpenBlock) → IsReady f p → opened_of p ≡ Some o → Starts f (view_of p) p o
starts_open f p o h is =
    let room = h.rested.room o is in
    let owns : (view_of p).owns ≡ owned_of o ∷ [] = owns_one p o is in
    record {
      pass = h.rested.pass;
      opened = is;
      low = room.0;
      left = room.1;
      young = room.2;
      settled = h.rested.settled;
      changed = refl;
      continued = λ x same. let e : owned_of o ∷ [] ≡ x ∷ [] = sym owns ∙ same in ((cc), refl, refl);
      begun = λ none. let e : owned_of o ∷ [] ≡ [] = sym owns ∙ none in absurd (cc);
    }

pub starts_taken : (f : Flash) (p q : Pass) → IsReady f p → opened_of p ≡ None → IsPassOf f q → TookLowest (view_of p) (view_of q) (opened_of q)
    → (o : OpenBlock) × Starts f (view_of p) q o
starts_taken f p q h none pass took =
    let o : OpenBlock = record { block = took.block; generation = took.generation; written = 0 } in
    let nothing : (view_of p).owns ≡ [] = p.owns ∙ ap owned_list none in
    let numbers = h.rested.pass.numbers in
    let blocks : (view_of p).numbers.blocks ≡ (device f).blocks = ap (λ (z : Numbers). z.blocks) numbers in
    let endurance : (view_of p).numbers.endurance ≡ (device f).endurance = ap (λ (z : Numbers). z.endurance) numbers in
    let low = took.low in
    let young = took.young in
    let pages = (geometry_of f).in_limits.pages_low in
    let idle : (view_of q).work ≡ None = ap (λ (w : View). w.work) took.changed ∙ h.rested.idle none in (
      o,
      record {
        pass = pass;
        opened = took.opens;
        low = omega arith;
        left = omega arith;
        young = omega arith;
        settled = λ x e work own. absurd (none_some x (sym idle ∙ work));
        changed = took.changed ∙ (λ i.
            record (view_of p) { taken = (sym took.changed i).taken; denied = (sym took.changed i).denied; owns = (sym took.changed i).owns });
        continued = λ x same. let e : x ∷ [] ≡ [] = sym same ∙ nothing in absurd (cc);
        begun = λ _. (refl, ap (λ (w : View). w.taken) took.changed, ap (λ (w : View). w.denied) took.changed);
      },
    )

pub can_settled : (v : View) (s : ℕ) (m : MapWord) (value : List ℕ) → CanPlace v s m value → IsSettled v
can_settled v s m value h x e work own =
    let same : h.work ≡ x = some_same h.work x (sym h.is ∙ work) in
    let page : x.page ≡ m = sym (ap (λ (y : Work). y.page) same) ∙ h.page in
    let entry : h.entry ≡ e = some_same h.entry e (sym h.own ∙ (ap (λ (n : MapWord). owned_at n.block v.owns) (sym page) ∙ own)) in
    let low = h.counted in
    let at : x.page.page ≡ m.page = ap (λ (n : MapWord). n.page) page in
    let written : h.entry.written ≡ e.written = ap (λ (y : Owned). y.written) entry in omega arith

-- ---- a write goes on
module _ (f : Flash) (v : View) (p q : Pass) (o : OpenBlock) (h : Starts f v p o) (s : ℕ) (value : List ℕ) (page : MapWord)
    (x : Filled (view_of p) o s value page (view_of q)) where
  module _ (r : Pass) (c : Call) (answer : Was) (told : Called (view_of q) c s answer (view_of r)) where
    pub placed_settled : IsSettled (view_of r)
    placed_settled = subst (λ (w : View). IsSettled w) (sym told.changed) (can_settled (view_of q) s page value x.placeable)

    module _ (w : Pass) (e : ClosedIfFull (pages_of (geometry_of f)) (view_of r) (record o { written = o.written + 1 }) (view_of w) (opened_of w)) where
      left_or_full : (o.written + 1 < pages_of (geometry_of f)) ⊎ (o.written + 1 ≡ pages_of (geometry_of f))
      left_or_full = let left = h.left in lt_or_eq (o.written + 1) (pages_of (geometry_of f)) (omega arith)

      -- the last step
      last : view_of w ≡ record (view_of r) { owns = (view_of w).owns; work = (view_of w).work; ceded = (view_of w).ceded }
      last =
          ⊎_elim
          (λ (left : o.written + 1 < pages_of (geometry_of f)). let same = (e.kept left).0 in
          same ∙ (λ i. record (view_of r) { owns = (sym same i).owns; work = (sym same i).work; ceded = (sym same i).ceded }))
          (λ (full : o.written + 1 ≡ pages_of (geometry_of f)). let same = (e.full full).0 in
          same ∙ (λ i. record (view_of r) { owns = (sym same i).owns; work = (sym same i).work; ceded = (sym same i).ceded }))
          left_or_full

      -- all steps
      whole : view_of w ≡ record v {
        seen = (view_of r).seen;
        mine = v.mine ++ c ∷ [];
        programs = v.programs ++ page ∷ [];
        owns = (view_of w).owns;
        work = (view_of w).work;
        taken = (view_of p).taken;
        denied = (view_of p).denied;
        ceded = (view_of w).ceded;
      }
      whole =
          let owns = (view_of w).owns in
          let work = (view_of w).work in
          let ceded = (view_of w).ceded in
          let seen = (view_of r).seen in
          let mine : View → List Call = λ y. y.mine ++ c ∷ [] in
          let programs : View → List MapWord = λ y. y.programs ++ page ∷ [] in
          last
          ∙ ((λ i. record (told.changed i) { owns = owns; work = work; ceded = ceded })
          ∙ ((λ i. record (x.changed i) { seen = seen; mine = mine (x.changed i); owns = owns; work = work; ceded = ceded })
          ∙ (λ i. record (h.changed i) { seen = seen; mine = mine (h.changed i); programs = programs (h.changed i); owns = owns; work = work; ceded = ceded })))

      -- the block, where a page is left in it, or where none is
      owns_left : o.written + 1 < pages_of (geometry_of f)
          → (view_of w).owns ≡ record { block = page.block; phase = Open; generation = page.generation; written = page.page + 1 } ∷ []
      owns_left left =
          let entry : MapWord → List Owned = λ m. record { block = m.block; phase = Open; generation = m.generation; written = m.page + 1 } ∷ [] in
          ap (λ (y : View). y.owns) (e.kept left).0 ∙ (ap (λ (y : View). y.owns) told.changed ∙ (ap (λ (y : View). y.owns) x.changed ∙ ap entry (sym x.next)))

      -- the blocks given up, before the last step and after it
      given_before : (view_of r).ceded ≡ v.ceded
      given_before = ap (λ (y : View). y.ceded) told.changed ∙ (ap (λ (y : View). y.ceded) x.changed ∙ ap (λ (y : View). y.ceded) h.changed)

      given_at_last : o.written + 1 ≡ pages_of (geometry_of f)
          → (view_of w).ceded ≡ v.ceded ++ record { block = page.block; phase = Closed; generation = page.generation; written = page.page + 1 } ∷ []
      given_at_last full =
          let entry : MapWord → List Owned = λ m. record { block = m.block; phase = Closed; generation = m.generation; written = m.page + 1 } ∷ [] in
          ap (λ (y : View). y.ceded) (e.full full).0 ∙ (λ i. given_before i ++ entry (sym x.next i))

      pages_same : v.numbers.pages ≡ pages_of (geometry_of f)
      pages_same = ap (λ (y : View). y.numbers.pages) (sym h.changed) ∙ ap (λ (z : Numbers). z.pages) h.pass.numbers

      blocks_same : v.numbers.blocks ≡ blocks_of (geometry_of f)
      blocks_same = ap (λ (y : View). y.numbers.blocks) (sym h.changed) ∙ ap (λ (z : Numbers). z.blocks) h.pass.numbers

      page_is : page.page ≡ o.written
      page_is = ap (λ (m : MapWord). m.page) x.next

      block_is : page.block ≡ o.block
      block_is = ap (λ (m : MapWord). m.block) x.next

      pub wrote : Programmed v c s answer (view_of w)
      wrote =
          let all = whole in
          let seen : (view_of w).seen ≡ (view_of r).seen = ap (λ (y : View). y.seen) all in
          let begin : (view_of q).seen ≡ v.seen = ap (λ (y : View). y.seen) x.changed ∙ ap (λ (y : View). y.seen) h.changed in
          let sectors : (view_of q).numbers.sectors ≡ v.numbers.sectors =
          ap (λ (y : View). y.numbers.sectors) x.changed ∙ ap (λ (y : View). y.numbers.sectors) h.changed in
          let taken : (view_of w).taken ≡ (view_of p).taken = ap (λ (y : View). y.taken) all in
          let denied : (view_of w).denied ≡ (view_of p).denied = ap (λ (y : View). y.denied) all in
          let pages = pages_same in
          let blocks = blocks_same in
          let at = page_is in
          let on = block_is in
          let low = h.low in
          let left = h.left in
          let others : View → View =
          λ y. record v {
            seen = y.seen;
            mine = v.mine ++ c ∷ [];
            programs = y.programs;
            owns = y.owns;
            work = y.work;
            taken = y.taken;
            denied = y.denied;
            ceded = y.ceded;
          } in
          record {
            changed = all ∙ ap others (sym all);
            before = told.before;
            later = subst (λ l. Begins l told.before) begin told.later;
            now = seen ∙ told.now;
            answered = told.answered ∙ ap (λ n. was n told.before s) sectors;
            page = page;
            within = ((omega arith), (omega arith));
            programmed = ap (λ (y : View). y.programs) all;
            continued = λ y same. let k = h.continued y same in (x.next ∙ ap next_page k.0, taken ∙ k.1, denied ∙ k.2);
            begun = λ none. let k = h.begun none in (at ∙ k.0, taken ∙ k.1, denied ∙ (k.2 ∙ ap (λ n. v.denied ++ range_with_len 0 n) (sym on)));
            kept = λ more. owns_left (omega arith);
            closed = λ full. ap (λ (y : View). y.owns) (e.full (omega arith)).0;
            none_given_up = λ more. ap (λ (y : View). y.ceded) (e.kept (omega arith)).0 ∙ given_before;
            given_up = λ full. given_at_last (omega arith);
          }

      -- what else the write leaves as it was
      pub ready_written : IsPassOf f w → is_unpinned v.pin ≡ true → v.whole ≡ true → v.guest ≡ None → IsReady f w
      ready_written pass unpinned badge alone =
          let all = whole in
          let low = h.low in
          let young = h.young in
          let now : OpenBlock = record o { written = o.written + 1 } in
          let numbers : (view_of w).numbers ≡ (view_of q).numbers = ap (λ (y : View). y.numbers) last ∙ ap (λ (y : View). y.numbers) told.changed in
          let role : (view_of w).role ≡ (view_of q).role = ap (λ (y : View). y.role) last ∙ ap (λ (y : View). y.role) told.changed in
          record {
            rested = record {
              pass = pass;
              room = λ k is.
                  ⊎_elim
                  (λ (left : o.written + 1 < pages_of (geometry_of f)).
                  let P : OpenBlock → Type 0 = λ y. (y.block < blocks_of (geometry_of f)) × (y.written < pages_of (geometry_of f))
                  × (y.generation < endurance_of (geometry_of f)) in
                  subst P (some_same now k (sym (e.kept left).1 ∙ is)) (low, left, young))
                  (λ (full : o.written + 1 ≡ pages_of (geometry_of f)). absurd (none_some k (sym (e.full full).1 ∙ is)))
                  left_or_full;
              settled = ⊎_elim
                  (λ (left : o.written + 1 < pages_of (geometry_of f)). subst (λ (y : View). IsSettled y) (sym (e.kept left).0) placed_settled)
                  (λ (full : o.written + 1 ≡ pages_of (geometry_of f)). λ y d work own.
                  absurd (none_some y (sym (ap (λ (z : View). z.work) (e.full full).0) ∙ work)))
                  left_or_full;
              idle = λ none.
                  ⊎_elim
                  (λ (left : o.written + 1 < pages_of (geometry_of f)). absurd (none_some now (sym none ∙ (e.kept left).1)))
                  (λ (full : o.written + 1 ≡ pages_of (geometry_of f)). ap (λ (z : View). z.work) (e.full full).0)
                  left_or_full;
              callers = subst (λ (z : Numbers). AreOfHosts z (view_of w).seen) (sym numbers)
                  (subst (AreOfHosts (view_of q).numbers) (sym (ap (λ (y : View). y.seen) last)) told.callers);
              own = λ t is. ap (λ (y : View). calls_of t y.seen) last ∙ (told.own t (sym role ∙ is) ∙ ap (λ (y : View). y.mine) (sym last));
              whole = ap (λ (y : View). y.whole) all ∙ badge;
              alone = ap (λ (y : View). y.guest) all ∙ alone;
            };
            unpinned = ap (λ (y : View). is_unpinned y.pin) all ∙ unpinned;
          }

-- ---- a write of either kind, once its page is programmed and the sector's map word was exchanged
module _ (f : Flash) (p q r : Pass) (s : ℕ) (value : List ℕ) (page : MapWord) (h : IsReady f p) (x : IsProgrammed f (view_of p) s value page q)
    (call : ℕ → List ℕ → Call) (answer : Was) (told : PlaceTold call q s page answer r) where
  called : (n : ℕ) → HasNumber n p → Called (view_of q) (call n value) s answer (view_of r)
  called n is = told n value (ap (λ (y : View). y.role) x.filled.changed ∙ (ap (λ (y : View). y.role) x.starts.changed ∙ is)) x.filled.placeable

  number : (n : ℕ) × HasNumber n p
  number = pass_of (view_of p).role h.rested.pass.role

  pub exchanged_settled : IsSettled (view_of r)
  exchanged_settled = placed_settled f (view_of p) x.start q x.block x.starts s value page x.filled r (call number.0 value) answer (called number.0 number.1)

  module _ (w : Pass) (same : opened_of r ≡ opened_of q) (closed : (o : OpenBlock) → opened_of r ≡ Some o → IsClosedIfFull (geometry_of f) r o w) where
    ended : ClosedIfFull (pages_of (geometry_of f)) (view_of r) (record x.block { written = x.block.written + 1 }) (view_of w) (opened_of w)
    ended = closed (record x.block { written = x.block.written + 1 }) (same ∙ x.opened)

    pub write_done : (n : ℕ) → HasNumber n p → Programmed (view_of p) (call n value) s answer (view_of w)
    write_done n is = wrote f (view_of p) x.start q x.block x.starts s value page x.filled r (call n value) answer (called n is) w ended

    pub write_ready : IsPassOf f w → IsReady f w
    write_ready pass = ready_written f (view_of p) x.start q x.block x.starts s value page x.filled r (call number.0 value) answer
        (called number.0 number.1) w ended pass h.unpinned h.rested.whole h.rested.alone
