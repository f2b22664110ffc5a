use Rattle.std.proofs.Common.{◌≡◌, ℕ, ◌+◌, ◌-◌, ◌<◌, ◌≤◌, Some, refl, get_or, length, take, drop, sym, ap, ◌∙◌, subst, arith, add-zero}
use Rattle.std.{specs.Prelude.slice_get, proofs.lemmas.Grind.common_steps, proofs.lemmas.Option.slice_get_read}
use Rattle.rounds.specs.{Pages.bytes_of, Pages.bytes_in, Pages.said_from, declared.answer.Kind.Kind, declared.answer_list.Answers.Answers}
use Rattle.rounds.proofs.Pages.{no_bytes, bytes_till, said_long, said_at}
use Rattle.rounds.specs.declared.answer.Kind.TheVariants as kind
use Rattle.rounds.proofs.answer_list.Answers.next.Goals as goal

within : (answers : Answers) (i : ℕ) → i < length (said_from answers.page_bytes answers.kinds.items answers.pages.items) → i < length answers.kinds.items
within answers i low = subst (λ n. i < n) (said_long answers.page_bytes answers.kinds.items answers.pages.items) low

there : (answers : Answers) (i : ℕ) (k : Kind) → i < length (said_from answers.page_bytes answers.kinds.items answers.pages.items)
    → k ≡ get_or answers.kinds.items i k → slice_get answers.kinds.items i ≡ Some k
there answers i k low is = slice_get_read answers.kinds.items (length answers.kinds.items) i k refl (within answers i low) is

pub index-kind-requires : goal.index-kind-requires
index-kind-requires c = subst (λ n. c.args.cursor.now.line < n) (sym c.args.self.now.kinds.ok.0)
    (within c.args.self.now c.args.cursor.now.line c.requires.there)

pub returns-in_default : goal.returns-in_default
returns-in_default c =
    let answers = c.args.self.now in
    let n = answers.page_bytes in
    let i = c.args.cursor.now.line in
    let k = c.index-kind.result.now in
    let is = there answers i k c.requires.there c.index-kind.ensures in
    let none = no_bytes n k c.in_default.not-Page in
    let till = (bytes_till n answers.kinds.items i k is).0 in
    record {
      answer = said_at n answers.kinds.items answers.pages.items i k is
          ∙ ap (λ m. Some (record { kind = k; page = take m (drop (bytes_in n (take i answers.kinds.items)) answers.pages.items) })) none;
      place = refl;
      at = c.requires.at ∙ sym (till ∙ (ap (λ m. bytes_in n (take i answers.kinds.items) + m) none ∙ add-zero _));
    }

pub overflow_add-cursor : goal.overflow_add-cursor
overflow_add-cursor c =
    let answers = c.args.self.now in
    let low = within answers c.args.cursor.now.line c.requires.there in
    let ok = answers.kinds.ok.0 in
    let few = answers.kinds.ok.1 in
    let small = answers.kinds.small in omega arith

-- where the page of the answer ends
page_end : (answers : Answers) (i : ℕ) (k : Kind) (page : ℕ) → slice_get answers.kinds.items i ≡ Some k → k ≡ kind.Page
    → page ≡ bytes_in answers.page_bytes (take i answers.kinds.items)
    → (page + answers.page_bytes ≡ bytes_in answers.page_bytes (take (i + 1) answers.kinds.items)) × (page + answers.page_bytes ≤ length answers.pages.items)
page_end answers i k page is tells at =
    let n = answers.page_bytes in
    let till = bytes_till n answers.kinds.items i k is in
    let equal = till.0 in
    let below = till.1 in
    let size = ap (bytes_of n) tells in
    let whole = answers.whole in
    (omega (arith, equal, size), omega (arith, equal, below, size))

pub overflow_add-cursor-2 : goal.overflow_add-cursor-2
overflow_add-cursor-2 c =
    let answers = c.args.self.now in
    let i = c.args.cursor.now.line in
    let k = c.index-kind.result.now in
    let ends = (page_end answers i k c.args.cursor.now.page (there answers i k c.requires.there c.index-kind.ensures) c.in-Page.is c.requires.at).1 in
    let ok = answers.pages.ok.0 in
    let few = answers.pages.ok.1 in
    let small = answers.pages.small in omega arith

pub slice_bounds-result-end-2 : goal.slice_bounds-result-end-2
slice_bounds-result-end-2 c =
    let answers = c.args.self.now in
    let i = c.args.cursor.now.line in
    let k = c.index-kind.result.now in
    let ends = (page_end answers i k c.args.cursor.now.page (there answers i k c.requires.there c.index-kind.ensures) c.in-Page.is c.requires.at).1 in
    let lent = ap (length {A = ℕ}) c.deref.ensures.value in grind (arith, common_steps)

pub returns-clause-answer : goal.returns-clause-answer
returns-clause-answer c =
    let answers = c.args.self.now in
    let n = answers.page_bytes in
    let i = c.args.cursor.now.line in
    let k = c.index-kind.result.now in
    let page = c.args.cursor.now.page in
    let is = there answers i k c.requires.there c.index-kind.ensures in
    let size : page + n - page ≡ bytes_of n k = (let s = ap (bytes_of n) c.in-Page.is in omega (arith, s)) in
    said_at n answers.kinds.items answers.pages.items i k is
    ∙ (λ j. Some (record { kind = k; page = take (sym size j) (drop (sym c.requires.at j) (sym c.deref.ensures.value j)) }))

pub returns-clause-at : goal.returns-clause-at
returns-clause-at c =
    let answers = c.args.self.now in
    let i = c.args.cursor.now.line in
    let k = c.index-kind.result.now in
    (page_end answers i k c.args.cursor.now.page (there answers i k c.requires.there c.index-kind.ensures) c.in-Page.is c.requires.at).0
