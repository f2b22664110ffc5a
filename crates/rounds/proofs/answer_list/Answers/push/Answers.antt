use Rattle.std.proofs.Common.{ℕ, ◌+◌, List, [], ◌∷◌, ◌++◌, length, take, sym, ap, ◌∙◌, arith, append-nil, length-append, refl}
use Rattle.std.{proofs.lemmas.List.length_push, specs.Prelude.if◌then◌else◌, specs.Prelude.◌≤◌}
use Rattle.rounds.specs.{Pages.bytes_of, Pages.bytes_in, Pages.said_from, declared.answer.Kind.Kind}
use Rattle.rounds.proofs.Pages.{no_bytes, bytes_more, said_more}
use Rattle.rounds.proofs.answer_list.Answers.push.Goals as goal

pub invariant_of-self : goal.invariant_of-self
invariant_of-self c =
    let old = c.args.self.now in
    let n = old.page_bytes in
    let k = c.args.kind in
    let space = c.requires.space.pages in
    let size = ap (bytes_of n) c.in-Page.is in
    let page = c.requires.page c.in-Page.is in
    let long = old.pages.ok.0 in
    let room : old.pages.len + length c.args.page.now ≤ old.pages.cap = omega arith in
    let done = c.extend_from_slice.ensures.succeeds room in
    let pages = c.extend_from_slice.ensures.items ∙ ap (λ b. if b then old.pages.items ++ c.args.page.now else old.pages.items) done in
    let kinds = ap (bytes_in n) c.push_reserved.ensures.items ∙ bytes_more n old.kinds.items k in
    let whole = old.whole in
    let more = ap (length {A = ℕ}) pages ∙ length-append old.pages.items c.args.page.now in
    record { whole = omega (arith, kinds) }

pub invariant_of-self-in_default : goal.invariant_of-self-in_default
invariant_of-self-in_default c =
    let old = c.args.self.now in
    let n = old.page_bytes in
    let k = c.args.kind in
    let none = no_bytes n k c.in_default.not-Page in
    let kinds = ap (bytes_in n) c.push_reserved.ensures.items ∙ bytes_more n old.kinds.items k in
    let whole = old.whole in
    record { whole = omega (arith, kinds, none, whole) }

pub returns-in-Ok-clause-more : goal.returns-in-Ok-clause-more
returns-in-Ok-clause-more c =
    let old = c.args.self.now in
    let n = old.page_bytes in
    let k = c.args.kind in
    (λ i. said_from n (c.push_reserved.ensures.items i) (c.in-Ok.ensures.items i)) ∙ said_more n old.kinds.items old.pages.items k c.args.page.now old.whole

pub returns-in_default : goal.returns-in_default
returns-in_default c =
    let old = c.args.self.now in
    let n = old.page_bytes in
    let k = c.args.kind in
    let none = no_bytes n k c.in_default.not-Page in
    let nothing : List ℕ = [] in
    let more = said_more n old.kinds.items old.pages.items k nothing old.whole in
    record {
      more =
          (λ i. said_from n (c.push_reserved.ensures.items i) (sym (append-nil old.pages.items) i))
          ∙ (more ∙ (λ i. said_from n old.kinds.items old.pages.items ++ record { kind = k; page = take (none i) nothing } ∷ [])
          ∙ (λ i. said_from n old.kinds.items old.pages.items ++ record { kind = k; page = take (sym none i) c.args.page.now } ∷ []));
      page = refl;
      space = λ a b space. record {
        kinds = (let room = space.kinds in let long = ap (length {A = Kind}) c.push_reserved.ensures.items in
            let cap = c.push_reserved.ensures.capacity in omega (arith, length_push old.kinds.items k));
        pages = (let room = space.pages in omega (arith, none));
      };
    }
