use Rattle.std.proofs.Common.{◌≡◌, ◌∙◌, ℕ, ◌<◌, ◌≤◌, List, length, replicate, get_or, ap, sym, arith, rules}
use Rattle.std.proofs.{lemmas.List.get_or_past, lemmas.List.get_or_read}
use Rattle.geometry.specs.Geometry.{blocks_of, page_bytes_of}
use Rattle.die.specs.{declared.die.BlockState.BlockState, declared.die.Die.Die, Die.block_of, Pages.Page, Pages.page_at, Pages.erased_page}
use Rattle.die.specs.Storage.{slot}
use Rattle.die.{specs.Storage.stored, proofs.Dies.state_read, proofs.Dies.length-block, proofs.Dies.pages_within, proofs.Dies.page-stored}
use Rattle.die.proofs.die.Die.read.Goals as goal
use Rattle.die.proofs.die.Die.read.Goals.{After-index, After-get_page}

-- the state that was read counts the block's pages
the_next : (d : Die) (b : ℕ) (s : BlockState) → b < blocks_of d.geometry → s ≡ get_or d.states.items b s → s.next ≡ length (block_of d b).pages
the_next d b s within is = ap (λ (t : BlockState). t.next) (state_read d b s within is) ∙ sym (length-block d b)

-- past the programmed pages a read shows ones
shown : (c : After-index) → c.index.result.now.next ≤ c.args.at.page
    → page_at (page_bytes_of c.args.self.now.geometry) (block_of c.args.self.now c.args.at.block) c.args.at.page
    ≡ erased_page (page_bytes_of c.args.self.now.geometry)
shown c past = get_or_past (block_of c.args.self.now c.args.at.block).pages c.args.at.page (erased_page (page_bytes_of c.args.self.now.geometry))
    (omega (arith, the_next c.args.self.now c.args.at.block c.index.result.now c.requires.usable.within c.index.ensures))

pub returns-then-at-index-clause-value : goal.returns-then-at-index-clause-value
returns-then-at-index-clause-value c =
    let n = page_bytes_of c.args.self.now.geometry in
    c.fill.ensures.after (λ y h. search rules)
    ∙ (ap (λ (k : ℕ). replicate k 255) c.requires.room
    ∙ ap (λ (p : Page). p.value) (sym (shown (goal.at.returns-then-at-index-clause-value c).After-index c.if-at-index.true)))

pub returns-then-at-index-clause-stamp : goal.returns-then-at-index-clause-stamp
returns-then-at-index-clause-stamp c =
    ap (λ (p : Page). p.stamp) (sym (shown (goal.at.returns-then-at-index-clause-stamp c).After-index c.if-at-index.true))

pub place_of-place-requires-clause-page : goal.place_of-place-requires-clause-page
place_of-place-requires-clause-page c =
    omega (
      arith,
      the_next c.args.self.now c.args.at.block c.index.result.now c.requires.usable.within c.index.ensures,
      pages_within c.args.self.now c.args.at.block c.requires.usable.within,
    )

-- the page that is read, as the storage has it
the_page : (c : After-get_page)
    → page_at (page_bytes_of c.args.self.now.geometry) (block_of c.args.self.now c.args.at.block) c.args.at.page
    ≡ stored (page_bytes_of c.args.self.now.geometry) c.args.self.now.bytes.items c.args.self.now.stamps.items c.place_of-place.result
the_page c =
    let d = c.args.self.now in
    let within : c.args.at.page < length (block_of d c.args.at.block).pages =
    omega (arith, the_next d c.args.at.block c.index.result.now c.requires.usable.within c.index.ensures) in
    page-stored d c.args.at.block c.args.at.page within
    ∙ ap (λ (k : ℕ). stored (page_bytes_of d.geometry) d.bytes.items d.stamps.items k) (sym c.place_of-place.ensures.value)

pub returns-clause-value : goal.returns-clause-value
unfolding stored
returns-clause-value c =
    let at_end = (goal.at.returns-clause-value c).After-get_page in
    let d = c.args.self.now in
    c.get_page.ensures
    ∙ (ap (λ (n : ℕ). slot n c.deref.result.now c.place_of-place.result) c.requires.room
    ∙ (ap (λ (xs : List ℕ). slot (page_bytes_of d.geometry) xs c.place_of-place.result) c.deref.ensures.value
    ∙ ap (λ (p : Page). p.value) (sym (the_page at_end))))

pub returns-clause-stamp : goal.returns-clause-stamp
unfolding stored
returns-clause-stamp c =
    let at_end = (goal.at.returns-clause-stamp c).After-get_page in
    let d = c.args.self.now in
    c.from.ensures ∙ (get_or_read d.stamps.items c.place_of-place.result c.index-2.result.now
    (omega (arith, c.place_of-place.ensures.within, d.stamps_sized)) c.index-2.ensures 0
    ∙ ap (λ (p : Page). p.stamp) (sym (the_page at_end)))
