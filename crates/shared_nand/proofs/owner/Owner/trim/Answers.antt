use Rattle.std.proofs.Common.{List, ℕ, subst, sym}
use Rattle.version_map.specs.Map.{history_published, map_sectors}
use Rattle.shared_nand.specs.Shown.{ShowsArray, with_trimmed, AreGivenBelow}
use Rattle.shared_nand.proofs.Histories.{shows_kept, shows_trim, given_cleared, given_later, at_error}
use Rattle.shared_nand.proofs.owner.Owner.trim.Goals as goal

pub returns-in_err-trim-clause-shows : goal.returns-in_err-trim-clause-shows
returns-in_err-trim-clause-shows g c array shows =
    let old = c.args.self.now in
    at_error _ _ c.from_residual.result c.from_residual.ensures.0
    (shows_kept (g.L.Layer.next_number old.layer) _ _ c.trim.ensures.keeps (history_published old.publisher) _ array old.given shows)

pub returns-clause-shows : goal.returns-clause-shows
returns-clause-shows g c array shows =
    let old = c.args.self.now in
    let history = history_published old.publisher in
    let bytes = g.L.Layer.bytes_of c.trim.new.self in
    let kept = shows_kept (g.L.Layer.next_number old.layer) _ bytes c.trim.ensures.keeps history _ array old.given shows in
    subst (λ (h : List (ℕ × ℕ)). ShowsArray (map_sectors c.args.map.now) bytes h (with_trimmed array c.args.first c.args.count)) (sym c.clear.ensures.cleared)
    (shows_trim bytes history _ array c.args.first c.args.count kept)

pub invariant_of-self-2 : goal.invariant_of-self-2
invariant_of-self-2 g c =
    let old = c.args.self.now in
    let history = history_published old.publisher in
    let next = g.L.Layer.next_number c.trim.new.self in record {
      given = subst (λ (h : List (ℕ × ℕ)). AreGivenBelow next h) (sym c.clear.ensures.cleared)
          (given_cleared next history c.args.first c.args.count (given_later _ next history c.trim.ensures.next old.given));
    }
