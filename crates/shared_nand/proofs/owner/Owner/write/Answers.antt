use Rattle.std.proofs.Common.{List, ℕ, ap, subst, sym, ◌∙◌, Some}
use Rattle.version_map.specs.Map.{history_published, map_sectors}
use Rattle.shared_nand.specs.Shown.{ShowsArray, with_value}
use Rattle.shared_nand.proofs.Histories.{shows_kept, shows_change, value_some}
use Rattle.shared_nand.proofs.owner.Owner.write.Goals as goal

pub returns-in-Err-clause-shows : goal.returns-in-Err-clause-shows
returns-in-Err-clause-shows g c array shows =
    let old = c.args.self.now in
    shows_kept (g.L.Layer.next_number old.layer) _ _ c.write.ensures.keeps (history_published old.publisher) _ array old.given shows

pub returns-in-Ok-publish-clause-shows : goal.returns-in-Ok-publish-clause-shows
returns-in-Ok-publish-clause-shows g c array shows =
    let old = c.args.self.now in
    let history = history_published old.publisher in
    let bytes = g.L.Layer.bytes_of c.write.new.self in
    let number = c.in-Ok.place.number in
    let made = c.in-Ok.ensures in
    let kept = shows_kept (g.L.Layer.next_number old.layer) _ bytes c.write.ensures.keeps history _ array old.given shows in
    let value = value_some bytes number made.given.0 ∙ ap Some made.programmed in
    let after = with_value array c.args.sector (Some c.args.bytes.now) in
    subst (λ (h : List (ℕ × ℕ)). ShowsArray (map_sectors c.args.map.now) bytes h after) (sym c.in-Ok-publish.ensures.published)
    (shows_change bytes history _ array c.args.sector number (Some c.args.bytes.now) value kept)

pub returns-in-Err-publish-clause-shows : goal.returns-in-Err-publish-clause-shows
returns-in-Err-publish-clause-shows g c array shows =
    let old = c.args.self.now in
    let history = history_published old.publisher in
    let bytes = g.L.Layer.bytes_of c.write.new.self in
    subst (λ (h : List (ℕ × ℕ)). ShowsArray (map_sectors c.args.map.now) bytes h array) (sym c.in-Err-publish.ensures.published)
    (shows_kept (g.L.Layer.next_number old.layer) _ bytes c.write.ensures.keeps history _ array old.given shows)
