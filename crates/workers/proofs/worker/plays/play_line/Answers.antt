use Rattle.std.proofs.Common.{◌≡◌, sym, ap, subst}
use Rattle.geometry.specs.{Sectors.Answers, Geometry.sectors_of, History.held, Limits.Numbers}
use Rattle.flash_table.specs.Flash.{view_of, geometry_of}
use Rattle.trace.specs.declared.commands.Op.{Op}
use Rattle.volume.specs.Volume.{flash_of}
use Rattle.rounds.specs.Lines.{is_full}
use Rattle.workers.specs.Playable.{PlayedLine}
use Rattle.workers.proofs.OneLine.{read_line, trim_line}
use Rattle.workers.proofs.worker.plays.play_line.Goals as goal

pub returns-in-Read-clause-played : goal.returns-in-Read-clause-played
returns-in-Read-clause-played g c t role =
    let v = view_of c.args.pass.now in
    let w = view_of c.read_gated.new.pass in
    let line = c.args.line.now in
    let n : v.numbers.sectors ≡ sectors_of (geometry_of (flash_of c.args.volume.now)) = ap (λ (z : Numbers). z.sectors) c.requires.pass.rested.pass.numbers in
    let answer = subst (λ k. Answers (held k w.seen line.sector) c.read_gated.result.got c.args.page.now c.read_gated.new.out)
    (sym n) c.read_gated.ensures.answer in
    let played = read_line t c.args.patience v line.sector c.read_gated.result.tries line.page c.args.page.now c.read_gated.new.out
    c.read_gated.result.got c.found.result w c.read_gated.ensures.searched answer c.found.ensures in
    subst (λ (o : Op). PlayedLine t c.args.patience v o line.sector line.page c.found.result c.read_gated.new.out (is_full c.found.result) w)
    (sym c.in-Read.is) played

pub returns-in-Trim-clause-played : goal.returns-in-Trim-clause-played
returns-in-Trim-clause-played g c t role =
    let line = c.args.line.now in
    let kind = c.of_was.result in
    let played = trim_line t c.args.patience (view_of c.args.pass.now) line.sector line.page c.args.page.now c.trim.result kind
    (view_of c.trim.new.pass) (c.trim.ensures.called t role) c.of_was.ensures in
    subst (λ (o : Op). PlayedLine t c.args.patience (view_of c.args.pass.now) o line.sector line.page kind c.args.page.now (is_full kind)
    (view_of c.trim.new.pass)) (sym c.in-Trim.is) played
