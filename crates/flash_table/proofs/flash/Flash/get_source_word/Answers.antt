use Rattle.flash_table.proofs.{Permissions.of_broom, BroomSteps.source_here}
use Rattle.std.proofs.Common.{◌+◌, ◌<◌, ap, sym, ◌∙◌, subst}
use Rattle.geometry.specs.{Words.page_index, declared.words.MapWord.MapWord}
use Rattle.flash_rule.specs.{declared.facts.Source.Source}
use Rattle.flash_table.specs.Flash.{device}
use Rattle.flash_table.proofs.BroomResults.{source_same, source_value}
use Rattle.flash_table.proofs.flash.Flash.get_source_word.Goals as goal

pub load-requires : goal.load-requires
load-requires c =
    let f = c.args.self.now in
    let t = c.requires.source in
    source_here (of_broom c.requires.broom) t.0 c.args.i (subst (λ (p : MapWord). p.block < (device f).blocks) (sym t.2) c.requires.block)
    (subst (λ (p : MapWord). p.page < (device f).pages) (sym t.2) c.requires.page) c.requires.word
    (ap (λ n. n + c.args.i) c.requires.start ∙ (λ j. page_index (device f) (sym t.2 j).block (sym t.2 j).page + c.args.i)) t.1

pub returns-clause-value : goal.returns-clause-value
returns-clause-value c x value is live =
    let t = c.requires.source in
    source_value c.requires.broom c.args.i c.args.page x value is
    (ap (λ (y : Source). y.page) (source_same is t.1) ∙ t.2) live c.requires.word (ap (λ n. n + c.args.i) c.requires.start) c.load.ensures.2
