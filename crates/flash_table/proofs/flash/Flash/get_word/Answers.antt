use Rattle.std.proofs.Common.{◌≡◌, ◌+◌, ℕ, ap}
use Rattle.geometry.specs.{Geometry.numbers_of, Words.page_index, declared.words.MapWord.MapWord}
use Rattle.flash_table.specs.{declared.flash.Flash.Flash, Flash.geometry_of}
use Rattle.flash_table.proofs.{Permissions.of_pass, PassSteps.get_here, PassResults.get_value}
use Rattle.flash_table.proofs.flash.Flash.get_word.Goals as goal

-- the word's place, by the place at which the page's words begin
word_place : (f : Flash) (page : MapWord) (start i : ℕ) → start ≡ page_index (numbers_of (geometry_of f)) page.block page.page
    → start + i ≡ page_index (numbers_of (geometry_of f)) page.block page.page + i
word_place f page start i = ap (λ n. n + i)

pub load-requires : goal.load-requires
load-requires c =
    get_here (of_pass c.requires.pass) c.args.page c.args.i c.requires.block c.requires.page c.requires.word
    (word_place c.args.self.now c.args.page c.args.start c.args.i c.requires.start) c.requires.pinned

pub returns-clause-value : goal.returns-clause-value
returns-clause-value c value pin =
    let at = word_place c.args.self.now c.args.page c.args.start c.args.i c.requires.start in
    get_value c.requires.pass (c.args.start + c.args.i) c.args.i c.args.page value pin c.requires.word at c.load.ensures.2

pub returns-clause-spared : goal.returns-clause-spared
returns-clause-spared c value carried pin copy = c.load.ensures.2.2 c.args.page value carried pin copy
