use Rattle.flash_rule.specs.World.{sector_word}
use Rattle.shared_acceptance.proofs.Rested.{rested_looked}
use Rattle.shared_acceptance.proofs.models.words.map_word.Goals as goal

pub returns-in-Some : goal.returns-in-Some
returns-in-Some c = rested_looked c.args.flash.now c.args.seat.now c.broom_look.new.broom c.requires.seat c.broom_look.ensures.broom
    c.broom_look.ensures.blocks c.args.sector (sector_word c.broom_look.result) c.broom_look.ensures.named

pub returns-in-None : goal.returns-in-None
returns-in-None c = rested_looked c.args.flash.now c.args.seat.now c.broom_look.new.broom c.requires.seat c.broom_look.ensures.broom
    c.broom_look.ensures.blocks c.args.sector (sector_word c.broom_look.result) c.broom_look.ensures.named
