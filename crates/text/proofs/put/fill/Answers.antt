use Rattle.text.proofs.Numbers.{filled_one, filled_two, filled_three, filled_four}
use Rattle.text.proofs.put.fill.Goals.{then-number-lt10, else-number-lt10+then-number-lt100}
use Rattle.text.proofs.put.fill.Goals.{else-number-lt10+else-number-lt100+then-number-lt1000}
use Rattle.text.proofs.put.fill.Goals.{else-number-lt10+else-number-lt100+else-number-lt1000}
use Rattle.text.proofs.put.fill.Goals as goal

pub returns-clause-digits : goal.returns-clause-digits
returns-clause-digits c =
    elim c.if-number-lt10.branch [
      | then-number-lt10 w ↦ rw w.factor-is (filled_one c.args.number w.if-number-lt10.true)
      | else-number-lt10+then-number-lt100 w ↦ rw w.factor-is (filled_two c.args.number w.if-number-lt10.false w.if-number-lt100.true)
      | else-number-lt10+else-number-lt100+then-number-lt1000 w ↦ rw w.factor-is (filled_three c.args.number w.if-number-lt100.false w.if-number-lt1000.true)
      | else-number-lt10+else-number-lt100+else-number-lt1000 w ↦ rw w.factor-is (filled_four c.args.number w.if-number-lt1000.false c.requires)
    ]
