use Rattle.std.proofs.Common.{refl, ap, arith}
use Rattle.flash_rule.specs.declared.view.View.{View}
use Rattle.laws.proofs.plays.steps_of_passes.Goals as goal

pub returns-clause-write : goal.returns-clause-write
returns-clause-write c st me after n m x h role first fits can = (h.0, ap (λ (v : View). v.mine) (h.1 2 m x role first fits can).changed)

pub returns-clause-new : goal.returns-clause-new
returns-clause-new c st me after n m x h role first second fits can = (h.0, ap (λ (v : View). v.mine) (h.1 2 m x role first second fits can).changed)

pub returns-clause-trim : goal.returns-clause-trim
returns-clause-trim c st me after n h role = (h.0, ap (λ (v : View). v.mine) (h.1 2 role).changed)

pub returns-clause-take : goal.returns-clause-take
returns-clause-take c st me after h low word = (h.0, omega (arith, (h.1 3 low word).young))

pub returns-clause-count : goal.returns-clause-count
returns-clause-count c st me after n o k h can word = (h.0, ap (λ (v : View). v.programs) (h.1 o k can word), ap (λ (v : View). v.owns) (h.1 o k can word))

pub returns-clause-pin : goal.returns-clause-pin
returns-clause-pin c st me after n m x h is word =
    (h.0, ap (λ (v : View). v.owns) (h.1 m x is word).changed, ap (λ (v : View). v.seen) (h.1 m x is word).changed)

pub returns-clause-unpin : goal.returns-clause-unpin
returns-clause-unpin c st me after n h is word = (h.0, ap (λ (v : View). v.pin) (h.1 3 (rw is refl) word))
