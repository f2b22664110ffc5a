use Rattle.std.proofs.Common.{◌∙◌}
use Rattle.durable.specs.Candidates.{candidates_of}
use Rattle.durable.proofs.Founds.{candidates_none}
use Rattle.durable.proofs.found.Found.new.Goals as goal

pub returns : goal.returns
returns c = (λ i. candidates_of (c.in_ok-new.ensures i) (c.in_ok-new-2.ensures i) (c.in_ok-new-3.ensures i)) ∙ candidates_none c.args.sectors
