use Rattle.durable.proofs.Known.{known}
use Rattle.durable.proofs.memory.Core.choose.Goals as goal

pub returns-in_default : goal.returns-in_default
returns-in_default c =
    let core = c.args.self.now in
    record {
      next = known core.blocks core.pages core.map.items core.next_pages core.left core.next_number core.chosen core.is_next;
      progress = λ more. c.in_default.not-Refused;
    }
