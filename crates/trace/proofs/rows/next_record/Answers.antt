use Rattle.trace.proofs.Fields.{takes_next}
use Rattle.trace.proofs.rows.next_record.Goals as goal

pub returns : goal.returns
returns c = takes_next c.read_byte_record.result c.args.rows.now c.read_byte_record.new.self _ c.requires
    (c.read_byte_record.ensures.ready c.requires.plain) c.read_byte_record.ensures.reads
