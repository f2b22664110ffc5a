-- The commands of a trace, one after another.
use Rattle.std.specs.Prelude.{List, drop}
use Rattle.trace.specs.declared.commands.{Command.Command, CommandIter.CommandIter}

-- the commands that an iterator has left
abbrev pub commands_left : CommandIter → List Command
commands_left it = drop it.next it.commands.now
