use Rattle.std.proofs.Common.{◌≡◌, fold, take}
use Rattle.clap.specs.Words.{app_of}
use Rattle.player.specs.CommandLine.{versioned, with_number}
use Rattle.player.proofs.arguments.number_options.Given as goal

-- the command has the numbers so far
abbrev pub invariant-numbers : goal.invariant-numbers
invariant-numbers l = app_of l.command ≡ fold with_number versioned (take l.number-index l.number-items)
