use Rattle.std.{proofs.Common.subst, specs.Str.Parse.ParsesUnsigned, specs.Str.Parse.ExplainsUnsignedError, specs.Str.Parse.HasUnsignedDigitsIfOk}
use Rattle.clap.{specs.Words.found_of, proofs.WalkLemmas.one_text-rows}
use Rattle.player.{specs.CommandLine.IsNumberRead, proofs.CommandLines.number_read}
use Rattle.player.proofs.arguments.number.Goals as goal

pub returns : goal.returns
returns c =
    subst (λ found. IsNumberRead found c.args.default c.unwrap_or.result)
    (one_text-rows (found_of c.args.matches.now) c.args.name.now)
    (number_read (λ bs r. ParsesUnsigned 32 10 bs r × ExplainsUnsignedError 10 bs r × HasUnsignedDigitsIfOk bs r)
    (λ t r reads. reads.0) _ c.args.default c.get_one.result c.unwrap_or.result c.get_one.ensures.none c.get_one.ensures.value c.unwrap_or.ensures)
