use Rattle.std.{specs.List.All, proofs.lemmas.Result.IfOk-weaker}
use Rattle.trace.specs.Trace.{AreCommands, checked}
use Rattle.answers.{specs.Answers.IsPlayable, proofs.Playable.commands_are_playable}
use Rattle.answers.proofs.reading.read_commands.Goals as goal

pub returns-clause-playable : goal.returns-clause-playable
returns-clause-playable g c =
    let geo = c.args.geometry.now in
    let text = c.in_ok-text.text.items in
    IfOk-weaker c.parse_owned.result (AreCommands (checked geo text)) (All (IsPlayable geo)) (commands_are_playable geo text) c.parse_owned.ensures.each
