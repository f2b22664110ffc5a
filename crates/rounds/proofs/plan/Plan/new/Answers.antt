use Rattle.std.proofs.Common.{◌≡◌, ℕ, ◌+◌, ◌<◌, [], ◌∷◌, ◌++◌, true, false, map, take, ap, sym, ◌∙◌, arith}
use Rattle.std.{proofs.lemmas.Grind.common_steps, specs.Prelude.Vec, specs.Global.Global, proofs.lemmas.List.length-map}
use Rattle.trace.specs.declared.commands.Command.{Command}
use Rattle.rounds.specs.{Merging.is_meet, Plans.items_of}
use Rattle.rounds.proofs.Planning.{rows_begin, rows_meet, row_grown, is_line, meeting_more, no_meeting_more, at_place, commands_more, row_there}
use Rattle.rounds.proofs.plan.Plan.new.Goals as goal
use Rattle.rounds.proofs.plan.Plan.new.Goals.{in-Meet+in_ok-push-in-Meet, in_default+in_ok-push-in_default}

pub loop-i-init : goal.loop-i-init
loop-i-init c = record { places = c.in_ok-places.ensures ∙ rows_begin c.args.hosts; ends = c.new-ends.ensures.items }

pub index_mut-requires : goal.index_mut-requires
index_mut-requires c =
    let w = c.command-command.result.worker in
    let low = at_place (λ (d : Command). d.worker < c.args.hosts) c.args.commands.now c.loop-i.i c.command-command.result c.requires
    c.command-command.ensures.at in
    row_there c.args.hosts c.loop-i.places.len w (map items_of c.loop-i.places.items) (take c.loop-i.i c.args.commands.now) c.loop-i.invariant.places
    (c.loop-i.places.ok.0 ∙ sym (length-map c.loop-i.places.items items_of)) low

pub loop-i-preserved : goal.loop-i-preserved
loop-i-preserved c =
    let hosts = c.args.hosts in
    let commands = c.args.commands.now in
    let i = c.loop-i.i in
    let command = c.command-command.result in
    let more = commands_more commands i command c.command-command.ensures.at in
    elim c.match-command.branch [
      | in-Meet+in_ok-push-in-Meet w ↦
          let meet : is_meet command.op ≡ true = ap is_meet w.in-Meet.is in
          record {
            places = ap (λ (v : Vec (Vec ℕ Global) Global). map items_of v.items) w.places-is
                ∙ (c.loop-i.invariant.places ∙ rows_meet hosts (take i commands) (take (i + 1) commands) command more.0 meet);
            ends =
                ap (λ (v : Vec ℕ Global). v.items) w.ends-is
                ∙ (w.in_ok-push-in-Meet.ensures.items
                ∙ (ap (λ l. l ++ i ∷ []) c.loop-i.invariant.ends
                ∙ sym (meeting_more i (take i commands) (take (i + 1) commands) command more.0 more.1 meet)));
          }
      | in_default+in_ok-push-in_default w ↦
          let plain : is_meet command.op ≡ false = is_line command.op w.in_default.not-Meet in
          let low = at_place (λ (d : Command). d.worker < hosts) commands i command c.requires c.command-command.ensures.at in
          record {
            places =
                ap (λ (v : Vec (Vec ℕ Global) Global). map items_of v.items) w.places-is
                ∙ row_grown hosts i c.loop-i.places.items w.index_mut.result.now w.push-in_default.new.self (take i commands)
                (take (i + 1) commands) command c.loop-i.invariant.places more.0 more.1 plain low w.index_mut.ensures.value
                w.in_ok-push-in_default.ensures.items;
            ends =
                ap (λ (v : Vec ℕ Global). v.items) w.ends-is
                ∙ (c.loop-i.invariant.ends ∙ sym (no_meeting_more (take i commands) (take (i + 1) commands) command more.0 plain));
          }
    ]

pub returns-clause-ends : goal.returns-clause-ends
returns-clause-ends c = grind (arith, common_steps)
