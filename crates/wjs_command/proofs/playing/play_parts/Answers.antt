use Rattle.std.proofs.Common.{map as each}
use Rattle.wjs_io.specs.Streams.{over}
use Rattle.wjs_model.specs.Units.{unit_in}
use Rattle.wjs_command.specs.Plays.{OfPlay, PlayedAlone}
use Rattle.wjs_command.proofs.Played.{divided_comes, divided_alone, no_input_comes, no_input_alone}
use Rattle.wjs_command.proofs.Deliveries.{spent_comes, spent_alone}
use Rattle.wjs_command.proofs.playing.play_parts.Goals as goal

pub returns-in-Ok-clause-told : goal.returns-in-Ok-clause-told
returns-in-Ok-clause-told g c =
    let seen = g.O.Sink.seen in
    let loaded = c.in-Ok in
    let out = over seen c.args.out.now c.play_units.new.out in
    let trees = each (unit_in c.load_parts.new.texts) loaded.parts.items in
    divided_comes c.args.bytes.now trees c.args.budget c.args.turn out c.play_units.result loaded.ensures.ok c.play_units.ensures.told

pub returns-in-Ok-clause-alone : goal.returns-in-Ok-clause-alone
returns-in-Ok-clause-alone g c =
    let seen = g.O.Sink.seen in
    let loaded = c.in-Ok in
    let out = over seen c.args.out.now c.play_units.new.out in
    let trees = each (unit_in c.load_parts.new.texts) loaded.parts.items in
    divided_alone c.args.bytes.now trees c.args.budget c.args.turn out c.play_units.result loaded.ensures.ok c.play_units.ensures.alone

pub returns-in-Err-clause-told : goal.returns-in-Err-clause-told
returns-in-Err-clause-told g c =
    let held = (g.O.Sink.seen c.args.out.now).bytes in
    let faults = (g.O.Sink.seen c.args.out.now).faults in
    let loaded = c.in-Err in
    no_input_comes c.args.bytes.now loaded.fault c.args.budget c.args.turn held faults c.refuse_input.result loaded.ensures.err c.refuse_input.ensures

pub returns-in-Err-clause-alone : goal.returns-in-Err-clause-alone
returns-in-Err-clause-alone g c =
    let held = (g.O.Sink.seen c.args.out.now).bytes in
    let faults = (g.O.Sink.seen c.args.out.now).faults in
    no_input_alone (PlayedAlone c.args.budget c.args.bytes.now) held faults c.refuse_input.result c.in-Err.fault c.refuse_input.ensures

pub returns-in_err-texts-clause-told : goal.returns-in_err-texts-clause-told
returns-in_err-texts-clause-told g c =
    let seen = g.O.Sink.seen c.args.out.now in
    spent_comes (OfPlay c.args.budget c.args.turn c.args.bytes.now) seen.bytes seen.faults c.from_residual.result c.from_residual.ensures.1

pub returns-in_err-texts-clause-alone : goal.returns-in_err-texts-clause-alone
returns-in_err-texts-clause-alone g c =
    let seen = g.O.Sink.seen c.args.out.now in
    spent_alone (PlayedAlone c.args.budget c.args.bytes.now) seen.bytes seen.faults c.from_residual.result c.from_residual.ensures.1
