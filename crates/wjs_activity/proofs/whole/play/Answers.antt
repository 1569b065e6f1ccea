use Rattle.std.specs.Prelude.{map as each}
use Rattle.std.specs.Option.{option_map}
use Rattle.wjs_io.specs.Streams.{over}
use Rattle.wjs_model.specs.Units.{unit_in}
use Rattle.wjs_activity.specs.Plays.{turn_in}
use Rattle.wjs_activity.proofs.whole.play.Goals as goal

pub returns-in-Ok : goal.returns-in-Ok
returns-in-Ok g c = c.in-Ok.ensures

pub returns-in-Err : goal.returns-in-Err
returns-in-Err g c =
    let t = c.args.texts in
    let first = c.args.out.now in
    let after = c.play_out.new.out in
    c.halted.ensures (option_map (unit_in t) c.args.library) (each (unit_in t) c.args.parts.items) c.args.budget
    (each turn_in c.args.schedule.now) c.args.turn (over g.O.Sink.seen first after) c.in-Err.ensures
