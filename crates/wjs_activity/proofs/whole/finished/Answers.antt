use Rattle.std.specs.Prelude.{map as each}
use Rattle.wjs_io.specs.Streams.{over}
use Rattle.wjs_activity.specs.Plays.{turn_in}
use Rattle.wjs_activity.proofs.Closing.{closes, halts_among}
use Rattle.wjs_activity.proofs.Composed.{goes_on, few_activities}
use Rattle.wjs_activity.proofs.whole.finished.Goals as goal

pub close-requires : goal.close-requires
close-requires g c =
    let seen = g.O.Sink.seen in
    let before = c.args.out.now in
    let middle = c.all_turns.new.out in
    few_activities c.args.rules c.in-Ok.next (goes_on c.args.rules
    (over seen before middle) _ c.args.play c.in-Ok.next c.requires.going c.in-Ok.ensures.ok)

pub returns-in-Ok : goal.returns-in-Ok
returns-in-Ok g c = λ library parts first begins.
    let seen = g.O.Sink.seen in
    let before = c.args.out.now in
    let middle = c.all_turns.new.out in
    let after = c.close.new.out in
    closes c.args.rules library parts first (each turn_in c.args.schedule.now) c.args.turn c.args.play begins (seen before).bytes (seen middle).bytes
    (seen after).bytes (seen before).faults (seen middle).faults (seen after).faults c.all_turns.ensures.never_falls
    c.in-Ok.next c.in-Ok.ensures.ok c.in-Ok.ensures.ended c.close.result c.close.ensures

pub returns-in-Err : goal.returns-in-Err
returns-in-Err g c = λ library parts first begins.
    let seen = g.O.Sink.seen in
    let before = c.args.out.now in
    let after = c.all_turns.new.out in
    halts_among c.args.rules library parts first (each turn_in c.args.schedule.now) c.args.turn c.args.play begins
    (over seen before after) c.in-Err.halt c.in-Err.ensures.err
