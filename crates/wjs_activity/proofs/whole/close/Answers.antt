use Rattle.wjs_io.specs.Streams.{over}
use Rattle.wjs_io.proofs.Written.{Appends-nil}
use Rattle.wjs_activity.proofs.Closing.{closes_with}
use Rattle.wjs_activity.proofs.whole.close.Goals as goal

pub returns-in-Ok : goal.returns-in-Ok
returns-in-Ok g c =
    let seen = g.O.Sink.seen in
    let first = c.args.out.now in
    let after = c.close_with.new.out in
    closes_with (over seen first after) c.args.play c.in-Ok.bytes.items c.close_with.result c.in-Ok.ensures c.close_with.ensures

pub returns-in-Err : goal.returns-in-Err
returns-in-Err g c = Appends-nil (g.O.Sink.seen c.args.out.now).bytes
