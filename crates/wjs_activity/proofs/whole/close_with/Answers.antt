use Rattle.std.proofs.Common.{refl, subst}
use Rattle.wjs_io.specs.Streams.{over, Got, Stops}
use Rattle.wjs_activity.proofs.whole.close_with.Goals as goal

pub returns-in-Ok : goal.returns-in-Ok
returns-in-Ok g c =
    let seen = g.O.Sink.seen in
    let first = c.args.out.now in
    let after = c.write_pieces.new.out in
    (refl, refl, subst (Got (over seen first after)) c.as_slice.ensures.value c.in-Ok.ensures.ok)

pub returns : goal.returns
returns g c =
    let seen = g.O.Sink.seen in
    let first = c.args.out.now in
    let after = c.write_pieces.new.out in
    subst (Stops (over seen first after)) c.as_slice.ensures.value c.in-Err.ensures.err
