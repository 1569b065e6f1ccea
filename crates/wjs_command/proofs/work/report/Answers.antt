use Rattle.std.proofs.Common.{inr, refl}
use Rattle.wjs_io.proofs.Written.{stops_at}
use Rattle.wjs_command.proofs.work.report.Goals as goal

pub returns-in-Err : goal.returns-in-Err
returns-in-Err g c =
    let seen = g.E.Sink.seen in
    inr (
      refl,
      stops_at (seen c.args.err.now).bytes (seen c.write_all_of.new.sink).bytes (seen c.args.err.now).faults (seen c.write_all_of.new.sink).faults
          c.args.line.now c.in-Err._stopped.gone c.in-Err.ensures.few c.in-Err.ensures.gone c.in-Err.ensures.cause.rises,
    )
